-- Members without a redefinition have no effective name: the second tier is what the redefining members give.
use Rattle.std.proofs.Common.{◌≡◌, ℕ, ◌+◌, true, false, List, [], ◌∷◌, ◌++◌, get_or, drop, append-nil, refl, sym, ◌∙◌, ap, subst, inl, inr, arith}
use Rattle.std.specs.Prelude.{zero, suc, not, ◌⊎◌, nat_eq, ◌&&◌, ◌^◌, ◌-◌, slice_get, None, Some}
use Rattle.std.specs.List.{flat_map}
use Rattle.linker_base.specs.Members.{IsMember}
use Rattle.linker_base.proofs.Cases.{bool_cases}
use Rattle.linker_base.proofs.MemberLaws.{member_left, member_right, member_cases}
use Rattle.demand_core.specs.Computation.{Asked, done, then_step, join_step, joined}
use Rattle.demand_core.specs.Rules.{WaitsOn}
use Rattle.demand_core.specs.Search.{Part, Finds, Awaits, LooksAt, Has, MayHave, Shows, Admits, Trail, IsKnown}
use Rattle.demand_core.proofs.LoopLaws.{join_first}
use Rattle.link_walk.specs.Gained.{Gained}
use Rattle.demand_core.specs.declared.step.Step.TheVariants.{Done}
use Rattle.demand_core.specs.declared.looks.Fact.{Fact}
use Rattle.demand_core.specs.declared.looks.Fact.TheVariants.{Outer}
use Rattle.element_store.specs.declared.numbers.FileNo.{FileNo}
use Rattle.element_store.specs.declared.numbers.ElementNo.{ElementNo}
use Rattle.element_store.specs.declared.records.Element.{Element}
use Rattle.element_store.specs.declared.records.Member.{Member}
use Rattle.element_store.specs.declared.records.Target.{Target}
use Rattle.element_store.specs.declared.records.Target.TheVariants.{Owned, Alias}
use Rattle.element_store.specs.Model.{Data, root_element}
use Rattle.element_store.specs.Numbers.{numbers_from}
use Rattle.element_store.specs.Condition.{IsModel, Owning, owning, owned_from, members_of}
use Rattle.element_store.specs.Readings.{is_any, redefinitions_in, is_redefining, redefining_of}
use Rattle.link_model.specs.declared.keys.LinkKey.{LinkKey}
use Rattle.link_model.specs.declared.keys.LinkFact.{LinkFact}
use Rattle.link_model.specs.declared.keys.LinkFact.TheVariants.{File}
use Rattle.link_model.specs.declared.keys.Hit.{Hit}
use Rattle.element_store.specs.declared.outcome.Outcome.{Outcome}
use Rattle.element_store.specs.declared.models.StoredFile.{StoredFile}
use Rattle.link_model.specs.Outside.{model_in}
use Rattle.link_model.specs.Readers.{is_nil, is_named, only_if}
use Rattle.link_model.specs.Names.{declared_names, names, hit_named}
use Rattle.link_walk.specs.Calls.{reading}
use Rattle.owned_names.specs.Walked.{first_in, own_names, effective_part}
use Rattle.owned_names.proofs.WayLaws.{step_none}

-- ---- an owned element has the names of its member

owning_of : (m : Member) (c : ℕ) (t : Target) → t ≡ Owned c → owning t m ≡ record { element = c; owner = Some m.owner; short = m.short; name = m.name } ∷ []
owning_of m c t is = rw is refl

owning_among : (ms : List Member) (k : ℕ) (m : Member) (c : ℕ) → slice_get ms k ≡ Some m → m.target ≡ Owned c
    → IsMember (flat_map (λ m. owning m.target m) ms) (record { element = c; owner = Some m.owner; short = m.short; name = m.name })
owning_among [] k m c at is = cc
owning_among (x ∷ ms) zero m c at is =
    let same : x ≡ m = cc in
    let own : Owning = record { element = c; owner = Some m.owner; short = m.short; name = m.name } in
    member_left (owning x.target x) (flat_map (λ m. owning m.target m) ms) own
    (subst (λ os. IsMember os own) (sym (ap (λ (y : Member). owning y.target y) same ∙ owning_of m c m.target is)) (inl refl))
owning_among (x ∷ ms) (suc k) m c at is = member_right (owning x.target x) (flat_map (λ m. owning m.target m) ms) _ (owning_among ms k m c at is)

owned_back : (n : ℕ) (es : List Element) (o : Owning) → IsMember (owned_from n es) o
    → (j : ℕ) × (x : Element) × (o.element ≡ n + j) × (slice_get es j ≡ Some x) × (x.short ≡ o.short) × (x.name ≡ o.name)
owned_back n [] o among = absurd among
owned_back n (e ∷ es) o (inl is) = (
  0,
  e,
  (let same : n ≡ o.element = ap (λ (p : Owning). p.element) is in omega (arith, same)),
  refl,
  ap (λ
      (p : Owning). p.short) is,
  ap (λ (p : Owning). p.name) is,
)
owned_back n (e ∷ es) o (inr more) = let r = owned_back (suc n) es o more in (suc r.0, r.1, omega (arith, r.2), r.3, r.4, r.5)

after_root : (es : List Element) (j : ℕ) (x : Element) → slice_get (drop 1 es) j ≡ Some x → get_or es (suc j) root_element ≡ x
after_root [] j x at = cc
after_root (e ∷ es) j x at = there es j at
  where
    there : (es : List Element) (j : ℕ) → slice_get es j ≡ Some x → get_or es j root_element ≡ x
    there [] j at = cc
    there (y ∷ es) zero at = cc
    there (y ∷ es) (suc j) at = there es j at

pub owned_names_are : (d : Data) → IsModel d → (k : ℕ) (m : Member) (c : ℕ) → slice_get d.members k ≡ Some m → m.target ≡ Owned c
    → declared_names (get_or d.elements c root_element).short (get_or d.elements c root_element).name ≡ declared_names m.short m.name
owned_names_are d model k m c at is =
    let own : Owning = record { element = c; owner = Some m.owner; short = m.short; name = m.name } in
    let back = owned_back 1 (drop 1 d.elements) own (subst (λ os. IsMember os own) model.owned (owning_among d.members k m c at is)) in
    let place : suc back.0 ≡ c = omega (arith, back.2) in
    let there : get_or d.elements c root_element ≡ back.1 = ap (λ i. get_or d.elements i root_element) (sym place)
    ∙ after_root d.elements back.0 back.1 back.3 in
    ap (λ (x : Element). declared_names x.short x.name) there ∙ λ i. declared_names (back.4 i) (back.5 i)

-- ---- what is skipped

nil_of : {A : Type 0} (xs : List A) → is_any xs ≡ false → first_in xs ≡ None
nil_of [] e = refl
nil_of (x ∷ xs) e = cc

abbrev Facts : Type 0
Facts = List (Fact LinkKey LinkFact)

abbrev Hits : Type 0
Hits = Asked LinkKey LinkFact (List Hit)

-- the same but for looks at the file
pub record AreSame (look : Fact LinkKey LinkFact) (a b : Hits) : Type 0 where
  pub step : a.step ≡ b.step
  pub left : (y : Fact LinkKey LinkFact) → IsMember a.looks y → IsMember (look ∷ b.looks) y
  pub right : (y : Fact LinkKey LinkFact) → IsMember b.looks y → IsMember a.looks y

-- nothing is found, and nothing else looked at
pub record IsNothing (look : Fact LinkKey LinkFact) (a : Hits) : Type 0 where
  pub step : a.step ≡ Done []
  pub looks : (y : Fact LinkKey LinkFact) → IsMember a.looks y → look ≡ y

module _ (files : List StoredFile) (table : List (LinkKey × Outcome)) (f : FileNo) (d : Data) (there : model_in (slice_get files f.0) ≡ d)
    (model : IsModel d) (x : List ℕ) where
  abbrev look : Fact LinkKey LinkFact
  look = Outer (File f)

  abbrev at : ℕ → ElementNo
  at c = record { file = f; index = c }

  nameless : (c : ℕ) → is_nil (declared_names (get_or d.elements c root_element).short (get_or d.elements c root_element).name) ≡ true
      → not (is_nil (own_names files (at c))) ≡ false
  nameless c nil = subst (λ (m : Data). not (is_nil (declared_names (get_or m.elements c root_element).short (get_or m.elements c root_element).name))
      ≡ false) (sym there) (ap not nil)

  no_first : (c : ℕ) → is_any (redefinitions_in d.references c) ≡ false → first_in (redefinitions_in (model_in (slice_get files f.0)).references c) ≡ None
  no_first c e = subst (λ (m : Data). first_in (redefinitions_in m.references c) ≡ None) (sym there) (nil_of (redefinitions_in d.references c) e)

  hit_step : (k c : ℕ) (a : Asked LinkKey LinkFact (List (List ℕ))) → a.step ≡ Done []
      → then_step a (λ ns. done (only_if {A = Hit} (is_named x ns) (record { member = record { file = f; index = k }; element = at c }))
      (reading files table)) a.step
      ≡ record { step = Done []; looks = a.looks ++ [] }
  hit_step k c a is = rw is refl

  nothing_named : (k c : ℕ) → is_any (redefinitions_in d.references c) ≡ false
      → is_nil (declared_names (get_or d.elements c root_element).short (get_or d.elements c root_element).name) ≡ true
      → IsNothing look (hit_named x f k (Owned c) (reading files table))
  nothing_named k c e nil =
      let leaves = step_none files table (at c) (2 ^ 64 - 1) [] (record { waits = []; looks = [] }) (nameless c nil) refl (no_first c e) in
      let is = hit_step k c (names (at c) (reading files table)) leaves.step in
      record {
        step = ap (λ a. a.step) is;
        looks = λ y m. only_look y (known y (leaves.shown y (no_more y (subst (λ (a : Hits). IsMember a.looks y) is m))));
      }
    where
      no_more : (y : Fact LinkKey LinkFact) → IsMember ((names (at c) (reading files table)).looks ++ []) y → IsMember (names (at c)
          (reading files table)).looks y
      no_more y m = subst (λ fs. IsMember fs y) (append-nil (names (at c) (reading files table)).looks) m

      known : (y : Fact LinkKey LinkFact) → IsMember (look ∷ []) y ⊎ ⊥ → IsMember (look ∷ []) y
      known y = elim [ inl m ↦ m | inr none ↦ absurd none ]

      only_look : (y : Fact LinkKey LinkFact) → IsMember (look ∷ []) y → look ≡ y
      only_look y = elim [ inl is ↦ is | inr none ↦ absurd none ]

  nothing_target : (k : ℕ) (m : Member) (t : Target) → m.target ≡ t → slice_get d.members k ≡ Some m → is_redefining d.references t ≡ false
      → is_nil (declared_names m.short m.name) ≡ true → IsNothing look (hit_named x f k t (reading files table))
  nothing_target k m (Owned c) is get none nil = nothing_named k c none (ap is_nil (owned_names_are d model k m c get is) ∙ nil)
  nothing_target k m (Alias r) is get none nil = record { step = refl; looks = λ y among. absurd among }

  pub nothing_part : (k : ℕ) (m : Member) → slice_get d.members k ≡ Some m → is_redefining d.references m.target ≡ false
      → IsNothing look (effective_part d f x k (reading files table))
  nothing_part k m get none = elim (bool_cases (is_nil (declared_names m.short m.name))) [
    | inl nil ↦ rw (get, nil) (nothing_target k m m.target refl get none nil)
    | inr some ↦ rw (get, some) (record { step = refl; looks = λ y among. absurd among })
  ]

  skip : (a b c : Hits) → IsNothing look a → AreSame look b c → AreSame look (record { step = join_step a.step b.step; looks = a.looks ++ b.looks }) c
  skip a b c n s = record {
    step = ap (λ t. join_step t b.step) n.step ∙ (join_first b.step ∙ s.step);
    left = λ y among. elim (member_cases a.looks b.looks y among) [ inl l ↦ inl (n.looks y l) | inr r ↦ s.left y r ];
    right = λ y among. member_right a.looks b.looks y (s.right y among);
  }

  keep : (a b c : Hits) → AreSame look b c → AreSame look (record { step = join_step a.step b.step; looks = a.looks ++ b.looks })
      (record { step = join_step a.step c.step; looks = a.looks ++ c.looks })
  keep a b c s = record {
    step = ap (join_step a.step) s.step;
    left = λ y among. elim (member_cases a.looks b.looks y among) [
      | inl l ↦ inr (member_left a.looks c.looks y l)
      | inr r ↦ elim (s.left y r) [ inl is ↦ inl is | inr m ↦ inr (member_right a.looks c.looks y m) ]
    ];
    right = λ y among. elim (member_cases a.looks c.looks y among) [
      | inl l ↦ member_left a.looks b.looks y l
      | inr r ↦ member_right a.looks b.looks y
          (s.right y r)
    ];
  }

  skipped_from : (e n : ℕ) (ms : List Member) → ((i : ℕ) (m : Member) → slice_get ms i ≡ Some m → slice_get d.members (n + i) ≡ Some m)
      → AreSame look (joined (effective_part d f x) (numbers_from n (λ m. nat_eq m.owner e) ms) (reading files table))
      (joined (effective_part d f x) (numbers_from n (λ m. nat_eq m.owner e && is_redefining d.references m.target) ms) (reading files table))
  skipped_from e n [] get = record { step = refl; left = λ y among. absurd among; right = λ y among. among }
  skipped_from e n (m ∷ ms) get =
      let here : slice_get d.members n ≡ Some m = subst (λ k. slice_get d.members k ≡ Some m) (omega arith) (get 0 m refl) in
      let more = skipped_from e (suc n) ms (λ i k is. subst (λ j. slice_get d.members j ≡ Some k) (omega arith) (get (suc i) k is)) in
      elim (bool_cases (nat_eq m.owner e)) [
        | inr other ↦ rw other more
        | inl own ↦ elim (bool_cases (is_redefining d.references m.target)) [
          | inl does ↦ rw (own, does) (keep _ _ _ more)
          | inr doesnt ↦ rw (own, doesnt) (skip _ _ _ (nothing_part n m here doesnt) more)
        ]
      ]

  pub skipped : (e : ℕ) → AreSame look (joined (effective_part d f x) (members_of d e) (reading files table)) (joined (effective_part d f x)
      (redefining_of d e) (reading files table))
  skipped e = skipped_from e 0 d.members (λ i m get. subst (λ k. slice_get d.members k ≡ Some m) (omega arith) get)

-- what is the same but for looks at a file that is known is gained too
pub gained_same : (look : Fact LinkKey LinkFact) (a b : Hits) (start now : Trail LinkKey LinkFact ElementNo Hit) → AreSame look a b
    → IsMember start.looks look → Gained b start now → Gained a start now
gained_same look a b start now same known g = record { kept = g.kept; shown = shown; only = only }
  where
    shown : (y : Part LinkKey LinkFact Hit) → Shows a y → IsKnown now y
    shown (Finds z) s = g.shown (Finds z) (subst (λ t. Has t z) same.step s)
    shown (Awaits q) s = g.shown (Awaits q) (subst (λ t. WaitsOn t q) same.step s)
    shown (LooksAt f) s = elim (same.left f s) [
      | inl is ↦ g.kept (LooksAt f) (subst (IsMember start.looks) is known)
      | inr m ↦ g.shown (LooksAt f) m
    ]

    only : (y : Part LinkKey LinkFact Hit) → IsKnown now y → IsKnown start y ⊎ Admits a y
    only (Finds z) k = elim (g.only (Finds z) k) [ inl o ↦ inl o | inr m ↦ inr (subst (λ t. MayHave t z) (sym same.step) m) ]
    only (Awaits q) k = elim (g.only (Awaits q) k) [ inl o ↦ inl o | inr m ↦ inr (subst (λ t. WaitsOn t q) (sym same.step) m) ]
    only (LooksAt f) k = elim (g.only (LooksAt f) k) [ inl o ↦ inl o | inr m ↦ inr (same.right f m) ]
