-- Hits of members, as parts of a stage.
use Rattle.std.proofs.Common.{◌≡◌, ℕ, List, [], ◌∷◌, ◌++◌, map, refl, sym, ◌∙◌, ap, subst, inl, inr, append-nil}
use Rattle.std.specs.Prelude.{◌⊎◌}
use Rattle.linker_base.specs.Members.{IsMember}
use Rattle.linker_base.proofs.MemberLaws.{same_members, member_left, member_right, member_cases}
use Rattle.demand_core.specs.Rules.{WaitsOn}
use Rattle.demand_core.specs.Computation.{Asked, done, then_step, ◌>>=◌}
use Rattle.demand_core.specs.Search.{Part, Finds, Awaits, LooksAt, Shows, Admits, IsKnown, IsStep}
use Rattle.demand_core.specs.declared.looks.Fact.{Fact}
use Rattle.demand_core.specs.declared.step.Step.{Step}
use Rattle.demand_core.specs.declared.step.Step.TheVariants.{Done, Waits}
use Rattle.element_store.specs.declared.numbers.ElementNo.{ElementNo}
use Rattle.element_store.specs.declared.numbers.MemberNo.{MemberNo}
use Rattle.element_store.specs.declared.records.Target.{Target}
use Rattle.element_store.specs.declared.models.StoredFile.{StoredFile}
use Rattle.link_model.specs.declared.keys.LinkKey.{LinkKey}
use Rattle.link_model.specs.declared.keys.LinkFact.{LinkFact}
use Rattle.link_model.specs.declared.keys.Hit.{Hit}
use Rattle.link_model.specs.Keys.{same_key, key_is_exact}
use Rattle.link_model.specs.Readers.{LinkWorld, Lookup, is_named, only_if}
use Rattle.link_model.specs.Names.{leads_to}
use Rattle.link_walk.specs.Calls.{step_of}
use Rattle.link_walk.specs.Noted.{Noted, noted}
use Rattle.link_walk.specs.Gained.{Gained}
use Rattle.link_walk.specs.declared.reading.Read.{Read}
use Rattle.link_walk.specs.declared.reading.Read.TheVariants.{Open, Nowhere, At}
use Rattle.link_walk.proofs.GainLaws.{gains_of, mapped_by}
use Rattle.link_walk.proofs.MarkLaws.{all_kept, all_now, all_new}
use Rattle.owned_names.specs.Hits.{of_target}
use Rattle.owned_names.specs.Walked.{Names, Leaves, named_by, own_names}
use Rattle.owned_names.specs.declared.naming.Naming.{Naming}
use Rattle.owned_names.specs.declared.naming.Naming.TheVariants as naming

-- the element to which a reading leads, and what it waits on
abbrev pub led_by : Read → List ElementNo
led_by (Open r) = []
led_by Nowhere = []
led_by (At e) = e ∷ []

abbrev pub waits_by : Read → List LinkKey
waits_by (Open r) = record { 0 = r } ∷ []
waits_by Nowhere = []
waits_by (At e) = []

reads_step : (read : Read) → IsStep (led_by read) (waits_by read) (step_of read)
reads_step (Open r) = same_members (record { 0 = r } ∷ [])
reads_step Nowhere = same_members []
reads_step (At e) = same_members (e ∷ [])

-- the hit of a member is taken, where its target leads to an element, and what that waits on is noted
pub hit_taken : (w : LinkWorld) (m : MemberNo) (t : Target) (read : Read) (found more : List Hit) (old mid last : Noted)
    → (leads_to m.file t w).step ≡ step_of read → mid ≡ noted [] (leads_to m.file t w).looks old
    → more ≡ found ++ map (λ e. record { member = m; element = e }) (led_by read) → last ≡ noted (waits_by read) [] mid
    → Gained (of_target m t w) (gains_of found old) (gains_of more last)
hit_taken w m t read found more old mid last step looks is waits =
    mapped_by w (record { nodes = the_none; found = led_by read; waits = waits_by read; looks = (leads_to m.file t w).looks }) (leads_to m.file t)
    (λ e. record { member = m; element = e }) found more old last
    (record { step = subst (IsStep (led_by read) (waits_by read)) (sym step) (reads_step read); looks = same_members (leads_to m.file t w).looks }) is
    (waits ∙ ap (noted (waits_by read) []) looks)
  where
    the_none : List ElementNo
    the_none = []

-- ---- a member whose element is named by the way that gives it a name

-- what is found where it is named so, and what that waits on
abbrev pub named_hits : List StoredFile → List ℕ → Hit → Naming → List Hit
named_hits files x h (naming.Open r) = []
named_hits files x h naming.Nameless = []
named_hits files x h (naming.By e) = only_if (is_named x (own_names files e)) h

abbrev pub naming_waits : Naming → List LinkKey
naming_waits (naming.Open r) = record { 0 = r } ∷ []
naming_waits naming.Nameless = []
naming_waits (naming.By e) = []

-- the part is known after these hits are taken
abbrev Now : List StoredFile → List ℕ → Hit → Naming → List Hit → Noted → Part LinkKey LinkFact Hit → Type 0
Now files x h n found mid y = IsKnown (gains_of (found ++ named_hits files x h n) (noted (naming_waits n) [] mid)) y

module _ (files : List StoredFile) (x : List ℕ) (h : Hit) where
  abbrev told : LinkWorld → Names → Asked LinkKey LinkFact (List Hit)
  told w a = then_step a (λ ns. done (only_if (is_named x ns) h) w) a.step

  told_step : (w : LinkWorld) (n : Naming) (a : Names) → a.step ≡ (named_by files n).step → IsStep (named_hits files x h n) (naming_waits n)
      (told w a).step × ((told w a).looks ≡ a.looks)
  told_step w (naming.Open r) a is = rw is (same_members (record { 0 = r } ∷ []), refl)
  told_step w naming.Nameless a is = rw is (same_members [], append-nil a.looks)
  told_step w (naming.By e) a is = rw is (same_members (only_if (is_named x (own_names files e)) h), append-nil a.looks)

  -- where a way says whose names they are, what that gives is taken
  pub named_taken : (w : LinkWorld) (c : Lookup (List (List ℕ))) (n : Naming) (found more : List Hit) (old mid last : Noted) → Leaves old mid
      (named_by files n) (c w)
      → more ≡ found ++ named_hits files x h n → last ≡ noted (naming_waits n) [] mid
      → Gained ((c >>= λ ns. done (only_if (is_named x ns) h)) w) (gains_of found old) (gains_of more last)
  named_taken w c n found more old mid last leaves is waits =
      let step = told_step w n (c w) leaves.step in
      subst (λ (f : List Hit). Gained (told w (c w)) (gains_of found old) (gains_of f last)) (sym is)
      (subst (λ (m : Noted). Gained (told w (c w)) (gains_of found old) (gains_of (found ++ named_hits files x h n) m)) (sym waits)
      (record {
        kept = kept;
        shown = λ y s. shown (told w (c w)).step (told w (c w)).looks step.0 step.1 y s;
        only = λ y k. only (told w (c w)).step (told w (c w)).looks step.0 step.1 y k;
      }))
    where
      kept : (y : Part LinkKey LinkFact Hit) → IsKnown (gains_of found old) y → Now files x h n found mid y
      kept (Finds z) k = member_left found (named_hits files x h n) z k
      kept (Awaits q) k = all_kept same_key key_is_exact (naming_waits n) mid.waits q (subst (λ ks. IsMember ks q) (sym leaves.waits) k)
      kept (LooksAt f) k = leaves.kept f k

      looked : (f : Fact LinkKey LinkFact) → IsMember (c w).looks f → IsMember mid.looks f
      looked f m = elim (leaves.shown f m) [ inl now ↦ now | inr none ↦ absurd none ]

      shown : (step : Step LinkKey (List Hit)) (looks : List (Fact LinkKey LinkFact)) → IsStep (named_hits files x h n) (naming_waits n) step → looks ≡
          (c w).looks
          → (y : Part LinkKey LinkFact Hit) → Shows (record { step = step; looks = looks }) y → Now files x h n found mid y
      shown step looks s l (Finds z) m = member_right found (named_hits files x h n) z (finds (named_hits files x h n) (naming_waits n) step s m)
        where
          finds : (fs : List Hit) (ks : List LinkKey) (t : Step LinkKey (List Hit)) → IsStep fs ks t → Shows {F = LinkFact}
              (record { step = t; looks = [] }) (Finds z) → IsMember fs z
          finds fs [] (Done ys) s m = s.right z m
          finds fs [] (Waits ls) s m = absurd s
          finds fs (k ∷ ks) (Done ys) s m = absurd s
          finds fs (k ∷ ks) (Waits ls) s m = absurd m
      shown step looks s l (Awaits q) m = all_now same_key key_is_exact (naming_waits n) mid.waits q (awaits (named_hits files x h n) (naming_waits n) step s m)
        where
          awaits : (fs : List Hit) (ks : List LinkKey) (t : Step LinkKey (List Hit)) → IsStep fs ks t → WaitsOn t q → IsMember ks q
          awaits fs [] (Done ys) s m = absurd m
          awaits fs [] (Waits ls) s m = absurd s
          awaits fs (k ∷ ks) (Done ys) s m = absurd s
          awaits fs (k ∷ ks) (Waits ls) s m = s.right q m
      shown step looks s l (LooksAt f) m = looked f (subst (λ fs. IsMember fs f) l m)

      only : (step : Step LinkKey (List Hit)) (looks : List (Fact LinkKey LinkFact)) → IsStep (named_hits files x h n) (naming_waits n) step → looks ≡
          (c w).looks
          → (y : Part LinkKey LinkFact Hit) → Now files x h n found mid y → IsKnown (gains_of found old) y ⊎ Admits (record { step = step; looks = looks }) y
      only step looks s l (Finds z) k = elim (member_cases found (named_hits files x h n) z k) [
        | inl before ↦ inl before
        | inr now ↦ inr (finds (named_hits files x h n) (naming_waits n) step s now)
      ]
        where
          finds : (fs : List Hit) (ks : List LinkKey) (t : Step LinkKey (List Hit)) → IsStep fs ks t → IsMember fs z → Admits
              (record { step = t; looks = looks }) (Finds z)
          finds fs [] (Done ys) s m = s.left z m
          finds fs [] (Waits ls) s m = absurd s
          finds fs (k ∷ ks) (Done ys) s m = absurd s
          finds fs (k ∷ ks) (Waits ls) s m = tt
      only step looks s l (Awaits q) k = elim (all_new same_key key_is_exact (naming_waits n) mid.waits q k) [
        | inl before ↦ inl (subst (λ ks. IsMember ks q) leaves.waits before)
        | inr now ↦ inr (awaits (named_hits files x h n) (naming_waits n) step s now)
      ]
        where
          awaits : (fs : List Hit) (ks : List LinkKey) (t : Step LinkKey (List Hit)) → IsStep fs ks t → IsMember ks q → WaitsOn t q
          awaits fs [] (Done ys) s m = absurd m
          awaits fs [] (Waits ls) s m = absurd s
          awaits fs (k ∷ ks) (Done ys) s m = absurd s
          awaits fs (k ∷ ks) (Waits ls) s m = s.left q m
      only step looks s l (LooksAt f) k = elim (leaves.only f k) [ inl before ↦ inl before | inr now ↦ inr (subst (λ fs. IsMember fs f) (sym l) now) ]
