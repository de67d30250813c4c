-- Visible members where all tasks ask alike: what is found by looking up each namespace once is what is visible.
use Rattle.std.proofs.Common.{◌≡◌, ℕ, ◌+◌, ◌*◌, ◌-◌, ◌^◌, ◌<◌, ◌≤◌, Bool, true, false, cond, List, [], ◌∷◌, ◌++◌, length, refl, sym, ◌∙◌, ap, subst, inl, inr, arith, length-append}
use Rattle.std.specs.Prelude.{◌⊎◌, ◌||◌, ◌&&◌, not, zero, suc}
use Rattle.std.specs.List.{list_any}
use Rattle.std.proofs.Math.Nat.{suc-mul}
use Rattle.linker_base.proofs.Cases.{bool_cases}
use Rattle.linker_base.specs.Members.{IsMember, IsExact}
use Rattle.linker_base.proofs.MemberLaws.{member_left, member_right, member_cases, member_test, test_member}
use Rattle.demand_core.specs.Computation.{IsSound, done}
use Rattle.demand_core.specs.Search.{Finds, Awaits, LooksAt, Shows, Admits, IsOff, IsKnown, IsRoom, IsAsked, off_count}
use Rattle.demand_core.proofs.GatherLaws.{off_less, off_most}
use Rattle.demand_core.proofs.PartLaws.{shows_nothing}
use Rattle.demand_core.proofs.SearchLaws.{is_asked}
use Rattle.demand_core.proofs.WalkLaws.{room_marked}
use Rattle.element_store.specs.declared.numbers.ElementNo.{ElementNo}
use Rattle.element_store.specs.declared.models.StoredFile.{StoredFile}
use Rattle.element_store.specs.BaseRules.{StandsIn}
use Rattle.link_model.specs.declared.keys.Hit.{Hit}
use Rattle.link_model.specs.declared.view.View.{View}
use Rattle.link_model.specs.Keys.{same_element, same_key, key_is_exact, element_exact, element_is_exact, is_in}
use Rattle.link_model.specs.Outside.{Library}
use Rattle.link_model.specs.Imports.{visible_from}
use Rattle.link_model.specs.Readers.{Lookup, LinkWorld, most}
use Rattle.link_walk.specs.Calls.{elements_of, read_by}
use Rattle.link_walk.specs.Marks.{same_fact}
use Rattle.link_walk.proofs.ElementLaws.{element_among}
use Rattle.link_walk.proofs.MarkLaws.{fact_is_exact}
use Rattle.import_walk.specs.declared.hunt.Task.{Task}
use Rattle.import_walk.specs.declared.plain.Mode.{Mode}
use Rattle.import_walk.specs.Deferred.{HuntTrail, HitPart, HitAsked, Asking, AllTasksStand, Defers, shows, task_of, with_task, width, lib_of}
use Rattle.import_walk.specs.Plain.{IsAlike, Visits, nothing_yet, seen_within}
use Rattle.import_walk.proofs.DeferLaws.{defers_task}

-- tests that are denied
pub not_false : (b : Bool) → not b ≡ false → b ≡ true
not_false true e = refl
not_false false e = cc

pub not_true : (b : Bool) → not b ≡ true → b ≡ false
not_true true e = cc
not_true false e = refl

-- WHAT IS KNOWN CAN BE TESTED.
and_both : (p q : Bool) → (p && q) ≡ true → (p ≡ true) × (q ≡ true)
and_both true q e = (refl, e)
and_both false q e = cc

abbrev member_of : Hit → ElementNo
member_of h = record { file = h.member.file; index = h.member.index }

abbrev same_hit : Hit → Hit → Bool
same_hit a b = same_element (member_of a) (member_of b) && same_element a.element b.element

hit_exact : (a b : Hit) → same_hit a b ≡ true → a ≡ b
hit_exact a b e =
    let both = and_both (same_element (member_of a) (member_of b)) (same_element a.element b.element) e in
    let m : member_of a ≡ member_of b = element_exact (member_of a) (member_of b) both.0 in
    let t : a.element ≡ b.element = element_exact a.element b.element both.1 in
    λ j. record { member = record { file = (m j).file; index = (m j).index }; element = t j }

hit_is_exact : IsExact same_hit
hit_is_exact = record {
  exact = hit_exact;
  itself = λ h. rw (element_is_exact.itself (member_of h), element_is_exact.itself h.element) refl;
}

never : {P : Type 0} (b : Bool) → b ≡ true → b ≡ false → P
never true e f = absurd (let none : ⊥ = cc in none)
never false e f = absurd (let none : ⊥ = cc in none)

tested : {A : Type 0} (same : A → A → Bool) → IsExact same → (xs : List A) (x : A) → IsMember xs x ⊎ (IsMember xs x → ⊥)
tested same exact xs x = elim (bool_cases (list_any (same x) xs)) [
  | inl there ↦ inl (test_member same exact xs x there)
  | inr off ↦ inr (λ m. never (list_any (same x) xs) (member_test same exact xs x m) off)
]

known_or_not : (h : HuntTrail) (y : HitPart) → IsKnown h y ⊎ (IsKnown h y → ⊥)
known_or_not h (Finds z) = tested same_hit hit_is_exact h.found z
known_or_not h (Awaits q) = tested same_key key_is_exact h.waits q
known_or_not h (LooksAt f) = tested same_fact fact_is_exact h.looks f

-- the part is there, whatever tasks ask for
abbrev pub OwnTo : (Asking → HitAsked) → HitPart → Type 0
OwnTo c y = (ask : Asking) → Admits (c ask) y

-- whatever a task asks for is part of it
abbrev pub GoesTo : LinkWorld → (Asking → HitAsked) → Task → Type 0
GoesTo w c t = (ask : Asking) (y : HitPart) → Admits (ask t w) y → Admits (c ask) y

-- a hunt without the task that was taken
abbrev pub popped : HuntTrail → List Task → HuntTrail
popped h rest = record { nodes = rest; found = h.found; waits = h.waits; looks = h.looks }

module _ (w : LinkWorld) (files : List StoredFile) (task : ElementNo → Task) (body : ElementNo → Asking → HitAsked) where
  -- the part is shown by a namespace, or by one that is reached from it through namespaces off the path
  pub data Reaches (path : List ElementNo) : ElementNo → HitPart → Type 0 where
    Own : {e : ElementNo} {y : HitPart} → OwnTo (body e) y → Reaches path e y
    Onward : {e d : ElementNo} {y : HitPart} → GoesTo w (body e) (task d) → StandsIn files d → IsOff same_element path d → Reaches path d y
        → Reaches path e y

  -- a path that comes back to t can begin there
  off_again : (path : List ElementNo) (t a : ElementNo) (y : HitPart) → Reaches path a y → Reaches (t ∷ path) a y ⊎ Reaches (t ∷ path) t y
  off_again path t a y (Own o) = inl (Own o)
  off_again path t a y (Onward {d = b} go stands off rest) = elim (off_again path t b y rest) [
    | inr r ↦ inr r
    | inl l ↦ elim (bool_cases (same_element b t)) [
      | inl e ↦ inr (subst (λ z. Reaches (t ∷ path) z y) (element_exact b t e) l)
      | inr other ↦ inl (Onward go stands (rw other off) l)
    ]
  ]

  off_start : (path : List ElementNo) (a : ElementNo) (y : HitPart) → Reaches path a y → Reaches (a ∷ path) a y
  off_start path a y h = elim (off_again path a a y h) [ inl l ↦ l | inr r ↦ r ]

  -- the part is shown by the whole, or by a namespace to which the whole goes
  abbrev pub Gathers : List ElementNo → (Asking → HitAsked) → HitPart → Type 0
  Gathers path c y = OwnTo c y
      ⊎ ((d : ElementNo) × GoesTo w c (task d) × StandsIn files d × IsOff same_element path d × Reaches path d y)

  -- a task asks as all do, and its namespace is marked or excluded
  abbrev pub IsSettled : List ElementNo → List ElementNo → Task → Type 0
  IsSettled excluded marks t = (t ≡ task t.namespace) × (IsMember marks t.namespace ⊎ (is_in t.namespace excluded ≡ true))

  -- the part is asked for by a task that is left or settled
  abbrev pub IsLeft : List ElementNo → List ElementNo → List Task → Asking → HitPart → Type 0
  IsLeft excluded marks tasks ask y = (t : Task) × (IsMember tasks t ⊎ IsSettled excluded marks t) × Shows (ask t w) y

  -- what the loop keeps
  pub record IsPlain (excluded : List ElementNo) (c : Asking → HitAsked) (marks : List ElementNo) (hunt : HuntTrail) : Type 0 where
    pub bare : (t : Task) → IsMember hunt.nodes t → t.excluded ≡ []
    pub root : (ask : Asking) (y : HitPart) → Shows (c ask) y → IsKnown hunt y ⊎ IsLeft excluded marks hunt.nodes ask y
    pub node : (e : ElementNo) → IsMember marks e → (ask : Asking) (y : HitPart) → Shows (body e ask) y
        → IsKnown hunt y ⊎ IsLeft excluded marks hunt.nodes ask y
    pub only : (y : HitPart) → IsKnown hunt y → Gathers excluded c y
    pub pending : (t : Task) → IsMember hunt.nodes t → t ≡ task t.namespace → IsOff same_element excluded t.namespace → (y : HitPart)
        → Reaches excluded t.namespace y → Gathers excluded c y

  nobody : Asking
  nobody t = done []

  no_part : (y : HitPart) → IsKnown nothing_yet y → ⊥
  no_part (Finds z) k = k
  no_part (Awaits q) k = k
  no_part (LooksAt f) k = k

  pub plain_begins : (excluded : List ElementNo) (c : Asking → HitAsked) (n : ℕ) (hunt : HuntTrail)
      → ((ask : Asking) → Defers ask files w [] n (c ask) nothing_yet hunt) → IsPlain excluded c [] hunt
  plain_begins excluded c n hunt d = record {
    bare = λ t m. ((d nobody).inside t (subst (λ z. IsMember z t) (d nobody).grown m)).0;
    root = λ ask y s. elim ((d ask).shown y s) [
      | inl k ↦ inl k
      | inr t ↦ inr (t.0, inl (subst (λ z. IsMember z t.0) (sym (d ask).grown) t.1), t.2)
    ];
    node = λ e m. absurd m;
    only = λ y k. inl (λ ask. elim ((d ask).only y k) [ inl o ↦ absurd (no_part y o) | inr a ↦ a ]);
    pending = λ t m is off y r. inr (
      t.namespace,
      (λ ask z a. (d ask).pending t z (subst (λ ns. IsMember ns t) (d ask).grown m) (subst (λ u. Admits (ask u w) z) (sym is) a)),
      ((d nobody).inside t (subst (λ ns. IsMember ns t) (d nobody).grown m)).1,
      off,
      r,
    );
  }

  -- what is left when the last task is settled
  left_on : (excluded marks more : List ElementNo) (t : Task) (rest tasks now : List Task) (ask : Asking) (y : HitPart) → tasks ≡ rest ++ t ∷ []
      → ((e : ElementNo) → IsMember marks e → IsMember more e) → ((u : Task) → IsMember rest u → IsMember now u) → IsSettled excluded more t
      → IsLeft excluded marks tasks ask y → IsLeft excluded more now ask y
  left_on excluded marks more t rest tasks now ask y is kept stay settled left = elim left.1 [
    | inl m ↦ elim (member_cases rest (t ∷ []) left.0 (subst (λ z. IsMember z left.0) is m)) [
      | inl before ↦ (left.0, inl (stay left.0 before), left.2)
      | inr last ↦ elim last [
        | inl here ↦ (left.0, inr (subst (IsSettled excluded more) here settled), left.2)
        | inr none ↦ absurd none
      ]
    ]
    | inr set ↦ (left.0, inr (set.0, elim set.1 [ inl there ↦ inl (kept left.0.namespace there) | inr out ↦ inr out ]), left.2)
  ]

  same_known : (h : HuntTrail) (rest : List Task) (y : HitPart) → IsKnown h y → IsKnown (popped h rest) y
  same_known h rest (Finds z) k = k
  same_known h rest (Awaits q) k = k
  same_known h rest (LooksAt f) k = k

  known_same : (h : HuntTrail) (rest : List Task) (y : HitPart) → IsKnown (popped h rest) y → IsKnown h y
  known_same h rest (Finds z) k = k
  known_same h rest (Awaits q) k = k
  known_same h rest (LooksAt f) k = k

  -- a task whose namespace is excluded or marked is done with
  pub plain_settled : (excluded : List ElementNo) (c : Asking → HitAsked) (marks : List ElementNo) (t : Task) (rest : List Task) (old : HuntTrail)
      → old.nodes ≡ rest ++ t ∷ [] → t ≡ task t.namespace → (is_in t.namespace excluded ≡ true) ⊎ (is_in t.namespace marks ≡ true)
      → IsPlain excluded c marks old → IsPlain excluded c marks (popped old rest)
  plain_settled excluded c marks t rest old is alike at h =
      let settled : IsSettled excluded marks t = (
        alike,
        elim at [
          | inl out ↦ inr out
          | inr there ↦ inl (test_member same_element element_is_exact marks t.namespace there)
        ],
      ) in
      let whole : (u : Task) → IsMember rest u → IsMember old.nodes u = λ u m. subst (λ z. IsMember z u) (sym is) (member_left rest (t ∷ []) u m) in
      let on = λ (ask : Asking) (y : HitPart) (l : IsLeft excluded marks old.nodes ask y).
      left_on excluded marks marks t rest old.nodes rest ask y is (λ e m. m) (λ u m. m) settled l in
      record {
        bare = λ u m. h.bare u (whole u m);
        root = λ ask y s. elim (h.root ask y s) [ inl k ↦ inl (same_known old rest y k) | inr l ↦ inr (on ask y l) ];
        node = λ e m ask y s. elim (h.node e m ask y s) [ inl k ↦ inl (same_known old rest y k) | inr l ↦ inr (on ask y l) ];
        only = λ y k. h.only y (known_same old rest y k);
        pending = λ u m. h.pending u (whole u m);
      }

  -- a namespace that is neither excluded nor marked is marked, and what it shows is added
  pub plain_visited : (excluded : List ElementNo) (c : Asking → HitAsked) (marks : List ElementNo) (n : ℕ) (t : Task) (rest : List Task)
      (old new : HuntTrail) → old.nodes ≡ rest ++ t ∷ [] → t ≡ task t.namespace → IsOff same_element excluded t.namespace
      → ((ask : Asking) → Defers ask files w [] n (body t.namespace ask) (popped old rest) new)
      → IsPlain excluded c marks old → IsPlain excluded c (marks ++ t.namespace ∷ []) new
  plain_visited excluded c marks n t rest old new is alike off d h =
      let more = marks ++ t.namespace ∷ [] in
      let settled : IsSettled excluded more t = (alike, inl (member_right marks (t.namespace ∷ []) t.namespace (inl refl))) in
      let whole : (u : Task) → IsMember rest u → IsMember old.nodes u = λ u m. subst (λ z. IsMember z u) (sym is) (member_left rest (t ∷ []) u m) in
      let mine : IsMember old.nodes t = subst (λ z. IsMember z t) (sym is) (member_right rest (t ∷ []) t (inl refl)) in
      let stay : (u : Task) → IsMember rest u → IsMember new.nodes u =
      λ u m. subst (λ z. IsMember z u) (sym (d nobody).grown) (member_left rest (d nobody).added u m) in
      let on = λ (ask : Asking) (y : HitPart) (l : IsLeft excluded marks old.nodes ask y).
      left_on excluded marks more t rest old.nodes new.nodes ask y is (λ e m. member_left marks (t.namespace ∷ []) e m) stay settled l in
      let kept = λ (y : HitPart) (k : IsKnown old y). (d nobody).kept y (same_known old rest y k) in
      record {
        bare = λ u m. elim (member_cases rest (d nobody).added u (subst (λ z. IsMember z u) (d nobody).grown m)) [
          | inl before ↦ h.bare u (whole u before)
          | inr now ↦ ((d nobody).inside u now).0
        ];
        root = λ ask y s. elim (h.root ask y s) [ inl k ↦ inl (kept y k) | inr l ↦ inr (on ask y l) ];
        node = λ e m ask y s. elim (member_cases marks (t.namespace ∷ []) e m) [
          | inl before ↦ elim (h.node e before ask y s) [ inl k ↦ inl (kept y k) | inr l ↦ inr (on ask y l) ]
          | inr last ↦ elim last [
            | inl here ↦ elim ((d ask).shown y (subst (λ z. Shows (body z ask) y) (sym here) s)) [
              | inl k ↦ inl k
              | inr u ↦ inr (u.0, inl (subst (λ z. IsMember z u.0) (sym (d ask).grown) (member_right rest (d ask).added u.0 u.1)), u.2)
            ]
            | inr none ↦ absurd none
          ]
        ];
        only = λ y k. elim (known_or_not (popped old rest) y) [
          | inl before ↦ h.only y (known_same old rest y before)
          | inr new_part ↦ h.pending t mine alike off y (Own (λ ask. elim ((d ask).only y k) [ inl o ↦ absurd (new_part o) | inr a ↦ a ]))
        ];
        pending = λ u m like away y r. elim (member_cases rest (d nobody).added u (subst (λ z. IsMember z u) (d nobody).grown m)) [
          | inl before ↦ h.pending u (whole u before) like away y r
          | inr now ↦ h.pending t mine alike off y (Onward
              (λ ask z a. goes ask u z (subst (λ ns. IsMember ns u) (same_added ask) now) (subst (λ v. Admits (ask v w) z) (sym like) a))
              ((d nobody).inside u now).1 away r)
        ];
      }
    where
      cut : {A : Type 0} (xs ys zs : List A) → xs ++ ys ≡ xs ++ zs → ys ≡ zs
      cut [] ys zs e = e
      cut (x ∷ xs) ys zs e = cut xs ys zs (cc)

      same_added : (ask : Asking) → (d nobody).added ≡ (d ask).added
      same_added ask = cut rest (d nobody).added (d ask).added (sym (d nobody).grown ∙ (d ask).grown)

      goes : (ask : Asking) (u : Task) (z : HitPart) → IsMember (d ask).added u → Admits (ask u w) z → Admits (body t.namespace ask) z
      goes ask u z m a = (d ask).pending u z m a

  module _ (seen : ℕ → List ElementNo → Asking)
      (none : (path : List ElementNo) (e : ElementNo) → seen zero path (task e) w ≡ done [] w)
      (shut : (k : ℕ) (path : List ElementNo) (e : ElementNo) → is_in e path ≡ true → seen (suc k) path (task e) w ≡ done [] w)
      (opens : (k : ℕ) (path : List ElementNo) (e : ElementNo) → is_in e path ≡ false → seen (suc k) path (task e) w ≡ body e (seen k (e ∷ path))) where
    -- with enough steps, what is reached is seen
    complete : (k : ℕ) (path : List ElementNo) (e : ElementNo) (y : HitPart) → StandsIn files e → IsOff same_element path e
        → off_count same_element path (elements_of files) ≤ k → Reaches (e ∷ path) e y → Admits (seen k path (task e) w) y
    complete zero path e y stands off enough r =
        let less = off_less same_element element_is_exact path e (elements_of files) (element_among files e stands) off in
        absurd (omega arith)
    complete (suc k) path e y stands off enough (Own o) = subst (λ a. Admits a y) (sym (opens k path e off)) (o (seen k (e ∷ path)))
    complete (suc k) path e y stands off enough (Onward {d = d} go there away rest) =
        let less = off_less same_element element_is_exact path e (elements_of files) (element_among files e stands) off in
        let more = complete k (e ∷ path) d y there away (omega arith) (off_start (e ∷ path) d y rest) in
        subst (λ a. Admits a y) (sym (opens k path e off)) (go (seen k (e ∷ path)) y more)

    or_right : (p q : Bool) → q ≡ true → (p || q) ≡ true
    or_right true q e = refl
    or_right false q e = e

    -- what is seen is known
    sound : (excluded marks : List ElementNo) (hunt : HuntTrail)
        → ((e : ElementNo) → IsMember marks e → (ask : Asking) (y : HitPart) → Shows (body e ask) y
        → IsKnown hunt y ⊎ ((t : Task) × IsSettled excluded marks t × Shows (ask t w) y))
        → (k : ℕ) (path : List ElementNo) (e : ElementNo) (y : HitPart) → ((u : ElementNo) → is_in u excluded ≡ true → is_in u path ≡ true)
        → IsMember marks e ⊎ (is_in e excluded ≡ true) → Shows (seen k path (task e) w) y → IsKnown hunt y
    sound excluded marks hunt node zero path e y out at s = absurd (shows_nothing w y (subst (λ a. Shows a y) (none path e) s))
    sound excluded marks hunt node (suc k) path e y out at s = elim (bool_cases (is_in e path)) [
      | inl there ↦ absurd (shows_nothing w y (subst (λ a. Shows a y) (shut k path e there) s))
      | inr off ↦ elim at [
        | inl m ↦ elim (node e m (seen k (e ∷ path)) y (subst (λ a. Shows a y) (opens k path e off) s)) [
          | inl known ↦ known
          | inr t ↦ sound excluded marks hunt node k (e ∷ path) t.0.namespace y
              (λ u i. or_right (same_element u e) (is_in u path) (out u i)) t.1.1 (subst (λ z. Shows (seen k (e ∷ path) z w) y) t.1.0 t.2)
        ]
        | inr there ↦ never (is_in e path) (out e there) off
      ]
    ]

    -- where no task is left, all is known
    pub plain_ends : (excluded : List ElementNo) (c : Asking → HitAsked) (marks : List ElementNo) (hunt : HuntTrail) → hunt.nodes ≡ []
        → length (elements_of files) < most → IsSound w.table (c (seen most excluded)).step (c (seen most excluded)).looks
        → IsPlain excluded c marks hunt → IsAsked hunt (c (seen most excluded))
    plain_ends excluded c marks hunt gone few regular h =
        let enough = off_most same_element excluded (elements_of files) in
        let node : (e : ElementNo) → IsMember marks e → (ask : Asking) (y : HitPart) → Shows (body e ask) y
        → IsKnown hunt y ⊎ ((t : Task) × IsSettled excluded marks t × Shows (ask t w) y) =
        λ e m ask y s. elim (h.node e m ask y s) [ inl k ↦ inl k | inr l ↦ inr (l.0, ended l.0 l.1, l.2) ] in
        is_asked w.table hunt (c (seen most excluded)) regular
        (λ y s. elim (h.root (seen most excluded) y s) [
          | inl k ↦ k
          | inr l ↦
              let set = ended l.0 l.1 in
              sound excluded marks hunt node most excluded l.0.namespace y (λ u i. i) set.1 (subst (λ z. Shows (seen most excluded z w) y) set.0 l.2)
        ])
        (λ y k. elim (h.only y k) [
          | inl o ↦ o (seen most excluded)
          | inr r ↦ r.1 (seen most excluded) y (complete most excluded r.0 y r.2 r.3 (omega arith) (off_start excluded r.0 y r.4))
        ])
      where
        ended : (t : Task) → IsMember hunt.nodes t ⊎ IsSettled excluded marks t → IsSettled excluded marks t
        ended t (inl m) = absurd (subst (λ z. IsMember z t) gone m)
        ended t (inr set) = set

-- WHAT IS SEEN: an excluded namespace shows nothing, another what it shows of its own and what is seen from it.
module _ (lib : Library) (x : List ℕ) (w : LinkWorld) (recursive all : Bool) where
  pub seen_none : (path : List ElementNo) (e : ElementNo) → seen_within lib x zero path (task_of [] recursive all e) w ≡ done [] w
  unfolding visible_from
  seen_none path e = refl

  pub seen_shut : (k : ℕ) (path : List ElementNo) (e : ElementNo) → is_in e path ≡ true
      → seen_within lib x (suc k) path (task_of [] recursive all e) w ≡ done [] w
  unfolding visible_from
  seen_shut k path e there =
      ap (λ (b : Bool). cond b (done []) (shows lib x (seen_within lib x k (e ∷ path)) [] (task_of [] recursive all e)) w) there

  pub seen_opens : (k : ℕ) (path : List ElementNo) (e : ElementNo) → is_in e path ≡ false
      → seen_within lib x (suc k) path (task_of [] recursive all e) w
      ≡ shows lib x (seen_within lib x k (e ∷ path)) [] (task_of [] recursive all e) w
  unfolding visible_from
  seen_opens k path e off =
      ap (λ (b : Bool). cond b (done []) (shows lib x (seen_within lib x k (e ∷ path)) [] (task_of [] recursive all e)) w) off

-- THE MEASURE: namespaces that aren't marked, and then tasks
abbrev pub load : List ElementNo → List ElementNo → List Task → ℕ
load all marks tasks = (length all - length marks) * 2 ^ 66 + length tasks

pub load_settled : (all marks : List ElementNo) (t : Task) (rest tasks : List Task) → tasks ≡ rest ++ t ∷ [] → load all marks rest < load all marks tasks
load_settled all marks t rest tasks is =
    let long : length tasks ≡ length rest + 1 = ap length is ∙ length-append rest (t ∷ []) in
    one ((length all - length marks) * 2 ^ 66) (length rest) (length tasks) long
  where
    one : (q r l : ℕ) → l ≡ r + 1 → q + r < q + l
    one q r l e = omega arith

pub load_visited : (all marks : List ElementNo) (e : ElementNo) (t : Task) (rest added tasks new : List Task) → tasks ≡ rest ++ t ∷ [] → new ≡ rest ++ added
    → length added < 2 ^ 66 → IsRoom same_element all (marks ++ e ∷ []) → load all (marks ++ e ∷ []) new < load all marks tasks
load_visited all marks e t rest added tasks new is more few room =
    let long : length tasks ≡ length rest + 1 = ap length is ∙ length-append rest (t ∷ []) in
    let longer : length new ≡ length rest + length added = ap length more ∙ length-append rest added in
    let marked : length (marks ++ e ∷ []) ≡ length marks + 1 = length-append marks (e ∷ []) in
    let left : length all - length marks ≡ suc (length all - length (marks ++ e ∷ [])) = omega arith in
    by (length all - length (marks ++ e ∷ [])) (length all - length marks) (2 ^ 66) (length rest) (length added) (length tasks)
    (length new) left long longer few
  where
    by : (q p b r k l n : ℕ) → p ≡ suc q → l ≡ r + 1 → n ≡ r + k → k < b → q * b + n < p * b + l
    by q p b r k l n is long longer few =
        let one : suc q * b ≡ q * b + b = suc-mul q b in
        let same : p * b ≡ suc q * b = ap (λ z. z * b) is in
        omega arith

-- ONE TASK OF THE LOOP
abbrev pub IsPlainIn : View → List ℕ → List ElementNo → Mode → (Asking → Lookup (List Hit)) → List ElementNo → HuntTrail → Type 0
IsPlainIn v x excluded m c marks hunt = IsPlain (read_by v) v.models.now (λ e. task_of [] m.recursive m.all e)
    (λ e ask. shows (lib_of v) x ask [] (task_of [] m.recursive m.all e) (read_by v)) excluded (λ ask. c ask (read_by v)) marks hunt

alike_task : (m : Mode) (t : Task) → t.excluded ≡ [] → IsAlike m t → t ≡ task_of [] m.recursive m.all t.namespace
alike_task m t bare like = λ j. record { excluded = bare j; recursive = like.0 j; all = like.1 j; namespace = t.namespace }

module _ (v : View) (x : List ℕ) (excluded : List ElementNo) (t : Task) (rest : List Task) (marks more : List ElementNo) (old new : HuntTrail)
    (is : old.nodes ≡ rest ++ t ∷ []) (step : Visits v x excluded t marks more (popped old rest) new) where
  mine : IsMember old.nodes t
  mine = subst (λ z. IsMember z t) (sym is) (member_right rest (t ∷ []) t (inl refl))

  nobody_asks : Asking
  nobody_asks u = done []

  pub next_plain : (m : Mode) (c : Asking → Lookup (List Hit)) → IsAlike m t → IsPlainIn v x excluded m c marks old → IsPlainIn v x excluded m c more new
  next_plain m c like h =
      let w = read_by v in
      let files = v.models.now in
      let task = λ (e : ElementNo). task_of [] m.recursive m.all e in
      let body = λ (e : ElementNo) (ask : Asking). shows (lib_of v) x ask [] (task_of [] m.recursive m.all e) w in
      let alike = alike_task m t (h.bare t mine) like in
      elim step [
        | inl same ↦ subst (λ z. IsPlainIn v x excluded m c z new) (sym same.1) (subst (λ z. IsPlainIn v x excluded m c marks z) (sym same.2)
            (plain_settled w files task body excluded (λ ask. c ask w) marks t rest old is alike same.0 h))
        | inr went ↦ subst (λ z. IsPlainIn v x excluded m c z new) (sym went.2)
            (plain_visited w files task body excluded (λ ask. c ask w) marks (width files t) t rest old new is alike went.0
            (λ ask. subst (λ u. Defers ask files w [] (width files t) (shows (lib_of v) x ask [] u w) (popped old rest) new) alike (went.3 ask)) h)
      ]

  pub next_room : StandsIn v.models.now t.namespace → IsRoom same_element (elements_of v.models.now) marks
      → IsRoom same_element (elements_of v.models.now) more
  next_room stands room = elim step [
    | inl same ↦ subst (IsRoom same_element (elements_of v.models.now)) (sym same.1) room
    | inr went ↦ subst (IsRoom same_element (elements_of v.models.now)) (sym went.2)
        (room_marked same_element element_is_exact t.namespace (elements_of v.models.now) marks (element_among v.models.now t.namespace stands) false went.1
        room)
  ]

  pub next_stand : AllTasksStand v.models.now old.nodes → AllTasksStand v.models.now new.nodes
  next_stand stand u m = elim step [
    | inl same ↦ stand u (subst (λ z. IsMember z u) (sym is) (member_left rest (t ∷ []) u (subst (λ (h : HuntTrail). IsMember h.nodes u) same.2 m)))
    | inr went ↦ elim (member_cases rest (went.3 nobody_asks).added u (subst (λ z. IsMember z u) (went.3 nobody_asks).grown m)) [
      | inl before ↦ stand u (subst (λ z. IsMember z u) (sym is) (member_left rest (t ∷ []) u before))
      | inr now ↦ ((went.3 nobody_asks).inside u now).1
    ]
  ]

  pub next_less : width v.models.now t < 2 ^ 66 → StandsIn v.models.now t.namespace → IsRoom same_element (elements_of v.models.now) marks
      → load (elements_of v.models.now) more new.nodes < load (elements_of v.models.now) marks old.nodes
  next_less few stands room = elim step [
    | inl same ↦ subst (λ z. load (elements_of v.models.now) z new.nodes < load (elements_of v.models.now) marks old.nodes) (sym same.1)
        (subst (λ (h : HuntTrail). load (elements_of v.models.now) marks h.nodes < load (elements_of v.models.now) marks old.nodes) (sym same.2)
        (load_settled (elements_of v.models.now) marks t rest old.nodes is))
    | inr went ↦ subst (λ z. load (elements_of v.models.now) z new.nodes < load (elements_of v.models.now) marks old.nodes) (sym went.2)
        (load_visited (elements_of v.models.now) marks t.namespace t rest (went.3 nobody_asks).added old.nodes new.nodes is (went.3 nobody_asks).grown
        (let count = (went.3 nobody_asks).count in omega arith) (subst (IsRoom same_element (elements_of v.models.now)) went.2 (next_room stands room)))
  ]

-- where no task is left, all is known
pub plain_asked : (v : View) (x : List ℕ) (excluded : List ElementNo) (m : Mode) (c : Asking → Lookup (List Hit)) (marks : List ElementNo) (hunt : HuntTrail)
    → hunt.nodes ≡ [] → length (elements_of v.models.now) < most
    → IsSound (read_by v).table (c (seen_within (lib_of v) x most excluded) (read_by v)).step (c (seen_within (lib_of v) x most excluded) (read_by v)).looks
    → IsPlainIn v x excluded m c marks hunt → IsAsked hunt (c (seen_within (lib_of v) x most excluded) (read_by v))
plain_asked v x excluded m c marks hunt gone few regular h =
    let w = read_by v in
    plain_ends w v.models.now (λ e. task_of [] m.recursive m.all e) (λ e ask. shows (lib_of v) x ask [] (task_of [] m.recursive m.all e) w)
    (seen_within (lib_of v) x) (seen_none (lib_of v) x w m.recursive m.all) (seen_shut (lib_of v) x w m.recursive m.all)
    (seen_opens (lib_of v) x w m.recursive m.all) excluded (λ ask. c ask w) marks hunt gone few regular h

-- WHAT COMES FIRST: a task, or what an import brings
pub begins_visible : (files : List StoredFile) (w : LinkWorld) (inner : List ElementNo) (start new : HuntTrail) (recursive all : Bool) (n : ElementNo)
    → start ≡ nothing_yet → inner ≡ [] → new ≡ with_task start (task_of inner recursive all n) → StandsIn files n
    → (ask : Asking) → Defers ask files w [] 1 (ask (task_of [] recursive all n) w) nothing_yet new
begins_visible files w inner start new recursive all n empty bare is stands ask =
    subst (λ z. Defers ask files w [] 1 (ask (task_of [] recursive all n) w) nothing_yet z)
    (sym (is ∙ λ j. with_task (empty j) (task_of (bare j) recursive all n)))
    (defers_task ask files w [] recursive all n nothing_yet stands)

pub begins_imported : (files : List StoredFile) (w : LinkWorld) (inner : List ElementNo) (start new : HuntTrail)
    (c : List ElementNo → Asking → Lookup (List Hit)) → start ≡ nothing_yet → inner ≡ []
    → ((ask : Asking) → Defers ask files w inner 1 (c inner ask w) start new)
    → (ask : Asking) → Defers ask files w [] 1 (c [] ask w) nothing_yet new
begins_imported files w inner start new c empty bare d ask =
    subst (λ z. Defers ask files w z 1 (c z ask w) nothing_yet new) bare (subst (λ z. Defers ask files w inner 1 (c inner ask w) z new) empty (d ask))

pub begins_stand : (files : List StoredFile) (w : LinkWorld) (n : ℕ) (c : Asking → HitAsked) (hunt : HuntTrail)
    → ((ask : Asking) → Defers ask files w [] n (c ask) nothing_yet hunt) → AllTasksStand files hunt.nodes
begins_stand files w n c hunt d t m = let first = d (λ u. done []) in (first.inside t (subst (λ z. IsMember z t) first.grown m)).1
