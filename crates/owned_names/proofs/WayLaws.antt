-- The way from an element to the one that names it, step by step.
use Rattle.std.proofs.Common.{◌≡◌, ℕ, ◌+◌, ◌<◌, ◌≤◌, Bool, true, false, cond, List, [], ◌∷◌, get_or, refl, sym, ◌∙◌, ap, subst, inl, inr, arith}
use Rattle.std.proofs.lemmas.Bool.{cases_lt}
use Rattle.std.proofs.lemmas.Bool.Decides.{nat_tests}
use Rattle.std.specs.Prelude.{zero, suc, ◌⊎◌, not, nat_eq, ◌&&◌, ◌||◌, map, slice_get, None, Some}
use Rattle.std.specs.Option.{option_map_or}
use Rattle.linker_base.specs.Members.{IsMember}
use Rattle.linker_base.proofs.Cases.{bool_cases, both_true}
use Rattle.linker_base.proofs.MemberLaws.{member_left, member_right, member_cases}
use Rattle.demand_core.specs.Computation.{done, then_step, ◌>>=◌}
use Rattle.demand_core.specs.declared.step.Step.{Step}
use Rattle.demand_core.specs.declared.step.Step.TheVariants.{Done}
use Rattle.demand_core.specs.declared.looks.Fact.{Fact}
use Rattle.demand_core.specs.declared.looks.Fact.TheVariants.{Outer}
use Rattle.element_store.specs.declared.numbers.ElementNo.{ElementNo}
use Rattle.element_store.specs.declared.outcome.Role.{Role}
use Rattle.element_store.specs.declared.outcome.Role.TheVariants as role
use Rattle.element_store.specs.declared.records.Element.{Element}
use Rattle.element_store.specs.declared.records.Reference.{Reference}
use Rattle.element_store.specs.declared.models.StoredFile.{StoredFile}
use Rattle.element_store.specs.Kinds.{is_feature}
use Rattle.element_store.specs.Model.{Data, root_element}
use Rattle.element_store.specs.Numbers.{chosen, numbers_from}
use Rattle.element_store.specs.Condition.{IsModel, context_fits, role_fits}
use Rattle.element_store.specs.Readings.{is_redefinition, redefinitions_in, AreReferencesOf}
use Rattle.element_store.proofs.ModelLaws.{all_at}
use Rattle.link_model.specs.declared.keys.LinkKey.{LinkKey}
use Rattle.link_model.specs.declared.keys.LinkFact.{LinkFact}
use Rattle.link_model.specs.declared.keys.LinkFact.TheVariants.{File}
use Rattle.element_store.specs.declared.outcome.Outcome.{Outcome}
use Rattle.link_model.specs.Keys.{is_in, same_element}
use Rattle.link_model.specs.Outside.{model_in}
use Rattle.link_model.specs.Readers.{LinkWorld, Lookup, is_nil, key, from_first, element, target}
use Rattle.link_model.specs.Names as link_names
use Rattle.link_model.specs.Names.{names_from, declared_names, redefinitions}
use Rattle.link_walk.specs.Calls.{reading, step_of}
use Rattle.link_walk.specs.Noted.{Noted, noted}
use Rattle.link_walk.specs.Marks.{same_fact}
use Rattle.link_walk.proofs.MarkLaws.{fact_is_exact, all_kept, all_now, all_new}
use Rattle.owned_names.specs.Walked.{Names, first_in, element_in, own_names, named_by, rest_of, Leaves}
use Rattle.owned_names.specs.declared.naming.Naming.TheVariants.{Open, Nameless, By}
use Rattle.owned_names.specs.declared.naming.Stride.{Stride}
use Rattle.owned_names.specs.declared.naming.Stride.TheVariants.{Ends, Goes}
use Rattle.link_walk.specs.declared.reading.Read.{Read}
use Rattle.link_walk.specs.declared.reading.Read.TheVariants as reads

abbrev pub ready : {A : Type 0} → A → Step LinkKey A
ready x = Done x

-- ---- the first number of the items that pass a test

pub first_is : {A : Type 0} (n k : ℕ) (test : A → Bool) (xs : List A) (x : A) → slice_get xs k ≡ Some x → test x ≡ true
    → ((i : ℕ) (y : A) → i < k → slice_get xs i ≡ Some y → test y ≡ false) → first_in (numbers_from n test xs) ≡ Some (n + k)
first_is n k test [] x at is none = cc
first_is n zero test (y ∷ xs) x at is none =
    let here : y ≡ x = cc in
    rw (ap test here ∙ is) (ap Some (omega arith))
first_is n (suc k) test (y ∷ xs) x at is none =
    rw (none 0 y (omega arith) refl) (first_is (suc n) k test xs x at is (λ i z lt get. none (suc i) z (omega arith) get) ∙ ap Some (omega arith))

pub first_none : {A : Type 0} (n : ℕ) (test : A → Bool) (xs : List A) → ((i : ℕ) (y : A) → slice_get xs i ≡ Some y → test y ≡ false) → first_in
    (numbers_from n test xs) ≡ None
first_none n test [] none = refl
first_none n test (y ∷ xs) none = rw (none 0 y refl) (first_none (suc n) test xs (λ i z get. none (suc i) z get))

-- ---- references that are redefinitions

pub same_role : (r : Role) → link_names.is_redefinition r ≡ is_redefinition r
same_role role.Subclass = refl
same_role role.Typing = refl
same_role role.Subsetting = refl
same_role role.Redefinition = refl
same_role role.ReferenceSubsetting = refl
same_role role.Import = refl
same_role role.Alias = refl
same_role role.About = refl
same_role role.Value = refl
same_role role.Bound = refl

-- what redefines is a feature
redefines_fits : (r : Role) (e : Element) → is_redefinition r ≡ true → role_fits r e.kind ≡ true → is_feature e.kind ≡ true
redefines_fits role.Subclass e is fits = cc
redefines_fits role.Typing e is fits = cc
redefines_fits role.Subsetting e is fits = cc
redefines_fits role.Redefinition e is fits = fits
redefines_fits role.ReferenceSubsetting e is fits = cc
redefines_fits role.Import e is fits = cc
redefines_fits role.Alias e is fits = cc
redefines_fits role.About e is fits = cc
redefines_fits role.Value e is fits = cc
redefines_fits role.Bound e is fits = cc

first_found : {A : Type 0} (n k : ℕ) (test : A → Bool) (xs : List A) → first_in (numbers_from n test xs) ≡ Some k
    → (i : ℕ) × (x : A) × (k ≡ n + i) × (slice_get xs i ≡ Some x) × (test x ≡ true)
first_found n k test [] e = cc
first_found n k test (y ∷ xs) e = elim (bool_cases (test y)) [
  | inl a ↦ (
    0,
    y,
    (let here : Some n ≡ Some k = subst (λ b. first_in (chosen b n (numbers_from (suc n) test xs)) ≡ Some k) a e in let same : n
        ≡ k = cc in omega (arith, same)),
    refl,
    a,
  )
  | inr b ↦
      let more = first_found (suc n) k test xs (subst (λ c. first_in (chosen c n (numbers_from (suc n) test xs)) ≡ Some k) b e) in
      (suc more.0, more.1, omega (arith, more.2), more.3, more.4)
]

eq_exact : (a b : ℕ) → nat_eq a b ≡ true → a ≡ b
eq_exact a b h = grind (arith, nat_tests)

-- an element with a redefinition is a feature
pub redefines_feature : (d : Data) → IsModel d → (e k : ℕ) → first_in (redefinitions_in d.references e) ≡ Some k → is_feature
    (get_or d.elements e root_element).kind ≡ true
redefines_feature d m e k first =
    let found = first_found 0 k (λ (r : Reference). nat_eq r.context e && is_redefinition r.role) d.references first in
    let both = both_true (nat_eq found.1.context e) (is_redefinition found.1.role) found.4 in
    let fits = all_at (context_fits d) found.0 d.references found.1 m.contexts found.3 in
    at_place d.elements e found.1.role both.1 (subst (λ (i : ℕ). option_map_or (λ (x : Element). role_fits found.1.role x.kind)
    (slice_get d.elements i) false ≡ true) (eq_exact found.1.context e both.0) fits)
  where
    at_place : (es : List Element) (i : ℕ) (r : Role) → is_redefinition r ≡ true → option_map_or (λ (x : Element). role_fits r x.kind)
        (slice_get es i) false ≡ true → is_feature (get_or es i root_element).kind ≡ true
    at_place [] i r is fits = cc
    at_place (x ∷ es) zero r is fits = redefines_fits r x is fits
    at_place (x ∷ es) (suc i) r is fits = at_place es i r is fits

eq_is : (a b : ℕ) → a ≡ b → nat_eq a b ≡ true
eq_is a b h = grind (arith, nat_tests, h)

-- none of these references is a redefinition
abbrev NoneYet : List Reference → ℕ → ℕ → Type 0
NoneYet refs from k = (j : ℕ) (r : Reference) → from ≤ j → j < k → slice_get refs j ≡ Some r → is_redefinition r.role ≡ false

module _ (refs : List Reference) (e from upto k : ℕ) where
  -- nor is it one of the element's before that place
  before_place : AreReferencesOf refs e from upto → NoneYet refs from k → (i : ℕ) (r : Reference) → i < upto → (i < upto → i < k) → slice_get refs i
      ≡ Some r → (nat_eq r.context e && is_redefinition r.role) ≡ false
  before_place own none i r lt short at = elim (bool_cases (nat_eq r.context e)) [
    | inl same ↦ rw same (none i r ((own.own i r at).0 (eq_exact r.context e same)).0 (short lt) at)
    | inr other ↦ rw other refl
  ]

  other_context : AreReferencesOf refs e from upto → (i : ℕ) (r : Reference) → upto ≤ i → slice_get refs i ≡ Some r →
      (nat_eq r.context e && is_redefinition r.role) ≡ false
  other_context own i r le at = elim (bool_cases (nat_eq r.context e)) [
    | inl same ↦ absurd (let lt = ((own.own i r at).0 (eq_exact r.context e same)).1 in omega arith)
    | inr other ↦ rw other refl
  ]

  pub first_of_range : (r : Reference) → AreReferencesOf refs e from upto → from ≤ k → k < upto → slice_get refs k ≡ Some r → is_redefinition r.role ≡ true
      → NoneYet refs from k
      → Some k ≡ first_in (redefinitions_in refs e)
  first_of_range r own le lt at is none =
      let here : r.context ≡ e = (own.own k r at).1 (le, lt) in
      sym (first_is 0 k (λ (y : Reference). nat_eq y.context e && is_redefinition y.role) refs r at (rw (eq_is r.context e here, is) refl)
      (λ i y before get. before_place own none i y (omega arith) (λ l. before) get) ∙ ap Some (omega arith))

  pub none_of_range : AreReferencesOf refs e from upto → upto ≤ k → NoneYet refs from k → None ≡ first_in (redefinitions_in refs e)
  none_of_range own le none = sym (first_none 0 (λ (y : Reference). nat_eq y.context e && is_redefinition y.role) refs (λ i y get. elim (cases_lt i upto) [
    | inl lt ↦ before_place own none i y lt (λ l. omega arith) get
    | inr ge ↦ other_context own i y ge get
  ]))

-- ---- one step of the way

abbrev Facts : Type 0
Facts = List (Fact LinkKey LinkFact)

-- the facts are noted, and the rest looks at what they leave of the whole
leaves_noted : (old : Noted) (fs : Facts) (rest whole : Names) → whole.step ≡ rest.step
    → ((f : Fact LinkKey LinkFact) → IsMember whole.looks f → IsMember fs f ⊎ IsMember rest.looks f)
    → ((f : Fact LinkKey LinkFact) → IsMember fs f → IsMember whole.looks f)
    → ((f : Fact LinkKey LinkFact) → IsMember rest.looks f → IsMember whole.looks f)
    → Leaves old (noted [] fs old) rest whole
leaves_noted old fs rest whole step all some left = record {
  step = step;
  waits = refl;
  kept = λ f m. all_kept same_fact fact_is_exact fs old.looks f m;
  shown = λ f m. elim (all f m) [ inl here ↦ inl (all_now same_fact fact_is_exact fs old.looks f here) | inr later ↦ inr later ];
  only = λ f m. elim (all_new same_fact fact_is_exact fs old.looks f m) [ inl before ↦ inl before | inr now ↦ inr (some f now) ];
  left = left;
}

-- the names of an element where the first redefinition is that of the number
module _ (files : List StoredFile) (table : List (LinkKey × Outcome)) (e : ElementNo) where
  abbrev file_look : Fact LinkKey LinkFact
  file_look = Outer (File e.file)

  abbrev here : Data
  here = model_in (slice_get files e.file.0)

  abbrev pub once : Noted → Noted
  once old = noted [] (file_look ∷ []) old

  -- where nothing but the file is looked at
  leaves_file : (old : Noted) (rest whole : Names) → whole.step ≡ rest.step → IsMember whole.looks file_look
      → ((f : Fact LinkKey LinkFact) → IsMember whole.looks f → IsMember (file_look ∷ []) f) → rest.looks ≡ [] → Leaves old (once old) rest whole
  leaves_file old rest whole step one only none =
      leaves_noted old (file_look ∷ []) rest whole step (λ f m. inl (only f m))
      (λ f. elim [ inl is ↦ subst (IsMember whole.looks) is one | inr nothing ↦ absurd nothing ])
      (λ f m. absurd (subst (λ fs. IsMember fs f) none m))

  -- it has declared names
  pub step_named : (n : ℕ) (walked : List ElementNo) (old : Noted) → not (is_nil (own_names files e)) ≡ true
      → Leaves old (once old) (named_by files (By e)) (names_from (suc n) walked e (reading files table))
  unfolding names_from
  step_named n walked old some = leaves_file old _ _ (rw some refl) (rw some (inl refl)) (rw some (λ f m. m)) refl

  -- it was passed before
  pub step_walked : (n : ℕ) (walked : List ElementNo) (old : Noted) → not (is_nil (own_names files e)) ≡ false → is_in e walked ≡ true
      → Leaves old (once old) (named_by files Nameless) (names_from (suc n) walked e (reading files table))
  unfolding names_from
  step_walked n walked old none there = leaves_file old _ _ (rw (none, there) refl) (rw (none, there) (inl refl)) (rw (none, there) (λ f m. m)) refl

  abbrev numbers : List ℕ
  numbers = numbers_from 0 (λ (r : Reference). nat_eq r.context e.index && link_names.is_redefinition r.role) here.references

  numbers_same : numbers ≡ redefinitions_in here.references e.index
  numbers_same = λ i. numbers_from 0 (λ (r : Reference). nat_eq r.context e.index && same_role r.role i) here.references

  -- what is told of the first is told
  first_told : {A : Type 0} (g : LinkKey → Lookup (List A)) (k : ℕ) (ns : List ℕ) → first_in ns ≡ Some k
      → from_first g (map (key e.file) ns) (reading files table) ≡ g (key e.file k) (reading files table)
  first_told g k [] is = cc
  first_told g k (m ∷ ms) is = let same : m ≡ k = cc in ap (λ (j : ℕ). g (key e.file j) (reading files table)) same

  none_told : {A : Type 0} (g : LinkKey → Lookup (List A)) (ns : List ℕ) → first_in ns ≡ None → from_first g (map (key e.file) ns) (reading files table)
      ≡ done [] (reading files table)
  none_told g [] is = refl
  none_told g (m ∷ ms) is = cc

  none_feature : (n : ℕ) (walked : List ElementNo) → not (is_nil (own_names files e)) ≡ false → is_in e walked ≡ false
      → first_in (redefinitions_in here.references e.index) ≡ None → is_feature (element_in files e).kind ≡ true
      → names_from (suc n) walked e (reading files table) ≡ record { step = Done []; looks = file_look ∷ file_look ∷ file_look ∷ [] }
  unfolding names_from
  none_feature n walked none off first feature =
      let told = none_told (λ r. target r >>= from_first (names_from n (e ∷ walked))) numbers (ap first_in numbers_same ∙ first) in
      rw (none, off, feature) (λ i. record { step = (told i).step; looks = file_look ∷ file_look ∷ file_look ∷ (told i).looks })

  none_other : (n : ℕ) (walked : List ElementNo) → not (is_nil (own_names files e)) ≡ false → is_in e walked ≡ false
      → is_feature (element_in files e).kind ≡ false
      → names_from (suc n) walked e (reading files table) ≡ record { step = Done []; looks = file_look ∷ file_look ∷ [] }
  unfolding names_from
  none_other n walked none off other = rw (none, off, other) refl

  -- it has no redefinition
  pub step_none : (n : ℕ) (walked : List ElementNo) (old : Noted) → not (is_nil (own_names files e)) ≡ false → is_in e walked ≡ false
      → first_in (redefinitions_in here.references e.index) ≡ None
      → Leaves old (once old) (named_by files Nameless) (names_from (suc n) walked e (reading files table))
  step_none n walked old none off first = elim (bool_cases (is_feature (element_in files e).kind)) [
    | inl feature ↦ subst (Leaves old (once old) (named_by files Nameless)) (sym (none_feature n walked none off first feature)) (leaves_file old
        (named_by files Nameless) _ refl (inl refl) three refl)
    | inr other ↦ subst (Leaves old (once old) (named_by files Nameless)) (sym (none_other n walked none off other)) (leaves_file old
        (named_by files Nameless) _ refl (inl refl) two refl)
  ]
    where
      two : (f : Fact LinkKey LinkFact) → IsMember (file_look ∷ file_look ∷ []) f → IsMember (file_look ∷ []) f
      two f = elim [ inl is ↦ inl is | inr m ↦ m ]

      three : (f : Fact LinkKey LinkFact) → IsMember (file_look ∷ file_look ∷ file_look ∷ []) f → IsMember (file_look ∷ []) f
      three f = elim [ inl is ↦ inl is | inr m ↦ two f m ]

  -- what follows its first redefinition, the reference of that number
  abbrev pub after_first : ℕ → List ElementNo → ℕ → Lookup (List (List ℕ))
  after_first n walked k = target (key e.file k) >>= from_first (names_from n (e ∷ walked))

  step_goes : (n : ℕ) (walked : List ElementNo) (k : ℕ) → not (is_nil (own_names files e)) ≡ false → is_in e walked ≡ false
      → is_feature (element_in files e).kind ≡ true → first_in (redefinitions_in here.references e.index) ≡ Some k
      → names_from (suc n) walked e (reading files table)
      ≡ record {
        step = (after_first n walked k (reading files table)).step;
        looks = file_look ∷ file_look ∷ file_look ∷ (after_first n walked k
            (reading files table)).looks;
      }
  unfolding names_from
  step_goes n walked k none off feature first =
      let told = first_told (λ r. target r >>= from_first (names_from n (e ∷ walked))) k numbers (ap first_in numbers_same ∙ first) in
      rw (none, off, feature) (λ i. record { step = (told i).step; looks = file_look ∷ file_look ∷ file_look ∷ (told i).looks })

  -- where its first redefinition leads
  abbrev pub stride_of : Read → Stride
  stride_of (reads.Open r) = Ends (Open r)
  stride_of reads.Nowhere = Ends Nameless
  stride_of (reads.At t) = Goes t

  -- what the stage after the reading leaves
  record IsRest (rest whole : Names) (looks : Facts) : Type 0 where
    pub step : whole.step ≡ rest.step
    pub all : (f : Fact LinkKey LinkFact) → IsMember whole.looks f → IsMember looks f ⊎ IsMember rest.looks f
    pub some : (f : Fact LinkKey LinkFact) → IsMember looks f → IsMember whole.looks f
    pub left : (f : Fact LinkKey LinkFact) → IsMember rest.looks f → IsMember whole.looks f

  after_read : (n : ℕ) (walked : List ElementNo) (k : ℕ) (read : Read) (step : Step LinkKey (List ElementNo)) → step ≡ step_of read
      → IsRest (rest_of files table n walked e (stride_of read)) (then_step (target (key e.file k) (reading files table)) (λ ts. from_first (names_from n
      (e ∷ walked)) ts (reading files table)) step)
      (target (key e.file k) (reading files table)).looks
  after_read n walked k (reads.Open r) step is = rw is (record { step = refl; all = λ f m. inl m; some = λ f m. m; left = λ f m. absurd m })
  after_read n walked k reads.Nowhere step is =
      let seen = (target (key e.file k) (reading files table)).looks in
      rw is (record {
        step = refl;
        all = λ f m. elim (member_cases seen [] f m) [ inl l ↦ inl l | inr none ↦ absurd none ];
        some = λ f m. member_left seen [] f m;
        left = λ f m. absurd m;
      })
  after_read n walked k (reads.At t) step is =
      let seen = (target (key e.file k) (reading files table)).looks in
      let more = (names_from n (e ∷ walked) t (reading files table)).looks in
      rw is (record { step = refl; all = λ f m. member_cases seen more f m; some = λ f m. member_left seen more f m; left = λ f m. member_right seen more f m })

  pub step_read : (n : ℕ) (walked : List ElementNo) (old new : Noted) (k : ℕ) → not (is_nil (own_names files e)) ≡ false → is_in e walked ≡ false
      → is_feature (element_in files e).kind ≡ true → first_in (redefinitions_in here.references e.index) ≡ Some k
      → (read : Read) → (target (key e.file k) (reading files table)).step ≡ step_of read → new ≡ noted [] (target (key e.file k)
      (reading files table)).looks (once old)
      → Leaves old new (rest_of files table n walked e (stride_of read)) (names_from (suc n) walked e (reading files table))
  step_read n walked old new k none off feature first read is grown =
      let goes = step_goes n walked k none off feature first in
      let same = after_read n walked k read (target (key e.file k) (reading files table)).step is in
      let seen = (target (key e.file k) (reading files table)).looks in
      let rest = rest_of files table n walked e (stride_of read) in
      subst (λ (m : Noted). Leaves old m rest (names_from (suc n) walked e (reading files table))) (sym grown)
      (subst (Leaves old (noted [] (file_look ∷ seen) old) rest) (sym goes)
      (leaves_noted old (file_look ∷ seen) rest _ same.step
      (λ f. elim [
        | inl is ↦ inl (inl is)
        | inr m ↦ elim m [
          | inl is ↦ inl (inl is)
          | inr l ↦ elim l [
            | inl is ↦ inl (inl is)
            | inr a ↦ elim (same.all f a)
                [ inl b ↦ inl (inr b) | inr c ↦ inr c ]
          ]
        ]
      ])
      (λ f. elim [ inl is ↦ inl is | inr m ↦ inr (inr (inr (same.some f m))) ])
      (λ f m. inr (inr (inr (same.left f m))))))

-- ---- steps one after another

then_alike : {A B : Type 0} (w : LinkWorld) (c : Lookup A) (f g : A → Lookup B) → ((x : A) → f x w ≡ g x w) → (c >>= f) w ≡ (c >>= g) w
then_alike w c f g same = λ i. then_step (c w) (λ x. same x i) (c w).step

first_alike : {A B : Type 0} (w : LinkWorld) (f g : A → Lookup (List B)) → ((x : A) → f x w ≡ g x w) → (xs : List A) → from_first f xs w ≡ from_first g xs w
first_alike w f g same [] = refl
first_alike w f g same (x ∷ xs) = same x

cond_alike : {A : Type 0} (w : LinkWorld) (b : Bool) (c d d' : Lookup A) → d w ≡ d' w → cond b c d w ≡ cond b c d' w
cond_alike w true c d d' same = refl
cond_alike w false c d d' same = same

-- the way doesn't hang on the order of what was passed
pub passed_alike : (w : LinkWorld) (n : ℕ) (us ws : List ElementNo) → ((t : ElementNo) → is_in t us ≡ is_in t ws) → (e : ElementNo)
    → names_from n us e w ≡ names_from n ws e w
unfolding names_from
passed_alike w zero us ws same e = refl
passed_alike w (suc n) us ws same e =
    let inner = passed_alike w n (e ∷ us) (e ∷ ws) (λ t. ap (λ b. same_element t e || b) (same t)) in
    let f_us : LinkKey → Lookup (List (List ℕ)) = λ r. target r >>= from_first (names_from n (e ∷ us)) in
    let f_ws : LinkKey → Lookup (List (List ℕ)) = λ r. target r >>= from_first (names_from n (e ∷ ws)) in
    let each : (r : LinkKey) → f_us r w ≡ f_ws r w =
    λ r. then_alike w (target r) (from_first (names_from n (e ∷ us))) (from_first (names_from n (e ∷ ws))) (first_alike w (names_from n (e ∷ us))
    (names_from n (e ∷ ws)) inner) in
    let on : (redefinitions e >>= from_first f_us) w ≡ (redefinitions e >>= from_first f_ws) w =
    then_alike w (redefinitions e) (from_first f_us) (from_first f_ws) (first_alike w f_us f_ws each) in
    let next : cond (is_in e us) (done []) (redefinitions e >>= from_first f_us) w ≡ cond (is_in e ws) (done []) (redefinitions e >>= from_first f_ws) w =
    subst (λ b. cond (is_in e us) (done []) (redefinitions e >>= from_first f_us) w ≡ cond b (done []) (redefinitions e >>= from_first f_ws) w) (same e)
    (cond_alike w (is_in e us) (done []) (redefinitions e >>= from_first f_us) (redefinitions e >>= from_first f_ws) on) in
    then_alike w (element e)
    (λ (x : Element). cond (not (is_nil (declared_names x.short x.name))) (done (declared_names x.short x.name)) (cond (is_in e us) (done [])
    (redefinitions e >>= from_first f_us)))
    (λ (x : Element). cond (not (is_nil (declared_names x.short x.name))) (done (declared_names x.short x.name)) (cond (is_in e ws) (done [])
    (redefinitions e >>= from_first f_ws)))
    (λ x. cond_alike w (not (is_nil (declared_names x.short x.name))) (done (declared_names x.short x.name))
    (cond (is_in e us) (done []) (redefinitions e >>= from_first f_us)) (cond (is_in e ws) (done []) (redefinitions e >>= from_first f_ws)) next)

pub leaves_begin : (old : Noted) (whole : Names) → Leaves old old whole whole
leaves_begin old whole = record { step = refl; waits = refl; kept = λ f m. m; shown = λ f m. inr m; only = λ f m. inl m; left = λ f m. m }

pub leaves_on : (old mid new : Noted) (last rest whole : Names) → Leaves old mid rest whole → Leaves mid new last rest → Leaves old new last whole
leaves_on old mid new last rest whole a b = record {
  step = a.step ∙ b.step;
  waits = b.waits ∙ a.waits;
  kept = λ f m. b.kept f (a.kept f m);
  shown = λ f m. elim (a.shown f m) [ inl now ↦ inl (b.kept f now) | inr later ↦ b.shown f later ];
  only = λ f m. elim (b.only f m) [ inl before ↦ a.only f before | inr now ↦ inr (a.left f now) ];
  left = λ f m. a.left f (b.left f m);
}

-- one step more of the way
pub way_on : (files : List StoredFile) (table : List (LinkKey × Outcome)) (e : ElementNo) (walked ws : List ElementNo) (old mid new : Noted) (whole : Names)
    (k n : ℕ) (stride : Stride)
    → ((t : ElementNo) → is_in t walked ≡ is_in t ws) → k ≡ suc n → Leaves old mid (names_from k ws e (reading files table)) whole
    → ((m : ℕ) → Leaves mid new (rest_of files table m walked e stride) (names_from (suc m) walked e (reading files table))) → Leaves old new
    (rest_of files table n walked e stride) whole
way_on files table e walked ws old mid new whole k n stride same steps a b =
    let w = reading files table in
    let is : names_from (suc n) walked e w ≡ names_from k ws e w = passed_alike w (suc n) walked ws same e ∙ ap (λ (j : ℕ). names_from j ws e w) (sym steps) in
    leaves_on old mid new (rest_of files table n walked e stride) (names_from k ws e w) whole a (subst (λ (x : Names). Leaves mid new
    (rest_of files table n walked e stride) x) is (b n))

pub no_steps : (w : LinkWorld) (ws : List ElementNo) (e : ElementNo) → names_from 0 ws e w ≡ done [] w
unfolding names_from
no_steps w ws e = refl

-- an element that was lent is the one in the models
pub own_is : (files : List StoredFile) (e : ElementNo) (d : Data) (x : Element) → model_in (slice_get files e.file.0) ≡ d → slice_get d.elements e.index
    ≡ Some x → element_in files e ≡ x
own_is files e d x there at = ap (λ (m : Data). get_or m.elements e.index root_element) there ∙ found d.elements e.index at
  where
    found : (es : List Element) (i : ℕ) → slice_get es i ≡ Some x → get_or es i root_element ≡ x
    found [] i at = cc
    found (y ∷ es) zero at = cc
    found (y ∷ es) (suc i) at = found es i at

pub done_same : {A : Type 0} (x y : A) → ready x ≡ ready y → x ≡ y
done_same x y e = cc

pub feature_of : (files : List StoredFile) (e : ElementNo) (d : Data) (k : ℕ) → model_in (slice_get files e.file.0) ≡ d → IsModel d → first_in
    (redefinitions_in d.references e.index) ≡ Some k → is_feature (element_in files e).kind ≡ true
feature_of files e d k there model first = ap (λ (m : Data). is_feature (get_or m.elements e.index root_element).kind) there
    ∙ redefines_feature d model e.index k first
