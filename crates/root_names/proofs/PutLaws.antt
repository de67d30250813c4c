-- Members put in among others, and taken away from them.
use Rattle.std.proofs.Common.{◌≡◌, ◌<◌, ◌+◌, ℕ, zero, suc, arith, Bool, true, false, cond, List}
use Rattle.std.proofs.Common.{[], ◌∷◌, ◌++◌, length, take, get_or, refl, sym, ◌∙◌, ap, subst, inl, inr}
use Rattle.std.specs.Prelude.{Some, slice_get, insert, ◌||◌}
use Rattle.std.specs.List.{flat_map}
use Rattle.std.proofs.lemmas.Option.{slice_get-get_or}
use Rattle.std.proofs.lemmas.Bool.{cases_eq}
use Rattle.linker_base.specs.Members.{IsMember}
use Rattle.linker_base.proofs.Cases.{bool_cases}
use Rattle.linker_base.proofs.MemberLaws.{member_cases}
use Rattle.element_store.specs.declared.numbers.FileNo.{FileNo}
use Rattle.element_store.specs.declared.numbers.MemberNo.{MemberNo}
use Rattle.element_store.specs.Numbers.{those_where, chosen}
use Rattle.element_store.specs.Readings.{is_any}
use Rattle.root_names.specs.Steps.{is_other, others, left, put_before, put_each}

-- ---- put in

cond_true : {A : Type 0} (b : Bool) (x y : A) → b ≡ true → cond b x y ≡ x
cond_true true x y e = refl
cond_true false x y e = cc

cond_false : {A : Type 0} (b : Bool) (x y : A) → b ≡ false → cond b x y ≡ y
cond_false true x y e = cc
cond_false false x y e = refl

module _ (test : MemberNo → Bool) where
  -- a member that doesn't pass is passed over
  put_over : (ms : List MemberNo) (y : MemberNo) (ys : List MemberNo) → test y ≡ false → put_each test ms (y ∷ ys) ≡ y ∷ put_each test ms ys
  put_over [] y ys h = refl
  put_over (m ∷ ms) y ys h = ap (put_each test ms) (cond_false (test y) (m ∷ y ∷ ys) (y ∷ put_before test m ys) h) ∙ put_over ms y (put_before test m ys) h

  pub put_behind : (ms xs ys : List MemberNo) → ((y : MemberNo) → IsMember xs y → test y ≡ false) → put_each test ms (xs ++ ys) ≡ xs ++ put_each test ms ys
  put_behind ms [] ys h = refl
  put_behind ms (x ∷ xs) ys h = put_over ms x (xs ++ ys) (h x (inl refl)) ∙ ap (λ zs. x ∷ zs) (put_behind ms xs ys (λ y among. h y (inr among)))

  put_first : (m : MemberNo) (ys : List MemberNo) → ((y : MemberNo) → IsMember ys y → test y ≡ true) → put_before test m ys ≡ m ∷ ys
  put_first m [] h = refl
  put_first m (y ∷ ys) h = cond_true (test y) (m ∷ y ∷ ys) (y ∷ put_before test m ys) (h y (inl refl))

  -- where all pass, the new ones stand first
  pub put_front : (ms ys : List MemberNo) → ((y : MemberNo) → IsMember ms y → test y ≡ false) → ((y : MemberNo) → IsMember ys y → test y ≡ true)
      → put_each test ms ys ≡ ms ++ ys
  put_front [] ys own h = refl
  put_front (m ∷ ms) ys own h =
      ap (put_each test ms) (put_first m ys h) ∙ put_over ms m ys (own m (inl refl)) ∙ ap (λ zs. m ∷ zs) (put_front ms ys (λ y among. own y (inr among)) h)

  -- some, and then the others
  pub put_both : (ms ns xs : List MemberNo) → put_each test (ms ++ ns) xs ≡ put_each test ns (put_each test ms xs)
  put_both [] ns xs = refl
  put_both (m ∷ ms) ns xs = put_both ms ns (put_before test m xs)

  -- a member under two names: there is one that it bears
  pub put_once : (a b : Bool) (m : MemberNo) (xs : List MemberNo) → (a ≡ true → b ≡ true → ⊥)
      → put_each test (chosen b m []) (put_each test (chosen a m []) xs) ≡ put_each test (chosen (a || b) m []) xs
  put_once true true m xs h = absurd (h refl refl)
  put_once true false m xs h = refl
  put_once false b m xs h = refl

  -- the place of the first that passes
  pub put_there : (xs : List MemberNo) (i : ℕ) (y : MemberNo) → ((k : ℕ) (z : MemberNo) → k < i → slice_get xs k ≡ Some z → test z ≡ false)
      → slice_get xs i ≡ Some y
      → test y ≡ true → (m : MemberNo) → insert xs i m ≡ put_before test m xs
  put_there [] i y before is passes m = cc
  put_there (x ∷ xs) zero y before is passes m =
      let same : x ≡ y = cc in
      sym (cond_true (test x) (m ∷ x ∷ xs) (x ∷ put_before test m xs) (ap test same ∙ passes))
  put_there (x ∷ xs) (suc i) y before is passes m =
      ap (λ ys. x ∷ ys) (put_there xs i y (λ k z lt at. before (suc k) z (omega arith) at) is passes m)
      ∙ sym (cond_false (test x) (m ∷ x ∷ xs) (x ∷ put_before test m xs) (before 0 x (omega arith) refl))

  -- or none passes
  pub put_last : (xs : List MemberNo) → ((k : ℕ) (z : MemberNo) → k < length xs → slice_get xs k ≡ Some z → test z ≡ false) → (m : MemberNo)
      → insert xs (length xs) m ≡ put_before test m xs
  put_last [] before m = refl
  put_last (x ∷ xs) before m =
      ap (λ ys. x ∷ ys) (put_last xs (λ k z lt at. before (suc k) z (omega arith) at) m)
      ∙ sym (cond_false (test x) (m ∷ x ∷ xs) (x ∷ put_before test m xs) (before 0 x (omega arith) refl))

-- ---- taken away

pub where_both : {A : Type 0} (p : A → Bool) (xs ys : List A) → those_where p (xs ++ ys) ≡ those_where p xs ++ those_where p ys
where_both p [] ys = refl
where_both {A = A} p (x ∷ xs) ys = more (p x) (those_where p xs) (those_where p ys) (those_where p (xs ++ ys)) (where_both p xs ys)
  where
    more : (b : Bool) (us vs ws : List A) → ws ≡ us ++ vs → chosen b x ws ≡ chosen b x us ++ vs
    more true us vs ws e = ap (λ zs. x ∷ zs) e
    more false us vs ws e = e

pub where_all : {A : Type 0} (p : A → Bool) (xs : List A) → ((x : A) → IsMember xs x → p x ≡ true) → those_where p xs ≡ xs
where_all p [] h = refl
where_all p (x ∷ xs) h = (λ i. chosen (h x (inl refl) i) x (those_where p xs)) ∙ ap (λ ys. x ∷ ys) (where_all p xs (λ y among. h y (inr among)))

pub where_none : {A : Type 0} (p : A → Bool) (xs : List A) → ((x : A) → IsMember xs x → p x ≡ false) → those_where p xs ≡ []
where_none p [] h = refl
where_none p (x ∷ xs) h = (λ i. chosen (h x (inl refl) i) x (those_where p xs)) ∙ where_none p xs (λ y among. h y (inr among))

where_twice : {A : Type 0} (p : A → Bool) (xs : List A) → those_where p (those_where p xs) ≡ those_where p xs
where_twice p [] = refl
where_twice p (x ∷ xs) = elim (bool_cases (p x)) [
  | inl a ↦ rw a ((λ i. chosen (a i) x (those_where p (those_where p xs))) ∙ ap (λ ys. x ∷ ys) (where_twice p xs))
  | inr b ↦ rw b (where_twice p xs)
]

pub others_twice : (f : FileNo) (xs : List MemberNo) → others f (others f xs) ≡ others f xs
others_twice f xs = where_twice (is_other f) xs

pub left_twice : (f : FileNo) (a b : Bool) (xs : List MemberNo) → left f b (left f a xs) ≡ left f (a || b) xs
left_twice f true true xs = others_twice f xs
left_twice f true false xs = refl
left_twice f false b xs = refl

-- a member of the file that is put in and taken away
others_before : (f : FileNo) (test : MemberNo → Bool) (m : MemberNo) (xs : List MemberNo) → is_other f m ≡ false → others f (put_before test m xs) ≡ others f xs
others_before f test m [] own = λ i. chosen (own i) m []
others_before f test m (y ∷ ys) own = elim (bool_cases (test y)) [
  | inl a ↦ rw a (λ i. chosen (own i) m (others f (y ∷ ys)))
  | inr b ↦ rw b (ap (chosen (is_other f y) y) (others_before f test m ys own))
]

pub others_each : (f : FileNo) (test : MemberNo → Bool) (ms xs : List MemberNo) → ((m : MemberNo) → IsMember ms m → is_other f m ≡ false)
    → others f (put_each test ms xs) ≡ others f xs
others_each f test [] xs own = refl
others_each f test (m ∷ ms) xs own = others_each f test ms (put_before test m xs) (λ n among. own n (inr among)) ∙ others_before f test m xs (own m (inl refl))

-- ---- lists of lists

any_both : {A : Type 0} (xs ys : List A) → is_any (xs ++ ys) ≡ is_any xs || is_any ys
any_both [] ys = refl
any_both (x ∷ xs) ys = refl

none_after : {A : Type 0} (xs : List A) → xs ++ [] ≡ xs
none_after [] = refl
none_after (x ∷ xs) = ap (λ ys. x ∷ ys) (none_after xs)

joined_either : {A : Type 0} (xs ys zs : List A) → xs ++ (ys ++ zs) ≡ (xs ++ ys) ++ zs
joined_either [] ys zs = refl
joined_either (x ∷ xs) ys zs = ap (λ us. x ∷ us) (joined_either xs ys zs)

-- what the items of a list up to the next one give
flat_more : {A B : Type 0} (g : A → List B) (xs : List A) (i : ℕ) (x : A) → slice_get xs i ≡ Some x
    → flat_map g (take (suc i) xs) ≡ flat_map g (take i xs) ++ g x
flat_more g [] i x is = cc
flat_more g (y ∷ ys) zero x is = let same : y ≡ x = cc in ap (λ z. g z ++ []) same ∙ none_after (g x)
flat_more g (y ∷ ys) (suc i) x is = ap (λ zs. g y ++ zs) (flat_more g ys i x is) ∙ joined_either (g y) (flat_map g (take i ys)) (g x)

flat_there : {A B : Type 0} (g : A → List B) (xs : List A) (i : ℕ) (d : A) → i < length xs
    → flat_map g (take (i + 1) xs) ≡ flat_map g (take i xs) ++ g (get_or xs i d)
flat_there g xs i d lt =
    let e : i + 1 ≡ suc i = omega arith in
    ap (λ k. flat_map g (take k xs)) e ∙ flat_more g xs i (get_or xs i d) (slice_get-get_or xs i d lt)

pub among_flat : {A B : Type 0} (g : A → List B) (xs : List A) (y : B) → IsMember (flat_map g xs) y → (x : A) × IsMember xs x × IsMember (g x) y
among_flat g [] y h = absurd h
among_flat g (x ∷ xs) y h = elim (member_cases (g x) (flat_map g xs) y h) [
  | inl here ↦ (x, inl refl, here)
  | inr there ↦ let r = among_flat g xs y there in (r.0, inr r.1, r.2)
]

nothing_before : {A : Type 0} (xs ys : List A) → xs ++ ys ≡ [] → (xs ≡ []) × (ys ≡ [])
nothing_before [] ys e = (refl, e)
nothing_before (x ∷ xs) ys e = cc

nothing_taken : {A B : Type 0} (g : A → List B) (xs : List A) (i : ℕ) → flat_map g xs ≡ [] → flat_map g (take i xs) ≡ []
nothing_taken g [] zero e = refl
nothing_taken g [] (suc i) e = refl
nothing_taken g (x ∷ xs) zero e = refl
nothing_taken g (x ∷ xs) (suc i) e =
    let both = nothing_before (g x) (flat_map g xs) e in
    λ k. both.0 k ++ nothing_taken g xs i both.1 k

nothing_at : {A B : Type 0} (g : A → List B) (xs : List A) (i : ℕ) (x : A) → slice_get xs i ≡ Some x → flat_map g xs ≡ [] → g x ≡ []
nothing_at g [] i x is e = cc
nothing_at g (y ∷ xs) zero x is e = let same : y ≡ x = cc in ap g (sym same) ∙ (nothing_before (g y) (flat_map g xs) e).0
nothing_at g (y ∷ xs) (suc i) x is e = nothing_at g xs i x is (nothing_before (g y) (flat_map g xs) e).1

among_taken : {A B : Type 0} (g : A → List B) (xs : List A) (i : ℕ) (y : B) → IsMember (flat_map g (take i xs)) y → (x : A) × IsMember (g x) y
among_taken g xs i y h = let r = among_flat g (take i xs) y h in (r.0, r.2)

-- ---- item by item

pub taken_more : {A : Type 0} (g : A → List MemberNo) (items : List A) (i : ℕ) (d : A) (f : FileNo) (before so_far now : List MemberNo) → i < length items
    → now ≡ left f (is_any (g (get_or items i d))) so_far → so_far ≡ left f (is_any (flat_map g (take i items))) before
    → now ≡ left f (is_any (flat_map g (take (i + 1) items))) before
taken_more g items i d f before so_far now lt step old =
    step ∙ ap (left f (is_any (g (get_or items i d)))) old
    ∙ left_twice f (is_any (flat_map g (take i items))) (is_any (g (get_or items i d))) before
    ∙ ap (λ b. left f b before) (sym (any_both (flat_map g (take i items)) (g (get_or items i d))))
    ∙ ap (λ ms. left f (is_any ms) before) (sym (flat_there g items i d lt))

pub put_more : {A : Type 0} (g : A → List MemberNo) (items : List A) (i : ℕ) (d : A) (test : MemberNo → Bool) (before so_far now : List MemberNo)
    → i < length items
    → now ≡ put_each test (g (get_or items i d)) so_far → so_far ≡ put_each test (flat_map g (take i items)) before
    → now ≡ put_each test (flat_map g (take (i + 1) items)) before
put_more g items i d test before so_far now lt step old =
    step ∙ ap (put_each test (g (get_or items i d))) old
    ∙ sym (put_both test (flat_map g (take i items)) (g (get_or items i d)) before)
    ∙ ap (λ ms. put_each test ms before) (sym (flat_there g items i d lt))

-- want of memory at an item
pub partly_more : {A : Type 0} (g : A → List MemberNo) (items : List A) (i : ℕ) (d : A) (f : FileNo) (test : MemberNo
    → Bool) (before so_far now : List MemberNo)
    → i < length items → ((item : A) (m : MemberNo) → IsMember (g item) m → is_other f m ≡ false)
    → (others f now ≡ others f so_far) × (g (get_or items i d) ≡ [] → now ≡ so_far) → so_far ≡ put_each test (flat_map g (take i items)) before
    → (others f now ≡ others f before) × (flat_map g items ≡ [] → now ≡ before)
partly_more g items i d f test before so_far now lt own step old = (
  step.0 ∙ ap (others f) old
      ∙ others_each f test (flat_map g (take i items)) before (λ m among. let r = among_taken g items i m among in own r.0 m r.1),
  λ none. step.1 (nothing_at g items i (get_or items i d) (slice_get-get_or items i d lt) none) ∙ old
      ∙ ap (λ ms. put_each test ms before) (nothing_taken g items i none),
)

-- what was put in before want of memory, taken away
pub restored : (f : FileNo) (ms before so_far now : List MemberNo) → others f before ≡ before → (others f so_far ≡ others f before) × (ms ≡ []
    → so_far ≡ before)
    → now ≡ left f (is_any ms) so_far → now ≡ before
restored f [] before so_far now none partly taken = taken ∙ partly.1 refl
restored f (m ∷ ms) before so_far now none partly taken = taken ∙ partly.0 ∙ none

-- ---- as the code asks for them

pub place_there : (test : MemberNo → Bool) (xs : List MemberNo) (i : ℕ) (d : MemberNo) (b : Bool) → ((k : ℕ) (z : MemberNo) → k < i
    → slice_get xs k ≡ Some z → test z ≡ false)
    → i < length xs → b ≡ test (get_or xs i d) → b ≡ true → (m : MemberNo) → insert xs i m ≡ put_before test m xs
place_there test xs i d b before lt is true_here = put_there test xs i (get_or xs i d) before (slice_get-get_or xs i d lt) (sym is ∙ true_here)

pub place_over : (test : MemberNo → Bool) (xs : List MemberNo) (i : ℕ) (d : MemberNo) (b : Bool) → ((k : ℕ) (z : MemberNo) → k < i
    → slice_get xs k ≡ Some z → test z ≡ false)
    → i < length xs → b ≡ test (get_or xs i d) → b ≡ false → (k : ℕ) (z : MemberNo) → k < i + 1 → slice_get xs k ≡ Some z → test z ≡ false
place_over test xs i d b before lt is false_here k z below at = elim (cases_eq k i) [
  | inl same ↦
      let here : get_or xs i d ≡ z =
      let found : Some (get_or xs i d) ≡ Some z = sym (slice_get-get_or xs i d lt) ∙ subst (λ j. slice_get xs j ≡ Some z) same at in cc in
      ap test (sym here) ∙ sym is ∙ false_here
  | inr other ↦ before k z (omega arith) at
]

-- want of memory at the second name of a member
pub partly_named : (f : FileNo) (test : MemberNo → Bool) (m : MemberNo) (a b : Bool) (before so_far now : List MemberNo) → is_other f m ≡ false
    → so_far ≡ put_each test (chosen a m []) before → now ≡ so_far → (others f now ≡ others f before) × (chosen (a || b) m [] ≡ [] → now ≡ before)
partly_named f test m true b before so_far now own put same = (
  ap (others f) (same ∙ put) ∙ others_each f test (m ∷ []) before (λ n among. elim among [ inl e ↦ ap (is_other f) (sym e) ∙ own | inr none ↦ absurd none ]),
  λ none. cc,
)
partly_named f test m false b before so_far now own put same = (ap (others f) (same ∙ put), λ none. same ∙ put)
