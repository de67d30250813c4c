-- Tests over lists, and what they say of members.
use Rattle.std.proofs.Common.{◌≡◌, ℕ, ◌+◌, ◌<◌, ◌≤◌, Bool, true, false, List, [], ◌∷◌, ◌++◌, map, drop, get_or, length, refl, sym, ◌∙◌, ap, subst, inl, inr, append_assoc, append-nil}
use Rattle.link_model.specs.Readers.{only_if}
use Rattle.link_walk.proofs.TookLaws.{next_is, none_left}
use Rattle.std.specs.Prelude.{not, ◌&&◌, ◌||◌, ◌⊎◌}
use Rattle.std.specs.List.{list_any}
use Rattle.linker_base.specs.Members.{IsMember}
use Rattle.linker_base.proofs.Cases.{bool_cases}
use Rattle.linker_base.proofs.MemberLaws.{member_test, test_member}
use Rattle.element_store.specs.Numbers.{chosen, those_where}
use Rattle.element_store.specs.declared.numbers.ElementNo.{ElementNo}
use Rattle.link_model.specs.Keys.{same_element, element_is_exact, is_in}

-- two tests of which each follows from the other
pub bool_by : (a b : Bool) → (a ≡ true → b ≡ true) → (b ≡ true → a ≡ true) → a ≡ b
bool_by true true f g = refl
bool_by true false f g = sym (f refl)
bool_by false true f g = g refl
bool_by false false f g = refl

pub five_true : (a b c d e : Bool) → (a && b && c && d && e) ≡ true → (a ≡ true) × (b ≡ true) × (c ≡ true) × (d ≡ true) × (e ≡ true)
five_true true true true true true h = (refl, refl, refl, refl, refl)
five_true true true true true false h = cc
five_true true true true false e h = cc
five_true true true false d e h = cc
five_true true false c d e h = cc
five_true false b c d e h = cc

pub true_five : (a b c d e : Bool) → a ≡ true → b ≡ true → c ≡ true → d ≡ true → e ≡ true → (a && b && c && d && e) ≡ true
true_five a b c d e p q r s t = rw (p, q, r, s, t) refl

pub three_true : (a b c : Bool) → (a && b && c) ≡ true → (a ≡ true) × (b ≡ true) × (c ≡ true)
three_true true true true h = (refl, refl, refl)
three_true true true false h = cc
three_true true false c h = cc
three_true false b c h = cc

pub true_three : (a b c : Bool) → a ≡ true → b ≡ true → c ≡ true → (a && b && c) ≡ true
true_three a b c p q r = rw (p, q, r) refl

pub or_cases : (a b : Bool) → (a || b) ≡ true → (a ≡ true) ⊎ (b ≡ true)
or_cases true b h = inl refl
or_cases false b h = inr h

pub or_left : (a b : Bool) → a ≡ true → (a || b) ≡ true
or_left true b h = refl
or_left false b h = cc

pub or_right : (a b : Bool) → b ≡ true → (a || b) ≡ true
or_right true b h = refl
or_right false b h = h

pub not_true : (a : Bool) → not a ≡ true → a ≡ false
not_true true h = cc
not_true false h = refl

pub not_false : (a : Bool) → a ≡ false → not a ≡ true
not_false true h = cc
not_false false h = refl

pub any_member : {A : Type 0} (f : A → Bool) (xs : List A) → list_any f xs ≡ true → (a : A) × IsMember xs a × (f a ≡ true)
any_member f [] e = cc
any_member f (x ∷ xs) e = elim (or_cases (f x) (list_any f xs) e) [
  | inl is ↦ (x, inl refl, is)
  | inr later ↦ let more = any_member f xs later in (more.0, inr more.1, more.2)
]

pub member_any : {A : Type 0} (f : A → Bool) (xs : List A) (a : A) → IsMember xs a → f a ≡ true → list_any f xs ≡ true
member_any f [] a m e = absurd m
member_any f (x ∷ xs) a (inl is) e = or_left (f x) (list_any f xs) (ap f is ∙ e)
member_any f (x ∷ xs) a (inr m) e = or_right (f x) (list_any f xs) (member_any f xs a m e)

-- an element that is in a list is a member
pub in_member : (es : List ElementNo) (e : ElementNo) → is_in e es ≡ true → IsMember es e
in_member es e h = test_member same_element element_is_exact es e h

pub member_in : (es : List ElementNo) (e : ElementNo) → IsMember es e → is_in e es ≡ true
member_in es e m = member_test same_element element_is_exact es e m

pub same_is : (a b : ElementNo) → same_element a b ≡ true → a ≡ b
same_is a b h = element_is_exact.exact a b h

pub is_same : (a b : ElementNo) → a ≡ b → same_element a b ≡ true
is_same a b e = subst (λ z. same_element a z ≡ true) e (element_is_exact.itself a)

-- the test asks the same the other way round
pub same_flip : (a b : ElementNo) → same_element a b ≡ same_element b a
same_flip a b = bool_by (same_element a b) (same_element b a) (λ h. is_same b a (sym (same_is a b h))) (λ h. is_same a b (sym (same_is b a h)))

pub differs : (a b : ElementNo) → (a ≡ b → ⊥) → same_element a b ≡ false
differs a b h = elim (bool_cases (same_element a b)) [ inl e ↦ absurd (h (same_is a b e)) | inr n ↦ n ]

-- those of a list that pass a test
pub where_member : {A : Type 0} (f : A → Bool) (xs : List A) (a : A) → IsMember (those_where f xs) a → IsMember xs a × (f a ≡ true)
where_member f [] a m = absurd m
where_member f (x ∷ xs) a m = by (f x) refl m (λ k. where_member f xs a k)
  where
    by : (b : Bool) → f x ≡ b → IsMember (chosen b x (those_where f xs)) a → (IsMember (those_where f xs) a → IsMember xs a × (f a ≡ true))
        → IsMember (x ∷ xs) a × (f a ≡ true)
    by true e (inl is) again = (inl is, ap f (sym is) ∙ e)
    by true e (inr m) again = let more = again m in (inr more.0, more.1)
    by false e m again = let more = again m in (inr more.0, more.1)

pub member_where : {A : Type 0} (f : A → Bool) (xs : List A) (a : A) → IsMember xs a → f a ≡ true → IsMember (those_where f xs) a
member_where f [] a m e = absurd m
member_where f (x ∷ xs) a (inl is) e = subst (λ b. IsMember (chosen b x (those_where f xs)) a) (sym (ap f is ∙ e)) (inl is)
member_where f (x ∷ xs) a (inr m) e = by (f x) (member_where f xs a m e)
  where
    by : (b : Bool) → IsMember (those_where f xs) a → IsMember (chosen b x (those_where f xs)) a
    by true more = inr more
    by false more = more

-- ---- loops that fill a set

-- an element more is in, and one less is left
pub one_moved : (p q r : Bool) → ((p || q) || r) ≡ (q || (p || r))
one_moved true true r = refl
one_moved true false r = refl
one_moved false q r = refl

pub or_none : (a : Bool) → (a || false) ≡ a
or_none true = refl
or_none false = refl

-- ---- loops that list those of a test

chosen_is : {A : Type 0} (b : Bool) (x : A) (rest : List A) → only_if b x ++ rest ≡ chosen b x rest
chosen_is true x rest = refl
chosen_is false x rest = refl

chosen_map : {A B : Type 0} (f : A → B) (b : Bool) (x : A) (rest : List A) → only_if b (f x) ++ map f rest ≡ map f (chosen b x rest)
chosen_map f true x rest = refl
chosen_map f false x rest = refl

pub where_next : {A : Type 0} (t : A → Bool) (xs : List A) (i : ℕ) (d x : A) (b : Bool) (old new whole : List A) → i < length xs → x ≡ get_or xs i d
    → b ≡ t x → new ≡ old ++ only_if b x → old ++ those_where t (drop i xs) ≡ whole → new ++ those_where t (drop (i + 1) xs) ≡ whole
where_next t xs i d x b old new whole lt item test is h =
    let rest = those_where t (drop (i + 1) xs) in
    ap (λ z. z ++ rest) (is ∙ ap (λ z. old ++ only_if z x) test) ∙ (append_assoc old (only_if (t x) x) rest
    ∙ (ap (λ z. old ++ z) (chosen_is (t x) x rest) ∙ (ap (λ z. old ++ chosen (t z) z rest) item
    ∙ (ap (λ z. old ++ those_where t z) (sym (next_is xs i d lt)) ∙ h))))

pub map_next : {A B : Type 0} (f : A → B) (t : A → Bool) (xs : List A) (i : ℕ) (d x : A) (b : Bool) (old new whole : List B) → i < length xs
    → x ≡ get_or xs i d → b ≡ t x → new ≡ old ++ only_if b (f x) → old ++ map f (those_where t (drop i xs)) ≡ whole
    → new ++ map f (those_where t (drop (i + 1) xs)) ≡ whole
map_next f t xs i d x b old new whole lt item test is h =
    let rest = those_where t (drop (i + 1) xs) in
    ap (λ z. z ++ map f rest) (is ∙ ap (λ z. old ++ only_if z (f x)) test) ∙ (append_assoc old (only_if (t x) (f x)) (map f rest)
    ∙ (ap (λ z. old ++ z) (chosen_map f (t x) x rest) ∙ (ap (λ z. old ++ map f (chosen (t z) z rest)) item
    ∙ (ap (λ z. old ++ map f (those_where t z)) (sym (next_is xs i d lt)) ∙ h))))

pub where_end : {A : Type 0} (t : A → Bool) (xs : List A) (i : ℕ) (now whole : List A) → length xs ≤ i → now ++ those_where t (drop i xs) ≡ whole → now ≡ whole
where_end t xs i now whole end h = sym (append-nil now) ∙ (ap (λ z. now ++ those_where t z) (sym (none_left xs i end)) ∙ h)

pub map_end : {A B : Type 0} (f : A → B) (t : A → Bool) (xs : List A) (i : ℕ) (now whole : List B) → length xs ≤ i
    → now ++ map f (those_where t (drop i xs)) ≡ whole → now ≡ whole
map_end f t xs i now whole end h = sym (append-nil now) ∙ (ap (λ z. now ++ map f (those_where t z)) (sym (none_left xs i end)) ∙ h)
