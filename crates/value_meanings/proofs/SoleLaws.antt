-- Which features others redefine, step by step, and the only one that is left.
use Rattle.std.proofs.Common.{◌≡◌, ◌∙◌, ℕ, ◌+◌, ◌<◌, ◌≤◌, Bool, true, false, List, [], ◌∷◌, ◌++◌, refl, sym, ap, inl, length, get_or, drop, drop-cons, add-one}
use Rattle.std.specs.Prelude.{nat_eq, not, ◌&&◌, ◌||◌, Option, None, Some, is_some}
use Rattle.std.proofs.lemmas.List.{drop_all}
use Rattle.linker_base.specs.Members.{SameMembers, IsEachOnce}
use Rattle.demand_core.proofs.AlikeLaws.{any_over}
use Rattle.element_store.specs.declared.numbers.ElementNo.{ElementNo}
use Rattle.element_store.specs.Numbers.{chosen, those_where}
use Rattle.link_model.specs.Keys.{same_element, element_exact, is_in}
use Rattle.link_model.specs.Outside.{Library}
use Rattle.link_model.specs.Readers.{LinkWorld, listed}
use Rattle.link_model.specs.Settled.{settled_redefined}
use Rattle.value_model.specs.Meant.{is_redefined_among, only, sole_of}
use Rattle.value_meanings.proofs.ListLaws.{only_same, same_those, those_alike, those_once}

other_by : (s n o : Bool) → (s ≡ true → n ≡ false) → (s || o) ≡ (o || (not n && s))
other_by true true o h = let bad : true ≡ false = h refl in cc
other_by true false true h = refl
other_by true false false h = refl
other_by false true true h = refl
other_by false true false h = refl
other_by false false true h = refl
other_by false false false h = refl

same_by : (s n o : Bool) → (s ≡ true → n ≡ true) → o ≡ (o || (not n && s))
same_by true true true h = refl
same_by true true false h = refl
same_by true false o h = let bad : false ≡ true = h refl in cc
same_by false true true h = refl
same_by false true false h = refl
same_by false false true h = refl
same_by false false false h = refl

-- another element is added
pub other_added : (than e g : ElementNo) (old : List ElementNo) → same_element than e ≡ false
    → is_in g (e ∷ old) ≡ (is_in g old || (not (same_element than g) && same_element g e))
other_added than e g old other =
    other_by (same_element g e) (same_element than g) (is_in g old) (λ is. ap (same_element than) (element_exact g e is) ∙ other)

-- the same one isn't
pub same_left : (than e g : ElementNo) (old : List ElementNo) → same_element than e ≡ true
    → is_in g old ≡ (is_in g old || (not (same_element than g) && same_element g e))
same_left than e g old same =
    same_by (same_element g e) (same_element than g) (is_in g old) (λ is. ap (same_element than) (element_exact g e is) ∙ same)

or_and : (o n a r : Bool) → ((o || (n && a)) || (n && r)) ≡ (o || (n && (a || r)))
or_and true n a r = refl
or_and false true a r = refl
or_and false false a r = refl

or_both : (o p r : Bool) → ((o || p) || r) ≡ (o || (p || r))
or_both true p r = refl
or_both false p r = refl

or_none : (o n : Bool) → (o || (n && false)) ≡ o
or_none true n = refl
or_none false true = refl
or_none false false = refl

or_false : (o : Bool) → (o || false) ≡ o
or_false true = refl
or_false false = refl

first_is : {A : Type 0} (xs : List A) (i : ℕ) (d : A) → i < length xs → drop i xs ≡ get_or xs i d ∷ drop (i + 1) xs
first_is xs i d lt = drop-cons xs i d lt ∙ ap (λ j. get_or xs i d ∷ drop j xs) (sym (add-one i))

-- what a set has, and the elements from a place on that are others
abbrev pub with_rest : ElementNo → List ElementNo → ElementNo → List ElementNo → ℕ → Bool
with_rest than elements g now n = is_in g now || (not (same_element than g) && is_in g (drop n elements))

module _ (than : ElementNo) (elements : List ElementNo) (i : ℕ) (set : List ElementNo) (g : ElementNo) (whole : Bool) where
  pub others_next : (d : ElementNo) (new : List ElementNo) → i < length elements
      → is_in g new ≡ (is_in g set || (not (same_element than g) && same_element g (get_or elements i d)))
      → with_rest than elements g set i ≡ whole → with_rest than elements g new (i + 1) ≡ whole
  others_next d new lt is h =
      ap (λ b. b || (not (same_element than g) && is_in g (drop (i + 1) elements))) is
      ∙ or_and (is_in g set) (not (same_element than g)) (same_element g (get_or elements i d)) (is_in g (drop (i + 1) elements))
      ∙ ap (λ xs. is_in g set || (not (same_element than g) && is_in g xs)) (sym (first_is elements i d lt))
      ∙ h

  pub others_all : length elements ≤ i → with_rest than elements g set i ≡ whole → is_in g set ≡ whole
  others_all le h =
      sym (or_none (is_in g set) (not (same_element than g)))
      ∙ ap (λ xs. is_in g set || (not (same_element than g) && is_in g xs)) (sym (drop_all i elements le))
      ∙ h

-- what a set has, and what is redefined by others among the features from a place on
abbrev pub with_others : LinkWorld → List ElementNo → ElementNo → List ElementNo → ℕ → Bool
with_others w features g now n = is_in g now || is_redefined_among w (drop n features) g

module _ (w : LinkWorld) (features : List ElementNo) (i : ℕ) (set : List ElementNo) (g : ElementNo) (whole : Bool) where
  pub redefined_next : (d : ElementNo) (new : List ElementNo) → i < length features
      → is_in g new ≡ (is_in g set || (not (same_element (get_or features i d) g) && is_in g (settled_redefined (get_or features i d) w)))
      → with_others w features g set i ≡ whole → with_others w features g new (i + 1) ≡ whole
  redefined_next d new lt is h =
      ap (λ b. b || is_redefined_among w (drop (i + 1) features) g) is
      ∙ or_both (is_in g set) (not (same_element (get_or features i d) g) && is_in g (settled_redefined (get_or features i d) w))
      (is_redefined_among w (drop (i + 1) features) g)
      ∙ ap (λ xs. is_in g set || is_redefined_among w xs g) (sym (first_is features i d lt))
      ∙ h

  pub redefined_all : length features ≤ i → with_others w features g set i ≡ whole → is_in g set ≡ whole
  redefined_all le h =
      sym (or_false (is_in g set)) ∙ ap (λ xs. is_in g set || is_redefined_among w xs g) (sym (drop_all i features le)) ∙ h

-- the only one of the one that was found so far and those from a place on that pass
abbrev pub left_from : (ElementNo → Bool) → List ElementNo → Option ElementNo → ℕ → Option ElementNo
left_from test features found n = only (listed found ++ those_where test (drop n features))

module _ (test : ElementNo → Bool) (features : List ElementNo) (i : ℕ) (whole : Option ElementNo) where
  at_place : (d : ElementNo) (b : Bool) → i < length features → test (get_or features i d) ≡ b
      → those_where test (drop i features) ≡ chosen b (get_or features i d) (those_where test (drop (i + 1) features))
  at_place d b lt is =
      ap (those_where test) (first_is features i d lt) ∙ ap (λ c. chosen c (get_or features i d) (those_where test (drop (i + 1) features))) is

  pub left_passed : (found : Option ElementNo) (d : ElementNo) → i < length features → test (get_or features i d) ≡ false
      → left_from test features found i ≡ whole → left_from test features found (i + 1) ≡ whole
  left_passed found d lt is h = ap (λ xs. only (listed found ++ xs)) (sym (at_place d false lt is)) ∙ h

  pub left_taken : (found : Option ElementNo) (d : ElementNo) → i < length features → test (get_or features i d) ≡ true → is_some found ≡ false
      → left_from test features found i ≡ whole → left_from test features (Some (get_or features i d)) (i + 1) ≡ whole
  left_taken None d lt is none h = ap only (sym (at_place d true lt is)) ∙ h
  left_taken (Some x) d lt is none h = cc

  pub left_several : (found : Option ElementNo) (d : ElementNo) → i < length features → test (get_or features i d) ≡ true → is_some found ≡ true
      → left_from test features found i ≡ whole → None ≡ whole
  left_several None d lt is some h = cc
  left_several (Some x) d lt is some h = ap (λ xs. only (x ∷ xs)) (sym (at_place d true lt is)) ∙ h

  pub left_all : (found : Option ElementNo) → length features ≤ i → left_from test features found i ≡ whole → found ≡ whole
  left_all None le h = ap (λ xs. only (those_where test xs)) (sym (drop_all i features le)) ∙ h
  left_all (Some x) le h = ap (λ xs. only (x ∷ those_where test xs)) (sym (drop_all i features le)) ∙ h

module _ (w : LinkWorld) (lib : Library) (f : ElementNo) where
  -- the only one that no other redefines, by a set of those that others redefine
  pub sole_left : (x : ElementNo) (xs set : List ElementNo) → ((g : ElementNo) → is_in g set ≡ is_redefined_among w (x ∷ xs) g)
      → only (those_where (λ g. not (is_in g set)) (x ∷ xs)) ≡ sole_of w lib f (x ∷ xs)
  sole_left x xs set h =
      ap only (those_alike (λ g. not (is_in g set)) (λ g. not (is_redefined_among w (x ∷ xs) g)) (λ g. ap not (h g)) (x ∷ xs))

  pub sole_found : (xs set : List ElementNo) (one : Option ElementNo) → nat_eq (length xs) 0 ≡ false
      → ((g : ElementNo) → is_in g set ≡ is_redefined_among w xs g) → one ≡ only (those_where (λ g. not (is_in g set)) xs) → one ≡ sole_of w lib f xs
  sole_found [] set one e h is = cc
  sole_found (x ∷ xs) set one e h is = is ∙ sole_left x xs set h

  -- which one it is hangs on the members alone
  pub sole_same : (xs ys : List ElementNo) → SameMembers xs ys → IsEachOnce xs → IsEachOnce ys → sole_of w lib f xs ≡ sole_of w lib f ys
  sole_same [] [] s u v = refl
  sole_same [] (y ∷ ys) s u v = absurd (s.right y (inl refl))
  sole_same (x ∷ xs) [] s u v = absurd (s.left x (inl refl))
  sole_same (x ∷ xs) (y ∷ ys) s u v =
      let by : (zs : List ElementNo) → ElementNo → Bool = λ zs h. not (is_redefined_among w zs h) in
      ap only (those_alike (by (x ∷ xs)) (by (y ∷ ys)) (λ h. ap not
      (any_over (λ k. not (same_element k h) && is_in h (settled_redefined k w)) (x ∷ xs) (y ∷ ys) s)) (x ∷ xs))
      ∙ only_same (those_where (by (y ∷ ys)) (x ∷ xs)) (those_where (by (y ∷ ys)) (y ∷ ys)) (same_those (by (y ∷ ys)) (x ∷ xs) (y ∷ ys) s)
      (those_once (by (y ∷ ys)) (x ∷ xs) u) (those_once (by (y ∷ ys)) (y ∷ ys) v)
