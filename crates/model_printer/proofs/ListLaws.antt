-- The references of an element are those of a range, and each list of them is the one that a head has.
use Rattle.std.proofs.Common.{◌≡◌, ◌∙◌, ℕ, zero, suc, ◌+◌, ◌<◌, ◌≤◌, Bool, true, false, List, [], ◌∷◌, ◌++◌, drop, refl, sym, ap, arith, add-one, append-nil}
use Rattle.std.specs.Prelude.{Option, Some, None, slice_get, nat_eq, ◌&&◌, codes}
use Rattle.std.proofs.lemmas.Bool.Decides.{nat_tests}
use Rattle.element_store.specs.declared.outcome.Language.{Language}
use Rattle.element_store.specs.declared.outcome.Role.{Role}
use Rattle.element_store.specs.declared.records.Reference.{Reference}
use Rattle.element_store.specs.Numbers.{chosen, those_where}
use Rattle.element_store.specs.Readings.{AreReferencesOf}
use Rattle.print_model.specs.Printed.{sign}
use Rattle.print_model.specs.Trees.{named}
use Rattle.print_model.specs.Heads.{path_in, specialisations, listed, abouts}
use Rattle.model_printer.specs.declared.references.Listed.{Listed}
use Rattle.model_printer.specs.declared.references.Listed.TheVariants.{Specialised, Ends, Abouts}
use Rattle.model_printer.specs.Lists.{lead, in_list}
use Rattle.model_printer.specs.Sheets.{Sheet, puts}
use Rattle.model_printer.proofs.SheetLaws.{puts_append}

-- nothing is chosen before a number
none_before : {A : Type 0} (test : A → Bool) (xs : List A) (n : ℕ) → ((i : ℕ) (x : A) → slice_get xs i ≡ Some x → i < n → test x ≡ false)
    → those_where test xs ≡ those_where test (drop n xs)
none_before test [] zero never = refl
none_before test [] (suc n) never = refl
none_before test (x ∷ xs) zero never = refl
none_before test (x ∷ xs) (suc n) never =
    ap (λ b. chosen b x (those_where test xs)) (never 0 x refl (omega arith))
    ∙ none_before test xs n (λ i y at lt. never (suc i) y at (omega (arith, lt)))

-- nothing is chosen from a number on
none_behind : {A : Type 0} (test : A → Bool) (xs : List A) (n : ℕ) → ((i : ℕ) (x : A) → slice_get xs i ≡ Some x → n ≤ i → test x ≡ false)
    → those_where test (drop n xs) ≡ []
none_behind test [] zero never = refl
none_behind test [] (suc n) never = refl
none_behind test (x ∷ xs) zero never =
    ap (λ b. chosen b x (those_where test xs)) (never 0 x refl (omega arith))
    ∙ none_behind test xs zero (λ i y at le. never (suc i) y at (omega arith))
none_behind test (x ∷ xs) (suc n) never = none_behind test xs n (λ i y at le. never (suc i) y at (omega (arith, le)))

-- the item of a number stands first behind those before it
pub drop_at : {A : Type 0} (xs : List A) (n : ℕ) (x : A) → slice_get xs n ≡ Some x → drop n xs ≡ x ∷ drop (n + 1) xs
drop_at xs n x at = behind xs n x at ∙ ap (λ k. x ∷ drop k xs) (sym (add-one n))
  where
    behind : {A : Type 0} (xs : List A) (n : ℕ) (x : A) → slice_get xs n ≡ Some x → drop n xs ≡ x ∷ drop (suc n) xs
    behind [] n x at = cc
    behind (y ∷ ys) zero x at = let same : y ≡ x = cc in rw same refl
    behind (y ∷ ys) (suc n) x at = behind ys n x at

-- an element's references in some roles
abbrev pub owns : ℕ → (Role → Bool) → Reference → Bool
owns e test r = nat_eq r.context e && test r.role

not_own : (e : ℕ) (test : Role → Bool) (r : Reference) → (r.context ≡ e → ⊥) → owns e test r ≡ false
not_own e test r never = by_test (nat_eq r.context e) refl
  where
    by_test : (b : Bool) → nat_eq r.context e ≡ b → b && test r.role ≡ false
    by_test true same = absurd (never (grind (arith, nat_tests)))
    by_test false same = refl

own_is : (e : ℕ) (test : Role → Bool) (r : Reference) → r.context ≡ e → owns e test r ≡ test r.role
own_is e test r same = ap (λ b. b && test r.role) (is_same r.context e same)
  where
    is_same : (a b : ℕ) → a ≡ b → nat_eq a b ≡ true
    is_same a b e = grind (arith, nat_tests)

module _ (rs : List Reference) (e from upto : ℕ) (are : AreReferencesOf rs e from upto) (test : Role → Bool) where
  pub from_first : those_where (owns e test) rs ≡ those_where (owns e test) (drop from rs)
  from_first = none_before (owns e test) rs from
      (λ i r at lt. not_own e test r (λ same. let within = (are.own i r at).0 same in absurd (omega (arith, lt, within.0))))

  pub at_last : those_where (owns e test) (drop upto rs) ≡ []
  at_last = none_behind (owns e test) rs upto
      (λ i r at le. not_own e test r (λ same. let within = (are.own i r at).0 same in absurd (omega (arith, le, within.1))))

  pub one_more : (n : ℕ) (r : Reference) → from ≤ n → n < upto → slice_get rs n ≡ Some r
      → those_where (owns e test) (drop n rs) ≡ chosen (test r.role) r (those_where (owns e test) (drop (n + 1) rs))
  one_more n r le lt at =
      ap (those_where (owns e test)) (drop_at rs n r at)
      ∙ ap (λ b. chosen b r (those_where (owns e test) (drop (n + 1) rs))) (own_is e test r ((are.own n r at).1 (le, lt)))

-- a reference more of a list is written behind what stands before it
pub listed_more : (l : Language) (list : Listed) (before : Option Role) (whole s t u : Sheet) (r : Reference) (rs all : List Reference)
    → whole ≡ puts s (in_list l list before all) → all ≡ r ∷ rs → t ≡ puts s (lead l list before r.role) → u ≡ puts t (named l (path_in r))
    → whole ≡ puts u (in_list l list (Some r.role) rs)
listed_more l list before whole s t u r rs all is first led name =
    is ∙ ap (λ xs. puts s (in_list l list before xs)) first
    ∙ puts_append s (lead l list before r.role) (named l (path_in r) ++ in_list l list (Some r.role) rs)
    ∙ ap (λ x. puts x (named l (path_in r) ++ in_list l list (Some r.role) rs)) (sym led)
    ∙ puts_append t (named l (path_in r)) (in_list l list (Some r.role) rs)
    ∙ ap (λ x. puts x (in_list l list (Some r.role) rs)) (sym name)

-- the specialisations
pub specialised_is : (l : Language) (before : Option Role) (rs : List Reference) → in_list l Specialised before rs ≡ specialisations l before rs
specialised_is l before [] = refl
specialised_is l before (r ∷ rs) = ap (λ ps. lead l Specialised before r.role ++ (named l (path_in r) ++ ps)) (specialised_is l (Some r.role) rs)

-- names with commas between them
pub ends_is : (l : Language) (rs : List Reference) → in_list l Ends None rs ≡ listed l rs
ends_is l [] = refl
ends_is l (r ∷ []) = append-nil (named l (path_in r))
ends_is l (r ∷ s ∷ rs) = ap (λ ps. named l (path_in r) ++ (sign (codes ",") ∷ ps)) (ends_is l (s ∷ rs))

-- behind the first, both lists go on alike
go_on_alike : (l : Language) (a : Role) (rs : List Reference) → in_list l Abouts (Some a) rs ≡ in_list l Ends (Some a) rs
go_on_alike l a [] = refl
go_on_alike l a (r ∷ rs) = ap (λ ps. sign (codes ",") ∷ (named l (path_in r) ++ ps)) (go_on_alike l r.role rs)

-- what a comment is about
pub abouts_is : (l : Language) (rs : List Reference) → in_list l Abouts None rs ≡ abouts l rs
abouts_is l [] = refl
abouts_is l (r ∷ rs) =
    ap (λ ps. lead l Abouts None r.role ++ (named l (path_in r) ++ ps)) (go_on_alike l r.role rs)
    ∙ ap (λ ps. lead l Abouts None r.role ++ ps) (ends_is l (r ∷ rs))
