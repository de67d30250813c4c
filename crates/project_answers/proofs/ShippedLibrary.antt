-- The library of this product is one over which a project may open.
use Rattle.std.proofs.Common.{◌≡◌, ◌∙◌, ℕ, ◌≤◌, Bool, true, false, not, ◌&&◌, nat_eq, List, [], ◌∷◌, length, map, refl, sym, ap, subst, inl, inr, arith}
use Rattle.std.specs.Prelude.{nat_le}
use Rattle.std.specs.Cmp.Lexicographic.{pointwise, bytes_decides}
use Rattle.std.proofs.lemmas.Bool.Decides.{nat_tests}
use Rattle.library_texts.specs.Texts as texts
use Rattle.linker_base.specs.Members.{IsMember, IsEachOnce}
use Rattle.element_store.specs.FileNames.{is_file_name}
use Rattle.book_model.specs.Files.{LibraryTexts}
use Rattle.book_model.specs.Proper.{IsProperLibrary}

both_true : (a b : Bool) → (a && b) ≡ true → (a ≡ true) × (b ≡ true)
both_true true true e = (refl, refl)
both_true true false e = absurd (cc)
both_true false b e = absurd (cc)

not_true : (a : Bool) → not a ≡ true → a ≡ false
not_true true e = absurd (cc)
not_true false e = refl

-- ---- names that stand once

-- a name is none of these
abbrev is_apart : List ℕ → List (List ℕ) → Bool
is_apart x [] = true
is_apart x (y ∷ ys) = not (pointwise nat_eq x y) && is_apart x ys

-- and each is none of those behind it
abbrev stand_once : List (List ℕ) → Bool
stand_once [] = true
stand_once (x ∷ xs) = is_apart x xs && stand_once xs

apart_is : (x : List ℕ) (ys : List (List ℕ)) → is_apart x ys ≡ true → IsMember ys x → ⊥
apart_is x [] e m = m
apart_is x (y ∷ ys) e (inl is) =
    let test : pointwise nat_eq x y ≡ true = (bytes_decides x y).1 (sym is) in
    let other = not_true (pointwise nat_eq x y) (both_true (not (pointwise nat_eq x y)) (is_apart x ys) e).0 in
    cc
apart_is x (y ∷ ys) e (inr m) = apart_is x ys (both_true (not (pointwise nat_eq x y)) (is_apart x ys) e).1 m

once_is : (xs : List (List ℕ)) → stand_once xs ≡ true → IsEachOnce xs
once_is [] e = tt
once_is (x ∷ xs) e = let both = both_true (is_apart x xs) (stand_once xs) e in (apart_is x xs both.0, once_is xs both.1)

-- ---- what holds of each file

-- a test that holds of all
abbrev of_all : (List ℕ × List ℕ → Bool) → LibraryTexts → Bool
of_all test [] = true
of_all test (e ∷ es) = test e && of_all test es

of_each : (test : List ℕ × List ℕ → Bool) (es : LibraryTexts) → of_all test es ≡ true → (e : List ℕ × List ℕ) → IsMember es e → test e ≡ true
of_each test [] all e m = absurd m
of_each test (x ∷ es) all e (inl is) = subst (λ y. test y ≡ true) is (both_true (test x) (of_all test es) all).0
of_each test (x ∷ es) all e (inr m) = of_each test es (both_true (test x) (of_all test es) all).1 e m

abbrev is_apart_name : List ℕ × List ℕ → Bool
is_apart_name e = not (is_file_name e.0)

abbrev is_short : List ℕ × List ℕ → Bool
is_short e = nat_le (length e.1) 1048576

short_is : (n : ℕ) → nat_le n 1048576 ≡ true → n ≤ 1048576
short_is n e = grind (arith, nat_tests)

few_files : length texts.library ≤ 64
unfolding texts.library
few_files = omega arith

names_once : stand_once (map (λ e. e.0) texts.library) ≡ true
unfolding texts.library
names_once = refl

names_apart : of_all is_apart_name texts.library ≡ true
unfolding texts.library
names_apart = refl

texts_short : of_all is_short texts.library ≡ true
unfolding texts.library texts.actions texts.base texts.calculations texts.connections texts.constraints texts.interfaces texts.items texts.links texts.objects
    texts.occurrences texts.parts texts.performances texts.ports texts.requirements texts.scalar_values
texts_short = refl

-- THE LIBRARY is proper
pub library_proper : IsProperLibrary texts.library
library_proper = record {
  few = few_files;
  once = once_is (map (λ e. e.0) texts.library) names_once;
  apart = λ e m. not_true (is_file_name e.0) (of_each is_apart_name texts.library names_apart e m);
  short = λ e m. short_is (length e.1) (of_each is_short texts.library texts_short e m);
}
