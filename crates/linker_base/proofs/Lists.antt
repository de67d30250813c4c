-- Lemmas on lists that several crates need.
use Rattle.std.proofs.Common.{◌≡◌, ℕ, ◌-◌, List, [], ◌∷◌, ◌++◌, length, take, drop, refl, sym, ap, ◌∙◌, length-drop}
use Rattle.std.proofs.Math.Seq.{take-length}
use Rattle.std.specs.Prelude.{Some, slice_get}

-- the slice of a list from a place to its end is what is left after that many items
pub rest_is : {A : Type 0} (n : ℕ) (xs : List A) → take (length xs - n) (drop n xs) ≡ drop n xs
rest_is n xs = ap (λ k. take k (drop n xs)) (sym (length-drop n xs)) ∙ take-length (drop n xs)

-- the item behind a front stands at the front's length
pub get_seam : {A : Type 0} (front xs : List A) (x : A) → slice_get (front ++ x ∷ xs) (length front) ≡ Some x
get_seam [] xs x = refl
get_seam (y ∷ front) xs x = get_seam front xs x
