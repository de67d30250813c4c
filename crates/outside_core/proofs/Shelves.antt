-- Laws of the texts under names.
use Rattle.std.proofs.Common.{◌≡◌, ◌∙◌, ℕ, zero, suc, ◌+◌, ◌<◌, ◌≤◌, true, false, List, [], ◌∷◌, length, drop, refl, sym, subst, ap, arith, add-one, inl, inr}
use Rattle.std.proofs.Math.Seq.{drop-cons}
use Rattle.std.specs.Prelude.{String, Vec, string_bytes, vec_items, map, bytes_eq, slice_index_or, Some, None}
use Rattle.std.proofs.lemmas.Slice.Eq.{bytes_eq-Decides}
use Rattle.linker_base.specs.Members.{IsMember, IsEachOnce}
use Rattle.linker_base.proofs.Cases.{bool_cases}
use Rattle.outside_core.specs.Shelves.{StandsBeside, text_beside, steady_text}

-- a list from a place in it on begins with what stands there
from_place : {A : Type 0} (xs : List A) (i : ℕ) (x : A) → i < length xs → x ≡ slice_index_or xs i x → drop i xs ≡ x ∷ drop (i + 1) xs
from_place xs i x lt e = rw add-one (drop-cons xs i x lt ∙ ap (λ z. z ∷ drop (suc i) xs) (sym e))

-- from its end on a list has nothing
from_end : {A : Type 0} (xs : List A) (i : ℕ) → length xs ≤ i → drop i xs ≡ []
from_end [] zero le = refl
from_end [] (suc i) le = refl
from_end (y ∷ xs) zero le = absurd (omega arith)
from_end (y ∷ xs) (suc i) le = from_end xs i (omega arith)

-- a search for a text from a place on: the name there is the one looked for
pub beside_here : {Z : Type 0} (names : List (String Z)) (texts : List (Vec ℕ Z)) (name : List ℕ) (i : ℕ) (held : String Z) (text : Vec ℕ Z) → i < length names → i < length texts
    → held ≡ slice_index_or names i held → text ≡ slice_index_or texts i text → bytes_eq (string_bytes held) name ≡ true
    → text_beside (map string_bytes (drop i names)) (map vec_items (drop i texts)) name ≡ Some (vec_items text)
beside_here names texts name i held text n t h k same =
    rw (from_place names i held n h, from_place texts i text t k, same) refl

-- the name at that place is another one, so the search goes on
next_name : {Z : Type 0} (names : List (String Z)) (texts : List (Vec ℕ Z)) (name : List ℕ) (i : ℕ) (held : String Z) → i < length names → i < length texts
    → held ≡ slice_index_or names i held → bytes_eq (string_bytes held) name ≡ false
    → text_beside (map string_bytes (drop i names)) (map vec_items (drop i texts)) name ≡ text_beside (map string_bytes (drop (suc i) names)) (map vec_items (drop (suc i) texts)) name
next_name [] texts name i held n t h other = absurd (omega arith)
next_name (m ∷ names) [] name i held n t h other = absurd (omega arith)
next_name {Z} (m ∷ names) (x ∷ texts) name zero held n t h other = let o = subst (λ (s : String Z). bytes_eq (string_bytes s) name ≡ false) h other in rw o refl
next_name (m ∷ names) (x ∷ texts) name (suc i) held n t h other = next_name names texts name i held (omega arith) (omega arith) h other

-- the same with the next place as code counts it
pub beside_next : {Z : Type 0} (names : List (String Z)) (texts : List (Vec ℕ Z)) (name : List ℕ) (i : ℕ) (held : String Z) → i < length names → i < length texts
    → held ≡ slice_index_or names i held → bytes_eq (string_bytes held) name ≡ false
    → text_beside (map string_bytes (drop (i + 1) names)) (map vec_items (drop (i + 1) texts)) name ≡ text_beside (map string_bytes (drop i names)) (map vec_items (drop i texts)) name
beside_next names texts name i held n t h other = rw add-one (sym (next_name names texts name i held n t h other))

-- no name is left
pub beside_end : {Z : Type 0} (names : List (String Z)) (texts : List (Vec ℕ Z)) (name : List ℕ) (i : ℕ) → length names ≤ i
    → text_beside (map string_bytes (drop i names)) (map vec_items (drop i texts)) name ≡ None
beside_end names texts name i le = rw (from_end names i le) refl

-- a list of bytes equals itself
same_bytes : (bytes : List ℕ) → bytes_eq bytes bytes ≡ true
same_bytes bytes = (bytes_eq-Decides bytes bytes).1 refl

-- what stands at a place of a list is a member of it
member_at : (xs : List (List ℕ)) (i : ℕ) → i < length xs → IsMember xs (slice_index_or xs i [])
member_at [] i lt = absurd (omega arith)
member_at (x ∷ xs) zero lt = inl refl
member_at (x ∷ xs) (suc i) lt = inr (member_at xs i (omega arith))

-- of distinct names each finds the text at its place
found_at : (names texts : List (List ℕ)) → length names ≡ length texts → IsEachOnce names → (i : ℕ) → i < length names
    → text_beside names texts (slice_index_or names i []) ≡ Some (slice_index_or texts i [])
found_at [] texts e once i lt = absurd (omega arith)
found_at (m ∷ names) [] e once i lt = absurd (omega arith)
found_at (m ∷ names) (x ∷ texts) e once zero lt = rw (same_bytes m) refl
found_at (m ∷ names) (x ∷ texts) e once (suc i) lt = elim (bool_cases (bytes_eq m (slice_index_or names i []))) [
  | inl same ↦ absurd (once.0 (subst (λ n. IsMember names n) (sym ((bytes_eq-Decides m (slice_index_or names i [])).0 same)) (member_at names i (omega arith))))
  | inr other ↦ rw other (found_at names texts (omega arith) once.1 i (omega arith))
]

-- a name that is not there finds nothing
found_none : (names texts : List (List ℕ)) (name : List ℕ) → (IsMember names name → ⊥) → text_beside names texts name ≡ None
found_none [] texts name absent = refl
found_none (m ∷ names) [] name absent = refl
found_none (m ∷ names) (x ∷ texts) name absent = elim (bool_cases (bytes_eq m name)) [
  | inl same ↦ absurd (absent (inl ((bytes_eq-Decides m name).0 same)))
  | inr other ↦ rw other (found_none names texts name (λ h. absent (inr h)))
]

-- so each text stands under its name, and the empty one under the others
pub stands_beside : (names texts : List (List ℕ)) → length names ≡ length texts → IsEachOnce names → StandsBeside names texts (steady_text (record { names = names; texts = texts }))
stands_beside names texts e once = record {
  each = λ i lt. rw (found_at names texts e once i lt) refl;
  other = λ name absent. rw (found_none names texts name absent) refl;
}
