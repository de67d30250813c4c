-- Looking for bytes in a list of words: step by step, and in a part of it.
use Rattle.std.proofs.Common.{◌≡◌, ℕ, suc, ◌+◌, ◌-◌, ◌<◌, ◌≤◌, Bool, true, false, List, [], ◌∷◌, ◌++◌, length, take, drop, get_or, map, refl, sym, ap, subst, ◌∙◌, inl, inr, arith, length-drop}
use Rattle.std.specs.Prelude.{Some, None, Option, IfSome, option_map, cond, not, ◌&&◌, ◌==◌, nat_lt, nat_le, slice_range}
use Rattle.std.specs.List.{prefix_len, position}
use Rattle.std.specs.Borrow.{Bor}
use Rattle.std.specs.Str.{bytes_eq}
use Rattle.std.proofs.lemmas.Bool.{leb-true}
use Rattle.std.proofs.lemmas.List.{take-append-drop, length-take-le, length-map, take-map, drop-map}
use Rattle.std.proofs.lemmas.List.Folds.{drop_split}
use Rattle.std.proofs.lemmas.List.Quantifiers.{position-Some}
use Rattle.std.proofs.lemmas.Bool.Decides.{nat_tests}
use Rattle.std.proofs.Math.Numerals.{one-add}
use Rattle.linker_base.proofs.Cases.{bool_cases, both_true}
use Rattle.token_core.specs.Words.{place_in}
use Rattle.token_core.specs.Scan.{begins, none_begins, is_part, IsPartFor}

-- a place in a list is below its length
pub place_below : (list : List (List ℕ)) (bytes : List ℕ) (n : ℕ) → place_in list bytes ≡ Some n → n < length list
place_below list bytes n e = (position-Some (λ w. bytes_eq w bytes) list n bytes e).0

-- the same of whatever place there is
pub places_below : (list : List (List ℕ)) (bytes : List ℕ) (place : Option ℕ) → place ≡ place_in list bytes → IfSome place (λ n. n < length list)
places_below list bytes None e = tt
places_below list bytes (Some n) e = place_below list bytes n (sym e)

-- the bytes are the first word
pub place_first : (w : List ℕ) (ws : List (List ℕ)) (bytes : List ℕ) → bytes_eq w bytes ≡ true → place_in (w ∷ ws) bytes ≡ Some 0
place_first w ws bytes e =
    let some : nat_lt 0 (suc (length ws)) ≡ true = grind (arith, nat_tests) in
    rw (e, some) refl

-- the bytes are not the first word
pub place_later : (w : List ℕ) (ws : List (List ℕ)) (bytes : List ℕ) → bytes_eq w bytes ≡ false → place_in (w ∷ ws) bytes ≡ option_map suc (place_in ws bytes)
place_later w ws bytes e = rw e (later (prefix_len (λ x. not (bytes_eq x bytes)) ws) (length ws)) where
  later : (p l : ℕ) → cond (nat_lt (1 + p) (suc l)) (Some (1 + p)) None ≡ option_map suc (cond (nat_lt p l) (Some p) None)
  later p l = elim (bool_cases (nat_lt p l)) [
    | inl e ↦
        let f : nat_lt (1 + p) (suc l) ≡ true = grind (arith, nat_tests) in
        rw (e, f, one-add) refl
    | inr e ↦
        let f : nat_lt (1 + p) (suc l) ≡ false = grind (arith, nat_tests) in
        rw (e, f) refl
  ]

-- a word that begins with another byte isn't the bytes
other_word : (b : ℕ) (more w : List ℕ) → not (begins b w) ≡ true → bytes_eq w (b ∷ more) ≡ false
other_word b more [] e = refl
other_word b more (c ∷ cs) e = elim (bool_cases (c == b)) [ inl h ↦ let f : false ≡ true = rw h at e in absurd (cc) | inr h ↦ rw h refl ]

none_there : (b : ℕ) (more : List ℕ) (ws : List (List ℕ)) → none_begins b ws ≡ true → place_in ws (b ∷ more) ≡ None
none_there b more [] e = refl
none_there b more (w ∷ ws) e =
    let h = both_true (not (begins b w)) (none_begins b ws) e in
    place_later w ws (b ∷ more) (other_word b more w h.0) ∙ ap (option_map suc) (none_there b more ws h.1)

past : (n : ℕ) (o : Option ℕ) → option_map suc (option_map (λ k. n + k) o) ≡ option_map (λ k. suc n + k) o
past n None = refl
past n (Some k) = ap Some (omega arith)

from_none : (o : Option ℕ) → o ≡ option_map (λ k. 0 + k) o
from_none None = refl
from_none (Some k) = ap Some (omega arith)

-- words in front that begin with another byte are passed over
behind :
    (b : ℕ) (more : List ℕ) (front rest : List (List ℕ))
    → none_begins b front ≡ true
    → place_in (front ++ rest) (b ∷ more) ≡ option_map (λ k. length front + k) (place_in rest (b ∷ more))
behind b more [] rest e = from_none (place_in rest (b ∷ more))
behind b more (w ∷ front) rest e =
    let h = both_true (not (begins b w)) (none_begins b front) e in
    place_later w (front ++ rest) (b ∷ more) (other_word b more w h.0)
    ∙ (ap (option_map suc) (behind b more front rest h.1) ∙ past (length front) (place_in rest (b ∷ more)))

-- words behind that begin with another byte change nothing
before : (b : ℕ) (more : List ℕ) (part back : List (List ℕ)) → none_begins b back ≡ true → place_in (part ++ back) (b ∷ more) ≡ place_in part (b ∷ more)
before b more [] back e = none_there b more back e
before b more (w ∷ part) back e = elim (bool_cases (bytes_eq w (b ∷ more))) [
  | inl h ↦ place_first w (part ++ back) (b ∷ more) h ∙ sym (place_first w part (b ∷ more) h)
  | inr h ↦ place_later w (part ++ back) (b ∷ more) h ∙ (ap (option_map suc) (before b more part back e) ∙ sym (place_later w part (b ∷ more) h))
]

-- the part that a table names is enough
pub part_is_enough : (list : List (List ℕ)) (b from upto : ℕ) → is_part list b from upto ≡ true → IsPartFor list b from (slice_range list from upto)
part_is_enough list b from upto e = record { within = size; enough = λ more. ap (λ l. place_in l (b ∷ more)) whole ∙ inner more } where
  parts : (nat_le from upto ≡ true) × ((nat_le upto (length list) && (none_begins b (take from list) && none_begins b (drop upto list))) ≡ true)
  parts = both_true (nat_le from upto) (nat_le upto (length list) && (none_begins b (take from list) && none_begins b (drop upto list))) e

  rest : (nat_le upto (length list) ≡ true) × ((none_begins b (take from list) && none_begins b (drop upto list)) ≡ true)
  rest = both_true (nat_le upto (length list)) (none_begins b (take from list) && none_begins b (drop upto list)) parts.1

  ends : (none_begins b (take from list) ≡ true) × (none_begins b (drop upto list) ≡ true)
  ends = both_true (none_begins b (take from list)) (none_begins b (drop upto list)) rest.1

  ordered : from ≤ upto
  ordered = leb-true from upto parts.0

  inside : upto ≤ length list
  inside = leb-true upto (length list) rest.0

  size : from + length (slice_range list from upto) ≤ length list
  size =
      let few : upto - from ≤ length (drop from list) = omega (arith, ordered, inside, length-drop from list) in
      omega (arith, ordered, inside, length-drop from list, length-take-le (upto - from) (drop from list) few)

  front : length (take from list) ≡ from
  front = length-take-le from list (omega (arith, ordered, inside))

  whole : list ≡ take from list ++ (slice_range list from upto ++ drop upto list)
  whole = sym (take-append-drop from list) ∙ ap (λ l. take from list ++ l) (drop_split list from upto ordered)

  inner :
      (more : List ℕ)
      → place_in (take from list ++ (slice_range list from upto ++ drop upto list)) (b ∷ more)
      ≡ option_map (λ n. from + n) (place_in (slice_range list from upto) (b ∷ more))
  inner more =
      behind b more (take from list) (slice_range list from upto ++ drop upto list) ends.0
      ∙ (ap (λ n. option_map (λ k. n + k) (place_in (slice_range list from upto ++ drop upto list) (b ∷ more))) front
      ∙ ap (option_map (λ k. from + k)) (before b more (slice_range list from upto) (drop upto list) ends.1))

-- no part is needed for a byte that no word begins with
pub no_part : (list : List (List ℕ)) (b : ℕ) → none_begins b list ≡ true → IsPartFor list b 0 []
no_part list b e = record { within = omega arith; enough = λ more. none_there b more list e }

prefix_mapped :
    (p : List ℕ → Bool) (ws : List (Bor (List ℕ)))
    → prefix_len p (map (λ (w : Bor (List ℕ)). w.now) ws) ≡ prefix_len (λ (w : Bor (List ℕ)). p w.now) ws
prefix_mapped p [] = refl
prefix_mapped p (w ∷ ws) = rw (prefix_mapped p ws) refl

-- looking in a list of lent words is looking in the list of the words
pub place_lent :
    (ws : List (Bor (List ℕ))) (bytes : List ℕ)
    → position (λ (w : Bor (List ℕ)). bytes_eq w.now bytes) ws ≡ place_in (map (λ (w : Bor (List ℕ)). w.now) ws) bytes
place_lent ws bytes =
    let at : ℕ = prefix_len (λ x. not (bytes_eq x bytes)) (map (λ (w : Bor (List ℕ)). w.now) ws) in
    ap (λ n. cond (nat_lt n (length ws)) (Some n) None) (sym (prefix_mapped (λ x. not (bytes_eq x bytes)) ws))
    ∙ ap (λ n. cond (nat_lt at n) (Some at) None) (sym (length-map ws (λ (w : Bor (List ℕ)). w.now)))

-- so is a part of a list of lent words
pub part_lent :
    (ws : List (Bor (List ℕ))) (list : List (List ℕ)) (b from upto : ℕ)
    → map (λ (w : Bor (List ℕ)). w.now) ws ≡ list
    → is_part list b from upto ≡ true
    → IsPartFor list b from (map (λ (w : Bor (List ℕ)). w.now) (slice_range ws from upto))
part_lent ws list b from upto same e =
    let f : Bor (List ℕ) → List ℕ = λ w. w.now in
    let here : slice_range list from upto ≡ map f (slice_range ws from upto) =
    ap (λ l. slice_range l from upto) (sym same)
    ∙ (ap (take (upto - from)) (drop-map f from ws) ∙ take-map f (upto - from) (drop from ws)) in
    subst (IsPartFor list b from) here (part_is_enough list b from upto e)

-- a part is within its list
pub part_within : (list : List (List ℕ)) (b from upto : ℕ) → is_part list b from upto ≡ true → (from ≤ upto) × (upto ≤ length list)
part_within list b from upto e =
    let h = both_true (nat_le from upto) (nat_le upto (length list) && (none_begins b (take from list) && none_begins b (drop upto list))) e in
    let k = both_true (nat_le upto (length list)) (none_begins b (take from list) && none_begins b (drop upto list)) h.1 in
    (leb-true from upto h.0, leb-true upto (length list) k.0)

-- looking in a part that is enough for the first of the bytes
pub part_place :
    (list : List (List ℕ)) (bytes : List ℕ) (from : ℕ) (part : List (List ℕ))
    → 1 ≤ length bytes
    → IsPartFor list (get_or bytes 0 0) from part
    → place_in list bytes ≡ option_map (λ n. from + n) (place_in part bytes)
part_place list [] from part some h = absurd (omega arith)
part_place list (b ∷ more) from part some h = h.enough more
