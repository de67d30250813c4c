-- What was given, call after call.
use Rattle.std.proofs.Common.{◌≡◌, ◌∙◌, ℕ, zero, suc, ◌+◌, ◌-◌, ◌≤◌, List, [], ◌∷◌, ◌++◌, length, take, drop, refl, sym, ap, subst, arith, inl, inr, append_assoc, append-nil, length-drop}
use Rattle.std.proofs.lemmas.Bool.{cases_lt}
use Rattle.std.proofs.lemmas.List.{take-append-le}
use Rattle.std.proofs.Math.Seq.{take-add, take-length, take-append-add, take-append_seam}
use Rattle.std.specs.Prelude.{Option, Some, None}
use Rattle.linker_base.specs.Counts.{Rose}
use Rattle.session_streams.specs.Moves.{Stream, moved, with_bytes, Gave, GaveFront, IsSound, Fails}

-- the rest of a slice, as code takes it
rest_is : (n : ℕ) (xs : List ℕ) → take (length xs - n) (drop n xs) ≡ drop n xs
rest_is n xs = ap (λ k. take k (drop n xs)) (sym (length-drop n xs)) ∙ take-length (drop n xs)

with_both : (told : Option (List ℕ)) (first second : List ℕ) → with_bytes (with_bytes told first) second ≡ with_bytes told (first ++ second)
with_both None first second = refl
with_both (Some before) first second = ap Some (append_assoc before first second)

with_none : (told : Option (List ℕ)) → told ≡ with_bytes told []
with_none None = refl
with_none (Some before) = ap Some (sym (append-nil before))

-- the first ones of a list that has no more are all
take_all : (n : ℕ) (xs : List ℕ) → length xs ≤ n → take n xs ≡ xs
take_all zero [] le = refl
take_all (suc n) [] le = refl
take_all zero (x ∷ xs) le = absurd (omega arith)
take_all (suc n) (x ∷ xs) le = ap (λ ys. x ∷ ys) (take_all n xs (omega arith))

-- nothing was given
pub gave_none : (a : Stream) → Gave (moved a a) []
gave_none a = with_none a.told

-- some bytes were given, and then some more
pub gave_then : (a b c : Stream) (first second : List ℕ) → Gave (moved a b) first → Gave (moved b c) second → Gave (moved a c) (first ++ second)
gave_then a b c first second g h = h ∙ (ap (λ o. with_bytes o second) g ∙ with_both a.told first second)

-- these were given, so those that are the same
pub gave_same : (a b : Stream) (these those : List ℕ) → these ≡ those → Gave (moved a b) these → Gave (moved a b) those
gave_same a b these those e g = subst (λ bs. Gave (moved a b) bs) e g

-- a front of a list is one of every list that goes on so
front_longer : (n : ℕ) (first more : List ℕ) → (m : ℕ) × (take n first ≡ take m (first ++ more))
front_longer n first more = elim (cases_lt n (length first)) [
  | inl lt ↦ (n, sym (take-append-le n first more (omega arith)))
  | inr ge ↦ (length first, take_all n first ge ∙ sym (take-append_seam first more))
]

-- some bytes were given, and then a front of some more
pub front_then : (a b c : Stream) (first second more : List ℕ) → Gave (moved a b) first → GaveFront (moved b c) second
    → GaveFront (moved a c) ((first ++ second) ++ more)
front_then a b c first second more g (n, h) =
    let m = front_longer n second more in (
      length first + m.0,
      gave_same a c (first ++ take n second) (take (length first + m.0) ((first ++ second) ++ more))
          (ap (λ bs. first ++ bs) m.1 ∙ (sym (take-append-add first (second ++ more) m.0)
          ∙ ap (λ bs. take (length first + m.0) bs) (sym (append_assoc first second more))))
          (gave_then a b c first (take n second) g h),
    )

-- one call more
pub give_step : (a b c : Stream) (piece : List ℕ) (done n : ℕ) → Gave (moved a b) (take done piece)
    → Gave (moved b c) (take n (take (length piece - done) (drop done piece)))
    → Gave (moved a c) (take (done + n) piece)
give_step a b c piece done n g h = gave_same a c _ _ (ap (λ bs. take done piece ++ take n bs) (rest_is done piece) ∙ sym (take-add done n piece))
    (gave_then a b c _ _ g h)

-- a call failed
pub give_failed : (a b c : Stream) (piece : List ℕ) (done : ℕ) → Gave (moved a b) (take done piece) → IsSound (moved a b) → Gave (moved b c) []
    → Fails (moved b c)
    → GaveFront (moved a c) piece × Fails (moved a c)
give_failed a b c piece done g h k f = (
  (done, gave_same a c _ _ (append-nil (take done piece)) (gave_then a b c _ _ g k)),
  (omega (arith, h, f.0), subst (λ n. Rose n c.faults) h f.1),
)

-- all was given
pub give_done : (a b : Stream) (piece : List ℕ) (done : ℕ) → length piece ≤ done → Gave (moved a b) (take done piece) → IsSound (moved a b)
    → Gave (moved a b) piece × IsSound (moved a b)
give_done a b piece done le g h = (gave_same a b _ _ (take_all done piece le) g, h)
