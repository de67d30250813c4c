-- Later places of a text are printed later.
use Rattle.std.proofs.Common.{◌≡◌, ◌∙◌, ℕ, zero, suc, ◌+◌, ◌-◌, ◌<◌, ◌≤◌, false, not, nat_eq, List, [], ◌∷◌, length, take, get_or, reverse, refl, ap, subst, arith, inl, inr, take-suc, add-one}
use Rattle.std.specs.List.{prefix_len}
use Rattle.std.proofs.lemmas.List.{reverse-append}
use Rattle.std.proofs.lemmas.List.Sums.{count_by_more_yes, count_by_more_no}
use Rattle.linker_base.proofs.Cases.{bool_cases}
use Rattle.book_model.specs.Places.{column_at}
use Rattle.book_model.specs.Laws.{IsPrintedBefore}

-- the bytes of a place's line that stand before it, the last first
before_last_first : (text : List ℕ) (p : ℕ) → p < length text → reverse (take (p + 1) text) ≡ get_or text p 0 ∷ reverse (take p text)
before_last_first text p lt =
    ap (λ k. reverse (take k text)) (add-one p) ∙ (ap reverse (take-suc text p 0 lt) ∙ reverse-append (take p text) (get_or text p 0 ∷ []))

-- behind a byte that ends no line the column is one more
column_more : (text : List ℕ) (p : ℕ) → p < length text → nat_eq (get_or text p 0) 10 ≡ false → column_at text (p + 1) ≡ 1 + column_at text p
column_more text p lt other =
    ap (λ bytes. 1 + prefix_len (λ b. not (nat_eq b 10)) bytes) (before_last_first text p lt) ∙ rw other refl

-- the next place is printed later
next_later : (text : List ℕ) (p : ℕ) → p < length text → IsPrintedBefore text p (p + 1)
next_later text p lt = elim (bool_cases (nat_eq (get_or text p 0) 10)) [
  | inl end ↦ let more = count_by_more_yes (λ b. nat_eq b 10) text p 0 lt end in inl (omega (arith, more))
  | inr other ↦
      let same = count_by_more_no (λ b. nat_eq b 10) text p 0 lt other in
      let more = column_more text p lt other in
      inr (omega (arith, same), omega (arith, more))
]

-- and being printed later goes on
later_through : (text : List ℕ) (p q r : ℕ) → IsPrintedBefore text p q → IsPrintedBefore text q r → IsPrintedBefore text p r
later_through text p q r (inl a) (inl b) = inl (omega (arith, a, b))
later_through text p q r (inl a) (inr b) = inl (omega (arith, a, b.0))
later_through text p q r (inr a) (inl b) = inl (omega (arith, a.0, b))
later_through text p q r (inr a) (inr b) = inr (a.0 ∙ b.0, omega (arith, a.1, b.1))

-- so many places on
later_by : (text : List ℕ) (k p : ℕ) → p + suc k ≤ length text → IsPrintedBefore text p (p + suc k)
later_by text zero p le = subst (IsPrintedBefore text p) (omega arith) (next_later text p (omega (arith, le)))
later_by text (suc k) p le =
    let on : (p + suc k) + 1 ≡ p + suc (suc k) = omega arith in
    later_through text p (p + suc k) (p + suc (suc k)) (later_by text k p (omega (arith, le)))
    (subst (IsPrintedBefore text (p + suc k)) on (next_later text (p + suc k) (omega (arith, le))))

-- a later place is printed later
pub printed_later : (text : List ℕ) (p q : ℕ) → p < q → q ≤ length text → IsPrintedBefore text p q
printed_later text p q lt le =
    let gap : p + suc (q - suc p) ≡ q = omega (arith, lt) in
    subst (IsPrintedBefore text p) gap (later_by text (q - suc p) p (omega (arith, lt, le)))
