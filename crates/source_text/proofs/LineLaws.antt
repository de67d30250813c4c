-- The ends of lines before a place tell its line and its column.
use Rattle.std.proofs.Common.{append-nil, ◌≡◌, ◌∙◌, ℕ, zero, suc, ◌+◌, ◌-◌, ◌<◌, ◌≤◌, Bool, true, false, cond, nat_eq, not, List, [], ◌∷◌, ◌++◌, length, take, get_or, slice_index, reverse, count_by, All, ltb, refl, sym, ap, subst, arith, inl, inr}
use Rattle.std.specs.List.{prefix_len}
use Rattle.std.specs.List.Sorted.{IsNonDecreasingBy, IsPartitionPoint}
use Rattle.std.proofs.lemmas.Bool.{cases_Bool, cases_lt, cond_both, ltb-true, ltb-false}
use Rattle.std.proofs.lemmas.List.{take_more, reverse-append, length-append, get_or_append_left, get_or-append_right}
use Rattle.std.proofs.lemmas.List.Sums.{fold-append}
use Rattle.std.proofs.lemmas.List.Elements.{All-nil, All-cons}
use Rattle.memchr.specs.Find.{is_byte, places_between, places_from}
use Rattle.memchr.proofs.lemmas.PlaceLemmas.{places_from-append}
use Rattle.book_model.specs.Places.{line_at, column_at}
use Rattle.source_text.specs.Lines.{EndBefore, IsColumn, ends_of}

-- the ends before a place
abbrev ended : List ℕ → ℕ → List ℕ
ended text at = places_between (is_byte 10) text 0 at

-- a line more behind an LF
line_next : (text : List ℕ) (i : ℕ) → i < length text → line_at text (i + 1) ≡ line_at text i + cond (nat_eq (get_or text i 0) 10) 1 0
line_next text i h =
    ap (λ xs. 1 + count_by (λ b. nat_eq b 10) xs) (take_more text i 0 h)
    ∙ ap (λ n. 1 + n) (fold-append (λ a x. a + cond (nat_eq x 10) 1 0) 0 (take i text) (get_or text i 0 ∷ []))
    ∙ omega arith

-- the first column behind an LF, and the next one behind another byte
column_next : (text : List ℕ) (i : ℕ) → i < length text → column_at text (i + 1) ≡ cond (nat_eq (get_or text i 0) 10) 1 (column_at text i + 1)
column_next text i h =
    ap (λ xs. 1 + prefix_len (λ b. not (nat_eq b 10)) (reverse xs)) (take_more text i 0 h)
    ∙ ap (λ xs. 1 + prefix_len (λ b. not (nat_eq b 10)) xs) (reverse-append (take i text) (get_or text i 0 ∷ []))
    ∙ by_byte (nat_eq (get_or text i 0) 10)
  where
    by_byte : (b : Bool) → 1 + cond (not b) (1 + prefix_len (λ c. not (nat_eq c 10)) (reverse (take i text))) 0 ≡ cond b 1 (column_at text i + 1)
    by_byte true = refl
    by_byte false = omega arith

-- what these ends, all before a place, tell of it
record Tell (text : List ℕ) (at : ℕ) (ends : List ℕ) : Type 0 where
  line : line_at text at ≡ length ends + 1
  first : length ends ≡ 0 → column_at text at ≡ at + 1
  later : (m : ℕ) → length ends ≡ suc m → (get_or ends m 0 < at) × (column_at text at ≡ at - get_or ends m 0)

-- one end more
tell_end : (text : List ℕ) (at : ℕ) (ends : List ℕ) → at < length text
    → nat_eq (get_or text at 0) 10 ≡ true → Tell text at ends → Tell text (at + 1) (ends ++ at ∷ [])
tell_end text at ends lt is t =
    let long : length (ends ++ at ∷ []) ≡ length ends + 1 = length-append ends (at ∷ []) in
    let column : column_at text (at + 1) ≡ 1 = column_next text at lt ∙ ap (λ b. cond b 1 (column_at text at + 1)) is in
    let line : line_at text (at + 1) ≡ line_at text at + 1 = line_next text at lt ∙ ap (λ b. line_at text at + cond b 1 0) is in
    record {
      line = omega (arith, line, t.line, long);
      first = λ none. absurd (omega (arith, none, long));
      later = λ m is_last.
          let same : length ends ≡ m = omega (arith, is_last, long) in
          let here : get_or (ends ++ at ∷ []) m 0 ≡ at =
          let none : m - m ≡ 0 = omega arith in
          get_or-append_right ends (at ∷ []) m m 0 same (omega arith) ∙ ap (λ k. get_or (at ∷ []) k 0) none in
          (omega (arith, here), omega (arith, here, column));
    }

-- a byte that ends no line
tell_other : (text : List ℕ) (at : ℕ) (ends : List ℕ) → at < length text
    → nat_eq (get_or text at 0) 10 ≡ false → Tell text at ends → Tell text (at + 1) ends
tell_other text at ends lt other t =
    let column : column_at text (at + 1) ≡ column_at text at + 1 = column_next text at lt ∙ ap (λ b. cond b 1 (column_at text at + 1)) other in
    let line : line_at text (at + 1) ≡ line_at text at + 0 = line_next text at lt ∙ ap (λ b. line_at text at + cond b 1 0) other in
    record {
      line = omega (arith, line, t.line);
      first = λ none. omega (arith, column, t.first none);
      later = λ m is_last. let before = t.later m is_last in (omega (arith, before.0), omega (arith, column, before.0, before.1));
    }

-- the ends before the next place are those before this one, and this one if a line ends here
ended_next : (text : List ℕ) (at : ℕ) → ended text (at + 1) ≡ ended text at ++ places_from (is_byte 10) text at 1
ended_next text at =
    let count : at + 1 - 0 ≡ (at - 0) + 1 = omega arith in
    let place : 0 + (at - 0) ≡ at = omega arith in
    ap (places_from (is_byte 10) text 0) count ∙ places_from-append (is_byte 10) text 0 (at - 0) 1
    ∙ ap (λ k. ended text at ++ places_from (is_byte 10) text k 1) place

-- the ends before the next place, where a line ends here
ended_here : (text : List ℕ) (at : ℕ) → nat_eq (get_or text at 0) 10 ≡ true → ended text (at + 1) ≡ ended text at ++ at ∷ []
unfolding places_from
ended_here text at is = ended_next text at ∙ ap (λ b. ended text at ++ cond b (at ∷ []) []) is

-- and where none does
ended_not : (text : List ℕ) (at : ℕ) → nat_eq (get_or text at 0) 10 ≡ false → ended text (at + 1) ≡ ended text at ++ []
unfolding places_from
ended_not text at other = ended_next text at ∙ ap (λ b. ended text at ++ cond b (at ∷ []) []) other

-- the ends before a place tell its line and column
tells : (text : List ℕ) (at : ℕ) → at ≤ length text → Tell text at (ended text at)
unfolding places_from
tells text zero le = record { line = refl; first = λ none. refl; later = λ m more. absurd (omega (arith, more)) }
tells text (suc at) le =
    let next : at + 1 ≡ suc at = omega arith in
    subst (λ k. Tell text k (ended text k)) next (elim (cases_Bool (nat_eq (get_or text at 0) 10)) [
      | inl is ↦ subst (Tell text (at + 1)) (sym (ended_here text at is))
          (tell_end text at (ended text at) (omega (arith, le)) is (tells text at (omega (arith, le))))
      | inr other ↦ subst (Tell text (at + 1)) (sym (ended_not text at other ∙ append-nil (ended text at)))
          (tell_other text at (ended text at) (omega (arith, le)) other (tells text at (omega (arith, le))))
    ])

-- the places in a run lie within it
within : (text : List ℕ) (low high i n : ℕ) → low ≤ i → i + n ≤ high → All (λ k. (low ≤ k) × (k < high)) (places_from (is_byte 10) text i n)
unfolding places_from
within text low high i zero above below = All-nil (λ k. (low ≤ k) × (k < high))
within text low high i (suc n) above below =
    let later = within text low high (i + 1) n (omega arith) (omega arith) in
    cond_both (is_byte 10 (slice_index text i)) (i ∷ places_from (is_byte 10) text (i + 1) n) (places_from (is_byte 10) text (i + 1) n)
    (All (λ k. (low ≤ k) × (k < high)))
    (λ here. All-cons (λ k. (low ≤ k) × (k < high)) i _ (omega arith, omega arith) later) (λ _. later)

-- they rise
rise : (text : List ℕ) (i n : ℕ) → IsNonDecreasingBy (λ k. k) (places_from (is_byte 10) text i n)
unfolding places_from
rise text i zero = λ a b d le lt. absurd (omega (arith, lt))
rise text i (suc n) = cond_both (is_byte 10 (slice_index text i)) (i ∷ places_from (is_byte 10) text (i + 1) n) (places_from (is_byte 10) text (i + 1) n)
    (IsNonDecreasingBy (λ k. k))
    (λ here. risen i (places_from (is_byte 10) text (i + 1) n) (rise text (i + 1) n) (within text i (i + suc n) (i + 1) n (omega arith) (omega arith)))
    (λ _. rise text (i + 1) n)
  where
    risen : (i : ℕ) {high : ℕ} (ns : List ℕ) → IsNonDecreasingBy (λ k. k) ns → All (λ k. (i ≤ k) × (k < high)) ns → IsNonDecreasingBy (λ k. k) (i ∷ ns)
    risen i ns up all zero zero d le lt = omega arith
    risen i ns up all zero (suc b) d le lt = (all b d (omega (arith, lt))).0
    risen i ns up all (suc a) zero d le lt = absurd (omega (arith, le))
    risen i ns up all (suc a) (suc b) d le lt = up a b d (omega (arith, le)) (omega (arith, lt))

-- the ends of all lines rise
pub ends_rise : (text : List ℕ) → IsNonDecreasingBy (λ k. k) (ends_of text)
ends_rise text = rise text 0 (length text - 0)

-- the ends before a place, and those from it on
parted : (text : List ℕ) (at : ℕ) → at ≤ length text → ends_of text ≡ ended text at ++ places_from (is_byte 10) text at (length text - at)
parted text at le =
    let sum : length text - 0 ≡ (at - 0) + (length text - at) = omega (arith, le) in
    let start : 0 + (at - 0) ≡ at = omega arith in
    ap (places_from (is_byte 10) text 0) sum ∙ places_from-append (is_byte 10) text 0 (at - 0) (length text - at)
    ∙ ap (λ k. ended text at ++ places_from (is_byte 10) text k (length text - at)) start

-- where the ends before a place stand first, they are as many as stand before where the ends are parted by it
as_many : (ends before behind : List ℕ) (at k : ℕ) → ends ≡ before ++ behind
    → All (λ e. (0 ≤ e) × (e < at)) before → ((m : ℕ) → m < length behind → at ≤ get_or behind m 0)
    → IsPartitionPoint (λ e. ltb e at ≡ true) (λ e. ltb e at ≡ false) ends k → k ≤ length ends → k ≡ length before
as_many ends before behind at k is low high parts few =
    let long : length ends ≡ length before + length behind = ap length is ∙ length-append before behind in
    elim (cases_lt k (length before)) [
      | inl less ↦
          let here : get_or ends k 0 ≡ get_or before k 0 = ap (λ es. get_or es k 0) is ∙ get_or_append_left before behind 0 k less in
          let above = ltb-false (get_or ends k 0) at (parts.1 k 0 (omega arith) (omega (arith, long, less))) in
          absurd (omega (arith, here, above, (low k 0 less).1))
      | inr more ↦ elim (cases_lt (length before) k) [
        | inl greater ↦
            let here : get_or ends (length before) 0 ≡ get_or behind (length before - length before) 0 =
            ap (λ es. get_or es (length before) 0) is ∙ get_or-append_right before behind (length before) (length before) 0 refl (omega arith) in
            let below = ltb-true (get_or ends (length before) 0) at (parts.0 (length before) 0 (omega arith) greater) in
            let above = high (length before - length before) (omega (arith, greater, few, long)) in
            absurd (omega (arith, here, below, above))
        | inr same ↦ omega (arith, more, same)
      ]
    ]

-- where the ends of a text are parted by a place, so many lines end before it
pub end_before : (text : List ℕ) (at k : ℕ) → at ≤ length text
    → IsPartitionPoint (λ e. ltb e at ≡ true) (λ e. ltb e at ≡ false) (ends_of text) k → k ≤ length (ends_of text) → EndBefore text at k
end_before text at k le parts few =
    let behind = places_from (is_byte 10) text at (length text - at) in
    let later : All (λ e. (at ≤ e) × (e < length text)) behind = within text at (length text) at (length text - at) (omega arith) (omega (arith, le)) in
    let many : k ≡ length (ended text at) = as_many (ends_of text) (ended text at) behind at k (parted text at le)
    (within text 0 at 0 (at - 0) (omega arith) (omega arith)) (λ m lt. (later m 0 lt).0) parts few in
    let t = tells text at le in
    record { few = few; line = omega (arith, t.line, many); column = column_of text at k (ended text at) behind many (parted text at le) t }
  where
    column_of : (text : List ℕ) (at k : ℕ) (ends behind : List ℕ) → k ≡ length ends → ends_of text ≡ ends ++ behind → Tell text at ends → IsColumn text at k
    column_of text at zero ends behind many is t = t.first (sym many)
    column_of text at (suc m) ends behind many is t =
        let here : get_or (ends_of text) m 0 ≡ get_or ends m 0 = ap (λ es. get_or es m 0) is ∙ get_or_append_left ends behind 0 m (omega (arith, many)) in
        let before = t.later m (sym many) in
        (omega (arith, here, before.0), omega (arith, here, before.0, before.1))
