-- What calls of the reader do, one after the other.
use Rattle.std.proofs.Common.{◌≡◌, ◌∙◌, ℕ, ◌+◌, ◌-◌, ◌<◌, ◌≤◌, List, [], ◌∷◌, ◌++◌, length, take, drop, refl, sym, ap, subst, arith, inl, inr, append_assoc, append-nil, length-append, length-drop}
use Rattle.std.proofs.Math.Seq.{take-add, take-append-add}
use Rattle.std.proofs.lemmas.List.{take-append-drop, take-append-le, drop-append-le, drop-take, drop-drop, length-take-le}
use Rattle.std.specs.Prelude.{Option, Some, None, Ok, Err}
use Rattle.linker_base.specs.declared.limits.TheConstants.{INPUT_BYTES, LINE_BYTES}
use Rattle.linker_base.specs.Members.{IsMember}
use Rattle.linker_base.proofs.MemberLaws.{member_cases, member_left}
use Rattle.outside_core.specs.Streams.{Takes, TakenSoFar}
use Rattle.outside_core.proofs.Streams.{taken_none, taken_more}
use Rattle.session_course.specs.Refusals.{IsEndless}
use Rattle.script_commands.specs.Lines.{IsPlaceOf}
use Rattle.script_commands.specs.Pieces.{IsAtEnd}
use Rattle.script_commands.specs.Reading.{Window, HasTaken, HasUsed, HasUsedSome, IsBeyond, IsFree, HasLine, IsFilled}
use Rattle.script_commands.specs.declared.command.ReadStop.TheVariants.{LongInput}

-- ---- the buffer

-- what was written after the bytes that are pending joins them
pub piece_more : (items into past : List ℕ) (at end count : ℕ) → at ≤ end → end ≤ length items → count ≤ length into
    → take (end + count - at) (drop at (take end items ++ (into ++ past))) ≡ take (end - at) (drop at items) ++ take count into
piece_more items into past at end count le within fits =
    let front = take end items in
    let size : length front ≡ end = length-take-le end items within in
    let whole : end ≡ at + (end - at) = omega (arith, le) in
    let held : drop at front ≡ take (end - at) (drop at items) = ap (λ k. drop at (take k items)) whole ∙ drop-take at (end - at) items in
    let long : length (drop at front) ≡ end - at = length-drop at front ∙ ap (λ k. k - at) size in
    ap (λ xs. take (end + count - at) xs) (drop-append-le at front (into ++ past) (omega (arith, le, size)))
    ∙ (ap (λ k. take k (drop at front ++ (into ++ past))) (omega (arith, long, le))
    ∙ (take-append-add (drop at front) (into ++ past) count
    ∙ (ap (λ xs. xs ++ take count (into ++ past)) held
    ∙ ap (λ xs. take (end - at) (drop at items) ++ xs) (take-append-le count into past fits))))

-- what is pending after so many bytes of it were used up
pub piece_less : (items : List ℕ) (at end size : ℕ) → size ≤ end - at
    → take (end - (at + size)) (drop (at + size) items) ≡ drop size (take (end - at) (drop at items))
piece_less items at end size le =
    let whole : end - at ≡ size + (end - (at + size)) = omega (arith, le) in
    ap (λ xs. take (end - (at + size)) xs) (sym (drop-drop size at items))
    ∙ (sym (drop-take size (end - (at + size)) (drop at items)) ∙ ap (λ k. drop size (take k (drop at items))) (sym whole))

-- a call that took nothing came to the end
pub at_end : (E : Type 0) (left now : Option (List ℕ)) (n : ℕ) (buffer : List ℕ) → Takes {E = E} left now (Ok n) buffer → n ≡ 0 → IsAtEnd now
at_end E None now n buffer t none = subst IsAtEnd (sym t) tt
at_end E (Some bytes) now n buffer t none =
    let all : take n buffer ++ t.0 ≡ [] = sym t.2 ∙ t.3.0 none in
    let rest : t.0 ≡ [] = no_back (take n buffer) t.0 all in
    subst IsAtEnd (sym t.1) rest
  where
    no_back : (front back : List ℕ) → front ++ back ≡ [] → back ≡ []
    no_back [] back e = e
    no_back (x ∷ front) back e = cc

-- ---- lines

-- 2,049 bytes and more without LF
pub endless_front : (line more bytes : List ℕ) → (IsMember line 10 → ⊥) → LINE_BYTES < length line → bytes ≡ line ++ more → IsEndless bytes
endless_front line more bytes free long stands =
    let parts = take-append-drop (LINE_BYTES + 1) line in
    record {
      front = take (LINE_BYTES + 1) line;
      back = drop (LINE_BYTES + 1) line ++ more;
      size = length-take-le (LINE_BYTES + 1) line (omega (arith, long));
      free = λ m. free (subst (λ bs. IsMember bs 10) parts (member_left (take (LINE_BYTES + 1) line) (drop (LINE_BYTES + 1) line) 10 m));
      stands = stands ∙ (ap (λ bs. bs ++ more) (sym parts) ∙ append_assoc (take (LINE_BYTES + 1) line) (drop (LINE_BYTES + 1) line) more);
    }

-- no byte is LF where neither the first ones are nor the rest
pub none_free : (clear : ℕ) (bytes : List ℕ) → IsFree clear bytes → (IsMember (drop clear bytes) 10 → ⊥) → IsMember bytes 10 → ⊥
none_free clear bytes free none m =
    elim (member_cases (take clear bytes) (drop clear bytes) 10 (subst (λ bs. IsMember bs 10) (sym (take-append-drop clear bytes)) m))
    [ inl h ↦ free h | inr h ↦ none h ]

-- an LF after the first ones is the first, and ends the line
pub record HasFeed (n : ℕ) (bytes : List ℕ) : Type 0 where
  pub within : n < length bytes
  pub free : IsFree n bytes
  pub back : List ℕ
  pub stands : bytes ≡ take n bytes ++ 10 ∷ back

pub feed_found : (clear place : ℕ) (bytes seen : List ℕ) → IsFree clear bytes → seen ≡ drop clear bytes → IsPlaceOf 10 seen (Some place)
    → HasFeed (clear + place) bytes
feed_found clear place bytes seen free is (lt, parts, none) =
    let rest = drop clear bytes in
    let apart : rest ≡ take place rest ++ 10 ∷ drop (place + 1) rest = subst (λ xs. xs ≡ take place xs ++ 10 ∷ drop (place + 1) xs) is parts in
    let fronts : take (clear + place) bytes ≡ take clear bytes ++ take place rest = take-add clear place bytes in
    record {
      within = omega (arith, lt, ap length is, length-drop clear bytes);
      free = λ m. elim (member_cases (take clear bytes) (take place rest) 10 (subst (λ bs. IsMember bs 10) fronts m)) [
        | inl h ↦ free h
        | inr h ↦ none (subst (λ bs. IsMember (take place bs) 10) (sym is) h)
      ];
      back = drop (place + 1) rest;
      stands = sym (take-append-drop clear bytes)
          ∙ (ap (λ bs. take clear bytes ++ bs) apart
          ∙ (sym (append_assoc (take clear bytes) (take place rest) (10 ∷ drop (place + 1) rest))
          ∙ ap (λ bs. bs ++ 10 ∷ drop (place + 1) rest) (sym fronts)));
    }

-- a line that ends so far on is too long
pub feed_late : (n : ℕ) (bytes : List ℕ) → HasFeed n bytes → LINE_BYTES < n → IsEndless bytes
feed_late n bytes h long = endless_front (take n bytes) (10 ∷ h.back) bytes h.free
    (omega (arith, long, length-take-le n bytes (omega (arith, h.within)))) h.stands

-- or it is short enough
pub feed_soon : (n : ℕ) (bytes : List ℕ) → HasFeed n bytes → n ≤ LINE_BYTES → HasLine n bytes
feed_soon n bytes h short = record { within = h.within; short = short; free = h.free; back = h.back; stands = h.stands }

-- ---- calls of the source

-- a byte came beyond the limit of an input
pub looked_beyond : (E : Type 0) (w : Window) (left now : Option (List ℕ)) (n : ℕ) (buffer : List ℕ) → w.used + length w.pending ≡ INPUT_BYTES
    → Takes {E = E} left now (Ok n) buffer → n ≤ length buffer → (n ≡ 0 → ⊥) → HasTaken w left now (IsFilled w w now (Err LongInput))
looked_beyond E w left now n buffer full t le some = record {
  taken = take n buffer;
  from = taken_more E left left now [] n buffer (taken_none left) t;
  outcome = (refl, full, omega (arith, some, length-append w.pending (take n buffer), length-take-le n buffer le));
}

-- some bytes were taken, and then some more
taken_then : (left now later : Option (List ℕ)) (taken more : List ℕ) → TakenSoFar left now taken → TakenSoFar now later more
    → TakenSoFar left later (taken ++ more)
taken_then None now later taken more a b = subst (λ x. TakenSoFar x later more) a b
taken_then (Some bytes) now later taken more a b =
    let t : TakenSoFar (Some a.0) later more = subst (λ x. TakenSoFar x later more) a.1 b in
    (t.0, t.1, a.2 ∙ (ap (λ ys. taken ++ ys) t.2 ∙ sym (append_assoc taken more t.0)))

-- nothing was taken
pub taken_nothing : (w : Window) (left : Option (List ℕ)) (Outcome : List ℕ → Type 0) → Outcome w.pending → HasTaken w left left Outcome
taken_nothing w left Outcome h = record { taken = []; from = taken_none left; outcome = subst Outcome (sym (append-nil w.pending)) h }

-- a call used up a front of what it saw, and then another call was made
pub then_taken : (w0 w1 : Window) (left now later : Option (List ℕ)) (front : List ℕ) (Outcome Then : List ℕ → Type 0)
    → HasTaken w0 left now (λ seen. HasUsed w0 w1 front seen) → HasTaken w1 now later Then
    → ((more : List ℕ) → w1.used ≡ w0.used + length front → Then (w1.pending ++ more) → Outcome (front ++ (w1.pending ++ more)))
    → HasTaken w0 left later Outcome
then_taken w0 w1 left now later front Outcome Then a b then = record {
  taken = a.taken ++ b.taken;
  from = taken_then left now later a.taken b.taken a.from b.from;
  outcome = subst Outcome whole (then b.taken a.outcome.place b.outcome);
}
  where
    whole : front ++ (w1.pending ++ b.taken) ≡ w0.pending ++ (a.taken ++ b.taken)
    whole = sym (append_assoc front w1.pending b.taken) ∙ (ap (λ bs. bs ++ b.taken) (sym a.outcome.stands) ∙ append_assoc w0.pending a.taken b.taken)

-- what holds of the bytes seen, and so holds what follows from it
pub taken_so : (w : Window) (left now : Option (List ℕ)) (This That : List ℕ → Type 0) → HasTaken w left now This
    → ((seen : List ℕ) → This seen → That seen) → HasTaken w left now That
taken_so w left now This That a then = record { taken = a.taken; from = a.from; outcome = then (w.pending ++ a.taken) a.outcome }

module _ (w0 w1 w2 : Window) (front seen : List ℕ) (place : w1.used ≡ w0.used + length front) where
  -- one front was used up and then another
  pub used_then : (next : List ℕ) → HasUsed w1 w2 next seen → HasUsed w0 w2 (front ++ next) (front ++ seen)
  used_then next h = record {
    stands = ap (λ bs. front ++ bs) h.stands ∙ sym (append_assoc front next w2.pending);
    place = omega (arith, place, h.place, length-append front next);
  }

  pub some_then : HasUsedSome w1 w2 seen → HasUsedSome w0 w2 (front ++ seen)
  some_then (next, h) = (front ++ next, used_then next h)

  -- a byte came beyond the limit of an input
  pub beyond_then : (This That : List ℕ → Type 0) → IsBeyond w1 w2 This seen → ((bs : List ℕ) → This bs → That (front ++ bs))
      → IsBeyond w0 w2 That (front ++ seen)
  beyond_then This That h then = record {
    front = front ++ h.front;
    back = h.back;
    stands = ap (λ bs. front ++ bs) h.stands ∙ sym (append_assoc front h.front h.back);
    full = omega (arith, h.full, place, length-append front h.front);
    more = h.more;
    within = then h.front h.within;
    kept = (
      front ++ h.kept.0,
      record {
        stands = ap (λ bs. front ++ bs) h.kept.1.stands ∙ sym (append_assoc front h.kept.0 w2.pending);
        place = omega (arith, place, h.kept.1.place, length-append front h.kept.0);
      },
    );
  }
