-- Parts of an answer, one after the other.
use Rattle.std.proofs.Common.{◌≡◌, ◌∙◌, ℕ, zero, suc, ◌+◌, ◌<◌, ◌≤◌, Bool, true, false, cond, List, [], ◌∷◌, ◌++◌, length, take, drop, get_or, refl, sym, ap, subst, arith, append_assoc, append-nil}
use Rattle.std.proofs.Math.Seq.{take-length}
use Rattle.std.specs.Prelude.{codes, Result, Ok, Err}
use Rattle.std.specs.Result.{IsErrAnd}
use Rattle.std.specs.List.{flat_map}
use Rattle.linker_base.specs.Counts.{Rose}
use Rattle.book_model.specs.declared.rows.LinkRow.{LinkRow}
use Rattle.book_model.specs.Files.{ProjectFile}
use Rattle.book_model.specs.Printed.{row_text}
use Rattle.session_streams.specs.Moves.{Stream, Move, moved, Gave, GaveFront, IsSound, Fails}
use Rattle.session_streams.proofs.Giving.{gave_none, gave_then, gave_same, front_then}
use Rattle.sysml_session.specs.Answered.{IsGiven}
use Rattle.sysml_session.specs.declared.answering.AnswerFault.{AnswerFault}
use Rattle.sysml_session.specs.declared.answering.AnswerFault.TheVariants.{Limit, WriteFault, NoMemory}
use Rattle.project_answers.specs.declared.rows.Listing.{Listing}
use Rattle.project_answers.specs.Parts.{IsPart, sum_of}
use Rattle.project_answers.specs.RowLines.{is_listed, before_row, line_of, count_of}

-- memory was wanting before anything was given
pub part_wanted : (a : Stream) (whole : List ℕ) (count : ℕ) → IsPart (moved a a) whole count (Err NoMemory)
part_wanted a whole count = ((0, gave_none a), refl)

-- nothing is a part that counts nothing
pub part_none : (a : Stream) (whole : List ℕ) (count : ℕ) → whole ≡ [] → count ≡ 0 → IsPart (moved a a) whole count (Ok 0)
part_none a whole count none nothing = (sym nothing, gave_same a a [] whole (sym none) (gave_none a), refl)

-- a part of the same bytes and count
pub part_same : (output : Move) (these those : List ℕ) (n m : ℕ) (r : Result ℕ AnswerFault) → these ≡ those → n ≡ m → IsPart output these n r
    → IsPart output those m r
part_same output these those n m r bytes count part = subst (λ b. IsPart output b m r) bytes (subst (λ k. IsPart output these k r) count part)

-- a call failed behind others that did not
pub fails_then : (a b c : Stream) → IsSound (moved a b) → Fails (moved b c) → Fails (moved a c)
fails_then a b c s (later, rose) = (subst (λ n. n ≤ c.faults) s later, subst (λ n. Rose n c.faults) s rose)

-- a part that failed behind others
pub part_then : (a b c : Stream) (first second more : List ℕ) (n m : ℕ) (e : AnswerFault) → Gave (moved a b) first → IsSound (moved a b)
    → IsPart (moved b c) second n (Err e) → IsPart (moved a c) ((first ++ second) ++ more) m (Err e)
part_then a b c first second more n m WriteFault g s h = (front_then a b c first second more g h.0, fails_then a b c s h.1)
part_then a b c first second more n m NoMemory g s h = (front_then a b c first second more g h.0, h.1 ∙ s)
part_then a b c first second more n m (Limit number) g s h = h

-- a piece that was given is a part
pub piece_part : (output : Move) (piece whole : List ℕ) (count : ℕ) (e : AnswerFault) → piece ≡ whole → IsGiven output piece (Err e)
    → IsPart output whole count (Err e)
piece_part output piece whole count WriteFault is (f, g) = (subst (GaveFront output) is f, g)
piece_part output piece whole count (Limit number) is g = absurd g
piece_part output piece whole count NoMemory is g = absurd g

-- ---- the line of a row

pub line_listed : (listing : Listing) (files : List ProjectFile) (row : LinkRow) → is_listed listing row ≡ true
    → before_row listing files row ++ row_text files row ++ codes "\n" ≡ line_of listing files row
line_listed listing files row is = sym (ap (λ b. cond b (before_row listing files row ++ row_text files row ++ codes "\n") []) is)

pub line_left_out : (listing : Listing) (files : List ProjectFile) (row : LinkRow) → is_listed listing row ≡ false → line_of listing files row ≡ []
line_left_out listing files row is = ap (λ b. cond b (before_row listing files row ++ row_text files row ++ codes "\n") []) is

pub count_listed : (listing : Listing) (row : LinkRow) → is_listed listing row ≡ true → count_of listing row ≡ 1
count_listed listing row is = ap (λ b. cond b 1 0) is

pub count_left_out : (listing : Listing) (row : LinkRow) → is_listed listing row ≡ false → count_of listing row ≡ 0
count_left_out listing row is = ap (λ b. cond b 1 0) is

-- a row counts once at most
pub count_few : (listing : Listing) (row : LinkRow) → count_of listing row ≤ 1
count_few listing row = by (is_listed listing row) where
  by : (b : Bool) → cond b 1 0 ≤ 1
  by true = omega arith
  by false = omega arith

-- ---- a part for each item

-- a list, cut at one of its items
cut_at : {X : Type 0} (xs : List X) (i : ℕ) (d : X) → i < length xs → xs ≡ take i xs ++ get_or xs i d ∷ drop (suc i) xs
cut_at [] i d lt = absurd (omega (arith, lt))
cut_at (y ∷ xs) zero d lt = refl
cut_at (y ∷ xs) (suc i) d lt = ap (λ zs. y ∷ zs) (cut_at xs i d (omega (arith, lt)))

more_from : {X : Type 0} (xs : List X) (i : ℕ) (d : X) → i < length xs → take (suc i) xs ≡ take i xs ++ get_or xs i d ∷ []
more_from [] i d lt = absurd (omega (arith, lt))
more_from (y ∷ xs) zero d lt = refl
more_from (y ∷ xs) (suc i) d lt = ap (λ zs. y ∷ zs) (more_from xs i d (omega (arith, lt)))

-- one item more
pub more_at : {X : Type 0} (xs : List X) (i : ℕ) (d : X) → i < length xs → take (i + 1) xs ≡ take i xs ++ get_or xs i d ∷ []
more_at xs i d lt = let up : i + 1 ≡ suc i = omega arith in ap (λ k. take k xs) up ∙ more_from xs i d lt

-- what a `?` passes on
pub passed_on : {T E : Type 0} (r : Result T E) (f : E) (P : Result T E → Type 0) → IsErrAnd r (λ e. e ≡ f) → P (Err f) → P r
passed_on (Ok x) f P e p = absurd e
passed_on (Err x) f P e p = subst (λ y. P (Err y)) (sym e) p

-- so many rows were told of so many references, and one more
pub few_more : (listing : Listing) (row : LinkRow) (told i n : ℕ) → told ≤ i → n ≡ count_of listing row → told + n ≤ i + 1
few_more listing row told i n few is = let one = count_few listing row in omega (arith, few, is, one)

-- what the items of two lists tell
pub told_both : {X A : Type 0} (f : X → List A) (xs ys : List X) → flat_map f (xs ++ ys) ≡ flat_map f xs ++ flat_map f ys
told_both f [] ys = refl
told_both f (x ∷ xs) ys = ap (λ bs. f x ++ bs) (told_both f xs ys) ∙ sym (append_assoc (f x) (flat_map f xs) (flat_map f ys))

module _ {X : Type 0} (line : X → List ℕ) (count : X → ℕ) where
  -- what two lists of items count
  pub counts_both : (xs ys : List X) → sum_of count (xs ++ ys) ≡ sum_of count xs + sum_of count ys
  counts_both [] ys = omega arith
  counts_both (x ∷ xs) ys = let more = counts_both xs ys in omega (arith, more)

  -- so many items were gone through, and their lines given
  pub record AreGiven (output : Move) (items : List X) (i told : ℕ) : Type 0 where
    pub told_is : told ≡ sum_of count (take i items)
    pub gave : Gave output (flat_map line (take i items))
    pub sound : IsSound output

  pub given_none : (a : Stream) (items : List X) → AreGiven (moved a a) items 0 0
  given_none a items = record { told_is = refl; gave = gave_none a; sound = refl }

  -- one item more
  pub given_more : (a b c : Stream) (items : List X) (i told n : ℕ) (d : X) → i < length items → AreGiven (moved a b) items i told
      → IsPart (moved b c) (line (get_or items i d)) (count (get_or items i d)) (Ok n) → AreGiven (moved a c) items (i + 1) (told + n)
  given_more a b c items i told n d lt h (same, gave, sound) =
      let x = get_or items i d in
      let more = more_at items i d lt in
      let counts = ap (sum_of count) more ∙ counts_both (take i items) (x ∷ []) in
      let lines = ap (flat_map line) more ∙ (told_both line (take i items) (x ∷ [])
      ∙ ap (λ bs. flat_map line (take i items) ++ bs) (append-nil (line x))) in record {
        told_is = (let was = h.told_is in omega (arith, was, same, counts));
        gave = gave_same a c _ _ (sym lines) (gave_then a b c _ _ h.gave gave);
        sound = sound ∙ h.sound;
      }

  -- a failure at an item
  pub given_failed : (a b c : Stream) (items : List X) (i told : ℕ) (e : AnswerFault) (d : X) → i < length items
      → AreGiven (moved a b) items i told → IsPart (moved b c) (line (get_or items i d)) (count (get_or items i d)) (Err e)
      → IsPart (moved a c) (flat_map line items) (sum_of count items) (Err e)
  given_failed a b c items i told e d lt h part =
      let x = get_or items i d in
      let whole : flat_map line items ≡ (flat_map line (take i items) ++ line x) ++ flat_map line (drop (suc i) items) =
      ap (flat_map line) (cut_at items i d lt) ∙ (told_both line (take i items) (x ∷ drop (suc i) items)
      ∙ sym (append_assoc (flat_map line (take i items)) (line x) (flat_map line (drop (suc i) items)))) in
      subst (λ bytes. IsPart (moved a c) bytes (sum_of count items) (Err e)) (sym whole) (part_then a b c (flat_map line (take i items)) (line x)
      (flat_map line (drop (suc i) items)) (count x) (sum_of count items) e h.gave h.sound part)

  -- all were gone through
  pub given_all : (a b : Stream) (items : List X) (i told : ℕ) → i ≡ length items → AreGiven (moved a b) items i told
      → IsPart (moved a b) (flat_map line items) (sum_of count items) (Ok told)
  given_all a b items i told all h =
      let whole : take i items ≡ items = ap (λ k. take k items) all ∙ take-length items in (
        h.told_is ∙ ap (sum_of count) whole,
        gave_same a b _ _ (ap (flat_map line) whole) h.gave,
        h.sound,
      )
