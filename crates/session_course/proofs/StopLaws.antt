-- An input has one stop: no two rows hold first, and a row holds in one way.
use Rattle.std.proofs.Common.{◌≡◌, ◌∙◌, ℕ, Bool, List, ◌∷◌, ◌++◌, length, refl, sym, ap, subst, arith, inl, inr, length-append}
use Rattle.std.proofs.lemmas.Bool.{cases_lt}
use Rattle.std.specs.Prelude.{Some}
use Rattle.book_model.specs.Book.{Book}
use Rattle.session_course.specs.Commands.{Command, put, line_of, refusal_of, done_before}
use Rattle.session_course.specs.Refusals.{IsOversized, IsUnclosed, IsRefused}
use Rattle.session_course.specs.Stops.{Stop, row_of, next_bytes, Holds, IsStop, Course, AreSame}
use Rattle.session_course.proofs.CutLaws.{cuts_same}
use Rattle.session_course.proofs.Lines.{split_once, line_feed, put_line_same, passed_same, spelling_same}

-- a line passes one limit
limit_same : (bytes : List ℕ) (l m : ℕ) → IsOversized l bytes → IsOversized m bytes → l ≡ m
limit_same bytes l m a b =
    let lines = (split_once 10 (line_of a.command) (line_of b.command) a.back b.back (line_feed a.command a.form) (line_feed b.command b.form)
    (sym a.stands ∙ b.stands)).0 in
    let both : Some l ≡ Some m = sym a.passed ∙ (passed_same a.command b.command a.form b.form lines ∙ b.passed) in cc

-- one byte after a put's text isn't LF
feed_same : (bytes : List ℕ) (i j : ℕ) → IsUnclosed i bytes → IsUnclosed j bytes → i ≡ j
feed_same bytes i j a b =
    let lines = (split_once 10 (line_of (put a.name a.text)) (line_of (put b.name b.text)) (a.text ++ a.next ∷ a.back) (b.text ++ b.next ∷ b.back)
    (line_feed (put a.name a.text) a.form) (line_feed (put b.name b.text) b.form) (sym a.stands ∙ b.stands)).0 in
    let sizes = (put_line_same a.name b.name a.text b.text a.form b.form lines).1 in
    omega (
      arith,
      a.place,
      b.place,
      ap length lines,
      sizes,
      length-append (line_of (put a.name a.text)) (10 ∷ a.text),
      length-append (line_of (put b.name b.text)) (10 ∷ b.text),
    )

-- a command is refused with one number
refusal_same : (book : Book) (bytes : List ℕ) (l m : ℕ) (xs ys : List Command) → IsRefused book l xs bytes → IsRefused book m ys bytes
    → Stop.NoRoom l xs ≡ Stop.NoRoom m ys
refusal_same book bytes l m xs ys a b =
    let same = (spelling_same a.command b.command a.back b.back a.form b.form (sym a.stands ∙ b.stands)).0 in
    let both : Some l ≡ Some m = sym a.refused ∙ (ap (λ (c : Command). refusal_of book c) same ∙ b.refused) in
    let before : xs ≡ ys = a.before ∙ (ap (λ (c : Command). done_before book c) same ∙ sym b.before) in
    let number : l ≡ m = cc in cc

module _ (from : Book) (commands : List Command) (bytes rest : List ℕ) where
  -- a row holds in one way
  row_same : (s t : Stop) → row_of s ≡ row_of t → Holds from commands bytes rest s → Holds from commands bytes rest t → s ≡ t
  row_same Stop.Ended Stop.Ended e h k = refl
  row_same Stop.LongLine Stop.LongLine e h k = refl
  row_same Stop.NoForm Stop.NoForm e h k = refl
  row_same (Stop.LongText l) (Stop.LongText m) e h k = ap Stop.LongText (limit_same (next_bytes bytes rest) l m h k)
  row_same (Stop.NoLineFeed i) (Stop.NoLineFeed j) e h k = ap Stop.NoLineFeed (feed_same (next_bytes bytes rest) i j h k)
  row_same (Stop.NoRoom l xs) (Stop.NoRoom m ys) e h k = refusal_same _ (next_bytes bytes rest) l m xs ys h k
  row_same Stop.LongInput Stop.LongInput e h k = refl
  row_same Stop.CutShort Stop.CutShort e h k = refl
  row_same s t e h k = absurd (omega (arith, e))

  -- no two rows hold first
  pub stops_same : (s t : Stop) → IsStop from commands bytes rest s → IsStop from commands bytes rest t → s ≡ t
  stops_same s t a b = elim (cases_lt (row_of s) (row_of t)) [
    | inl less ↦ absurd (b.first s less a.holds)
    | inr le ↦ elim (cases_lt (row_of t) (row_of s)) [
      | inl less ↦ absurd (a.first t less b.holds)
      | inr ge ↦ row_same s t
          (omega (arith, le, ge)) a.holds b.holds
    ]
  ]

-- an input has one course
pub courses_same : (ended : Bool) (from : Book) (bytes : List ℕ) (a b : Course ended from bytes) → AreSame a b
courses_same ended from bytes a b =
    let cuts = cuts_same ended from a.commands b.commands bytes a.rest b.rest a.cut b.cut in
    record {
      commands = cuts.0;
      rest = cuts.1;
      stop = stops_same from b.commands bytes b.rest a.stop b.stop
          (subst (λ r. IsStop from b.commands bytes r a.stop) cuts.1
          (subst (λ (cs : List Command). IsStop from cs bytes a.rest a.stop) cuts.0 a.stops)) b.stops;
    }
