-- Where a row holds: no command goes on, and no row above it holds.
use Rattle.std.proofs.Common.{◌≡◌, ◌∙◌, ℕ, ◌+◌, ◌-◌, ◌<◌, ◌≤◌, Bool, true, List, [], ◌∷◌, ◌++◌, length, drop, refl, sym, ap, subst, arith, inl, inr, append-nil, length-append}
use Rattle.std.proofs.lemmas.List.{take-append-drop, length-take}
use Rattle.std.specs.Prelude.{codes, Some, None}
use Rattle.linker_base.specs.declared.limits.TheConstants.{INPUT_BYTES, LINE_BYTES}
use Rattle.book_model.specs.Book.{Book}
use Rattle.session_course.specs.Commands.{Command, put, line_of, spelling_of, HasForm, limit_passed, IsAccepted}
use Rattle.session_course.specs.Cut.{Begins, IsReading, AreOpen, book_left}
use Rattle.session_course.specs.Refusals.{IsEndless, IsFormless, IsOversized, IsUnclosed, IsRefused, IsUnfinished}
use Rattle.session_course.specs.Stops.{Stop, row_of, place_of, next_bytes, Holds, IsStop, Course}
use Rattle.session_course.proofs.CutLaws.{cut_stops, open_unended, front_within, endless_none, formless_none, oversized_none, unclosed_none, refused_here, feed_not_end, reads_shorter}
use Rattle.session_course.proofs.Lines.{split_once, line_feed, put_short, passed_same, spelt_by_line}

-- 2,049 bytes without LF don't begin `end`
long_not_end : (bytes more : List ℕ) → IsEndless bytes → bytes ++ more ≡ codes "end" → ⊥
long_not_end bytes more long e =
    let sizes : length bytes + length more ≡ 3 = sym (length-append bytes more) ∙ ap length e in
    omega (arith, ap length long.stands, length-append long.front long.back, long.size)

-- a short line ends before 2,049 bytes
pub short_not_long : (bytes line back : List ℕ) → length line ≤ LINE_BYTES → bytes ≡ line ++ 10 ∷ back → IsEndless bytes → ⊥
short_not_long bytes line back short stands long = omega
    (arith, front_within long.front line long.back back long.free (sym long.stands ∙ stands), long.size, short)

-- the line of a command has a form
pub formed : (bytes back : List ℕ) (c : Command) → HasForm c → bytes ≡ line_of c ++ 10 ∷ back → IsFormless bytes → ⊥
formed bytes back c form stands bad = bad.none c form
    (sym (split_once 10 bad.line (line_of c) bad.back back bad.free (line_feed c form) (sym bad.stands ∙ stands)).0)

-- the line of a command whose number keeps to its limit
pub sized : (bytes back : List ℕ) (c : Command) (limit : ℕ) → HasForm c → limit_passed c ≡ None → bytes ≡ line_of c ++ 10 ∷ back → IsOversized limit bytes → ⊥
sized bytes back c limit form size stands bad =
    let lines = (split_once 10 (line_of bad.command) (line_of c) bad.back back (line_feed bad.command bad.form) (line_feed c form)
    (sym bad.stands ∙ stands)).0 in
    let e : Some limit ≡ None = sym bad.passed ∙ (passed_same bad.command c bad.form form lines ∙ size) in cc

-- one list is the front of another, where both begin the same list
split_front : (xs ys front back : List ℕ) → length xs ≤ length ys → xs ++ front ≡ ys ++ back → (mid : List ℕ) × (ys ≡ xs ++ mid)
split_front [] ys front back le e = (ys, refl)
split_front (x ∷ xs) [] front back le e = absurd (omega arith)
split_front (x ∷ xs) (y ∷ ys) front back le e =
    let t : xs ++ front ≡ ys ++ back = cc in
    let r = split_front xs ys front back (omega arith) t in
    let first : x ≡ y = cc in
    let rest : ys ≡ xs ++ r.0 = r.1 in
    (r.0, cc)

module _ (from : Book) (cs : List Command) (bytes rest : List ℕ) (open_ : AreOpen cs) where
  -- the next bytes, and those beyond the limit
  pub parts : next_bytes bytes rest ++ drop (INPUT_BYTES - place_of bytes rest) rest ≡ rest
  parts = take-append-drop (INPUT_BYTES - place_of bytes rest) rest

  -- where one of the rows 2 to 6 holds, no accepted command begins
  pub row_none : (ended : Bool) (s : Stop) → 1 < row_of s → row_of s < 7 → Holds from cs bytes rest s
      → (c : Command) (more : List ℕ) → IsAccepted (book_left from cs) c → Begins ended c rest more → ⊥
  row_none ended Stop.LongLine lo hi h c more ok (inl whole) = endless_none (next_bytes bytes rest) _ more c h ok.short (parts ∙ whole)
  row_none ended Stop.LongLine lo hi h c more ok (inr bare) = long_not_end (next_bytes bytes rest) _ h (parts ∙ bare.2)
  row_none ended Stop.NoForm lo hi h c more ok (inl whole) = formless_none (next_bytes bytes rest) _ more c h ok.form (parts ∙ whole)
  row_none ended Stop.NoForm lo hi h c more ok (inr bare) =
      feed_not_end h.line h.back _ (ap (λ bs. bs ++ drop (INPUT_BYTES - place_of bytes rest) rest) (sym h.stands) ∙ (parts ∙ bare.2))
  row_none ended (Stop.LongText l) lo hi h c more ok (inl whole) = oversized_none l (next_bytes bytes rest) _ more c h ok.form ok.size (parts ∙ whole)
  row_none ended (Stop.LongText l) lo hi h c more ok (inr bare) =
      feed_not_end (line_of h.command) h.back _ (ap (λ bs. bs ++ drop (INPUT_BYTES - place_of bytes rest) rest) (sym h.stands) ∙ (parts ∙ bare.2))
  row_none ended (Stop.NoLineFeed i) lo hi h c more ok (inl whole) = unclosed_none i (next_bytes bytes rest) _ more c h ok.form (parts ∙ whole)
  row_none ended (Stop.NoLineFeed i) lo hi h c more ok (inr bare) =
      feed_not_end (line_of (put h.name h.text)) (h.text ++ h.next ∷ h.back) _
      (ap (λ bs. bs ++ drop (INPUT_BYTES - place_of bytes rest) rest) (sym h.stands) ∙ (parts ∙ bare.2))
  row_none ended (Stop.NoRoom l xs) lo hi h c more ok begins =
      refused_here (book_left from cs) l xs (next_bytes bytes rest) h ended c _ more ok (subst (λ bs. Begins ended c bs more) (sym parts) begins)
  row_none ended s lo hi h c more ok begins = absurd (omega (arith, lo, hi))

  -- then the commands are the cut, and this is the course
  abbrev pub course_of : (ended : Bool) → IsReading ended from cs bytes rest → (s : Stop) → 1 < row_of s → row_of s < 7 → IsStop from cs bytes rest s
      → Course ended from bytes
  course_of ended reading s lo hi i = record {
    commands = cs;
    rest = rest;
    cut = cut_stops ended from cs bytes rest reading (λ c more ok begins le. row_none ended s lo hi i.holds c more ok begins);
    stop = s;
    stops = i;
  }

  -- each row, as a reader finds it, is the first
  pub first_long : IsEndless (next_bytes bytes rest) → IsStop from cs bytes rest Stop.LongLine
  first_long h = record { holds = h; first = above }
    where
      above : (other : Stop) → row_of other < 2 → Holds from cs bytes rest other → ⊥
      above Stop.Ended less k = open_unended cs open_ k
      above other less k = absurd (omega (arith, less))

  -- a line without a form, which is short
  pub first_formless : (h : IsFormless (next_bytes bytes rest)) → length h.line ≤ LINE_BYTES → IsStop from cs bytes rest Stop.NoForm
  first_formless h short = record { holds = h; first = above }
    where
      above : (other : Stop) → row_of other < 3 → Holds from cs bytes rest other → ⊥
      above Stop.Ended less k = open_unended cs open_ k
      above Stop.LongLine less k = short_not_long (next_bytes bytes rest) h.line h.back short h.stands k
      above other less k = absurd (omega (arith, less))

  -- a number above its limit
  pub first_oversized : (l : ℕ) (h : IsOversized l (next_bytes bytes rest)) → length (line_of h.command) ≤ LINE_BYTES
      → IsStop from cs bytes rest (Stop.LongText l)
  first_oversized l h short = record { holds = h; first = above }
    where
      above : (other : Stop) → row_of other < 4 → Holds from cs bytes rest other → ⊥
      above Stop.Ended less k = open_unended cs open_ k
      above Stop.LongLine less k = short_not_long (next_bytes bytes rest) (line_of h.command) h.back short h.stands k
      above Stop.NoForm less k = formed (next_bytes bytes rest) h.back h.command h.form h.stands k
      above other less k = absurd (omega (arith, less))

  -- another byte than LF after a put's text
  pub first_unclosed : (i : ℕ) → IsUnclosed i (next_bytes bytes rest) → IsStop from cs bytes rest (Stop.NoLineFeed i)
  first_unclosed i h = record { holds = h; first = above }
    where
      above : (other : Stop) → row_of other < 5 → Holds from cs bytes rest other → ⊥
      above Stop.Ended less k = open_unended cs open_ k
      above Stop.LongLine less k = short_not_long (next_bytes bytes rest) (line_of (put h.name h.text)) _
          (omega (arith, put_short h.name h.text h.form)) h.stands k
      above Stop.NoForm less k = formed (next_bytes bytes rest) _ (put h.name h.text) h.form h.stands k
      above (Stop.LongText l) less k = sized (next_bytes bytes rest) _ (put h.name h.text) l h.form h.size h.stands k
      above other less k = absurd (omega (arith, less))

  -- a refused edit
  pub first_refused : (l : ℕ) (xs : List Command) (h : IsRefused (book_left from cs) l xs (next_bytes bytes rest))
      → length (line_of h.command) ≤ LINE_BYTES → IsStop from cs bytes rest (Stop.NoRoom l xs)
  first_refused l xs h short = record { holds = h; first = above }
    where
      above : (other : Stop) → row_of other < 6 → Holds from cs bytes rest other → ⊥
      above Stop.Ended less k = open_unended cs open_ k
      above Stop.LongLine less k = short_not_long (next_bytes bytes rest) (line_of h.command) _ short (h.stands ∙ spelt_by_line h.command h.back) k
      above Stop.NoForm less k = formed (next_bytes bytes rest) _ h.command h.form (h.stands ∙ spelt_by_line h.command h.back) k
      above (Stop.LongText l) less k = sized (next_bytes bytes rest) _ h.command l h.form h.size (h.stands ∙ spelt_by_line h.command h.back) k
      above (Stop.NoLineFeed i) less k = unclosed_none i (next_bytes bytes rest) [] h.back h.command k h.form (append-nil (next_bytes bytes rest) ∙ h.stands)
      above other less k = absurd (omega (arith, less))

  -- nothing but the limit of an input, or its end
  pub none_above : IsUnfinished (next_bytes bytes rest) → (other : Stop) → row_of other < 7 → Holds from cs bytes rest other → ⊥
  none_above u Stop.Ended less k = open_unended cs open_ k
  none_above u Stop.LongLine less k = u.short k
  none_above u Stop.NoForm less k = u.formed k
  none_above u (Stop.LongText l) less k = u.sized l k
  none_above u (Stop.NoLineFeed i) less k = u.closed i k
  none_above u (Stop.NoRoom l xs) less k = u.partial k.command k.back k.form k.size k.stands
  none_above u other less k = absurd (omega (arith, less))

  -- no accepted command begins that ends within the limit
  pub unfinished_none : (ended : Bool) → IsReading ended from cs bytes rest → IsUnfinished (next_bytes bytes rest)
      → (ended ≡ true → rest ≡ codes "end" → length bytes ≤ INPUT_BYTES → ⊥)
      → (c : Command) (more : List ℕ) → IsAccepted (book_left from cs) c → Begins ended c rest more → length bytes ≤ length more + INPUT_BYTES → ⊥
  unfinished_none ended reading u bare c more ok (inl whole) le =
      let sizes : length rest ≡ length (spelling_of c) + length more = ap length whole ∙ length-append (spelling_of c) more in
      let before = reads_shorter ended from cs bytes rest reading.reads in
      let mid = split_front (spelling_of c) (next_bytes bytes rest) more (drop (INPUT_BYTES - place_of bytes rest) rest) (fits sizes before)
      (sym whole ∙ sym parts) in
      u.partial c mid.0 ok.form ok.size mid.1
    where
      fits : length rest ≡ length (spelling_of c) + length more → length rest ≤ length bytes → length (spelling_of c) ≤ length (next_bytes bytes rest)
      fits sizes before = omega (arith, sizes, before, le, reading.within, length-take (INPUT_BYTES - place_of bytes rest) rest)
  unfinished_none ended reading u bare c more ok (inr end) le = bare end.0 end.2 (omega (arith, le, ap length end.3))

  -- the input is too long
  abbrev pub course_long : (ended : Bool) → IsReading ended from cs bytes rest → IsUnfinished (next_bytes bytes rest) → INPUT_BYTES < length bytes
      → Course ended from bytes
  course_long ended reading u long = record {
    commands = cs;
    rest = rest;
    cut = cut_stops ended from cs bytes rest reading (unfinished_none ended reading u (λ e is le. omega (arith, long, le)));
    stop = Stop.LongInput;
    stops = record { holds = long; first = none_above u };
  }

  -- nothing but the end of the input
  pub none_short : IsUnfinished (next_bytes bytes rest) → length bytes ≤ INPUT_BYTES → (other : Stop) → row_of other < 8 → Holds from cs bytes rest other → ⊥
  none_short u le Stop.LongInput less k = omega (arith, k, le)
  none_short u le Stop.CutShort less k = omega (arith, less)
  none_short u le Stop.Ended less k = none_above u Stop.Ended (omega arith) k
  none_short u le Stop.LongLine less k = none_above u Stop.LongLine (omega arith) k
  none_short u le Stop.NoForm less k = none_above u Stop.NoForm (omega arith) k
  none_short u le (Stop.LongText l) less k = none_above u (Stop.LongText l) (omega arith) k
  none_short u le (Stop.NoLineFeed i) less k = none_above u (Stop.NoLineFeed i) (omega arith) k
  none_short u le (Stop.NoRoom l xs) less k = none_above u (Stop.NoRoom l xs) (omega arith) k

  -- the input ends, or was cut off, before a whole command
  abbrev pub course_short : (ended : Bool) → IsReading ended from cs bytes rest → IsUnfinished (next_bytes bytes rest)
      → (ended ≡ true → rest ≡ codes "end" → ⊥) → length bytes ≤ INPUT_BYTES → Course ended from bytes
  course_short ended reading u bare le = record {
    commands = cs;
    rest = rest;
    cut = cut_stops ended from cs bytes rest reading (unfinished_none ended reading u (λ e is within. bare e is));
    stop = Stop.CutShort;
    stops = record { holds = tt; first = none_short u le };
  }
