-- Each input has a course: at each place a command is whole and accepted, or a row of the table holds.
use Rattle.std.proofs.Common.{◌≡◌, ◌∙◌, ℕ, zero, suc, ◌+◌, ◌-◌, ◌<◌, ◌≤◌, Bool, true, false, List, [], ◌∷◌, ◌++◌, length, take, drop, get_or, refl, sym, ap, subst, arith, inl, inr, add-one, append_assoc, append-nil, length-append}
use Rattle.std.proofs.Math.Seq.{drop-cons}
use Rattle.std.proofs.lemmas.Bool.{cases_lt}
use Rattle.std.proofs.lemmas.List.{length-take-le, length-take, take-append-drop}
use Rattle.std.specs.Fmt.{decimal}
use Rattle.std.specs.Prelude.{codes, ◌⊎◌, None}
use Rattle.linker_base.specs.Members.{IsMember}
use Rattle.linker_base.specs.declared.limits.TheConstants.{INPUT_BYTES, LINE_BYTES}
use Rattle.linker_base.proofs.Cases.{bool_cases, option_cases}
use Rattle.linker_base.proofs.MemberLaws.{member_left, member_right}
use Rattle.book_model.specs.Answers.{Command as Asked}
use Rattle.book_model.specs.Book.{Book}
use Rattle.session_course.specs.Commands.{Command, put, line_of, body_of, spelling_of, HasForm, limit_passed, refusal_of, done_before, IsAccepted}
use Rattle.session_course.specs.Cut.{Reads, IsReading, IsCut, EndsWithEnd, AreOpen, book_left}
use Rattle.session_course.specs.Refusals.{IsEndless, IsFormless, IsOversized, IsUnclosed, IsRefused, IsUnfinished}
use Rattle.session_course.specs.Stops.{Stop, row_of, place_of, next_bytes, Holds, Course, HasOneCourse}
use Rattle.session_course.proofs.Choices.{same_numbers, same_texts, part_at, Says, SaysNothing, says_of}
use Rattle.session_course.proofs.CutLaws.{cut_ends, ends_next, open_next, reads_next}
use Rattle.session_course.proofs.Lines.{spelt_by_line, line_feed, line_ends_once, split_once, put_line_same, put_short, passed_same, word_of, words_same}
use Rattle.session_course.proofs.RowLaws as rows
use Rattle.session_course.proofs.StopLaws.{courses_same}

-- ---- what stands at the front of the bytes

pub data Front (book : Book) (bytes : List ℕ) : Type 0 where
  Whole : (c : Command) (rest : List ℕ) → IsAccepted book c → bytes ≡ spelling_of c ++ rest → Front book bytes
  Long : IsEndless bytes → Front book bytes
  Formless : (h : IsFormless bytes) → length h.line ≤ LINE_BYTES → Front book bytes
  Oversized : (l : ℕ) (h : IsOversized l bytes) → length (line_of h.command) ≤ LINE_BYTES → Front book bytes
  Unclosed : (i : ℕ) → IsUnclosed i bytes → Front book bytes
  Refused : (n : ℕ) (cs : List Command) (h : IsRefused book n cs bytes) → length (line_of h.command) ≤ LINE_BYTES → Front book bytes
  Partial : IsUnfinished bytes → Front book bytes

-- a LF stands in what a line and its LF begin
feed_there : (bytes line back : List ℕ) → bytes ≡ line ++ 10 ∷ back → IsMember bytes 10
feed_there bytes line back e = subst (λ bs. IsMember bs 10) (sym e) (member_right line (10 ∷ back) 10 (inl refl))

-- at most 2,048 bytes without LF
pub short_unfinished : (bytes : List ℕ) → length bytes ≤ LINE_BYTES → (IsMember bytes 10 → ⊥) → IsUnfinished bytes
short_unfinished bytes le free = record {
  partial = λ c rest form size e. free (feed_there bytes (line_of c) (body_of c ++ rest) (e ∙ spelt_by_line c rest));
  short = λ long. omega (arith, ap length long.stands, length-append long.front long.back, long.size, le);
  formed = λ bad. free (feed_there bytes bad.line bad.back bad.stands);
  sized = λ l bad. free (feed_there bytes (line_of bad.command) bad.back bad.stands);
  closed = λ i bad. free (feed_there bytes (line_of (put bad.name bad.text)) (bad.text ++ bad.next ∷ bad.back) bad.stands);
}

-- no more bytes than a put's text stand after its line: no whole command
body_short : (c : Command) (name text body rest : List ℕ) → HasForm c → HasForm (put name text) → line_of c ≡ line_of (put name text)
    → word_of c ≡ word_of (put name text) → length body ≤ length text → body_of c ++ rest ≡ body → ⊥
body_short (Command.Do (Asked.Put other later)) name text body rest form h line word le e =
    let parts = put_line_same other name later text form h line in
    omega (arith, ap length e, length-append (later ++ codes "\n") rest, length-append later (codes "\n"), parts.1, le)
body_short c name text body rest form h line word le e = omega (arith, word)

-- the line of a put within its limit, and no more bytes than its text after it
pub put_unfinished : (name text bytes body : List ℕ) → HasForm (put name text) → limit_passed (put name text) ≡ None
    → bytes ≡ line_of (put name text) ++ 10 ∷ body → length body ≤ length text → IsUnfinished bytes
put_unfinished name text bytes body h size stands le = record {
  partial = λ c rest form keeps e.
      let parts = line_ends_once c (line_of (put name text)) rest body form (line_feed (put name text) h) (sym e ∙ stands) in
      body_short c name text body rest form h parts.0 (words_same c (put name text) parts.0) le parts.1;
  short = λ long. rows.short_not_long bytes (line_of (put name text)) body (omega (arith, put_short name text h)) stands long;
  formed = λ bad. rows.formed bytes body (put name text) h stands bad;
  sized = λ l bad. rows.sized bytes body (put name text) l h size stands bad;
  closed = λ i bad.
      let parts = split_once 10 (line_of (put bad.name bad.text)) (line_of (put name text)) (bad.text ++ bad.next ∷ bad.back) body
      (line_feed (put bad.name bad.text) bad.form) (line_feed (put name text) h) (sym bad.stands ∙ stands) in
      let sizes = put_line_same bad.name name bad.text text bad.form h parts.0 in
      omega (arith, ap length parts.1, length-append bad.text (bad.next ∷ bad.back), sizes.1, le);
}

-- what stands at a place parts the bytes
place_parts : (bytes : List ℕ) (i d : ℕ) → i < length bytes → bytes ≡ take i bytes ++ get_or bytes i d ∷ drop (i + 1) bytes
place_parts bytes i d lt =
    sym (take-append-drop i bytes)
    ∙ ap (λ xs. take i bytes ++ xs) (drop-cons bytes i d lt ∙ ap (λ k. get_or bytes i d ∷ drop k bytes) (sym (add-one i)))

-- 2,049 bytes and more without LF
long_front : (line more bytes : List ℕ) → (IsMember line 10 → ⊥) → LINE_BYTES < length line → bytes ≡ line ++ more → IsEndless bytes
long_front line more bytes free long stands =
    let parts = take-append-drop (LINE_BYTES + 1) line in
    record {
      front = take (LINE_BYTES + 1) line;
      back = drop (LINE_BYTES + 1) line ++ more;
      size = length-take-le (LINE_BYTES + 1) line (omega (arith, long));
      free = λ m. free (subst (λ bs. IsMember bs 10) parts (member_left (take (LINE_BYTES + 1) line) (drop (LINE_BYTES + 1) line) 10 m));
      stands = stands ∙ (ap (λ bs. bs ++ more) (sym parts) ∙ append_assoc (take (LINE_BYTES + 1) line) (drop (LINE_BYTES + 1) line) more);
    }

-- a whole command, which keeps to its limit: its edit is refused, or it is accepted
whole_front : (book : Book) (bytes : List ℕ) (c : Command) (rest : List ℕ) → HasForm c → length (line_of c) ≤ LINE_BYTES → limit_passed c ≡ None
    → bytes ≡ spelling_of c ++ rest → Front book bytes
whole_front book bytes c rest form short size stands = elim (option_cases (refusal_of book c)) [
  | inl room ↦ Front.Whole c rest (record { form = form; short = short; size = size; room = room }) stands
  | inr full ↦ Front.Refused full.0 (done_before book c)
      (record { command = c; back = rest; form = form; size = size; refused = full.1; before = refl; stands = stands }) short
]

-- the command with this line stands whole
stands_so : (c : Command) (bytes back rest : List ℕ) → bytes ≡ line_of c ++ 10 ∷ back → back ≡ body_of c ++ rest → bytes ≡ spelling_of c ++ rest
stands_so c bytes back rest stands after = stands ∙ (ap (λ bs. line_of c ++ 10 ∷ bs) after ∙ sym (spelt_by_line c rest))

-- enough bytes follow a put's line: the byte after its text is LF or another
put_long : (book : Book) (bytes name filler back : List ℕ) → HasForm (put name filler) → limit_passed (put name filler) ≡ None
    → bytes ≡ line_of (put name filler) ++ 10 ∷ back → length filler < length back → Front book bytes
put_long book bytes name filler back h size stands long =
    let text = take (length filler) back in
    let rest = drop (length filler + 1) back in
    let next = get_or back (length filler) 0 in
    let same : length text ≡ length filler = length-take-le (length filler) back (omega (arith, long)) in
    let form : HasForm (put name text) = (h.0, omega (arith, same, h.1)) in
    let lined : line_of (put name filler) ≡ line_of (put name text) = ap (λ k. codes "put " ++ name ++ codes " " ++ decimal k) (sym same) in
    let keeps : limit_passed (put name text) ≡ None = sym (passed_same (put name filler) (put name text) h form lined) ∙ size in
    let stand : bytes ≡ line_of (put name text) ++ 10 ∷ back = stands ∙ ap (λ bs. bs ++ 10 ∷ back) lined in
    let parts : back ≡ text ++ next ∷ rest = place_parts back (length filler) 0 long in
    elim (same_numbers next 10) [
      | inl feed ↦ whole_front book bytes (put name text) rest form (omega (arith, put_short name text form)) keeps
          (stands_so (put name text) bytes back rest stand
          (parts ∙ (ap (λ b. text ++ b ∷ rest) feed ∙ sym (append_assoc text (codes "\n") rest))))
      | inr other ↦ Front.Unclosed (length (line_of (put name text) ++ 10 ∷ text)) (record {
        name = name;
        text = text;
        next = next;
        back = rest;
        form = form;
        size = keeps;
        other = other;
        stands = stand ∙ ap (λ bs. line_of (put name text) ++ 10 ∷ bs) parts;
        place = refl;
      })
    ]

-- after the line of a command that keeps to its limit
sized_front : (book : Book) (bytes back : List ℕ) (c : Command) → HasForm c → length (line_of c) ≤ LINE_BYTES → limit_passed c ≡ None
    → bytes ≡ line_of c ++ 10 ∷ back → Front book bytes
sized_front book bytes back (Command.Do (Asked.Put name filler)) form short size stands = elim (cases_lt (length filler) (length back)) [
  | inl long ↦ put_long book bytes name filler back form size stands long
  | inr le ↦ Front.Partial (put_unfinished name filler bytes back form size stands le)
]
sized_front book bytes back (Command.Do (Asked.Drop name)) form short size stands =
    whole_front book bytes (Command.Do (Asked.Drop name)) back form short size (stands_so (Command.Do (Asked.Drop name)) bytes back back stands refl)
sized_front book bytes back (Command.Do (Asked.Links name)) form short size stands =
    whole_front book bytes (Command.Do (Asked.Links name)) back form short size (stands_so (Command.Do (Asked.Links name)) bytes back back stands refl)
sized_front book bytes back (Command.Do (Asked.Print name)) form short size stands =
    whole_front book bytes (Command.Do (Asked.Print name)) back form short size (stands_so (Command.Do (Asked.Print name)) bytes back back stands refl)
sized_front book bytes back (Command.Do Asked.Check) form short size stands =
    whole_front book bytes (Command.Do Asked.Check) back form short size (stands_so (Command.Do Asked.Check) bytes back back stands refl)
sized_front book bytes back (Command.Do (Asked.Find words)) form short size stands =
    whole_front book bytes (Command.Do (Asked.Find words)) back form short size (stands_so (Command.Do (Asked.Find words)) bytes back back stands refl)
sized_front book bytes back (Command.Do Asked.Implied) form short size stands =
    whole_front book bytes (Command.Do Asked.Implied) back form short size (stands_so (Command.Do Asked.Implied) bytes back back stands refl)
sized_front book bytes back Command.End form short size stands =
    whole_front book bytes Command.End back form short size (stands_so Command.End bytes back back stands refl)

-- after a short line
line_front : (book : Book) (bytes line back : List ℕ) → (IsMember line 10 → ⊥) → length line ≤ LINE_BYTES → bytes ≡ line ++ 10 ∷ back
    → Says line ⊎ SaysNothing line → Front book bytes
line_front book bytes line back free short stands (inr none) =
    Front.Formless (record { line = line; back = back; free = free; none = none; stands = stands }) short
line_front book bytes line back free short stands (inl s) =
    let lined : bytes ≡ line_of s.command ++ 10 ∷ back = stands ∙ ap (λ bs. bs ++ 10 ∷ back) (sym s.stands) in
    let le : length (line_of s.command) ≤ LINE_BYTES = omega (arith, short, ap length s.stands) in
    elim (option_cases (limit_passed s.command)) [
      | inl size ↦ sized_front book bytes back s.command s.form le size lined
      | inr over ↦ Front.Oversized over.0 (record { command = s.command; back = back; form = s.form; passed = over.1; stands = lined }) le
    ]

-- at the front of any bytes one of these stands
pub front_of : (book : Book) (bytes : List ℕ) → Front book bytes
front_of book bytes = elim (part_at 10 bytes) [
  | inl p ↦ elim (cases_lt LINE_BYTES (length p.front)) [
    | inl long ↦ Front.Long (long_front p.front (10 ∷ p.back) bytes p.free long p.stands)
    | inr short ↦ line_front book bytes p.front p.back p.free short p.stands (says_of p.front)
  ]
  | inr free ↦ elim (cases_lt LINE_BYTES (length bytes)) [
    | inl long ↦ Front.Long (long_front bytes [] bytes free long (sym (append-nil bytes)))
    | inr short ↦ Front.Partial (short_unfinished bytes short free)
  ]
]

-- ---- the course, from a session on its way

-- a command is `end`, or it isn't
end_or_other : (c : Command) → (c ≡ Command.End) ⊎ (c ≡ Command.End → ⊥)
end_or_other (Command.Do c) = inr (λ e. cc)
end_or_other Command.End = inl refl

-- rows count from 1
row_counts : (s : Stop) → row_of s < 1 → ⊥
row_counts Stop.Ended less = omega (arith, less)
row_counts Stop.LongLine less = omega (arith, less)
row_counts Stop.NoForm less = omega (arith, less)
row_counts (Stop.LongText l) less = omega (arith, less)
row_counts (Stop.NoLineFeed i) less = omega (arith, less)
row_counts (Stop.NoRoom n cs) less = omega (arith, less)
row_counts Stop.LongInput less = omega (arith, less)
row_counts Stop.CutShort less = omega (arith, less)

-- no row is before the first
pub none_first : (from : Book) (bytes : List ℕ) (cs : List Command) (rest : List ℕ) (other : Stop) → row_of other < 1
    → Holds from cs bytes rest other → ⊥
none_first from bytes cs rest other less k = row_counts other less

-- `end` was read
abbrev pub course_ended : (ended : Bool) (from : Book) (bytes : List ℕ) (cs : List Command) (rest : List ℕ) → IsReading ended from cs bytes rest
    → EndsWithEnd cs
    → Course ended from bytes
course_ended ended from bytes cs rest reading e = record {
  commands = cs;
  rest = rest;
  cut = cut_ends ended from cs bytes rest reading e;
  stop = Stop.Ended;
  stops = record { holds = e; first = none_first from bytes cs rest };
}

-- the bytes end before a whole command, or pass the limit of an input
course_partial : (ended : Bool) (from : Book) (bytes : List ℕ) (cs : List Command) (rest : List ℕ) → AreOpen cs → IsReading ended from cs bytes rest
    → IsUnfinished (next_bytes bytes rest) → Course ended from bytes
course_partial ended from bytes cs rest open_ reading u = elim (cases_lt INPUT_BYTES (length bytes)) [
  | inl long ↦ rows.course_long from cs bytes rest open_ ended reading u long
  | inr le ↦ elim (bool_cases ended) [
    | inr more ↦ rows.course_short from cs bytes rest open_ ended reading u (λ e is. let no : true ≡ false = sym e ∙ more in cc) le
    | inl no_more ↦ elim (same_texts rest (codes "end")) [
      | inr other ↦ rows.course_short from cs bytes rest open_ ended reading u (λ e is. other is) le
      | inl bare ↦
          let next : Reads ended from (cs ++ Command.End ∷ []) bytes [] = reads_next ended from cs Command.End bytes rest [] reading.reads open_
          (record { form = tt; short = omega arith; size = refl; room = refl }) (inr (no_more, refl, bare, refl)) in
          course_ended ended from bytes (cs ++ Command.End ∷ []) [] (record { reads = next; within = omega (arith, le) }) (ends_next cs)
    ]
  ]
]

-- the reading with one command more
reading_next : (ended : Bool) (from : Book) (bytes : List ℕ) (cs : List Command) (rest : List ℕ) → AreOpen cs → IsReading ended from cs bytes rest
    → (c : Command) (more : List ℕ) → IsAccepted (book_left from cs) c → next_bytes bytes rest ≡ spelling_of c ++ more
    → IsReading ended from (cs ++ c ∷ []) bytes (more ++ drop (INPUT_BYTES - place_of bytes rest) rest)
reading_next ended from bytes cs rest open_ reading c more accepted stands =
    let past = drop (INPUT_BYTES - place_of bytes rest) rest in
    let whole : rest ≡ spelling_of c ++ (more ++ past) =
    sym (rows.parts from cs bytes rest open_) ∙ (ap (λ bs. bs ++ past) stands ∙ append_assoc (spelling_of c) more past) in
    record {
      reads = reads_next ended from cs c bytes rest (more ++ past) reading.reads open_ accepted (inl whole);
      within = omega (
        arith,
        ap length whole,
        length-append (spelling_of c) (more ++ past),
        length-append more past,
        ap length stands,
        length-append (spelling_of c) more,
        length-take (INPUT_BYTES - place_of bytes rest) rest,
        reading.within,
      );
    }

-- what is left is shorter
rest_shorter : (ended : Bool) (from : Book) (bytes : List ℕ) (cs : List Command) (rest : List ℕ) → AreOpen cs → (c : Command) (more : List ℕ)
    → next_bytes bytes rest ≡ spelling_of c ++ more → length (more ++ drop (INPUT_BYTES - place_of bytes rest) rest) < length rest
rest_shorter ended from bytes cs rest open_ c more stands =
    let past = drop (INPUT_BYTES - place_of bytes rest) rest in
    let whole : rest ≡ line_of c ++ 10 ∷ (body_of c ++ (more ++ past)) =
    sym (rows.parts from cs bytes rest open_) ∙ (ap (λ bs. bs ++ past) stands ∙ (append_assoc (spelling_of c) more past ∙ spelt_by_line c (more ++ past))) in
    omega (arith, ap length whole, length-append (line_of c) (10 ∷ (body_of c ++ (more ++ past))), length-append (body_of c) (more ++ past))

-- the course, by what stands next; where a command is read that isn't `end`, it goes on over fewer bytes
course_by : (ended : Bool) (from : Book) (bytes : List ℕ) (cs : List Command) (rest : List ℕ) → AreOpen cs → IsReading ended from cs bytes rest
    → ((ds : List Command) (left : List ℕ) → AreOpen ds → IsReading ended from ds bytes left → length left < length rest → Course ended from bytes)
    → Front (book_left from cs) (next_bytes bytes rest) → Course ended from bytes
course_by ended from bytes cs rest open_ reading further (Front.Whole c more accepted stands) =
    let left = more ++ drop (INPUT_BYTES - place_of bytes rest) rest in
    let read = reading_next ended from bytes cs rest open_ reading c more accepted stands in
    elim (end_or_other c) [
      | inl is ↦ course_ended ended from bytes (cs ++ c ∷ []) left read (subst (λ (x : Command). EndsWithEnd (cs ++ x ∷ [])) (sym is) (ends_next cs))
      | inr other ↦ further (cs ++ c ∷ []) left (open_next cs c open_ other) read (rest_shorter ended from bytes cs rest open_ c more stands)
    ]
course_by ended from bytes cs rest open_ reading further (Front.Long h) =
    rows.course_of from cs bytes rest open_ ended reading Stop.LongLine (omega arith) (omega arith) (rows.first_long from cs bytes rest open_ h)
course_by ended from bytes cs rest open_ reading further (Front.Formless h short) =
    rows.course_of from cs bytes rest open_ ended reading Stop.NoForm (omega arith) (omega arith) (rows.first_formless from cs bytes rest open_ h short)
course_by ended from bytes cs rest open_ reading further (Front.Oversized l h short) =
    rows.course_of from cs bytes rest open_ ended reading (Stop.LongText l) (omega arith) (omega arith)
    (rows.first_oversized from cs bytes rest open_ l h short)
course_by ended from bytes cs rest open_ reading further (Front.Unclosed i h) =
    rows.course_of from cs bytes rest open_ ended reading (Stop.NoLineFeed i) (omega arith) (omega arith)
    (rows.first_unclosed from cs bytes rest open_ i h)
course_by ended from bytes cs rest open_ reading further (Front.Refused n xs h short) =
    rows.course_of from cs bytes rest open_ ended reading (Stop.NoRoom n xs) (omega arith) (omega arith)
    (rows.first_refused from cs bytes rest open_ n xs h short)
course_by ended from bytes cs rest open_ reading further (Front.Partial u) = course_partial ended from bytes cs rest open_ reading u

-- the course of the bytes, after these commands, by the length of what is left
course_from : (steps : ℕ) (ended : Bool) (from : Book) (bytes : List ℕ) (cs : List Command) (rest : List ℕ) → AreOpen cs
    → IsReading ended from cs bytes rest → length rest < steps → Course ended from bytes
course_from zero ended from bytes cs rest open_ reading lt = absurd (omega (arith, lt))
course_from (suc steps) ended from bytes cs rest open_ reading lt =
    course_by ended from bytes cs rest open_ reading
    (λ ds left all_open read less. course_from steps ended from bytes ds left all_open read (omega (arith, lt, less)))
    (front_of (book_left from cs) (next_bytes bytes rest))

-- each input has a course
pub course_some : (ended : Bool) (from : Book) (bytes : List ℕ) → Course ended from bytes
course_some ended from bytes =
    course_from (length bytes + 1) ended from bytes [] bytes tt (record { reads = refl; within = omega arith }) (omega arith)

-- and one alone
pub course_once : (ended : Bool) (from : Book) (bytes : List ℕ) → HasOneCourse ended from bytes
course_once ended from bytes = record {
  course = course_some ended from bytes;
  alone = λ other. courses_same ended from bytes other (course_some ended from bytes);
}

-- so it has a cut
pub cut_some : (ended : Bool) (from : Book) (bytes : List ℕ) → (commands : List Command) × (rest : List ℕ) × IsCut ended from commands bytes rest
cut_some ended from bytes = let c = course_some ended from bytes in (c.commands, c.rest, c.cut)
