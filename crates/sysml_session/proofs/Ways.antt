-- A session on its way: what its next turn leads to.
use Rattle.std.proofs.Common.{◌≡◌, ◌∙◌, ℕ, ◌+◌, ◌-◌, ◌≤◌, true, false, List, [], ◌∷◌, ◌++◌, length, take, refl, sym, ap, subst, arith, inl, inr, append_assoc, append-nil, length-append}
use Rattle.std.proofs.lemmas.List.{take_all}
use Rattle.std.proofs.Math.Seq.{take-append_seam}
use Rattle.std.specs.Prelude.{Option, Some, None, Result, Ok, Err}
use Rattle.linker_base.specs.declared.limits.TheConstants.{FILE_BYTES, INPUT_BYTES, LINE_BYTES}
use Rattle.book_model.specs.Book.{Book}
use Rattle.book_model.specs.Files.{LibraryTexts}
use Rattle.outside_core.specs.Streams.{TakenSoFar}
use Rattle.session_course.specs.Answers.{IsAnswer, AreAnswers}
use Rattle.session_course.specs.Commands.{Command as Meant, line_of, spelling_of, refusal_of, done_before, book_after, IsAccepted}
use Rattle.session_course.specs.Cut.{Begins, Reads, IsReading, EndsWithEnd, book_left}
use Rattle.session_course.specs.Refusals.{IsEndless, IsFormless, IsOversized, IsUnclosed, IsRefused, IsUnfinished}
use Rattle.session_course.specs.Stops.{Stop, place_of, next_bytes, Ending}
use Rattle.session_course.proofs.AnswerLaws.{answers_append}
use Rattle.session_course.proofs.CutLaws.{reads_more, reads_next, ends_next, open_next, book_next}
use Rattle.session_course.proofs.RowLaws.{first_long, first_formless, first_oversized, first_unclosed, first_refused}
use Rattle.session_course.proofs.SeenLaws.{endless_more, unclosed_more, next_seen}
use Rattle.session_streams.specs.Moves.{Stream, moved, Gave, GaveFront}
use Rattle.session_streams.specs.Serving.{IsWhole, IsPart}
use Rattle.session_streams.proofs.Giving.{gave_then, gave_same}
use Rattle.session_streams.proofs.ServeLemmas.{Progress, stops_here, ended_here, beyond_here, broken_here, part_here, unwritten_here, done_here}
use Rattle.script_commands.specs.Pieces.{IsAtEnd}
use Rattle.script_commands.specs.Reading.{Window, HasTaken, HasUsed, IsStopped, IsGood, IsRead}
use Rattle.script_commands.specs.declared.command.ReadStop.{ReadStop}
use Rattle.script_commands.specs.declared.command.ReadStop.TheVariants as stop
use Rattle.sysml_session.specs.Answered.{Holding}
use Rattle.sysml_session.specs.Turns.{Sight, sight, telling, OnWay, HasEnded, HasAnswer, IsDone, IsAnswered, IsTurn, fault_ending, fault_after}
use Rattle.sysml_session.specs.declared.fault.ServeFault.{ServeFault}
use Rattle.sysml_session.specs.declared.fault.ServeFault.TheVariants.{ReadFault, WriteFault, Script, Limit, NoMemory}
use Rattle.sysml_session.specs.declared.serving.Flow.{Flow}
use Rattle.sysml_session.specs.declared.serving.Flow.TheVariants.{GoesOn, Ended}

-- a stream of which only what it tells counts
abbrev pub told_by : Option (List ℕ) → Stream
told_by told = record { told = told; faults = 0 }

-- a list without length is empty
none_long : (xs : List ℕ) → length xs ≡ 0 → xs ≡ []
none_long [] e = refl
none_long (x ∷ xs) e = absurd (omega (arith, e))

-- a refused command did nothing before
none_before : (book : Book) (c : Meant) → done_before book c ≡ []
none_before book (Meant.Do c) = refl
none_before book Meant.End = refl

-- `end` is never refused
end_accepted : (book : Book) (number : ℕ) → refusal_of book Meant.End ≡ Some number → ⊥
end_accepted book number e = let h : None ≡ Some number = e in cc

-- the same session, after nothing was given
abbrev pub progress_still : (library : LibraryTexts) (from book : Book) (pending : List ℕ) (a b d : Stream) → Progress library from book pending (moved a b)
    → Gave (moved b d) [] → Progress library from book pending (moved a d)
progress_still library from book pending a b d p g = record {
  commands = p.commands;
  taken = p.taken;
  none_ends = p.none_ends;
  reads = p.reads;
  left = p.left;
  answers = p.answers;
  are = p.are;
  given = gave_same a d (p.answers ++ []) p.answers (append-nil p.answers) (gave_then a b d p.answers [] p.given g);
  within = p.within;
}

-- what a row says of the bytes seen it says of those that go on so, of the same line
module _ (bytes more : List ℕ) where
  line_longer : (line back : List ℕ) → bytes ≡ line ++ 10 ∷ back → bytes ++ more ≡ line ++ 10 ∷ (back ++ more)
  line_longer line back e = ap (λ bs. bs ++ more) e ∙ append_assoc line (10 ∷ back) more

  formless_longer : (h : IsFormless bytes) → length h.line ≤ LINE_BYTES → (l : IsFormless (bytes ++ more)) × (length l.line ≤ LINE_BYTES)
  formless_longer h short = (
    record { line = h.line; back = h.back ++ more; free = h.free; none = h.none; stands = line_longer h.line h.back h.stands },
    short,
  )

  oversized_longer : (limit : ℕ) (h : IsOversized limit bytes) → length (line_of h.command) ≤ LINE_BYTES
      → (l : IsOversized limit (bytes ++ more)) × (length (line_of l.command) ≤ LINE_BYTES)
  oversized_longer limit h short = (
    record {
      command = h.command;
      back = h.back ++ more;
      form = h.form;
      passed = h.passed;
      stands = line_longer (line_of h.command) h.back h.stands;
    },
    short,
  )

  refused_longer : (book : Book) (number : ℕ) (cs : List Meant) (h : IsRefused book number cs bytes) → length (line_of h.command) ≤ LINE_BYTES
      → (l : IsRefused book number cs (bytes ++ more)) × (length (line_of l.command) ≤ LINE_BYTES)
  refused_longer book number cs h short = (
    record {
      command = h.command;
      back = h.back ++ more;
      form = h.form;
      size = h.size;
      refused = h.refused;
      before = h.before;
      stands = ap (λ bs. bs ++ more) h.stands ∙ append_assoc (spelling_of h.command) h.back more;
    },
    short,
  )

-- a call of the reader, made in a session on its way
module _ (start : Sight) (held : Holding) (w0 w1 : Window) (left now given : Option (List ℕ)) (bytes : List ℕ)
    (way : OnWay start (sight held w0 left given) bytes) (more : List ℕ) (from : TakenSoFar left now more)
    (within : w1.used + length w1.pending ≤ INPUT_BYTES) where
  abbrev pub library : LibraryTexts
  library = start.held.library

  abbrev pub book : Book
  book = start.held.book

  abbrev pub p : Progress library book held.book w0.pending (telling start.given given)
  p = way.progress

  -- what is left after the call
  abbrev pub after : TakenSoFar (Some way.rest) now more
  after = subst (λ (o : Option (List ℕ)). TakenSoFar o now more) way.left from

  abbrev pub rest : List ℕ
  rest = after.0

  abbrev pub seen : List ℕ
  seen = w0.pending ++ more

  pub apart : bytes ≡ p.taken ++ (more ++ rest)
  apart = way.stands ∙ ap (λ bs. p.taken ++ bs) after.2

  pub whole : bytes ≡ (p.taken ++ more) ++ rest
  whole = apart ∙ sym (append_assoc p.taken more rest)

  pub reading : IsReading true book p.commands bytes (seen ++ rest)
  reading = record {
    reads = subst (λ bs. Reads true book p.commands bs (seen ++ rest)) (sym apart)
        (subst (λ bs. Reads true book p.commands (p.taken ++ (more ++ rest)) bs) (sym (append_assoc w0.pending more rest))
        (reads_more true book p.commands p.taken w0.pending (more ++ rest) p.reads));
    within = omega (
      arith,
      ap length whole,
      length-append (p.taken ++ more) rest,
      length-append p.taken more,
      length-append seen rest,
      length-append w0.pending more,
      p.within,
    );
  }

  -- the reader stands so many bytes from the beginning of the input
  pub place : place_of bytes (seen ++ rest) ≡ w0.used
  place = omega (
    arith,
    way.place,
    ap length whole,
    length-append (p.taken ++ more) rest,
    length-append p.taken more,
    length-append seen rest,
    length-append w0.pending more,
  )

  module _ (front : List ℕ) (used : HasUsed w0 w1 front seen) where
    -- the bytes seen lie within the limit of an input
    pub small : w0.used + length seen ≤ INPUT_BYTES
    small = omega (arith, within, used.place, ap length used.stands, length-append front w1.pending)

    -- and they come next
    pub next : (m : List ℕ) × (next_bytes bytes (seen ++ rest) ≡ seen ++ m)
    next = next_seen bytes seen rest (omega (arith, place, small))

    -- so many were taken
    pub sizes : length (p.taken ++ more) ≡ w1.used + length w1.pending
    sizes = omega (
      arith,
      way.place,
      used.place,
      ap length used.stands,
      length-append front w1.pending,
      length-append p.taken more,
      length-append w0.pending more,
    )

  -- where the reading stopped, the session ended so
  pub stopped : (s : ReadStop) → IsStopped w0 w1 now s seen → HasEnded start (sight held w1 now given) bytes (fault_ending (fault_after w1 s))
  stopped stop.LongLine (h, used) =
      let n = next [] used in
      stops_here p Stop.LongLine bytes (seen ++ rest) reading (omega arith) (omega arith)
      (first_long book p.commands bytes (seen ++ rest) p.none_ends (subst IsEndless (sym n.1) (endless_more seen n.0 h))) refl
  stopped stop.NoForm (h, short, used) =
      let n = next [] used in
      let k : (l : IsFormless (next_bytes bytes (seen ++ rest))) × (length l.line ≤ LINE_BYTES) =
      subst (λ bs. (l : IsFormless bs) × (length l.line ≤ LINE_BYTES)) (sym n.1) (formless_longer seen n.0 h short) in
      subst (λ at. IsWhole library book held.book bytes (telling start.given given) (Ending.Script at)) (omega (arith, place, used.place))
      (stops_here p Stop.NoForm bytes (seen ++ rest) reading (omega arith) (omega arith)
      (first_formless book p.commands bytes (seen ++ rest) p.none_ends k.0 k.1) refl)
  stopped stop.LongText (h, short, used) =
      let n = next [] used in
      let k : (l : IsOversized FILE_BYTES (next_bytes bytes (seen ++ rest))) × (length (line_of l.command) ≤ LINE_BYTES) =
      subst (λ bs. (l : IsOversized FILE_BYTES bs) × (length (line_of l.command) ≤ LINE_BYTES)) (sym n.1) (oversized_longer seen n.0 FILE_BYTES h short) in
      stops_here p (Stop.LongText FILE_BYTES) bytes (seen ++ rest) reading (omega arith) (omega arith)
      (first_oversized book p.commands bytes (seen ++ rest) p.none_ends FILE_BYTES k.0 k.1) refl
  stopped stop.NoLineFeed (front, h, used) =
      let n = next front used in
      let k : IsUnclosed (length front) (next_bytes bytes (seen ++ rest)) =
      subst (λ bs. IsUnclosed (length front) bs) (sym n.1) (unclosed_more seen n.0 (length front) h) in
      subst (λ at. IsWhole library book held.book bytes (telling start.given given) (Ending.Script at)) (omega (arith, place, used.place))
      (stops_here p (Stop.NoLineFeed (length front)) bytes (seen ++ rest) reading (omega arith) (omega arith)
      (first_unclosed book p.commands bytes (seen ++ rest) p.none_ends (length front) k) refl)
  stopped stop.LongInput b =
      let size : INPUT_BYTES - place_of bytes (seen ++ rest) ≡ length b.front = omega (arith, place, b.full) in
      let parts : seen ++ rest ≡ b.front ++ (b.back ++ rest) = ap (λ bs. bs ++ rest) b.stands ∙ append_assoc b.front b.back rest in
      let front : next_bytes bytes (seen ++ rest) ≡ b.front =
      ap (λ k. take k (seen ++ rest)) size ∙ (ap (λ bs. take (length b.front) bs) parts ∙ take-append_seam b.front (b.back ++ rest)) in
      beyond_here p bytes (seen ++ rest) reading (subst IsUnfinished (sym front) b.within)
      (omega (
        arith,
        way.place,
        b.full,
        b.more,
        ap length whole,
        length-append (p.taken ++ more) rest,
        length-append p.taken more,
        ap length b.stands,
        length-append b.front b.back,
        length-append w0.pending more,
      ))
  stopped stop.CutShort (ended, u, bare, (front, used)) =
      let none : rest ≡ [] = subst IsAtEnd after.1 ended in
      let all : seen ++ rest ≡ seen = ap (λ bs. seen ++ bs) none ∙ append-nil seen in
      let front_is : next_bytes bytes (seen ++ rest) ≡ seen =
      ap (λ bs. take (INPUT_BYTES - place_of bytes (seen ++ rest)) bs) all
      ∙ take_all (INPUT_BYTES - place_of bytes (seen ++ rest)) seen (omega (arith, place, small front used)) in
      let size : length bytes ≡ w1.used + length w1.pending =
      omega (arith, sizes front used, ap length whole, length-append (p.taken ++ more) rest, ap length none) in
      subst (λ at. IsWhole library book held.book bytes (telling start.given given) (Ending.Script at)) size
      (ended_here p bytes (seen ++ rest) reading (subst IsUnfinished (sym front_is) u) (λ e. bare (sym all ∙ e)) (omega (arith, size, within)))
  stopped stop.ReadFault (u, (front, used)) =
      broken_here p bytes more rest (moved (told_by start.left) (told_by now)) whole after.1 (omega (arith, sizes front used, within)) u
  stopped stop.NoMemory h = part_here p bytes (more ++ rest) apart

  -- a command was read, and the project did this for it
  module _ (c : Meant) (good : IsGood c) (read : IsRead w0 w1 now c seen) (held' : Holding) (given' : Option (List ℕ)) where
    pub used_so : (front : List ℕ) × HasUsed w0 w1 front seen
    used_so = elim read [ inl used ↦ (spelling_of c, used) | inr bare ↦ (seen, bare.3) ]

    pub accepted : HasAnswer held c → IsAccepted (book_left book p.commands) c
    accepted h = record { form = good.form; short = good.short; size = good.size; room = subst (λ (b : Book). refusal_of b c ≡ None) p.left h.room }

    pub begins_by : IsRead w0 w1 now c seen → Begins true c (seen ++ rest) (w1.pending ++ rest)
    begins_by (inl used) = inl (ap (λ bs. bs ++ rest) used.stands ∙ append_assoc (spelling_of c) w1.pending rest)
    begins_by (inr (ended, is, same, used)) =
        let none : rest ≡ [] = subst IsAtEnd after.1 ended in
        let gone : w1.pending ≡ [] = none_long w1.pending (omega (arith, ap length used.stands, length-append seen w1.pending)) in
        inr (refl, is, ap (λ bs. seen ++ bs) none ∙ (append-nil seen ∙ same), ap (λ bs. bs ++ rest) gone ∙ none)

    pub reading_next : HasAnswer held c → IsReading true book (p.commands ++ c ∷ []) bytes (w1.pending ++ rest)
    reading_next h = record {
      reads = reads_next true book p.commands c bytes (seen ++ rest) (w1.pending ++ rest) reading.reads p.none_ends (accepted h) (begins_by read);
      within = omega (arith, within, sizes used_so.0 used_so.1, ap length whole, length-append (p.taken ++ more) rest, length-append w1.pending rest);
    }

    pub answer_of : (h : HasAnswer held c) → IsAnswer library held.book c h.answer
    answer_of h = subst (λ (l : LibraryTexts). IsAnswer l held.book c h.answer) way.library h.is

    -- the answers so far, and this one
    pub answers_next : (h : HasAnswer held c) → AreAnswers library book (p.commands ++ c ∷ []) (p.answers ++ h.answer)
    answers_next h = answers_append library book p.commands (c ∷ []) p.answers h.answer p.are
        (h.answer, [], subst (λ (b : Book). IsAnswer library b c h.answer) p.left (answer_of h), refl, sym (append-nil h.answer))

    -- the session goes on
    pub went_on : (d : IsDone held held' c) → Gave (moved (told_by given) (told_by given')) d.has.answer → (c ≡ Meant.End → ⊥)
        → OnWay start (sight held' w1 now given') bytes
    went_on d gave other = record {
      library = d.library ∙ way.library;
      progress = all.0;
      place = all.1;
      rest = rest;
      left = after.1;
      stands = all.2;
    }
      where
        spelt : IsRead w0 w1 now c seen → HasUsed w0 w1 (spelling_of c) seen
        spelt (inl used) = used
        spelt (inr bare) = absurd (other bare.1)

        used : HasUsed w0 w1 (spelling_of c) seen
        used = spelt read

        reads : Reads false book (p.commands ++ c ∷ []) (p.taken ++ more) w1.pending
        reads = reads_next false book p.commands c (p.taken ++ more) seen w1.pending (reads_more false book p.commands p.taken w0.pending more p.reads)
            p.none_ends (accepted d.has) (inl used.stands)

        all : (q : Progress library book held'.book w1.pending (telling start.given given')) × (w1.used + length w1.pending ≡ length q.taken)
            × (bytes ≡ q.taken ++ rest)
        all = subst
            (λ (b : Book). (q : Progress library book b w1.pending (telling start.given given')) × (w1.used + length w1.pending ≡ length q.taken)
            × (bytes ≡ q.taken ++ rest)) (sym d.book) (
              record {
                commands = p.commands ++ c ∷ [];
                taken = p.taken ++ more;
                none_ends = open_next p.commands c p.none_ends other;
                reads = reads;
                left = ap (λ (x : Book). book_after x c) p.left ∙ sym (book_next book p.commands c);
                answers = p.answers ++ d.has.answer;
                are = answers_next d.has;
                given = gave_then (told_by start.given) (told_by given) (told_by given') p.answers d.has.answer p.given gave;
                within = omega (arith, sizes (spelling_of c) used, within);
              },
              sym (sizes (spelling_of c) used),
              whole,
            )

    -- `end` was done
    pub came_to_end : (d : IsDone held held' c) → Gave (moved (told_by given) (told_by given')) d.has.answer → c ≡ Meant.End
        → HasEnded start (sight held' w1 now given') bytes Ending.Done
    came_to_end d gave is =
        done_here library book held'.book (p.commands ++ c ∷ []) bytes (w1.pending ++ rest) (p.answers ++ d.has.answer) (telling start.given given')
        (reading_next d.has) (subst (λ (x : Meant). EndsWithEnd (p.commands ++ x ∷ [])) (sym is) (ends_next p.commands))
        (answers_next d.has)
        (gave_then (told_by start.given) (told_by given) (told_by given') p.answers d.has.answer p.given gave)
        (d.book ∙ (ap (λ (x : Book). book_after x c) p.left ∙ sym (book_next book p.commands c)))

    -- its answer wasn't written whole
    pub cut_off : (h : HasAnswer held c) → GaveFront (moved (told_by given) (told_by given')) h.answer
        → (q : IsPart library book bytes (telling start.given given')) × (book_after held.book c ≡ book_left book (q.done ++ q.next))
    cut_off h gave = unwritten_here library book held.book w0.pending (told_by start.given) (told_by given) (told_by given') p c h.answer bytes
        (w1.pending ++ rest)
        (answer_of h) (reading_next h) gave

    -- its edit is refused
    pub turned_down : (number : ℕ) → refusal_of held.book c ≡ Some number → Gave (moved (told_by given) (told_by given')) []
        → IsWhole library book held.book bytes (telling start.given given') (Ending.Limit number)
    turned_down number refused gave = by read
      where
        q : Progress library book held.book w0.pending (telling start.given given')
        q = progress_still library book held.book w0.pending (told_by start.given) (told_by given) (told_by given') p gave

        by : IsRead w0 w1 now c seen → IsWhole library book held.book bytes (telling start.given given') (Ending.Limit number)
        by (inr bare) = absurd (end_accepted held.book number (subst (λ (x : Meant). refusal_of held.book x ≡ Some number) bare.1 refused))
        by (inl used) =
            let n = next (spelling_of c) used in
            let earlier = done_before (book_left book p.commands) c in
            let r : IsRefused (book_left book p.commands) number earlier seen = record {
              command = c;
              back = w1.pending;
              form = good.form;
              size = good.size;
              refused = subst (λ (b : Book). refusal_of b c ≡ Some number) p.left refused;
              before = refl;
              stands = used.stands;
            } in
            let k : (l : IsRefused (book_left book p.commands) number earlier (next_bytes bytes (seen ++ rest))) × (length (line_of l.command) ≤ LINE_BYTES) =
            subst (λ bs. (l : IsRefused (book_left book p.commands) number earlier bs) × (length (line_of l.command) ≤ LINE_BYTES)) (sym n.1)
            (refused_longer seen n.0 (book_left book p.commands) number earlier r good.short) in
            stops_here q (Stop.NoRoom number earlier) bytes (seen ++ rest) reading (omega arith) (omega arith)
            (first_refused book p.commands bytes (seen ++ rest) p.none_ends number earlier k.0 k.1) (none_before (book_left book p.commands) c)

    -- memory was wanting before anything was given
    pub wanted : Gave (moved (told_by given) (told_by given')) [] → IsPart library book bytes (telling start.given given')
    wanted gave = part_here (progress_still library book held.book w0.pending (told_by start.given) (told_by given) (told_by given') p gave) bytes
        (more ++ rest) apart

-- ---- turns

-- the reading stopped, and so did the session
pub turn_stopped : (held : Holding) (w0 w1 : Window) (left now given : Option (List ℕ)) (s : ReadStop) (f : ServeFault)
    → HasTaken w0 left now (IsStopped w0 w1 now s) → w1.used + length w1.pending ≤ INPUT_BYTES → f ≡ fault_after w1 s
    → (start : Sight) (bytes : List ℕ) → OnWay start (sight held w0 left given) bytes
    → HasEnded start (sight held w1 now given) bytes (fault_ending f)
turn_stopped held w0 w1 left now given s f t within is start bytes way =
    subst (λ (x : ServeFault). HasEnded start (sight held w1 now given) bytes (fault_ending x)) (sym is)
    (stopped start held w0 w1 left now given bytes way t.taken t.from within s t.outcome)

-- a command was read, and answered so
pub turn_done : (held held' : Holding) (w0 w1 : Window) (left now given given' : Option (List ℕ)) (m n : ℕ) (c : Meant) (r : Result Flow ServeFault)
    → HasTaken w0 left now (λ seen. IsGood c × IsRead w0 w1 now c seen) → w1.used + length w1.pending ≤ INPUT_BYTES
    → IsAnswered held held' c (moved (record { told = given; faults = m }) (record { told = given'; faults = n })) r
    → (start : Sight) (bytes : List ℕ) → OnWay start (sight held w0 left given) bytes → IsTurn start (sight held' w1 now given') bytes r
turn_done held held' w0 w1 left now given given' m n c r t within a start bytes way = by r a
  where
    good : IsGood c
    good = t.outcome.0

    read : IsRead w0 w1 now c (w0.pending ++ t.taken)
    read = t.outcome.1

    by : (r : Result Flow ServeFault) → IsAnswered held held' c (moved (record { told = given; faults = m }) (record { told = given'; faults = n })) r
        → IsTurn start (sight held' w1 now given') bytes r
    by (Ok GoesOn) (d, gave, sound, other) = went_on start held w0 w1 left now given bytes way t.taken t.from within c good read held' given' d gave other
    by (Ok Ended) (d, gave, sound, is) = came_to_end start held w0 w1 left now given bytes way t.taken t.from within c good read held' given' d gave is
    by (Err (Limit number)) (refused, same, gave, sound) =
        subst (λ (h : Holding). IsWhole start.held.library start.held.book h.book bytes (telling start.given given') (Ending.Limit number)) (sym same)
        (turned_down start held w0 w1 left now given bytes way t.taken t.from within c good read held' given' number refused gave)
    by (Err WriteFault) (d, gave, fails) =
        let q = cut_off start held w0 w1 left now given bytes way t.taken t.from within c good read held' given' d.has gave in
        (q.0, d.book ∙ q.1)
    by (Err NoMemory) (inl gave, sound) = wanted start held w0 w1 left now given bytes way t.taken t.from within c good read held' given' gave
    by (Err NoMemory) (inr (h, gave), sound) =
        (cut_off start held w0 w1 left now given bytes way t.taken t.from within c good read held' given' h gave).0
    by (Err (Script at)) none = absurd none
    by (Err ReadFault) none = absurd none
