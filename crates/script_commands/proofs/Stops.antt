-- Where the parts of a reading stop, and what they read.
use Rattle.std.proofs.Common.{◌≡◌, ◌∙◌, ℕ, ◌+◌, ◌<◌, ◌≤◌, List, [], ◌∷◌, ◌++◌, length, take, drop, get_or, refl, sym, ap, subst, arith, inl, inr, append_assoc, append-nil, length-append}
use Rattle.std.proofs.Math.ListN.{replicate}
use Rattle.std.proofs.lemmas.Bool.{le-ltb}
use Rattle.std.proofs.lemmas.List.{length-replicate, length-take-le}
use Rattle.std.specs.Prelude.{codes, cond, nat_lt, Option, Some, None, Result, Ok, Err}
use Rattle.linker_base.specs.declared.limits.TheConstants.{FILE_BYTES, INPUT_BYTES, LINE_BYTES}
use Rattle.linker_base.specs.Members.{IsMember}
use Rattle.linker_base.proofs.MemberLaws.{member_right}
use Rattle.session_course.specs.Commands.{put, line_of}
use Rattle.session_course.specs.Refusals.{IsUnfinished}
use Rattle.session_course.proofs.CutLaws.{feed_not_end}
use Rattle.session_course.proofs.Existence.{short_unfinished, put_unfinished}
use Rattle.session_course.proofs.Lines.{same_front}
use Rattle.script_commands.specs.Lines.{IsHeading}
use Rattle.script_commands.specs.Reading.{Window, HasTaken, HasUsed, IsBeyond, HasLine, IsFilled, IsLined, HasMoved, IsShort, IsText, IsClosed, IsBody, HasHeading, IsHeaded, IsBareEnd, IsGood, IsNext}
use Rattle.script_commands.specs.declared.command.Command.{Command}
use Rattle.script_commands.specs.declared.command.Command.TheVariants.{Put, Find}
use Rattle.script_commands.specs.declared.command.ReadStop.{ReadStop}
use Rattle.script_commands.specs.declared.command.ReadStop.TheVariants.{LongLine, NoForm, LongText, NoLineFeed, LongInput, CutShort, ReadFault, NoMemory}
use Rattle.script_commands.specs.declared.line.Heading.{Heading}
use Rattle.script_commands.specs.declared.line.Heading.TheVariants as heading
use Rattle.script_commands.proofs.Headings.{place_parts, put_line}
use Rattle.script_commands.proofs.Windows.{taken_so, then_taken, used_then, some_then, beyond_then}

-- ---- calls that fill

-- nothing more was used up, and nothing more was taken
still : (w0 w1 w2 : Window) (front seen : List ℕ) → w1.used ≡ w0.used + length front → w2 ≡ w1 → seen ≡ w1.pending → HasUsed w0 w2 front (front ++ seen)
still w0 w1 w2 front seen place same e = record {
  stands = ap (λ bs. front ++ bs) (e ∙ sym (ap (λ (w : Window). w.pending) same));
  place = ap (λ (w : Window). w.used) same ∙ place;
}

-- a byte beyond the limit of an input came after these
beyond : (w0 w1 w2 : Window) (front more : List ℕ) (Within : List ℕ → Type 0) → w1.used ≡ w0.used + length front
    → (w2 ≡ w1) × (w1.used + length w1.pending ≡ INPUT_BYTES) × (length w1.pending < length (w1.pending ++ more))
    → Within (front ++ w1.pending) → IsBeyond w0 w2 Within (front ++ (w1.pending ++ more))
beyond w0 w1 w2 front more Within place (same, full, longer) within = record {
  front = front ++ w1.pending;
  back = more;
  stands = sym (append_assoc front w1.pending more);
  full = omega (arith, full, place, length-append front w1.pending);
  more = omega (arith, longer, length-append w1.pending more);
  within = within;
  kept = (front, still w0 w1 w2 front w1.pending place same refl);
}

-- the take that stopped came where no whole line was pending
pub line_stopped : (w0 w1 w2 : Window) (left now later : Option (List ℕ)) (bytes : List ℕ) (stop : ReadStop)
    → HasTaken w0 left now (λ seen. HasUsed w0 w1 [] seen) → bytes ≡ w1.pending → (IsMember bytes 10 → ⊥) × (length bytes ≤ LINE_BYTES)
    → HasTaken w1 now later (IsFilled w1 w2 later (Err stop)) → HasTaken w0 left later (IsLined w0 w2 later (Err stop))
line_stopped w0 w1 w2 left now later bytes stop a is (free, short) b = then_taken w0 w1 left now later [] _ _ a b (λ more place h. by stop more place h)
  where
    unfinished : IsUnfinished w1.pending
    unfinished = subst IsUnfinished is (short_unfinished bytes short free)

    by : (stop : ReadStop) (more : List ℕ) → w1.used ≡ w0.used + 0 → IsFilled w1 w2 later (Err stop) (w1.pending ++ more)
        → IsLined w0 w2 later (Err stop) (w1.pending ++ more)
    by LongInput more place h = beyond w0 w1 w2 [] more IsUnfinished place h unfinished
    by CutShort more place h = (h.2, subst IsUnfinished (sym h.1) unfinished, still w0 w1 w2 [] (w1.pending ++ more) place h.0 h.1)
    by ReadFault more place h = (subst IsUnfinished (sym h.1) unfinished, still w0 w1 w2 [] (w1.pending ++ more) place h.0 h.1)
    by LongLine more place h = absurd h
    by NoForm more place h = absurd h
    by LongText more place h = absurd h
    by NoLineFeed more place h = absurd h
    by NoMemory more place h = absurd h

-- pending bytes joined the text
pub text_moved : (w0 w1 w2 : Window) (left now : Option (List ℕ)) (text more : List ℕ) (count : ℕ) (u : Unit {0})
    → HasTaken w0 left now (λ seen. HasUsed w0 w1 text seen) → HasMoved w1 w2 text more count (Ok u)
    → HasTaken w0 left now (λ seen. HasUsed w0 w2 more seen)
text_moved w0 w1 w2 left now text more count u a (part, is, le, used, choice) = taken_so w0 left now _ _ a (λ seen h. record {
  stands = h.stands ∙ (ap (λ bs. text ++ bs) used.stands ∙ (sym (append_assoc text part w2.pending) ∙ ap (λ bs. bs ++ w2.pending) (sym is)));
  place = omega (arith, h.place, used.place, ap length is, length-append text part);
})

-- a piece was taken after the text
pub text_filled : (w0 w1 w2 : Window) (left now later : Option (List ℕ)) (text : List ℕ) (u : Unit {0})
    → HasTaken w0 left now (λ seen. HasUsed w0 w1 text seen) → HasTaken w1 now later (IsFilled w1 w2 later (Ok u))
    → HasTaken w0 left later (λ seen. HasUsed w0 w2 text seen)
text_filled w0 w1 w2 left now later text u a b = then_taken w0 w1 left now later text _ _ a b (λ more place h. record {
  stands = ap (λ bs. text ++ bs) h.0.stands;
  place = omega (arith, place, h.0.place);
})

-- the take that stopped came where the text wasn't whole
pub text_stopped : (w0 w1 w2 : Window) (left now later : Option (List ℕ)) (text : List ℕ) (count : ℕ) (stop : ReadStop)
    → HasTaken w0 left now (λ seen. HasUsed w0 w1 text seen) → length text ≤ count → w1.pending ≡ []
    → HasTaken w1 now later (IsFilled w1 w2 later (Err stop)) → HasTaken w0 left later (IsText count w0 w2 text later (Err stop))
text_stopped w0 w1 w2 left now later text count stop a le none b = then_taken w0 w1 left now later text _ _ a b (λ more place h. by stop more place h)
  where
    short : (bs : List ℕ) → bs ≡ w1.pending → length (text ++ bs) ≤ count
    short bs e = omega (arith, le, ap length e, ap length none, length-append text bs)

    by : (stop : ReadStop) (more : List ℕ) → w1.used ≡ w0.used + length text → IsFilled w1 w2 later (Err stop) (w1.pending ++ more)
        → IsText count w0 w2 text later (Err stop) (text ++ (w1.pending ++ more))
    by LongInput more place h = beyond w0 w1 w2 text more (IsShort count) place h (short w1.pending refl)
    by CutShort more place h = (h.2, short (w1.pending ++ more) h.1, (text, still w0 w1 w2 text (w1.pending ++ more) place h.0 h.1))
    by ReadFault more place h = (short (w1.pending ++ more) h.1, (text, still w0 w1 w2 text (w1.pending ++ more) place h.0 h.1))
    by LongLine more place h = absurd h
    by NoForm more place h = absurd h
    by LongText more place h = absurd h
    by NoLineFeed more place h = absurd h
    by NoMemory more place h = absurd h

-- ---- the body of a put

-- a text was read, and its LF
pub body_whole : (w0 w1 w2 : Window) (left now later : Option (List ℕ)) (text same : List ℕ) (count : ℕ) (u v : Unit {0})
    → HasTaken w0 left now (IsText count w0 w1 text now (Ok u)) → HasTaken w1 now later (IsClosed w1 w2 later (Ok v)) → same ≡ text
    → HasTaken w0 left later (IsBody count w0 w2 later (Ok same))
body_whole w0 w1 w2 left now later text same count u v a b is =
    subst (λ bs. HasTaken w0 left later (IsBody count w0 w2 later (Ok bs))) (sym is)
    (then_taken w0 w1 left now later text _ _ (taken_so w0 left now _ _ a (λ seen h. h.1)) b
    (λ more place h. (a.outcome.0, used_then w0 w1 w2 text (w1.pending ++ more) place (codes "\n") h)))

-- no LF was read after a text
pub body_stopped : (w0 w1 w2 : Window) (left now later : Option (List ℕ)) (text : List ℕ) (count : ℕ) (u : Unit {0}) (stop : ReadStop)
    → HasTaken w0 left now (IsText count w0 w1 text now (Ok u)) → HasTaken w1 now later (IsClosed w1 w2 later (Err stop))
    → HasTaken w0 left later (IsBody count w0 w2 later (Err stop))
body_stopped w0 w1 w2 left now later text count u stop a b =
    then_taken w0 w1 left now later text _ _ (taken_so w0 left now _ _ a (λ seen h. h.1)) b (λ more place h. by stop (w1.pending ++ more) place h)
  where
    short : (bs : List ℕ) → IsShort 0 bs → IsShort count (text ++ bs)
    short bs le = omega (arith, le, a.outcome.0, length-append text bs)

    by : (stop : ReadStop) (seen : List ℕ) → w1.used ≡ w0.used + length text → IsClosed w1 w2 later (Err stop) seen
        → IsBody count w0 w2 later (Err stop) (text ++ seen)
    by NoLineFeed seen place h = (
      text,
      a.outcome.0,
      h.0,
      record {
        stands = ap (λ bs. text ++ bs) h.1.stands;
        place = omega (arith, place, h.1.place);
      },
    )
    by LongInput seen place h = beyond_then w0 w1 w2 text seen place (IsShort 0) (IsShort count) h short
    by CutShort seen place h = (h.0, short seen h.1, some_then w0 w1 w2 text seen place h.2)
    by ReadFault seen place h = (short seen h.0, some_then w0 w1 w2 text seen place h.1)
    by LongLine seen place h = absurd h
    by NoForm seen place h = absurd h
    by LongText seen place h = absurd h
    by NoMemory seen place h = absurd h

-- ---- the line

-- what stands after a line's LF
after_line : (n : ℕ) (bytes : List ℕ) (h : HasLine n bytes) → h.back ≡ drop (n + 1) bytes
after_line n bytes h =
    let whole : take n bytes ++ 10 ∷ h.back ≡ take n bytes ++ get_or bytes n 0 ∷ drop (n + 1) bytes = sym h.stands ∙ place_parts bytes n 0 h.within in
    let parts : 10 ∷ h.back ≡ get_or bytes n 0 ∷ drop (n + 1) bytes = (same_front (take n bytes) (take n bytes) _ _ refl whole).1 in
    cc

-- a line was read, and says this
pub line_said : (w0 w1 w2 : Window) (left now : Option (List ℕ)) (n : ℕ) (line : List ℕ) (h : Heading)
    → HasTaken w0 left now (IsLined w0 w1 now (Ok n)) → line ≡ take n w1.pending → IsHeading line (Ok h)
    → w2 ≡ record { used = w1.used + (n + 1); pending = drop (n + 1) w1.pending } → HasTaken w0 left now (IsHeaded w0 w2 now (Ok h))
line_said w0 w1 w2 left now n line h a is says after = taken_so w0 left now _ _ a (λ seen (used, has).
    let same : line ≡ take n seen = is ∙ ap (λ bs. take n bs) (sym used.stands) in
    let size : length line ≡ n = ap length same ∙ length-take-le n seen (omega (arith, has.within)) in
    let rest : drop (n + 1) seen ≡ w2.pending = ap (λ bs. drop (n + 1) bs) used.stands ∙ sym (ap (λ (w : Window). w.pending) after) in
    record {
      line = line;
      says = says;
      free = λ m. has.free (subst (λ bs. IsMember bs 10) same m);
      short = omega (arith, size, has.short);
      used = record {
        stands = has.stands
            ∙ (ap (λ bs. bs ++ 10 ∷ has.back) (sym same)
            ∙ (ap (λ bs. line ++ 10 ∷ bs) (after_line n seen has ∙ rest) ∙ sym (append_assoc line (codes "\n") w2.pending)));
        place = omega (arith, ap (λ (w : Window). w.used) after, used.place, size, length-append line (codes "\n"));
      };
    })

-- a line was read, and is refused
pub line_refused : (w0 w1 : Window) (left now : Option (List ℕ)) (n : ℕ) (line : List ℕ) (stop : ReadStop)
    → HasTaken w0 left now (IsLined w0 w1 now (Ok n)) → line ≡ take n w1.pending → IsHeading line (Err stop)
    → HasTaken w0 left now (IsHeaded w0 w1 now (Err stop))
line_refused w0 w1 left now n line stop a is says = taken_so w0 left now _ _ a
    (λ seen (used, has). by stop seen used has (is ∙ ap (λ bs. take n bs) (sym used.stands)) says)
  where
    by : (stop : ReadStop) (seen : List ℕ) → HasUsed w0 w1 [] seen → HasLine n seen → line ≡ take n seen → IsHeading line (Err stop)
        → IsHeaded w0 w1 now (Err stop) seen
    by NoForm seen used has same none = (
      record {
        line = take n seen;
        back = has.back;
        free = has.free;
        none = λ c form e. none c form (e ∙ sym same);
        stands = has.stands;
      },
      omega (arith, has.short, length-take-le n seen (omega (arith, has.within))),
      used,
    )
    by LongText seen used has same p = (
      record {
        command = p.command;
        back = has.back;
        form = p.form;
        passed = p.passed;
        stands = has.stands ∙ ap (λ bs. bs ++ 10 ∷ has.back) (sym same ∙ sym p.stands);
      },
      omega (arith, ap length (p.stands ∙ same), has.short, length-take-le n seen (omega (arith, has.within))),
      used,
    )
    by NoMemory seen used has same u = ([], used)
    by LongLine seen used has same h = absurd h
    by NoLineFeed seen used has same h = absurd h
    by LongInput seen used has same h = absurd h
    by CutShort seen used has same h = absurd h
    by ReadFault seen used has same h = absurd h

-- ---- the command

-- a text that keeps to the limit of a file
keeps : (n : ℕ) → n ≤ FILE_BYTES → cond (nat_lt FILE_BYTES n) (Some FILE_BYTES) None ≡ None
keeps n le = ap (λ b. cond b (Some FILE_BYTES) None) (le-ltb FILE_BYTES n le)

-- a put was read
pub put_read : (w0 w1 w2 : Window) (left now later : Option (List ℕ)) (name text : List ℕ) (count : ℕ)
    → HasTaken w0 left now (IsHeaded w0 w1 now (Ok (heading.Put name count))) → HasTaken w1 now later (IsBody count w1 w2 later (Ok text))
    → HasTaken w0 left later (IsNext w0 w2 later (Ok (Put name text)))
put_read w0 w1 w2 left now later name text count a b =
    let h = a.outcome in
    let size : length text ≡ count = b.outcome.0 in
    let line : line_of (put name text) ≡ h.line = put_line h.line name text count h.says.2 size in
    then_taken w0 w1 left now later (h.line ++ codes "\n") _ _ (record { taken = a.taken; from = a.from; outcome = h.used }) b (λ more place k. (
      record {
        form = (h.says.0, omega (arith, size, h.says.1));
        short = omega (arith, ap length line, h.short);
        size = keeps (length text) (omega (arith, size, h.says.1));
      },
      inl (subst (λ l. HasUsed w0 w2 ((l ++ codes "\n") ++ (text ++ codes "\n")) ((h.line ++ codes "\n") ++ (w1.pending ++ more))) (sym line)
          (used_then w0 w1 w2 (h.line ++ codes "\n") (w1.pending ++ more) place (text ++ codes "\n") k.1)),
    ))

-- the reading stopped within a put
pub put_refused : (w0 w1 w2 : Window) (left now later : Option (List ℕ)) (name : List ℕ) (count : ℕ) (stop : ReadStop)
    → HasTaken w0 left now (IsHeaded w0 w1 now (Ok (heading.Put name count))) → HasTaken w1 now later (IsBody count w1 w2 later (Err stop))
    → HasTaken w0 left later (IsNext w0 w2 later (Err stop))
put_refused w0 w1 w2 left now later name count stop a b =
    then_taken w0 w1 left now later front _ _ (record { taken = a.taken; from = a.from; outcome = h.used }) b
    (λ more place k. by stop (w1.pending ++ more) place k)
  where
    h : HasHeading w0 w1 (heading.Put name count) (w0.pending ++ a.taken)
    h = a.outcome

    front : List ℕ
    front = h.line ++ codes "\n"

    filler : List ℕ
    filler = replicate count 0

    size : length filler ≡ count
    size = length-replicate {A = ℕ} count 0

    -- what follows the line's LF
    apart : (bs : List ℕ) → front ++ bs ≡ h.line ++ 10 ∷ bs
    apart bs = append_assoc h.line (codes "\n") bs

    unfinished : (bs : List ℕ) → IsShort count bs → IsUnfinished (front ++ bs)
    unfinished bs le = put_unfinished name filler (front ++ bs) bs (h.says.0, omega (arith, size, h.says.1))
        (keeps (length filler) (omega (arith, size, h.says.1)))
        (apart bs ∙ ap (λ l. l ++ 10 ∷ bs) (sym (put_line h.line name filler count h.says.2 size))) (omega (arith, size, le))

    by : (stop : ReadStop) (seen : List ℕ) → w1.used ≡ w0.used + length front → IsBody count w1 w2 later (Err stop) seen
        → IsNext w0 w2 later (Err stop) (front ++ seen)
    by NoLineFeed seen place (text, same, o, used) =
        let line : line_of (put name text) ≡ h.line = put_line h.line name text count h.says.2 same in
        let whole : front ++ seen ≡ line_of (put name text) ++ 10 ∷ (text ++ o.next ∷ o.back) =
        apart seen ∙ (ap (λ bs. h.line ++ 10 ∷ bs) (used.stands ∙ ap (λ bs. text ++ bs) o.stands)
        ∙ ap (λ l. l ++ 10 ∷ (text ++ o.next ∷ o.back)) (sym line)) in (
          front ++ text,
          record {
            name = name;
            text = text;
            next = o.next;
            back = o.back;
            form = (h.says.0, omega (arith, same, h.says.1));
            size = keeps (length text) (omega (arith, same, h.says.1));
            other = o.other;
            stands = whole;
            place = ap length (apart text ∙ ap (λ l. l ++ 10 ∷ text) (sym line));
          },
          used_then w0 w1 w2 front seen place text used,
        )
    by LongInput seen place k = beyond_then w0 w1 w2 front seen place (IsShort count) IsUnfinished k unfinished
    by CutShort seen place k = (k.0, unfinished seen k.1, feed_not_end h.line [] seen, some_then w0 w1 w2 front seen place k.2)
    by ReadFault seen place k = (unfinished seen k.0, some_then w0 w1 w2 front seen place k.1)
    by NoMemory seen place k = some_then w0 w1 w2 front seen place k
    by LongLine seen place k = absurd k
    by NoForm seen place k = absurd k
    by LongText seen place k = absurd k

-- a finding was read
pub find_read : (w0 w1 : Window) (left now : Option (List ℕ)) (words : List ℕ) → HasTaken w0 left now (IsHeaded w0 w1 now (Ok (heading.Find words)))
    → HasTaken w0 left now (IsNext w0 w1 now (Ok (Find words)))
find_read w0 w1 left now words a = taken_so w0 left now _ _ a (λ seen h.
    let spelt : h.line ++ codes "\n" ≡ (codes "find " ++ words) ++ codes "\n" ++ [] =
    ap (λ l. l ++ codes "\n") h.says ∙ sym (append-nil ((codes "find " ++ words) ++ codes "\n")) in (
      record {
        form = λ m. h.free (subst (λ l. IsMember l 10) (sym h.says) (member_right (codes "find ") words 10 m));
        short = subst (λ l. length l ≤ LINE_BYTES) h.says h.short;
        size = refl;
      },
      inl (subst (λ bs. HasUsed w0 w1 bs seen) spelt h.used),
    ))

-- where the input ended, `end` was read without its LF, or something else is pending
pub bare_read : (w0 w1 w2 : Window) (left now : Option (List ℕ)) (result : Result Command ReadStop)
    → HasTaken w0 left now (IsHeaded w0 w1 now (Err CutShort)) → IsBareEnd w1 w2 result → HasTaken w0 left now (IsNext w0 w2 now result)
bare_read w0 w1 w2 left now (Ok c) a (is, all, none, place) = taken_so w0 left now _ _ a (λ seen (ended, u, used).
    let same : seen ≡ codes "end" = used.stands ∙ all in (
      subst IsGood (sym is) (record { form = tt; short = omega arith; size = refl }),
      inr (
        ended,
        is,
        same,
        record {
          stands = sym (append-nil seen) ∙ ap (λ bs. seen ++ bs) (sym none);
          place = omega (arith, place, used.place, ap length same);
        },
      ),
    ))
bare_read w0 w1 w2 left now (Err CutShort) a (same, other) = taken_so w0 left now _ _ a (λ seen (ended, u, used). (
  ended,
  u,
  λ e. other (sym used.stands ∙ e),
  ([], record { stands = used.stands ∙ sym (ap (λ (w : Window). w.pending) same); place = ap (λ (w : Window). w.used) same ∙ used.place }),
))
bare_read w0 w1 w2 left now (Err LongLine) a k = absurd k
bare_read w0 w1 w2 left now (Err NoForm) a k = absurd k
bare_read w0 w1 w2 left now (Err LongText) a k = absurd k
bare_read w0 w1 w2 left now (Err NoLineFeed) a k = absurd k
bare_read w0 w1 w2 left now (Err LongInput) a k = absurd k
bare_read w0 w1 w2 left now (Err ReadFault) a k = absurd k
bare_read w0 w1 w2 left now (Err NoMemory) a k = absurd k
