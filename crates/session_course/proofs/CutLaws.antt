-- Laws of the cut: a list of bytes is read in one way, and where nothing more can be read the reading is the cut.
use Rattle.std.proofs.Common.{◌≡◌, ◌∙◌, ℕ, ◌+◌, ◌-◌, ◌≤◌, Bool, true, false, List, [], ◌∷◌, ◌++◌, length, refl, sym, ap, subst, arith, inl, inr, append_assoc, append-nil, length-append}
use Rattle.std.specs.Prelude.{codes, Some, None}
use Rattle.linker_base.specs.Members.{IsMember}
use Rattle.linker_base.proofs.MemberLaws.{member_left, member_right}
use Rattle.linker_base.specs.declared.limits.TheConstants.{INPUT_BYTES, LINE_BYTES}
use Rattle.book_model.specs.Book.{Book}
use Rattle.book_model.specs.Answers.{Command as Asked}
use Rattle.session_course.specs.Commands.{Command, put, line_of, body_of, spelling_of, HasForm, limit_passed, refusal_of, book_after, IsAccepted}
use Rattle.session_course.specs.Cut.{Begins, Reads, IsReading, IsCut, EndsWithEnd, spellings_of, book_left, AreOpen}
use Rattle.session_course.specs.Refusals.{IsEndless, IsFormless, IsOversized, IsUnclosed, IsRefused}
use Rattle.session_course.proofs.Lines.{word_of, words_same, spelling_same, spelt_by_line, line_feed, line_ends_once, put_line_same, passed_same, same_front}

-- `end` without its LF is no whole command
pub bare_end_partial : (c : Command) (rest : List ℕ) → codes "end" ≡ spelling_of c ++ rest → ⊥
bare_end_partial c rest e =
    let feed : IsMember (codes "end") 10 = subst (λ bs. IsMember bs 10) (sym (e ∙ spelt_by_line c rest))
    (member_right (line_of c) (10 ∷ (body_of c ++ rest)) 10 (inl refl)) in
    line_feed Command.End tt feed

-- one command begins in one way
pub begins_same : (ended : Bool) (c d : Command) (bytes rest left : List ℕ) → HasForm c → HasForm d → Begins ended c bytes rest → Begins ended d bytes left
    → (c ≡ d) × (rest ≡ left)
begins_same ended c d bytes rest left h k (inl a) (inl b) = spelling_same c d rest left h k (sym a ∙ b)
begins_same ended c d bytes rest left h k (inl a) (inr b) = absurd (bare_end_partial c rest (sym b.2 ∙ a))
begins_same ended c d bytes rest left h k (inr a) (inl b) = absurd (bare_end_partial d left (sym a.2 ∙ b))
begins_same ended c d bytes rest left h k (inr a) (inr b) = (a.1 ∙ sym b.1, a.3 ∙ sym b.3)

-- what follows a command is no longer than the whole
pub begins_shorter : (ended : Bool) (c : Command) (bytes rest : List ℕ) → Begins ended c bytes rest → length rest ≤ length bytes
begins_shorter ended c bytes rest (inl a) = omega (arith, ap length a, length-append (spelling_of c) rest)
begins_shorter ended c bytes rest (inr a) = omega (arith, ap length a.3)

-- what follows commands is no longer than the whole
pub reads_shorter : (ended : Bool) (book : Book) (cs : List Command) (bytes rest : List ℕ) → Reads ended book cs bytes rest → length rest ≤ length bytes
reads_shorter ended book [] bytes rest r = omega (arith, ap length r)
reads_shorter ended book (c ∷ cs) bytes rest r = omega (arith, begins_shorter ended c bytes r.0 r.1, reads_shorter ended (book_after book c) cs r.0 rest r.4)

-- two readings of the same bytes: the shorter is the front of the longer
pub readings_agree : (ended : Bool) (book : Book) (cs ds : List Command) (bytes rest left : List ℕ) → Reads ended book cs bytes rest
    → Reads ended book ds bytes left
    → length ds ≤ length cs → (more : List Command) × (cs ≡ ds ++ more) × (more ≡ [] → rest ≡ left)
readings_agree ended book [] [] bytes rest left r s le = ([], refl, λ e. sym r ∙ s)
readings_agree ended book [] (d ∷ ds) bytes rest left r s le = absurd (omega arith)
readings_agree ended book (c ∷ cs) [] bytes rest left r s le = (c ∷ cs, refl, λ e. cc)
readings_agree ended book (c ∷ cs) (d ∷ ds) bytes rest left r s le =
    let same = begins_same ended c d bytes r.0 s.0 r.2.form s.2.form r.1 s.1 in
    let further : Reads ended (book_after book c) ds r.0 left =
    subst (λ (x : Command). Reads ended (book_after book x) ds r.0 left) (sym same.0)
    (subst (λ bs. Reads ended (book_after book d) ds bs left) (sym same.1) s.4) in
    let whole = readings_agree ended (book_after book c) cs ds r.0 rest left r.4 further (omega arith) in
    let first : c ≡ d = same.0 in
    let tail : cs ≡ ds ++ whole.0 = whole.1 in
    (whole.0, cc, whole.2)

-- After commands none of which is `end`, no command begins of which at least `least` bytes are left: no reading that leaves so many is longer.
pub none_longer : (ended : Bool) (least : ℕ) (book : Book) (cs ds : List Command) (bytes rest left : List ℕ) → Reads ended book cs bytes rest
    → ((c : Command) (more : List ℕ) → IsAccepted (book_left book cs) c → Begins ended c rest more → least ≤ length more → ⊥)
    → Reads ended book ds bytes left → least ≤ length left → length ds ≤ length cs
none_longer ended least book cs [] bytes rest left r stops s le = omega arith
none_longer ended least book [] (d ∷ ds) bytes rest left r stops s le =
    absurd (stops d s.0 s.2 (subst (λ bs. Begins ended d bs s.0) r s.1) (omega (arith, reads_shorter ended (book_after book d) ds s.0 left s.4)))
none_longer ended least book (c ∷ cs) (d ∷ ds) bytes rest left r stops s le =
    let same = begins_same ended c d bytes r.0 s.0 r.2.form s.2.form r.1 s.1 in
    let further : Reads ended (book_after book c) ds r.0 left =
    subst (λ (x : Command). Reads ended (book_after book x) ds r.0 left) (sym same.0)
    (subst (λ bs. Reads ended (book_after book d) ds bs left) (sym same.1) s.4) in
    omega (arith, none_longer ended least (book_after book c) cs ds r.0 rest left r.4 stops further le)

-- no reading goes on after `end`
pub end_longest : (ended : Bool) (book : Book) (cs ds : List Command) (bytes rest left : List ℕ) → Reads ended book cs bytes rest → EndsWithEnd cs
    → Reads ended book ds bytes left → length ds ≤ length cs
end_longest ended book cs [] bytes rest left r stops s = omega arith
end_longest ended book [] (d ∷ ds) bytes rest left r stops s = absurd stops
end_longest ended book (c ∷ []) (d ∷ ds) bytes rest left r stops s =
    let same = begins_same ended c d bytes r.0 s.0 r.2.form s.2.form r.1 s.1 in
    omega (arith, ap length (s.3 (sym same.0 ∙ stops)))
end_longest ended book (c ∷ b ∷ cs) (d ∷ ds) bytes rest left r stops s =
    let same = begins_same ended c d bytes r.0 s.0 r.2.form s.2.form r.1 s.1 in
    let further : Reads ended (book_after book c) ds r.0 left =
    subst (λ (x : Command). Reads ended (book_after book x) ds r.0 left) (sym same.0)
    (subst (λ bs. Reads ended (book_after book d) ds bs left) (sym same.1) s.4) in
    omega (arith, end_longest ended (book_after book c) (b ∷ cs) ds r.0 rest left r.4 stops further)

-- a list that is no longer than its front is its front
no_more : (cs ds more : List Command) → cs ≡ ds ++ more → length cs ≤ length ds → more ≡ []
no_more cs ds [] e le = refl
no_more cs ds (m ∷ more) e le = absurd (omega (arith, ap length e, length-append ds (m ∷ more)))

-- two cuts of the same bytes are equal
pub cuts_same : (ended : Bool) (from : Book) (cs ds : List Command) (bytes rest left : List ℕ) → IsCut ended from cs bytes rest
    → IsCut ended from ds bytes left → (cs ≡ ds) × (rest ≡ left)
cuts_same ended from cs ds bytes rest left a b =
    let whole = readings_agree ended from cs ds bytes rest left a.reading.reads b.reading.reads (a.longest ds left b.reading) in
    let sizes = b.longest cs rest a.reading in
    let none : whole.0 ≡ [] = no_more cs ds whole.0 whole.1 sizes in
    (whole.1 ∙ (ap (λ ms. ds ++ ms) none ∙ append-nil ds), whole.2 none)

-- more bytes follow what was read
pub reads_more : (ended : Bool) (book : Book) (cs : List Command) (bytes rest more : List ℕ) → Reads false book cs bytes rest
    → Reads ended book cs (bytes ++ more) (rest ++ more)
reads_more ended book [] bytes rest more r = ap (λ bs. bs ++ more) r
reads_more ended book (c ∷ cs) bytes rest more (now, inl begins, accepted, last, then) = (
  now ++ more,
  inl (ap (λ bs. bs ++ more) begins ∙ append_assoc (spelling_of c) now more),
  accepted,
  last,
  reads_more ended (book_after book c) cs now rest more then,
)
reads_more ended book (c ∷ cs) bytes rest more (now, inr bare, accepted, last, then) = let e : false ≡ true = bare.0 in cc

-- one command more was read
pub reads_next : (ended : Bool) (book : Book) (cs : List Command) (c : Command) (bytes rest more : List ℕ) → Reads ended book cs bytes rest → AreOpen cs
    → IsAccepted (book_left book cs) c → Begins ended c rest more → Reads ended book (cs ++ c ∷ []) bytes more
reads_next ended book [] c bytes rest more r open_ accepted begins = (more, subst (λ bs. Begins ended c bs more) (sym r) begins, accepted, λ e. refl, refl)
reads_next ended book (d ∷ cs) c bytes rest more r open_ accepted begins =
    (r.0, r.1, r.2, λ e. absurd (open_.0 e), reads_next ended (book_after book d) cs c r.0 rest more r.4 open_.1 accepted begins)

-- and none of them is `end`
pub open_next : (cs : List Command) (c : Command) → AreOpen cs → (c ≡ Command.End → ⊥) → AreOpen (cs ++ c ∷ [])
open_next [] c open_ other = (other, tt)
open_next (d ∷ cs) c open_ other = (open_.0, open_next cs c open_.1 other)

-- the last of them is `end`
pub ends_next : (cs : List Command) → EndsWithEnd (cs ++ Command.End ∷ [])
ends_next [] = refl
ends_next (c ∷ []) = refl
ends_next (c ∷ d ∷ cs) = ends_next (d ∷ cs)

-- commands of which none is `end` don't end with it
pub open_unended : (cs : List Command) → AreOpen cs → EndsWithEnd cs → ⊥
open_unended [] open_ e = e
open_unended (c ∷ []) open_ e = open_.0 e
open_unended (c ∷ d ∷ cs) open_ e = open_unended (d ∷ cs) open_.1 e

-- the book that one command more leaves
pub book_next : (book : Book) (cs : List Command) (c : Command) → book_left book (cs ++ c ∷ []) ≡ book_after (book_left book cs) c
book_next book [] c = refl
book_next book (d ∷ cs) c = book_next (book_after book d) cs c

-- the spellings of one command more
pub spellings_next : (cs : List Command) (c : Command) → spellings_of (cs ++ c ∷ []) ≡ spellings_of cs ++ spelling_of c
spellings_next [] c = append-nil (spelling_of c)
spellings_next (d ∷ cs) c = ap (λ xs. spelling_of d ++ xs) (spellings_next cs c) ∙ sym (append_assoc (spelling_of d) (spellings_of cs) (spelling_of c))

-- a list without LF is no longer than a line that begins so
pub front_within : (front line back rest : List ℕ) → (IsMember front 10 → ⊥) → front ++ back ≡ line ++ 10 ∷ rest → length front ≤ length line
front_within [] line back rest free e = omega arith
front_within (x ∷ front) [] back rest free e = let h : x ≡ 10 = cc in absurd (free (inl h))
front_within (x ∷ front) (y ∷ line) back rest free e =
    let t : front ++ back ≡ line ++ 10 ∷ rest = cc in
    omega (arith, front_within front line back rest (λ m. free (inr m)) t)

-- where 2,049 bytes hold no LF, no command stands
pub endless_none : (bytes more rest : List ℕ) (c : Command) → IsEndless bytes → length (line_of c) ≤ LINE_BYTES → bytes ++ more ≡ spelling_of c ++ rest → ⊥
endless_none bytes more rest c long short e =
    let whole : long.front ++ (long.back ++ more) ≡ line_of c ++ 10 ∷ (body_of c ++ rest) =
    sym (append_assoc long.front long.back more) ∙ (ap (λ bs. bs ++ more) (sym long.stands) ∙ (e ∙ spelt_by_line c rest)) in
    omega (arith, front_within long.front (line_of c) (long.back ++ more) (body_of c ++ rest) long.free whole, long.size, short)

-- where the line has no form, no command stands
pub formless_none : (bytes more rest : List ℕ) (c : Command) → IsFormless bytes → HasForm c → bytes ++ more ≡ spelling_of c ++ rest → ⊥
formless_none bytes more rest c bad form e =
    let whole : spelling_of c ++ rest ≡ bad.line ++ 10 ∷ (bad.back ++ more) = sym e
    ∙ (ap (λ bs. bs ++ more) bad.stands ∙ append_assoc bad.line (10 ∷ bad.back) more) in
    bad.none c form (line_ends_once c bad.line rest (bad.back ++ more) form bad.free whole).0

-- a put's text with this line is followed by LF
unclosed_body : (c : Command) (name text : List ℕ) (next : ℕ) (back rest : List ℕ) → HasForm c → HasForm (put name text) → (next ≡ 10 → ⊥)
    → line_of c ≡ line_of (put name text) → word_of c ≡ word_of (put name text) → body_of c ++ rest ≡ text ++ next ∷ back → ⊥
unclosed_body (Command.Do (Asked.Put other later)) name text next back rest form h apart line word body =
    let parts = put_line_same other name later text form h line in
    let whole : later ++ 10 ∷ rest ≡ text ++ next ∷ back = sym (append_assoc later (codes "\n") rest) ∙ body in
    let texts = same_front later text (10 ∷ rest) (next ∷ back) parts.1 whole in
    let after : 10 ∷ rest ≡ next ∷ back = texts.1 in
    let feed : next ≡ 10 = cc in
    apart feed
unclosed_body c name text next back rest form h apart line word body = omega (arith, word)

-- where the byte after a put's text isn't LF, no command stands
pub unclosed_none : (at : ℕ) (bytes more rest : List ℕ) (c : Command) → IsUnclosed at bytes → HasForm c → bytes ++ more ≡ spelling_of c ++ rest → ⊥
unclosed_none at bytes more rest c bad form e =
    let line = line_of (put bad.name bad.text) in
    let after = bad.text ++ bad.next ∷ bad.back in
    let whole : spelling_of c ++ rest ≡ line ++ 10 ∷ (after ++ more) = sym e ∙ (ap (λ bs. bs ++ more) bad.stands ∙ append_assoc line (10 ∷ after) more) in
    let parts = line_ends_once c line rest (after ++ more) form (line_feed (put bad.name bad.text) bad.form) whole in
    unclosed_body c bad.name bad.text bad.next (bad.back ++ more) rest form bad.form bad.other parts.0 (words_same c (put bad.name bad.text) parts.0)
    (parts.1 ∙ append_assoc bad.text (bad.next ∷ bad.back) more)

-- where the line's number passes a limit, no command stands that keeps to it
pub oversized_none : (limit : ℕ) (bytes more rest : List ℕ) (c : Command) → IsOversized limit bytes → HasForm c → limit_passed c ≡ None
    → bytes ++ more ≡ spelling_of c ++ rest → ⊥
oversized_none limit bytes more rest c bad form size e =
    let whole : spelling_of c ++ rest ≡ line_of bad.command ++ 10 ∷ (bad.back ++ more) = sym e
    ∙ (ap (λ bs. bs ++ more) bad.stands ∙ append_assoc (line_of bad.command) (10 ∷ bad.back) more) in
    let line = (line_ends_once c (line_of bad.command) rest (bad.back ++ more) form (line_feed bad.command bad.form) whole).0 in
    let same : None ≡ Some limit = sym size ∙ (passed_same c bad.command form bad.form line ∙ bad.passed) in cc

-- where the next command's edit is refused, no accepted command begins, whatever follows
pub refused_here : (book : Book) (number : ℕ) (earlier : List Command) (bytes : List ℕ) → IsRefused book number earlier bytes
    → (ended : Bool) (c : Command) (more rest : List ℕ) → IsAccepted book c → Begins ended c (bytes ++ more) rest → ⊥
refused_here book number earlier bytes full ended c more rest accepted begins =
    let spelt : Begins ended full.command (bytes ++ more) (full.back ++ more) =
    inl (ap (λ bs. bs ++ more) full.stands ∙ append_assoc (spelling_of full.command) full.back more) in
    let same = begins_same ended full.command c (bytes ++ more) (full.back ++ more) rest full.form accepted.form spelt begins in
    let e : None ≡ Some number = sym accepted.room ∙ (ap (λ (x : Command). refusal_of book x) (sym same.0) ∙ full.refused) in cc

-- a list with a LF doesn't begin `end`
pub feed_not_end : (line back more : List ℕ) → (line ++ 10 ∷ back) ++ more ≡ codes "end" → ⊥
feed_not_end line back more e =
    line_feed Command.End tt (subst (λ bs. IsMember bs 10) e (member_left (line ++ 10 ∷ back) more 10 (member_right line (10 ∷ back) 10 (inl refl))))

-- the bytes that are read are the spellings
pub reads_spelt : (book : Book) (cs : List Command) (bytes rest : List ℕ) → Reads false book cs bytes rest → bytes ≡ spellings_of cs ++ rest
reads_spelt book [] bytes rest r = r
reads_spelt book (c ∷ cs) bytes rest (now, inl begins, accepted, last, then) =
    begins ∙ (ap (λ bs. spelling_of c ++ bs) (reads_spelt (book_after book c) cs now rest then) ∙ sym (append_assoc (spelling_of c) (spellings_of cs) rest))
reads_spelt book (c ∷ cs) bytes rest (now, inr bare, accepted, last, then) = let e : false ≡ true = bare.0 in cc

-- After commands none of which is `end` no accepted command begins within the bound: they are the cut.
pub cut_stops : (ended : Bool) (from : Book) (cs : List Command) (bytes rest : List ℕ) → IsReading ended from cs bytes rest
    → ((c : Command) (more : List ℕ) → IsAccepted (book_left from cs) c → Begins ended c rest more → length bytes ≤ length more + INPUT_BYTES → ⊥)
    → IsCut ended from cs bytes rest
cut_stops ended from cs bytes rest r stops = record {
  reading = r;
  longest = λ others left s. none_longer ended (length bytes - INPUT_BYTES) from cs others bytes rest left r.reads
      (λ c more a b le. stops c more a b (omega (arith, le))) s.reads (omega (arith, s.within));
}

-- a reading that ends with `end` is the cut
pub cut_ends : (ended : Bool) (from : Book) (cs : List Command) (bytes rest : List ℕ) → IsReading ended from cs bytes rest → EndsWithEnd cs
    → IsCut ended from cs bytes rest
cut_ends ended from cs bytes rest r stops = record {
  reading = r;
  longest =
      λ others left s. end_longest ended from cs others bytes rest left r.reads stops s.reads;
}

-- a reading is the front of the cut
pub cut_begins : (ended : Bool) (from : Book) (cs ds : List Command) (bytes rest left : List ℕ) → IsCut ended from cs bytes rest
    → IsReading ended from ds bytes left → (more : List Command) × (cs ≡ ds ++ more)
cut_begins ended from cs ds bytes rest left cut r =
    let whole = readings_agree ended from cs ds bytes rest left cut.reading.reads r.reads (cut.longest ds left r) in (whole.0, whole.1)
