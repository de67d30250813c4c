-- A session on its way, and what stands where it ends.
use Rattle.std.proofs.Common.{◌≡◌, ◌∙◌, ℕ, ◌-◌, ◌<◌, ◌≤◌, Bool, true, false, List, [], ◌∷◌, ◌++◌, length, take, refl, sym, ap, subst, arith, append_assoc, append-nil, length-append}
use Rattle.std.proofs.lemmas.List.{take_all}
use Rattle.std.specs.Prelude.{codes, Some}
use Rattle.linker_base.specs.declared.limits.TheConstants.{INPUT_BYTES}
use Rattle.book_model.specs.Files.{LibraryTexts}
use Rattle.book_model.specs.Book.{Book}
use Rattle.session_course.specs.Commands.{Command, book_after}
use Rattle.session_course.specs.Cut.{Reads, IsReading, EndsWithEnd, AreOpen, book_left}
use Rattle.session_course.specs.Refusals.{IsUnfinished}
use Rattle.session_course.specs.Answers.{IsAnswer, AreAnswers}
use Rattle.session_course.specs.Stops.{Stop, row_of, IsStop, ending_at, place_of, next_bytes, Course, course_commands, earlier_of, Ending}
use Rattle.session_course.proofs.CutLaws.{open_next, reads_more, reads_shorter, cut_begins, book_next}
use Rattle.session_course.proofs.RowLaws.{course_of, course_long, course_short}
use Rattle.session_course.proofs.AnswerLaws.{answers_append}
use Rattle.session_course.proofs.Existence.{course_ended}
use Rattle.session_streams.specs.Moves.{Stream, Move, moved, Gave, GaveFront}
use Rattle.session_streams.proofs.Giving.{gave_then}
use Rattle.session_streams.specs.Serving.{IsWhole, IsBroken, IsPart}

-- these commands are read and answered; the bytes taken are their spellings and what is pending; the book is the one that they leave
pub record Progress (library : LibraryTexts) (from book : Book) (pending : List ℕ) (output : Move) : Type 0 where
  pub commands : List Command
  pub taken : List ℕ
  pub none_ends : AreOpen commands
  pub reads : Reads false from commands taken pending
  pub left : book ≡ book_left from commands
  pub answers : List ℕ
  pub are : AreAnswers library from commands answers
  pub given : Gave output answers
  pub within : length taken ≤ INPUT_BYTES

-- commands that are read are the first ones of the course
begun : (from : Book) (bytes : List ℕ) (ds : List Command) (rest : List ℕ) → IsReading true from ds bytes rest
    → (c : Course true from bytes) → (more : List Command) × (course_commands c ≡ ds ++ more)
begun from bytes ds rest r c =
    let m = cut_begins true from c.commands ds bytes c.rest rest c.cut r in
    (m.0 ++ earlier_of c.stop, ap (λ (cs : List Command). cs ++ earlier_of c.stop) m.1 ∙ append_assoc ds m.0 (earlier_of c.stop))

module _ {library : LibraryTexts} {from book : Book} {pending : List ℕ} {output : Move} (p : Progress library from book pending output) where
  -- the commands so far are a reading of any bytes that go on so
  reading_here : (ended : Bool) (bytes more : List ℕ) → bytes ≡ p.taken ++ more → IsReading ended from p.commands bytes (pending ++ more)
  reading_here ended bytes more e = record {
    reads = subst (λ bs. Reads ended from p.commands bs (pending ++ more)) (sym e) (reads_more ended from p.commands p.taken pending more p.reads);
    within = omega (arith, ap length e, length-append p.taken more, length-append pending more, p.within);
  }

  -- the bytes given are the answers of the course, which adds none, and so is the book
  no_earlier : p.commands ++ [] ≡ p.commands
  no_earlier = append-nil p.commands

  -- the course adds nothing to the commands so far
  added : (s : Stop) → earlier_of s ≡ [] → p.commands ≡ p.commands ++ earlier_of s
  added s none = sym (ap (λ (es : List Command). p.commands ++ es) none ∙ no_earlier)

  -- one of the rows 2 to 6 is the first that holds
  pub stops_here : (s : Stop) (bytes rest : List ℕ) → IsReading true from p.commands bytes rest → 1 < row_of s → row_of s < 7
      → IsStop from p.commands bytes rest s → earlier_of s ≡ []
      → IsWhole library from book bytes output (ending_at (place_of bytes rest) (length bytes) s)
  stops_here s bytes rest reading lo hi i none = record {
    course = course_of from p.commands bytes rest p.none_ends true reading s lo hi i;
    ends = refl;
    answers = p.answers;
    are = subst (λ (cs : List Command). AreAnswers library from cs p.answers) (added s none) p.are;
    given = p.given;
    book = p.left ∙ ap (λ (cs : List Command). book_left from cs) (added s none);
  }

  -- the input ended before a whole command
  pub ended_here : (bytes rest : List ℕ) → IsReading true from p.commands bytes rest → IsUnfinished (next_bytes bytes rest) → (rest ≡ codes "end" → ⊥)
      → length bytes ≤ INPUT_BYTES
      → IsWhole library from book bytes output (Ending.Script (length bytes))
  ended_here bytes rest reading u bare le = record {
    course = course_short from p.commands bytes rest p.none_ends true reading u (λ e is. bare is) le;
    ends = refl;
    answers = p.answers;
    are = subst (λ (cs : List Command). AreAnswers library from cs p.answers) (sym no_earlier) p.are;
    given = p.given;
    book = p.left ∙ ap (λ (cs : List Command). book_left from cs) (sym no_earlier);
  }

  -- the input is too long
  pub beyond_here : (bytes rest : List ℕ) → IsReading true from p.commands bytes rest → IsUnfinished (next_bytes bytes rest) → INPUT_BYTES < length bytes
      → IsWhole library from book bytes output (Ending.Limit (INPUT_BYTES))
  beyond_here bytes rest reading u long = record {
    course = course_long from p.commands bytes rest p.none_ends true reading u long;
    ends = refl;
    answers = p.answers;
    are = subst (λ (cs : List Command). AreAnswers library from cs p.answers) (sym no_earlier) p.are;
    given = p.given;
    book = p.left ∙ ap (λ (cs : List Command). book_left from cs) (sym no_earlier);
  }

  -- the input failed before a whole command
  pub broken_here : (bytes more rest : List ℕ) (input : Move) → bytes ≡ (p.taken ++ more) ++ rest → input.after.told ≡ Some rest
      → length (p.taken ++ more) ≤ INPUT_BYTES
      → IsUnfinished (pending ++ more) → IsBroken library from book bytes input output
  broken_here bytes more rest input e told le u =
      let all = p.taken ++ more in
      let seen = pending ++ more in
      let reading = reading_here false all more refl in
      let next : next_bytes all seen ≡ seen = take_all (INPUT_BYTES - place_of all seen) seen (omega (arith, le, shorter more)) in
      record {
        taken = all;
        rest = rest;
        whole = e;
        told = told;
        course = course_short from p.commands all seen p.none_ends false reading (subst IsUnfinished (sym next) u) (λ no_. let h : false ≡ true = no_ in cc) le;
        stop = refl;
        answers = p.answers;
        are = subst (λ (cs : List Command). AreAnswers library from cs p.answers) (sym no_earlier) p.are;
        given = p.given;
        book = p.left ∙ ap (λ (cs : List Command). book_left from cs) (sym no_earlier);
      }
    where
      shorter : (xs : List ℕ) → length (pending ++ xs) ≤ length (p.taken ++ xs)
      shorter xs = omega (arith, length-append pending xs, length-append p.taken xs, reads_shorter false from p.commands p.taken pending p.reads)

  -- memory was wanting before the next command was done
  pub part_here : (bytes more : List ℕ) → bytes ≡ p.taken ++ more → IsPart library from bytes output
  part_here bytes more e = record {
    done = p.commands;
    next = [];
    one = omega arith;
    first = begun from bytes (p.commands ++ []) (pending ++ more)
        (subst (λ (cs : List Command). IsReading true from cs bytes (pending ++ more)) (sym no_earlier) (reading_here true bytes more e));
    answers = p.answers;
    are = p.are;
    coming = [];
    come = refl;
    size = 0;
    given = subst (λ bs. Gave output bs) (sym (append-nil p.answers)) p.given;
  }

-- the answer of the next command, over the book that the commands so far leave
answer_here : (library : LibraryTexts) (from book : Book) (cs : List Command) (c : Command) (answer : List ℕ) → book ≡ book_left from cs
    → IsAnswer library book c answer → AreAnswers library (book_left from cs) (c ∷ []) answer
answer_here library from book cs c answer is a =
    (answer, [], subst (λ (b : Book). IsAnswer library b c answer) is a, refl, sym (append-nil answer))

-- the answer of the next command couldn't be written whole
pub unwritten_here : (library : LibraryTexts) (from book : Book) (pending : List ℕ) (a b d : Stream) (p : Progress library from book pending (moved a b))
    (c : Command) (answer bytes rest : List ℕ) → IsAnswer library book c answer → IsReading true from (p.commands ++ c ∷ []) bytes rest
    → GaveFront (moved b d) answer → (q : IsPart library from bytes (moved a d)) × (book_after book c ≡ book_left from (q.done ++ q.next))
unwritten_here library from book pending a b d p c answer bytes rest is reading g = (
  record {
    done = p.commands;
    next = c ∷ [];
    one = omega arith;
    first = begun from bytes (p.commands ++ c ∷ []) rest reading;
    answers = p.answers;
    are = p.are;
    coming = answer;
    come = answer_here library from book p.commands c answer p.left is;
    size = g.0;
    given = gave_then a b d p.answers (take g.0 answer) p.given g.1;
  },
  ap (λ (x : Book). book_after x c) p.left ∙ sym (book_next from p.commands c),
)

-- the next command, which isn't `end`, was read, done and answered
pub did_here : (library : LibraryTexts) (from book : Book) (pending : List ℕ) (a b d : Stream) (p : Progress library from book pending (moved a b))
    (c : Command) (answer taken rest : List ℕ) → IsAnswer library book c answer → (c ≡ Command.End → ⊥)
    → Reads false from (p.commands ++ c ∷ []) taken rest → length taken ≤ INPUT_BYTES → Gave (moved b d) answer
    → Progress library from (book_after book c) rest (moved a d)
did_here library from book pending a b d p c answer taken rest is other reads within g = record {
  commands = p.commands ++ c ∷ [];
  taken = taken;
  none_ends = open_next p.commands c p.none_ends other;
  reads = reads;
  left = ap (λ (x : Book). book_after x c) p.left ∙ sym (book_next from p.commands c);
  answers = p.answers ++ answer;
  are = answers_append library from p.commands (c ∷ []) p.answers answer p.are (answer_here library from book p.commands c answer p.left is);
  given = gave_then a b d p.answers answer p.given g;
  within = within;
}

-- `end` was read and answered
pub done_here : (library : LibraryTexts) (from left : Book) (cs : List Command) (bytes rest answers : List ℕ) (output : Move)
    → IsReading true from cs bytes rest → EndsWithEnd cs → AreAnswers library from cs answers → Gave output answers → left ≡ book_left from cs
    → IsWhole library from left bytes output Ending.Done
done_here library from left cs bytes rest answers output reading ends are g is = record {
  course = course_ended true from bytes cs rest reading ends;
  ends = refl;
  answers = answers;
  are = subst (λ (ds : List Command). AreAnswers library from ds answers) (sym (append-nil cs)) are;
  given = g;
  book = is ∙ ap (λ (ds : List Command). book_left from ds) (sym (append-nil cs));
}
