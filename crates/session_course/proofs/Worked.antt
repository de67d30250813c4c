-- Worked examples: the courses of small inputs over an empty book, with their endings.
use Rattle.std.proofs.Common.{◌≡◌, ◌∙◌, ℕ, ◌^◌, ◌<◌, true, false, List, [], ◌∷◌, ◌++◌, length, refl, sym, ap, arith, inl, inr}
use Rattle.std.proofs.Math.ListN.{replicate}
use Rattle.std.proofs.lemmas.List.{length-replicate}
use Rattle.std.specs.Fmt.{decimal, digits}
use Rattle.std.specs.Prelude.{codes, cond, nat_lt, Some, None}
use Rattle.linker_base.specs.declared.limits.TheConstants.{FILE_BYTES}
use Rattle.linker_base.specs.Members.{IsMember}
use Rattle.book_model.specs.Answers.{Command as Asked}
use Rattle.book_model.specs.Files.{LibraryTexts}
use Rattle.session_course.specs.Commands.{Command, put, line_of}
use Rattle.session_course.specs.Cut.{AreOpen}
use Rattle.session_course.specs.Refusals.{IsFormless, IsOversized, IsUnclosed}
use Rattle.session_course.specs.Stops.{Stop, Course, Ending, course_ending, course_commands, course_book, AreCourseAnswers}
use Rattle.session_course.proofs.Choices.{other_none}
use Rattle.session_course.proofs.Existence.{course_ended, short_unfinished}
use Rattle.session_course.proofs.RowLaws as rows

-- what these examples need of `end`
pub nothing_no_end : [] ≡ codes "end" → ⊥
nothing_no_end e = cc

pub more_follows : false ≡ true → ⊥
more_follows e = cc

pub do_no_end : (c : Asked) → Command.Do c ≡ Command.End → ⊥
do_no_end c e = cc

-- AN EMPTY INPUT has no `end`
abbrev pub of_nothing : Course true [] []
of_nothing = rows.course_short [] [] [] [] tt true (record { reads = refl; within = omega arith })
    (short_unfinished [] (omega arith) (λ m. m)) (λ e is. nothing_no_end is) (omega arith)

pub nothing_ends : course_ending of_nothing ≡ Ending.Script 0
nothing_ends = refl

-- `end` ALONE, and what follows it has no effect
abbrev pub of_end : Course false [] (codes "end\nlist")
of_end = course_ended false [] (codes "end\nlist") (Command.End ∷ []) (codes "list")
    (record { reads = (codes "list", inl refl, record { form = tt; short = omega arith; size = refl; room = refl }, λ e. refl, refl); within = omega arith })
    refl

pub end_ends : course_ending of_end ≡ Ending.Done
end_ends = refl

pub end_answers : (library : LibraryTexts) → AreCourseAnswers of_end library (codes "end\n")
end_answers library = (codes "end\n", [], refl, refl, refl)

-- `end` WITHOUT LF: where the input ends, it is read
abbrev pub of_bare_end : Course true [] (codes "end")
of_bare_end = course_ended true [] (codes "end") (Command.End ∷ []) []
    (record {
      reads = ([], inr (refl, refl, refl, refl), record { form = tt; short = omega arith; size = refl; room = refl }, λ e. refl, refl);
      within =
          omega arith;
    })
    refl

pub bare_end_ends : course_ending of_bare_end ≡ Ending.Done
bare_end_ends = refl

-- where more may follow, it isn't
abbrev pub of_open_end : Course false [] (codes "end")
of_open_end = rows.course_short [] [] (codes "end") (codes "end") tt false (record { reads = refl; within = omega arith })
    (short_unfinished (codes "end") (omega arith) free) (λ e is. more_follows e) (omega arith)
  where
    free : IsMember (codes "end") 10 → ⊥
    free m = elim m [ inl e ↦ omega (arith, e) | inr n ↦ elim n [ inl e ↦ omega (arith, e) | inr o ↦ elim o [ inl e ↦ omega (arith, e) | inr p ↦ p ] ] ]

pub open_end_ends : course_ending of_open_end ≡ Ending.Script 3
open_end_ends = refl

-- A PUT with its text, which may hold what looks like commands, and `end`
abbrev pub of_put : Course false [] (codes "put a.kerml 4\nend\n\nend\n")
unfolding digits
of_put = course_ended false [] (codes "put a.kerml 4\nend\n\nend\n") (put (codes "a.kerml") (codes "end\n") ∷ Command.End ∷ []) []
    (record {
      reads = (
        codes "end\n",
        inl refl,
        record { form = (refl, omega arith); short = omega arith; size = refl; room = refl },
        λ e. absurd (do_no_end (Asked.Put (codes "a.kerml") (codes "end\n")) e),
        ([], inl refl, record { form = tt; short = omega arith; size = refl; room = refl }, λ e. refl, refl),
      );
      within = omega arith;
    })
    refl

pub put_ends : course_ending of_put ≡ Ending.Done
unfolding of_put
put_ends = refl

pub put_commands : course_commands of_put ≡ put (codes "a.kerml") (codes "end\n") ∷ Command.End ∷ []
unfolding of_put
put_commands = refl

pub put_book : course_book of_put ≡ (codes "a.kerml", Some (codes "end\n")) ∷ []
unfolding of_put
put_book = refl

-- A LINE WITHOUT FORM after a whole command is refused at its first byte
abbrev pub of_list : Course false [] (codes "check\nlist\nend\n")
of_list =
    let formless : IsFormless (codes "list\nend\n") = record {
      line = codes "list";
      back = codes "end\n";
      free = λ m. elim m [
        | inl e ↦ omega (arith, e)
        | inr n ↦ elim n [ inl e ↦ omega (arith, e) | inr o ↦ elim o [ inl e ↦ omega (arith, e) | inr p ↦ elim p [ inl e ↦ omega (arith, e) | inr q ↦ q ] ] ]
      ];
      none = other_none (codes "list") (record {
        no_end = refl;
        no_check = refl;
        no_implied = refl;
        no_drop = refl;
        no_links = refl;
        no_print = refl;
        no_find = refl;
        no_put = refl;
      });
      stands = refl;
    } in
    let check : Command = Command.Do Asked.Check in
    let open_ : AreOpen (check ∷ []) = (do_no_end Asked.Check, tt) in
    rows.course_of [] (check ∷ []) (codes "check\nlist\nend\n") (codes "list\nend\n") open_ false
    (record {
      reads = (codes "list\nend\n", inl refl, record { form = tt; short = omega arith; size = refl; room = refl }, λ e. refl, refl);
      within = omega arith;
    })
    Stop.NoForm (omega arith) (omega arith)
    (rows.first_formless [] (check ∷ []) (codes "check\nlist\nend\n") (codes "list\nend\n") open_ formless (omega arith))

pub list_ends : course_ending of_list ≡ Ending.Script 6
list_ends = refl

-- and the command before it is answered
pub list_answers : AreCourseAnswers of_list [] (codes "check files 0 references 0 faults 0\n")
unfolding digits
list_answers = (codes "check files 0 references 0 faults 0\n", [], record { files = []; are = tt; stands = refl }, refl, refl)

-- LEN ABOVE ITS LIMIT is refused before its bytes are taken
pub long_put : (size : ℕ) → nat_lt FILE_BYTES size ≡ true → size < 10 ^ 10 → (h : IsOversized FILE_BYTES (codes "put a.sysml " ++ decimal size ++ codes "\n"))
    × (length (line_of h.command) ≡ length (codes "put a.sysml " ++ decimal size))
long_put size over digits_ten =
    let text : List ℕ = replicate size 0 in
    let same : length text ≡ size = length-replicate {A = ℕ} size 0 in
    let oversized : IsOversized FILE_BYTES (codes "put a.sysml " ++ decimal size ++ codes "\n") = record {
      command = put (codes "a.sysml") text;
      back = [];
      form = (refl, omega (arith, same, digits_ten));
      passed = ap (λ k. cond (nat_lt FILE_BYTES k) (Some FILE_BYTES) None) same ∙ ap (λ b. cond b (Some FILE_BYTES) None) over;
      stands = ap (λ k. codes "put a.sysml " ++ decimal k ++ codes "\n") (sym same);
    } in (oversized, ap (λ k. length (codes "put a.sysml " ++ decimal k)) same)

abbrev pub of_long_put : Course false [] (codes "put a.sysml 1048577\n")
unfolding digits
of_long_put =
    let over = long_put 1048577 refl (omega arith) in
    let size : length (line_of over.0.command) ≡ 19 = over.1 in
    rows.course_of [] [] (codes "put a.sysml 1048577\n") (codes "put a.sysml 1048577\n") tt false (record { reads = refl; within = omega arith })
    (Stop.LongText FILE_BYTES) (omega arith) (omega arith)
    (rows.first_oversized [] [] (codes "put a.sysml 1048577\n") (codes "put a.sysml 1048577\n") tt FILE_BYTES over.0 (omega (arith, size)))

pub long_put_ends : course_ending of_long_put ≡ Ending.Limit 1048576
unfolding of_long_put
long_put_ends = refl

-- ANOTHER BYTE THAN LF after a put's text is refused at that byte
abbrev pub of_unclosed : Course false [] (codes "put a.sysml 2\nabc\n")
unfolding digits
of_unclosed =
    let unclosed : IsUnclosed 16 (codes "put a.sysml 2\nabc\n") = record {
      name = codes "a.sysml";
      text = codes "ab";
      next = 99;
      back = codes "\n";
      form = (refl, omega arith);
      size = refl;
      other = λ e. omega (arith, e);
      stands = refl;
      place = refl;
    } in
    rows.course_of [] [] (codes "put a.sysml 2\nabc\n") (codes "put a.sysml 2\nabc\n") tt false (record { reads = refl; within = omega arith })
    (Stop.NoLineFeed 16) (omega arith) (omega arith)
    (rows.first_unclosed [] [] (codes "put a.sysml 2\nabc\n") (codes "put a.sysml 2\nabc\n") tt 16 unclosed)

pub unclosed_ends : course_ending of_unclosed ≡ Ending.Script 16
unfolding of_unclosed
unclosed_ends = refl
