-- What a print answers: its line, and the canonical text behind it.
use Rattle.std.proofs.Common.{◌≡◌, ◌∙◌, ℕ, List, [], ◌++◌, refl, sym, ap, subst, append-nil}
use Rattle.std.specs.Prelude.{codes, false, Option, Some, None, Result, Ok, Err}
use Rattle.book_model.specs.declared.rows.Printed.{Printed}
use Rattle.book_model.specs.declared.rows.Printed.TheVariants as printed
use Rattle.book_model.specs.Answers.{Command as Asked, line, print_answer}
use Rattle.book_model.specs.Queries.{print_query}
use Rattle.session_streams.specs.Moves.{Stream, Move, moved, GaveFront}
use Rattle.session_streams.proofs.Giving.{front_then, gave_none, gave_then}
use Rattle.sysml_session.specs.Answered.{IsAnswered, IsGiven}
use Rattle.sysml_session.specs.declared.answering.AnswerFault.{AnswerFault}
use Rattle.sysml_session.specs.declared.answering.AnswerFault.TheVariants.{Limit, WriteFault, NoMemory}
use Rattle.project_book.specs.Held.{Held}
use Rattle.project_book.specs.Named.{AreOfBook}
use Rattle.project_answers.specs.Holds.{IsTold, holding_of}
use Rattle.project_answers.specs.Lines.{print_rest, text_behind}
use Rattle.project_answers.proofs.AnswerLaws.{answered_as}
use Rattle.project_answers.proofs.PartLaws.{fails_then}

-- a piece was given, and then another
pub both_given : (a b c : Stream) (first second : List ℕ) (r : Result (Unit {0}) AnswerFault) → IsGiven (moved a b) first (Ok tt)
    → IsGiven (moved b c) second r → IsGiven (moved a c) (first ++ second) r
both_given a b c first second (Ok u) g h = (gave_then a b c first second g.0 h.0, h.1 ∙ g.1)
both_given a b c first second (Err WriteFault) g h =
    (subst (GaveFront (moved a c)) (append-nil (first ++ second)) (front_then a b c first second [] g.0 h.0), fails_then a b c g.1 h.1)
both_given a b c first second (Err (Limit number)) g h = h
both_given a b c first second (Err NoMemory) g h = h

-- or the first one failed
pub first_failed : (a b : Stream) (first second : List ℕ) (e : AnswerFault) → IsGiven (moved a b) first (Err e)
    → IsGiven (moved a b) (first ++ second) (Err e)
first_failed a b first second WriteFault h = (front_then a a b [] first second (gave_none a) h.0, h.1)
first_failed a b first second (Limit number) h = h
first_failed a b first second NoMemory h = h

-- the line and the text are the answer
print_whole : (name : List ℕ) (p : Option Printed) → line (codes "print") name (print_rest p) ++ text_behind p ≡ print_answer name p
print_whole name None = append-nil (line (codes "print") name (print_rest None))
print_whole name (Some (printed.Text text)) = refl
print_whole name (Some (printed.Refused fault place)) = append-nil (line (codes "print") name (print_rest (Some (printed.Refused fault place))))

-- what was given was told
given_told : (output : Move) (piece : List ℕ) (r : Result (Unit {0}) AnswerFault) → IsGiven output piece r → IsTold output piece r
given_told output piece (Ok u) g = g
given_told output piece (Err WriteFault) g = g
given_told output piece (Err (Limit number)) g = g
given_told output piece (Err NoMemory) g = absurd g

-- A PRINT IS ANSWERED
pub print_answered : (held : Held) (name said text : List ℕ) (p : Option Printed) (output : Move) (r : Result (Unit {0}) AnswerFault)
    → held.broken ≡ false → AreOfBook held.files → p ≡ print_query held.files name → said ≡ line (codes "print") name (print_rest p)
    → text ≡ text_behind p → IsGiven output (said ++ text) r → IsAnswered (holding_of held) (holding_of held) (Asked.Print name) output r
print_answered held name said text p output r whole are query is rest given =
    answered_as held held (Asked.Print name) (said ++ text) output r refl refl refl whole are
    (ap (λ xs. xs ++ text) is ∙ (ap (λ xs. line (codes "print") name (print_rest p) ++ xs) rest ∙ (print_whole name p ∙ ap (print_answer name) query)))
    (given_told output (said ++ text) r given)
