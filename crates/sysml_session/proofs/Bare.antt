-- A project without library and files, as the tests make one: its answers.
use Rattle.std.proofs.Common.{◌≡◌, ℕ, List, [], refl, subst, sym, inl}
use Rattle.std.specs.Fmt.{digits}
use Rattle.std.specs.Prelude.{codes, false, None, Result, Ok, Err}
use Rattle.book_model.specs.Answers.{Command as Asked, Answers, refusal_of, book_after, IsAnswer}
use Rattle.book_model.specs.Book.{Book}
use Rattle.book_model.specs.Files.{AreFilesOf}
use Rattle.session_streams.specs.Moves.{Stream, Move, moved}
use Rattle.session_streams.proofs.Giving.{gave_none}
use Rattle.sysml_session.specs.Answered.{Holding, IsAnswered, IsGiven}
use Rattle.sysml_session.specs.declared.answering.AnswerFault.{AnswerFault}
use Rattle.sysml_session.specs.declared.answering.AnswerFault.TheVariants.{Limit, WriteFault, NoMemory}

-- what it holds
abbrev pub bare : Holding
bare = record { library = []; book = []; broken = false }

-- a command that changes nothing was answered
pub answered_bare : (c : Asked) (answer : List ℕ) (output : Move) (r : Result (Unit {0}) AnswerFault) → refusal_of [] c ≡ None → book_after [] c ≡ []
    → Answers [] [] c answer → IsGiven output answer r → IsAnswered bare bare c output r
answered_bare c answer output r room same is given = by r given
  where
    is_answer : IsAnswer [] [] c answer
    is_answer = record { files = []; are = subst (λ (b : Book). AreFilesOf b [] []) (sym same) tt; stands = is }

    by : (r : Result (Unit {0}) AnswerFault) → IsGiven output answer r → IsAnswered bare bare c output r
    by (Ok u) g = (record { has = record { room = room; answer = answer; is = is_answer }; book = sym same; library = refl; whole = refl }, g.0, g.1)
    by (Err WriteFault) g =
        (record { has = record { room = room; answer = answer; is = is_answer }; book = sym same; library = refl; whole = refl }, g.0, g.1)
    by (Err (Limit number)) g = absurd g
    by (Err NoMemory) g = absurd g

-- want of memory before anything was given
pub wanted_bare : (c : Asked) (a : Stream) → IsAnswered bare bare c (moved a a) (Err NoMemory)
wanted_bare c a = (inl (gave_none a), refl)

-- the counts of no files
pub counts_of_none : Answers [] [] Asked.Check (codes "check files 0 references 0 faults 0\n")
unfolding digits
counts_of_none = refl

-- nothing is implied without files
pub implied_of_none : Answers [] [] Asked.Implied (codes "implied 0\n")
unfolding digits
implied_of_none = refl
