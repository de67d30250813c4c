-- What a finding answers is what a session asks.
use Rattle.std.proofs.Common.{◌≡◌, ◌∙◌, ℕ, Bool, false, List, [], ◌++◌, refl, sym, ap, subst}
use Rattle.std.specs.Prelude.{codes, Option, Some, Result, Ok, Err}
use Rattle.element_store.specs.declared.outcome.Language.TheVariants.{Sysml}
use Rattle.element_store.specs.declared.outcome.Outcome.{Outcome}
use Rattle.element_store.specs.Stored.{AreFiles}
use Rattle.book_model.specs.declared.asked_name.AskedName.{AskedName}
use Rattle.book_model.specs.AskedNames.{AskFor}
use Rattle.book_model.specs.Answers.{Command as Asked, find_answer}
use Rattle.book_model.specs.Files.{ProjectFile, stored}
use Rattle.book_model.specs.Live.{NamesLive}
use Rattle.book_model.specs.Outcomes.{found_of}
use Rattle.book_model.specs.Printed.{outcome_text}
use Rattle.book_model.specs.Spelling.{written_name}
use Rattle.book_model.proofs.FoundLaws.{found_live}
use Rattle.session_streams.specs.Moves.{Move}
use Rattle.sysml_session.specs.Answered.{IsAnswered, IsGiven}
use Rattle.sysml_session.specs.declared.answering.AnswerFault.{AnswerFault}
use Rattle.sysml_session.specs.declared.answering.AnswerFault.TheVariants.{Limit, WriteFault, NoMemory}
use Rattle.project_book.specs.Held.{Held}
use Rattle.project_book.specs.Named.{AreOfBook}
use Rattle.project_answers.specs.Holds.{holding_of, IsTold}
use Rattle.project_answers.proofs.AnswerLaws.{answered_as}

-- a piece that was given was told
given_told : (output : Move) (piece : List ℕ) (r : Result (Unit {0}) AnswerFault) → IsGiven output piece r → IsTold output piece r
given_told output piece (Ok u) g = g
given_told output piece (Err WriteFault) g = g
given_told output piece (Err (Limit number)) g = absurd g
given_told output piece (Err NoMemory) g = absurd g

-- a finding is answered
pub find_answered : (held : Held) (words : List ℕ) (name : Option AskedName) (answer : List ℕ) (output : Move) (r : Result (Unit {0}) AnswerFault)
    → held.broken ≡ false → AreOfBook held.files → AskFor words name → answer ≡ find_answer held.files name
    → IsGiven output answer r → IsAnswered (holding_of held) (holding_of held) (Asked.Find words) output r
find_answered held words name answer output r whole are asked is given =
    answered_as held held (Asked.Find words) answer output r refl refl refl whole are (name, asked, is)
    (given_told output answer r given)

-- what is found stands
pub names_found : (files : List ProjectFile) (path : List (List ℕ)) (o : Outcome) → AreFiles (stored files) → o ≡ found_of (stored files) path
    → NamesLive files o
names_found files path o are is = subst (NamesLive files) (sym is) (found_live files path are)

-- the line in its parts
pub find_parts : (files : List ProjectFile) (absolute : Bool) (path : List (List ℕ)) (o : Outcome) (line : List ℕ) → o ≡ found_of (stored files) path
    → line ≡ codes "find " ++ written_name Sysml absolute path [] ++ codes " -> " ++ outcome_text files o ++ codes "\n"
    → line ≡ find_answer files (Some (record { absolute = absolute; path = path }))
find_parts files absolute path o line is whole =
    whole ∙ ap (λ x. codes "find " ++ written_name Sysml absolute path [] ++ codes " -> " ++ outcome_text files x ++ codes "\n") is
