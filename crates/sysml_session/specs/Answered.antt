-- What a project did for a command, and what it gave to the output.
use Rattle.std.specs.Prelude.{◌≡◌, ℕ, Bool, false, List, [], Option, Some, None, Result, Ok, Err, ◌⊎◌}
use Rattle.book_model.specs.Answers.{Command as Asked, refusal_of, book_after, IsAnswer}
use Rattle.book_model.specs.Book.{Book}
use Rattle.book_model.specs.Files.{LibraryTexts}
use Rattle.session_streams.specs.Moves.{Move, moved, Gave, GaveFront, IsSound, Fails}
use Rattle.sysml_session.specs.declared.answering.AnswerFault.{AnswerFault}
use Rattle.sysml_session.specs.declared.answering.AnswerFault.TheVariants.{Limit, WriteFault, NoMemory}

-- what a source or a sink tells and its count of faults, before a call and after it
abbrev pub across : {T : Type 0} → (T → Option (List ℕ)) → (T → ℕ) → T → T → Move
across told faults old new = moved
    (record { told = told old; faults = faults old }) (record { told = told new; faults = faults new })

-- what a project holds: its library and its book; and whether want of memory broke it
pub record Holding : Type 0 where
  pub library : LibraryTexts
  pub book : Book
  pub broken : Bool

-- the command isn't refused, and this is its answer
pub record HasAnswer (before : Holding) (c : Asked) : Type 0 where
  pub room : refusal_of before.book c ≡ None
  pub answer : List ℕ
  pub is : IsAnswer before.library before.book c answer

-- the command is done
pub record IsDone (before after : Holding) (c : Asked) : Type 0 where
  pub has : HasAnswer before c
  pub book : after.book ≡ book_after before.book c
  pub library : after.library ≡ before.library
  pub whole : after.broken ≡ false

-- ANSWERED: the command is done and its answer given; or its edit is refused with this number; or the output failed, or
-- memory was wanting, after a front of the answer
abbrev pub IsAnswered : Holding → Holding → Asked → Move → Result (Unit {0}) AnswerFault → Type 0
IsAnswered before after c output (Ok u) = (d : IsDone before after c) × Gave output d.has.answer × IsSound output
IsAnswered before after c output (Err (Limit number)) =
    (refusal_of before.book c ≡ Some number) × (after ≡ before) × Gave output [] × IsSound output
IsAnswered before after c output (Err WriteFault) =
    (d : IsDone before after c) × GaveFront output d.has.answer × Fails output
IsAnswered before after c output (Err NoMemory) =
    (Gave output [] ⊎ ((h : HasAnswer before c) × GaveFront output h.answer)) × IsSound output

-- a piece was given whole, or after a failure a front of it
abbrev pub IsGiven : Move → List ℕ → Result (Unit {0}) AnswerFault → Type 0
IsGiven output piece (Ok u) = Gave output piece × IsSound output
IsGiven output piece (Err WriteFault) = GaveFront output piece × Fails output
IsGiven output piece (Err (Limit number)) = ⊥
IsGiven output piece (Err NoMemory) = ⊥
