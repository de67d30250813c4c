-- A session on its way: a turn of it, and how it ends.
use Rattle.std.specs.Prelude.{◌≡◌, ℕ, ◌+◌, ◌<◌, ◌≤◌, false, List, [], ◌++◌, length, codes, Option, Some, None, Result, Ok, Err, ◌⊎◌}
use Rattle.linker_base.specs.declared.limits.TheConstants.{FILE_BYTES, INPUT_BYTES, LINE_BYTES}
use Rattle.session_course.specs.Answers.{IsAnswer}
use Rattle.session_course.specs.Commands.{Command as Meant, refusal_of, book_after}
use Rattle.session_course.specs.Stops.{Ending}
use Rattle.session_streams.specs.Moves.{Move, moved, Tells, Gave, GaveFront, IsSound, Fails}
use Rattle.session_streams.specs.Serving.{Served, ServedFor}
use Rattle.session_streams.proofs.ServeLemmas.{Progress}
use Rattle.script_commands.specs.Reading.{Window}
use Rattle.script_commands.specs.declared.command.ReadStop.{ReadStop}
use Rattle.script_commands.specs.declared.command.ReadStop.TheVariants as stop
use Rattle.sysml_session.specs.Answered.{Holding}
use Rattle.sysml_session.specs.declared.answering.AnswerFault.{AnswerFault}
use Rattle.sysml_session.specs.declared.answering.AnswerFault.TheVariants as answer
use Rattle.sysml_session.specs.declared.fault.ServeFault.{ServeFault}
use Rattle.sysml_session.specs.declared.fault.ServeFault.TheVariants.{ReadFault, WriteFault, Script, Limit, NoMemory}
use Rattle.sysml_session.specs.declared.serving.Flow.{Flow}
use Rattle.sysml_session.specs.declared.serving.Flow.TheVariants.{GoesOn, Ended}

-- how a session ended
abbrev pub fault_ending : ServeFault → Ending
fault_ending ReadFault = Ending.ReadFault
fault_ending WriteFault = Ending.WriteFault
fault_ending (Script at) = Ending.Script at
fault_ending (Limit number) = Ending.Limit number
fault_ending NoMemory = Ending.NoMemory

abbrev pub ending_of : {T : Type 0} → Result T ServeFault → Ending
ending_of (Ok t) = Ending.Done
ending_of (Err fault) = fault_ending fault

-- the fault of a session whose reading stopped, by where the reader stands
abbrev pub fault_after : Window → ReadStop → ServeFault
fault_after w stop.LongLine = Limit LINE_BYTES
fault_after w stop.NoForm = Script w.used
fault_after w stop.LongText = Limit FILE_BYTES
fault_after w stop.NoLineFeed = Script w.used
fault_after w stop.LongInput = Limit INPUT_BYTES
fault_after w stop.CutShort = Script (w.used + length w.pending)
fault_after w stop.ReadFault = ReadFault
fault_after w stop.NoMemory = NoMemory

-- the command isn't refused, and this is its answer
pub record HasAnswer (before : Holding) (c : Meant) : Type 0 where
  pub room : refusal_of before.book c ≡ None
  pub answer : List ℕ
  pub is : IsAnswer before.library before.book c answer

-- the command is done
pub record IsDone (before after : Holding) (c : Meant) : Type 0 where
  pub has : HasAnswer before c
  pub book : after.book ≡ book_after before.book c
  pub library : after.library ≡ before.library
  pub whole : after.broken ≡ false

-- the session ended by this command exactly where it is `end`
abbrev pub IsTurnBy : Meant → Flow → Type 0
IsTurnBy c GoesOn = c ≡ Meant.End → ⊥
IsTurnBy c Ended = c ≡ Meant.End

-- a command of a session was done and answered, or refused, or a front of its answer was given
abbrev pub IsAnswered : Holding → Holding → Meant → Move → Result Flow ServeFault → Type 0
IsAnswered before after c output (Ok turn) =
    (d : IsDone before after c) × Gave output d.has.answer × IsSound output × IsTurnBy c turn
IsAnswered before after c output (Err (Limit number)) =
    (refusal_of before.book c ≡ Some number) × (after ≡ before) × Gave output [] × IsSound output
IsAnswered before after c output (Err WriteFault) =
    (d : IsDone before after c) × GaveFront output d.has.answer × Fails output
IsAnswered before after c output (Err NoMemory) =
    (Gave output [] ⊎ ((h : HasAnswer before c) × GaveFront output h.answer)) × IsSound output
IsAnswered before after c output (Err (Script at)) = ⊥
IsAnswered before after c output (Err ReadFault) = ⊥

-- a session: what the project holds, where the reader stands, what the input has left and what the output was given
pub record Sight : Type 0 where
  pub held : Holding
  pub reader : Window
  pub left : Option (List ℕ)
  pub given : Option (List ℕ)

abbrev pub sight : Holding → Window → Option (List ℕ) → Option (List ℕ) → Sight
sight held reader left given = record { held = held; reader = reader; left = left; given = given }

-- what a stream told and what it tells now, its faults aside
abbrev pub telling : Option (List ℕ) → Option (List ℕ) → Move
telling before now = moved (record { told = before; faults = 0 }) (record { told = now; faults = 0 })

-- the answer of `end` was given, or a front of it
abbrev pub IsWritten : Move → Result Flow ServeFault → Type 0
IsWritten output (Ok Ended) = Gave output (codes "end\n") × IsSound output
IsWritten output (Ok GoesOn) = ⊥
IsWritten output (Err WriteFault) = GaveFront output (codes "end\n") × Fails output
IsWritten output (Err ReadFault) = ⊥
IsWritten output (Err (Script at)) = ⊥
IsWritten output (Err (Limit number)) = ⊥
IsWritten output (Err NoMemory) = ⊥

-- the fault of a session whose command has no whole answer
abbrev pub fault_from : AnswerFault → ServeFault
fault_from (answer.Limit number) = Limit number
fault_from answer.WriteFault = WriteFault
fault_from answer.NoMemory = NoMemory

-- how a session goes on after a command that isn't `end`
abbrev pub flow_after : Result (Unit {0}) AnswerFault → Result Flow ServeFault
flow_after (Ok u) = Ok GoesOn
flow_after (Err fault) = Err (fault_from fault)

-- A session on its way, since its start: some commands of the input are read and answered, what was taken are their
-- spellings and what is pending, and the rest is left.
pub record OnWay (start now : Sight) (bytes : List ℕ) : Type 0 where
  pub library : now.held.library ≡ start.held.library
  pub progress : Progress start.held.library start.held.book now.held.book now.reader.pending
      (telling start.given now.given)
  pub place : now.reader.used + length now.reader.pending ≡ length progress.taken
  pub rest : List ℕ
  pub left : now.left ≡ Some rest
  pub stands : bytes ≡ progress.taken ++ rest

-- a session that ended, since its start
abbrev pub HasEnded : Sight → Sight → List ℕ → Ending → Type 0
HasEnded start now bytes ending = Served start.held.library start.held.book now.held.book bytes
    (telling start.left now.left) (telling start.given now.given) ending

-- after a turn a session is on its way, or it ended
abbrev pub IsTurn : Sight → Sight → List ℕ → Result Flow ServeFault → Type 0
IsTurn start now bytes (Ok GoesOn) = OnWay start now bytes
IsTurn start now bytes (Ok Ended) = HasEnded start now bytes Ending.Done
IsTurn start now bytes (Err fault) = HasEnded start now bytes (fault_ending fault)

-- a turn brings a session that is on its way so far
abbrev pub IsTurnFrom : Sight → Sight → Result Flow ServeFault → Type 0
IsTurnFrom before after result = (start : Sight) (bytes : List ℕ) → OnWay start before bytes
    → IsTurn start after bytes result

-- a turn that goes on used up some bytes within the limit of an input, and leaves the project whole
abbrev pub IsForward : Window → Window → Holding → Result Flow ServeFault → Type 0
IsForward before after held (Ok GoesOn) =
    (before.used < after.used) × (after.used ≤ INPUT_BYTES) × (held.broken ≡ false)
IsForward before after held (Ok Ended) = Unit {0}
IsForward before after held (Err fault) = Unit {0}

-- the causes of a turn's end; none failed where it goes on
abbrev pub HasCauses : Move → Move → Result Flow ServeFault → Type 0
HasCauses input output (Ok turn) = IsSound input × IsSound output
HasCauses input output (Err fault) = ServedFor input output (fault_ending fault)

-- SERVED: where the input told its bytes, the session did what its ending says, over the book at the beginning
abbrev pub HasServed : {T : Type 0} → Holding → Holding → Move → Move → Result T ServeFault → Type 0
HasServed before after input output result = (bytes : List ℕ) → Tells input bytes
    → Served before.library before.book after.book bytes input output (ending_of result)
