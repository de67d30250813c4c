-- What `run` did.
use Rattle.std.specs.Prelude.{◌≡◌, ℕ, Bool, true, false, List, [], ◌∷◌, ◌++◌, codes, bytes_eq, ◌⊎◌}
use Rattle.std.specs.Fmt.{decimal}
use Rattle.book_model.specs.Book.{Book}
use Rattle.book_model.specs.Files.{LibraryTexts}
use Rattle.session_course.specs.Stops.{Course, course_ending, AreCourseAnswers, Ending}
use Rattle.session_streams.specs.Moves.{Move, Gave, GaveFront, IsSound, Fails, IsLater}
use Rattle.session_streams.specs.Serving.{Served}
use Rattle.session_streams.specs.declared.status.Status.{Status}
use Rattle.session_streams.specs.declared.status.Status.TheVariants.{Done, Usage, ReadFault, WriteFault, NoMemory, Script, Limit}

-- the words are two, and the second is `session`
abbrev pub is_session : List (List ℕ) → Bool
is_session [] = false
is_session (program ∷ []) = false
is_session (program ∷ mode ∷ []) = bytes_eq mode (codes "session")
is_session (program ∷ mode ∷ word ∷ words) = false

-- the line on the errors where words are refused
abbrev pub usage_line : List ℕ
usage_line = codes "usage: sysml session | check FILE.. | links FILE.. | print FILE..\n"

-- the line on the errors after a session
abbrev pub line_of : Ending → List ℕ
line_of Ending.Done = []
line_of (Ending.Script at) = codes "script fault at " ++ decimal at ++ codes "\n"
line_of (Ending.Limit number) = codes "limit " ++ decimal number ++ codes "\n"
line_of Ending.ReadFault = codes "read fault\n"
line_of Ending.WriteFault = []
line_of Ending.NoMemory = codes "no memory\n"

-- the status after a session
abbrev pub status_of : Ending → Status
status_of Ending.Done = Done
status_of (Ending.Script at) = Script
status_of (Ending.Limit number) = Limit
status_of Ending.ReadFault = ReadFault
status_of Ending.WriteFault = WriteFault
status_of Ending.NoMemory = NoMemory

-- the three streams of a run
pub record Streams : Type 0 where
  pub input : Move
  pub output : Move
  pub errors : Move

abbrev pub streams : Move → Move → Move → Streams
streams input output errors = record { input = input; output = output; errors = errors }

-- what is written on the output, what on the errors, and the status
pub record Outcome : Type 0 where
  pub output : List ℕ
  pub errors : List ℕ
  pub status : Status

-- that of a session: the answers of the course of the input over no files, and its ending
pub record IsOfSession (library : LibraryTexts) (bytes : List ℕ) (o : Outcome) : Type 0 where
  pub course : Course true [] bytes
  pub output : AreCourseAnswers course library o.output
  pub errors : o.errors ≡ line_of (course_ending course)
  pub status : o.status ≡ status_of (course_ending course)

-- what the program does for these words and bytes, where nothing fails
abbrev pub IsOutcome : LibraryTexts → List (List ℕ) → List ℕ → Outcome → Type 0
IsOutcome library words bytes o =
    ((is_session words ≡ true) × IsOfSession library bytes o)
    ⊎ ((is_session words ≡ false) × (o ≡ record { output = []; errors = usage_line; status = Usage }))

-- no count of faults rose, nor stands at its last value
pub record NoFault (io : Streams) : Type 0 where
  pub input : Fails io.input → ⊥
  pub output : Fails io.output → ⊥
  pub errors : Fails io.errors → ⊥

-- output, errors and status are those of the words and the bytes, or memory was wanting
abbrev pub RanQuietly : LibraryTexts → List (List ℕ) → List ℕ → Streams → Status → Type 0
RanQuietly library words bytes io status = (status ≡ NoMemory)
    ⊎ ((o : Outcome) × IsOutcome library words bytes o × (status ≡ o.status) × Gave io.output o.output
    × Gave io.errors o.errors)

-- a line was given, and the status is the wanted one; or there was a line, the errors failed, and a front of it was
-- given
abbrev pub Said : Move → List ℕ → Status → Status → Type 0
Said errors line wanted status =
    ((status ≡ wanted) × IsSound errors × Gave errors line)
    ⊎ ((status ≡ WriteFault) × Fails errors × (line ≡ [] → ⊥) × GaveFront errors line)

-- a session over no files served the input, and its ending was said; or the words are refused, nothing was touched, and
-- that was said
abbrev pub Ran : LibraryTexts → List (List ℕ) → List ℕ → Streams → Status → Type 0
Ran library words bytes io status =
    ((is_session words ≡ true) × (left : Book) × (e : Ending) × Served library [] left bytes io.input io.output e
    × Said io.errors (line_of e) (status_of e) status)
    ⊎ ((is_session words ≡ false) × (io.input.after ≡ io.input.before) × (io.output.after ≡ io.output.before)
    × Said io.errors usage_line Usage status)

-- no stream failed
pub record NoneFailed (io : Streams) : Type 0 where
  pub input : IsSound io.input
  pub output : IsSound io.output
  pub errors : IsSound io.errors

-- the input failed alone
pub record InputFailed (io : Streams) : Type 0 where
  pub input : Fails io.input
  pub output : IsSound io.output
  pub errors : IsSound io.errors

-- one of the sinks failed: the output, and nothing else; or the errors, where the input may have failed before
abbrev pub SinkFailed : Streams → Type 0
SinkFailed io = (IsSound io.input × Fails io.output × IsSound io.errors)
    ⊎ (IsLater io.input × IsSound io.output × Fails io.errors)

-- the cause of a status
abbrev pub HasCause : Streams → Status → Type 0
HasCause io Done = NoneFailed io
HasCause io Usage = NoneFailed io
HasCause io ReadFault = InputFailed io
HasCause io WriteFault = SinkFailed io
HasCause io NoMemory = NoneFailed io
HasCause io Script = NoneFailed io
HasCause io Limit = NoneFailed io
