-- What `run` promises, over the streams before and after it.
use Rattle.std.specs.Prelude.{ℕ, List, []}
use Rattle.book_model.specs.Book.{Book}
use Rattle.book_model.specs.Files.{LibraryTexts}
use Rattle.session_streams.specs.Moves.{Move, Tells}
use Rattle.session_streams.specs.Running.{NoFault, Ran, RanQuietly, Streams, streams}
use Rattle.session_streams.specs.Serving.{Served}
use Rattle.session_course.specs.Stops.{Ending}
use Rattle.session_streams.specs.declared.status.Status.{Status}

-- input, output and errors
abbrev pub io : Move → Move → Move → Streams
io = streams

-- Where the input told its bytes and no count of faults rose: output, errors and status are those of the words and of
-- the course of the input, or memory was wanting.
abbrev pub Quiet : LibraryTexts → List (List ℕ) → Streams → Status → Type 0
Quiet library words io status = (bytes : List ℕ) → Tells io.input bytes → NoFault io
    → RanQuietly library words bytes io status

-- By the status, also after a fault: the session served the input, or the words were refused; and that was said.
abbrev pub HasRan : LibraryTexts → List (List ℕ) → Streams → Status → Type 0
HasRan library words io status = (bytes : List ℕ) → Tells io.input bytes → Ran library words bytes io status

-- a session over no files served the input, where that told its bytes
abbrev pub ServesNew : LibraryTexts → Move → Move → Ending → Type 0
ServesNew library input output ending = (bytes : List ℕ) → Tells input bytes
    → (left : Book) × Served library [] left bytes input output ending
