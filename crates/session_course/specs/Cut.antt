-- The cut of an input into commands, and the stop at its end.
use Rattle.std.specs.Prelude.{◌≡◌, ℕ, ◌+◌, ◌≤◌, Bool, true, List, [], ◌∷◌, ◌++◌, length, codes, ◌⊎◌}
use Rattle.linker_base.specs.declared.limits.TheConstants.{INPUT_BYTES}
use Rattle.book_model.specs.Book.{Book}
use Rattle.session_course.specs.Commands.{Command, spelling_of, book_after, IsAccepted}

-- The command's spelling stands at the front of the bytes, and the rest follows. The LF of `end` may be missing where
-- the bytes end and `ended` says that nothing will follow.
abbrev pub Begins : Bool → Command → List ℕ → List ℕ → Type 0
Begins ended c bytes rest = (bytes ≡ spelling_of c ++ rest)
    ⊎ ((ended ≡ true) × (c ≡ Command.End) × (bytes ≡ codes "end") × (rest ≡ []))

-- The commands' spellings stand one after the other at the front of the bytes, each command accepted over the book that
-- those before it leave, only the last one maybe `end`, and the rest follows.
abbrev pub Reads : Bool → Book → List Command → List ℕ → List ℕ → Type 0
Reads ended book [] bytes rest = bytes ≡ rest
Reads ended book (c ∷ cs) bytes rest =
    (more : List ℕ) × Begins ended c bytes more × IsAccepted book c × (c ≡ Command.End → cs ≡ [])
    × Reads ended (book_after book c) cs more rest

-- the commands read, over a book at the beginning, lie within the first 4,294,967,296 bytes
pub record IsReading (ended : Bool) (from : Book) (commands : List Command) (bytes rest : List ℕ) : Type 0 where
  pub reads : Reads ended from commands bytes rest
  pub within : length bytes ≤ length rest + INPUT_BYTES

-- the longest list of commands that can be read so
pub record IsCut (ended : Bool) (from : Book) (commands : List Command) (bytes rest : List ℕ) : Type 0 where
  pub reading : IsReading ended from commands bytes rest
  pub longest : (others : List Command) (left : List ℕ) → IsReading ended from others bytes left
      → length others ≤ length commands

-- the last command is `end`
abbrev pub EndsWithEnd : List Command → Type 0
EndsWithEnd [] = ⊥
EndsWithEnd (c ∷ []) = c ≡ Command.End
EndsWithEnd (c ∷ d ∷ cs) = EndsWithEnd (d ∷ cs)

-- the spellings of commands, one after the other
abbrev pub spellings_of : List Command → List ℕ
spellings_of [] = []
spellings_of (c ∷ cs) = spelling_of c ++ spellings_of cs

-- the book that commands leave
abbrev pub book_left : Book → List Command → Book
book_left book [] = book
book_left book (c ∷ cs) = book_left (book_after book c) cs

-- none of the commands is `end`
abbrev pub AreOpen : List Command → Type 0
AreOpen [] = Unit {0}
AreOpen (c ∷ cs) = (c ≡ Command.End → ⊥) × AreOpen cs
