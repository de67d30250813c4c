-- The commands of a script and their spellings.
use Rattle.std.specs.Prelude.{◌≡◌, ℕ, ◌^◌, ◌<◌, ◌≤◌, nat_lt, cond, true, List, [], ◌++◌, length, codes, Option, Some, None}
use Rattle.std.specs.Fmt.{decimal}
use Rattle.linker_base.specs.declared.limits.TheConstants.{FILE_BYTES, LINE_BYTES}
use Rattle.linker_base.specs.Members.{IsMember}
use Rattle.element_store.specs.FileNames.{is_file_name}
use Rattle.book_model.specs.Answers.{Command as Asked}
use Rattle.book_model.specs.Answers as asked
use Rattle.book_model.specs.Book.{Book}

-- do what is asked of the book; end the session
pub data Command : Type 0 where
  Do : (c : Asked) → Command
  End : Command

abbrev pub put : List ℕ → List ℕ → Command
put name text = Command.Do (Asked.Put name text)

-- A further command adds a case to the six definitions from here to `done_before`, and its answer to those of the
-- book; no other definition changes. So `make SEED COUNT`, which stands for COUNT puts, would have the limit of COUNT
-- in `limit_passed`, the number of its first refused put in `refusal_of`, and the puts before that one in
-- `done_before`.

-- the line of a command, without its LF
abbrev pub line_of : Command → List ℕ
line_of (Command.Do (Asked.Put name text)) = codes "put " ++ name ++ codes " " ++ decimal (length text)
line_of (Command.Do (Asked.Drop name)) = codes "drop " ++ name
line_of (Command.Do (Asked.Links name)) = codes "links " ++ name
line_of (Command.Do Asked.Check) = codes "check"
line_of (Command.Do (Asked.Find words)) = codes "find " ++ words
line_of (Command.Do Asked.Implied) = codes "implied"
line_of (Command.Do (Asked.Print name)) = codes "print " ++ name
line_of Command.End = codes "end"

-- what follows the LF of the line: the bytes of a put and their LF
abbrev pub body_of : Command → List ℕ
body_of (Command.Do (Asked.Put name text)) = text ++ codes "\n"
body_of (Command.Do (Asked.Drop name)) = []
body_of (Command.Do (Asked.Links name)) = []
body_of (Command.Do Asked.Check) = []
body_of (Command.Do (Asked.Find words)) = []
body_of (Command.Do Asked.Implied) = []
body_of (Command.Do (Asked.Print name)) = []
body_of Command.End = []

-- the command has a form: its name is that of a file of either language, its number has at most 10 digits, its words
-- hold no LF
abbrev pub HasForm : Command → Type 0
HasForm (Command.Do (Asked.Put name text)) = (is_file_name name ≡ true) × (length text < 10 ^ 10)
HasForm (Command.Do (Asked.Drop name)) = is_file_name name ≡ true
HasForm (Command.Do (Asked.Links name)) = is_file_name name ≡ true
HasForm (Command.Do Asked.Check) = Unit {0}
HasForm (Command.Do (Asked.Find words)) = IsMember words 10 → ⊥
HasForm (Command.Do Asked.Implied) = Unit {0}
HasForm (Command.Do (Asked.Print name)) = is_file_name name ≡ true
HasForm Command.End = Unit {0}

-- the limit that the number of a command passes
abbrev pub limit_passed : Command → Option ℕ
limit_passed (Command.Do (Asked.Put name text)) = cond (nat_lt FILE_BYTES (length text)) (Some FILE_BYTES) None
limit_passed (Command.Do (Asked.Drop name)) = None
limit_passed (Command.Do (Asked.Links name)) = None
limit_passed (Command.Do Asked.Check) = None
limit_passed (Command.Do (Asked.Find words)) = None
limit_passed (Command.Do Asked.Implied) = None
limit_passed (Command.Do (Asked.Print name)) = None
limit_passed Command.End = None

-- the number with which the edit of a command is refused over the book
abbrev pub refusal_of : Book → Command → Option ℕ
refusal_of book (Command.Do c) = asked.refusal_of book c
refusal_of book Command.End = None

-- what a refused command did before its refusal: nothing
abbrev pub done_before : Book → Command → List Command
done_before book (Command.Do c) = []
done_before book Command.End = []

-- the book after a command
abbrev pub book_after : Book → Command → Book
book_after book (Command.Do c) = asked.book_after book c
book_after book Command.End = book

-- the spelling of a command
abbrev pub spelling_of : Command → List ℕ
spelling_of c = line_of c ++ codes "\n" ++ body_of c

-- the command is accepted over the book
pub record IsAccepted (book : Book) (c : Command) : Type 0 where
  pub form : HasForm c
  pub short : length (line_of c) ≤ LINE_BYTES
  pub size : limit_passed c ≡ None
  pub room : refusal_of book c ≡ None
