-- Where what comes next is refused, whatever follows: rows of the table of stops.
use Rattle.std.specs.Prelude.{◌≡◌, ℕ, ◌+◌, List, ◌∷◌, ◌++◌, length, Some, None}
use Rattle.linker_base.specs.declared.limits.TheConstants.{LINE_BYTES}
use Rattle.linker_base.specs.Members.{IsMember}
use Rattle.book_model.specs.Book.{Book}
use Rattle.session_course.specs.Commands.{Command, put, line_of, spelling_of, HasForm, limit_passed, refusal_of, done_before}

-- the next 2,049 bytes hold no LF
pub record IsEndless (bytes : List ℕ) : Type 0 where
  pub front : List ℕ
  pub back : List ℕ
  pub size : length front ≡ LINE_BYTES + 1
  pub free : IsMember front 10 → ⊥
  pub stands : bytes ≡ front ++ back

-- the next line, with its LF, has no form
pub record IsFormless (bytes : List ℕ) : Type 0 where
  pub line : List ℕ
  pub back : List ℕ
  pub free : IsMember line 10 → ⊥
  pub none : (c : Command) → HasForm c → line_of c ≡ line → ⊥
  pub stands : bytes ≡ line ++ 10 ∷ back

-- the next line, with its LF, is that of a command whose number passes this limit
pub record IsOversized (limit : ℕ) (bytes : List ℕ) : Type 0 where
  pub command : Command
  pub back : List ℕ
  pub form : HasForm command
  pub passed : limit_passed command ≡ Some limit
  pub stands : bytes ≡ line_of command ++ 10 ∷ back

-- the next line is a put's, its bytes stand, and the byte after them, so many bytes from the line's first one, isn't LF
pub record IsUnclosed (at : ℕ) (bytes : List ℕ) : Type 0 where
  pub name : List ℕ
  pub text : List ℕ
  pub next : ℕ
  pub back : List ℕ
  pub form : HasForm (put name text)
  pub size : limit_passed (put name text) ≡ None
  pub other : next ≡ 10 → ⊥
  pub stands : bytes ≡ line_of (put name text) ++ 10 ∷ (text ++ next ∷ back)
  pub place : at ≡ length (line_of (put name text) ++ 10 ∷ text)

-- the next command's edit is refused over the book with this number, after what it did before
pub record IsRefused (book : Book) (number : ℕ) (earlier : List Command) (bytes : List ℕ) : Type 0 where
  pub command : Command
  pub back : List ℕ
  pub form : HasForm command
  pub size : limit_passed command ≡ None
  pub refused : refusal_of book command ≡ Some number
  pub before : earlier ≡ done_before book command
  pub stands : bytes ≡ spelling_of command ++ back

-- at the front stands no whole command, and nothing that is refused whatever follows
pub record IsUnfinished (bytes : List ℕ) : Type 0 where
  pub partial : (c : Command) (rest : List ℕ) → HasForm c → limit_passed c ≡ None
      → bytes ≡ spelling_of c ++ rest → ⊥
  pub short : IsEndless bytes → ⊥
  pub formed : IsFormless bytes → ⊥
  pub sized : (limit : ℕ) → IsOversized limit bytes → ⊥
  pub closed : (at : ℕ) → IsUnclosed at bytes → ⊥
