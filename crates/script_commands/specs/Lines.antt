-- The line of a command, and the command that is meant.
use Rattle.std.specs.Prelude.{◌≡◌, ℕ, ◌+◌, ◌^◌, ◌<◌, ◌≤◌, true, false, List, ◌∷◌, ◌++◌, length, take, drop, codes, Option, Some, None, Result, Ok, Err}
use Rattle.std.specs.Fmt.{decimal}
use Rattle.linker_base.specs.declared.limits.TheConstants.{FILE_BYTES}
use Rattle.linker_base.specs.Members.{IsMember}
use Rattle.element_store.specs.FileNames.{is_file_name}
use Rattle.book_model.specs.Answers.{Command as Asked}
use Rattle.session_course.specs.Commands.{Command as Meant, line_of, HasForm, limit_passed}
use Rattle.script_commands.specs.declared.command.Command.{Command}
use Rattle.script_commands.specs.declared.command.Command.TheVariants.{Put, Drop, Links, Check, Find, Implied, Print, End}
use Rattle.script_commands.specs.declared.command.ReadStop.{ReadStop}
use Rattle.script_commands.specs.declared.command.ReadStop.TheVariants.{LongLine, NoForm, LongText, NoLineFeed, LongInput, CutShort, ReadFault, NoMemory}
use Rattle.script_commands.specs.declared.line.Heading.{Heading}
use Rattle.script_commands.specs.declared.line.Heading.TheVariants as heading

-- the command that is meant
abbrev pub command_of : Command → Meant
command_of (Put name text) = Meant.Do (Asked.Put name text)
command_of (Drop name) = Meant.Do (Asked.Drop name)
command_of (Links name) = Meant.Do (Asked.Links name)
command_of Check = Meant.Do Asked.Check
command_of (Find words) = Meant.Do (Asked.Find words)
command_of Implied = Meant.Do Asked.Implied
command_of (Print name) = Meant.Do (Asked.Print name)
command_of End = Meant.End

-- the first place of a byte, or that the byte is nowhere
abbrev pub IsPlaceOf : ℕ → List ℕ → Option ℕ → Type 0
IsPlaceOf byte bytes None = IsMember bytes byte → ⊥
IsPlaceOf byte bytes (Some i) = (i < length bytes) × (bytes ≡ take i bytes ++ byte ∷ drop (i + 1) bytes)
    × (IsMember (take i bytes) byte → ⊥)

-- the number of at most ten digits that these digits say, or that they say none
abbrev pub IsNumber : List ℕ → Option ℕ → Type 0
IsNumber digits None = (n : ℕ) → n < 10 ^ 10 → digits ≡ decimal n → ⊥
IsNumber digits (Some n) = (n < 10 ^ 10) × (digits ≡ decimal n)

-- the name of a file that the bytes are, or that they are none
abbrev pub IsNamed : List ℕ → Result (List ℕ) ReadStop → Type 0
IsNamed bytes (Ok name) = (name ≡ bytes) × (is_file_name bytes ≡ true)
IsNamed bytes (Err NoForm) = is_file_name bytes ≡ false
IsNamed bytes (Err NoMemory) = Unit {0}
IsNamed bytes (Err LongLine) = ⊥
IsNamed bytes (Err LongText) = ⊥
IsNamed bytes (Err NoLineFeed) = ⊥
IsNamed bytes (Err LongInput) = ⊥
IsNamed bytes (Err CutShort) = ⊥
IsNamed bytes (Err ReadFault) = ⊥

-- the line is that of a command that has a form, whose number passes this limit
pub record PassesLimit (limit : ℕ) (line : List ℕ) : Type 0 where
  pub command : Meant
  pub form : HasForm command
  pub passed : limit_passed command ≡ Some limit
  pub stands : line_of command ≡ line

-- what a line says; or that it passes a limit, or is the line of no command; or memory was wanting
abbrev pub IsHeading : List ℕ → Result Heading ReadStop → Type 0
IsHeading line (Ok (heading.Put name count)) = (is_file_name name ≡ true) × (count ≤ FILE_BYTES)
    × (line ≡ codes "put " ++ name ++ codes " " ++ decimal count)
IsHeading line (Ok (heading.Drop name)) = (is_file_name name ≡ true) × (line ≡ codes "drop " ++ name)
IsHeading line (Ok (heading.Links name)) = (is_file_name name ≡ true) × (line ≡ codes "links " ++ name)
IsHeading line (Ok heading.Check) = line ≡ codes "check"
IsHeading line (Ok (heading.Find words)) = line ≡ codes "find " ++ words
IsHeading line (Ok heading.Implied) = line ≡ codes "implied"
IsHeading line (Ok (heading.Print name)) = (is_file_name name ≡ true) × (line ≡ codes "print " ++ name)
IsHeading line (Ok heading.End) = line ≡ codes "end"
IsHeading line (Err NoForm) = (c : Meant) → HasForm c → line_of c ≡ line → ⊥
IsHeading line (Err LongText) = PassesLimit FILE_BYTES line
IsHeading line (Err NoMemory) = Unit {0}
IsHeading line (Err LongLine) = ⊥
IsHeading line (Err NoLineFeed) = ⊥
IsHeading line (Err LongInput) = ⊥
IsHeading line (Err CutShort) = ⊥
IsHeading line (Err ReadFault) = ⊥
