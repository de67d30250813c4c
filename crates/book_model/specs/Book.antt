-- The book of files: distinct names in order of first arrival, each with a text or gone; and what edits do to it.
use Rattle.std.specs.Prelude.{ℕ, ◌+◌, cond, nat_eq, nat_lt, List, [], ◌∷◌, length, Option, Some, None}
use Rattle.std.specs.Option.{option_map_or}
use Rattle.std.specs.Map.{lookup}
use Rattle.std.specs.Cmp.Lexicographic.{pointwise}
use Rattle.indexmap.specs.IndexMap.{insert_entry}
use Rattle.linker_base.specs.declared.limits.TheConstants.{BOOK_BYTES, FILE_BYTES, NAMES}
use Rattle.book_model.specs.declared.edit.Edit.{Edit}
use Rattle.book_model.specs.declared.edit.Edit.TheVariants.{Put, Drop}

-- names with their texts
abbrev pub Book : Type 0
Book = List (List ℕ × Option (List ℕ))

-- the text under the name, if there is one
abbrev pub text_in : Book → List ℕ → Option (List ℕ)
text_in book name = option_map_or (λ text. text) (lookup (pointwise nat_eq name) book) None

-- the book with this under the name; a name that is there keeps its place, and a new one goes last
abbrev pub with_entry : Book → List ℕ → Option (List ℕ) → Book
with_entry book name text = insert_entry (pointwise nat_eq) book name text

-- the book with this text under the name
abbrev pub put_in : Book → List ℕ → List ℕ → Book
put_in book name text = with_entry book name (Some text)

-- the bytes of all present texts
abbrev pub bytes_in : Book → ℕ
bytes_in [] = 0
bytes_in (e ∷ es) = option_map_or length e.1 0 + bytes_in es

-- what an edit does: a new book, or nothing since no text is there, or a refusal with the number that it would pass
pub data Edited : Type 0 where
  Changed : (book : Book) → Edited
  NotThere : Edited
  Limit : (number : ℕ) → Edited

-- a drop leaves the name, gone, and does nothing where no text stands under it
abbrev pub dropped : Book → List ℕ → Option (List ℕ) → Edited
dropped book name None = Edited.NotThere
dropped book name (Some text) = Edited.Changed (with_entry book name None)

-- EDITED. A put is refused, in this order, where its text passes 1,048,576 bytes, where its name would be the 1,025th,
-- and where the present texts after it would pass 33,554,432 bytes.
abbrev pub edited : Book → Edit → Edited
edited book (Put name text) =
    cond (nat_lt FILE_BYTES (length text)) (Edited.Limit FILE_BYTES)
    (cond (nat_lt NAMES (length (put_in book name text))) (Edited.Limit NAMES)
    (cond (nat_lt BOOK_BYTES (bytes_in (put_in book name text))) (Edited.Limit BOOK_BYTES)
    (Edited.Changed (put_in book name text))))
edited book (Drop name) = dropped book name (text_in book name)

-- the book that is left: the old one unless it was changed
abbrev pub left_by : Book → Edited → Book
left_by book (Edited.Changed changed) = changed
left_by book other = book

-- the number with which an edit is refused
abbrev pub number_of : Edited → Option ℕ
number_of (Edited.Limit number) = Some number
number_of other = None
