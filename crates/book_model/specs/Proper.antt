-- The books that edits make, and the libraries over which a project opens.
use Rattle.std.specs.Prelude.{◌≡◌, ℕ, ◌≤◌, true, false, List, map, length, Option, IfSome}
use Rattle.std.specs.Map.{keys_of}
use Rattle.linker_base.specs.Members.{IsMember, IsEachOnce}
use Rattle.linker_base.specs.declared.limits.TheConstants.{BOOK_BYTES, FILE_BYTES, NAMES}
use Rattle.element_store.specs.FileNames.{is_file_name}
use Rattle.book_model.specs.Book.{Book, bytes_in}
use Rattle.book_model.specs.Files.{LibraryTexts}

-- the book is within its limits
pub record IsWithin (book : Book) : Type 0 where
  pub names : length book ≤ NAMES
  pub bytes : bytes_in book ≤ BOOK_BYTES

-- and its names stand once, each the name of a file, with texts within the limit of a file
pub record IsProperBook (book : Book) : Type 0 where
  pub within : IsWithin book
  pub once : IsEachOnce (keys_of book)
  pub named : (e : List ℕ × Option (List ℕ)) → IsMember book e → is_file_name e.0 ≡ true
  pub short : (e : List ℕ × Option (List ℕ)) → IsMember book e → IfSome e.1 (λ text. length text ≤ FILE_BYTES)

-- at most 64 files, within the limit of a file, whose names stand once and are names that no file of a project can have
pub record IsProperLibrary (library : LibraryTexts) : Type 0 where
  pub few : length library ≤ 64
  pub once : IsEachOnce (map (λ e. e.0) library)
  pub apart : (e : List ℕ × List ℕ) → IsMember library e → is_file_name e.0 ≡ false
  pub short : (e : List ℕ × List ℕ) → IsMember library e → length e.1 ≤ FILE_BYTES
