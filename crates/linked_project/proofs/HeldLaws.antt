-- What a linked project holds where an edit finds nothing.
use Rattle.std.proofs.Common.{◌≡◌, ◌∙◌, ℕ, List, sym, ap}
use Rattle.std.specs.Prelude.{false, Option, Some, None, is_some}
use Rattle.element_store.specs.declared.numbers.FileNo.{FileNo}
use Rattle.std.specs.Option.{option_map}
use Rattle.book_model.specs.declared.edit.Edit.TheVariants.{Drop}
use Rattle.book_model.specs.Book.{Edited, dropped, edited}
use Rattle.book_model.specs.Files.{Content, ProjectFile}
use Rattle.book_model.proofs.FileLaws.{texts_found}
use Rattle.project_book.specs.Named.{AreOfBook, book_of, library_in}
use Rattle.project_answers.specs.Holds.{IsPresentAt}

-- a drop finds no text where none is present
pub nothing_there : (files : List ProjectFile) (name : List ℕ) (o : Option FileNo) → AreOfBook files → IsPresentAt files name o
    → is_some o ≡ false → edited (book_of files) (Drop name) ≡ Edited.NotThere
nothing_there files name (Some n) are there gone = cc
nothing_there files name None are none gone =
    ap (dropped (book_of files) name) (sym (texts_found (book_of files) (library_in files) files name are) ∙ ap (option_map (λ (c : Content). c.text)) none)
