-- The links of a book.
use Rattle.std.specs.Prelude.{List, Option, None, Some}
use Rattle.element_store.specs.declared.numbers.FileNo.{FileNo}
use Rattle.element_store.specs.declared.models.StoredFile.{StoredFile}
use Rattle.element_store.specs.Stored.{with_model}
use Rattle.link_model.specs.Readers.{is_nil}
use Rattle.kept_links.specs.Kept.{Kept, AreKept}
use Rattle.root_names.specs.Roots.{Tables, AreRootsOf}
use Rattle.project_answers.specs.Holds.{Followed}

-- the files whose edits were followed, the links that are kept of them, and the names of their roots
pub record Linked : Type 0 where
  pub files : List StoredFile
  pub kept : Kept
  pub roots : Tables

-- links and names are those of the files
pub record IsLinked (l : Linked) : Type 0 where
  pub kept : AreKept l.files l.kept
  pub roots : AreRootsOf l.files l.roots

-- the files without the text of the one that was closed
abbrev pub without : List StoredFile → Option FileNo → List StoredFile
without files None = files
without files (Some file) = with_model files file.0 None

-- all references are linked where none is pending
abbrev pub followed : Linked → Followed
followed l = record { files = l.files; is_linked = is_nil l.kept.pending }
