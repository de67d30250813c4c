-- What a qualified name finds stands.
use Rattle.std.proofs.Common.{◌≡◌, ℕ, List}
use Rattle.std.specs.Prelude.{IfOk, Result, Ok, Err}
use Rattle.element_store.specs.declared.outcome.Outcome.{Outcome}
use Rattle.element_store.specs.Stored.{AreFiles}
use Rattle.book_model.specs.Files.{ProjectFile, stored}
use Rattle.book_model.specs.Live.{NamesLive}
use Rattle.book_model.specs.Queries.{find_query}
use Rattle.project_answers.proofs.FindLaws.{names_found}

-- what is found, if memory was found
pub found_live : {E : Type 0} (files : List ProjectFile) (path : List (List ℕ)) (r : Result Outcome E) → AreFiles (stored files)
    → IfOk r (λ o. o ≡ find_query files path) → IfOk r (NamesLive files)
found_live files path (Ok o) are is = names_found files path o are is
found_live files path (Err e) are is = tt
