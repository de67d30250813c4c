-- Files of which the first ones have their models.
use Rattle.std.specs.Prelude.{ℕ, zero, suc, None, List, [], ◌∷◌}
use Rattle.element_store.specs.declared.models.StoredFile.{StoredFile}

-- the same files, of which so many first ones alone have their models
abbrev pub first_models : ℕ → List StoredFile → List StoredFile
first_models n [] = []
first_models zero (s ∷ files) = record s { model = None } ∷ first_models zero files
first_models (suc n) (s ∷ files) = s ∷ first_models n files
