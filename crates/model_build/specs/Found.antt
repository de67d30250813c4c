-- What numbering finds: the lists of the model, and the least place at which a limit is passed.
use Rattle.std.specs.Prelude.{◌≡◌, ℕ, Option}
use Rattle.element_store.specs.declared.numbers.FileNo.{FileNo}
use Rattle.element_store.specs.declared.outcome.Language.{Language}
use Rattle.element_store.specs.Model.{Data}
use Rattle.text_model.specs.Numbering.{least, limits, model_of}
use Rattle.text_model.specs.Walk.{Walk}
use Rattle.draft_walk.specs.declared.telling.Drafts.{Drafts}
use Rattle.draft_walk.specs.Drafted.{HasDrafts}

-- for the walk whose lists the drafts are
pub record IsFound (file : FileNo) (language : Language) (d : Drafts) (found : Data) (place : Option ℕ) : Type 0 where
  pub model : (w : Walk) → HasDrafts d w → found ≡ model_of file language w
  pub over : (w : Walk) → HasDrafts d w → place ≡ least (limits w)
