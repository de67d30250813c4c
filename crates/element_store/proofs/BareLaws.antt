-- The model of a file with nothing in it is one.
use Rattle.std.proofs.Common.{refl}
use Rattle.element_store.specs.declared.numbers.FileNo.{FileNo}
use Rattle.element_store.specs.declared.outcome.Language.{Language}
use Rattle.element_store.specs.Model.{bare_model}
use Rattle.element_store.specs.Condition.{IsModel, Nothing}

-- every part computes
pub bare_is_model : (file : FileNo) (language : Language) → IsModel (bare_model file language)
bare_is_model file language = record {
  few = record { elements = refl; members = refl; references = refl; imports = refl; items = refl; values = refl; results = refl };
  ranges = record { elements = refl; items = refl; members = refl; references = refl; imports = refl };
  places = record { members = refl; references = refl; values = refl; results = refl };
  root = (refl, refl);
  owned = refl;
  items = record { members = refl; imports = refl; text_order = refl };
  paths = refl;
  expressions = refl;
  contexts = refl;
  numbering = record { elements = (Nothing, refl); members = refl; imports = refl; references = refl };
}
