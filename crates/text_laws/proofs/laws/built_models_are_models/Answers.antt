use Rattle.std.proofs.Common.{sym, subst}
use Rattle.element_store.specs.Condition.{IsModel}
use Rattle.text_laws.proofs.BuiltModel.{built_is_model}
use Rattle.text_laws.proofs.laws.built_models_are_models.Goals as goal

pub returns : goal.returns
returns c = λ file language text d short p.
    subst IsModel (sym p.model) (built_is_model file language text p.tokens p.tree short p.read p.within)
