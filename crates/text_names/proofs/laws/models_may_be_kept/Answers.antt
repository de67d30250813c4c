use Rattle.text_names.proofs.NameLaws.{names_spellable}
use Rattle.text_names.proofs.PlaceLaws.{places_within}
use Rattle.text_names.proofs.laws.models_may_be_kept.Goals as goal

pub returns-clause-names : goal.returns-clause-names
returns-clause-names c = names_spellable

pub returns-clause-places : goal.returns-clause-places
returns-clause-places c = places_within
