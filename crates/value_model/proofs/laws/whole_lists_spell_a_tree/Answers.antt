use Rattle.value_model.proofs.SlotLaws.{whole_tree}
use Rattle.value_model.proofs.laws.whole_lists_spell_a_tree.Goals as goal

pub returns : goal.returns
returns c = whole_tree
