use Rattle.print_model.proofs.TreeLaws as laws
use Rattle.print_model.proofs.laws.expressions_have_trees.Goals as goal

pub returns : goal.returns
returns c = laws.expressions_have_trees
