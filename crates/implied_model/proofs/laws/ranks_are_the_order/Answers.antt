use Rattle.implied_model.proofs.RankOrder.{order_of_ranks}
use Rattle.implied_model.proofs.laws.ranks_are_the_order.Goals as goal

pub returns : goal.returns
returns c = order_of_ranks
