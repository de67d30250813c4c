use Rattle.link_model.proofs.ArrivalLaws.{arrival_changes_nothing}
use Rattle.link_model.proofs.laws.arrivals_keep_links.Goals as goal

pub returns : goal.returns
returns c = arrival_changes_nothing
