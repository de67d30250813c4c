use Rattle.link_model.proofs.LinkLaws.{link_lawful}
use Rattle.link_model.proofs.OrderLemmas.{ordered_links}
use Rattle.link_model.proofs.laws.links_are_lawful.Goals as goal

pub returns : goal.returns
returns c = record { lawful = link_lawful; ordered = ordered_links }
