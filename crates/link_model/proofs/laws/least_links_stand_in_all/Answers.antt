use Rattle.demand_core.proofs.RoundsLaws.{least_in_consistent}
use Rattle.link_model.specs.Keys.{same_key, key_is_exact}
use Rattle.link_model.specs.Linking.{link_meaning}
use Rattle.link_model.proofs.LinkLaws.{link_lawful}
use Rattle.link_model.proofs.laws.least_links_stand_in_all.Goals as goal

pub returns : goal.returns
returns c = λ files table are. least_in_consistent same_key key_is_exact (link_meaning files) (link_lawful files are) table
