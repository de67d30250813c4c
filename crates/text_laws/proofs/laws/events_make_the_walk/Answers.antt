use Rattle.text_laws.proofs.EventLaws as laws
use Rattle.text_laws.proofs.laws.events_make_the_walk.Goals as goal

pub returns : goal.returns
returns c = laws.events_make_the_walk
