use Rattle.link_walk.specs.Calls.{files_of}
use Rattle.link_tiers.proofs.roots.try_project.Goals as goal

pub returns-clause-found : goal.returns-clause-found
returns-clause-found c = λ before. c.in_ok-decided.ensures.found (files_of c.args.view.now) c.in_ok-project.ensures.found
