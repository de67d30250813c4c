use Rattle.link_model.specs.Asking.{first_tiers}
use Rattle.link_walk.specs.Calls.{read_by}
use Rattle.link_tiers.proofs.TierLaws.{tried_all}
use Rattle.link_asking.specs.Hiding.{library_in}
use Rattle.link_asking.proofs.StartLaws.{found_none}
use Rattle.link_asking.proofs.starts.first_hits.Goals as goal

pub returns-clause-asked : goal.returns-clause-asked
returns-clause-asked g c =
    tried_all (read_by c.args.view.now)
    (first_tiers (library_in c.args.view.now) c.args.reference.now c.args.library c.args.name.now c.args.model.now c.args.number)
    c.in_ok-try_first.field-0 c.new-gains.result c.try_first.new.gains c.new-gains.ensures c.in_ok-try_first.ensures.tried

pub returns-clause-found : goal.returns-clause-found
returns-clause-found g c = c.in_ok-try_first.ensures.found (found_none _ c.new-gains.result c.new-gains.ensures)
