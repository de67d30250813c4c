use Rattle.link_model.specs.Names.{declared}
use Rattle.link_walk.specs.Calls.{read_by}
use Rattle.owned_names.proofs.declared_tier.declared.Goals as goal

pub returns-clause-found : goal.returns-clause-found
returns-clause-found c = c.in_ok-found.ensures.found (declared c.args.name.now c.args.at (read_by c.args.view.now)) c.in_ok-gains.ensures

pub returns-clause-looks : goal.returns-clause-looks
returns-clause-looks c = c.in_ok-found.ensures.looks (declared c.args.name.now c.args.at (read_by c.args.view.now)) c.in_ok-gains.ensures
