use Rattle.std.proofs.Common.{false}
use Rattle.link_model.specs.Lexical.{last_tiers}
use Rattle.link_walk.specs.Calls.{read_by}
use Rattle.link_tiers.proofs.TierLaws.{tried_all}
use Rattle.link_asking.specs.Hiding.{library_in}
use Rattle.link_asking.proofs.StartLaws.{found_none}
use Rattle.link_asking.proofs.starts.root_hits.Goals as goal

pub returns-clause-asked : goal.returns-clause-asked
returns-clause-asked c =
    tried_all (read_by c.args.view.now) (last_tiers (library_in c.args.view.now) false c.args.name.now)
    c.in_ok-try_roots.field-0 c.new-gains.result c.try_roots.new.gains c.new-gains.ensures c.in_ok-try_roots.ensures.tried

pub returns-clause-found : goal.returns-clause-found
returns-clause-found c = c.in_ok-try_roots.ensures.found (found_none _ c.new-gains.result c.new-gains.ensures)
