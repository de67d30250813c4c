use Rattle.link_model.specs.Imports.{own_tiers}
use Rattle.link_model.specs.Outside.{library_of}
use Rattle.link_walk.specs.Calls.{files_of, read_by}
use Rattle.link_tiers.proofs.TierLaws.{tried_all}
use Rattle.name_lookups.proofs.own_tiers.OwnTiersTiers.own.Goals as goal

pub returns : goal.returns
returns c =
    tried_all (read_by c.args.view.now) (own_tiers (library_of (files_of c.args.view.now)) c.args.all c.args.name.now c.args.of) _
    c.new-gains.result c.try_own.new.gains c.new-gains.ensures c.in_ok-try_own.ensures
