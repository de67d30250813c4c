use Rattle.link_model.proofs.FitLaws.{gives_declared}
use Rattle.link_model.proofs.TameLaws.{declared_tame}
use Rattle.link_model.specs.Names.{declared}
use Rattle.link_walk.specs.Calls.{files_of}
use Rattle.demand_core.specs.Tables.{entry_of}
use Rattle.link_model.specs.Keys.{same_key}
use Rattle.name_lookups.proofs.NarrowLaws.{found_by}
use Rattle.name_lookups.proofs.own_tiers.declared_tier.Goals as goal

pub narrowed-requires : goal.narrowed-requires
narrowed-requires c =
    let files = files_of c.args.view.now in
    let table = c.args.view.now.table.now in
    let a = declared c.args.name.now c.args.of in
    record {
      stand = found_by files c.files.ensures.kept table c.requires.links c.in_ok-tier.tier a
          (gives_declared files c.files.ensures.kept (entry_of same_key table) c.requires.links c.args.name.now c.args.of) c.in_ok-tier.ensures;
    }

pub returns : goal.returns
returns c =
    c.in_ok-gains.ensures (declared c.args.name.now c.args.of) (declared_tame c.args.name.now c.args.of).regular c.in_ok-tier.ensures
