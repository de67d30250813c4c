use Rattle.link_model.proofs.FitLaws.{gives_tier}
use Rattle.link_model.proofs.TameLaws.{inherited_tier_tame}
use Rattle.link_model.specs.Inheritance.{inherited_tier}
use Rattle.link_model.specs.Outside.{library_of}
use Rattle.link_walk.specs.Calls.{files_of}
use Rattle.demand_core.specs.Tables.{entry_of}
use Rattle.link_model.specs.Keys.{same_key}
use Rattle.name_lookups.proofs.NarrowLaws.{found_by}
use Rattle.name_lookups.proofs.own_tiers.narrowed_inherited.Goals as goal

pub narrowed-requires : goal.narrowed-requires
narrowed-requires c =
    let files = files_of c.args.view.now in
    let table = c.args.view.now.table.now in
    let a = inherited_tier (library_of files) c.args.name.now c.args.of in
    record {
      stand = found_by files c.files.ensures.kept table c.requires.links c.in_ok-tier.tier a
          (gives_tier files c.files.ensures.kept (entry_of same_key table) c.requires.links (library_of files) c.args.name.now c.args.of) c.in_ok-tier.ensures;
    }

pub returns : goal.returns
returns c =
    let lib = library_of (files_of c.args.view.now) in
    c.in_ok-gains.ensures (inherited_tier lib c.args.name.now c.args.of) (inherited_tier_tame lib c.args.name.now c.args.of).regular c.in_ok-tier.ensures
