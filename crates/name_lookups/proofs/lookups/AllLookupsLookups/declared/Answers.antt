use Rattle.demand_core.specs.Tables.{entry_of}
use Rattle.link_model.proofs.FitLaws.{gives_declared}
use Rattle.link_model.specs.Names.{declared}
use Rattle.link_model.specs.Keys.{same_key}
use Rattle.link_walk.specs.Calls.{files_of}
use Rattle.name_lookups.proofs.NarrowLaws.{found_by}
use Rattle.name_lookups.proofs.lookups.AllLookupsLookups.declared.Goals as goal

pub returns-clause-found : goal.returns-clause-found
returns-clause-found c =
    let files = files_of c.args.view.now in
    let table = c.args.view.now.table.now in
    found_by files c.files.ensures.kept table c.requires.links c.in_ok-gains.gains (declared c.args.name.now c.args.at)
    (gives_declared files c.files.ensures.kept (entry_of same_key table) c.requires.links c.args.name.now c.args.at) c.in_ok-gains.ensures
