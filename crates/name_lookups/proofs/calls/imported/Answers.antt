use Rattle.std.proofs.Common.{subst}
use Rattle.demand_core.specs.Search.{IsAsked}
use Rattle.link_model.specs.Imports.{imported}
use Rattle.link_model.specs.Outside.{library_of}
use Rattle.link_walk.specs.Calls.{files_of, read_by}
use Rattle.name_lookups.proofs.calls.imported.Goals as goal

pub returns : goal.returns
returns c =
    let files = files_of c.args.view.now in
    let w = read_by c.args.view.now in
    let es = c.args.excluded.now in
    let asked = imported (library_of files) c.args.name.now es c.args.import w in
    let is = subst
    (λ es. IsAsked c.in_ok-gains.gains
    (imported (library_of files) c.args.name.now es c.args.import w))
    c.as_slice.ensures c.in_ok-gains.ensures in
    record { found = c.in_ok-found.ensures.found asked is; looks = c.in_ok-found.ensures.looks asked is }
