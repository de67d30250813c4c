use Rattle.std.proofs.Common.{false}
use Rattle.link_model.specs.Inheritance.{inherited}
use Rattle.link_model.specs.Outside.{library_of}
use Rattle.link_walk.specs.Calls.{files_of, read_by}
use Rattle.inherited_names.proofs.calls.inherited.Goals as goal

pub returns : goal.returns
returns c =
    let asked = inherited (library_of (files_of c.args.view.now)) false c.args.name.now c.args.of (read_by c.args.view.now) in
    record { found = c.in_ok-found.ensures.found asked c.in_ok-gains.ensures; looks = c.in_ok-found.ensures.looks asked c.in_ok-gains.ensures }
