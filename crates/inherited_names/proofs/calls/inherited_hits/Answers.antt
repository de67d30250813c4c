use Rattle.link_model.specs.Inheritance.{inherited}
use Rattle.link_model.specs.Outside.{library_of}
use Rattle.link_model.proofs.TameLaws.{inherited_tame}
use Rattle.link_walk.specs.Calls.{files_of, read_by}
use Rattle.link_walk.proofs.GainLaws.{asked_gained, begins_empty}
use Rattle.inherited_names.proofs.calls.inherited_hits.Goals as goal

pub returns : goal.returns
returns c =
    let w = read_by c.args.view.now in
    let lib = library_of (files_of c.args.view.now) in
    asked_gained w (inherited lib c.args.raw c.args.name.now c.args.of w) c.new-gains.result c.take_inherited.new.gains
    (begins_empty c.new-gains.result c.new-gains.ensures) ((inherited_tame lib c.args.raw c.args.name.now c.args.of).regular.sound w)
    c.in_ok-take_inherited.ensures
