use Rattle.std.specs.Option.{option_map}
use Rattle.link_model.specs.Asking.Course.{Ended}
use Rattle.link_model.specs.Outside.{library_of}
use Rattle.link_walk.specs.Calls.{files_of}
use Rattle.link_asking.specs.Hiding.{bearing}
use Rattle.link_asking.proofs.HidingLaws.{hides_all}
use Rattle.link_asking.proofs.hiding.hidden.Goals as goal

pub returns : goal.returns
returns g c =
    hides_all c.args.view.now c.args.number c.args.name.now c.args.at (option_map Ended c.in_ok-outcome.outcome) c.args.notes.now c.hide_gains.new.notes
    (c.in_ok-outcome.ensures (bearing (library_of (files_of c.args.view.now)) c.args.name.now c.args.at) c.in_ok-gains.ensures.asked)
