use Rattle.link_model.specs.Outside.{library_of}
use Rattle.link_walk.specs.Calls.{read_by}
use Rattle.import_walk.proofs.DeferLaws.{defers_shown}
use Rattle.import_walk.proofs.visibility.add_shown.Goals as goal

pub returns : goal.returns
returns g c ask =
    let files = c.args.view.now.models.now in
    defers_shown (library_of files) c.args.name.now ask files (read_by c.args.view.now) c.args.inner.now c.args.task.now c.args.hunt.now
    c.add_tiers.new.hunt c.add_inside_if.new.hunt (c.in_ok-add_tiers.ensures ask) (c.in_ok-add_inside_if.ensures ask)
