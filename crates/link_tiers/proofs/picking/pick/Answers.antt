use Rattle.link_tiers.proofs.PickLaws.{pick_answered}
use Rattle.link_tiers.proofs.picking.pick.Goals as goal

pub returns : goal.returns
returns c =
    pick_answered c.args.view.now.models.now c.args.view.now.table.now c.args.hits.now _ c.args.notes.now c.note_files.new.notes c.choose.ensures
    c.in_ok-note_files.ensures
