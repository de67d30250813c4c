use Rattle.std.proofs.Common.{◌≡◌, length, refl, ap, ◌∙◌}
use Rattle.text_model.specs.Walk.{Walk}
use Rattle.draft_walk.proofs.Laws.{element_entered}
use Rattle.draft_walk.proofs.walker.Walker.enter_element.Goals as goal

pub returns : goal.returns
returns c =
    element_entered c.args.self.now c.list_item.new.self c.open_last-2.new.self c.args.kind c.in_ok-number.number c.draft.result c.in_ok-member.member
    c.requires c.in_ok-list_item.ensures (c.in_ok-number.ensures
    ∙ (c.len.ensures ∙ (c.self.inside.members.ok.0 ∙ ap (λ (w : Walk). length w.members) c.self.view_is)))
    c.in_ok-open_last.ensures c.draft.ensures c.in_ok-member.ensures
