use Rattle.std.proofs.Common.{◌≡◌, ◌++◌, [], refl, ap, sym, ◌∙◌}
use Rattle.std.proofs.lemmas.List.{append-nil}
use Rattle.text_model.specs.Drafts.{last_changed, with_segment}
use Rattle.draft_walk.proofs.Laws.{last_is}
use Rattle.draft_walk.proofs.nodes.add_segment.Goals as goal

pub returns-in_ok-push : goal.returns-in_ok-push
returns-in_ok-push c =
    last_is (with_segment c.args.segment) c.args.nodes.now c.push.new.self c.pop.new.self c.in-Some.node c.in_ok-with_segment.field-0
    c.in-Some.ensures.rest c.in_ok-with_segment.ensures c.in_ok-push.ensures

pub returns-in_default : goal.returns-in_default
returns-in_default c =
    let empty : c.args.nodes.now ≡ [] = c.in_default.ensures.none refl in
    sym (append-nil c.pop.new.self) ∙ (sym c.in_default.ensures.rest ∙ (empty ∙ sym (ap (last_changed (with_segment c.args.segment)) empty)))
