use Rattle.std.proofs.Common.{◌∙◌, ◌++◌, ◌∷◌, [], sym, ap, subst}
use Rattle.std.specs.Prelude.{reverse, not, ◌||◌}
use Rattle.link_model.specs.Keys.{is_in}
use Rattle.link_walk.specs.Calls.{read_by}
use Rattle.value_model.specs.Meant.{feature_at}
use Rattle.value_features.specs.Deciders.{Steps}
use Rattle.value_features.proofs.DecidingLaws.{step_passed, step_taken}
use Rattle.value_features.proofs.deciding.step.Goals as goal

pub returns-then-is_passed-clause-steps : goal.returns-then-is_passed-clause-steps
returns-then-is_passed-clause-steps c =
    let w = read_by c.args.view.now in
    step_passed w c.args.seen.now c.args.todo.now.items c.args.next
    (ap (λ seen. is_in c.args.next seen || not (feature_at w c.args.next)) (sym c.as_slice.ensures) ∙ sym c.if-is_passed.ensures)

pub returns-clause-steps : goal.returns-clause-steps
returns-clause-steps c =
    let w = read_by c.args.view.now in
    subst (λ seen. Steps w c.args.seen.now (c.args.todo.now.items ++ c.args.next ∷ []) seen c.put.new.todo.items c.own_expression.result)
    (sym c.in_ok-push.ensures.ok)
    (subst (λ todo. Steps w c.args.seen.now (c.args.todo.now.items ++ c.args.next ∷ []) (c.args.seen.now ++ c.args.next ∷ []) todo c.own_expression.result)
    (sym (c.in_ok-put.ensures ∙ ap (λ es. c.args.todo.now.items ++ reverse es) (c.as_slice-2.ensures ∙ c.in_ok-ends.ensures)))
    (step_taken w c.args.seen.now c.args.todo.now.items c.args.next c.own_expression.result
    (ap (λ seen. is_in c.args.next seen || not (feature_at w c.args.next)) (sym c.as_slice.ensures) ∙ sym c.if-is_passed.ensures)
    c.own_expression.ensures.own))
