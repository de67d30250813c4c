use Rattle.std.proofs.Common.{◌∙◌, sym}
use Rattle.value_model.proofs.ValueLaws.{same_values}
use Rattle.value_rules.proofs.RuleLaws.{if_ok}
use Rattle.value_rules.proofs.values.value_of.Goals as goal

pub returns-clause-value : goal.returns-clause-value
returns-clause-value g c =
    let w = g.M.Meanings.links c.args.meanings.now in
    let lib = g.M.Meanings.library c.args.meanings.now in
    if_ok c.value_over.result c.value_over.ensures.value (λ answer is keys are member. is
    ∙ same_values w lib keys c.in_ok-keys.keys are c.in_ok-keys.ensures.closed c.args.key member c.in_ok-keys.ensures.member)

pub returns-clause-list : goal.returns-clause-list
returns-clause-list g c =
    if_ok c.value_over.result c.value_over.ensures.value (λ answer is. (c.in_ok-keys.keys, c.in_ok-keys.ensures.closed, c.in_ok-keys.ensures.member))
