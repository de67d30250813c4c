use Rattle.std.proofs.Common.{◌∙◌}
use Rattle.value_rules.proofs.RuleLaws.{if_ok, asked_in_order}
use Rattle.value_rules.proofs.rules.ValueRulesRulesValueKeyValueAnswerNoFact.ask.Goals as goal

pub returns-clause-answer : goal.returns-clause-answer
returns-clause-answer g c =
    if_ok c.ask.result c.ask.ensures.step (λ step is. is
    ∙ asked_in_order (g.M.Meanings.links c.args.self.now.meanings.now) (g.M.Meanings.library c.args.self.now.meanings.now) c.args.key c.args.table.now)
