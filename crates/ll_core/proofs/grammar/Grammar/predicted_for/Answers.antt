use Rattle.std.proofs.Common.{ap, ◌∙◌}
use Rattle.ll_core.specs.Table.{table_of}
use Rattle.ll_core.specs.Test.{told_for}
use Rattle.ll_core.proofs.Predictions.{told_is_for, none_is_for}
use Rattle.ll_core.proofs.grammar.Grammar.predicted_for.Goals as goal

pub returns-clause-some : goal.returns-clause-some
returns-clause-some c =
    let t = table_of c.args.self.now in
    told_is_for t c.requires.foretold c.args.symbol c.args.look c.told_for.result
    (c.told_for.ensures ∙ ap (λ xs. told_for xs c.args.look) c.predictions_of.ensures)

pub returns-clause-none : goal.returns-clause-none
returns-clause-none c =
    let t = table_of c.args.self.now in
    none_is_for t c.requires.foretold c.args.symbol c.args.look c.told_for.result
    (c.told_for.ensures ∙ ap (λ xs. told_for xs c.args.look) c.predictions_of.ensures)
