use Rattle.std.proofs.Common.{◌∙◌, [], ◌∷◌, ◌++◌, sym, ap, subst, arith, length, reverse}
use Rattle.model_printer.specs.declared.expressions.Work.TheVariants.{Part}
use Rattle.model_printer.specs.Parts.{AreWorks, tokens_left}
use Rattle.model_printer.specs.Sheets.{puts}
use Rattle.model_printer.proofs.TurnLaws.{some_nodes, whole_left}
use Rattle.model_printer.proofs.expressions.write_expression.Goals as goal

pub turn_all-requires-clause-works : goal.turn_all-requires-clause-works
turn_all-requires-clause-works c =
    let nodes = c.args.nodes.now in
    let some = some_nodes c.args.model.now nodes c.requires.tree in
    subst (λ ws. AreWorks c.args.model.now nodes (reverse ws))
    (sym (c.in_ok-push.ensures.items ∙ ap (λ ws. ws ++ Part (length nodes) 0 ∷ []) c.new-works.ensures.items)) ((some, omega arith), tt)

pub returns : goal.returns
returns c =
    let nodes = c.args.nodes.now in
    c.in_ok-turn_all.ensures
    ∙ ap (λ ws. puts c.args.writer.now (tokens_left c.args.model.now nodes (reverse ws)))
    (c.in_ok-push.ensures.items ∙ ap (λ ws. ws ++ Part (length nodes) 0 ∷ []) c.new-works.ensures.items)
    ∙ whole_left c.args.model.now nodes c.args.writer.now
