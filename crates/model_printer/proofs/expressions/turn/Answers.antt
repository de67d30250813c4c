use Rattle.std.proofs.Common.{◌≡◌, ◌∙◌, suc, ◌-◌, ◌<◌, ◌≤◌, refl, sym, ap, subst, arith, length, reverse}
use Rattle.std.specs.Prelude.{ltb}
use Rattle.std.proofs.lemmas.Option.{slice_get_read}
use Rattle.print_model.specs.Trees.{level}
use Rattle.model_printer.specs.Parts.{IsWork, tree_before}
use Rattle.model_printer.specs.Turns.{IsEntered, IsTurned}
use Rattle.model_printer.proofs.TurnLaws.{level_at, part_turned}
use Rattle.model_printer.proofs.expressions.turn.Goals as goal

pub returns-in_ok-enter_part-in-Part : goal.returns-in_ok-enter_part-in-Part
returns-in_ok-enter_part-in-Part c =
    let d = c.args.model.now in
    let nodes = c.args.nodes.now in
    let end = c.in-Part.end in
    let wanted = c.in-Part.wanted in
    let stands : (0 < end) × (end ≤ length nodes) = subst (IsWork d nodes) c.in-Part.is c.requires.work in
    let some : 0 < end = stands.0 in
    let within : end ≤ length nodes = stands.1 in
    let same : suc (end - 1) ≡ end = omega arith in
    let at = slice_get_read nodes (length nodes) (end - 1) c.index-nodes-number.result refl (omega arith) c.index-nodes-number.is in
    let tight = level_at d nodes c.args.begins.now (end - 1) c.index-nodes-number.result c.requires.expression.tree c.requires.begins (omega arith) at in
    subst (λ w. IsTurned d nodes w c.args.writer.now c.enter_part.new.writer (reverse c.args.works.now.items) (reverse c.enter_part.new.works.items))
    (sym c.in-Part.is)
    (part_turned d nodes end wanted (ltb c.level_of.result wanted) c.args.writer.now c.open_bracket.new.writer c.enter_part.new.writer
    (reverse c.args.works.now.items) (reverse c.open_bracket.new.works.items) (reverse c.enter_part.new.works.items)
    (ap (λ k. ltb k wanted) (c.level_of.ensures ∙ sym tight ∙ ap (λ m. level (tree_before d nodes m)) same))
    c.in_ok-open_bracket-in-Part.ensures
    (subst (λ m. IsEntered d nodes m c.open_bracket.new.writer c.enter_part.new.writer (reverse c.open_bracket.new.works.items)
    (reverse c.enter_part.new.works.items)) same c.in_ok-enter_part-in-Part.ensures))
