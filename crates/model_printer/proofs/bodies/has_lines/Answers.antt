use Rattle.std.proofs.Common.{◌∙◌, ap, sym}
use Rattle.std.specs.Prelude.{is_some, ◌||◌}
use Rattle.std.specs.List.{list_any}
use Rattle.std.proofs.lemmas.Option.{slice_get-get_or}
use Rattle.element_store.specs.declared.records.Element.{Element}
use Rattle.element_store.specs.declared.lists.Item.TheVariants as item
use Rattle.print_model.specs.Heads.{element_at}
use Rattle.model_printer.specs.Bodies.{has_line}
use Rattle.model_printer.proofs.EndLaws.{drop_past, items_is}
use Rattle.model_printer.proofs.OpenLaws.{any_found}
use Rattle.model_printer.proofs.bodies.has_lines.Goals as goal

pub returns-then-has_line : goal.returns-then-has_line
returns-then-has_line c =
    let d = c.args.model.now in
    let items = c.as_slice-items.result.now in
    let at = slice_get-get_or items c.loop-item.item-index (item.Member 0) c.loop-item-test.true in
    sym (ap (λ b. b || is_some (element_at d c.args.element).result)
    (ap (list_any (has_line d)) (items_is d c.args.element c.items.result.now c.items.ensures.lent ∙ sym c.as_slice-items.ensures)
    ∙ c.loop-item.invariant ∙ any_found d items c.loop-item.item-index _ at (sym c.has_line.ensures ∙ c.if-has_line.true)))

pub returns : goal.returns
returns c =
    let d = c.args.model.now in
    let items = c.as_slice-items.result.now in
    c.is_some.ensures ∙ ap (λ (e : Element). is_some e.result) c.element_of.ensures.is
    ∙ sym (ap (λ b. b || is_some (element_at d c.args.element).result)
    (ap (list_any (has_line d)) (items_is d c.args.element c.items.result.now c.items.ensures.lent ∙ sym c.as_slice-items.ensures)
    ∙ c.loop-item.invariant ∙ ap (list_any (has_line d)) (drop_past c.loop-item.item-index items c.loop-item-test.false)))
