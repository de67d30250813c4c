use Rattle.std.proofs.Common.{◌≡◌, ◌∙◌, suc, ◌-◌, ◌++◌, ◌≤◌, ◌∷◌, ap, sym, subst, arith, length, reverse}
use Rattle.std.specs.Prelude.{Some, slice_get, slice_index_or}
use Rattle.std.proofs.lemmas.List.{length-reverse}
use Rattle.std.proofs.lemmas.Option.{slice_get-get_or}
use Rattle.element_store.specs.declared.lists.Item.TheVariants as item
use Rattle.print_model.specs.Heads.{element_at, item_lines, items_at, result_lines}
use Rattle.model_printer.specs.Bodies.{AreBegun, AreWritten, closing, lines_at}
use Rattle.model_printer.proofs.EndLaws.{items_is}
use Rattle.model_printer.proofs.OpenLaws.{end_moved, item_moved, next_of, opened_first}
use Rattle.model_printer.proofs.bodies.turn.Goals as goal

pub returns-then-body-items : goal.returns-then-body-items
returns-then-body-items c =
    let d = c.args.model.now in
    let body = c.args.body in
    let bs = reverse c.args.bodies.now.items in
    let items = c.as_slice-items.result.now in
    let i = slice_index_or items body.next (item.Member 0) in
    let after = reverse c.write_item.new.bodies.items in
    let same : items_at d body.element ≡ items = items_is d body.element c.items.result.now c.items.ensures.lent ∙ sym c.as_slice-items.ensures in
    let first : reverse c.push.new.self.items ≡ next_of body ∷ bs =
    ap reverse c.in_ok-push.ensures.items ∙ opened_first c.args.bodies.now.items (next_of body) in
    let level : suc (length bs) - 1 ≡ length bs = omega arith in
    item_moved d body bs after i c.args.writer.now c.write_item.new.writer
    (subst (λ is. slice_get is body.next ≡ Some i) (sym same) (slice_get-get_or items body.next (item.Member 0) c.if-body-items.true))
    (subst (λ n. AreBegun d (item_lines (lines_at d) d n i) c.args.writer.now c.write_item.new.writer (next_of body ∷ bs) after) level
    (subst (λ xs. AreBegun d (item_lines (lines_at d) d (length xs - 1) i) c.args.writer.now c.write_item.new.writer xs after) first
    c.in_ok-write_item.ensures))

pub returns : goal.returns
returns c =
    let d = c.args.model.now in
    let body = c.args.body in
    let bs = reverse c.args.bodies.now.items in
    let items = c.as_slice-items.result.now in
    let same : items_at d body.element ≡ items = items_is d body.element c.items.result.now c.items.ensures.lent ∙ sym c.as_slice-items.ensures in
    end_moved d body bs c.args.writer.now c.write_end.new.writer (subst (λ is. length is ≤ body.next) (sym same) c.if-body-items.false)
    (subst (λ n. AreWritten (result_lines d n (element_at d body.element).result ++ closing n) c.args.writer.now c.write_end.new.writer)
    (c.len.ensures ∙ c.args.bodies.now.ok.0 ∙ sym (length-reverse c.args.bodies.now.items)) c.in_ok-write_end.ensures) c.requires.open
