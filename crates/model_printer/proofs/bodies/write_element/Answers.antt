use Rattle.std.proofs.Common.{◌≡◌, ◌∙◌, suc, ◌-◌, ◌++◌, ◌∷◌, [], ap, sym, subst, arith, length, reverse}
use Rattle.std.specs.Prelude.{codes}
use Rattle.std.proofs.lemmas.List.{length-reverse}
use Rattle.element_store.specs.declared.records.Element.{Element}
use Rattle.print_model.specs.Printed.{sign}
use Rattle.print_model.specs.Heads.{element_lines, head, is_end, is_note, line}
use Rattle.model_printer.specs.Bodies.{AreBegun, AreWritten, lines_at}
use Rattle.model_printer.proofs.OpenLaws.{closed_begun, first_of, opened_begun, opened_first}
use Rattle.model_printer.proofs.bodies.write_element.Goals as goal

pub returns-then-has_lines : goal.returns-then-has_lines
returns-then-has_lines c =
    let d = c.args.model.now in
    let bs = reverse c.args.bodies.now.items in
    let level = length bs - 1 in
    let long : length bs ≡ length c.args.bodies.now.items = length-reverse c.args.bodies.now.items in
    let more : length bs ≡ suc level = omega (arith, long) in
    subst (AreBegun d (element_lines (lines_at d) d level c.args.visibility c.args.element) c.args.writer.now c.write_head_line.new.writer bs)
    (sym (ap reverse c.in_ok-push.ensures.items ∙ opened_first c.args.bodies.now.items (first_of c.args.element)))
    (opened_begun d c.element_of.ensures.model level c.args.visibility c.args.element c.args.writer.now c.write_head_line.new.writer bs c.requires.stands more
    (ap (λ (e : Element). is_end e.kind) (sym c.element_of.ensures.is) ∙ sym c.is_end.ensures ∙ c.if-is_end.false)
    (ap (λ (e : Element). is_note e.kind) (sym c.element_of.ensures.is) ∙ sym c.is_note.ensures ∙ c.if-is_note.false)
    (sym c.has_lines.ensures ∙ c.if-has_lines.true)
    (subst (λ n. AreWritten (line n (head d c.args.visibility c.args.element ++ sign (codes "{") ∷ []) ∷ []) c.args.writer.now c.write_head_line.new.writer)
    (ap (λ n. n - 1) (c.len-level.ensures ∙ c.args.bodies.now.ok.0 ∙ sym long)) c.in_ok-write_head_line.ensures) c.requires.open)

pub returns : goal.returns
returns c =
    let d = c.args.model.now in
    let bs = reverse c.args.bodies.now.items in
    let level = length bs - 1 in
    let long : length bs ≡ length c.args.bodies.now.items = length-reverse c.args.bodies.now.items in
    closed_begun d c.element_of.ensures.model level c.args.visibility c.args.element c.args.writer.now c.write_head_line-2.new.writer bs c.requires.stands
    (ap (λ (e : Element). is_end e.kind) (sym c.element_of.ensures.is) ∙ sym c.is_end.ensures ∙ c.if-is_end.false)
    (ap (λ (e : Element). is_note e.kind) (sym c.element_of.ensures.is) ∙ sym c.is_note.ensures ∙ c.if-is_note.false)
    (sym c.has_lines.ensures ∙ c.if-has_lines.false)
    (subst (λ n. AreWritten (line n (head d c.args.visibility c.args.element ++ sign (codes ";") ∷ []) ∷ []) c.args.writer.now c.write_head_line-2.new.writer)
    (ap (λ n. n - 1) (c.len-level.ensures ∙ c.args.bodies.now.ok.0 ∙ sym long)) c.in_ok-write_head_line-2.ensures) c.requires.open
