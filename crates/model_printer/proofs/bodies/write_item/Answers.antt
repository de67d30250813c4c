use Rattle.std.proofs.Common.{◌∙◌, ◌-◌, ◌∷◌, [], ap, sym, subst, length, reverse}
use Rattle.std.proofs.lemmas.List.{length-reverse}
use Rattle.std.proofs.lemmas.Option.{get_or_from_slice_get}
use Rattle.element_store.specs.declared.records.Member.{Member}
use Rattle.print_model.specs.Heads.{alias_tokens, import_tokens, item_lines, line, no_import, no_member, target_lines}
use Rattle.model_printer.specs.Bodies.{AreBegun, lines_at}
use Rattle.model_printer.proofs.OpenLaws.{written_begun}
use Rattle.model_printer.proofs.bodies.write_item.Goals as goal

pub returns-in_ok-write_import_line-in-Import : goal.returns-in_ok-write_import_line-in-Import
returns-in_ok-write_import_line-in-Import c =
    let d = c.args.model.now in
    let bs = reverse c.args.bodies.now.items in
    let import = c.import-import.result.now in
    let level = ap (λ n. n - 1) (c.len.ensures ∙ c.args.bodies.now.ok.0 ∙ sym (length-reverse c.args.bodies.now.items)) in
    subst (λ ls. AreBegun d ls c.args.writer.now c.write_import_line.new.writer bs bs)
    (ap (λ n. line n (import_tokens d import) ∷ []) level
    ∙ ap (λ i. line (length bs - 1) (import_tokens d i) ∷ [])
    (sym (get_or_from_slice_get d.imports c.in-Import.import import no_import c.import-import.ensures.lent))
    ∙ ap (item_lines (lines_at d) d (length bs - 1)) (sym c.in-Import.is))
    (written_begun d (line (c.len.result - 1) (import_tokens d import) ∷ []) c.args.writer.now c.write_import_line.new.writer bs
    c.in_ok-write_import_line-in-Import.ensures c.requires.open)

pub returns-in_ok-write_element-in-Owned : goal.returns-in_ok-write_element-in-Owned
returns-in_ok-write_element-in-Owned c =
    let d = c.args.model.now in
    let bs = reverse c.args.bodies.now.items in
    let member = c.member-member.result.now in
    subst (λ ls. AreBegun d ls c.args.writer.now c.write_element.new.writer bs (reverse c.write_element.new.bodies.items))
    (ap (target_lines (lines_at d) d (length bs - 1) member) (sym c.in-Owned.is)
    ∙ ap (λ (m : Member). target_lines (lines_at d) d (length bs - 1) m m.target)
    (sym (get_or_from_slice_get d.members c.in-Member.member member no_member c.member-member.ensures.lent))
    ∙ ap (item_lines (lines_at d) d (length bs - 1)) (sym c.in-Member.is))
    c.in_ok-write_element-in-Owned.ensures

pub returns-in_ok-write_alias_line-in-Alias : goal.returns-in_ok-write_alias_line-in-Alias
returns-in_ok-write_alias_line-in-Alias c =
    let d = c.args.model.now in
    let bs = reverse c.args.bodies.now.items in
    let member = c.member-member.result.now in
    let level = ap (λ n. n - 1) (c.len-in-Alias.ensures ∙ c.args.bodies.now.ok.0 ∙ sym (length-reverse c.args.bodies.now.items)) in
    subst (λ ls. AreBegun d ls c.args.writer.now c.write_alias_line.new.writer bs bs)
    (ap (λ n. line n (alias_tokens d member c.in-Alias.reference) ∷ []) level
    ∙ ap (target_lines (lines_at d) d (length bs - 1) member) (sym c.in-Alias.is)
    ∙ ap (λ (m : Member). target_lines (lines_at d) d (length bs - 1) m m.target)
    (sym (get_or_from_slice_get d.members c.in-Member.member member no_member c.member-member.ensures.lent))
    ∙ ap (item_lines (lines_at d) d (length bs - 1)) (sym c.in-Member.is))
    (written_begun d (line (c.len-in-Alias.result - 1) (alias_tokens d member c.in-Alias.reference) ∷ []) c.args.writer.now c.write_alias_line.new.writer bs
    c.in_ok-write_alias_line-in-Alias.ensures c.requires.open)
