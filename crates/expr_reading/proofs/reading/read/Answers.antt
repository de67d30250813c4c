use Rattle.std.proofs.Common.{◌≡◌, ◌∙◌, ℕ, ◌<◌, ◌-◌, refl, sym, ap, subst}
use Rattle.std.specs.Prelude.{Some}
use Rattle.demand_core.specs.Tables.{entry_of}
use Rattle.value_model.specs.Keys.{same_value_key}
use Rattle.expr_reading.specs.declared.turns.Turn.TheVariants.{Read, Have}
use Rattle.expr_reading.specs.Turns.{Turned}
use Rattle.expr_reading.proofs.TurnLaws.{name_stands}
use Rattle.expr_reading.proofs.ReadLaws.{if_ok, node_at, literal_turn, named_turn, unary_turn, binary_turn, if_some, if_turn}
use Rattle.expr_reading.proofs.reading.read.Goals as goal

pub read_name-requires-clause-named : goal.read_name-requires-clause-named
read_name-requires-clause-named g c =
    let e = g.S.Source.meaning c.args.source.now in
    name_stands e.nodes (c.args.end - 1) c.in-Named.reference
    (node_at c.nodes.result.now e.nodes c.args.end c.index-nodes-number.result c.nodes.ensures.lent c.requires.part c.index-nodes-number.is
    ∙ ap Some c.in-Named.is)

pub begin_before-requires-in-If-clause-some : goal.begin_before-requires-in-If-clause-some
begin_before-requires-in-If-clause-some g c =
    let e = g.S.Source.meaning c.args.source.now in
    subst (λ k. 0 < k) (sym c.begin_before-second.ensures)
    (if_some e (entry_of same_value_key c.args.table.now) c.args.begins.now c.args.looks.now c.args.pending.now.items c.args.end
    (record { whole = c.nodes.ensures.whole; begins_are = c.requires.begins; each = c.requires.each; pending = c.requires.pending; part = c.requires.part })
    (node_at c.nodes.result.now e.nodes c.args.end c.index-nodes-number.result c.nodes.ensures.lent c.requires.part c.index-nodes-number.is
    ∙ ap Some c.in-If.is))

pub returns-in-Named : goal.returns-in-Named
returns-in-Named g c =
    let e = g.S.Source.meaning c.args.source.now in
    if_ok c.read_name.result c.read_name.ensures (λ to named.
    named_turn e (entry_of same_value_key c.args.table.now) c.args.begins.now c.args.looks.now c.args.pending.now.items c.args.end
    (record { whole = c.nodes.ensures.whole; begins_are = c.requires.begins; each = c.requires.each; pending = c.requires.pending; part = c.requires.part })
    c.in-Named.reference c.read_name.new.looks to
    (node_at c.nodes.result.now e.nodes c.args.end c.index-nodes-number.result c.nodes.ensures.lent c.requires.part c.index-nodes-number.is
    ∙ ap Some c.in-Named.is)
    named)

pub returns-in_ok-push-in-Unary : goal.returns-in_ok-push-in-Unary
returns-in_ok-push-in-Unary g c =
    let e = g.S.Source.meaning c.args.source.now in
    unary_turn e (entry_of same_value_key c.args.table.now) c.args.begins.now c.args.looks.now c.args.pending.now.items c.args.end
    (record { whole = c.nodes.ensures.whole; begins_are = c.requires.begins; each = c.requires.each; pending = c.requires.pending; part = c.requires.part })
    c.in-Unary.op c.push.new.self.items
    (node_at c.nodes.result.now e.nodes c.args.end c.index-nodes-number.result c.nodes.ensures.lent c.requires.part c.index-nodes-number.is
    ∙ ap Some c.in-Unary.is)
    c.in_ok-push-in-Unary.ensures.items

pub returns-in_ok-push-in-Binary : goal.returns-in_ok-push-in-Binary
returns-in_ok-push-in-Binary g c =
    let e = g.S.Source.meaning c.args.source.now in
    binary_turn e (entry_of same_value_key c.args.table.now) c.args.begins.now c.args.looks.now c.args.pending.now.items c.args.end
    (record { whole = c.nodes.ensures.whole; begins_are = c.requires.begins; each = c.requires.each; pending = c.requires.pending; part = c.requires.part })
    c.in-Binary.op c.begin_before.result c.push-in-Binary.new.self.items
    (node_at c.nodes.result.now e.nodes c.args.end c.index-nodes-number.result c.nodes.ensures.lent c.requires.part c.index-nodes-number.is
    ∙ ap Some c.in-Binary.is)
    c.begin_before.ensures c.in_ok-push-in-Binary.ensures.items

pub returns-in_ok-push-in-If : goal.returns-in_ok-push-in-If
returns-in_ok-push-in-If g c =
    let e = g.S.Source.meaning c.args.source.now in
    if_turn e (entry_of same_value_key c.args.table.now) c.args.begins.now c.args.looks.now c.args.pending.now.items c.args.end
    (record { whole = c.nodes.ensures.whole; begins_are = c.requires.begins; each = c.requires.each; pending = c.requires.pending; part = c.requires.part })
    c.begin_before-second.result c.begin_before-in-If.result c.push-in-If.new.self.items
    (node_at c.nodes.result.now e.nodes c.args.end c.index-nodes-number.result c.nodes.ensures.lent c.requires.part c.index-nodes-number.is
    ∙ ap Some c.in-If.is)
    c.begin_before-second.ensures c.begin_before-in-If.ensures c.in_ok-push-in-If.ensures.items

pub returns-in_ok-value-in_default : goal.returns-in_ok-value-in_default
returns-in_ok-value-in_default g c =
    let e = g.S.Source.meaning c.args.source.now in
    subst (λ v. Turned e (entry_of same_value_key c.args.table.now) c.args.looks.now c.args.pending.now.items (Read c.args.end) c.args.looks.now
    c.args.pending.now.items (Have v)) (sym c.in_ok-value-in_default.ensures)
    (literal_turn e (entry_of same_value_key c.args.table.now) c.args.begins.now c.args.looks.now c.args.pending.now.items c.args.end
    (record { whole = c.nodes.ensures.whole; begins_are = c.requires.begins; each = c.requires.each; pending = c.requires.pending; part = c.requires.part })
    c.index-nodes-number.result
    (node_at c.nodes.result.now e.nodes c.args.end c.index-nodes-number.result c.nodes.ensures.lent c.requires.part c.index-nodes-number.is)
    c.in_default.not-Named c.in_default.not-Unary c.in_default.not-Binary c.in_default.not-If)
