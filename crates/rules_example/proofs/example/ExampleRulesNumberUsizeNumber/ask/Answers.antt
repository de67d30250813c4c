use Rattle.std.proofs.Common.{◌≡◌, ◌∙◌, length, sym, subst, arith}
use Rattle.std.proofs.lemmas.Bool.Decides.{nat_tests}
use Rattle.std.specs.Prelude.{false, nat_eq}
use Rattle.demand_core.specs.Computed.{world}
use Rattle.demand_core.specs.Tables.{entry_of}
use Rattle.demand_core.specs.declared.looks.Fact.TheVariants.{Outer}
use Rattle.rules_example.specs.Numbers.{same_number}
use Rattle.rules_example.specs.Example.{row_of}
use Rattle.rules_example.proofs.ExampleLaws.{IsFinal, same_row, ends_looks}
use Rattle.rules_example.proofs.example.ExampleRulesNumberUsizeNumber.ask.Goals as goal

pub returns-then-value-ne0-clause-looks : goal.returns-then-value-ne0-clause-looks
returns-then-value-ne0-clause-looks g c =
    let not_zero : nat_eq c.in-Done.value 0 ≡ false = let h = c.if-value-ne0.true in grind (arith, nat_tests) in
    ends_looks (length c.args.self.now) c.args.key (world (row_of c.args.self.now) (entry_of same_number c.args.table.now)) c.loop-pair.pair-index
    c.as_slice-pair-items.result.now (row_of c.args.self.now c.args.key) _ c.in_ok-value.field-0
    c.args.looks.now c.add.new.self c.loop-pair.looks c.read_pair.new.looks (Outer c.args.key)
    (same_row c.as_slice-rows.result.now c.args.self.now c.args.key.0 c.index-rows-key.result c.as_slice-pair-items.result.now
    c.as_slice-pair-items.ensures c.index-rows-key.is c.if-key-rows.true (c.as_slice-rows.ensures.value ∙ c.self.view_is)) c.loop-pair-test.true
    c.in_ok-add.ensures.ok c.loop-pair.invariant.looks c.in_ok-value.ensures.looks c.in_ok-value.ensures.answer
    (subst IsFinal (sym c.in-Done.is) not_zero)

pub returns-in-Waits-clause-looks : goal.returns-in-Waits-clause-looks
returns-in-Waits-clause-looks g c =
    ends_looks (length c.args.self.now) c.args.key (world (row_of c.args.self.now) (entry_of same_number c.args.table.now)) c.loop-pair.pair-index
    c.as_slice-pair-items.result.now (row_of c.args.self.now c.args.key) _ c.in_ok-value.field-0
    c.args.looks.now c.add.new.self c.loop-pair.looks c.read_pair.new.looks (Outer c.args.key)
    (same_row c.as_slice-rows.result.now c.args.self.now c.args.key.0 c.index-rows-key.result c.as_slice-pair-items.result.now
    c.as_slice-pair-items.ensures c.index-rows-key.is c.if-key-rows.true (c.as_slice-rows.ensures.value ∙ c.self.view_is)) c.loop-pair-test.true
    c.in_ok-add.ensures.ok c.loop-pair.invariant.looks c.in_ok-value.ensures.looks c.in_ok-value.ensures.answer
    (subst IsFinal (sym c.in-Waits.is) tt)
