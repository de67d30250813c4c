use Rattle.std.proofs.Common.{arith}
use Rattle.std.proofs.lemmas.List.Elements.{All-get_or}
use Rattle.element_store.specs.declared.numbers.ElementNo.{ElementNo}
use Rattle.implied_rules.specs.declared.rows.ImpliedRow.{ImpliedRow}
use Rattle.sysml_session.specs.Answered.{across}
use Rattle.project_answers.specs.ImpliedLines.{IsLiveImplied, implied_counts, implied_line, implied_lines, one_each}
use Rattle.project_answers.specs.Parts.{IsPart}
use Rattle.project_answers.proofs.PartLaws.{given_failed, given_more, passed_on}
use Rattle.project_answers.proofs.implications.give_rows.Goals as goal

pub give_row-requires : goal.give_row-requires
give_row-requires g c =
    let first : ElementNo = record { file = record { 0 = 0 }; index = 0 } in
    let none : ImpliedRow = record { of = first; member = record { file = record { 0 = 0 }; index = 0 }; base = first } in
    All-get_or (IsLiveImplied c.args.files.now) c.args.rows.now c.loop-row.row-index none c.loop-row-test.true c.requires

pub returns-in_err-told : goal.returns-in_err-told
returns-in_err-told g c =
    let files = c.args.files.now in
    let rows = c.args.rows.now in
    passed_on c.from_residual.result c.in_err-told.field-0.0
    (IsPart (across g.K.Sink.given g.K.Sink.faults c.args.output.now c.give_row.new.output) (implied_lines files rows) (implied_counts rows))
    c.from_residual.ensures.1
    (given_failed (implied_line files) one_each _ _ _ rows c.loop-row.row-index c.loop-row.told c.in_err-told.field-0.0 _ c.loop-row-test.true
    c.loop-row.invariant.given c.in_err-told.ensures)

pub loop-row-preserved : goal.loop-row-preserved
loop-row-preserved g c =
    let few = c.loop-row.invariant.few in
    let one = c.in_ok-told.ensures.0 in
    record {
      given = given_more (implied_line c.args.files.now) one_each _ _ _ c.args.rows.now c.loop-row.row-index c.loop-row.told c.in_ok-told.field-0 _
          c.loop-row-test.true c.loop-row.invariant.given c.in_ok-told.ensures;
      few = omega (arith, few, one);
    }
