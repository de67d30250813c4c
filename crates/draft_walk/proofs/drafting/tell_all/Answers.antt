use Rattle.std.proofs.Common.{◌≡◌, ap, ◌∙◌}
use Rattle.std.specs.Prelude.{Err}
use Rattle.text_model.specs.Languages.{grammar_of}
use Rattle.draft_walk.proofs.Heard.{place_here, shifted_more}
use Rattle.draft_walk.proofs.drafting.tell_all.Goals as goal

pub returns-in-Err-Syntax-clause-err : goal.returns-in-Err-Syntax-clause-err
returns-in-Err-Syntax-clause-err c =
    let s = c.args.source.now in
    let l = c.loop-number in (
      l.number,
      place_here (grammar_of s.language) l.parser.table l.parser.shifted s.tokens.now l.number c.terminal_of.result _ c.loop-number-test.true
          l.invariant.table l.invariant.shifted c.terminal_of.ensures.value (c.in-Err-Syntax.ensures.syntax (ap Err c.in-Err-Syntax.field-0-is)),
      c.place_of.ensures,
    )

pub loop-number-preserved : goal.loop-number-preserved
loop-number-preserved c =
    let l = c.loop-number in
    record {
      table = c.in-Ok.ensures.table ∙ l.invariant.table;
      shifted = shifted_more c.args.source.now.tokens.now l.number c.terminal_of.result _ l.parser.shifted c.take.new.parser.shifted c.loop-number-test.true
          l.invariant.shifted c.terminal_of.ensures.value c.in-Ok.ensures.shifted;
      ahead = c.in-Ok.ensures.ahead;
      fault = c.in-Ok.ensures.fault;
      heard = c.in-Ok.ensures.heard;
    }
