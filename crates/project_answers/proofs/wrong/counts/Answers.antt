use Rattle.std.proofs.Common.{◌+◌, ◌∙◌, ap, subst, sym}
use Rattle.project_answers.proofs.WrongLaws.{AreCounted, counted_with, faults_stay}
use Rattle.project_answers.proofs.wrong.counts.Goals as goal

pub loop-number-preserved : goal.loop-number-preserved
loop-number-preserved c =
    let files = c.args.files.now in
    let numbers = c.args.numbers.now in
    let i = c.loop-number.number-index in
    let inv = c.loop-number.invariant in
    record {
      counted = subst (λ k. AreCounted files numbers (i + 1) k.files k.references) (sym c.with_file-counts.ensures.with)
          (counted_with files numbers i c.loop-number.counts _ c.report.result c.loop-number-test.true (c.requires.own i _ c.loop-number-test.true)
          c.report.ensures c.with_file-counts.ensures.few inv.counted);
      faults = ap (λ k. k.faults) c.with_file-counts.ensures.with ∙ (faults_stay c.loop-number.counts c.report.result ∙ inv.faults);
    }
