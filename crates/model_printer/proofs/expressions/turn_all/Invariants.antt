use Rattle.std.proofs.Common.{◌≡◌, reverse}
use Rattle.model_printer.specs.Parts.{AreWorks, tokens_left, turns_left}
use Rattle.model_printer.specs.Sheets.{puts}
use Rattle.model_printer.proofs.expressions.turn_all.Given as goal

abbrev pub invariant-loop-work : goal.invariant-loop-work
invariant-loop-work l = record {
  same : puts l.initial.writer (tokens_left l.model l.nodes (reverse l.initial.works.items))
      ≡ puts l.writer (tokens_left l.model l.nodes (reverse l.works.items));
  stand : AreWorks l.model l.nodes (reverse l.works.items);
}

abbrev pub decreases-loop-work : goal.decreases-loop-work
decreases-loop-work l = turns_left l.model l.nodes (reverse l.works.items)
