use Rattle.std.proofs.Common.{◌≡◌, drop}
use Rattle.model_printer.specs.Ends.{more_ends}
use Rattle.model_printer.specs.Sheets.{puts}
use Rattle.model_printer.proofs.ends.write_more_ends.Given as goal

abbrev pub invariant-loop-end : goal.invariant-loop-end
invariant-loop-end l = puts l.initial.writer (more_ends l.model l.ends) ≡ puts l.writer (more_ends l.model (drop l.end-index l.ends))
