use Rattle.std.proofs.Common.{◌≡◌, drop}
use Rattle.print_model.specs.Trees.{behind}
use Rattle.model_printer.specs.Sheets.{puts}
use Rattle.model_printer.specs.Signs.{sign_bytes}
use Rattle.model_printer.proofs.references.write_behind.Given as goal

abbrev pub invariant-loop-segment : goal.invariant-loop-segment
invariant-loop-segment l =
    puts l.initial.writer (behind l.language (sign_bytes l.mark) l.segments)
    ≡ puts l.writer (behind l.language (sign_bytes l.mark) (drop l.segment-index l.segments))
