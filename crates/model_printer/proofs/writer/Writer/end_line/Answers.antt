use Rattle.std.proofs.Common.{◌∙◌, ◌++◌, ◌∷◌, [], ap}
use Rattle.std.specs.Prelude.{false}
use Rattle.model_printer.specs.Sheets.{Sheet, ended}
use Rattle.model_printer.proofs.writer.Writer.end_line.Goals as goal

pub returns : goal.returns
unfolding ended
returns c =
    ap (λ xs. record { bytes = xs; spaced = false }) (c.in_ok-push.ensures.items ∙ ap (λ xs. xs ++ 10 ∷ []) (ap (λ (s : Sheet). s.bytes) c.self.view_is))
