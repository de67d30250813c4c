use Rattle.std.proofs.Common.{◌∙◌, ◌++◌, ap}
use Rattle.std.specs.Prelude.{◌&&◌, true}
use Rattle.model_printer.specs.Sheets.{Sheet, blank_if}
use Rattle.model_printer.proofs.SheetLaws.{put_plain}
use Rattle.model_printer.proofs.PlainLaws.{number_plain, signed_back}
use Rattle.std.specs.Fmt.{signed_decimal}
use Rattle.model_printer.proofs.writer.Writer.number.Goals as goal

pub returns : goal.returns
returns c =
    put_plain c.args.self.now (signed_decimal c.args.number) c.extend_from_slice.new.self.items
    (number_plain c.args.number c.ranges.number)
    (c.in_ok-extend_from_slice.ensures.items ∙ ap (λ xs. xs ++ c.as_bytes.result.now)
    (ap (λ (s : Sheet). s.bytes) (c.self.view_is ∙ c.in_ok-push_space.ensures))
    ∙ ap (λ xs. (c.args.self.now.bytes ++ blank_if (c.args.self.now.spaced && true)) ++ xs) (c.as_bytes.ensures.value ∙ c.format.ensures.text
    ∙ ap signed_decimal (signed_back c.args.number c.ranges.number)))
