use Rattle.std.proofs.Common.{◌∙◌, ◌++◌, ap}
use Rattle.model_printer.specs.Sheets.{Sheet}
use Rattle.model_printer.proofs.SheetLaws.{put_plain}
use Rattle.model_printer.proofs.writer.Writer.word.Goals as goal

pub returns : goal.returns
returns c =
    put_plain c.args.self.now c.args.word.now c.extend_from_slice.new.self.items c.requires
    (c.in_ok-extend_from_slice.ensures.items
    ∙ ap (λ xs. xs ++ c.args.word.now) (ap (λ (s : Sheet). s.bytes) (c.self.view_is ∙ c.in_ok-push_space.ensures)))
