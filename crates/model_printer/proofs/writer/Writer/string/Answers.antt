use Rattle.std.proofs.Common.{◌∙◌, ◌++◌, ap, refl}
use Rattle.std.specs.Prelude.{◌&&◌, true}
use Rattle.model_printer.specs.Sheets.{Sheet, blank_if}
use Rattle.model_printer.proofs.SheetLaws.{put_plain}
use Rattle.token_core.specs.Spelling.{string_spelling}
use Rattle.model_printer.proofs.writer.Writer.string.Goals as goal

pub returns : goal.returns
returns c =
    put_plain c.args.self.now (string_spelling c.args.text.now) c.push_quoted.new.bytes.items refl
    (c.in_ok-push_quoted.ensures ∙ ap (λ xs. xs ++ string_spelling c.bytes.result.now)
    (ap (λ (s : Sheet). s.bytes) (c.self.view_is ∙ c.in_ok-push_space.ensures))
    ∙ ap (λ xs. (c.args.self.now.bytes ++ blank_if (c.args.self.now.spaced && true)) ++ string_spelling xs) c.bytes.ensures)
