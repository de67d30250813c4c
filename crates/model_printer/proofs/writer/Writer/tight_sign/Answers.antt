use Rattle.std.proofs.Common.{◌∙◌, ◌++◌, true, false, ap, sym, refl}
use Rattle.std.specs.Prelude.{not, ◌&&◌}
use Rattle.model_printer.specs.Sheets.{Sheet, blank_if}
use Rattle.model_printer.specs.Signs.{sign_bytes}
use Rattle.model_printer.proofs.SheetLaws.{put_is}
use Rattle.model_printer.proofs.SignLaws.{sign_closes}
use Rattle.model_printer.proofs.writer.Writer.tight_sign.Goals as goal

pub returns : goal.returns
returns c =
    put_is c.args.self.now (sign_bytes c.args.sign) c.extend_from_slice.new.self.items (not c.closes.result) false true
    (ap not (c.closes.ensures ∙ sym (sign_closes c.args.sign))) refl
    (c.in_ok-extend_from_slice.ensures.items
    ∙ ap (λ xs. xs ++ c.bytes.result.now) (ap (λ (s : Sheet). s.bytes) (c.self.view_is ∙ c.in_ok-push_space.ensures))
    ∙ ap (λ xs. (c.args.self.now.bytes ++ blank_if (c.args.self.now.spaced && not c.closes.result)) ++ xs) c.bytes.ensures)
