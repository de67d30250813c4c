use Rattle.std.proofs.Common.{◌∙◌, ◌++◌, ap, sym, refl}
use Rattle.std.specs.Prelude.{not, ◌&&◌, true, false}
use Rattle.model_printer.specs.Sheets.{Sheet, blank_if}
use Rattle.model_printer.proofs.SheetLaws.{put_is, plain_closes}
use Rattle.model_printer.proofs.PlainLaws.{name_plain}
use Rattle.token_core.specs.Spelling.{name_spelling}
use Rattle.model_printer.proofs.writer.Writer.tight_name.Goals as goal

pub returns : goal.returns
returns c =
    put_is c.args.self.now (name_spelling c.args.language c.args.name.now) c.push_name.new.bytes.items true false true
    (sym (ap not (plain_closes (name_spelling c.args.language c.args.name.now) (name_plain c.args.language c.args.name.now)))) refl
    (c.in_ok-push_name.ensures ∙ ap (λ xs. xs ++ name_spelling c.args.language c.bytes.result.now)
    (ap (λ (s : Sheet). s.bytes) (c.self.view_is ∙ c.in_ok-push_space.ensures))
    ∙ ap (λ xs. (c.args.self.now.bytes ++ blank_if (c.args.self.now.spaced && true)) ++ name_spelling c.args.language xs) c.bytes.ensures)
