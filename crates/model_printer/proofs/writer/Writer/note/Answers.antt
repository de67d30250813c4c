use Rattle.std.proofs.Common.{◌∙◌, ◌++◌, ap, refl, append_assoc}
use Rattle.std.specs.Prelude.{codes, ◌&&◌, true}
use Rattle.model_printer.specs.Sheets.{Sheet, blank_if}
use Rattle.model_printer.proofs.SheetLaws.{put_plain}
use Rattle.model_printer.proofs.writer.Writer.note.Goals as goal

pub returns : goal.returns
returns c =
    put_plain c.args.self.now (codes "/*" ++ (c.args.bytes.now ++ codes "*/")) c.extend_from_slice-3.new.self.items refl
    (c.in_ok-extend_from_slice-3.ensures.items
    ∙ ap (λ xs. xs ++ codes "*/") (c.in_ok-extend_from_slice-2.ensures.items ∙ ap (λ xs. xs ++ c.args.bytes.now)
    (c.in_ok-extend_from_slice.ensures.items ∙ ap (λ xs. xs ++ codes "/*") (ap (λ (s : Sheet). s.bytes) (c.self.view_is ∙ c.in_ok-push_space.ensures))))
    ∙ append_assoc ((c.args.self.now.bytes ++ blank_if (c.args.self.now.spaced && true)) ++ codes "/*") c.args.bytes.now (codes "*/")
    ∙ append_assoc (c.args.self.now.bytes ++ blank_if (c.args.self.now.spaced && true)) (codes "/*") (c.args.bytes.now ++ codes "*/"))
