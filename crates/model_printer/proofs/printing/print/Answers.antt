use Rattle.std.proofs.Common.{◌∙◌, ◌++◌, [], ◌∷◌, ap, reverse}
use Rattle.print_model.specs.Layout.{text_of}
use Rattle.model_printer.specs.Sheets.{Sheet}
use Rattle.model_printer.specs.Bodies.{lines_left}
use Rattle.model_printer.proofs.OpenLaws.{first_of, has_root, model_left}
use Rattle.model_printer.proofs.printing.print.Goals as goal

pub returns : goal.returns
returns c =
    let d = c.args.model.now in
    c.into_text.ensures ∙ c.in_ok-write_bodies.ensures
    ∙ ap (λ (s : Sheet). s.bytes ++ text_of (lines_left d (reverse c.push.new.self.items))) c.new-writer.ensures
    ∙ ap (λ bs. text_of (lines_left d (reverse bs))) (c.in_ok-push.ensures.items ∙ ap (λ bs. bs ++ first_of 0 ∷ []) c.new-bodies.ensures.items)
    ∙ ap text_of (model_left d c.elements.ensures.model (has_root d c.elements.ensures.model))
