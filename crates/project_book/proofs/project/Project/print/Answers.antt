use Rattle.std.proofs.Common.{◌≡◌, ◌∙◌, ap, sym, subst}
use Rattle.std.specs.Prelude.{Some, None}
use Rattle.std.specs.Option.{option_map}
use Rattle.model_printer.specs.Conditions.{HasExpressions}
use Rattle.print_model.specs.Heads.{printed_text}
use Rattle.book_model.specs.declared.rows.FileReport.TheVariants.{Refused}
use Rattle.book_model.specs.declared.rows.Printed.TheVariants as printed
use Rattle.book_model.specs.Files.{model_at}
use Rattle.book_model.specs.Queries.{print_query}
use Rattle.book_model.specs.Rows.{report_of}
use Rattle.project_files.specs.Kept.{content_at}
use Rattle.project_book.proofs.PrintLaws.{IsWithinProfile, print_asks, print_gone, print_new, print_refused, print_text, profile_model, within_profile}
use Rattle.project_book.proofs.project.Project.print.Goals as goal

pub returns-in_default : goal.returns-in_default
returns-in_default c =
    let files = ap (λ held. held.files) c.self.view_is in
    subst (λ fs. None ≡ print_query fs c.args.name.now) files (print_new c.self.inside.named c.args.name.now c.in_default.ensures)

pub returns-in-None : goal.returns-in-None
returns-in-None c =
    let files = ap (λ held. held.files) c.self.view_is in
    let gone = subst (λ fs. None ≡ option_map report_of (content_at fs c.in-Some.file)) c.files-files.ensures.lent c.in-None.ensures in
    subst (λ fs. None ≡ print_query fs c.args.name.now) files (print_gone c.self.inside.named c.args.name.now c.in-Some.file c.in-Some.ensures gone)

pub returns-in-Some-Refused : goal.returns-in-Some-Refused
returns-in-Some-Refused c =
    let files = ap (λ held. held.files) c.self.view_is in
    let fault = c.in-Some-Refused.fault in
    let place = c.in-Some-Refused.place in
    let is = subst (λ fs. Some (Refused fault place) ≡ option_map report_of (content_at fs c.in-Some.file)) c.files-files.ensures.lent
    (ap Some (sym c.in-Some-Refused.field-0-is) ∙ c.in-Some-Refused.ensures) in
    subst (λ fs. Some (printed.Refused fault place) ≡ print_query fs c.args.name.now) files
    (print_refused c.self.inside.named c.args.name.now c.in-Some.file fault place c.in-Some.ensures is)

pub model-requires : goal.model-requires
model-requires c =
    let h = within_profile c.files-files.result.now c.in-Some.file c.in-Some-In.field-0-0 c.in-Some-In.field-0-1
    (ap Some (sym c.in-Some-In.field-0-is) ∙ c.in-Some-In.ensures) in
    (h.model, profile_model c.files-files.result.now c.in-Some.file h)

pub print-requires : goal.print-requires
print-requires c =
    let lent = c.files-files.ensures.lent in
    let file = c.in-Some.file in
    let h = subst (λ fs. IsWithinProfile fs file) lent (within_profile c.files-files.result.now file c.in-Some-In.field-0-0 c.in-Some-In.field-0-1
    (ap Some (sym c.in-Some-In.field-0-is) ∙ c.in-Some-In.ensures)) in
    let asks = print_asks c.self.inside.named file h c.args.name.now c.self.inside.bytes c.files-files.ensures.read c.self.invariant c.in-Some.ensures in
    subst HasExpressions (sym (c.model.ensures.model ∙ ap (λ fs. model_at fs file) lent)) asks

pub returns-in_ok-text-in-Some-In : goal.returns-in_ok-text-in-Some-In
returns-in_ok-text-in-Some-In c =
    let files = ap (λ held. held.files) c.self.view_is in
    let lent = c.files-files.ensures.lent in
    let file = c.in-Some.file in
    let h = subst (λ fs. IsWithinProfile fs file) lent (within_profile c.files-files.result.now file c.in-Some-In.field-0-0 c.in-Some-In.field-0-1
    (ap Some (sym c.in-Some-In.field-0-is) ∙ c.in-Some-In.ensures)) in
    let model = c.model.ensures.model ∙ ap (λ fs. model_at fs file) lent in
    let text = c.in_ok-text-in-Some-In.ensures ∙ ap printed_text model in
    ap (λ t. Some (printed.Text t)) text
    ∙ subst (λ fs. Some (printed.Text (printed_text (model_at c.self.inside.named file))) ≡ print_query fs c.args.name.now) files
    (print_text c.self.inside.named file h c.args.name.now c.in-Some.ensures)
