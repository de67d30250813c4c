use Rattle.std.proofs.Common.{◌++◌, ◌∙◌, [], ap, subst}
use Rattle.std.specs.Prelude.{codes}
use Rattle.element_store.specs.declared.outcome.Language.TheVariants.{Sysml}
use Rattle.element_store.specs.Stored.{AreFiles}
use Rattle.book_model.specs.Outcomes.{found_of}
use Rattle.book_model.specs.Printed.{outcome_text}
use Rattle.book_model.specs.Spelling.{written_name}
use Rattle.project_answers.proofs.FindLaws.{find_parts, names_found}
use Rattle.project_answers.proofs.finding.find_line.Goals as goal

pub write_outcome-requires : goal.write_outcome-requires
write_outcome-requires g c =
    names_found c.args.files.now c.args.name.path c.in_ok-outcome.outcome (subst AreFiles c.models.ensures c.files.ensures.kept)
    (c.in_ok-outcome.ensures ∙ ap (λ s. found_of s c.args.name.path) c.models-2.ensures)

pub returns : goal.returns
returns g c =
    let spelt = written_name Sysml c.args.name.absolute in
    let begun = ap (λ l. l ++ spelt c.as_slice.result.now []) c.in_ok-line.ensures.items ∙ ap (λ p. codes "find " ++ spelt p []) c.as_slice.ensures in
    let named = c.in_ok-write.ensures ∙ ap (λ l. l ++ codes " -> ") (c.in_ok-write_qualified.ensures ∙ begun) in
    let told = c.in_ok-write_outcome.ensures ∙ ap (λ l. l ++ outcome_text c.args.files.now c.in_ok-outcome.outcome) named in
    find_parts c.args.files.now c.args.name.absolute c.args.name.path c.in_ok-outcome.outcome c.write-2.new.answer.items
    (c.in_ok-outcome.ensures ∙ ap (λ s. found_of s c.args.name.path) c.models-2.ensures)
    (c.in_ok-write-2.ensures ∙ ap (λ l. l ++ codes "\n") told)
