use Rattle.std.proofs.Common.{ap, sym, ◌∙◌, slice_index_or}
use Rattle.text_model.specs.Tables.{tables}
use Rattle.text_model.specs.declared.action.Meaning.TheVariants as meaning
use Rattle.text_model.proofs.Listed.{sign_meanings_listed}
use Rattle.text_model.proofs.tables.sign_meaning.Goals as goal

pub returns-in-Kerml : goal.returns-in-Kerml
unfolding tables
returns-in-Kerml c =
    c.meaning_at.ensures ∙ ap (λ xs. slice_index_or xs c.args.number meaning.Nothing) sign_meanings_listed
    ∙ ap (λ l. slice_index_or (tables l).signs c.args.number meaning.Nothing) (sym c.in-Kerml.is)

pub returns-in-Sysml : goal.returns-in-Sysml
unfolding tables
returns-in-Sysml c =
    c.meaning_at-in-Sysml.ensures ∙ ap (λ xs. slice_index_or xs c.args.number meaning.Nothing) sign_meanings_listed
    ∙ ap (λ l. slice_index_or (tables l).signs c.args.number meaning.Nothing) (sym c.in-Sysml.is)
