use Rattle.std.proofs.Common.{ap, sym, ◌∙◌, slice_index_or}
use Rattle.text_model.specs.Tables.{tables, action_at}
use Rattle.text_model.specs.declared.action.Action.TheVariants as action
use Rattle.text_model.proofs.Listed.{kerml_actions_listed, sysml_actions_listed}
use Rattle.text_model.proofs.tables.action_of.Goals as goal

pub returns-in-Kerml : goal.returns-in-Kerml
unfolding tables
returns-in-Kerml c =
    c.action_in.ensures ∙ ap (λ xs. slice_index_or xs c.args.production action.Group) kerml_actions_listed
    ∙ ap (λ l. action_at (tables l) c.args.production) (sym c.in-Kerml.is)

pub returns-in-Sysml : goal.returns-in-Sysml
unfolding tables
returns-in-Sysml c =
    c.action_in-in-Sysml.ensures ∙ ap (λ xs. slice_index_or xs c.args.production action.Group) sysml_actions_listed
    ∙ ap (λ l. action_at (tables l) c.args.production) (sym c.in-Sysml.is)
