use Rattle.std.proofs.Common.{◌∙◌, sym, ap, subst}
use Rattle.linker_base.specs.Members.{IsMember}
use Rattle.element_store.specs.Stored.{AreFiles}
use Rattle.link_model.specs.Outside.{keys_of}
use Rattle.book_model.specs.Live.{NamesLive}
use Rattle.book_model.specs.Outcomes.{outcome_of}
use Rattle.std.specs.Prelude.{slice_get}
use Rattle.project_answers.proofs.RowLaws.{live_key, names_live, role_read, row_made}
use Rattle.project_answers.proofs.rows.row_of.Goals as goal

pub outcome-requires-clause-stands : goal.outcome-requires-clause-stands
outcome-requires-clause-stands g c =
    subst (λ s. IsMember (keys_of s) (record { 0 = c.args.reference })) (sym c.models-2.ensures) (live_key c.args.files.now c.args.reference c.requires.stands)

pub returns-clause-row : goal.returns-clause-row
returns-clause-row g c =
    row_made c.args.files.now c.args.reference c.reference.result.now.role c.reference_place-place.result c.in_ok-outcome.outcome
    (role_read c.args.files.now c.args.reference c.reference.result.now
    (ap (λ d. slice_get d.references c.args.reference.index) (sym c.model.ensures.model) ∙ c.reference.ensures.lent))
    c.reference_place-place.ensures (c.in_ok-outcome.ensures ∙ ap (λ s. outcome_of s c.args.reference) c.models-2.ensures)

pub returns-clause-names : goal.returns-clause-names
returns-clause-names g c =
    subst (NamesLive c.args.files.now) (sym (c.in_ok-outcome.ensures ∙ ap (λ s. outcome_of s c.args.reference) c.models-2.ensures))
    (names_live c.args.files.now c.args.reference (subst AreFiles c.models.ensures c.files.ensures.kept) c.requires.stands)
