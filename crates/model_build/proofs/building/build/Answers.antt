use Rattle.std.proofs.Common.{subst, sym}
use Rattle.std.specs.Prelude.{ℕ, Option}
use Rattle.element_store.specs.Model.{Data, data_of}
use Rattle.draft_walk.specs.declared.telling.Source.{Source}
use Rattle.text_model.specs.Profile.{InProfile, IsFaultOf}
use Rattle.model_build.specs.Found.{IsFound}
use Rattle.model_build.proofs.Built.{has_tokens, in_profile, is_model, limit_passed, passed_on, tree_fault}
use Rattle.model_build.proofs.building.build.Goals as goal

pub returns-in-Err-clause-fault : goal.returns-in-Err-clause-fault
returns-in-Err-clause-fault c = c.fault_of.ensures c.args.language c.args.text.now c.in-Err.ensures.whole

pub returns-in-Some-clause-fault : goal.returns-in-Some-clause-fault
returns-in-Some-clause-fault c =
    let s : Source = record { text = c.args.text; tokens = c.as_slice.result; language = c.args.language } in
    let lexed = has_tokens s c.in-Ok.tokens c.as_slice.ensures c.in-Ok.ensures.whole in
    limit_passed s c.in_ok-drafts.drafts c.args.file (data_of c.in-Ok-find.found.parts) c.in-Some.place lexed c.in_ok-drafts.ensures.ok
    (subst (λ (o : Option ℕ). IsFound c.args.file c.args.language c.in_ok-drafts.drafts (data_of c.in-Ok-find.found.parts) o)
    c.in-Some.is c.in-Ok-find.ensures)

pub of-requires : goal.of-requires
of-requires c =
    let s : Source = record { text = c.args.text; tokens = c.as_slice.result; language = c.args.language } in
    let lexed = has_tokens s c.in-Ok.tokens c.as_slice.ensures c.in-Ok.ensures.whole in
    is_model s c.in_ok-drafts.drafts c.args.file _ c.requires lexed c.in_ok-drafts.ensures.ok
    (subst (λ (o : Option ℕ). IsFound c.args.file c.args.language c.in_ok-drafts.drafts (data_of c.in-Ok-find.found.parts) o)
    c.in_default-over.is c.in-Ok-find.ensures)

pub returns-in-Ok-of-clause-model : goal.returns-in-Ok-of-clause-model
returns-in-Ok-of-clause-model c =
    let s : Source = record { text = c.args.text; tokens = c.as_slice.result; language = c.args.language } in
    let lexed = has_tokens s c.in-Ok.tokens c.as_slice.ensures c.in-Ok.ensures.whole in
    subst (λ (m : Data). InProfile c.args.file c.args.language c.args.text.now m) (sym c.in-Ok-of.ensures)
    (in_profile s c.in_ok-drafts.drafts c.args.file _ lexed c.in_ok-drafts.ensures.ok
    (subst (λ (o : Option ℕ). IsFound c.args.file c.args.language c.in_ok-drafts.drafts (data_of c.in-Ok-find.found.parts) o)
    c.in_default-over.is c.in-Ok-find.ensures))

pub returns-in_err-drafts-clause-fault : goal.returns-in_err-drafts-clause-fault
returns-in_err-drafts-clause-fault c =
    let s : Source = record { text = c.args.text; tokens = c.as_slice.result; language = c.args.language } in
    let lexed = has_tokens s c.in-Ok.tokens c.as_slice.ensures c.in-Ok.ensures.whole in
    let p = tree_fault s c.in_err-drafts.field-0.0 lexed c.in_err-drafts.ensures.err in
    passed_on c.from_residual.result c.in_err-drafts.field-0.0 (IsFaultOf c.args.language c.args.text.now) c.from_residual.ensures.1 p
