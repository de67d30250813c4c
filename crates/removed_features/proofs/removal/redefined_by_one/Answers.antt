use Rattle.std.proofs.Common.{inl, inr, subst}
use Rattle.linker_base.specs.Members.{IsMember}
use Rattle.demand_core.specs.Computation.{joined}
use Rattle.demand_core.specs.Search.{IsAsked}
use Rattle.element_store.specs.BaseRules.{StandsIn}
use Rattle.link_model.specs.Inheritance.{all_redefined}
use Rattle.link_walk.specs.Calls.{files_of, read_by}
use Rattle.removed_features.proofs.RemovalLaws.{asked_one}
use Rattle.removed_features.proofs.removal.redefined_by_one.Goals as goal

pub redefined_by_all-requires-clause-stand : goal.redefined_by_all-requires-clause-stand
redefined_by_all-requires-clause-stand c = λ f m. elim (subst (λ es. IsMember es f) c.as_slice.ensures m) [
  | inl is ↦ subst (StandsIn (files_of c.args.heir.now.view.now)) is c.requires.stands
  | inr none ↦ absurd none
]

pub returns : goal.returns
returns c =
    let w = read_by c.args.heir.now.view.now in
    asked_one w c.args.e c.in_ok-all.all
    (subst (λ es. IsAsked c.in_ok-all.all (joined all_redefined es w)) c.as_slice.ensures c.in_ok-all.ensures)
