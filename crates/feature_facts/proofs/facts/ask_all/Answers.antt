use Rattle.std.proofs.Common.{◌∙◌, subst}
use Rattle.linker_base.specs.Members.{IsMember}
use Rattle.demand_core.specs.Computation.{joined}
use Rattle.demand_core.specs.Search.{IsAsked}
use Rattle.element_store.specs.BaseRules.{StandsIn}
use Rattle.link_model.specs.Inheritance.{all_redefined}
use Rattle.link_walk.specs.Calls.{files_of, read_by}
use Rattle.feature_facts.specs.declared.facts.Redefiner.{Redefiner}
use Rattle.feature_facts.proofs.PartNames.{member_back}
use Rattle.feature_facts.proofs.facts.ask_all.Goals as goal

pub redefined_by_all-requires-clause-stand : goal.redefined_by_all-requires-clause-stand
redefined_by_all-requires-clause-stand c = λ e m.
    let q = member_back (λ (q : Redefiner). q.feature) c.args.redefiners.now e
    (subst (λ es. IsMember es e) (c.as_slice.ensures ∙ c.in_ok-features.ensures) m) in
    subst (StandsIn (files_of c.args.heir.now.view.now)) q.2 (c.requires.stand q.0 q.1)

pub returns : goal.returns
returns c =
    subst (λ es. IsAsked c.in_ok-all.all (joined all_redefined es (read_by c.args.heir.now.view.now))) (c.as_slice.ensures ∙ c.in_ok-features.ensures)
    c.in_ok-all.ensures
