use Rattle.std.proofs.Common.{◌≡◌, ◌∙◌, [], ◌∷◌, List, ℕ, sym, ap, refl}
use Rattle.demand_core.specs.Computation.{joined}
use Rattle.demand_core.specs.declared.looks.Fact.TheVariants.{Outer}
use Rattle.link_model.specs.declared.keys.LinkFact.TheVariants.{RootName}
use Rattle.link_model.specs.Lexical.{member_hit, project_tier}
use Rattle.link_walk.specs.Calls.{files_of, read_by}
use Rattle.link_walk.specs.Marks.{marked_all, same_fact}
use Rattle.link_tiers.proofs.PartLaws.{asked_seen}
use Rattle.link_tiers.proofs.RootLaws.{project_stand}
use Rattle.link_tiers.proofs.roots.project_tier.Goals as goal

pub member_hits-requires-clause-stand : goal.member_hits-requires-clause-stand
member_hits-requires-clause-stand c =
    project_stand (files_of c.args.view.now) c.args.name.now c.bearers.result.now (c.bearers.ensures ∙ c.requires.roots.project c.args.name.now)

pub returns-clause-asked : goal.returns-clause-asked
returns-clause-asked c =
    let w = read_by c.args.view.now in
    let x = c.args.name.now in
    let bears = c.bearers.ensures ∙ c.requires.roots.project x in
    let named : c.of.result ≡ x = c.of.ensures ∙ (c.in_ok-bytes.ensures.items ∙ c.bytes.ensures) in
    asked_seen c.in_ok-gains.gains _ (project_tier x w) (joined member_hit c.bearers.result.now w) (Outer (RootName x) ∷ []) c.in_ok-gains.ensures.asked
    (ap (λ t. t.found) c.gains.view_is)
    (ap (λ n. n.waits) c.in_ok-look_for.ensures ∙ ap (λ t. t.waits) c.gains.view_is)
    (ap (λ n. n.looks) c.in_ok-look_for.ensures ∙ λ i. marked_all same_fact (c.gains.view_is i).looks (Outer (RootName (named i)) ∷ []))
    (ap (λ ms. (joined member_hit ms w).step) (sym bears)) (ap (λ ms. Outer (RootName x) ∷ (joined member_hit ms w).looks) (sym bears))
