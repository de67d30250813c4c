use Rattle.std.proofs.Common.{[], ◌∷◌, cond, subst}
use Rattle.link_model.specs.Lexical.{project_tier, library_tier}
use Rattle.link_model.specs.Outside.{library_of}
use Rattle.link_walk.specs.Calls.{files_of, read_by}
use Rattle.link_tiers.specs.Tiers.{Tried}
use Rattle.link_tiers.proofs.TierLaws.{tried_on, tried_end}
use Rattle.link_tiers.proofs.roots.try_roots.Goals as goal

pub returns-then-decided-clause-tried : goal.returns-then-decided-clause-tried
returns-then-decided-clause-tried c =
    let w = read_by c.args.view.now in
    let first = cond c.args.library [] (project_tier c.args.name.now ∷ []) in
    tried_end w first (library_tier (library_of (files_of c.args.view.now)) c.args.name.now ∷ []) c.args.gains.now c.try_project.new.gains
    (subst (λ b. Tried w first b c.args.gains.now c.try_project.new.gains) c.if-decided.true c.in_ok-decided.ensures.tried)

pub returns-clause-tried : goal.returns-clause-tried
returns-clause-tried c =
    let w = read_by c.args.view.now in
    let first = cond c.args.library [] (project_tier c.args.name.now ∷ []) in
    let last = library_tier (library_of (files_of c.args.view.now)) c.args.name.now in
    tried_on w first (last ∷ []) c.in_ok-last.last c.args.gains.now c.try_project.new.gains c.try_tier.new.gains
    (subst (λ b. Tried w first b c.args.gains.now c.try_project.new.gains) c.if-decided.false c.in_ok-decided.ensures.tried)
    (c.in_ok-last.ensures.tried w last c.in_ok-tier.ensures.asked)

pub returns-clause-found : goal.returns-clause-found
returns-clause-found c = λ before. c.in_ok-last.ensures.found (files_of c.args.view.now) c.in_ok-tier.ensures.found
