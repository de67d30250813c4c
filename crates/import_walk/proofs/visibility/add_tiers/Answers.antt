use Rattle.std.proofs.Common.{sym, ◌∙◌, subst, refl, length}
use Rattle.std.specs.Prelude.{◌||◌, cond}
use Rattle.demand_core.specs.Computation.{done}
use Rattle.link_model.specs.Imports.{own_tiers, import_tier}
use Rattle.link_model.specs.Outside.{library_of, is_public}
use Rattle.link_model.specs.Readers.{first_of, is_nil}
use Rattle.link_walk.specs.Calls.{read_by}
use Rattle.import_walk.specs.Deferred.{Defers, again_from, imports_at, tiers_then}
use Rattle.import_walk.proofs.DeferLaws.{decided_some, decided_none, defers_first, defers_second}
use Rattle.import_walk.proofs.visibility.add_tiers.Goals as goal

pub returns-then-decided : goal.returns-then-decided
returns-then-decided g c ask =
    let files = c.args.view.now.models.now in
    let lib = library_of files in
    let w = read_by c.args.view.now in
    let x = c.args.name.now in
    let all = c.args.all in
    let inner = c.args.inner.now in
    let gains = c.in_ok-gains.gains in
    subst (λ z. Defers ask files w inner (length (imports_at files c.args.of)) (tiers_then lib x ask inner all c.args.of w) c.args.hunt.now z)
    (sym c.in_ok-add.ensures)
    (defers_first ask files w inner (length (imports_at files c.args.of)) gains (first_of (own_tiers lib all x c.args.of))
    (λ hs. cond (is_nil hs) (import_tier (again_from ask inner) (λ i. all || is_public i.visibility) x c.args.of)
    (done hs)) c.args.hunt.now c.in_ok-gains.ensures
    (decided_some gains.waits gains.found (sym c.is_decided-decided.ensures ∙ c.if-decided.true)) (λ h hs. refl))

pub returns : goal.returns
returns g c ask =
    let files = c.args.view.now.models.now in
    let lib = library_of files in
    let w = read_by c.args.view.now in
    let x = c.args.name.now in
    let all = c.args.all in
    let inner = c.args.inner.now in
    let gains = c.in_ok-gains.gains in
    let none = decided_none gains.waits gains.found (sym c.is_decided-decided.ensures ∙ c.if-decided.false) in
    let tier = import_tier (again_from ask inner) (λ i. all || is_public i.visibility) x c.args.of in
    defers_second ask files w inner (length (imports_at files c.args.of)) gains (first_of (own_tiers lib all x c.args.of))
    (λ hs. cond (is_nil hs) tier (done hs)) c.args.hunt.now c.add_imports_of.new.hunt c.in_ok-gains.ensures none.0 none.1
    (subst (λ z. Defers ask files w inner (length (imports_at files c.args.of)) (tier w) z c.add_imports_of.new.hunt) c.in_ok-add.ensures
    (c.in_ok-add_imports_of.ensures ask))
