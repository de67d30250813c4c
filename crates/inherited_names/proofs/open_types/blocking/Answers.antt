use Rattle.std.proofs.Common.{◌≡◌, ◌+◌, drop, sym, ◌∙◌, ap, arith}
use Rattle.std.specs.Prelude.{◌||◌}
use Rattle.std.specs.List.{list_any}
use Rattle.link_model.specs.Keys.{is_in}
use Rattle.link_walk.proofs.TookLaws.{next_is, none_left}
use Rattle.inherited_names.specs.Stages.{is_blocking}
use Rattle.feature_facts.proofs.Tests.{one_moved, or_none}
use Rattle.inherited_names.proofs.TestLaws.{tested}
use Rattle.inherited_names.proofs.open_types.blocking.Goals as goal

pub loop-direct-init : goal.loop-direct-init
loop-direct-init c u = ap (λ s. is_in u s || list_any (is_blocking c.args.removed.now u) c.args.directs.now) c.new-set.ensures

pub loop-direct-preserved : goal.loop-direct-preserved
loop-direct-preserved c u =
    let xs = c.args.directs.now in
    let i = c.loop-direct.direct-index in
    let test = list_any (is_blocking c.args.removed.now u) in
    ap (λ b. b || test (drop (i + 1) xs)) (c.in_ok-add_owner.ensures u ∙ tested _ _ _ _ c.has.ensures)
    ∙ (one_moved _ (is_in u c.loop-direct.set) _
    ∙ (ap (λ ys. is_in u c.loop-direct.set || test ys) (sym (next_is xs i _ c.loop-direct-test.true)) ∙ c.loop-direct.invariant u))

pub returns : goal.returns
returns c u =
    let test = list_any (is_blocking c.args.removed.now u) in
    sym (or_none (is_in u c.loop-direct.set))
    ∙ (ap (λ ys. is_in u c.loop-direct.set || test ys) (sym (none_left c.args.directs.now c.loop-direct.direct-index
    (omega (arith, c.loop-direct-test.false)))) ∙ c.loop-direct.invariant u)
