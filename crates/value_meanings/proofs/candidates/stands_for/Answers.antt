use Rattle.std.proofs.Common.{◌∙◌, sym, ap}
use Rattle.std.specs.Prelude.{◌||◌}
use Rattle.demand_core.proofs.AlikeLaws.{any_over}
use Rattle.link_model.specs.Keys.{is_in, same_element}
use Rattle.link_model.specs.Settled.{settled_redefined}
use Rattle.link_walk.specs.Calls.{read_by}
use Rattle.value_meanings.proofs.candidates.stands_for.Goals as goal

pub returns : goal.returns
returns c =
    let all = settled_redefined c.args.by (read_by c.args.view.now) in
    c.is_among-yes.ensures ∙ ap (is_in c.args.feature) c.as_slice.ensures
    ∙ any_over (same_element c.args.feature) c.in_ok-redefined.redefined all c.in_ok-redefined.ensures
    ∙ ap (λ b. b || is_in c.args.feature all) (sym (sym c.eq.ensures ∙ c.if-eq.false))
