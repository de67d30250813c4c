use Rattle.std.proofs.Common.{◌∙◌, ap}
use Rattle.std.specs.Prelude.{not, ◌||◌, ◌&&◌}
use Rattle.demand_core.proofs.AlikeLaws.{any_over}
use Rattle.link_model.specs.Keys.{is_in, same_element}
use Rattle.link_model.specs.Settled.{settled_redefined}
use Rattle.link_walk.specs.Calls.{read_by}
use Rattle.value_meanings.proofs.sole.add_redefined.Goals as goal

pub returns : goal.returns
returns c =
    λ g.
    let all = settled_redefined c.args.by (read_by c.args.view.now) in
    c.in_ok-add_others.ensures g ∙ ap (λ b. is_in g c.args.set.now || (not (same_element c.args.by g) && b))
    (ap (is_in g) c.as_slice.ensures ∙ any_over (same_element g) c.in_ok-redefined.redefined all c.in_ok-redefined.ensures)
