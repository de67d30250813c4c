use Rattle.std.proofs.Common.{◌≡◌, drop}
use Rattle.std.specs.List.{flat_map}
use Rattle.link_walk.specs.Marks.{marked_all}
use Rattle.value_model.specs.Keys.{same_value_key}
use Rattle.value_rules.specs.Reach.{led_by}
use Rattle.value_rules.proofs.reach.mark_names.Given as goal

abbrev pub invariant-loop-node : goal.invariant-loop-node
invariant-loop-node g l =
    let leads = led_by (g.M.Meanings.links l.meanings) (g.M.Meanings.library l.meanings) l.file l.target in
    marked_all same_value_key l.marks (flat_map leads (drop l.node-index l.nodes)) ≡ marked_all same_value_key l.fn.marks (flat_map leads l.nodes)
