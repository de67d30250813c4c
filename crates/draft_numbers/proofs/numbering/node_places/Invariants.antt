use Rattle.std.proofs.Common.{◌≡◌, map, take}
use Rattle.draft_numbers.proofs.numbering.node_places.Given as goal

abbrev pub invariant-loop-node : goal.invariant-loop-node
invariant-loop-node l = l.places.items ≡ map (λ n. n.place) (take l.node-index l.nodes)
