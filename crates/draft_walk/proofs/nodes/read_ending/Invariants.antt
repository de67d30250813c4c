use Rattle.std.proofs.Common.{◌≡◌, take}
use Rattle.text_model.specs.Drafts.{has_what, is_all, is_deep, is_star}
use Rattle.draft_walk.proofs.nodes.read_ending.Given as goal

abbrev pub invariant-loop-node : goal.invariant-loop-node
invariant-loop-node l = record {
  star : l.ending.star ≡ has_what is_star (take l.node-index l.nodes);
  recursive : l.ending.recursive ≡ has_what is_deep (take l.node-index l.nodes);
  all : l.ending.all ≡ has_what is_all (take l.node-index l.nodes);
}
