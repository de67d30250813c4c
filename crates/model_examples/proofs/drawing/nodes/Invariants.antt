-- The rows that were seen are drawn.
use Rattle.std.proofs.Common.{◌≡◌, map, take}
use Rattle.model_examples.specs.Drawn.{node_of}
use Rattle.model_examples.proofs.drawing.nodes.Given as goal

abbrev pub invariant-loop-word : goal.invariant-loop-word
invariant-loop-word l = l.made ≡ map node_of (take l.word-index l.words)
