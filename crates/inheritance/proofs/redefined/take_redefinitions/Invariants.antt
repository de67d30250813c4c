use Rattle.std.proofs.Common.{◌≡◌, drop}
use Rattle.link_model.specs.Readers.{target}
use Rattle.link_walk.specs.Calls.{ends}
use Rattle.link_walk.specs.Took.{took_all}
use Rattle.inheritance.specs.Sights.{sees}
use Rattle.inheritance.proofs.redefined.take_redefinitions.Given as goal

-- what is taken, and the rest taken from here, is all taken
abbrev pub invariant-loop-reference : goal.invariant-loop-reference
invariant-loop-reference l =
    took_all (ends target) (sees l.sight) (drop l.reference-index l.references) l.trail
    ≡ took_all (ends target) (sees l.sight) l.references l.initial.trail
