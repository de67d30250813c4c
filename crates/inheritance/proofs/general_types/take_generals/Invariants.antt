use Rattle.std.proofs.Common.{◌≡◌, drop}
use Rattle.std.specs.Prelude.{map}
use Rattle.link_model.specs.Inheritance.{general}
use Rattle.link_model.specs.Inheritance.Link.{ByReference}
use Rattle.link_walk.specs.Calls.{ends}
use Rattle.link_walk.specs.Took.{took_all}
use Rattle.inheritance.specs.Sights.{sees}
use Rattle.inheritance.proofs.general_types.take_generals.Given as goal

-- what is taken, and the rest taken from here, is all taken
abbrev pub invariant-loop-reference : goal.invariant-loop-reference
invariant-loop-reference l =
    took_all (ends general) (sees l.sight) (map ByReference (drop l.reference-index l.references)) l.trail
    ≡ took_all (ends general) (sees l.sight) (map ByReference l.references) l.initial.trail
