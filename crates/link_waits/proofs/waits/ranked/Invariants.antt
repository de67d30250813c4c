-- what is ranked, and what is left, is all
use Rattle.std.proofs.Common.{◌≡◌, ◌++◌, map, drop}
use Rattle.link_waits.specs.Waits.{place_of}
use Rattle.link_waits.proofs.waits.ranked.Given as goal

abbrev pub invariant-loop-key : goal.invariant-loop-key
invariant-loop-key l = l.places.items ++ map (place_of l.ranks) (drop l.key-index l.waits) ≡ map (place_of l.ranks) l.waits
