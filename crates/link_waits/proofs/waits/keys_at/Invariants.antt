-- the references so far, and those of the places that are left, are all
use Rattle.std.proofs.Common.{◌≡◌, ◌++◌, drop}
use Rattle.std.specs.Prelude.{None}
use Rattle.link_waits.specs.Waits.{keys_from}
use Rattle.link_waits.proofs.waits.keys_at.Given as goal

abbrev pub invariant-loop-place : goal.invariant-loop-place
invariant-loop-place l = l.keys ++ keys_from l.last (drop l.place-index l.places) ≡ keys_from None l.places
