use Rattle.std.proofs.Common.{◌≡◌, take}
use Rattle.text_model.specs.Numbering.{least}
use Rattle.draft_limits.proofs.limits.least.Given as goal

abbrev pub invariant-loop-place : goal.invariant-loop-place
invariant-loop-place l = l.found ≡ least (take l.place-index l.places)
