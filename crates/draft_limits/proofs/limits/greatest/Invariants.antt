use Rattle.std.proofs.Common.{◌≡◌, take}
use Rattle.text_model.specs.Numbering.{greatest}
use Rattle.draft_limits.proofs.limits.greatest.Given as goal

abbrev pub invariant-loop-number : goal.invariant-loop-number
invariant-loop-number l = l.found ≡ greatest (take l.number-index l.numbers)
