use Rattle.std.proofs.Common.{◌≡◌, take}
use Rattle.std.specs.List.{flat_map}
use Rattle.text_model.specs.Numbering.{least}
use Rattle.draft_limits.specs.Least.{deep_places}
use Rattle.draft_limits.proofs.limits.deepest.Given as goal

abbrev pub invariant-loop-draft : goal.invariant-loop-draft
invariant-loop-draft l = l.found ≡ least (flat_map deep_places (take l.draft-index l.drafts))
