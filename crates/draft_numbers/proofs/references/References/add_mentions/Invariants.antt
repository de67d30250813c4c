use Rattle.std.proofs.Common.{◌≡◌}
use Rattle.draft_numbers.specs.Numbered.{added}
use Rattle.draft_numbers.proofs.references.References.add_mentions.Given as goal

abbrev pub invariant-loop-mention : goal.invariant-loop-mention
invariant-loop-mention l = l.self ≡ added l.context l.yielded l.fn.self
