use Rattle.std.proofs.Common.{◌≡◌, map}
use Rattle.draft_numbers.specs.Numbered.{member_as}
use Rattle.draft_numbers.proofs.numbering.Lists.members.Given as goal

abbrev pub invariant-loop-draft : goal.invariant-loop-draft
invariant-loop-draft l = l.members.items ≡ map (λ m. member_as l.self m.target m) l.yielded
