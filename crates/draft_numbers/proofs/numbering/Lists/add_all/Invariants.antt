use Rattle.std.proofs.Common.{◌≡◌}
use Rattle.draft_numbers.specs.Numbered.{with_drafts}
use Rattle.draft_numbers.proofs.numbering.Lists.add_all.Given as goal

abbrev pub invariant-loop-draft : goal.invariant-loop-draft
invariant-loop-draft l = l.self ≡ with_drafts l.fn.self l.yielded
