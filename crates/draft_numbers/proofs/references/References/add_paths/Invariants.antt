use Rattle.std.proofs.Common.{◌≡◌}
use Rattle.text_model.specs.Drafts.{mentions}
use Rattle.draft_numbers.specs.Numbered.{added}
use Rattle.draft_numbers.proofs.references.References.add_paths.Given as goal

abbrev pub invariant-loop-path : goal.invariant-loop-path
invariant-loop-path l = l.self ≡ added l.context (mentions l.role l.yielded) l.fn.self
