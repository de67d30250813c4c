use Rattle.std.proofs.Common.{◌≡◌, map}
use Rattle.draft_numbers.specs.Numbered.{import_as}
use Rattle.draft_numbers.proofs.numbering.Lists.imports.Given as goal

abbrev pub invariant-loop-draft : goal.invariant-loop-draft
invariant-loop-draft l = l.imports.items ≡ map (import_as l.self) l.yielded
