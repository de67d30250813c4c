-- The files of the members so far don't stand behind.
use Rattle.std.proofs.Common.{◌≡◌, ◌<◌, ℕ, false}
use Rattle.std.specs.Prelude.{Some, slice_get}
use Rattle.element_store.specs.declared.numbers.MemberNo.{MemberNo}
use Rattle.root_names.specs.Steps.{is_behind}
use Rattle.root_names.proofs.placing.place_of.Given as goal

abbrev pub invariant-loop-place : goal.invariant-loop-place
invariant-loop-place l = (k : ℕ) (z : MemberNo) → k < l.place → slice_get l.members k ≡ Some z → is_behind l.models l.file z ≡ false
