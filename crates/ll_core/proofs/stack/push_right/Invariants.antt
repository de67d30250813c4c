use Rattle.std.proofs.Common.{◌≡◌, ◌∷◌, ◌≤◌, length, drop}
use Rattle.std.specs.Prelude.{reverse}
use Rattle.ll_core.specs.Stack.{tasks}
use Rattle.ll_core.specs.declared.stack.Task.TheVariants.{Close}
use Rattle.ll_core.proofs.stack.push_right.Given as goal

abbrev pub invariant-loop-left : goal.invariant-loop-left
invariant-loop-left l = record {
  within : l.left ≤ length l.right;
  pushed : reverse l.stack.items ≡ tasks (drop l.left l.right) (Close ∷ reverse l.fn.stack.items);
}

abbrev pub decreases-loop-left : goal.decreases-loop-left
decreases-loop-left l = l.left
