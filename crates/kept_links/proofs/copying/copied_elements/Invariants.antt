use Rattle.std.proofs.Common.{◌≡◌, ◌++◌, drop}
use Rattle.kept_links.proofs.copying.copied_elements.Given as goal

-- what is copied, and what is left, is all
abbrev pub invariant-loop-element : goal.invariant-loop-element
invariant-loop-element l = l.copy ++ drop l.element-index l.element-items ≡ l.elements
