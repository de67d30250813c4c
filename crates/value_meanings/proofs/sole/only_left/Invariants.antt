use Rattle.std.proofs.Common.{◌≡◌}
use Rattle.std.specs.Prelude.{not}
use Rattle.element_store.specs.Numbers.{those_where}
use Rattle.link_model.specs.Keys.{is_in}
use Rattle.value_model.specs.Meant.{only}
use Rattle.value_meanings.proofs.SoleLaws.{left_from}
use Rattle.value_meanings.proofs.sole.only_left.Given as goal

-- the one found so far, and those that are left, are all
abbrev pub invariant-loop-feature : goal.invariant-loop-feature
invariant-loop-feature l =
    left_from (λ g. not (is_in g l.set)) l.features l.found l.feature-index ≡ only (those_where (λ g. not (is_in g l.set)) l.features)
