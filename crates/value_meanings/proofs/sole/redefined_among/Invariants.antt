use Rattle.std.proofs.Common.{◌≡◌}
use Rattle.element_store.specs.declared.numbers.ElementNo.{ElementNo}
use Rattle.link_walk.specs.Calls.{read_by}
use Rattle.value_model.specs.Meant.{is_redefined_among}
use Rattle.value_meanings.proofs.SoleLaws.{with_others}
use Rattle.value_meanings.proofs.sole.redefined_among.Given as goal

-- what the set has, and what the features that are left redefine, is all
abbrev pub invariant-loop-by : goal.invariant-loop-by
invariant-loop-by l = (g : ElementNo) → with_others (read_by l.view) l.features g l.set l.by-index ≡ is_redefined_among (read_by l.view) l.features g
