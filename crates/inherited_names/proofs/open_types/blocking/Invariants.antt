use Rattle.std.proofs.Common.{◌≡◌, drop}
use Rattle.std.specs.Prelude.{◌||◌}
use Rattle.std.specs.List.{list_any}
use Rattle.element_store.specs.declared.numbers.ElementNo.{ElementNo}
use Rattle.link_model.specs.Keys.{is_in}
use Rattle.inherited_names.specs.Stages.{is_blocking}
use Rattle.inherited_names.proofs.open_types.blocking.Given as goal

-- the owners so far, and those that are left, are all
abbrev pub invariant-loop-direct : goal.invariant-loop-direct
invariant-loop-direct l = (u : ElementNo) → (is_in u l.set || list_any (is_blocking l.removed u) (drop l.direct-index l.directs))
    ≡ list_any (is_blocking l.removed u) l.directs
