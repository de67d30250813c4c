use Rattle.std.proofs.Common.{◌≡◌, ◌-◌, List}
use Rattle.element_store.specs.declared.numbers.ElementNo.{ElementNo}
use Rattle.element_store.specs.BaseRules.{StandsIn}
use Rattle.link_model.specs.Keys.{is_in}
use Rattle.link_model.specs.Names.{names_from, names}
use Rattle.link_model.specs.Readers.{most}
use Rattle.link_walk.specs.Calls.{files_of, read_by}
use Rattle.owned_names.specs.Walked.{Leaves}
use Rattle.owned_names.proofs.naming.naming_of.Given as goal

-- the way so far leaves the way from here on
abbrev pub invariant-loop-step : goal.invariant-loop-step
invariant-loop-step l = record {
  stands : StandsIn (files_of l.fn.view) l.at;
  leaves : (ws : List ElementNo) × ((t : ElementNo) → is_in t l.walked ≡ is_in t ws)
      × Leaves l.initial.notes l.notes (names_from (most - l._step) ws l.at (read_by l.fn.view)) (names l.fn.element (read_by l.fn.view));
}
