use Rattle.std.proofs.Common.{◌≡◌, ◌++◌, map, drop}
use Rattle.std.specs.List.{flat_map}
use Rattle.element_store.specs.Numbers.{places_from}
use Rattle.link_walk.specs.Calls.{read_by}
use Rattle.implied_model.specs.Implied.{implied_at}
use Rattle.implied_rules.specs.Implied.{AreStanding, said_by}
use Rattle.implied_rules.proofs.implying.add_file.Given as goal

-- what the rows say, and what is left, is all; and they stand as those before
abbrev pub invariant-loop-index : goal.invariant-loop-index
invariant-loop-index l =
    let files = l.view.models.now in
    let said = implied_at files (read_by l.view) l.file l.model in
    (map said_by l.rows ++ flat_map said (places_from l.index (drop l.index l.model.elements))
    ≡ map said_by l.initial.rows ++ flat_map said (places_from 0 l.model.elements))
    × (AreStanding files l.initial.rows → AreStanding files l.rows)
