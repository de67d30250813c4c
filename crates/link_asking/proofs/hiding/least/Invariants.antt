-- the least of the hits from here on
use Rattle.std.proofs.Common.{◌≡◌, ◌≤◌, List, drop, length, map}
use Rattle.std.specs.Prelude.{IfSome}
use Rattle.std.specs.Option.{option_map}
use Rattle.linker_base.specs.Members.{IsMember}
use Rattle.element_store.specs.Stored.{AreFiles}
use Rattle.element_store.specs.declared.models.StoredFile.{StoredFile}
use Rattle.link_model.specs.Lexical.{least_of}
use Rattle.link_tiers.specs.Picks.{ranked}
use Rattle.link_waits.specs.Ranks.{AreRanksOf}
use Rattle.link_asking.proofs.hiding.least.Given as goal

abbrev pub invariant-loop-at : goal.invariant-loop-at
invariant-loop-at l = (l.at ≤ length l.hits)
    × ((files : List StoredFile) → AreFiles files → AreRanksOf files l.ranks
    → option_map (ranked files) l.least ≡ least_of (map (ranked files) (drop l.at l.hits)))
    × IfSome l.least (IsMember l.hits)

abbrev pub decreases-loop-at : goal.decreases-loop-at
decreases-loop-at l = l.at
