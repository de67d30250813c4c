-- What code adds for a part of a stage.
use Rattle.std.specs.Prelude.{◌⊎◌, List}
use Rattle.demand_core.specs.Search.{Part, Shows, Admits, Trail, IsKnown}
use Rattle.link_model.specs.declared.keys.LinkKey.{LinkKey}
use Rattle.link_model.specs.declared.keys.LinkFact.{LinkFact}
use Rattle.link_walk.specs.Noted.{Asks}

-- What is asked is known afterwards, and nothing else was added. Where it waits, members may have been added too.
pub record Gained {A B : Type 0} (a : Asks (List B)) (old new : Trail LinkKey LinkFact A B) : Type 0 where
  pub kept : (y : Part LinkKey LinkFact B) → IsKnown old y → IsKnown new y
  pub shown : (y : Part LinkKey LinkFact B) → Shows a y → IsKnown new y
  pub only : (y : Part LinkKey LinkFact B) → IsKnown new y → IsKnown old y ⊎ Admits a y
