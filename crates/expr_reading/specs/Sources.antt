-- An expression of a feature that is read for a target: what its reader has to know.
use Rattle.std.specs.Prelude.{ℕ, List}
use Rattle.element_store.specs.declared.expression.Node.{Node}
use Rattle.demand_core.specs.Tables.{Decided}
use Rattle.demand_core.specs.Computed.{world}
use Rattle.link_model.specs.Outside.{Library}
use Rattle.link_model.specs.Readers.{LinkWorld}
use Rattle.value_model.specs.declared.values.Spot.{Spot}
use Rattle.value_model.specs.declared.values.ValueAnswer.{ValueAnswer}
use Rattle.value_model.specs.declared.values.ValueKey.{ValueKey}
use Rattle.value_model.specs.Trees.{tree}
use Rattle.value_model.specs.Reading as reading
use Rattle.value_model.specs.Reading.Lead.{Known, Needs}
use Rattle.value_model.specs.Reading.{Place, node_spot, worth}
use Rattle.value_model.specs.Valuing.{nothing}
use Rattle.value_model.specs.Slots.{Slot}
use Rattle.expr_reading.specs.declared.source.Lead.{Lead}
use Rattle.expr_reading.specs.declared.source.Lead.TheVariants as lead

-- an expression: its nodes, whose it is and for which target, and the links and the library through which it is read
pub record Expression : Type 0 where
  pub links : LinkWorld
  pub library : Library
  pub place : Place
  pub nodes : List Node

-- a lead in the words of the definitions
abbrev pub as_lead : Lead → reading.Lead
as_lead (lead.Known x) = Known x
as_lead (lead.Needs k) = Needs k

-- where the name of that reference leads
abbrev pub lead_in : Expression → ℕ → reading.Lead
lead_in e r = reading.lead e.links e.library e.place.feature.file e.place.target r

-- the spot of the node of that number
abbrev pub spot_in : Expression → ℕ → Spot
spot_in e n = node_spot e.links e.place n

-- what reading it gives over a table
abbrev pub worth_in : Expression → Decided ValueKey ValueAnswer → Slot
worth_in e s = worth e.links e.library e.place (tree e.nodes) (world nothing s)
