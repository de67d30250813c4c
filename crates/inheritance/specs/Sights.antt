-- What a search reads: the links decided so far, or as if no link were to come any more.
use Rattle.std.specs.Prelude.{Bool, true, false, cond, List, [], ◌∷◌, ◌++◌, Option, Some}
use Rattle.std.specs.Option.{option_map_or}
use Rattle.demand_core.specs.Computation.{◌>>=◌, joined}
use Rattle.demand_core.specs.Gather.{follow}
use Rattle.element_store.specs.declared.numbers.ElementNo.{ElementNo}
use Rattle.element_store.specs.declared.outcome.Outcome.{Outcome}
use Rattle.element_store.specs.declared.outcome.Outcome.TheVariants.{Absent}
use Rattle.element_store.specs.Stored.{AreFiles}
use Rattle.link_model.specs.declared.keys.LinkKey.{LinkKey}
use Rattle.link_model.specs.Inheritance.{general}
use Rattle.link_model.specs.Keys.{same_element}
use Rattle.link_model.specs.Names.{redefinitions}
use Rattle.link_model.specs.Readers.{Lookup, LinkWorld, most, target}
use Rattle.link_model.specs.Settled.{explicit_links}
use Rattle.link_walk.specs.Calls.{reading, AreLinks}
use Rattle.link_walk.specs.Marks.{marked}
use Rattle.link_walk.specs.Noted.{LinkTrail}
use Rattle.inheritance.specs.declared.sight.Sight.{Sight}

-- an open reference is refused, where all is settled
abbrev pub seen_as : Bool → Option Outcome → Option Outcome
seen_as false o = o
seen_as true o = Some (option_map_or (λ o. o) o (Absent 1))

abbrev pub world_as : Bool → LinkWorld → LinkWorld
world_as settled w = record { table = λ k. seen_as settled (w.table k); outer = w.outer }

-- the files that are seen, and the library among them
abbrev pub sees : Sight → LinkWorld
sees s = world_as s.settled (reading s.view.now.models.now s.view.now.table.now)

-- the files are a project's, and the outcomes are decided ones that fit
pub record IsClear (s : Sight) : Type 0 where
  pub files : AreFiles s.view.now.models.now
  pub links : AreLinks s.view.now.models.now s.view.now.table.now

-- what is waited on where a reference is open
abbrev pub waits_unless : Bool → LinkKey → List LinkKey
waits_unless settled r = cond settled [] (r ∷ [])

-- the types to which chains of explicit generals lead
abbrev pub explicit_reached : ElementNo → Lookup (List ElementNo)
explicit_reached t = follow same_element explicit_links general most t

-- an element is found, and marked where it wasn't
abbrev pub found_if : Bool → ElementNo → LinkTrail ElementNo → LinkTrail ElementNo
found_if b e t = cond b (record t { nodes = marked same_element t.nodes e; found = t.found ++ e ∷ [] }) t

-- what a feature redefines directly
abbrev pub direct_targets : ElementNo → Lookup (List ElementNo)
direct_targets f = redefinitions f >>= joined target
