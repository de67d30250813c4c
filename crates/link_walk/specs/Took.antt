-- What a search's code does to its trail, as functions.
use Rattle.std.specs.Prelude.{List, [], ◌∷◌, ◌++◌}
use Rattle.demand_core.specs.Gather.{Led}
use Rattle.demand_core.specs.declared.step.Step.{Step}
use Rattle.demand_core.specs.declared.step.Step.TheVariants.{Done, Waits}
use Rattle.element_store.specs.declared.numbers.ElementNo.{ElementNo}
use Rattle.link_model.specs.declared.keys.LinkKey.{LinkKey}
use Rattle.link_model.specs.Keys.{same_element, same_key}
use Rattle.link_model.specs.Readers.{Lookup, LinkWorld}
use Rattle.link_walk.specs.Marks.{marked_all, same_fact}
use Rattle.link_walk.specs.Noted.{Asks, LinkTrail}

module _ {B : Type 0} where
  -- waits and looks are noted on a trail, each once
  abbrev pub with_waits : LinkTrail B → List LinkKey → LinkTrail B
  with_waits t ks = record t { waits = marked_all same_key t.waits ks }

  abbrev pub with_looks : {A : Type 0} → LinkTrail B → Asks A → LinkTrail B
  with_looks t a = record t { looks = marked_all same_fact t.looks a.looks }

  -- what a link gives is found, and where it goes on is marked; or what it waits on is noted
  abbrev pub led : LinkTrail B → Step LinkKey (Led B ElementNo) → LinkTrail B
  led t (Done r) = record t { nodes = marked_all same_element t.nodes r.onward; found = t.found ++ r.found }
  led t (Waits ks) = with_waits t ks

  abbrev pub took : Asks (Led B ElementNo) → LinkTrail B → LinkTrail B
  took a t = led (with_looks t a) a.step

  module _ {L : Type 0} (leads : L → Lookup (Led B ElementNo)) (w : LinkWorld) where
    -- links are taken one after another
    abbrev pub took_all : List L → LinkTrail B → LinkTrail B
    took_all [] t = t
    took_all (l ∷ ls) t = took_all ls (took (leads l w) t)

    -- the links of a node are taken; or what they wait on is noted
    abbrev pub expanded_step : LinkTrail B → Step LinkKey (List L) → LinkTrail B
    expanded_step t (Done ls) = took_all ls t
    expanded_step t (Waits ks) = with_waits t ks

    -- A NODE IS EXPANDED: its links are read and taken.
    abbrev pub expanded : (ElementNo → Lookup (List L)) → ElementNo → LinkTrail B → LinkTrail B
    expanded links e t = expanded_step (with_looks t (links e w)) (links e w).step
