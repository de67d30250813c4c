-- Short words for what keys are worth over small models.
use Rattle.std.specs.Prelude.{ℕ, Bool, List, Option}
use Rattle.std.specs.List.{list_any, list_all}
use Rattle.demand_core.specs.Tables.{entry_of}
use Rattle.element_store.specs.declared.numbers.ElementNo.{ElementNo}
use Rattle.element_store.specs.declared.outcome.Outcome.{Outcome}
use Rattle.element_store.specs.declared.models.StoredFile.{StoredFile}
use Rattle.link_model.specs.declared.keys.LinkKey.{LinkKey}
use Rattle.link_model.specs.Keys.{same_key}
use Rattle.link_model.specs.Outside.{seen_in, library_of}
use Rattle.value_model.specs.declared.values.ValueKey.{ValueKey}
use Rattle.value_model.specs.declared.values.Spot.{Spot}
use Rattle.value_model.specs.declared.values.ValueAnswer.{ValueAnswer}
use Rattle.value_model.specs.Keys.{same_value_key}
use Rattle.value_model.specs.Valuing.{may_read, values_of, value_by}

-- a key: a feature, and maybe a target
abbrev pub key : ElementNo → Option ElementNo → ValueKey
key e t = record { feature = e; target = t }

-- a place in a file
abbrev pub spot : ℕ → ℕ → Spot
spot f at = record { file = record { 0 = f }; at = at }

-- what a key is worth over these links
abbrev pub worth_in : List StoredFile → List (LinkKey × Outcome) → List ValueKey → ValueKey → ValueAnswer
worth_in files links keys k = value_by (values_of files (entry_of same_key links) keys) k

-- each key that one of these may read is among them
abbrev pub closed_under : List StoredFile → List (LinkKey × Outcome) → List ValueKey → Bool
closed_under files links keys =
    list_all (λ k. list_all (λ q. list_any (same_value_key q) keys)
    (may_read (record { table = entry_of same_key links; outer = seen_in files }) (library_of files) k)) keys
