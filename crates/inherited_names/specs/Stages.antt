-- The stages of what is inherited, each for a function of code.
use Rattle.std.specs.Prelude.{ℕ, Bool, cond, ◌&&◌, List, []}
use Rattle.demand_core.specs.Computation.{done, ◌>>=◌, both, joined}
use Rattle.demand_core.specs.Gather.{follow}
use Rattle.element_store.specs.declared.numbers.ElementNo.{ElementNo}
use Rattle.link_model.specs.declared.keys.Hit.{Hit}
use Rattle.link_model.specs.Keys.{same_element, is_in}
use Rattle.link_model.specs.Outside.{Library}
use Rattle.link_model.specs.Readers.{Lookup, most, is_nil, only_if, element}
use Rattle.link_model.specs.Names.{hit}
use Rattle.link_model.specs.Inheritance as inheritance
use Rattle.link_model.specs.Inheritance.{Link, Redefines, Removal, general, general_links, candidate, stays}
use Rattle.feature_facts.specs.declared.heir.Candidate.{Candidate}
use Rattle.feature_facts.specs.declared.facts.Direct.{Direct}
use Rattle.feature_facts.specs.Stages.{facts_asked}
use Rattle.removed_features.specs.Stages.{gone}

-- u owns the feature, which redefines one of these directly
abbrev pub is_blocking : List ElementNo → ElementNo → Direct → Bool
is_blocking gs u d = is_in d.redefined gs && same_element d.by.owner u

module _ (lib : Library) where
  -- the generals of a type that isn't among these
  abbrev pub open_links : List ElementNo → ElementNo → Lookup (List Link)
  open_links bs u = cond (is_in u bs) (done []) (general_links lib u)

  -- the types that are reached from t without going on from these
  abbrev pub open_reached : List ElementNo → ElementNo → Lookup (List ElementNo)
  open_reached bs t = follow same_element (open_links bs) general most t

  -- a candidate whose owner is reached so
  abbrev pub reachable_by : ElementNo → List Redefines → List Removal → inheritance.Candidate → Lookup (List Hit)
  reachable_by t rs ps c = inheritance.unblocked lib rs ps c.hit.element t
      >>= λ vs. done (only_if (is_in c.owner vs) c.hit)

  -- where there are candidates: stage three, and those that stay
  abbrev pub decided : Bool → ElementNo → List ElementNo → List inheritance.Candidate → Lookup (List Hit)
  decided raw t us cs = both (facts_asked raw t us) (gone raw t cs)
      >>= λ p. joined (stays lib us t p.0 p.1) cs

  -- the same, where there may be none
  abbrev pub conditions : Bool → ElementNo → List ElementNo → List inheritance.Candidate → Lookup (List Hit)
  conditions raw t us cs = cond (is_nil cs) (done []) (decided raw t us cs)

  -- the stages after the types are reached
  abbrev pub after_reached : Bool → List ℕ → ElementNo → List ElementNo → Lookup (List Hit)
  after_reached raw x t us = inheritance.candidates x t us >>= conditions raw t us
