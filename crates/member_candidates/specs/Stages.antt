-- The candidates of a type, piece by piece; and how code's records stand for the definition's.
use Rattle.std.specs.Prelude.{ℕ, cond, List, [], map}
use Rattle.demand_core.specs.Computation.{done, ◌>>=◌, join, joined}
use Rattle.element_store.specs.declared.numbers.ElementNo.{ElementNo}
use Rattle.element_store.specs.declared.numbers.FileNo.{FileNo}
use Rattle.element_store.specs.declared.records.Member.{Member}
use Rattle.element_store.specs.Model.{bearers}
use Rattle.element_store.specs.Readings.{redefining_of}
use Rattle.link_model.specs.declared.keys.Hit.{Hit}
use Rattle.link_model.specs.Keys.{same_element}
use Rattle.link_model.specs.Outside.{is_private}
use Rattle.link_model.specs.Readers.{Lookup, model, element, of_members}
use Rattle.link_model.specs.Names.{hit, effective_hit}
use Rattle.link_model.specs.Inheritance as inheritance
use Rattle.link_model.specs.Inheritance.{candidate}
use Rattle.link_walk.specs.Noted.{LinkTrail}
use Rattle.feature_facts.specs.declared.heir.Candidate.{Candidate}
use Rattle.feature_facts.specs.Stages.{told_of, as_candidate}

-- the hit of a member that isn't private
abbrev pub open_hit : FileNo → ℕ → Member → Lookup (List Hit)
open_hit f k m = cond (is_private m.visibility) (done []) (hit f k m)

-- the same, if its element is named x without a declared name
abbrev pub open_effective : List ℕ → FileNo → ℕ → Member → Lookup (List Hit)
open_effective x f k m = cond (is_private m.visibility) (done []) (effective_hit x f k m)

-- the hits of the members of s that aren't private and are named x: of those that bear it, and of those with a
-- redefinition
abbrev pub open_members : List ℕ → ElementNo → Lookup (List Hit)
open_members x s = model s.file
    >>= λ d. join (joined (told_of d (open_hit s.file)) (bearers d.members s.index x))
    (joined (told_of d (open_effective x s.file)) (redefining_of d s.index))

-- code's candidate, and the definition's
abbrev pub candidate_at : ElementNo → Hit → Candidate
candidate_at s h = record { owner = s; hit = h }

abbrev pub candidates_in : LinkTrail Candidate → LinkTrail inheritance.Candidate
candidates_in t = record { nodes = t.nodes; found = map as_candidate t.found; waits = t.waits; looks = t.looks }

-- stage two, for one of the types
abbrev pub candidate_stage : List ℕ → ElementNo → ElementNo → Lookup (List inheritance.Candidate)
candidate_stage x t s = cond (same_element s t) (done []) (of_members (candidate x s) s)
