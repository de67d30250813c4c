-- What code knows where nothing of stage three waits, and what it says of the definition's tests.
use Rattle.std.specs.Prelude.{◌≡◌, List, map}
use Rattle.linker_base.specs.Members.{IsMember}
use Rattle.demand_core.specs.declared.step.Step.TheVariants.{Done}
use Rattle.element_store.specs.BaseRules.{StandsIn}
use Rattle.element_store.specs.declared.numbers.ElementNo.{ElementNo}
use Rattle.link_model.specs.declared.keys.Hit.{Hit}
use Rattle.link_model.specs.Readers.{Lookup}
use Rattle.link_model.specs.Settled.{answers_of}
use Rattle.link_model.specs.Inheritance.{Redefines, Removal, stays}
use Rattle.link_walk.specs.Calls.{HasLinks}
use Rattle.feature_facts.specs.Stages.{as_candidate, facts_asked}
use Rattle.removed_features.specs.Stages.{gone}
use Rattle.inherited_names.specs.Stages.{reachable_by}
use Rattle.feature_facts.specs.declared.heir.Candidate.{Candidate}
use Rattle.inherited_names.specs.declared.conditions.Stage.{Stage}
use Rattle.removed_features.specs.declared.visible_features.Visible.{Visible}
use Rattle.feature_facts.specs.Known.{world_of, files_for, library_for, KnownBy}
use Rattle.removed_features.specs.Known.{Describes}

-- the definition's lists of stage three
abbrev pub facts_in : Stage → List Redefines
facts_in s = answers_of (facts_asked s.heir.now.raw s.heir.now.of s.types.now (world_of s.heir.now)).step

abbrev pub gone_in : Stage → List Removal
gone_in s = answers_of
    (gone s.heir.now.raw s.heir.now.of (map as_candidate s.candidates.now) (world_of s.heir.now)).step

-- STAGE THREE waits on nothing, and its numbers stand.
pub record IsSettled (s : Stage) : Type 0 where
  pub facts : KnownBy (world_of s.heir.now) (facts_in s) s.facts.now
  pub gone : (gone s.heir.now.raw s.heir.now.of (map as_candidate s.candidates.now) (world_of s.heir.now)).step
      ≡ Done (gone_in s)
  pub stand : (c : Candidate) → IsMember s.candidates.now c → StandsIn (files_for s.heir.now) c.hit.element
  pub own : StandsIn (files_for s.heir.now) s.heir.now.of
  pub links : HasLinks s.heir.now.view.now

-- what is known of the features that are seen there
pub record SeesElsewhere (s : Stage) (v : Visible) : Type 0 where
  pub stand : (e : ElementNo) → IsMember v.features e → StandsIn (files_for s.heir.now) e
  pub describes : Describes (world_of s.heir.now) s.types.now (facts_in s) v

-- a candidate whose owner is reached by types that don't block
abbrev pub reachable : Stage → Candidate → Lookup (List Hit)
reachable s c = reachable_by (library_for s.heir.now) s.heir.now.of (facts_in s) (gone_in s) (as_candidate c)

-- a candidate that stays
abbrev pub staying : Stage → Candidate → Lookup (List Hit)
staying s c =
    stays (library_for s.heir.now) s.types.now s.heir.now.of (facts_in s) (gone_in s) (as_candidate c)
