-- What a member owns stands in the models.
use Rattle.std.proofs.Common.{◌≡◌, ℕ, ◌+◌, ◌<◌, Bool, true, false, cond, List, [], ◌∷◌, map, length, refl, sym, ◌∙◌, ap, subst, inl, inr, arith}
use Rattle.std.proofs.lemmas.Bool.Decides.{nat_tests}
use Rattle.std.specs.Prelude.{◌⊎◌, ◌&&◌, nat_eq, nat_lt, slice_get, Option, None, Some}
use Rattle.linker_base.specs.Members.{IsMember}
use Rattle.linker_base.proofs.Cases.{both_true}
use Rattle.demand_core.specs.Computation.{done, ◌>>=◌, join, joined}
use Rattle.demand_core.specs.Search.{Part, Finds, Awaits, LooksAt, Has, Shows}
use Rattle.demand_core.specs.declared.step.Step.TheVariants.{Done}
use Rattle.demand_core.proofs.PartLaws.{shows_nothing, shows_join, shows_joined, shows_then}
use Rattle.element_store.specs.BaseRules.{StandsIn}
use Rattle.element_store.specs.Condition.{IsModel, members_of, member_stands, target_stands}
use Rattle.element_store.specs.Model.{Data, bears}
use Rattle.element_store.specs.Stored.{AreFiles}
use Rattle.element_store.specs.declared.numbers.FileNo.{FileNo}
use Rattle.element_store.specs.declared.numbers.ElementNo.{ElementNo}
use Rattle.element_store.specs.declared.outcome.Outcome.{Outcome}
use Rattle.element_store.specs.declared.records.Member.{Member}
use Rattle.element_store.specs.declared.records.Target.{Target}
use Rattle.element_store.specs.declared.records.Target.TheVariants.{Owned, Alias}
use Rattle.element_store.specs.declared.models.StoredFile.{StoredFile}
use Rattle.element_store.proofs.ModelLaws.{all_at}
use Rattle.link_model.specs.declared.keys.LinkKey.{LinkKey}
use Rattle.link_model.specs.declared.keys.LinkFact.{LinkFact}
use Rattle.link_model.specs.declared.keys.Hit.{Hit}
use Rattle.link_model.specs.Keys.{same_element}
use Rattle.link_model.specs.Outside.{model_in, is_private}
use Rattle.link_model.specs.Readers.{Lookup, LinkWorld, told, model, of_members, is_nil, is_named, only_if, key}
use Rattle.link_model.specs.Names.{declared_names, names, leads_to, hit, declared_hit, hit_named, effective_hit}
use Rattle.link_model.specs.Inheritance.{Candidate, candidate, candidates}
use Rattle.link_walk.specs.Calls.{reading, AreLinks}
use Rattle.inheritance.proofs.ExpandLaws.{model_same}
use Rattle.feature_facts.proofs.FactLaws.{model_whole}

below : (a b : ℕ) → nat_lt a b ≡ true → a < b
below a b h = grind (arith, nat_tests)

module _ (files : List StoredFile) (are : AreFiles files) where
  -- an element that a member of a standing namespace's file owns
  pub owned_stands : (u : ElementNo) → StandsIn files u → (k : ℕ) (m : Member) (e : ℕ)
      → slice_get (model_in (slice_get files u.file.0)).members k ≡ Some m → m.target ≡ Owned e → StandsIn files (record { file = u.file; index = e })
  owned_stands u stands k m e at is =
      let d = stands.0 in
      let whole = model_whole files are u.file.0 d stands.1 in
      let there : slice_get d.members k ≡ Some m = subst (λ (z : Data). slice_get z.members k ≡ Some m) (model_same files u.file.0 d stands.1) at in
      let stands_so : member_stands d m ≡ true = all_at (member_stands d) k d.members m whole.ranges.members there in
      let target : target_stands d m.target ≡ true = (both_true (nat_lt m.owner (length d.elements)) (target_stands d m.target) stands_so).1 in
      (d, stands.1, below e (length d.elements) (subst (λ t. target_stands d t ≡ true) is target))
