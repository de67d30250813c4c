-- What is named stands: values name features, and a feature stands in the model of its file.
use Rattle.std.proofs.Common.{◌≡◌, ℕ, ◌<◌, zero, suc, true, List, [], ◌∷◌, refl, subst, inl, inr, arith, length}
use Rattle.std.specs.Prelude.{get_or, slice_get, Option, None, Some}
use Rattle.linker_base.specs.Members.{IsMember}
use Rattle.linker_base.proofs.Cases.{option_cases, some_same}
use Rattle.linker_base.proofs.MemberLaws.{member_test}
use Rattle.element_store.specs.declared.numbers.ElementNo.{ElementNo}
use Rattle.element_store.specs.declared.outcome.Outcome.{Outcome}
use Rattle.element_store.specs.declared.records.Element.{Element}
use Rattle.element_store.specs.declared.models.StoredFile.{StoredFile}
use Rattle.element_store.specs.Kinds.{is_feature}
use Rattle.element_store.specs.Model.{Data, root_element}
use Rattle.element_store.specs.BaseRules.{StandsIn}
use Rattle.demand_core.specs.Tables.{Decided}
use Rattle.demand_core.specs.Rules.{Meaning, IsProper, first_wait}
use Rattle.demand_core.specs.Computed.{world}
use Rattle.demand_core.specs.Least.{least, cyclic_on}
use Rattle.demand_core.specs.declared.step.Step.{Step}
use Rattle.demand_core.specs.declared.step.Step.TheVariants.{Done, Waits}
use Rattle.demand_core.proofs.LeastLaws.{least_fits}
use Rattle.link_model.specs.declared.keys.LinkKey.{LinkKey}
use Rattle.link_model.specs.Outside.{Library, model_in, seen_in}
use Rattle.link_model.specs.Readers.{LinkWorld}
use Rattle.value_model.specs.declared.values.NoFact.{NoFact}
use Rattle.value_model.specs.declared.values.ValueAnswer.{ValueAnswer}
use Rattle.value_model.specs.declared.values.ValueAnswer.TheVariants.{Value, Refused}
use Rattle.value_model.specs.declared.values.ValueFault.TheVariants.{Unbound, Several, Circular, WrongKind, Overflow, ZeroDivisor, Inexact, Unlinked}
use Rattle.value_model.specs.declared.values.ValueKey.{ValueKey}
use Rattle.value_model.specs.Keys.{same_value_key, value_key_is_exact}
use Rattle.value_model.specs.Meant.{feature_at}
use Rattle.value_model.specs.Valuing.{MayStand, NamesFeatures, value_meaning, AreValueKeys, value_by}
use Rattle.value_model.proofs.ValueLaws.{value_lawful}

in_list : (xs : List Element) (i : ℕ) → is_feature (get_or xs i root_element).kind ≡ true → i < length xs
in_list [] i h = cc
in_list (x ∷ xs) zero h = omega arith
in_list (x ∷ xs) (suc i) h = let r : i < length xs = in_list xs i h in omega arith

root_alone : (i : ℕ) → is_feature (get_or (root_element ∷ []) i root_element).kind ≡ true → ⊥
root_alone zero h = cc
root_alone (suc i) h = cc

stands_by : (files : List StoredFile) (e : ElementNo) (o : Option StoredFile) → slice_get files e.file.0 ≡ o
    → is_feature (get_or (model_in o).elements e.index root_element).kind ≡ true → StandsIn files e
stands_by files e None is h = absurd (root_alone e.index h)
stands_by files e (Some s) is h = by_model s.model refl
  where
    by_model : (m : Option Data) → s.model ≡ m → StandsIn files e
    by_model None gone = let g : is_feature (get_or (root_element ∷ []) e.index root_element).kind ≡ true = rw gone at h in absurd (root_alone e.index g)
    by_model (Some d) at_d = let g : is_feature (get_or d.elements e.index root_element).kind ≡ true = rw at_d at h in
        (d, rw (is, at_d) refl, in_list d.elements e.index g)

-- a feature stands in the model of its file
pub feature_stands : (files : List StoredFile) (links : Decided LinkKey Outcome) (e : ElementNo) → feature_at (world (seen_in files) links) e ≡ true
    → StandsIn files e
feature_stands files links e h = stands_by files e (slice_get files e.file.0) refl h

module _ (w : LinkWorld) where
  also_names : (v : ValueAnswer) → MayStand w v → NamesFeatures w v
  also_names (Value v) h = h
  also_names (Refused (Unbound e)) h = h
  also_names (Refused (Several e)) h = h
  also_names (Refused (Circular e)) h = absurd h
  also_names (Refused (WrongKind at)) h = h
  also_names (Refused (Overflow at)) h = h
  also_names (Refused (ZeroDivisor at)) h = h
  also_names (Refused (Inexact at)) h = h
  also_names (Refused (Unlinked at)) h = h

  first_key : (m : Meaning ValueKey ValueAnswer NoFact) (s : Decided ValueKey ValueAnswer) (k q : ValueKey) (step : Step ValueKey ValueAnswer)
      → IsProper m s k step → first_wait step ≡ Some q → IsMember m.keys q
  first_key m s k q (Done v) h e = cc
  first_key m s k q (Waits []) h e = cc
  first_key m s k q (Waits (p ∷ ps)) h e = subst (IsMember m.keys) (some_same p q e) (h.2 p (inl refl)).2

  module _ (lib : Library) where
    -- WHAT A VALUE NAMES are features
    pub value_names : (keys : List ValueKey) → AreValueKeys w lib keys → (k : ValueKey) → IsMember keys k
        → NamesFeatures w (value_by (value_meaning w lib keys) k)
    value_names keys are k i =
        let m = value_meaning w lib keys in
        let law = value_lawful w lib keys are in
        let fit = least_fits same_value_key value_key_is_exact m law in
        elim (option_cases (least same_value_key m k)) [
          | inl none ↦ elim (option_cases (cyclic_on same_value_key m k)) [
            | inl open_end ↦ rw (none, open_end) ((are.each k i).feature)
            | inr q ↦
                let waits : first_wait (m.answer (least same_value_key m) k) ≡ Some q.0 = rw (member_test same_value_key value_key_is_exact keys k i) at q.1 in
                rw (none, q.1) ((are.each q.0
                (first_key m (least same_value_key m) k q.0 (m.answer (least same_value_key m) k)
                (law.proper (least same_value_key m) k i fit) waits)).feature)
          ]
          | inr v ↦ rw v.1 (also_names v.0 (fit k v.0 v.1))
        ]
