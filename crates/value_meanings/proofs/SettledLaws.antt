-- Searches that find nothing, once no link is to come any more.
use Rattle.std.proofs.Common.{◌≡◌, ◌∙◌, ℕ, zero, suc, Bool, true, false, cond, List, [], ◌∷◌, ◌++◌, map, refl, sym, ap, inl, inr}
use Rattle.std.specs.Prelude.{◌&&◌, nat_eq}
use Rattle.linker_base.proofs.Cases.{bool_cases}
use Rattle.demand_core.specs.Computation.{done}
use Rattle.demand_core.specs.Gather.{Led, gather}
use Rattle.demand_core.specs.declared.step.Step.{Step}
use Rattle.demand_core.specs.declared.step.Step.TheVariants.{Done}
use Rattle.element_store.specs.declared.numbers.ElementNo.{ElementNo}
use Rattle.element_store.specs.declared.models.StoredFile.{StoredFile}
use Rattle.element_store.specs.Kinds.{is_feature}
use Rattle.element_store.specs.Numbers.{numbers_from}
use Rattle.element_store.specs.Readings.{is_any, redefinitions_in}
use Rattle.element_store.specs.Readings as readings
use Rattle.element_store.specs.declared.outcome.Role.{Role}
use Rattle.element_store.specs.declared.outcome.Role.TheVariants as role
use Rattle.link_model.specs.declared.keys.LinkKey.{LinkKey}
use Rattle.link_model.specs.Inheritance.{is_specialisation, general, base, base_link, general_links, reached}
use Rattle.link_model.specs.Inheritance.Link.{ByReference}
use Rattle.link_model.specs.Keys.{same_element, is_in}
use Rattle.link_model.specs.Names.{is_redefinition, redefinitions}
use Rattle.link_model.specs.Outside.{library_of}
use Rattle.link_model.specs.Readers.{Lookup, LinkWorld, most, key, references_as, target}
use Rattle.link_model.specs.Settled.{settled, answers_of, in_settled, settled_redefined}
use Rattle.link_walk.specs.Calls.{ends}
use Rattle.value_model.specs.Meant.{model_at, element_at}
use Rattle.value_meanings.specs.Standing.{IsNowhere}

ready : {A : Type 0} → A → Step LinkKey A
ready x = Done x

-- where a node has no links nothing is gathered
gather_none : {L B : Type 0} (links : ElementNo → Lookup (List L)) (leads : L → Lookup (Led B ElementNo)) (s : LinkWorld) (n : ℕ) (path : List ElementNo)
    (a : ElementNo) → (links a s).step ≡ Done [] → (gather same_element links leads n path a s).step ≡ Done []
unfolding gather
gather_none links leads s zero path a none = refl
gather_none links leads s (suc n) path a none = rw none refl

-- one test of roles, written twice
same_role : (r : Role) → is_redefinition r ≡ readings.is_redefinition r
same_role role.Subclass = refl
same_role role.Typing = refl
same_role role.Subsetting = refl
same_role role.Redefinition = refl
same_role role.ReferenceSubsetting = refl
same_role role.Import = refl
same_role role.Alias = refl
same_role role.About = refl
same_role role.Value = refl
same_role role.Bound = refl

none_of : {A : Type 0} (xs : List A) → is_any xs ≡ false → xs ≡ []
none_of [] e = refl
none_of (x ∷ xs) e = cc

module _ (w : LinkWorld) where
  no_references : (f : ElementNo) → is_any (redefinitions_in (model_at w f.file).references f.index) ≡ false
      → (references_as is_redefinition f (settled w)).step ≡ Done []
  unfolding ready
  no_references f none =
      ap (λ (ns : List ℕ). ready (map (key f.file) ns))
      ((λ i. numbers_from 0 (λ r. nat_eq r.context f.index && same_role r.role i) (model_at w f.file).references) ∙ none_of _ none)

  no_redefinitions : (f : ElementNo) → is_any (redefinitions_in (model_at w f.file).references f.index) ≡ false
      → (redefinitions f (settled w)).step ≡ Done []
  no_redefinitions f none = by (is_feature (element_at w f).kind)
    where
      by : (b : Bool) → (cond b (references_as is_redefinition f) (done []) (settled w)).step ≡ Done []
      by true = no_references f none
      by false = refl

  -- what redefines another feature has a redefinition
  pub redefines_any : (f g : ElementNo) → is_in g (settled_redefined f w) ≡ true
      → is_any (redefinitions_in (model_at w f.file).references f.index) ≡ true
  redefines_any f g h = elim (bool_cases (is_any (redefinitions_in (model_at w f.file).references f.index))) [
    | inl yes_any ↦ yes_any
    | inr none ↦
        let nothing : settled_redefined f w ≡ [] =
        ap answers_of (gather_none redefinitions (ends target) (settled w) most [] f (no_redefinitions f none)) in
        let bad : false ≡ true = sym (ap (is_in g) nothing) ∙ h in cc
  ]

  -- what stands nowhere reaches nothing
  pub nowhere_reaches : (files : List StoredFile) (t : ElementNo) → IsNowhere w t → in_settled (reached (library_of files) t) w ≡ []
  nowhere_reaches files t h =
      let links : (general_links (library_of files) t (settled w)).step ≡ Done [] = λ i.
      Done (map ByReference (h.references is_specialisation i)
      ++ base_link t (base (library_of files) (model_at w t.file) t (h.element i))) in
      ap answers_of (gather_none (general_links (library_of files)) (ends general) (settled w) most [] t links)
