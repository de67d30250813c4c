-- The linked targets of redefinitions, as a plain list.
use Rattle.std.proofs.Common.{◌≡◌, ◌∙◌, ℕ, ◌<◌, true, false, cond, List, [], ◌∷◌, refl, sym, ap, subst, arith, length, inl, inr}
use Rattle.std.specs.Prelude.{nat_lt, nat_eq, ◌&&◌, Option, None, Some, map, slice_get}
use Rattle.std.specs.List.{flat_map}
use Rattle.std.specs.Option.{option_map_or}
use Rattle.std.proofs.lemmas.Bool.Decides.{nat_tests}
use Rattle.linker_base.specs.Members.{IsMember}
use Rattle.element_store.specs.declared.numbers.ElementNo.{ElementNo}
use Rattle.element_store.specs.declared.numbers.FileNo.{FileNo}
use Rattle.element_store.specs.declared.records.Element.{Element}
use Rattle.element_store.specs.declared.records.Reference.{Reference}
use Rattle.element_store.specs.Model.{Data}
use Rattle.element_store.specs.Numbers.{numbers_from}
use Rattle.element_store.proofs.NumberLaws.{numbers_below}
use Rattle.element_store.specs.declared.outcome.Outcome.{Outcome}
use Rattle.element_store.specs.declared.outcome.Outcome.TheVariants.{Linked, Absent, Ambiguous, Hidden, Cyclic}
use Rattle.element_store.specs.Kinds.{is_feature}
use Rattle.demand_core.specs.Computation.{done, then_step, joined}
use Rattle.demand_core.specs.declared.step.Step.TheVariants.{Done}
use Rattle.link_model.specs.declared.keys.LinkKey.{LinkKey}
use Rattle.link_model.specs.Readers.{LinkWorld, key, references_as, target, led_to}
use Rattle.link_model.specs.Names.{is_redefinition, redefinitions}
use Rattle.link_model.specs.Settled.{settled, answers_of}
use Rattle.link_walk.specs.Wanted.{references_in}
use Rattle.value_model.specs.Meant.{model_at, feature_at, redefined}
use Rattle.value_features.specs.Deciders.{IsHome, end_of}
use Rattle.value_features.proofs.ElementLaws.{element_home}

keys_within : (f : FileNo) (ns : List ℕ) (upto : ℕ) → ((n : ℕ) → IsMember ns n → n < upto) → (k : LinkKey) → IsMember (map (key f) ns) k
    → (k.0.file ≡ f) × (k.0.index < upto)
keys_within f [] upto h k m = absurd m
keys_within f (n ∷ ns) upto h k (inl e) = subst (λ (z : LinkKey). (z.0.file ≡ f) × (z.0.index < upto)) e (refl, h n (inl refl))
keys_within f (n ∷ ns) upto h k (inr m) = keys_within f ns upto (λ i more. h i (inr more)) k m

module _ (w : LinkWorld) where
  led : (o : Option Outcome) → (led_to (option_map_or (λ o. o) o (Absent 1)) (settled w)).step ≡ Done (end_of o)
  led None = refl
  led (Some (Linked steps e)) = refl
  led (Some (Absent n)) = refl
  led (Some (Ambiguous n a b)) = refl
  led (Some (Hidden n m)) = refl
  led (Some (Cyclic r)) = refl

  -- the reference stands in the model of its file
  abbrev pub Stands : LinkKey → Type 0
  Stands k = k.0.index < length (model_at w k.0.file).references

  target_is : (k : LinkKey) → Stands k → (target k (settled w)).step ≡ Done (end_of (w.table k))
  target_is k lt =
      let there : nat_lt k.0.index (length (model_at w k.0.file).references) ≡ true = grind (arith, nat_tests) in
      rw there (led (w.table k))

  targets_are : (ks : List LinkKey) → ((k : LinkKey) → IsMember ks k → Stands k) → (joined target ks (settled w)).step
      ≡ Done (flat_map (λ k. end_of (w.table k)) ks)
  targets_are [] h = refl
  targets_are (k ∷ ks) h = rw (target_is k (h k (inl refl)), targets_are ks (λ l m. h l (inr m))) refl

  all_stand : (f : ElementNo) (k : LinkKey) → IsMember (references_in is_redefinition (model_at w f.file) f) k → Stands k
  all_stand f k m =
      let rs = (model_at w f.file).references in
      let test = λ (r : Reference). nat_eq r.context f.index && is_redefinition r.role in
      let at = keys_within f.file (numbers_from 0 test rs) (length rs) (λ n more. numbers_below test 0 (length rs) rs n (omega arith) more) k m in
      subst (λ g. k.0.index < length (model_at w g).references) (sym at.0) at.1

  -- what a feature redefines
  redefined_are : (f : ElementNo) → feature_at w f ≡ true
      → redefined w f ≡ flat_map (λ k. end_of (w.table k)) (references_in is_redefinition (model_at w f.file) f)
  redefined_are f feature =
      let keys = references_in is_redefinition (model_at w f.file) f in
      ap (λ b. answers_of (then_step (redefinitions f (settled w)) (λ ks. joined target ks (settled w))
      ((cond b (references_as is_redefinition f) (done [])) (settled w)).step).step) feature
      ∙ ap answers_of (targets_are keys (all_stand f))

  -- what is no feature redefines nothing
  redefined_none : (f : ElementNo) → feature_at w f ≡ false → redefined w f ≡ []
  redefined_none f other =
      ap (λ b. answers_of (then_step (redefinitions f (settled w)) (λ ks. joined target ks (settled w))
      ((cond b (references_as is_redefinition f) (done [])) (settled w)).step).step) other

  -- the same by the model in which the feature stands
  pub redefined_at_home : (f : ElementNo) (d : Data) (x : Element) (keys : List LinkKey) → IsHome w f d → slice_get d.elements f.index ≡ Some x
      → is_feature x.kind ≡ true → keys ≡ references_in is_redefinition d f → flat_map (λ k. end_of (w.table k)) keys ≡ redefined w f
  redefined_at_home f d x keys home at feature are =
      ap (flat_map (λ k. end_of (w.table k))) (are ∙ ap (λ m. references_in is_redefinition m f) home.same)
      ∙ sym (redefined_are f (ap (λ y. is_feature y.kind) (sym (element_home w f d x home at).0) ∙ feature))

  pub none_at_home : (f : ElementNo) (d : Data) (x : Element) → IsHome w f d → slice_get d.elements f.index ≡ Some x → is_feature x.kind ≡ false
      → [] ≡ redefined w f
  none_at_home f d x home at other = sym (redefined_none f (ap (λ y. is_feature y.kind) (sym (element_home w f d x home at).0) ∙ other))
