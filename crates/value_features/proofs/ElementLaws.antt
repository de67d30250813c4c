-- What the definitions say of an element, by the model of its file.
use Rattle.std.proofs.Common.{◌≡◌, ◌∙◌, ℕ, zero, suc, ◌≤◌, List, [], ◌∷◌, refl, sym, ap, length, get_or}
use Rattle.std.specs.Prelude.{slice_get, Option, None, Some}
use Rattle.std.specs.Option.{option_and_then}
use Rattle.std.proofs.lemmas.Option.{get_or_from_slice_get}
use Rattle.std.proofs.lemmas.List.{get_or_past}
use Rattle.demand_core.specs.Tables.{Decided}
use Rattle.demand_core.specs.Computed.{world}
use Rattle.element_store.specs.declared.models.StoredFile.{StoredFile}
use Rattle.element_store.specs.declared.numbers.ElementNo.{ElementNo}
use Rattle.element_store.specs.declared.numbers.FileNo.{FileNo}
use Rattle.element_store.specs.declared.outcome.Outcome.{Outcome}
use Rattle.element_store.specs.declared.records.Element.{Element}
use Rattle.element_store.specs.BaseRules.{model_of}
use Rattle.element_store.specs.Model.{Data, root_element}
use Rattle.link_model.specs.declared.keys.LinkKey.{LinkKey}
use Rattle.link_model.specs.Outside.{seen_in, model_in}
use Rattle.link_model.specs.Readers.{LinkWorld}
use Rattle.value_model.specs.Meant.{model_at, element_at}
use Rattle.value_features.specs.Deciders.{IsHome}

model_some : (o : Option StoredFile) (d : Data) → Some d ≡ option_and_then (λ s. s.model) o → model_in o ≡ d
model_some None d e = cc
model_some (Some s) d e = rw (← e) refl

root_alone : (i : ℕ) → get_or (root_element ∷ []) i root_element ≡ root_element
root_alone zero = refl
root_alone (suc i) = refl

root_for_none : (o : Option StoredFile) (i : ℕ) → None ≡ option_and_then (λ s. s.model) o → root_element ≡ get_or (model_in o).elements i root_element
root_for_none None i e = sym (root_alone i)
root_for_none (Some s) i e = rw (← e) (sym (root_alone i))

module _ (files : List StoredFile) (table : Decided LinkKey Outcome) where
  -- the model that is stored is the one that is read
  pub model_is : (f : FileNo) (d : Data) → Some d ≡ model_of files f.0 → d ≡ model_at (world (seen_in files) table) f
  model_is f d h = sym (model_some (slice_get files f.0) d h)

  -- where there is no model, every number reads as a root
  pub no_model : (e : ElementNo) → None ≡ model_of files e.file.0 → root_element ≡ element_at (world (seen_in files) table) e
  no_model e h = root_for_none (slice_get files e.file.0) e.index h

  -- and so does a number past the elements
  pub past_elements : (e : ElementNo) (d : Data) → Some d ≡ model_of files e.file.0 → length d.elements ≤ e.index
      → root_element ≡ element_at (world (seen_in files) table) e
  past_elements e d h le =
      sym (get_or_past d.elements e.index root_element le) ∙ ap (λ m. get_or m.elements e.index root_element) (model_is e.file d h)

-- an element that stands is the one that is read
pub element_home : (w : LinkWorld) (e : ElementNo) (d : Data) (x : Element) → IsHome w e d → slice_get d.elements e.index ≡ Some x
    → (x ≡ element_at w e) × (slice_get (model_at w e.file).elements e.index ≡ Some x)
element_home w e d x home at = (
  sym (get_or_from_slice_get d.elements e.index x root_element at) ∙ ap (λ m. get_or m.elements e.index root_element) home.same,
  ap (λ m. slice_get m.elements e.index) (sym home.same) ∙ at,
)
