-- Drafts whose numbering is the model of a file.
use Rattle.std.specs.Prelude.{◌≡◌, ℕ, ◌+◌, ◌<◌, ◌^◌, true, List, [], ◌∷◌, length, map, drop}
use Rattle.std.specs.List.{list_all, flat_map}
use Rattle.std.specs.Option.{option_map_or}
use Rattle.element_store.specs.declared.kind.Kind.TheVariants.{Root}
use Rattle.element_store.specs.Expressions.{is_whole}
use Rattle.element_store.specs.Numbers.{rises}
use Rattle.element_store.specs.Model.{Data}
use Rattle.element_store.specs.Condition.{role_fits, Trees, owners_in, item_place, import_place}
use Rattle.text_model.specs.declared.draft.Draft.{Draft}
use Rattle.text_model.specs.Walk.{Walk}
use Rattle.text_model.specs.Numbering.{mentions_of, numbered_in, references_from}
use Rattle.text_laws.specs.Coherent.{IsCoherent}
use Rattle.text_laws.specs.Fits.{Every, DraftFits}

-- the first is of the root's kind
abbrev pub HasRootKind : List Draft → Type 0
HasRootKind [] = ⊥
HasRootKind (d ∷ ds) = d.kind ≡ Root

-- whatever the number of its first name
pub record IsWholeDraft (d : Draft) : Type 0 where
  pub value : (n : ℕ) → option_map_or is_whole (numbered_in n d.value) true ≡ true
  pub result : (n : ℕ) → option_map_or is_whole (numbered_in n d.result) true ≡ true

-- what holds of every walk over every forest
pub record IsShaped (w : Walk) (all rest : ℕ) : Type 0 where
  pub coherent : IsCoherent w
  pub trees : Trees
  pub preorder : map (λ d. d.owner) (drop 1 w.elements) ≡ owners_in 0 1 trees
  pub drafts : Every (DraftFits all rest) w.elements

-- what holds of the walk over a tree of the grammar, within the limits
pub record IsDerived (w : Walk) (all rest : ℕ) (d : Data) : Type 0 where
  pub root : HasRootKind w.elements
  pub few : length w.members + length w.imports + 1 < 2 ^ 32
  pub short : all < 2 ^ 32
  pub references : length (references_from 0 w.elements) < 2 ^ 32
  pub whole : Every IsWholeDraft w.elements
  pub roles : Every (λ x. Every (λ m. role_fits m.role x.kind ≡ true) (mentions_of x)) w.elements
  pub members : rises d.member_places ≡ true
  pub imports : rises (flat_map (import_place d) d.imports) ≡ true
  pub items : list_all (λ is. rises (flat_map (item_place d) is)) d.items ≡ true
