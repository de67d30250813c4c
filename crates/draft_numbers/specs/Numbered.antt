-- The lists of a model as they grow, a draft at a time.
use Rattle.std.specs.Prelude.{◌≡◌, ℕ, ◌+◌, Option, Some, None, List, [], ◌∷◌, ◌++◌, length, map, slice_get, slice_index_or}
use Rattle.element_store.specs.declared.lists.Item.{Item}
use Rattle.element_store.specs.declared.records.Element.{Element}
use Rattle.element_store.specs.declared.records.Member.{Member}
use Rattle.element_store.specs.declared.records.Import.{Import}
use Rattle.element_store.specs.declared.records.Target.TheVariants as target
use Rattle.element_store.specs.declared.records.Reference.{Reference}
use Rattle.text_model.specs.declared.draft.Mention.{Mention}
use Rattle.text_model.specs.declared.draft.Draft.{Draft}
use Rattle.text_model.specs.declared.draft.DraftExpr.{DraftExpr}
use Rattle.text_model.specs.declared.draft.DraftTarget.{DraftTarget}
use Rattle.text_model.specs.declared.draft.DraftTarget.TheVariants.{Owned, Alias}
use Rattle.text_model.specs.declared.draft.DraftMember.{DraftMember}
use Rattle.text_model.specs.declared.draft.DraftImport.{DraftImport}
use Rattle.element_store.specs.declared.outcome.Role.TheVariants as role
use Rattle.text_model.specs.Drafts.{mentions, names}
use Rattle.element_store.specs.Model.{Data}
use Rattle.draft_numbers.specs.declared.numbering.Heading.{Heading}
use Rattle.draft_numbers.specs.declared.numbering.Parts.{Parts}
use Rattle.text_model.specs.Numbering.{element, head, mentions_of, model_of, nodes_of, places_of, reference}
use Rattle.text_model.specs.Walk.{Walk}

-- references and their places
pub record Refs : Type 0 where
  pub references : List Reference
  pub places : List ℕ

abbrev pub no_refs : Refs
no_refs = record { references = []; places = [] }

-- the number of the next reference
abbrev pub next : Refs → ℕ
next r = length r.references

-- references more, whose lookup begins at an element
abbrev pub added : ℕ → List Mention → Refs → Refs
added e ms r = record {
  references = r.references ++ map (reference e) ms;
  places = r.places ++ map (λ m. m.path.place) ms;
}

-- the names of two expressions
abbrev pub expression_mentions : Option DraftExpr → Option DraftExpr → List Mention
expression_mentions a b = mentions role.Value (names (nodes_of a)) ++ mentions role.Value (names (nodes_of b))

-- the lists of a model that have an item for each element, where the references of each one's aliases and imports
-- begin, and the references
pub record Lists : Type 0 where
  pub elements : List Element
  pub items : List (List Item)
  pub bases : List ℕ
  pub values : List (List ℕ)
  pub results : List (List ℕ)
  pub refs : Refs

abbrev pub no_lists : Lists
no_lists = record {
  elements = [];
  items = [];
  bases = [];
  values = [];
  results = [];
  refs = no_refs;
}

-- one part more
abbrev pub with_element : Element → List Item → ℕ → Lists → Lists
with_element e is b l = record l {
  elements = l.elements ++ e ∷ [];
  items = l.items ++ is ∷ [];
  bases = l.bases ++ b ∷ [];
}

abbrev pub with_places : List ℕ → List ℕ → Lists → Lists
with_places vs rs l = record l {
  values = l.values ++ vs ∷ [];
  results = l.results ++ rs ∷ [];
}

abbrev pub with_references : Draft → Lists → Lists
with_references d l = record l { refs = added (length l.elements) (mentions_of d) l.refs }

abbrev pub with_parts : Parts → Lists → Lists
with_parts p l = with_places p.values.items p.results.items (with_element p.element p.items p.base l)

-- the parts of a draft that comes next
pub record ArePartsOf (l : Lists) (d : Draft) (p : Parts) : Type 0 where
  pub element : p.element ≡ element (next l.refs) d
  pub items : p.items ≡ d.items
  pub base : p.base ≡ next l.refs + length (head d)
  pub values : p.values.items ≡ places_of (nodes_of d.value)
  pub results : p.results.items ≡ places_of (nodes_of d.result)

-- an element more
abbrev pub with_draft : Draft → Lists → Lists
with_draft d l = record {
  elements = l.elements ++ element (next l.refs) d ∷ [];
  items = l.items ++ d.items ∷ [];
  bases = l.bases ++ (next l.refs + length (head d)) ∷ [];
  values = l.values ++ places_of (nodes_of d.value) ∷ [];
  results = l.results ++ places_of (nodes_of d.result) ∷ [];
  refs = added (length l.elements) (mentions_of d) l.refs;
}

abbrev pub with_drafts : Lists → List Draft → Lists
with_drafts l [] = l
with_drafts l (d ∷ ds) = with_drafts (with_draft d l) ds

-- the number of a reference of an alias or an import
abbrev pub inner_reference : Lists → ℕ → ℕ → ℕ
inner_reference l owner at = slice_index_or l.bases owner (next l.refs) + at

abbrev pub short_of : Option Element → Option (List ℕ)
short_of None = None
short_of (Some e) = e.short

abbrev pub name_of : Option Element → Option (List ℕ)
name_of None = None
name_of (Some e) = e.name

-- a member and an import, whose elements and references have their numbers
abbrev pub member_as : Lists → DraftTarget → DraftMember → Member
member_as l (Owned e) m = record {
  owner = m.owner;
  target = target.Owned e;
  short = short_of (slice_get l.elements e);
  name = name_of (slice_get l.elements e);
  visibility = m.visibility;
}
member_as l (Alias k) m = record {
  owner = m.owner;
  target = target.Alias (inner_reference l m.owner k);
  short = m.short;
  name = m.name;
  visibility = m.visibility;
}

abbrev pub import_as : Lists → DraftImport → Import
import_as l i = record {
  owner = i.owner;
  reference = inner_reference l i.owner i.at;
  star = i.star;
  recursive = i.recursive;
  all = i.all;
  visibility = i.visibility;
}

-- the lists of a model with these members, their places, and these imports
abbrev pub data_with : Heading → Lists → List Member → List ℕ → List Import → Data
data_with h l ms ps is = record {
  file = h.file;
  language = h.language;
  elements = l.elements;
  items = l.items;
  members = ms;
  references = l.refs.references;
  imports = is;
  member_places = ps;
  reference_places = l.refs.places;
  value_places = l.values;
  result_places = l.results;
}

-- the lists of the model of each walk that has these elements, members and imports
abbrev pub IsNumbered : Heading → List Draft → List DraftMember → List DraftImport → Data → Type 0
IsNumbered h ds ms is found = (w : Walk) → w.elements ≡ ds → w.members ≡ ms → w.imports ≡ is
    → found ≡ model_of h.file h.language w
