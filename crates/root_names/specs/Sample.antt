-- A model for the tests: a root with members of one name, public and private, of which one has it as a short name.
--
-- package <A> B;
-- private package A;
-- package A;
use Rattle.std.specs.Prelude.{◌≡◌, ℕ, Option, Some, None, List, [], ◌∷◌, codes, refl}
use Rattle.element_store.specs.declared.numbers.FileNo.{FileNo}
use Rattle.element_store.specs.declared.outcome.Language.TheVariants.{Sysml}
use Rattle.element_store.specs.declared.kind.Kind.TheVariants.{Package}
use Rattle.element_store.specs.declared.kind.Visibility.{Visibility}
use Rattle.element_store.specs.declared.kind.Visibility.TheVariants.{Public, Private}
use Rattle.element_store.specs.declared.records.Element.{Element}
use Rattle.element_store.specs.declared.records.Member.{Member}
use Rattle.element_store.specs.declared.records.Target.TheVariants.{Owned}
use Rattle.element_store.specs.declared.lists.Item.{Item}
use Rattle.element_store.specs.declared.lists.Item.TheVariants as item
use Rattle.element_store.specs.Model.{Data, root_element}
use Rattle.element_store.specs.Condition.{IsModel, Trees, Nothing, Tree}

-- a package, and the member that owns it
abbrev pub package_of : ℕ → Option (List ℕ) → Option (List ℕ) → Element
package_of owner short name = record root_element { kind = Package; owner = Some owner; short = short; name = name }

abbrev pub member_of : ℕ → ℕ → Option (List ℕ) → Option (List ℕ) → Visibility → Member
member_of owner e short name visibility =
    record { owner = owner; target = Owned e; short = short; name = name; visibility = visibility }

abbrev pub trees : Trees
trees = Tree Nothing (Tree Nothing (Tree Nothing Nothing))

abbrev pub elements : List Element
elements =
    root_element
    ∷ package_of 0 (Some (codes "A")) (Some (codes "B"))
    ∷ package_of 0 None (Some (codes "A"))
    ∷ package_of 0 None (Some (codes "A"))
    ∷ []

abbrev pub root_items : List Item
root_items = item.Member 0 ∷ item.Member 1 ∷ item.Member 2 ∷ []

abbrev pub items : List (List Item)
items = root_items ∷ [] ∷ [] ∷ [] ∷ []

abbrev pub members : List Member
members =
    member_of 0 1 (Some (codes "A")) (Some (codes "B")) Public
    ∷ member_of 0 2 None (Some (codes "A")) Private
    ∷ member_of 0 3 None (Some (codes "A")) Public
    ∷ []

-- the places of nodes: there are none
abbrev pub no_places : List (List ℕ)
no_places = [] ∷ [] ∷ [] ∷ [] ∷ []

abbrev pub sample : FileNo → Data
sample file = record {
  file = file;
  language = Sysml;
  elements = elements;
  items = items;
  members = members;
  references = [];
  imports = [];
  member_places = 0 ∷ 15 ∷ 34 ∷ [];
  reference_places = [];
  value_places = no_places;
  result_places = no_places;
}

-- shown: all that holds of models holds of it
pub samples_are_models : (file : FileNo) → IsModel (sample file)
samples_are_models file = record {
  few = record {
    elements = refl;
    members = refl;
    references = refl;
    imports = refl;
    items = refl;
    values = refl;
    results = refl;
  };
  ranges = record { elements = refl; items = refl; members = refl; references = refl; imports = refl };
  places = record { members = refl; references = refl; values = refl; results = refl };
  root = (refl, refl);
  owned = refl;
  items = record { members = refl; imports = refl; text_order = refl };
  paths = refl;
  expressions = refl;
  contexts = refl;
  numbering = record { elements = (trees, refl); members = refl; imports = refl; references = refl };
}
