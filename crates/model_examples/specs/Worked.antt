-- The models of the tables, written out: all that holds of models holds of them, whatever the number of the file, since
-- each part computes. Then what stands in a book of them.
use Rattle.std.specs.Prelude.{◌≡◌, ℕ, true, false, Option, Some, None, List, [], ◌∷◌, codes, refl}
use Rattle.std.proofs.Common.{pos}
use Rattle.element_store.specs.declared.numbers.FileNo.{FileNo}
use Rattle.element_store.specs.declared.outcome.Language.TheVariants.{Sysml}
use Rattle.element_store.specs.declared.outcome.Role.{Role}
use Rattle.element_store.specs.declared.outcome.Role.TheVariants as role
use Rattle.element_store.specs.declared.kind.Kind.{Kind}
use Rattle.element_store.specs.declared.kind.Kind.TheVariants as kind
use Rattle.element_store.specs.declared.kind.Visibility.TheVariants.{Public, Private}
use Rattle.element_store.specs.declared.records.Element.{Element}
use Rattle.element_store.specs.declared.records.Member.{Member}
use Rattle.element_store.specs.declared.records.Target.TheVariants.{Owned, Alias}
use Rattle.element_store.specs.declared.records.Reference.{Reference}
use Rattle.element_store.specs.declared.lists.Item.TheVariants as item
use Rattle.element_store.specs.declared.expression.Node.TheVariants.{Integer, Named, Binary}
use Rattle.element_store.specs.declared.expression.BinaryOp.TheVariants.{Add}
use Rattle.element_store.specs.declared.expression.Bounds.{Bounds}
use Rattle.element_store.specs.declared.expression.Limit.TheVariants as limit
use Rattle.element_store.specs.declared.models.StoredFile.{StoredFile}
use Rattle.element_store.specs.Model.{Data, root_element, no_marks, bearers}
use Rattle.element_store.specs.Stored.{HasRank}
use Rattle.element_store.specs.BaseRules.{base_of_kind, base_of}
use Rattle.element_store.specs.Condition.{IsModel, Trees, Nothing, Tree}

-- an element with a kind, an owner and a name
abbrev pub element : Kind → ℕ → Option (List ℕ) → Element
element k owner name = record root_element { kind = k; owner = Some owner; name = name }

-- a bound from above alone
abbrev pub exactly : ℕ → Option Bounds
exactly n = Some (record { lower = None; upper = Some (limit.Number (pos n)) })

-- a public owned member, and a public alias
abbrev pub member : ℕ → ℕ → Option (List ℕ) → Member
member owner e name = record { owner = owner; target = Owned e; short = None; name = name; visibility = Public }

abbrev pub alias : ℕ → ℕ → Option (List ℕ) → Member
alias owner r name = record { owner = owner; target = Alias r; short = None; name = name; visibility = Public }

-- a reference with these segments and these steps
abbrev pub reference : Role → ℕ → List (List ℕ) → List (List ℕ) → Reference
reference r context path steps = record { role = r; context = context; absolute = false; path = path; chain = steps }

-- the elements as trees: one package, and in it what its body has
abbrev pub leaf : Trees → Trees
leaf beside = Tree Nothing beside

abbrev pub vehicle_trees : Trees
vehicle_trees =
    Tree
    (leaf (Tree (leaf Nothing) (Tree (leaf (leaf (leaf Nothing))) (Tree (leaf (leaf Nothing)) (leaf Nothing)))))
    Nothing

abbrev pub redefining_trees : Trees
redefining_trees = Tree (leaf (Tree (leaf (leaf (leaf Nothing))) (leaf Nothing))) Nothing

abbrev pub color_trees : Trees
color_trees = Tree (leaf Nothing) Nothing

abbrev pub library_trees : Trees
library_trees = Tree (leaf (leaf (leaf Nothing))) (Tree (leaf Nothing) (Tree (leaf Nothing) Nothing))

-- A package of part definitions, as it is printed.
--
-- package Vehicles {
--     doc /* A small car model. */
--     private import ScalarValues::*;
--     part def Engine {
--         attribute power : Integer = 90;
--     }
--     part def Vehicle {
--         attribute mass : Integer default = 1000;
--         part engine : Engine [1];
--         attribute total : Integer = mass + engine.power;
--     }
--     part def Car :> Vehicle {
--         attribute :>> mass = 1200;
--         part wheels [4] : Wheel;
--     }
--     part def Wheel;
-- }
abbrev pub vehicles : FileNo → Data
vehicles file = record {
  file = file;
  language = Sysml;
  elements =
      root_element
      ∷ element kind.Package 0 (Some (codes "Vehicles"))
      ∷ record (element kind.Documentation 1 None) { body = Some (codes " A small car model. ") }
      ∷ element kind.PartDef 1 (Some (codes "Engine"))
      ∷ record (element kind.Attribute 3 (Some (codes "power"))) { value = Some (Integer (pos 90) ∷ []) }
      ∷ element kind.PartDef 1 (Some (codes "Vehicle"))
      ∷ record (element kind.Attribute 5 (Some (codes "mass"))) {
        marks = record no_marks { default = true };
        value = Some (Integer (pos 1000) ∷ []);
      }
      ∷ record (element kind.Part 5 (Some (codes "engine"))) { bounds = exactly 1 }
      ∷ record (element kind.Attribute 5 (Some (codes "total"))) { value = Some (Named 5 ∷ Named 6 ∷ Binary Add ∷ []) }
      ∷ element kind.PartDef 1 (Some (codes "Car"))
      ∷ record (element kind.Attribute 9 None) { value = Some (Integer (pos 1200) ∷ []) }
      ∷ record (element kind.Part 9 (Some (codes "wheels"))) { bounds = exactly 4 }
      ∷ element kind.PartDef 1 (Some (codes "Wheel"))
      ∷ [];
  items =
      (item.Member 0 ∷ [])
      ∷ (item.Member 1 ∷ item.Import 0 ∷ item.Member 2 ∷ item.Member 4 ∷ item.Member 8 ∷ item.Member 11 ∷ [])
      ∷ []
      ∷ (item.Member 3 ∷ [])
      ∷ []
      ∷ (item.Member 5 ∷ item.Member 6 ∷ item.Member 7 ∷ [])
      ∷ []
      ∷ []
      ∷ []
      ∷ (item.Member 9 ∷ item.Member 10 ∷ [])
      ∷ []
      ∷ []
      ∷ []
      ∷ [];
  members =
      member 0 1 (Some (codes "Vehicles"))
      ∷ member 1 2 None
      ∷ member 1 3 (Some (codes "Engine"))
      ∷ member 3 4 (Some (codes "power"))
      ∷ member 1 5 (Some (codes "Vehicle"))
      ∷ member 5 6 (Some (codes "mass"))
      ∷ member 5 7 (Some (codes "engine"))
      ∷ member 5 8 (Some (codes "total"))
      ∷ member 1 9 (Some (codes "Car"))
      ∷ member 9 10 None
      ∷ member 9 11 (Some (codes "wheels"))
      ∷ member 1 12 (Some (codes "Wheel"))
      ∷ [];
  references =
      reference role.Import 1 (codes "ScalarValues" ∷ []) []
      ∷ reference role.Typing 4 (codes "Integer" ∷ []) []
      ∷ reference role.Typing 6 (codes "Integer" ∷ []) []
      ∷ reference role.Typing 7 (codes "Engine" ∷ []) []
      ∷ reference role.Typing 8 (codes "Integer" ∷ []) []
      ∷ reference role.Value 8 (codes "mass" ∷ []) []
      ∷ reference role.Value 8 (codes "engine" ∷ []) (codes "power" ∷ [])
      ∷ reference role.Subclass 9 (codes "Vehicle" ∷ []) []
      ∷ reference role.Redefinition 10 (codes "mass" ∷ []) []
      ∷ reference role.Typing 11 (codes "Wheel" ∷ []) []
      ∷ [];
  imports =
      record { owner = 1; reference = 0; star = true; recursive = false; all = false; visibility = Private }
      ∷ [];
  member_places = 0 ∷ 23 ∷ 92 ∷ 118 ∷ 160 ∷ 187 ∷ 236 ∷ 270 ∷ 329 ∷ 363 ∷ 398 ∷ 433 ∷ [];
  reference_places = 71 ∷ 136 ∷ 204 ∷ 250 ∷ 288 ∷ 298 ∷ 305 ∷ 345 ∷ 377 ∷ 416 ∷ [];
  value_places = [] ∷ [] ∷ [] ∷ [] ∷ (146 ∷ []) ∷ [] ∷ (222 ∷ []) ∷ []
      ∷ (298 ∷ 305 ∷ 303 ∷ []) ∷ [] ∷ (384 ∷ []) ∷ [] ∷ [] ∷ [];
  result_places = [] ∷ [] ∷ [] ∷ [] ∷ [] ∷ [] ∷ [] ∷ [] ∷ [] ∷ [] ∷ [] ∷ [] ∷ [] ∷ [];
}

-- shown: all holds of it
pub vehicles_are_models : (file : FileNo) → IsModel (vehicles file)
vehicles_are_models file = record {
  few = record {
    elements = refl;
    members = refl;
    references = refl;
    imports = refl;
    items = refl;
    values = refl;
    results = refl;
  };
  ranges = record { elements = refl; items = refl; members = refl; references = refl; imports = refl };
  places = record { members = refl; references = refl; values = refl; results = refl };
  root = (refl, refl);
  owned = refl;
  items = record { members = refl; imports = refl; text_order = refl };
  paths = refl;
  expressions = refl;
  contexts = refl;
  numbering = record { elements = (vehicle_trees, refl); members = refl; imports = refl; references = refl };
}

-- A short name, names and aliases that bear the same words; one alias has its name twice.
--
-- package a;
-- part def <a> b;
-- alias <b> a for b;
-- alias <c> c for b;
abbrev pub names : FileNo → Data
names file = record {
  file = file;
  language = Sysml;
  elements =
      root_element
      ∷ element kind.Package 0 (Some (codes "a"))
      ∷ record (element kind.PartDef 0 (Some (codes "b"))) { short = Some (codes "a") }
      ∷ [];
  items =
      (item.Member 0 ∷ item.Member 1 ∷ item.Member 2 ∷ item.Member 3 ∷ [])
      ∷ []
      ∷ []
      ∷ [];
  members =
      member 0 1 (Some (codes "a"))
      ∷ record (member 0 2 (Some (codes "b"))) { short = Some (codes "a") }
      ∷ record (alias 0 0 (Some (codes "a"))) { short = Some (codes "b") }
      ∷ record (alias 0 1 (Some (codes "c"))) { short = Some (codes "c") }
      ∷ [];
  references =
      reference role.Alias 0 (codes "b" ∷ []) []
      ∷ reference role.Alias 0 (codes "b" ∷ []) []
      ∷ [];
  imports = [];
  member_places = 0 ∷ 11 ∷ 27 ∷ 46 ∷ [];
  reference_places = 43 ∷ 62 ∷ [];
  value_places = [] ∷ [] ∷ [] ∷ [];
  result_places = [] ∷ [] ∷ [] ∷ [];
}

-- shown: all holds of it
pub names_are_models : (file : FileNo) → IsModel (names file)
names_are_models file = record {
  few = record {
    elements = refl;
    members = refl;
    references = refl;
    imports = refl;
    items = refl;
    values = refl;
    results = refl;
  };
  ranges = record { elements = refl; items = refl; members = refl; references = refl; imports = refl };
  places = record { members = refl; references = refl; values = refl; results = refl };
  root = (refl, refl);
  owned = refl;
  items = record { members = refl; imports = refl; text_order = refl };
  paths = refl;
  expressions = refl;
  contexts = refl;
  numbering = record { elements = (leaf (leaf Nothing), refl); members = refl; imports = refl; references = refl };
}

-- Imports in two namespaces, and features that redefine: one twice, one in another body, one not at all.
--
-- package P {
--     import A::*;
--     package Q {
--         import B::C;
--     }
--     import D::**;
--     part def T :> S {
--         part :>> x, y;
--         part z :> x;
--         part w :>> z;
--     }
--     part v :>> T::w;
-- }
abbrev pub redefinings : FileNo → Data
redefinings file = record {
  file = file;
  language = Sysml;
  elements =
      root_element
      ∷ element kind.Package 0 (Some (codes "P"))
      ∷ element kind.Package 1 (Some (codes "Q"))
      ∷ element kind.PartDef 1 (Some (codes "T"))
      ∷ element kind.Part 3 None
      ∷ element kind.Part 3 (Some (codes "z"))
      ∷ element kind.Part 3 (Some (codes "w"))
      ∷ element kind.Part 1 (Some (codes "v"))
      ∷ [];
  items =
      (item.Member 0 ∷ [])
      ∷ (item.Import 0 ∷ item.Member 1 ∷ item.Import 2 ∷ item.Member 2 ∷ item.Member 6 ∷ [])
      ∷ (item.Import 1 ∷ [])
      ∷ (item.Member 3 ∷ item.Member 4 ∷ item.Member 5 ∷ [])
      ∷ []
      ∷ []
      ∷ []
      ∷ []
      ∷ [];
  members =
      member 0 1 (Some (codes "P"))
      ∷ member 1 2 (Some (codes "Q"))
      ∷ member 1 3 (Some (codes "T"))
      ∷ member 3 4 None
      ∷ member 3 5 (Some (codes "z"))
      ∷ member 3 6 (Some (codes "w"))
      ∷ member 1 7 (Some (codes "v"))
      ∷ [];
  references =
      reference role.Import 1 (codes "A" ∷ []) []
      ∷ reference role.Import 1 (codes "D" ∷ []) []
      ∷ reference role.Import 2 (codes "B" ∷ codes "C" ∷ []) []
      ∷ reference role.Subclass 3 (codes "S" ∷ []) []
      ∷ reference role.Redefinition 4 (codes "x" ∷ []) []
      ∷ reference role.Redefinition 4 (codes "y" ∷ []) []
      ∷ reference role.Subsetting 5 (codes "x" ∷ []) []
      ∷ reference role.Redefinition 6 (codes "z" ∷ []) []
      ∷ reference role.Redefinition 7 (codes "T" ∷ codes "w" ∷ []) []
      ∷ [];
  imports =
      record { owner = 1; reference = 0; star = true; recursive = false; all = false; visibility = Private }
      ∷ record { owner = 2; reference = 2; star = false; recursive = false; all = false; visibility = Private }
      ∷ record { owner = 1; reference = 1; star = false; recursive = true; all = false; visibility = Private }
      ∷ [];
  member_places = 0 ∷ 33 ∷ 94 ∷ 120 ∷ 143 ∷ 164 ∷ 188 ∷ [];
  reference_places = 23 ∷ 83 ∷ 60 ∷ 108 ∷ 129 ∷ 132 ∷ 153 ∷ 175 ∷ 199 ∷ [];
  value_places = [] ∷ [] ∷ [] ∷ [] ∷ [] ∷ [] ∷ [] ∷ [] ∷ [];
  result_places = [] ∷ [] ∷ [] ∷ [] ∷ [] ∷ [] ∷ [] ∷ [] ∷ [];
}

-- shown: all holds of it
pub redefinings_are_models : (file : FileNo) → IsModel (redefinings file)
redefinings_are_models file = record {
  few = record {
    elements = refl;
    members = refl;
    references = refl;
    imports = refl;
    items = refl;
    values = refl;
    results = refl;
  };
  ranges = record { elements = refl; items = refl; members = refl; references = refl; imports = refl };
  places = record { members = refl; references = refl; values = refl; results = refl };
  root = (refl, refl);
  owned = refl;
  items = record { members = refl; imports = refl; text_order = refl };
  paths = refl;
  expressions = refl;
  contexts = refl;
  numbering = record { elements = (redefining_trees, refl); members = refl; imports = refl; references = refl };
}

-- A library file: a private member, two members of one name, a private package, and a path that ends at no
-- type.
--
-- package Parts {
--     private part def Part;
--     part def Part;
--     part def Part;
-- }
-- package Items {
--     package Item;
-- }
-- private package Ports {
--     part def Port;
-- }
abbrev pub library : FileNo → Data
library file = record {
  file = file;
  language = Sysml;
  elements =
      root_element
      ∷ element kind.Package 0 (Some (codes "Parts"))
      ∷ element kind.PartDef 1 (Some (codes "Part"))
      ∷ element kind.PartDef 1 (Some (codes "Part"))
      ∷ element kind.PartDef 1 (Some (codes "Part"))
      ∷ element kind.Package 0 (Some (codes "Items"))
      ∷ element kind.Package 5 (Some (codes "Item"))
      ∷ element kind.Package 0 (Some (codes "Ports"))
      ∷ element kind.PartDef 7 (Some (codes "Port"))
      ∷ [];
  items =
      (item.Member 0 ∷ item.Member 4 ∷ item.Member 6 ∷ [])
      ∷ (item.Member 1 ∷ item.Member 2 ∷ item.Member 3 ∷ [])
      ∷ []
      ∷ []
      ∷ []
      ∷ (item.Member 5 ∷ [])
      ∷ []
      ∷ (item.Member 7 ∷ [])
      ∷ []
      ∷ [];
  members =
      member 0 1 (Some (codes "Parts"))
      ∷ record (member 1 2 (Some (codes "Part"))) { visibility = Private }
      ∷ member 1 3 (Some (codes "Part"))
      ∷ member 1 4 (Some (codes "Part"))
      ∷ member 0 5 (Some (codes "Items"))
      ∷ member 5 6 (Some (codes "Item"))
      ∷ record (member 0 7 (Some (codes "Ports"))) { visibility = Private }
      ∷ member 7 8 (Some (codes "Port"))
      ∷ [];
  references = [];
  imports = [];
  member_places = 0 ∷ 20 ∷ 47 ∷ 66 ∷ 83 ∷ 103 ∷ 119 ∷ 147 ∷ [];
  reference_places = [];
  value_places = [] ∷ [] ∷ [] ∷ [] ∷ [] ∷ [] ∷ [] ∷ [] ∷ [] ∷ [];
  result_places = [] ∷ [] ∷ [] ∷ [] ∷ [] ∷ [] ∷ [] ∷ [] ∷ [] ∷ [];
}

-- shown: all holds of it
pub libraries_are_models : (file : FileNo) → IsModel (library file)
libraries_are_models file = record {
  few = record {
    elements = refl;
    members = refl;
    references = refl;
    imports = refl;
    items = refl;
    values = refl;
    results = refl;
  };
  ranges = record { elements = refl; items = refl; members = refl; references = refl; imports = refl };
  places = record { members = refl; references = refl; values = refl; results = refl };
  root = (refl, refl);
  owned = refl;
  items = record { members = refl; imports = refl; text_order = refl };
  paths = refl;
  expressions = refl;
  contexts = refl;
  numbering = record { elements = (library_trees, refl); members = refl; imports = refl; references = refl };
}

-- An enumeration definition with one value.
--
-- enum def Color { enum red; }
abbrev pub colors : FileNo → Data
colors file = record {
  file = file;
  language = Sysml;
  elements =
      root_element
      ∷ element kind.EnumDef 0 (Some (codes "Color"))
      ∷ element kind.Enumeration 1 (Some (codes "red"))
      ∷ [];
  items =
      (item.Member 0 ∷ [])
      ∷ (item.Member 1 ∷ [])
      ∷ []
      ∷ [];
  members =
      member 0 1 (Some (codes "Color"))
      ∷ member 1 2 (Some (codes "red"))
      ∷ [];
  references = [];
  imports = [];
  member_places = 0 ∷ 17 ∷ [];
  reference_places = [];
  value_places = [] ∷ [] ∷ [] ∷ [];
  result_places = [] ∷ [] ∷ [] ∷ [];
}

-- shown: all holds of it
pub colors_are_models : (file : FileNo) → IsModel (colors file)
colors_are_models file = record {
  few = record {
    elements = refl;
    members = refl;
    references = refl;
    imports = refl;
    items = refl;
    values = refl;
    results = refl;
  };
  ranges = record { elements = refl; items = refl; members = refl; references = refl; imports = refl };
  places = record { members = refl; references = refl; values = refl; results = refl };
  root = (refl, refl);
  owned = refl;
  items = record { members = refl; imports = refl; text_order = refl };
  paths = refl;
  expressions = refl;
  contexts = refl;
  numbering = record { elements = (color_trees, refl); members = refl; imports = refl; references = refl };
}

-- Two library files and a project file, in the order of their arrival.
abbrev pub shelf : List StoredFile
shelf =
    record { name = codes "$lib/B.sysml"; library = true; model = Some (library (record { 0 = 0 })) }
    ∷ record { name = codes "$lib/A.sysml"; library = true; model = Some (library (record { 0 = 1 })) }
    ∷ record { name = codes "a.sysml"; library = false; model = Some (colors (record { 0 = 2 })) }
    ∷ []

-- shown: who bears a name, in the order of their numbers
pub three_bear_it : bearers (names (record { 0 = 0 })).members 0 (codes "a") ≡ 0 ∷ 1 ∷ 2 ∷ []
three_bear_it = refl

-- shown: the project file stands first, then the library's in byte order
pub project_file_is_first : HasRank shelf 0 2
project_file_is_first = (
  record { name = codes "a.sysml"; library = false; model = Some (colors (record { 0 = 2 })) },
  refl,
  refl,
)

pub arrival_is_no_order : HasRank shelf 1 1
arrival_is_no_order = (
  record { name = codes "$lib/A.sysml"; library = true; model = Some (library (record { 0 = 1 })) },
  refl,
  refl,
)

-- shown: the base of a part definition is the first public one of that name in the first library file
pub parts_have_a_base : base_of_kind shelf kind.PartDef ≡ Some (record { file = record { 0 = 1 }; index = 3 })
parts_have_a_base = refl

-- shown: a path that ends at no type, one through a private package, one that ends early
pub no_type_is_no_base : base_of_kind shelf kind.ItemDef ≡ None
no_type_is_no_base = refl

pub private_is_no_base : base_of_kind shelf kind.PortDef ≡ None
private_is_no_base = refl

pub missing_is_no_base : base_of_kind shelf kind.Part ≡ None
missing_is_no_base = refl

-- shown: the base of an enumerated value is its owner
pub red_is_a_color : base_of shelf (record { file = record { 0 = 2 }; index = 2 })
    ≡ Some (record { file = record { 0 = 2 }; index = 1 })
red_is_a_color = refl
