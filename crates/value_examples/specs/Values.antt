-- Worked rows: what features are worth, refusals in their order, targets.
use Rattle.std.specs.Prelude.{◌≡◌, true, false, List, [], ◌∷◌, None, Some, map, codes, refl, pos, negsuc}
use Rattle.demand_core.specs.Tables.{entry_of}
use Rattle.demand_core.specs.Least.{least, stage}
use Rattle.demand_core.specs.Gather.{gather}
use Rattle.element_store.specs.declared.outcome.Role.TheVariants as role
use Rattle.element_store.specs.declared.outcome.Outcome.{Outcome}
use Rattle.element_store.specs.declared.outcome.Outcome.TheVariants.{Linked}
use Rattle.element_store.specs.declared.expression.Node.TheVariants as node
use Rattle.element_store.specs.declared.expression.UnaryOp.TheVariants.{Minus, Not}
use Rattle.element_store.specs.declared.expression.BinaryOp.TheVariants as op
use Rattle.element_store.specs.declared.kind.Kind.TheVariants as kind
use Rattle.element_store.specs.declared.kind.Visibility.TheVariants.{Public, Private}
use Rattle.element_store.specs.declared.models.StoredFile.{StoredFile}
use Rattle.element_store.specs.Model.{root_element}
use Rattle.link_model.specs.declared.keys.LinkKey.{LinkKey}
use Rattle.link_model.specs.Keys.{same_key}
use Rattle.link_model.specs.Outside.{keys_of}
use Rattle.link_model.specs.Names.{names_from}
use Rattle.link_model.specs.Imports.{visible_from}
use Rattle.link_model.specs.Written.{thing, nameless, owned_as, owned, refers, brings, data_of, file_of, library_file, element, reference, links_of}
use Rattle.value_model.specs.declared.values.ValueKey.{ValueKey}
use Rattle.value_model.specs.declared.values.Value.TheVariants.{Integer, Boolean, Text, Enumerated}
use Rattle.value_model.specs.declared.values.ValueAnswer.TheVariants.{Value, Refused}
use Rattle.value_model.specs.declared.values.ValueFault.TheVariants.{Unbound, Circular, WrongKind, Overflow, ZeroDivisor, Inexact}
use Rattle.value_model.specs.Meant.{walk}
use Rattle.value_examples.specs.Words.{key, spot, worth_in, closed_under}

-- Overflow, an inexact quotient, a circle, a branch not taken, the sign of `%`, a joined text, a zero divisor, a wrong
-- kind, no value
--   v.sysml: attribute a = 9223372036854775807 + 1; attribute b = 7 / 2; attribute c = d; attribute d = c;
--     attribute e = if true ? 1 else e; attribute f = -7 % 2; attribute g = "a" + "b";
--     attribute h = 1 / 0; attribute i = not 1; attribute j;
abbrev pub values : List StoredFile
values = file_of (codes "v.sysml") (record (data_of 0
    (root_element
    ∷ record (thing kind.Attribute 0 (codes "a"))
    { value = Some (node.Integer (pos 9223372036854775807) ∷ node.Integer (pos 1) ∷ node.Binary op.Add ∷ []) }
    ∷ record (thing kind.Attribute 0 (codes "b"))
    { value = Some (node.Integer (pos 7) ∷ node.Integer (pos 2) ∷ node.Binary op.Divide ∷ []) }
    ∷ record (thing kind.Attribute 0 (codes "c")) { value = Some (node.Named 0 ∷ []) }
    ∷ record (thing kind.Attribute 0 (codes "d")) { value = Some (node.Named 1 ∷ []) }
    ∷ record (thing kind.Attribute 0 (codes "e"))
    { value = Some (node.Boolean true ∷ node.Integer (pos 1) ∷ node.Named 2 ∷ node.If ∷ []) }
    ∷ record (thing kind.Attribute 0 (codes "f"))
    { value = Some (node.Integer (pos 7) ∷ node.Unary Minus ∷ node.Integer (pos 2) ∷ node.Binary op.Remainder ∷ []) }
    ∷ record (thing kind.Attribute 0 (codes "g"))
    { value = Some (node.Text (codes "a") ∷ node.Text (codes "b") ∷ node.Binary op.Add ∷ []) }
    ∷ record (thing kind.Attribute 0 (codes "h"))
    { value = Some (node.Integer (pos 1) ∷ node.Integer (pos 0) ∷ node.Binary op.Divide ∷ []) }
    ∷ record (thing kind.Attribute 0 (codes "i")) { value = Some (node.Integer (pos 1) ∷ node.Unary Not ∷ []) }
    ∷ thing kind.Attribute 0 (codes "j")
    ∷ [])
    (owned 0 1 (codes "a")
    ∷ owned 0 2 (codes "b")
    ∷ owned 0 3 (codes "c")
    ∷ owned 0 4 (codes "d")
    ∷ owned 0 5 (codes "e")
    ∷ owned 0 6 (codes "f")
    ∷ owned 0 7 (codes "g")
    ∷ owned 0 8 (codes "h")
    ∷ owned 0 9 (codes "i")
    ∷ owned 0 10 (codes "j")
    ∷ [])
    (refers role.Value 3 ((codes "d") ∷ [])
    ∷ refers role.Value 4 ((codes "c") ∷ [])
    ∷ refers role.Value 5 ((codes "e") ∷ [])
    ∷ [])
    []) {
      reference_places = (74 ∷ 91 ∷ 125 ∷ []);
      value_places = ([] ∷ (14 ∷ 36 ∷ 34 ∷ []) ∷ (53 ∷ 57 ∷ 55 ∷ []) ∷ (74 ∷ []) ∷ (91 ∷ [])
          ∷ (111 ∷ 118 ∷ 125 ∷ 108 ∷ []) ∷ (143 ∷ 142 ∷ 147 ∷ 145 ∷ []) ∷ (164 ∷ 170 ∷ 168 ∷ [])
          ∷ (189 ∷ 193 ∷ 191 ∷ [])
          ∷ (214 ∷ 210 ∷ []) ∷ [] ∷ []);
      result_places = ([] ∷ [] ∷ [] ∷ [] ∷ [] ∷ [] ∷ [] ∷ [] ∷ [] ∷ [] ∷ [] ∷ []);
    })
    ∷ []

abbrev pub values_links : List (LinkKey × Outcome)
values_links = ((reference 0 0, Linked [] (element 0 4))
    ∷ (reference 0 1, Linked [] (element 0 3))
    ∷ (reference 0 2, Linked [] (element 0 5))
    ∷ [])

pub values_is_linked : links_of values ≡ map (entry_of same_key values_links) (keys_of values)
unfolding least stage gather names_from visible_from
values_is_linked = refl

abbrev pub values_keys : List ValueKey
values_keys = (key (element 0 1) None
    ∷ key (element 0 2) None
    ∷ key (element 0 3) None
    ∷ key (element 0 4) None
    ∷ key (element 0 5) None
    ∷ key (element 0 6) None
    ∷ key (element 0 7) None
    ∷ key (element 0 8) None
    ∷ key (element 0 9) None
    ∷ key (element 0 10) None
    ∷ [])

pub values_is_reachable : closed_under values values_links values_keys ≡ true
unfolding gather walk
values_is_reachable = refl

pub values_a : worth_in values values_links values_keys (key (element 0 1) None) ≡ Refused (Overflow (spot 0 34))
unfolding least stage gather walk
values_a = refl

pub values_b : worth_in values values_links values_keys (key (element 0 2) None) ≡ Refused (Inexact (spot 0 55))
unfolding least stage gather walk
values_b = refl

pub values_c : worth_in values values_links values_keys (key (element 0 3) None) ≡ Refused (Circular (element 0 4))
unfolding least stage gather walk
values_c = refl

pub values_d : worth_in values values_links values_keys (key (element 0 4) None) ≡ Refused (Circular (element 0 3))
unfolding least stage gather walk
values_d = refl

pub values_e : worth_in values values_links values_keys (key (element 0 5) None) ≡ Value (Integer (pos 1))
unfolding least stage gather walk
values_e = refl

pub values_f : worth_in values values_links values_keys (key (element 0 6) None) ≡ Value (Integer (negsuc 0))
unfolding least stage gather walk
values_f = refl

pub values_g : worth_in values values_links values_keys (key (element 0 7) None) ≡ Value (Text (codes "ab"))
unfolding least stage gather walk
values_g = refl

pub values_h : worth_in values values_links values_keys (key (element 0 8) None) ≡ Refused (ZeroDivisor (spot 0 191))
unfolding least stage gather walk
values_h = refl

pub values_i : worth_in values values_links values_keys (key (element 0 9) None) ≡ Refused (WrongKind (spot 0 210))
unfolding least stage gather walk
values_i = refl

pub values_j : worth_in values values_links values_keys (key (element 0 10) None) ≡ Refused (Unbound (element 0 10))
unfolding least stage gather walk
values_j = refl

-- A value of an enumeration
--   $lib/Base.sysml: package Base { attribute def DataValue; attribute dataValues : DataValue; }
--   n.sysml: enum def Color { red; green; } attribute c : Color = Color::red;
abbrev pub color : List StoredFile
color = library_file (file_of (codes "$lib/Base.sysml") (record (data_of 0
    (root_element
    ∷ thing kind.Package 0 (codes "Base")
    ∷ thing kind.AttributeDef 1 (codes "DataValue")
    ∷ thing kind.Attribute 1 (codes "dataValues")
    ∷ [])
    (owned 0 1 (codes "Base")
    ∷ owned 1 2 (codes "DataValue")
    ∷ owned 1 3 (codes "dataValues")
    ∷ [])
    (refers role.Typing 3 ((codes "DataValue") ∷ [])
    ∷ [])
    []) {
      reference_places = (63 ∷ []);
      value_places = ([] ∷ [] ∷ [] ∷ [] ∷ []);
      result_places = ([] ∷ [] ∷ [] ∷ [] ∷ []);
    }))
    ∷ file_of (codes "n.sysml") (record (data_of 1
    (root_element
    ∷ thing kind.EnumDef 0 (codes "Color")
    ∷ thing kind.Enumeration 1 (codes "red")
    ∷ thing kind.Enumeration 1 (codes "green")
    ∷ record (thing kind.Attribute 0 (codes "c")) { value = Some (node.Named 1 ∷ []) }
    ∷ [])
    (owned 0 1 (codes "Color")
    ∷ owned 1 2 (codes "red")
    ∷ owned 1 3 (codes "green")
    ∷ owned 0 4 (codes "c")
    ∷ [])
    (refers role.Typing 4 ((codes "Color") ∷ [])
    ∷ refers role.Value 4 ((codes "Color") ∷ (codes "red") ∷ [])
    ∷ [])
    []) {
      reference_places = (45 ∷ 53 ∷ []);
      value_places = ([] ∷ [] ∷ [] ∷ [] ∷ (53 ∷ []) ∷ []);
      result_places = ([] ∷ [] ∷ [] ∷ [] ∷ [] ∷ []);
    }) ∷ []

abbrev pub color_links : List (LinkKey × Outcome)
color_links = ((reference 0 0, Linked [] (element 0 2))
    ∷ (reference 1 0, Linked [] (element 1 1))
    ∷ (reference 1 1, Linked [] (element 1 2))
    ∷ [])

pub color_is_linked : links_of color ≡ map (entry_of same_key color_links) (keys_of color)
unfolding least stage gather names_from visible_from
color_is_linked = refl

abbrev pub color_keys : List ValueKey
color_keys = (key (element 1 4) None
    ∷ key (element 1 2) None
    ∷ [])

pub color_is_reachable : closed_under color color_links color_keys ≡ true
unfolding gather walk
color_is_reachable = refl

pub color_c : worth_in color color_links color_keys (key (element 1 4) None) ≡ Value (Enumerated (element 1 2))
unfolding least stage gather walk
color_c = refl

pub color_Color_red : worth_in color color_links color_keys (key (element 1 2) None) ≡ Refused (Unbound (element 1 2))
unfolding least stage gather walk
color_Color_red = refl

-- The result of a constraint
--   $lib/Parts.sysml: package Parts { part def Part; part parts : Part; }
--   r.sysml: requirement def R { subject v : Parts::Part; attribute limit = 10; require constraint c { limit <= 10
--     } }
abbrev pub required : List StoredFile
required = library_file (file_of (codes "$lib/Parts.sysml") (record (data_of 0
    (root_element
    ∷ thing kind.Package 0 (codes "Parts")
    ∷ thing kind.PartDef 1 (codes "Part")
    ∷ thing kind.Part 1 (codes "parts")
    ∷ [])
    (owned 0 1 (codes "Parts")
    ∷ owned 1 2 (codes "Part")
    ∷ owned 1 3 (codes "parts")
    ∷ [])
    (refers role.Typing 3 ((codes "Part") ∷ [])
    ∷ [])
    []) {
      reference_places = (44 ∷ []);
      value_places = ([] ∷ [] ∷ [] ∷ [] ∷ []);
      result_places = ([] ∷ [] ∷ [] ∷ [] ∷ []);
    }))
    ∷ file_of (codes "r.sysml") (record (data_of 1
    (root_element
    ∷ thing kind.RequirementDef 0 (codes "R")
    ∷ thing kind.Reference 1 (codes "v")
    ∷ record (thing kind.Attribute 1 (codes "limit")) { value = Some (node.Integer (pos 10) ∷ []) }
    ∷ record (thing kind.Constraint 1 (codes "c"))
    { result = Some (node.Named 1 ∷ node.Integer (pos 10) ∷ node.Binary op.AtMost ∷ []) }
    ∷ [])
    (owned 0 1 (codes "R")
    ∷ owned 1 2 (codes "v")
    ∷ owned 1 3 (codes "limit")
    ∷ owned 1 4 (codes "c")
    ∷ [])
    (refers role.Typing 2 ((codes "Parts") ∷ (codes "Part") ∷ [])
    ∷ refers role.Value 4 ((codes "limit") ∷ [])
    ∷ [])
    []) {
      reference_places = (32 ∷ 90 ∷ []);
      value_places = ([] ∷ [] ∷ [] ∷ (63 ∷ []) ∷ [] ∷ []);
      result_places = ([] ∷ [] ∷ [] ∷ [] ∷ (90 ∷ 99 ∷ 96 ∷ []) ∷ []);
    }) ∷ []

abbrev pub required_links : List (LinkKey × Outcome)
required_links = ((reference 0 0, Linked [] (element 0 2))
    ∷ (reference 1 0, Linked [] (element 0 2))
    ∷ (reference 1 1, Linked [] (element 1 3))
    ∷ [])

pub required_is_linked : links_of required ≡ map (entry_of same_key required_links) (keys_of required)
unfolding least stage gather names_from visible_from
required_is_linked = refl

abbrev pub required_keys : List ValueKey
required_keys = (key (element 1 4) None
    ∷ key (element 1 3) None
    ∷ [])

pub required_is_reachable : closed_under required required_links required_keys ≡ true
unfolding gather walk
required_is_reachable = refl

pub required_R_c : worth_in required required_links required_keys (key (element 1 4) None) ≡ Value (Boolean true)
unfolding least stage gather walk
required_R_c = refl

-- A value in a target that redefines a part of it
--   $lib/ScalarValues.sysml: package ScalarValues { attribute def Integer; }
--   car.sysml: package Vehicles { private import ScalarValues::*; part def Engine {
--     attribute power : Integer = 90; } part def Vehicle { attribute mass : Integer default = 1000;
--     part engine : Engine [1]; attribute total : Integer = mass + engine.power; }
--     part def Car :> Vehicle { attribute :>> mass = 1200; part wheels [4] : Wheel; } part def Wheel; }
abbrev pub car : List StoredFile
car = library_file (file_of (codes "$lib/ScalarValues.sysml") (record (data_of 0
    (root_element
    ∷ thing kind.Package 0 (codes "ScalarValues")
    ∷ thing kind.AttributeDef 1 (codes "Integer")
    ∷ [])
    (owned 0 1 (codes "ScalarValues")
    ∷ owned 1 2 (codes "Integer")
    ∷ [])
    []
    []) { reference_places = []; value_places = ([] ∷ [] ∷ [] ∷ []); result_places = ([] ∷ [] ∷ [] ∷ []) }))
    ∷ file_of (codes "car.sysml") (record (data_of 1
    (root_element
    ∷ thing kind.Package 0 (codes "Vehicles")
    ∷ thing kind.PartDef 1 (codes "Engine")
    ∷ record (thing kind.Attribute 2 (codes "power")) { value = Some (node.Integer (pos 90) ∷ []) }
    ∷ thing kind.PartDef 1 (codes "Vehicle")
    ∷ record (thing kind.Attribute 4 (codes "mass")) { value = Some (node.Integer (pos 1000) ∷ []) }
    ∷ thing kind.Part 4 (codes "engine")
    ∷ record (thing kind.Attribute 4 (codes "total"))
    { value = Some (node.Named 5 ∷ node.Named 6 ∷ node.Binary op.Add ∷ []) }
    ∷ thing kind.PartDef 1 (codes "Car")
    ∷ record (nameless kind.Attribute 8) { value = Some (node.Integer (pos 1200) ∷ []) }
    ∷ thing kind.Part 8 (codes "wheels")
    ∷ thing kind.PartDef 1 (codes "Wheel")
    ∷ [])
    (owned 0 1 (codes "Vehicles")
    ∷ owned 1 2 (codes "Engine")
    ∷ owned 2 3 (codes "power")
    ∷ owned 1 4 (codes "Vehicle")
    ∷ owned 4 5 (codes "mass")
    ∷ owned 4 6 (codes "engine")
    ∷ owned 4 7 (codes "total")
    ∷ owned 1 8 (codes "Car")
    ∷ owned_as Public 8 9 None
    ∷ owned 8 10 (codes "wheels")
    ∷ owned 1 11 (codes "Wheel")
    ∷ [])
    (refers role.Import 1 ((codes "ScalarValues") ∷ [])
    ∷ refers role.Typing 3 ((codes "Integer") ∷ [])
    ∷ refers role.Typing 5 ((codes "Integer") ∷ [])
    ∷ refers role.Typing 6 ((codes "Engine") ∷ [])
    ∷ refers role.Typing 7 ((codes "Integer") ∷ [])
    ∷ refers role.Value 7 ((codes "mass") ∷ [])
    ∷ record (refers role.Value 7 ((codes "engine") ∷ [])) { chain = ((codes "power") ∷ []) }
    ∷ refers role.Subclass 8 ((codes "Vehicle") ∷ [])
    ∷ refers role.Redefinition 9 ((codes "mass") ∷ [])
    ∷ refers role.Typing 10 ((codes "Wheel") ∷ [])
    ∷ [])
    (brings Private 1 0 true
    ∷ [])) {
      reference_places = (34 ∷ 87 ∷ 139 ∷ 177 ∷ 207 ∷ 217 ∷ 224 ∷ 256 ∷ 280 ∷ 311 ∷ []);
      value_places = ([] ∷ [] ∷ [] ∷ (97 ∷ []) ∷ [] ∷ (157 ∷ []) ∷ [] ∷ (217 ∷ 224 ∷ 222 ∷ []) ∷ [] ∷ (287 ∷ []) ∷ []
          ∷ []
          ∷ []);
      result_places = ([] ∷ [] ∷ [] ∷ [] ∷ [] ∷ [] ∷ [] ∷ [] ∷ [] ∷ [] ∷ [] ∷ [] ∷ []);
    }) ∷ []

abbrev pub car_links : List (LinkKey × Outcome)
car_links = ((reference 1 0, Linked [] (element 0 1))
    ∷ (reference 1 1, Linked [] (element 0 2))
    ∷ (reference 1 2, Linked [] (element 0 2))
    ∷ (reference 1 3, Linked [] (element 1 2))
    ∷ (reference 1 4, Linked [] (element 0 2))
    ∷ (reference 1 5, Linked [] (element 1 5))
    ∷ (reference 1 6, Linked ((element 1 6) ∷ []) (element 1 3))
    ∷ (reference 1 7, Linked [] (element 1 4))
    ∷ (reference 1 8, Linked [] (element 1 5))
    ∷ (reference 1 9, Linked [] (element 1 11))
    ∷ [])

pub car_is_linked : links_of car ≡ map (entry_of same_key car_links) (keys_of car)
unfolding least stage gather names_from visible_from
car_is_linked = refl

abbrev pub car_keys : List ValueKey
car_keys = (key (element 1 7) None
    ∷ key (element 1 7) (Some (element 1 8))
    ∷ key (element 1 5) None
    ∷ key (element 1 3) (Some (element 1 6))
    ∷ key (element 1 5) (Some (element 1 8))
    ∷ [])

pub car_is_reachable : closed_under car car_links car_keys ≡ true
unfolding gather walk
car_is_reachable = refl

pub car_Vehicles_Vehicle_total : worth_in car car_links car_keys (key (element 1 7) None) ≡ Value (Integer (pos 1090))
unfolding least stage gather walk
car_Vehicles_Vehicle_total = refl

pub car_Vehicles_Vehicle_total_in_Vehicles_Car : worth_in car car_links car_keys
    (key (element 1 7) (Some (element 1 8))) ≡ Value (Integer (pos 1290))
unfolding least stage gather walk
car_Vehicles_Vehicle_total_in_Vehicles_Car = refl

-- The edges of 64 bits, and the order of refusals
--   v.sysml: attribute m = -9223372036854775807 - 1; attribute n = m % -1; attribute o = m / -1;
--     attribute p = -m; attribute q = (1 / 0) + (not 1); attribute r = (not 1) + (1 / 0);
--     attribute s = false and (1 / 0); attribute t = 1 and (1 / 0); attribute u = false & (1 / 0);
--     attribute x = 7 / 0; attribute y = 1 == true;
abbrev pub edges : List StoredFile
edges = file_of (codes "v.sysml") (record (data_of 0
    (root_element
    ∷ record (thing kind.Attribute 0 (codes "m")) {
      value = Some (node.Integer (pos 9223372036854775807) ∷ node.Unary Minus ∷ node.Integer (pos 1)
          ∷ node.Binary op.Subtract ∷ []);
    }
    ∷ record (thing kind.Attribute 0 (codes "n"))
    { value = Some (node.Named 0 ∷ node.Integer (pos 1) ∷ node.Unary Minus ∷ node.Binary op.Remainder ∷ []) }
    ∷ record (thing kind.Attribute 0 (codes "o"))
    { value = Some (node.Named 1 ∷ node.Integer (pos 1) ∷ node.Unary Minus ∷ node.Binary op.Divide ∷ []) }
    ∷ record (thing kind.Attribute 0 (codes "p")) { value = Some (node.Named 2 ∷ node.Unary Minus ∷ []) }
    ∷ record (thing kind.Attribute 0 (codes "q")) {
      value = Some (node.Integer (pos 1) ∷ node.Integer (pos 0) ∷ node.Binary op.Divide ∷ node.Integer (pos 1)
          ∷ node.Unary Not ∷ node.Binary op.Add ∷ []);
    }
    ∷ record (thing kind.Attribute 0 (codes "r")) {
      value = Some (node.Integer (pos 1) ∷ node.Unary Not ∷ node.Integer (pos 1) ∷ node.Integer (pos 0)
          ∷ node.Binary op.Divide ∷ node.Binary op.Add ∷ []);
    }
    ∷ record (thing kind.Attribute 0 (codes "s")) {
      value = Some (node.Boolean false ∷ node.Integer (pos 1) ∷ node.Integer (pos 0) ∷ node.Binary op.Divide
          ∷ node.Binary op.And ∷ []);
    }
    ∷ record (thing kind.Attribute 0 (codes "t")) {
      value = Some (node.Integer (pos 1) ∷ node.Integer (pos 1) ∷ node.Integer (pos 0) ∷ node.Binary op.Divide
          ∷ node.Binary op.And ∷ []);
    }
    ∷ record (thing kind.Attribute 0 (codes "u")) {
      value = Some (node.Boolean false ∷ node.Integer (pos 1) ∷ node.Integer (pos 0) ∷ node.Binary op.Divide
          ∷ node.Binary op.Amp ∷ []);
    }
    ∷ record (thing kind.Attribute 0 (codes "x"))
    { value = Some (node.Integer (pos 7) ∷ node.Integer (pos 0) ∷ node.Binary op.Divide ∷ []) }
    ∷ record (thing kind.Attribute 0 (codes "y"))
    { value = Some (node.Integer (pos 1) ∷ node.Boolean true ∷ node.Binary op.Equal ∷ []) }
    ∷ [])
    (owned 0 1 (codes "m")
    ∷ owned 0 2 (codes "n")
    ∷ owned 0 3 (codes "o")
    ∷ owned 0 4 (codes "p")
    ∷ owned 0 5 (codes "q")
    ∷ owned 0 6 (codes "r")
    ∷ owned 0 7 (codes "s")
    ∷ owned 0 8 (codes "t")
    ∷ owned 0 9 (codes "u")
    ∷ owned 0 10 (codes "x")
    ∷ owned 0 11 (codes "y")
    ∷ [])
    (refers role.Value 2 ((codes "m") ∷ [])
    ∷ refers role.Value 3 ((codes "m") ∷ [])
    ∷ refers role.Value 4 ((codes "m") ∷ [])
    ∷ [])
    []) {
      reference_places = (54 ∷ 76 ∷ 99 ∷ []);
      value_places = ([] ∷ (15 ∷ 14 ∷ 37 ∷ 35 ∷ []) ∷ (54 ∷ 59 ∷ 58 ∷ 56 ∷ []) ∷ (76 ∷ 81 ∷ 80 ∷ 78 ∷ [])
          ∷ (99 ∷ 98 ∷ []) ∷ (117 ∷ 121 ∷ 119 ∷ 131 ∷ 127 ∷ 124 ∷ []) ∷ (154 ∷ 150 ∷ 160 ∷ 164 ∷ 162 ∷ 157 ∷ [])
          ∷ (182 ∷ 193 ∷ 197 ∷ 195 ∷ 188 ∷ []) ∷ (215 ∷ 222 ∷ 226 ∷ 224 ∷ 217 ∷ []) ∷ (244 ∷ 253 ∷ 257 ∷ 255 ∷ 250 ∷ [])
          ∷ (275 ∷ 279 ∷ 277 ∷ []) ∷ (296 ∷ 301 ∷ 298 ∷ []) ∷ []);
      result_places = ([] ∷ [] ∷ [] ∷ [] ∷ [] ∷ [] ∷ [] ∷ [] ∷ [] ∷ [] ∷ [] ∷ [] ∷ []);
    }) ∷ []

abbrev pub edges_links : List (LinkKey × Outcome)
edges_links = ((reference 0 0, Linked [] (element 0 1))
    ∷ (reference 0 1, Linked [] (element 0 1))
    ∷ (reference 0 2, Linked [] (element 0 1))
    ∷ [])

pub edges_is_linked : links_of edges ≡ map (entry_of same_key edges_links) (keys_of edges)
unfolding least stage gather names_from visible_from
edges_is_linked = refl

abbrev pub edges_keys : List ValueKey
edges_keys = (key (element 0 1) None
    ∷ key (element 0 2) None
    ∷ key (element 0 3) None
    ∷ key (element 0 4) None
    ∷ key (element 0 5) None
    ∷ key (element 0 6) None
    ∷ key (element 0 7) None
    ∷ key (element 0 8) None
    ∷ key (element 0 9) None
    ∷ key (element 0 10) None
    ∷ key (element 0 11) None
    ∷ [])

pub edges_is_reachable : closed_under edges edges_links edges_keys ≡ true
unfolding gather walk
edges_is_reachable = refl

pub edges_m : worth_in edges edges_links edges_keys (key (element 0 1) None)
    ≡ Value (Integer (negsuc 9223372036854775807))
unfolding least stage gather walk
edges_m = refl

pub edges_n : worth_in edges edges_links edges_keys (key (element 0 2) None) ≡ Value (Integer (pos 0))
unfolding least stage gather walk
edges_n = refl

pub edges_o : worth_in edges edges_links edges_keys (key (element 0 3) None) ≡ Refused (Overflow (spot 0 78))
unfolding least stage gather walk
edges_o = refl

pub edges_p : worth_in edges edges_links edges_keys (key (element 0 4) None) ≡ Refused (Overflow (spot 0 98))
unfolding least stage gather walk
edges_p = refl

pub edges_q : worth_in edges edges_links edges_keys (key (element 0 5) None) ≡ Refused (ZeroDivisor (spot 0 119))
unfolding least stage gather walk
edges_q = refl

pub edges_r : worth_in edges edges_links edges_keys (key (element 0 6) None) ≡ Refused (WrongKind (spot 0 150))
unfolding least stage gather walk
edges_r = refl

pub edges_s : worth_in edges edges_links edges_keys (key (element 0 7) None) ≡ Value (Boolean false)
unfolding least stage gather walk
edges_s = refl

pub edges_t : worth_in edges edges_links edges_keys (key (element 0 8) None) ≡ Refused (WrongKind (spot 0 217))
unfolding least stage gather walk
edges_t = refl

pub edges_u : worth_in edges edges_links edges_keys (key (element 0 9) None) ≡ Refused (ZeroDivisor (spot 0 255))
unfolding least stage gather walk
edges_u = refl

pub edges_x : worth_in edges edges_links edges_keys (key (element 0 10) None) ≡ Refused (ZeroDivisor (spot 0 277))
unfolding least stage gather walk
edges_x = refl

pub edges_y : worth_in edges edges_links edges_keys (key (element 0 11) None) ≡ Value (Boolean false)
unfolding least stage gather walk
edges_y = refl
