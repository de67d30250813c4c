-- Worked rows: several meant features, chains in targets, circles, corners.
use Rattle.std.specs.Prelude.{◌≡◌, true, List, [], ◌∷◌, None, Some, map, codes, refl, pos}
use Rattle.demand_core.specs.Tables.{entry_of}
use Rattle.demand_core.specs.Least.{least, stage}
use Rattle.demand_core.specs.Gather.{gather}
use Rattle.element_store.specs.declared.outcome.Role.TheVariants as role
use Rattle.element_store.specs.declared.outcome.Outcome.{Outcome}
use Rattle.element_store.specs.declared.outcome.Outcome.TheVariants.{Linked, Absent}
use Rattle.element_store.specs.declared.expression.Node.TheVariants as node
use Rattle.element_store.specs.declared.expression.BinaryOp.TheVariants as op
use Rattle.element_store.specs.declared.kind.Kind.TheVariants as kind
use Rattle.element_store.specs.declared.kind.Visibility.TheVariants.{Public}
use Rattle.element_store.specs.declared.models.StoredFile.{StoredFile}
use Rattle.element_store.specs.Model.{root_element}
use Rattle.link_model.specs.declared.keys.LinkKey.{LinkKey}
use Rattle.link_model.specs.Keys.{same_key}
use Rattle.link_model.specs.Outside.{keys_of}
use Rattle.link_model.specs.Names.{names_from}
use Rattle.link_model.specs.Imports.{visible_from}
use Rattle.link_model.specs.Written.{thing, nameless, owned_as, owned, refers, data_of, file_of, element, reference, links_of}
use Rattle.value_model.specs.declared.values.ValueKey.{ValueKey}
use Rattle.value_model.specs.declared.values.Value.TheVariants.{Integer, Enumerated}
use Rattle.value_model.specs.declared.values.ValueAnswer.TheVariants.{Value, Refused}
use Rattle.value_model.specs.declared.values.ValueFault.TheVariants.{Unbound, Circular, WrongKind, Unlinked, Several}
use Rattle.value_model.specs.Meant.{walk}
use Rattle.value_examples.specs.Words.{key, spot, worth_in, closed_under}

-- Two features that redefine the same one; a redefinition that goes by a feature owned elsewhere
--   a.sysml: part def A { attribute x = 1; } part def B :> A { attribute y :>> x = 2; attribute z :>> x = 3; }
--     part def C :> B { attribute v :>> y; attribute u :>> z = 5; attribute t :>> u :>> v; }
abbrev pub several : List StoredFile
several = file_of (codes "a.sysml") (record (data_of 0
    (root_element
    ∷ thing kind.PartDef 0 (codes "A")
    ∷ record (thing kind.Attribute 1 (codes "x")) { value = Some (node.Integer (pos 1) ∷ []) }
    ∷ thing kind.PartDef 0 (codes "B")
    ∷ record (thing kind.Attribute 3 (codes "y")) { value = Some (node.Integer (pos 2) ∷ []) }
    ∷ record (thing kind.Attribute 3 (codes "z")) { value = Some (node.Integer (pos 3) ∷ []) }
    ∷ thing kind.PartDef 0 (codes "C")
    ∷ thing kind.Attribute 6 (codes "v")
    ∷ record (thing kind.Attribute 6 (codes "u")) { value = Some (node.Integer (pos 5) ∷ []) }
    ∷ thing kind.Attribute 6 (codes "t")
    ∷ [])
    (owned 0 1 (codes "A")
    ∷ owned 1 2 (codes "x")
    ∷ owned 0 3 (codes "B")
    ∷ owned 3 4 (codes "y")
    ∷ owned 3 5 (codes "z")
    ∷ owned 0 6 (codes "C")
    ∷ owned 6 7 (codes "v")
    ∷ owned 6 8 (codes "u")
    ∷ owned 6 9 (codes "t")
    ∷ [])
    (refers role.Subclass 3 ((codes "A") ∷ [])
    ∷ refers role.Redefinition 4 ((codes "x") ∷ [])
    ∷ refers role.Redefinition 5 ((codes "x") ∷ [])
    ∷ refers role.Subclass 6 ((codes "B") ∷ [])
    ∷ refers role.Redefinition 7 ((codes "y") ∷ [])
    ∷ refers role.Redefinition 8 ((codes "z") ∷ [])
    ∷ refers role.Redefinition 9 ((codes "u") ∷ [])
    ∷ refers role.Redefinition 9 ((codes "v") ∷ [])
    ∷ [])
    []) {
      reference_places = (46 ∷ 66 ∷ 89 ∷ 112 ∷ 132 ∷ 151 ∷ 174 ∷ 180 ∷ []);
      value_places = ([] ∷ [] ∷ (27 ∷ []) ∷ [] ∷ (70 ∷ []) ∷ (93 ∷ []) ∷ [] ∷ [] ∷ (155 ∷ []) ∷ [] ∷ []);
      result_places = ([] ∷ [] ∷ [] ∷ [] ∷ [] ∷ [] ∷ [] ∷ [] ∷ [] ∷ [] ∷ []);
    }) ∷ []

abbrev pub several_links : List (LinkKey × Outcome)
several_links = ((reference 0 0, Linked [] (element 0 1))
    ∷ (reference 0 1, Linked [] (element 0 2))
    ∷ (reference 0 2, Linked [] (element 0 2))
    ∷ (reference 0 3, Linked [] (element 0 3))
    ∷ (reference 0 4, Linked [] (element 0 4))
    ∷ (reference 0 5, Linked [] (element 0 5))
    ∷ (reference 0 6, Absent 1)
    ∷ (reference 0 7, Absent 1)
    ∷ [])

pub several_is_linked : links_of several ≡ map (entry_of same_key several_links) (keys_of several)
unfolding least stage gather names_from visible_from
several_is_linked = refl

abbrev pub several_keys : List ValueKey
several_keys = (key (element 0 2) None
    ∷ key (element 0 2) (Some (element 0 3))
    ∷ key (element 0 2) (Some (element 0 6))
    ∷ key (element 0 4) (Some (element 0 6))
    ∷ [])

pub several_is_reachable : closed_under several several_links several_keys ≡ true
unfolding gather walk
several_is_reachable = refl

pub several_A_x : worth_in several several_links several_keys (key (element 0 2) None) ≡ Value (Integer (pos 1))
unfolding least stage gather walk
several_A_x = refl

pub several_A_x_in_B : worth_in several several_links several_keys (key (element 0 2) (Some (element 0 3)))
    ≡ Refused (Several (element 0 2))
unfolding least stage gather walk
several_A_x_in_B = refl

pub several_A_x_in_C : worth_in several several_links several_keys (key (element 0 2) (Some (element 0 6)))
    ≡ Refused (Several (element 0 2))
unfolding least stage gather walk
several_A_x_in_C = refl

pub several_B_y_in_C : worth_in several several_links several_keys (key (element 0 4) (Some (element 0 6)))
    ≡ Value (Integer (pos 2))
unfolding least stage gather walk
several_B_y_in_C = refl

-- A chain of three steps in a target with redefinitions
--   a.sysml: part def E { attribute p = 1; } part def V { part e : E; attribute q = e.p; }
--     part def F :> E { attribute :>> p = 7; } part def W :> V { part :>> e : F; attribute :>> q; }
--     part def T { part v : V; attribute r = v.e.p; } part def U :> T { part w : W :>> v; } part t : U;
--     attribute s = t.w.e.p;
abbrev pub chains : List StoredFile
chains = file_of (codes "a.sysml") (record (data_of 0
    (root_element
    ∷ thing kind.PartDef 0 (codes "E")
    ∷ record (thing kind.Attribute 1 (codes "p")) { value = Some (node.Integer (pos 1) ∷ []) }
    ∷ thing kind.PartDef 0 (codes "V")
    ∷ thing kind.Part 3 (codes "e")
    ∷ record (thing kind.Attribute 3 (codes "q")) { value = Some (node.Named 1 ∷ []) }
    ∷ thing kind.PartDef 0 (codes "F")
    ∷ record (nameless kind.Attribute 6) { value = Some (node.Integer (pos 7) ∷ []) }
    ∷ thing kind.PartDef 0 (codes "W")
    ∷ nameless kind.Part 8
    ∷ nameless kind.Attribute 8
    ∷ thing kind.PartDef 0 (codes "T")
    ∷ thing kind.Part 11 (codes "v")
    ∷ record (thing kind.Attribute 11 (codes "r")) { value = Some (node.Named 9 ∷ []) }
    ∷ thing kind.PartDef 0 (codes "U")
    ∷ thing kind.Part 14 (codes "w")
    ∷ thing kind.Part 0 (codes "t")
    ∷ record (thing kind.Attribute 0 (codes "s")) { value = Some (node.Named 14 ∷ []) }
    ∷ [])
    (owned 0 1 (codes "E")
    ∷ owned 1 2 (codes "p")
    ∷ owned 0 3 (codes "V")
    ∷ owned 3 4 (codes "e")
    ∷ owned 3 5 (codes "q")
    ∷ owned 0 6 (codes "F")
    ∷ owned_as Public 6 7 None
    ∷ owned 0 8 (codes "W")
    ∷ owned_as Public 8 9 None
    ∷ owned_as Public 8 10 None
    ∷ owned 0 11 (codes "T")
    ∷ owned 11 12 (codes "v")
    ∷ owned 11 13 (codes "r")
    ∷ owned 0 14 (codes "U")
    ∷ owned 14 15 (codes "w")
    ∷ owned 0 16 (codes "t")
    ∷ owned 0 17 (codes "s")
    ∷ [])
    (refers role.Typing 4 ((codes "E") ∷ [])
    ∷ record (refers role.Value 5 ((codes "e") ∷ [])) { chain = ((codes "p") ∷ []) }
    ∷ refers role.Subclass 6 ((codes "E") ∷ [])
    ∷ refers role.Redefinition 7 ((codes "p") ∷ [])
    ∷ refers role.Subclass 8 ((codes "V") ∷ [])
    ∷ refers role.Redefinition 9 ((codes "e") ∷ [])
    ∷ refers role.Typing 9 ((codes "F") ∷ [])
    ∷ refers role.Redefinition 10 ((codes "q") ∷ [])
    ∷ refers role.Typing 12 ((codes "V") ∷ [])
    ∷ record (refers role.Value 13 ((codes "v") ∷ [])) { chain = ((codes "e") ∷ (codes "p") ∷ []) }
    ∷ refers role.Subclass 14 ((codes "T") ∷ [])
    ∷ refers role.Typing 15 ((codes "W") ∷ [])
    ∷ refers role.Redefinition 15 ((codes "v") ∷ [])
    ∷ refers role.Typing 16 ((codes "U") ∷ [])
    ∷ record (refers role.Value 17 ((codes "t") ∷ [])) { chain = ((codes "w") ∷ (codes "e") ∷ (codes "p") ∷ []) }
    ∷ [])
    []) {
      reference_places = (54 ∷ 71 ∷ 92 ∷ 110 ∷ 133 ∷ 146 ∷ 150 ∷ 167 ∷ 194 ∷ 211 ∷ 234 ∷ 247 ∷ 253 ∷ 267 ∷ 284
          ∷ []);
      value_places = ([] ∷ [] ∷ (27 ∷ []) ∷ [] ∷ [] ∷ (71 ∷ []) ∷ [] ∷ (114 ∷ []) ∷ [] ∷ [] ∷ [] ∷ [] ∷ []
          ∷ (211 ∷ []) ∷ [] ∷ [] ∷ [] ∷ (284 ∷ []) ∷ []);
      result_places = ([] ∷ [] ∷ [] ∷ [] ∷ [] ∷ [] ∷ [] ∷ [] ∷ [] ∷ [] ∷ [] ∷ [] ∷ [] ∷ [] ∷ [] ∷ [] ∷ [] ∷ []
          ∷ []);
    }) ∷ []

abbrev pub chains_links : List (LinkKey × Outcome)
chains_links = ((reference 0 0, Linked [] (element 0 1))
    ∷ (reference 0 1, Linked ((element 0 4) ∷ []) (element 0 2))
    ∷ (reference 0 2, Linked [] (element 0 1))
    ∷ (reference 0 3, Linked [] (element 0 2))
    ∷ (reference 0 4, Linked [] (element 0 3))
    ∷ (reference 0 5, Linked [] (element 0 4))
    ∷ (reference 0 6, Linked [] (element 0 6))
    ∷ (reference 0 7, Linked [] (element 0 5))
    ∷ (reference 0 8, Linked [] (element 0 3))
    ∷ (reference 0 9, Linked ((element 0 12) ∷ (element 0 4) ∷ []) (element 0 2))
    ∷ (reference 0 10, Linked [] (element 0 11))
    ∷ (reference 0 11, Linked [] (element 0 8))
    ∷ (reference 0 12, Linked [] (element 0 12))
    ∷ (reference 0 13, Linked [] (element 0 14))
    ∷ (reference 0 14, Linked ((element 0 16) ∷ (element 0 15) ∷ (element 0 9) ∷ []) (element 0 7))
    ∷ [])

pub chains_is_linked : links_of chains ≡ map (entry_of same_key chains_links) (keys_of chains)
unfolding least stage gather names_from visible_from
chains_is_linked = refl

abbrev pub chains_keys : List ValueKey
chains_keys = (key (element 0 5) None
    ∷ key (element 0 5) (Some (element 0 8))
    ∷ key (element 0 13) None
    ∷ key (element 0 13) (Some (element 0 14))
    ∷ key (element 0 17) None
    ∷ key (element 0 2) (Some (element 0 4))
    ∷ key (element 0 2) (Some (element 0 9))
    ∷ key (element 0 7) (Some (element 0 9))
    ∷ [])

pub chains_is_reachable : closed_under chains chains_links chains_keys ≡ true
unfolding gather walk
chains_is_reachable = refl

pub chains_V_q : worth_in chains chains_links chains_keys (key (element 0 5) None) ≡ Value (Integer (pos 1))
unfolding least stage gather walk
chains_V_q = refl

pub chains_V_q_in_W : worth_in chains chains_links chains_keys (key (element 0 5) (Some (element 0 8)))
    ≡ Value (Integer (pos 7))
unfolding least stage gather walk
chains_V_q_in_W = refl

pub chains_T_r : worth_in chains chains_links chains_keys (key (element 0 13) None) ≡ Value (Integer (pos 1))
unfolding least stage gather walk
chains_T_r = refl

pub chains_T_r_in_U : worth_in chains chains_links chains_keys (key (element 0 13) (Some (element 0 14)))
    ≡ Value (Integer (pos 7))
unfolding least stage gather walk
chains_T_r_in_U = refl

pub chains_s : worth_in chains chains_links chains_keys (key (element 0 17) None) ≡ Value (Integer (pos 7))
unfolding least stage gather walk
chains_s = refl

-- A redefinition circle; a key that needs a circular one
--   a.sysml: part def A :> B { attribute x :>> B::y; } part def B { attribute y :>> A::x; }
--     attribute a = b; attribute b = 1 + c; attribute c = b; part p : A; attribute z = p.x;
--     attribute u = p::x == nothing;
abbrev pub rings : List StoredFile
rings = file_of (codes "a.sysml") (record (data_of 0
    (root_element
    ∷ thing kind.PartDef 0 (codes "A")
    ∷ thing kind.Attribute 1 (codes "x")
    ∷ thing kind.PartDef 0 (codes "B")
    ∷ thing kind.Attribute 3 (codes "y")
    ∷ record (thing kind.Attribute 0 (codes "a")) { value = Some (node.Named 3 ∷ []) }
    ∷ record (thing kind.Attribute 0 (codes "b"))
    { value = Some (node.Integer (pos 1) ∷ node.Named 4 ∷ node.Binary op.Add ∷ []) }
    ∷ record (thing kind.Attribute 0 (codes "c")) { value = Some (node.Named 5 ∷ []) }
    ∷ thing kind.Part 0 (codes "p")
    ∷ record (thing kind.Attribute 0 (codes "z")) { value = Some (node.Named 7 ∷ []) }
    ∷ record (thing kind.Attribute 0 (codes "u"))
    { value = Some (node.Named 8 ∷ node.Named 9 ∷ node.Binary op.Equal ∷ []) }
    ∷ [])
    (owned 0 1 (codes "A")
    ∷ owned 1 2 (codes "x")
    ∷ owned 0 3 (codes "B")
    ∷ owned 3 4 (codes "y")
    ∷ owned 0 5 (codes "a")
    ∷ owned 0 6 (codes "b")
    ∷ owned 0 7 (codes "c")
    ∷ owned 0 8 (codes "p")
    ∷ owned 0 9 (codes "z")
    ∷ owned 0 10 (codes "u")
    ∷ [])
    (refers role.Subclass 1 ((codes "B") ∷ [])
    ∷ refers role.Redefinition 2 ((codes "B") ∷ (codes "y") ∷ [])
    ∷ refers role.Redefinition 4 ((codes "A") ∷ (codes "x") ∷ [])
    ∷ refers role.Value 5 ((codes "b") ∷ [])
    ∷ refers role.Value 6 ((codes "c") ∷ [])
    ∷ refers role.Value 7 ((codes "b") ∷ [])
    ∷ refers role.Typing 8 ((codes "A") ∷ [])
    ∷ record (refers role.Value 9 ((codes "p") ∷ [])) { chain = ((codes "x") ∷ []) }
    ∷ refers role.Value 10 ((codes "p") ∷ (codes "x") ∷ [])
    ∷ refers role.Value 10 ((codes "nothing") ∷ [])
    ∷ [])
    []) {
      reference_places = (14 ∷ 34 ∷ 71 ∷ 93 ∷ 114 ∷ 131 ∷ 143 ∷ 160 ∷ 179 ∷ 187 ∷ []);
      value_places = ([] ∷ [] ∷ [] ∷ [] ∷ [] ∷ (93 ∷ []) ∷ (110 ∷ 114 ∷ 112 ∷ []) ∷ (131 ∷ []) ∷ [] ∷ (160 ∷ [])
          ∷ (179 ∷ 187 ∷ 184 ∷ []) ∷ []);
      result_places = ([] ∷ [] ∷ [] ∷ [] ∷ [] ∷ [] ∷ [] ∷ [] ∷ [] ∷ [] ∷ [] ∷ []);
    })
    ∷ []

abbrev pub rings_links : List (LinkKey × Outcome)
rings_links = ((reference 0 0, Linked [] (element 0 3))
    ∷ (reference 0 1, Linked [] (element 0 4))
    ∷ (reference 0 2, Linked [] (element 0 2))
    ∷ (reference 0 3, Linked [] (element 0 6))
    ∷ (reference 0 4, Linked [] (element 0 7))
    ∷ (reference 0 5, Linked [] (element 0 6))
    ∷ (reference 0 6, Linked [] (element 0 1))
    ∷ (reference 0 7, Absent 2)
    ∷ (reference 0 8, Absent 2)
    ∷ (reference 0 9, Absent 1)
    ∷ [])

pub rings_is_linked : links_of rings ≡ map (entry_of same_key rings_links) (keys_of rings)
unfolding least stage gather names_from visible_from
rings_is_linked = refl

abbrev pub rings_keys : List ValueKey
rings_keys = (key (element 0 2) None
    ∷ key (element 0 2) (Some (element 0 1))
    ∷ key (element 0 5) None
    ∷ key (element 0 6) None
    ∷ key (element 0 7) None
    ∷ key (element 0 9) None
    ∷ key (element 0 10) None
    ∷ [])

pub rings_is_reachable : closed_under rings rings_links rings_keys ≡ true
unfolding gather walk
rings_is_reachable = refl

pub rings_A_x : worth_in rings rings_links rings_keys (key (element 0 2) None) ≡ Refused (Unbound (element 0 2))
unfolding least stage gather walk
rings_A_x = refl

pub rings_A_x_in_A : worth_in rings rings_links rings_keys (key (element 0 2) (Some (element 0 1)))
    ≡ Refused (Several (element 0 2))
unfolding least stage gather walk
rings_A_x_in_A = refl

pub rings_a : worth_in rings rings_links rings_keys (key (element 0 5) None) ≡ Refused (Circular (element 0 6))
unfolding least stage gather walk
rings_a = refl

pub rings_b : worth_in rings rings_links rings_keys (key (element 0 6) None) ≡ Refused (Circular (element 0 7))
unfolding least stage gather walk
rings_b = refl

pub rings_c : worth_in rings rings_links rings_keys (key (element 0 7) None) ≡ Refused (Circular (element 0 6))
unfolding least stage gather walk
rings_c = refl

pub rings_z : worth_in rings rings_links rings_keys (key (element 0 9) None) ≡ Refused (Unlinked (spot 0 160))
unfolding least stage gather walk
rings_z = refl

pub rings_u : worth_in rings rings_links rings_keys (key (element 0 10) None) ≡ Refused (Unlinked (spot 0 179))
unfolding least stage gather walk
rings_u = refl

-- An enumerated value behind what is no feature; a redefinition that leads to no feature, whose result isn't taken; a
-- value and a result
--   a.sysml: enum def E { u; v = 3; } attribute a = E.u; attribute b = E::v; calc def D { 1 } calc c :>> D;
--     calc k = 1 { 2 } attribute l = k; attribute m :>> c = l - 2 < 0 and a == b;
abbrev pub corners : List StoredFile
corners = file_of (codes "a.sysml") (record (data_of 0
    (root_element
    ∷ thing kind.EnumDef 0 (codes "E")
    ∷ thing kind.Enumeration 1 (codes "u")
    ∷ record (thing kind.Enumeration 1 (codes "v")) { value = Some (node.Integer (pos 3) ∷ []) }
    ∷ record (thing kind.Attribute 0 (codes "a")) { value = Some (node.Named 0 ∷ []) }
    ∷ record (thing kind.Attribute 0 (codes "b")) { value = Some (node.Named 1 ∷ []) }
    ∷ record (thing kind.CalcDef 0 (codes "D")) { result = Some (node.Integer (pos 1) ∷ []) }
    ∷ thing kind.Calc 0 (codes "c")
    ∷ record (thing kind.Calc 0 (codes "k")) {
      value = Some (node.Integer (pos 1) ∷ []);
      result = Some (node.Integer (pos 2) ∷ []);
    }
    ∷ record (thing kind.Attribute 0 (codes "l")) { value = Some (node.Named 3 ∷ []) }
    ∷ record (thing kind.Attribute 0 (codes "m")) {
      value = Some (node.Named 5 ∷ node.Integer (pos 2) ∷ node.Binary op.Subtract ∷ node.Integer (pos 0)
          ∷ node.Binary op.Less ∷ node.Named 6 ∷ node.Named 7 ∷ node.Binary op.Equal ∷ node.Binary op.And ∷ []);
    }
    ∷ [])
    (owned 0 1 (codes "E")
    ∷ owned 1 2 (codes "u")
    ∷ owned 1 3 (codes "v")
    ∷ owned 0 4 (codes "a")
    ∷ owned 0 5 (codes "b")
    ∷ owned 0 6 (codes "D")
    ∷ owned 0 7 (codes "c")
    ∷ owned 0 8 (codes "k")
    ∷ owned 0 9 (codes "l")
    ∷ owned 0 10 (codes "m")
    ∷ [])
    (record (refers role.Value 4 ((codes "E") ∷ [])) { chain = ((codes "u") ∷ []) }
    ∷ refers role.Value 5 ((codes "E") ∷ (codes "v") ∷ [])
    ∷ refers role.Redefinition 7 ((codes "D") ∷ [])
    ∷ refers role.Value 9 ((codes "k") ∷ [])
    ∷ refers role.Redefinition 10 ((codes "c") ∷ [])
    ∷ refers role.Value 10 ((codes "l") ∷ [])
    ∷ refers role.Value 10 ((codes "a") ∷ [])
    ∷ refers role.Value 10 ((codes "b") ∷ [])
    ∷ [])
    []) {
      reference_places = (39 ∷ 58 ∷ 92 ∷ 126 ∷ 145 ∷ 149 ∷ 163 ∷ 168 ∷ []);
      value_places = ([] ∷ [] ∷ [] ∷ (20 ∷ []) ∷ (39 ∷ []) ∷ (58 ∷ []) ∷ [] ∷ [] ∷ (104 ∷ []) ∷ (126 ∷ [])
          ∷ (149 ∷ 153 ∷ 151 ∷ 157 ∷ 155 ∷ 163 ∷ 168 ∷ 165 ∷ 159 ∷ []) ∷ []);
      result_places = ([] ∷ [] ∷ [] ∷ [] ∷ [] ∷ [] ∷ (77 ∷ []) ∷ [] ∷ (108 ∷ []) ∷ [] ∷ [] ∷ []);
    }) ∷ []

abbrev pub corners_links : List (LinkKey × Outcome)
corners_links = ((reference 0 0, Linked ((element 0 1) ∷ []) (element 0 2))
    ∷ (reference 0 1, Linked [] (element 0 3))
    ∷ (reference 0 2, Linked [] (element 0 6))
    ∷ (reference 0 3, Linked [] (element 0 8))
    ∷ (reference 0 4, Linked [] (element 0 7))
    ∷ (reference 0 5, Linked [] (element 0 9))
    ∷ (reference 0 6, Linked [] (element 0 4))
    ∷ (reference 0 7, Linked [] (element 0 5))
    ∷ [])

pub corners_is_linked : links_of corners ≡ map (entry_of same_key corners_links) (keys_of corners)
unfolding least stage gather names_from visible_from
corners_is_linked = refl

abbrev pub corners_keys : List ValueKey
corners_keys = (key (element 0 4) None
    ∷ key (element 0 5) None
    ∷ key (element 0 3) None
    ∷ key (element 0 7) None
    ∷ key (element 0 8) None
    ∷ key (element 0 10) None
    ∷ key (element 0 9) None
    ∷ [])

pub corners_is_reachable : closed_under corners corners_links corners_keys ≡ true
unfolding gather walk
corners_is_reachable = refl

pub corners_a : worth_in corners corners_links corners_keys (key (element 0 4) None) ≡ Refused (WrongKind (spot 0 39))
unfolding least stage gather walk
corners_a = refl

pub corners_b : worth_in corners corners_links corners_keys (key (element 0 5) None) ≡ Value (Enumerated (element 0 3))
unfolding least stage gather walk
corners_b = refl

pub corners_E_v : worth_in corners corners_links corners_keys (key (element 0 3) None) ≡ Value (Integer (pos 3))
unfolding least stage gather walk
corners_E_v = refl

pub corners_c : worth_in corners corners_links corners_keys (key (element 0 7) None) ≡ Refused (Unbound (element 0 7))
unfolding least stage gather walk
corners_c = refl

pub corners_k : worth_in corners corners_links corners_keys (key (element 0 8) None) ≡ Value (Integer (pos 1))
unfolding least stage gather walk
corners_k = refl

pub corners_m : worth_in corners corners_links corners_keys (key (element 0 10) None) ≡ Refused (WrongKind (spot 0 39))
unfolding least stage gather walk
corners_m = refl

-- A target that reaches the owner of its features by its base alone: an enumerated value
--   a.sysml: enum def E { u; v :>> E::u = 2; }
abbrev pub by_base : List StoredFile
by_base = file_of (codes "a.sysml") (record (data_of 0
    (root_element
    ∷ thing kind.EnumDef 0 (codes "E")
    ∷ thing kind.Enumeration 1 (codes "u")
    ∷ record (thing kind.Enumeration 1 (codes "v")) { value = Some (node.Integer (pos 2) ∷ []) }
    ∷ [])
    (owned 0 1 (codes "E")
    ∷ owned 1 2 (codes "u")
    ∷ owned 1 3 (codes "v")
    ∷ [])
    (refers role.Redefinition 3 ((codes "E") ∷ (codes "u") ∷ [])
    ∷ [])
    []) {
      reference_places = (22 ∷ []);
      value_places = ([] ∷ [] ∷ [] ∷ (29 ∷ []) ∷ []);
      result_places = ([] ∷ [] ∷ [] ∷ [] ∷ []);
    }) ∷ []

abbrev pub by_base_links : List (LinkKey × Outcome)
by_base_links = ((reference 0 0, Linked [] (element 0 2))
    ∷ [])

pub by_base_is_linked : links_of by_base ≡ map (entry_of same_key by_base_links) (keys_of by_base)
unfolding least stage gather names_from visible_from
by_base_is_linked = refl

abbrev pub by_base_keys : List ValueKey
by_base_keys = (key (element 0 2) None
    ∷ key (element 0 2) (Some (element 0 2))
    ∷ key (element 0 2) (Some (element 0 1))
    ∷ [])

pub by_base_is_reachable : closed_under by_base by_base_links by_base_keys ≡ true
unfolding gather walk
by_base_is_reachable = refl

pub by_base_E_u : worth_in by_base by_base_links by_base_keys (key (element 0 2) None) ≡ Refused (Unbound (element 0 2))
unfolding least stage gather walk
by_base_E_u = refl

pub by_base_E_u_in_E_u : worth_in by_base by_base_links by_base_keys (key (element 0 2) (Some (element 0 2)))
    ≡ Value (Integer (pos 2))
unfolding least stage gather walk
by_base_E_u_in_E_u = refl

pub by_base_E_u_in_E : worth_in by_base by_base_links by_base_keys (key (element 0 2) (Some (element 0 1)))
    ≡ Value (Integer (pos 2))
unfolding least stage gather walk
by_base_E_u_in_E = refl
