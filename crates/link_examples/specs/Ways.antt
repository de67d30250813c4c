-- Worked rows: imports, inheritance on several ways, roots, chains.
use Rattle.std.specs.Prelude.{◌≡◌, true, false, List, [], ◌∷◌, None, Some, codes, refl}
use Rattle.demand_core.specs.Least.{least, stage}
use Rattle.demand_core.specs.Gather.{gather}
use Rattle.demand_core.specs.declared.step.Step.TheVariants.{Done, Waits}
use Rattle.element_store.specs.declared.outcome.Role.TheVariants as role
use Rattle.element_store.specs.declared.outcome.Outcome.TheVariants.{Linked, Absent, Ambiguous, Hidden}
use Rattle.element_store.specs.declared.kind.Kind.TheVariants as kind
use Rattle.element_store.specs.declared.kind.Visibility.TheVariants.{Public, Private}
use Rattle.element_store.specs.declared.models.StoredFile.{StoredFile}
use Rattle.element_store.specs.Model.{root_element}
use Rattle.link_model.specs.Keys.{same_key}
use Rattle.link_model.specs.Names.{names_from}
use Rattle.link_model.specs.Imports.{visible_from}
use Rattle.link_model.specs.Linking.{link_meaning}
use Rattle.link_model.specs.Written.{brings, by_member, data_of, element, file_of, gone_file, library_file, links_of, nameless, owned, owned_as, reference, refers, thing, to}
use Rattle.link_examples.specs.Words.{asked, found, of_file, of_key, of_name, path_of, sees}

-- Inherited features and their redefinitions
--   a.sysml: part def A { part x; } part def B :> A { part y :>> x; } part def D :> B { part z :>> A::x; }
abbrev pub redefined : List StoredFile
redefined = file_of (codes "a.sysml") (data_of 0
    (root_element
    ∷ thing kind.PartDef 0 (codes "A")
    ∷ thing kind.Part 1 (codes "x")
    ∷ thing kind.PartDef 0 (codes "B")
    ∷ thing kind.Part 3 (codes "y")
    ∷ thing kind.PartDef 0 (codes "D")
    ∷ thing kind.Part 5 (codes "z")
    ∷ [])
    (owned 0 1 (codes "A")
    ∷ owned 1 2 (codes "x")
    ∷ owned 0 3 (codes "B")
    ∷ owned 3 4 (codes "y")
    ∷ owned 0 5 (codes "D")
    ∷ owned 5 6 (codes "z")
    ∷ [])
    (refers role.Subclass 3 ((codes "A") ∷ [])
    ∷ refers role.Redefinition 4 ((codes "x") ∷ [])
    ∷ refers role.Subclass 5 ((codes "B") ∷ [])
    ∷ refers role.Redefinition 6 ((codes "A") ∷ (codes "x") ∷ [])
    ∷ [])
    [])
    ∷ []

pub redefined_links : links_of redefined
    ≡ Some (to 0 1)
    ∷ Some (to 0 2)
    ∷ Some (to 0 3)
    ∷ Some (to 0 2)
    ∷ []
unfolding least stage gather names_from visible_from
redefined_links = refl

pub redefined_finds_B_y : found redefined ((codes "B") ∷ (codes "y") ∷ [])
    ≡ to 0 4
unfolding least stage gather names_from visible_from
redefined_finds_B_y = refl

pub redefined_finds_D_y : found redefined ((codes "D") ∷ (codes "y") ∷ [])
    ≡ Absent 2
unfolding least stage gather names_from visible_from
redefined_finds_D_y = refl

pub redefined_finds_D_z : found redefined ((codes "D") ∷ (codes "z") ∷ [])
    ≡ to 0 6
unfolding least stage gather names_from visible_from
redefined_finds_D_z = refl

-- over the empty table that reference waits
pub redefined_first_asking : (asked redefined (λ k. None) (reference 0 3)).step
    ≡ Waits (reference 0 2 ∷ [])
unfolding least stage gather names_from visible_from
redefined_first_asking = refl

-- over the least linking it looks at these
pub redefined_looks : sees redefined (reference 0 3)
    (of_file 0
    ∷ of_key 0 0
    ∷ of_key 0 2
    ∷ [])
    ≡ true
unfolding least stage gather names_from visible_from
redefined_looks = refl

-- A redefinition on one of two ways
--   a.sysml: part def A { part x; } part def B :> A; part def C :> A { part :>> x; } part def D :> B, C {
--     part y :> x; }
abbrev pub diamond : List StoredFile
diamond = file_of (codes "a.sysml") (data_of 0
    (root_element
    ∷ thing kind.PartDef 0 (codes "A")
    ∷ thing kind.Part 1 (codes "x")
    ∷ thing kind.PartDef 0 (codes "B")
    ∷ thing kind.PartDef 0 (codes "C")
    ∷ nameless kind.Part 4
    ∷ thing kind.PartDef 0 (codes "D")
    ∷ thing kind.Part 6 (codes "y")
    ∷ [])
    (owned 0 1 (codes "A")
    ∷ owned 1 2 (codes "x")
    ∷ owned 0 3 (codes "B")
    ∷ owned 0 4 (codes "C")
    ∷ owned_as Public 4 5 None
    ∷ owned 0 6 (codes "D")
    ∷ owned 6 7 (codes "y")
    ∷ [])
    (refers role.Subclass 3 ((codes "A") ∷ [])
    ∷ refers role.Subclass 4 ((codes "A") ∷ [])
    ∷ refers role.Redefinition 5 ((codes "x") ∷ [])
    ∷ refers role.Subclass 6 ((codes "B") ∷ [])
    ∷ refers role.Subclass 6 ((codes "C") ∷ [])
    ∷ refers role.Subsetting 7 ((codes "x") ∷ [])
    ∷ [])
    [])
    ∷ []

pub diamond_links : links_of diamond
    ≡ Some (to 0 1)
    ∷ Some (to 0 1)
    ∷ Some (to 0 2)
    ∷ Some (to 0 3)
    ∷ Some (to 0 4)
    ∷ Some (to 0 5)
    ∷ []
unfolding least stage gather names_from visible_from
diamond_links = refl

pub diamond_finds_D_x : found diamond ((codes "D") ∷ (codes "x") ∷ [])
    ≡ to 0 5
unfolding least stage gather names_from visible_from
diamond_finds_D_x = refl

-- over the empty table that reference waits
pub diamond_first_asking : (asked diamond (λ k. None) (reference 0 5)).step
    ≡ Waits (reference 0 3 ∷ reference 0 4 ∷ [])
unfolding least stage gather names_from visible_from
diamond_first_asking = refl

-- over the least linking it looks at these
pub diamond_looks : sees diamond (reference 0 5)
    (of_file 0
    ∷ of_key 0 0
    ∷ of_key 0 1
    ∷ of_key 0 2
    ∷ of_key 0 3
    ∷ of_key 0 4
    ∷ [])
    ≡ true
unfolding least stage gather names_from visible_from
diamond_looks = refl

-- A private redefinition in C leaves D the feature of A by B
--   a.sysml: part def A { part x; } part def B :> A; part def C :> A { private part :>> x; } part def D :> B, C;
abbrev pub private_redefinition : List StoredFile
private_redefinition = file_of (codes "a.sysml") (data_of 0
    (root_element
    ∷ thing kind.PartDef 0 (codes "A")
    ∷ thing kind.Part 1 (codes "x")
    ∷ thing kind.PartDef 0 (codes "B")
    ∷ thing kind.PartDef 0 (codes "C")
    ∷ nameless kind.Part 4
    ∷ thing kind.PartDef 0 (codes "D")
    ∷ [])
    (owned 0 1 (codes "A")
    ∷ owned 1 2 (codes "x")
    ∷ owned 0 3 (codes "B")
    ∷ owned 0 4 (codes "C")
    ∷ owned_as Private 4 5 None
    ∷ owned 0 6 (codes "D")
    ∷ [])
    (refers role.Subclass 3 ((codes "A") ∷ [])
    ∷ refers role.Subclass 4 ((codes "A") ∷ [])
    ∷ refers role.Redefinition 5 ((codes "x") ∷ [])
    ∷ refers role.Subclass 6 ((codes "B") ∷ [])
    ∷ refers role.Subclass 6 ((codes "C") ∷ [])
    ∷ [])
    [])
    ∷ []

pub private_redefinition_links : links_of private_redefinition
    ≡ Some (to 0 1)
    ∷ Some (to 0 1)
    ∷ Some (to 0 2)
    ∷ Some (to 0 3)
    ∷ Some (to 0 4)
    ∷ []
unfolding least stage gather names_from visible_from
private_redefinition_links = refl

pub private_redefinition_finds_D_x : found private_redefinition ((codes "D") ∷ (codes "x") ∷ [])
    ≡ to 0 2
unfolding least stage gather names_from visible_from
private_redefinition_finds_D_x = refl

-- over the empty table that reference is decided
pub private_redefinition_first_asking : (asked private_redefinition (λ k. None) (reference 0 4)).step
    ≡ Done (to 0 4)
unfolding least stage gather names_from visible_from
private_redefinition_first_asking = refl

-- over the least linking it looks at these
pub private_redefinition_looks : sees private_redefinition (reference 0 4)
    (of_file 0
    ∷ [])
    ≡ true
unfolding least stage gather names_from visible_from
private_redefinition_looks = refl

-- Packages that import each other
--   a.sysml: package P { public import Q::*; part a; } package Q { public import P::*; part b; }
abbrev pub mutual_imports : List StoredFile
mutual_imports = file_of (codes "a.sysml") (data_of 0
    (root_element
    ∷ thing kind.Package 0 (codes "P")
    ∷ thing kind.Part 1 (codes "a")
    ∷ thing kind.Package 0 (codes "Q")
    ∷ thing kind.Part 3 (codes "b")
    ∷ [])
    (owned 0 1 (codes "P")
    ∷ owned 1 2 (codes "a")
    ∷ owned 0 3 (codes "Q")
    ∷ owned 3 4 (codes "b")
    ∷ [])
    (refers role.Import 1 ((codes "Q") ∷ [])
    ∷ refers role.Import 3 ((codes "P") ∷ [])
    ∷ [])
    (brings Public 1 0 true
    ∷ brings Public 3 1 true
    ∷ []))
    ∷ []

pub mutual_imports_links : links_of mutual_imports
    ≡ Some (to 0 3)
    ∷ Some (to 0 1)
    ∷ []
unfolding least stage gather names_from visible_from
mutual_imports_links = refl

pub mutual_imports_finds_P_b : found mutual_imports ((codes "P") ∷ (codes "b") ∷ [])
    ≡ to 0 4
unfolding least stage gather names_from visible_from
mutual_imports_finds_P_b = refl

pub mutual_imports_finds_Q_a : found mutual_imports ((codes "Q") ∷ (codes "a") ∷ [])
    ≡ to 0 2
unfolding least stage gather names_from visible_from
mutual_imports_finds_Q_a = refl

pub mutual_imports_finds_P_c : found mutual_imports ((codes "P") ∷ (codes "c") ∷ [])
    ≡ Absent 2
unfolding least stage gather names_from visible_from
mutual_imports_finds_P_c = refl

-- over the empty table that reference is decided
pub mutual_imports_first_asking : (asked mutual_imports (λ k. None) (reference 0 1)).step
    ≡ Done (to 0 1)
unfolding least stage gather names_from visible_from
mutual_imports_first_asking = refl

-- over the least linking it looks at these
pub mutual_imports_looks : sees mutual_imports (reference 0 1)
    (of_file 0
    ∷ [])
    ≡ true
unfolding least stage gather names_from visible_from
mutual_imports_looks = refl

-- The order of imports
--   a.sysml: package A { package B { part x; } } package C { private import A::*; private import B::*;
--     part p :> x; } package D { private import B::*; private import A::*; part q :> x; }
abbrev pub import_order : List StoredFile
import_order = file_of (codes "a.sysml") (data_of 0
    (root_element
    ∷ thing kind.Package 0 (codes "A")
    ∷ thing kind.Package 1 (codes "B")
    ∷ thing kind.Part 2 (codes "x")
    ∷ thing kind.Package 0 (codes "C")
    ∷ thing kind.Part 4 (codes "p")
    ∷ thing kind.Package 0 (codes "D")
    ∷ thing kind.Part 6 (codes "q")
    ∷ [])
    (owned 0 1 (codes "A")
    ∷ owned 1 2 (codes "B")
    ∷ owned 2 3 (codes "x")
    ∷ owned 0 4 (codes "C")
    ∷ owned 4 5 (codes "p")
    ∷ owned 0 6 (codes "D")
    ∷ owned 6 7 (codes "q")
    ∷ [])
    (refers role.Import 4 ((codes "A") ∷ [])
    ∷ refers role.Import 4 ((codes "B") ∷ [])
    ∷ refers role.Subsetting 5 ((codes "x") ∷ [])
    ∷ refers role.Import 6 ((codes "B") ∷ [])
    ∷ refers role.Import 6 ((codes "A") ∷ [])
    ∷ refers role.Subsetting 7 ((codes "x") ∷ [])
    ∷ [])
    (brings Private 4 0 true
    ∷ brings Private 4 1 true
    ∷ brings Private 6 3 true
    ∷ brings Private 6 4 true
    ∷ []))
    ∷ []

pub import_order_links : links_of import_order
    ≡ Some (to 0 1)
    ∷ Some (to 0 2)
    ∷ Some (to 0 3)
    ∷ Some (Absent 1)
    ∷ Some (to 0 1)
    ∷ Some (Absent 1)
    ∷ []
unfolding least stage gather names_from visible_from
import_order_links = refl

-- over the empty table that reference waits
pub import_order_first_asking : (asked import_order (λ k. None) (reference 0 5)).step
    ≡ Waits (reference 0 3 ∷ reference 0 4 ∷ [])
unfolding least stage gather names_from visible_from
import_order_first_asking = refl

-- over the least linking it looks at these
pub import_order_looks : sees import_order (reference 0 5)
    (of_file 0
    ∷ of_key 0 3
    ∷ of_key 0 4
    ∷ of_name (codes "x")
    ∷ [])
    ≡ true
unfolding least stage gather names_from visible_from
import_order_looks = refl

-- Recursive imports, and with all
--   a.sysml: package P { part a; package Q { part b; private package R { part c; } } }
--     package S { private import P::**; part u :> b; part v :> c; } package T { private import all P::**;
--     part w :> c; }
abbrev pub recursive : List StoredFile
recursive = file_of (codes "a.sysml") (data_of 0
    (root_element
    ∷ thing kind.Package 0 (codes "P")
    ∷ thing kind.Part 1 (codes "a")
    ∷ thing kind.Package 1 (codes "Q")
    ∷ thing kind.Part 3 (codes "b")
    ∷ thing kind.Package 3 (codes "R")
    ∷ thing kind.Part 5 (codes "c")
    ∷ thing kind.Package 0 (codes "S")
    ∷ thing kind.Part 7 (codes "u")
    ∷ thing kind.Part 7 (codes "v")
    ∷ thing kind.Package 0 (codes "T")
    ∷ thing kind.Part 10 (codes "w")
    ∷ [])
    (owned 0 1 (codes "P")
    ∷ owned 1 2 (codes "a")
    ∷ owned 1 3 (codes "Q")
    ∷ owned 3 4 (codes "b")
    ∷ owned_as Private 3 5 (Some (codes "R"))
    ∷ owned 5 6 (codes "c")
    ∷ owned 0 7 (codes "S")
    ∷ owned 7 8 (codes "u")
    ∷ owned 7 9 (codes "v")
    ∷ owned 0 10 (codes "T")
    ∷ owned 10 11 (codes "w")
    ∷ [])
    (refers role.Import 7 ((codes "P") ∷ [])
    ∷ refers role.Subsetting 8 ((codes "b") ∷ [])
    ∷ refers role.Subsetting 9 ((codes "c") ∷ [])
    ∷ refers role.Import 10 ((codes "P") ∷ [])
    ∷ refers role.Subsetting 11 ((codes "c") ∷ [])
    ∷ [])
    (record (brings Private 7 0 false) { recursive = true }
    ∷ record (brings Private 10 3 false) { recursive = true; all = true }
    ∷ []))
    ∷ []

pub recursive_links : links_of recursive
    ≡ Some (to 0 1)
    ∷ Some (to 0 4)
    ∷ Some (Absent 1)
    ∷ Some (to 0 1)
    ∷ Some (to 0 6)
    ∷ []
unfolding least stage gather names_from visible_from
recursive_links = refl

-- over the empty table that reference waits
pub recursive_first_asking : (asked recursive (λ k. None) (reference 0 4)).step
    ≡ Waits (reference 0 3 ∷ [])
unfolding least stage gather names_from visible_from
recursive_first_asking = refl

-- over the least linking it looks at these
pub recursive_looks : sees recursive (reference 0 4)
    (of_file 0
    ∷ of_key 0 3
    ∷ [])
    ≡ true
unfolding least stage gather names_from visible_from
recursive_looks = refl

-- An import with all brings private members, one without it doesn't
--   a.sysml: package P { private part x; } package T { private import all P::*; part w :> x; }
--     package U { private import P::*; part v :> x; }
abbrev pub all_members : List StoredFile
all_members = file_of (codes "a.sysml") (data_of 0
    (root_element
    ∷ thing kind.Package 0 (codes "P")
    ∷ thing kind.Part 1 (codes "x")
    ∷ thing kind.Package 0 (codes "T")
    ∷ thing kind.Part 3 (codes "w")
    ∷ thing kind.Package 0 (codes "U")
    ∷ thing kind.Part 5 (codes "v")
    ∷ [])
    (owned 0 1 (codes "P")
    ∷ owned_as Private 1 2 (Some (codes "x"))
    ∷ owned 0 3 (codes "T")
    ∷ owned 3 4 (codes "w")
    ∷ owned 0 5 (codes "U")
    ∷ owned 5 6 (codes "v")
    ∷ [])
    (refers role.Import 3 ((codes "P") ∷ [])
    ∷ refers role.Subsetting 4 ((codes "x") ∷ [])
    ∷ refers role.Import 5 ((codes "P") ∷ [])
    ∷ refers role.Subsetting 6 ((codes "x") ∷ [])
    ∷ [])
    (record (brings Private 3 0 true) { all = true }
    ∷ brings Private 5 2 true
    ∷ []))
    ∷ []

pub all_members_links : links_of all_members
    ≡ Some (to 0 1)
    ∷ Some (to 0 2)
    ∷ Some (to 0 1)
    ∷ Some (Absent 1)
    ∷ []
unfolding least stage gather names_from visible_from
all_members_links = refl

-- over the empty table that reference waits
pub all_members_first_asking : (asked all_members (λ k. None) (reference 0 3)).step
    ≡ Waits (reference 0 2 ∷ [])
unfolding least stage gather names_from visible_from
all_members_first_asking = refl

-- over the least linking it looks at these
pub all_members_looks : sees all_members (reference 0 3)
    (of_file 0
    ∷ of_key 0 2
    ∷ of_name (codes "x")
    ∷ [])
    ≡ true
unfolding least stage gather names_from visible_from
all_members_looks = refl

-- Roots of two files under one name: the order is that of the files' names, not of their numbers
--   c.sysml: package A { part x; }
--   b.sysml: part p :> A::x;
--   a.sysml: package A { part x; }
abbrev pub by_name : List StoredFile
by_name = file_of (codes "c.sysml") (data_of 0
    (root_element
    ∷ thing kind.Package 0 (codes "A")
    ∷ thing kind.Part 1 (codes "x")
    ∷ [])
    (owned 0 1 (codes "A")
    ∷ owned 1 2 (codes "x")
    ∷ [])
    []
    [])
    ∷ file_of (codes "b.sysml") (data_of 1
    (root_element
    ∷ thing kind.Part 0 (codes "p")
    ∷ [])
    (owned 0 1 (codes "p")
    ∷ [])
    (refers role.Subsetting 1 ((codes "A") ∷ (codes "x") ∷ [])
    ∷ [])
    [])
    ∷ file_of (codes "a.sysml") (data_of 2
    (root_element
    ∷ thing kind.Package 0 (codes "A")
    ∷ thing kind.Part 1 (codes "x")
    ∷ [])
    (owned 0 1 (codes "A")
    ∷ owned 1 2 (codes "x")
    ∷ [])
    []
    [])
    ∷ []

pub by_name_links : links_of by_name
    ≡ Some (Ambiguous 1 (by_member 2 0) (by_member 0 0))
    ∷ []
unfolding least stage gather names_from visible_from
by_name_links = refl

-- over the empty table that reference is decided
pub by_name_first_asking : (asked by_name (λ k. None) (reference 1 0)).step
    ≡ Done (Ambiguous 1 (by_member 2 0) (by_member 0 0))
unfolding least stage gather names_from visible_from
by_name_first_asking = refl

-- over the least linking it looks at these
pub by_name_looks : sees by_name (reference 1 0)
    (of_file 2
    ∷ of_file 1
    ∷ of_file 0
    ∷ of_name (codes "A")
    ∷ [])
    ≡ true
unfolding least stage gather names_from visible_from
by_name_looks = refl

-- A chain: the outcome carries the element of the path and that of the first step
--   a.sysml: part def E { part p; } part def V { part e : E; } part v : V; part q :> v.e.p;
abbrev pub chained : List StoredFile
chained = file_of (codes "a.sysml") (data_of 0
    (root_element
    ∷ thing kind.PartDef 0 (codes "E")
    ∷ thing kind.Part 1 (codes "p")
    ∷ thing kind.PartDef 0 (codes "V")
    ∷ thing kind.Part 3 (codes "e")
    ∷ thing kind.Part 0 (codes "v")
    ∷ thing kind.Part 0 (codes "q")
    ∷ [])
    (owned 0 1 (codes "E")
    ∷ owned 1 2 (codes "p")
    ∷ owned 0 3 (codes "V")
    ∷ owned 3 4 (codes "e")
    ∷ owned 0 5 (codes "v")
    ∷ owned 0 6 (codes "q")
    ∷ [])
    (refers role.Typing 4 ((codes "E") ∷ [])
    ∷ refers role.Typing 5 ((codes "V") ∷ [])
    ∷ record (refers role.Subsetting 6 ((codes "v") ∷ [])) { chain = ((codes "e") ∷ (codes "p") ∷ []) }
    ∷ [])
    [])
    ∷ []

pub chained_links : links_of chained
    ≡ Some (to 0 1)
    ∷ Some (to 0 3)
    ∷ Some (Linked (element 0 5 ∷ element 0 4 ∷ []) (element 0 2))
    ∷ []
unfolding least stage gather names_from visible_from
chained_links = refl

-- over the empty table that reference waits
pub chained_first_asking : (asked chained (λ k. None) (reference 0 2)).step
    ≡ Waits (reference 0 1 ∷ [])
unfolding least stage gather names_from visible_from
chained_first_asking = refl

-- over the least linking it looks at these
pub chained_looks : sees chained (reference 0 2)
    (of_file 0
    ∷ of_key 0 0
    ∷ of_key 0 1
    ∷ [])
    ≡ true
unfolding least stage gather names_from visible_from
chained_looks = refl

-- A name that is inherited from the base alone, and one that the library's roots have
--   $lib/Parts.sysml: package Parts { part def Part { part inner; } private part def Other; }
--   a.sysml: part def A; part b :> A::inner; part c : Parts::Other;
abbrev pub based : List StoredFile
based = library_file (file_of (codes "$lib/Parts.sysml") (data_of 0
    (root_element
    ∷ thing kind.Package 0 (codes "Parts")
    ∷ thing kind.PartDef 1 (codes "Part")
    ∷ thing kind.Part 2 (codes "inner")
    ∷ thing kind.PartDef 1 (codes "Other")
    ∷ [])
    (owned 0 1 (codes "Parts")
    ∷ owned 1 2 (codes "Part")
    ∷ owned 2 3 (codes "inner")
    ∷ owned_as Private 1 4 (Some (codes "Other"))
    ∷ [])
    []
    []))
    ∷ file_of (codes "a.sysml") (data_of 1
    (root_element
    ∷ thing kind.PartDef 0 (codes "A")
    ∷ thing kind.Part 0 (codes "b")
    ∷ thing kind.Part 0 (codes "c")
    ∷ [])
    (owned 0 1 (codes "A")
    ∷ owned 0 2 (codes "b")
    ∷ owned 0 3 (codes "c")
    ∷ [])
    (refers role.Subsetting 2 ((codes "A") ∷ (codes "inner") ∷ [])
    ∷ refers role.Typing 3 ((codes "Parts") ∷ (codes "Other") ∷ [])
    ∷ [])
    [])
    ∷ []

pub based_links : links_of based
    ≡ Some (to 0 3)
    ∷ Some (Hidden 2 (by_member 0 3))
    ∷ []
unfolding least stage gather names_from visible_from
based_links = refl

-- over the empty table that reference is decided
pub based_first_asking : (asked based (λ k. None) (reference 1 1)).step
    ≡ Done (Hidden 2 (by_member 0 3))
unfolding least stage gather names_from visible_from
based_first_asking = refl

-- over the least linking it looks at these
pub based_looks : sees based (reference 1 1)
    (of_file 1
    ∷ of_file 0
    ∷ of_name (codes "Parts")
    ∷ [])
    ≡ true
unfolding least stage gather names_from visible_from
based_looks = refl

-- A root of another file, before it is gone
--   a.sysml: package A { part x; }
--   b.sysml: part p :> A::x;
abbrev pub comes : List StoredFile
comes = file_of (codes "a.sysml") (data_of 0
    (root_element
    ∷ thing kind.Package 0 (codes "A")
    ∷ thing kind.Part 1 (codes "x")
    ∷ [])
    (owned 0 1 (codes "A")
    ∷ owned 1 2 (codes "x")
    ∷ [])
    []
    [])
    ∷ file_of (codes "b.sysml") (data_of 1
    (root_element
    ∷ thing kind.Part 0 (codes "p")
    ∷ [])
    (owned 0 1 (codes "p")
    ∷ [])
    (refers role.Subsetting 1 ((codes "A") ∷ (codes "x") ∷ [])
    ∷ [])
    [])
    ∷ []

pub comes_links : links_of comes
    ≡ Some (to 0 2)
    ∷ []
unfolding least stage gather names_from visible_from
comes_links = refl

-- over the empty table that reference is decided
pub comes_first_asking : (asked comes (λ k. None) (reference 1 0)).step
    ≡ Done (to 0 2)
unfolding least stage gather names_from visible_from
comes_first_asking = refl

-- over the least linking it looks at these
pub comes_looks : sees comes (reference 1 0)
    (of_file 0
    ∷ of_file 1
    ∷ of_name (codes "A")
    ∷ [])
    ≡ true
unfolding least stage gather names_from visible_from
comes_looks = refl

-- and after: the lookup that finds nothing looks at its own file and at the name, and at no other file
--   a.sysml: no text
--   b.sysml: part p :> A::x;
abbrev pub goes : List StoredFile
goes = gone_file (codes "a.sysml")
    ∷ file_of (codes "b.sysml") (data_of 1
    (root_element
    ∷ thing kind.Part 0 (codes "p")
    ∷ [])
    (owned 0 1 (codes "p")
    ∷ [])
    (refers role.Subsetting 1 ((codes "A") ∷ (codes "x") ∷ [])
    ∷ [])
    [])
    ∷ []

pub goes_links : links_of goes
    ≡ Some (Absent 1)
    ∷ []
unfolding least stage gather names_from visible_from
goes_links = refl

-- over the empty table that reference is decided
pub goes_first_asking : (asked goes (λ k. None) (reference 1 0)).step
    ≡ Done (Absent 1)
unfolding least stage gather names_from visible_from
goes_first_asking = refl

-- over the least linking it looks at these
pub goes_looks : sees goes (reference 1 0)
    (of_file 1
    ∷ of_name (codes "A")
    ∷ [])
    ≡ true
unfolding least stage gather names_from visible_from
goes_looks = refl

pub chained_path : path_of chained (least same_key (link_meaning chained)) (reference 0 2).0
    ≡ element 0 5 ∷ element 0 4 ∷ element 0 2 ∷ []
unfolding least stage gather names_from visible_from
chained_path = refl
