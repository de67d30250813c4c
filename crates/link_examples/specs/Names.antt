-- Worked rows: names, effective names, circles, ambiguous and hidden ones.
use Rattle.std.specs.Prelude.{◌≡◌, true, false, cond, List, [], ◌∷◌, None, Some, codes, refl}
use Rattle.demand_core.specs.Least.{least, stage, cyclic_on}
use Rattle.demand_core.specs.Gather.{gather}
use Rattle.demand_core.specs.declared.step.Step.TheVariants.{Done, Waits}
use Rattle.element_store.specs.declared.outcome.Role.TheVariants as role
use Rattle.element_store.specs.declared.outcome.Outcome.TheVariants.{Absent, Ambiguous, Hidden, Cyclic}
use Rattle.element_store.specs.declared.kind.Kind.TheVariants as kind
use Rattle.element_store.specs.declared.kind.Visibility.TheVariants.{Public, Private, Protected}
use Rattle.element_store.specs.declared.models.StoredFile.{StoredFile}
use Rattle.element_store.specs.Model.{root_element}
use Rattle.link_model.specs.Keys.{same_key}
use Rattle.link_model.specs.Names.{names_from}
use Rattle.link_model.specs.Imports.{visible_from}
use Rattle.link_model.specs.Linking.{link_meaning}
use Rattle.link_model.specs.Written.{alias, brings, by_member, data_of, file_of, links_of, nameless, owned, owned_as, reference, refers, thing, to}
use Rattle.link_examples.specs.Words.{asked, found, of_file, of_key, of_name, sees}

-- A type that specialises itself, and two that specialise each other
--   a.sysml: part def A :> A;
--   b.sysml: part def B :> C { part x; } part def C :> B;
abbrev pub circular : List StoredFile
circular = file_of (codes "a.sysml") (data_of 0
    (root_element
    ∷ thing kind.PartDef 0 (codes "A")
    ∷ [])
    (owned 0 1 (codes "A")
    ∷ [])
    (refers role.Subclass 1 ((codes "A") ∷ [])
    ∷ [])
    [])
    ∷ file_of (codes "b.sysml") (data_of 1
    (root_element
    ∷ thing kind.PartDef 0 (codes "B")
    ∷ thing kind.Part 1 (codes "x")
    ∷ thing kind.PartDef 0 (codes "C")
    ∷ [])
    (owned 0 1 (codes "B")
    ∷ owned 1 2 (codes "x")
    ∷ owned 0 3 (codes "C")
    ∷ [])
    (refers role.Subclass 1 ((codes "C") ∷ [])
    ∷ refers role.Subclass 3 ((codes "B") ∷ [])
    ∷ [])
    [])
    ∷ []

pub circular_links : links_of circular
    ≡ Some (to 0 1)
    ∷ Some (to 1 3)
    ∷ Some (to 1 1)
    ∷ []
unfolding least stage gather names_from visible_from
circular_links = refl

pub circular_finds_C_x : found circular ((codes "C") ∷ (codes "x") ∷ [])
    ≡ to 1 2
unfolding least stage gather names_from visible_from
circular_finds_C_x = refl

-- over the empty table that reference is decided
pub circular_first_asking : (asked circular (λ k. None) (reference 1 1)).step
    ≡ Done (to 1 1)
unfolding least stage gather names_from visible_from
circular_first_asking = refl

-- over the least linking it looks at these
pub circular_looks : sees circular (reference 1 1)
    (of_file 1
    ∷ [])
    ≡ true
unfolding least stage gather names_from visible_from
circular_looks = refl

-- Names that wait on each other
--   a.sysml: package P { part def A :> B::X; part def B :> A::Y; }
abbrev pub names_in_a_circle : List StoredFile
names_in_a_circle = file_of (codes "a.sysml") (data_of 0
    (root_element
    ∷ thing kind.Package 0 (codes "P")
    ∷ thing kind.PartDef 1 (codes "A")
    ∷ thing kind.PartDef 1 (codes "B")
    ∷ [])
    (owned 0 1 (codes "P")
    ∷ owned 1 2 (codes "A")
    ∷ owned 1 3 (codes "B")
    ∷ [])
    (refers role.Subclass 2 ((codes "B") ∷ (codes "X") ∷ [])
    ∷ refers role.Subclass 3 ((codes "A") ∷ (codes "Y") ∷ [])
    ∷ [])
    [])
    ∷ []

pub names_in_a_circle_links : links_of names_in_a_circle
    ≡ None
    ∷ None
    ∷ []
unfolding least stage gather names_from visible_from
names_in_a_circle_links = refl

pub names_in_a_circle_0_0_is_cyclic : cyclic_on same_key (link_meaning names_in_a_circle) (reference 0 0)
    ≡ Some (reference 0 1)
unfolding least stage gather names_from visible_from
names_in_a_circle_0_0_is_cyclic = refl

pub names_in_a_circle_0_1_is_cyclic : cyclic_on same_key (link_meaning names_in_a_circle) (reference 0 1)
    ≡ Some (reference 0 0)
unfolding least stage gather names_from visible_from
names_in_a_circle_0_1_is_cyclic = refl

pub names_in_a_circle_finds_P_A_Z : found names_in_a_circle ((codes "P") ∷ (codes "A") ∷ (codes "Z") ∷ [])
    ≡ Cyclic (reference 0 0).0
unfolding least stage gather names_from visible_from
names_in_a_circle_finds_P_A_Z = refl

-- over the empty table that reference waits
pub names_in_a_circle_first_asking : (asked names_in_a_circle (λ k. None) (reference 0 1)).step
    ≡ Waits (reference 0 0 ∷ [])
unfolding least stage gather names_from visible_from
names_in_a_circle_first_asking = refl

-- over the least linking it looks at these
pub names_in_a_circle_looks : sees names_in_a_circle (reference 0 1)
    (of_file 0
    ∷ of_key 0 0
    ∷ [])
    ≡ true
unfolding least stage gather names_from visible_from
names_in_a_circle_looks = refl

-- The same with a member that ends the circle
--   a.sysml: package P { part def A :> B::X; part def B :> A::Y { part def X; } }
abbrev pub mended : List StoredFile
mended = file_of (codes "a.sysml") (data_of 0
    (root_element
    ∷ thing kind.Package 0 (codes "P")
    ∷ thing kind.PartDef 1 (codes "A")
    ∷ thing kind.PartDef 1 (codes "B")
    ∷ thing kind.PartDef 3 (codes "X")
    ∷ [])
    (owned 0 1 (codes "P")
    ∷ owned 1 2 (codes "A")
    ∷ owned 1 3 (codes "B")
    ∷ owned 3 4 (codes "X")
    ∷ [])
    (refers role.Subclass 2 ((codes "B") ∷ (codes "X") ∷ [])
    ∷ refers role.Subclass 3 ((codes "A") ∷ (codes "Y") ∷ [])
    ∷ [])
    [])
    ∷ []

pub mended_links : links_of mended
    ≡ Some (to 0 4)
    ∷ Some (Absent 2)
    ∷ []
unfolding least stage gather names_from visible_from
mended_links = refl

-- over the empty table that reference waits
pub mended_first_asking : (asked mended (λ k. None) (reference 0 1)).step
    ≡ Waits (reference 0 0 ∷ [])
unfolding least stage gather names_from visible_from
mended_first_asking = refl

-- over the least linking it looks at these
pub mended_looks : sees mended (reference 0 1)
    (of_file 0
    ∷ of_key 0 0
    ∷ [])
    ≡ true
unfolding least stage gather names_from visible_from
mended_looks = refl

-- Two members under one name by two imports, and one member by two imports
--   a.sysml: package A { part x; } package B { part x; } package C { private import A::*; private import B::*;
--     part p :> x; } package D { private import A::*; private import A::x; part q :> x; }
abbrev pub ambiguous : List StoredFile
ambiguous = file_of (codes "a.sysml") (data_of 0
    (root_element
    ∷ thing kind.Package 0 (codes "A")
    ∷ thing kind.Part 1 (codes "x")
    ∷ thing kind.Package 0 (codes "B")
    ∷ thing kind.Part 3 (codes "x")
    ∷ thing kind.Package 0 (codes "C")
    ∷ thing kind.Part 5 (codes "p")
    ∷ thing kind.Package 0 (codes "D")
    ∷ thing kind.Part 7 (codes "q")
    ∷ [])
    (owned 0 1 (codes "A")
    ∷ owned 1 2 (codes "x")
    ∷ owned 0 3 (codes "B")
    ∷ owned 3 4 (codes "x")
    ∷ owned 0 5 (codes "C")
    ∷ owned 5 6 (codes "p")
    ∷ owned 0 7 (codes "D")
    ∷ owned 7 8 (codes "q")
    ∷ [])
    (refers role.Import 5 ((codes "A") ∷ [])
    ∷ refers role.Import 5 ((codes "B") ∷ [])
    ∷ refers role.Subsetting 6 ((codes "x") ∷ [])
    ∷ refers role.Import 7 ((codes "A") ∷ [])
    ∷ refers role.Import 7 ((codes "A") ∷ (codes "x") ∷ [])
    ∷ refers role.Subsetting 8 ((codes "x") ∷ [])
    ∷ [])
    (brings Private 5 0 true
    ∷ brings Private 5 1 true
    ∷ brings Private 7 3 true
    ∷ brings Private 7 4 false
    ∷ []))
    ∷ []

pub ambiguous_links : links_of ambiguous
    ≡ Some (to 0 1)
    ∷ Some (to 0 3)
    ∷ Some (Ambiguous 1 (by_member 0 1) (by_member 0 3))
    ∷ Some (to 0 1)
    ∷ Some (to 0 2)
    ∷ Some (to 0 2)
    ∷ []
unfolding least stage gather names_from visible_from
ambiguous_links = refl

-- over the empty table that reference waits
pub ambiguous_first_asking : (asked ambiguous (λ k. None) (reference 0 5)).step
    ≡ Waits (reference 0 3 ∷ reference 0 4 ∷ [])
unfolding least stage gather names_from visible_from
ambiguous_first_asking = refl

-- over the least linking it looks at these
pub ambiguous_looks : sees ambiguous (reference 0 5)
    (of_file 0
    ∷ of_key 0 3
    ∷ of_key 0 4
    ∷ [])
    ≡ true
unfolding least stage gather names_from visible_from
ambiguous_looks = refl

-- A private member that is hidden, and a protected one that is inherited
--   a.sysml: package P { private part x; part def T { protected part y; } } part a :> P::x;
--     package Q { private import P::T; part def U :> T { part z :> y; } }
abbrev pub hidden : List StoredFile
hidden = file_of (codes "a.sysml") (data_of 0
    (root_element
    ∷ thing kind.Package 0 (codes "P")
    ∷ thing kind.Part 1 (codes "x")
    ∷ thing kind.PartDef 1 (codes "T")
    ∷ thing kind.Part 3 (codes "y")
    ∷ thing kind.Part 0 (codes "a")
    ∷ thing kind.Package 0 (codes "Q")
    ∷ thing kind.PartDef 6 (codes "U")
    ∷ thing kind.Part 7 (codes "z")
    ∷ [])
    (owned 0 1 (codes "P")
    ∷ owned_as Private 1 2 (Some (codes "x"))
    ∷ owned 1 3 (codes "T")
    ∷ owned_as Protected 3 4 (Some (codes "y"))
    ∷ owned 0 5 (codes "a")
    ∷ owned 0 6 (codes "Q")
    ∷ owned 6 7 (codes "U")
    ∷ owned 7 8 (codes "z")
    ∷ [])
    (refers role.Subsetting 5 ((codes "P") ∷ (codes "x") ∷ [])
    ∷ refers role.Import 6 ((codes "P") ∷ (codes "T") ∷ [])
    ∷ refers role.Subclass 7 ((codes "T") ∷ [])
    ∷ refers role.Subsetting 8 ((codes "y") ∷ [])
    ∷ [])
    (brings Private 6 1 false
    ∷ []))
    ∷ []

pub hidden_links : links_of hidden
    ≡ Some (Hidden 2 (by_member 0 1))
    ∷ Some (to 0 3)
    ∷ Some (to 0 3)
    ∷ Some (to 0 4)
    ∷ []
unfolding least stage gather names_from visible_from
hidden_links = refl

-- over the empty table that reference waits
pub hidden_first_asking : (asked hidden (λ k. None) (reference 0 3)).step
    ≡ Waits (reference 0 2 ∷ [])
unfolding least stage gather names_from visible_from
hidden_first_asking = refl

-- over the least linking it looks at these
pub hidden_looks : sees hidden (reference 0 3)
    (of_file 0
    ∷ of_key 0 2
    ∷ [])
    ≡ true
unfolding least stage gather names_from visible_from
hidden_looks = refl

-- A private member isn't inherited
--   a.sysml: part def A { private part x; } part def B :> A { part y :> x; }
abbrev pub private_member : List StoredFile
private_member = file_of (codes "a.sysml") (data_of 0
    (root_element
    ∷ thing kind.PartDef 0 (codes "A")
    ∷ thing kind.Part 1 (codes "x")
    ∷ thing kind.PartDef 0 (codes "B")
    ∷ thing kind.Part 3 (codes "y")
    ∷ [])
    (owned 0 1 (codes "A")
    ∷ owned_as Private 1 2 (Some (codes "x"))
    ∷ owned 0 3 (codes "B")
    ∷ owned 3 4 (codes "y")
    ∷ [])
    (refers role.Subclass 3 ((codes "A") ∷ [])
    ∷ refers role.Subsetting 4 ((codes "x") ∷ [])
    ∷ [])
    [])
    ∷ []

pub private_member_links : links_of private_member
    ≡ Some (to 0 1)
    ∷ Some (Absent 1)
    ∷ []
unfolding least stage gather names_from visible_from
private_member_links = refl

-- over the empty table that reference waits
pub private_member_first_asking : (asked private_member (λ k. None) (reference 0 1)).step
    ≡ Waits (reference 0 0 ∷ [])
unfolding least stage gather names_from visible_from
private_member_first_asking = refl

-- over the least linking it looks at these
pub private_member_looks : sees private_member (reference 0 1)
    (of_file 0
    ∷ of_key 0 0
    ∷ of_name (codes "x")
    ∷ [])
    ≡ true
unfolding least stage gather names_from visible_from
private_member_looks = refl

-- A member of one file that leads to an element of another: what is named is looked at
--   a.sysml: part a;
--   b.sysml: alias x for a;
--   c.sysml: part p :> x;
abbrev pub elsewhere : List StoredFile
elsewhere = file_of (codes "a.sysml") (data_of 0
    (root_element
    ∷ thing kind.Part 0 (codes "a")
    ∷ [])
    (owned 0 1 (codes "a")
    ∷ [])
    []
    [])
    ∷ file_of (codes "b.sysml") (data_of 1
    (root_element
    ∷ [])
    (alias 0 0 (codes "x")
    ∷ [])
    (refers role.Alias 0 ((codes "a") ∷ [])
    ∷ [])
    [])
    ∷ file_of (codes "c.sysml") (data_of 2
    (root_element
    ∷ thing kind.Part 0 (codes "p")
    ∷ [])
    (owned 0 1 (codes "p")
    ∷ [])
    (refers role.Subsetting 1 ((codes "x") ∷ [])
    ∷ [])
    [])
    ∷ []

pub elsewhere_links : links_of elsewhere
    ≡ Some (to 0 1)
    ∷ Some (to 0 1)
    ∷ []
unfolding least stage gather names_from visible_from
elsewhere_links = refl

-- over the empty table that reference waits
pub elsewhere_first_asking : (asked elsewhere (λ k. None) (reference 2 0)).step
    ≡ Waits (reference 1 0 ∷ [])
unfolding least stage gather names_from visible_from
elsewhere_first_asking = refl

-- over the least linking it looks at these
pub elsewhere_looks : sees elsewhere (reference 2 0)
    (of_file 0
    ∷ of_file 1
    ∷ of_file 2
    ∷ of_key 1 0
    ∷ of_name (codes "x")
    ∷ [])
    ≡ true
unfolding least stage gather names_from visible_from
elsewhere_looks = refl

-- Effective names
--   a.sysml: part def V { part <e> engine; } part def C :> V { part :>> engine; }
abbrev pub effective : List StoredFile
effective = file_of (codes "a.sysml") (data_of 0
    (root_element
    ∷ thing kind.PartDef 0 (codes "V")
    ∷ record (nameless kind.Part 1) { short = Some (codes "e"); name = (Some (codes "engine")) }
    ∷ thing kind.PartDef 0 (codes "C")
    ∷ nameless kind.Part 3
    ∷ [])
    (owned 0 1 (codes "V")
    ∷ record (owned_as Public 1 2 (Some (codes "engine"))) { short = Some (codes "e") }
    ∷ owned 0 3 (codes "C")
    ∷ owned_as Public 3 4 None
    ∷ [])
    (refers role.Subclass 3 ((codes "V") ∷ [])
    ∷ refers role.Redefinition 4 ((codes "engine") ∷ [])
    ∷ [])
    [])
    ∷ []

pub effective_links : links_of effective
    ≡ Some (to 0 1)
    ∷ Some (to 0 2)
    ∷ []
unfolding least stage gather names_from visible_from
effective_links = refl

pub effective_finds_C_engine : found effective ((codes "C") ∷ (codes "engine") ∷ [])
    ≡ to 0 4
unfolding least stage gather names_from visible_from
effective_finds_C_engine = refl

pub effective_finds_C_e : found effective ((codes "C") ∷ (codes "e") ∷ [])
    ≡ to 0 4
unfolding least stage gather names_from visible_from
effective_finds_C_e = refl

-- over the empty table that reference waits
pub effective_first_asking : (asked effective (λ k. None) (reference 0 1)).step
    ≡ Waits (reference 0 0 ∷ [])
unfolding least stage gather names_from visible_from
effective_first_asking = refl

-- over the least linking it looks at these
pub effective_looks : sees effective (reference 0 1)
    (of_file 0
    ∷ of_key 0 0
    ∷ [])
    ≡ true
unfolding least stage gather names_from visible_from
effective_looks = refl

-- Aliases in a circle over two files
--   a.sysml: alias a for b;
--   b.sysml: alias b for a;
abbrev pub aliases : List StoredFile
aliases = file_of (codes "a.sysml") (data_of 0
    (root_element
    ∷ [])
    (alias 0 0 (codes "a")
    ∷ [])
    (refers role.Alias 0 ((codes "b") ∷ [])
    ∷ [])
    [])
    ∷ file_of (codes "b.sysml") (data_of 1
    (root_element
    ∷ [])
    (alias 0 0 (codes "b")
    ∷ [])
    (refers role.Alias 0 ((codes "a") ∷ [])
    ∷ [])
    [])
    ∷ []

pub aliases_links : links_of aliases
    ≡ None
    ∷ None
    ∷ []
unfolding least stage gather names_from visible_from
aliases_links = refl

pub aliases_0_0_is_cyclic : cyclic_on same_key (link_meaning aliases) (reference 0 0)
    ≡ Some (reference 1 0)
unfolding least stage gather names_from visible_from
aliases_0_0_is_cyclic = refl

pub aliases_1_0_is_cyclic : cyclic_on same_key (link_meaning aliases) (reference 1 0)
    ≡ Some (reference 0 0)
unfolding least stage gather names_from visible_from
aliases_1_0_is_cyclic = refl

-- over the empty table that reference waits
pub aliases_first_asking : (asked aliases (λ k. None) (reference 1 0)).step
    ≡ Waits (reference 0 0 ∷ [])
unfolding least stage gather names_from visible_from
aliases_first_asking = refl

-- over the least linking it looks at these
pub aliases_looks : sees aliases (reference 1 0)
    (of_file 0
    ∷ of_file 1
    ∷ of_key 0 0
    ∷ of_name (codes "a")
    ∷ [])
    ≡ true
unfolding least stage gather names_from visible_from
aliases_looks = refl

-- Two open aliases under one name: the least is that of the file whose name comes first
--   c.sysml: alias x for z;
--   a.sysml: alias x for z;
--   b.sysml: part p :> x;
abbrev pub several : List StoredFile
several = file_of (codes "c.sysml") (data_of 0
    (root_element
    ∷ [])
    (alias 0 0 (codes "x")
    ∷ [])
    (refers role.Alias 0 ((codes "z") ∷ [])
    ∷ [])
    [])
    ∷ file_of (codes "a.sysml") (data_of 1
    (root_element
    ∷ [])
    (alias 0 0 (codes "x")
    ∷ [])
    (refers role.Alias 0 ((codes "z") ∷ [])
    ∷ [])
    [])
    ∷ file_of (codes "b.sysml") (data_of 2
    (root_element
    ∷ thing kind.Part 0 (codes "p")
    ∷ [])
    (owned 0 1 (codes "p")
    ∷ [])
    (refers role.Subsetting 1 ((codes "x") ∷ [])
    ∷ [])
    [])
    ∷ []

pub several_links : links_of several
    ≡ Some (Absent 1)
    ∷ Some (Absent 1)
    ∷ Some (Absent 1)
    ∷ []
unfolding least stage gather names_from visible_from
several_links = refl

-- over the empty table that reference waits
pub several_first_asking : (asked several (λ k. None) (reference 2 0)).step
    ≡ Waits (reference 1 0 ∷ reference 0 0 ∷ [])
unfolding least stage gather names_from visible_from
several_first_asking = refl

-- over the least linking it looks at these
pub several_looks : sees several (reference 2 0)
    (of_file 1
    ∷ of_file 2
    ∷ of_file 0
    ∷ of_key 1 0
    ∷ of_key 0 0
    ∷ of_name (codes "x")
    ∷ [])
    ≡ true
unfolding least stage gather names_from visible_from
several_looks = refl

-- Waits that are met in another order than that of the references
--   a.sysml: part def A { part :>> u; }
--   b.sysml: part def B :> A { part :>> u; }
--   c.sysml: part def C :> B { part y :> x; }
abbrev pub met_later : List StoredFile
met_later = file_of (codes "a.sysml") (data_of 0
    (root_element
    ∷ thing kind.PartDef 0 (codes "A")
    ∷ nameless kind.Part 1
    ∷ [])
    (owned 0 1 (codes "A")
    ∷ owned_as Public 1 2 None
    ∷ [])
    (refers role.Redefinition 2 ((codes "u") ∷ [])
    ∷ [])
    [])
    ∷ file_of (codes "b.sysml") (data_of 1
    (root_element
    ∷ thing kind.PartDef 0 (codes "B")
    ∷ nameless kind.Part 1
    ∷ [])
    (owned 0 1 (codes "B")
    ∷ owned_as Public 1 2 None
    ∷ [])
    (refers role.Subclass 1 ((codes "A") ∷ [])
    ∷ refers role.Redefinition 2 ((codes "u") ∷ [])
    ∷ [])
    [])
    ∷ file_of (codes "c.sysml") (data_of 2
    (root_element
    ∷ thing kind.PartDef 0 (codes "C")
    ∷ thing kind.Part 1 (codes "y")
    ∷ [])
    (owned 0 1 (codes "C")
    ∷ owned 1 2 (codes "y")
    ∷ [])
    (refers role.Subclass 1 ((codes "B") ∷ [])
    ∷ refers role.Subsetting 2 ((codes "x") ∷ [])
    ∷ [])
    [])
    ∷ []

pub met_later_links : links_of met_later
    ≡ Some (Absent 1)
    ∷ Some (to 0 1)
    ∷ Some (Absent 1)
    ∷ Some (to 1 1)
    ∷ Some (Absent 1)
    ∷ []
unfolding least stage gather names_from visible_from
met_later_links = refl

-- over the empty table that reference waits
pub met_later_first_asking : (asked met_later (λ k. None) (reference 2 1)).step
    ≡ Waits (reference 2 0 ∷ [])
unfolding least stage gather names_from visible_from
met_later_first_asking = refl

-- over the least linking it looks at these
pub met_later_looks : sees met_later (reference 2 1)
    (of_file 0
    ∷ of_file 1
    ∷ of_file 2
    ∷ of_key 0 0
    ∷ of_key 1 0
    ∷ of_key 1 1
    ∷ of_key 2 0
    ∷ of_name (codes "x")
    ∷ [])
    ≡ true
unfolding least stage gather names_from visible_from
met_later_looks = refl

-- once some are decided, it waits on these, the least first
pub met_later_later_asking : (asked met_later
    (λ k. cond (same_key k (reference 1 0)) (Some (to 0 1))
    (cond (same_key k (reference 2 0)) (Some (to 1 1))
    None)) (reference 2 1)).step
    ≡ Waits (reference 0 0 ∷ reference 1 1 ∷ [])
unfolding least stage gather names_from visible_from
met_later_later_asking = refl

-- A name that an inner tier has: the project tier isn't reached
--   a.sysml: package P { part x; part y :> x; }
--   b.sysml: part x;
abbrev pub inner : List StoredFile
inner = file_of (codes "a.sysml") (data_of 0
    (root_element
    ∷ thing kind.Package 0 (codes "P")
    ∷ thing kind.Part 1 (codes "x")
    ∷ thing kind.Part 1 (codes "y")
    ∷ [])
    (owned 0 1 (codes "P")
    ∷ owned 1 2 (codes "x")
    ∷ owned 1 3 (codes "y")
    ∷ [])
    (refers role.Subsetting 3 ((codes "x") ∷ [])
    ∷ [])
    [])
    ∷ file_of (codes "b.sysml") (data_of 1
    (root_element
    ∷ thing kind.Part 0 (codes "x")
    ∷ [])
    (owned 0 1 (codes "x")
    ∷ [])
    []
    [])
    ∷ []

pub inner_links : links_of inner
    ≡ Some (to 0 2)
    ∷ []
unfolding least stage gather names_from visible_from
inner_links = refl

-- over the empty table that reference is decided
pub inner_first_asking : (asked inner (λ k. None) (reference 0 0)).step
    ≡ Done (to 0 2)
unfolding least stage gather names_from visible_from
inner_first_asking = refl

-- over the least linking it looks at these
pub inner_looks : sees inner (reference 0 0)
    (of_file 0
    ∷ [])
    ≡ true
unfolding least stage gather names_from visible_from
inner_looks = refl
