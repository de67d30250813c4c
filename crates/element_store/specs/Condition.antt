-- What holds of the model of every file, a part for each sentence; after KerML's Elements (8.3.2.1), Annotations
-- (8.3.2.3), Namespaces (8.3.2.4), Types (8.3.3.1) and Features (8.3.3.3).
use Rattle.std.specs.Prelude.{◌≡◌, ℕ, ◌+◌, ◌^◌, suc, Bool, true, false, ◌&&◌, nat_eq, nat_lt, nat_le, Option, Some, None, List, [], ◌∷◌, ◌++◌, length, map, drop, slice_get}
use Rattle.std.specs.List.{list_all, flat_map}
use Rattle.std.specs.Option.{option_map_or}
use Rattle.element_store.specs.declared.outcome.Role.{Role}
use Rattle.element_store.specs.declared.outcome.Role.TheVariants as role
use Rattle.element_store.specs.declared.kind.Kind.{Kind}
use Rattle.element_store.specs.declared.kind.Kind.TheVariants.{Root}
use Rattle.element_store.specs.declared.records.Element.{Element}
use Rattle.element_store.specs.declared.records.Member.{Member}
use Rattle.element_store.specs.declared.records.Target.{Target}
use Rattle.element_store.specs.declared.records.Target.TheVariants.{Owned, Alias}
use Rattle.element_store.specs.declared.records.Reference.{Reference}
use Rattle.element_store.specs.declared.records.Import.{Import}
use Rattle.element_store.specs.declared.lists.Item.{Item}
use Rattle.element_store.specs.declared.lists.Item.TheVariants as item
use Rattle.element_store.specs.declared.expression.Node.{Node}
use Rattle.element_store.specs.Kinds.{is_type, is_feature, is_comment}
use Rattle.element_store.specs.Expressions.{is_whole, names_in, names_of_bounds}
use Rattle.element_store.specs.Numbers.{numbers_from, places_from, those_where, rises}
use Rattle.element_store.specs.Model.{Data, members_in, imports_in}

-- Few: each list has fewer than 4,294,967,296 items.

abbrev pub is_few : ℕ → Bool
is_few n = nat_lt n (2 ^ 32)

abbrev pub all_few : {A : Type 0} → List (List A) → Bool
all_few lists = list_all (λ list. is_few (length list)) lists

pub record IsFew (d : Data) : Type 0 where
  pub elements : is_few (length d.elements) ≡ true
  pub members : is_few (length d.members) ≡ true
  pub references : is_few (length d.references) ≡ true
  pub imports : is_few (length d.imports) ≡ true
  pub items : all_few d.items ≡ true
  pub values : all_few d.value_places ≡ true
  pub results : all_few d.result_places ≡ true

-- Ranges: each number is in range for what it names.

abbrev pub has_element : Data → ℕ → Bool
has_element d n = nat_lt n (length d.elements)

abbrev pub has_reference : Data → ℕ → Bool
has_reference d n = nat_lt n (length d.references)

-- the references that an element's bounds, value and result name, in order
abbrev pub names_of : Option (List Node) → List ℕ
names_of nodes = option_map_or names_in nodes []

abbrev pub element_stands : Data → Element → Bool
element_stands d e =
    option_map_or (has_element d) e.owner true
    && list_all (has_reference d) (names_of_bounds e.bounds ++ (names_of e.value ++ names_of e.result))

abbrev pub target_stands : Data → Target → Bool
target_stands d (Owned e) = has_element d e
target_stands d (Alias r) = has_reference d r

abbrev pub member_stands : Data → Member → Bool
member_stands d m = has_element d m.owner && target_stands d m.target

abbrev pub import_stands : Data → Import → Bool
import_stands d i = has_element d i.owner && has_reference d i.reference

abbrev pub item_stands : Data → Item → Bool
item_stands d (item.Member m) = nat_lt m (length d.members)
item_stands d (item.Import i) = nat_lt i (length d.imports)

pub record IsInRange (d : Data) : Type 0 where
  pub elements : list_all (element_stands d) d.elements ≡ true
  pub items : list_all (list_all (item_stands d)) d.items ≡ true
  pub members : list_all (member_stands d) d.members ≡ true
  pub references : list_all (λ r. has_element d r.context) d.references ≡ true
  pub imports : list_all (import_stands d) d.imports ≡ true

-- Places: as many as what they belong to.

abbrev pub nodes_in : Option (List Node) → ℕ
nodes_in nodes = option_map_or length nodes 0

pub record HasPlaces (d : Data) : Type 0 where
  pub members : length d.member_places ≡ length d.members
  pub references : length d.reference_places ≡ length d.references
  pub values : map length d.value_places ≡ map (λ e. nodes_in e.value) d.elements
  pub results : map length d.result_places ≡ map (λ e. nodes_in e.result) d.elements

-- Root: element 0 is of the kind Root and has no owner.

abbrev pub HasRoot : List Element → Type 0
HasRoot [] = ⊥
HasRoot (e ∷ es) = (e.kind ≡ Root) × (e.owner ≡ None)

-- Owned once: the owned targets of the members, in order, are the elements 1, 2, 3 and so on, with the owner and the
-- names of each.

pub record Owning : Type 0 where
  pub element : ℕ
  pub owner : Option ℕ
  pub short : Option (List ℕ)
  pub name : Option (List ℕ)

abbrev pub owning : Target → Member → List Owning
owning (Owned e) m = record { element = e; owner = Some m.owner; short = m.short; name = m.name } ∷ []
owning (Alias r) m = []

abbrev pub owned_from : ℕ → List Element → List Owning
owned_from n [] = []
owned_from n (e ∷ es) = record { element = n; owner = e.owner; short = e.short; name = e.name } ∷ owned_from (suc n) es

abbrev pub IsOwnedOnce : Data → Type 0
IsOwnedOnce d = flat_map (λ m. owning m.target m) d.members ≡ owned_from 1 (drop 1 d.elements)

-- Items: those of an element are its members and its imports, in text order. An import stands where its reference does.

abbrev pub members_of : Data → ℕ → List ℕ
members_of d e = numbers_from 0 (λ m. nat_eq m.owner e) d.members

abbrev pub imports_of : Data → ℕ → List ℕ
imports_of d e = numbers_from 0 (λ i. nat_eq i.owner e) d.imports

abbrev pub place_at : List ℕ → ℕ → List ℕ
place_at places n = option_map_or (λ place. place ∷ []) (slice_get places n) []

abbrev pub import_place : Data → Import → List ℕ
import_place d i = place_at d.reference_places i.reference

abbrev pub item_place : Data → Item → List ℕ
item_place d (item.Member m) = place_at d.member_places m
item_place d (item.Import i) = option_map_or (import_place d) (slice_get d.imports i) []

pub record HasItems (d : Data) : Type 0 where
  pub members : map members_in d.items ≡ map (members_of d) (places_from 0 d.elements)
  pub imports : map imports_in d.items ≡ map (imports_of d) (places_from 0 d.elements)
  pub text_order : list_all (λ is. rises (flat_map (item_place d) is)) d.items ≡ true

-- Paths: each has a segment, and a path and its chain have together fewer than 4,294,967,296.

abbrev pub has_path : Reference → Bool
has_path r = nat_le 1 (length r.path) && is_few (length r.path + length r.chain)

-- Expressions: each value and each result is a whole one.

abbrev pub has_whole : Element → Bool
has_whole e = option_map_or is_whole e.value true && option_map_or is_whole e.result true

-- Contexts: each reference has an element as context that its role fits.

abbrev pub role_fits : Role → Kind → Bool
role_fits role.Subclass k = is_type k
role_fits role.Typing k = is_type k
role_fits role.Subsetting k = is_type k
role_fits role.ReferenceSubsetting k = is_type k
role_fits role.Redefinition k = is_feature k
role_fits role.About k = is_comment k
role_fits other k = true

abbrev pub context_fits : Data → Reference → Bool
context_fits d r = option_map_or (λ e. role_fits r.role e.kind) (slice_get d.elements r.context) false

-- Numbering of elements: preorder, so that there are trees whose nodes are they.

pub data Trees : Type 0 where
  Nothing : Trees
  Tree : (below beside : Trees) → Trees

abbrev pub size : Trees → ℕ
size Nothing = 0
size (Tree below beside) = suc (size below + size beside)

-- the owners of the nodes in preorder, of trees that stand below a parent and whose first node has the number n
abbrev pub owners_in : ℕ → ℕ → Trees → List (Option ℕ)
owners_in parent n Nothing = []
owners_in parent n (Tree below beside) =
    Some parent ∷ (owners_in n (suc n) below ++ owners_in parent (suc n + size below) beside)

abbrev pub IsPreorder : List Element → Type 0
IsPreorder elements = (t : Trees) × (map (λ e. e.owner) (drop 1 elements) ≡ owners_in 0 1 t)

-- Numbering of references: element by element, first those of its specialisations, or of what a comment is about, and
-- then those that its bounds, its value, its result and the aliases and imports of its body name.

pub record Told : Type 0 where
  pub reference : ℕ
  pub role : Role
  pub context : ℕ

abbrev pub told_from : ℕ → List Reference → List Told
told_from n [] = []
told_from n (r ∷ rs) = record { reference = n; role = r.role; context = r.context } ∷ told_from (suc n) rs

abbrev pub is_own : Role → Bool
is_own role.Bound = false
is_own role.Value = false
is_own role.Alias = false
is_own role.Import = false
is_own other = true

abbrev pub own_of : List Told → ℕ → List Told
own_of told e = those_where (λ t. is_own t.role && nat_eq t.context e) told

abbrev pub told : Role → ℕ → ℕ → Told
told r e n = record { reference = n; role = r; context = e }

abbrev pub told_by_member : ℕ → Target → List Told
told_by_member e (Owned x) = []
told_by_member e (Alias r) = told role.Alias e r ∷ []

abbrev pub told_by_item : Data → ℕ → Item → List Told
told_by_item d e (item.Member m) = option_map_or (λ x. told_by_member e x.target) (slice_get d.members m) []
told_by_item d e (item.Import i) = option_map_or (λ x. told role.Import e x.reference ∷ []) (slice_get d.imports i) []

abbrev pub held_by : Data → ℕ → Element → List Item → List Told
held_by d e x is =
    map (told role.Bound e) (names_of_bounds x.bounds)
    ++ (map (told role.Value e) (names_of x.value ++ names_of x.result) ++ flat_map (told_by_item d e) is)

abbrev pub by_element : Data → List Told → ℕ → List Element → List (List Item) → List Told
by_element d all n [] items = []
by_element d all n (x ∷ xs) [] = []
by_element d all n (x ∷ xs) (is ∷ items) = (own_of all n ++ held_by d n x is) ++ by_element d all (suc n) xs items

abbrev pub IsByElement : Data → Type 0
IsByElement d = told_from 0 d.references ≡ by_element d (told_from 0 d.references) 0 d.elements d.items

pub record IsNumbered (d : Data) : Type 0 where
  pub elements : IsPreorder d.elements
  pub members : rises d.member_places ≡ true
  pub imports : rises (flat_map (import_place d) d.imports) ≡ true
  pub references : IsByElement d

-- All of this.
pub record IsModel (d : Data) : Type 0 where
  pub few : IsFew d
  pub ranges : IsInRange d
  pub places : HasPlaces d
  pub root : HasRoot d.elements
  pub owned : IsOwnedOnce d
  pub items : HasItems d
  pub paths : list_all has_path d.references ≡ true
  pub expressions : list_all has_whole d.elements ≡ true
  pub contexts : list_all (context_fits d) d.references ≡ true
  pub numbering : IsNumbered d
