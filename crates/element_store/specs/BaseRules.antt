-- The base of a kind: the element of the library from which all elements of the kind specialise; after the
-- specialisations that KerML (8.4) and SysML (8.4) require of the elements of each kind.
use Rattle.std.specs.Prelude.{◌≡◌, ℕ, ◌<◌, Bool, true, ◌&&◌, cond, nat_eq, Option, Some, None, List, [], ◌∷◌, length, slice_get}
use Rattle.std.specs.Option.{option_map, option_and_then}
use Rattle.element_store.specs.declared.numbers.ElementNo.{ElementNo}
use Rattle.element_store.specs.declared.kind.Kind.{Kind}
use Rattle.element_store.specs.declared.kind.Visibility.{Visibility}
use Rattle.element_store.specs.declared.kind.Visibility.TheVariants.{Public}
use Rattle.element_store.specs.declared.records.Element.{Element}
use Rattle.element_store.specs.declared.records.Member.{Member}
use Rattle.element_store.specs.declared.records.Target.{Target}
use Rattle.element_store.specs.declared.records.Target.TheVariants.{Owned}
use Rattle.element_store.specs.declared.models.StoredFile.{StoredFile}
use Rattle.element_store.specs.Kinds.{BasePath, base_path, is_type, is_feature, is_enumeration}
use Rattle.element_store.specs.Model.{Data, bears}
use Rattle.element_store.specs.Stored.{stands_before}

-- the element that a public member of that owner owns, if the member bears x as a declared name
abbrev pub public_target : Bool → Visibility → Target → Option ℕ
public_target true Public (Owned e) = Some e
public_target fits seen target = None

abbrev pub public_owned : ℕ → List ℕ → Member → Option ℕ
public_owned owner x m = public_target (nat_eq m.owner owner && bears x m) m.visibility m.target

-- the first, if there is one, or else the second
abbrev pub first_of : {A : Type 0} → Option A → Option A → Option A
first_of None other = other
first_of (Some x) other = Some x

-- the element of the least public owned member of that owner that bears x
abbrev pub least_owned : List Member → ℕ → List ℕ → Option ℕ
least_owned [] owner x = None
least_owned (m ∷ ms) owner x = first_of (public_owned owner x m) (least_owned ms owner x)

-- an element among the public root members of a library file
pub record RootElement : Type 0 where
  pub file : StoredFile
  pub model : Data
  pub element : ℕ

abbrev pub in_library : Bool → List ℕ → StoredFile → Option Data → Option RootElement
in_library true x file (Some d) =
    option_map (λ e. record { file = file; model = d; element = e }) (least_owned d.members 0 x)
in_library library x file model = None

-- the one whose file stands first
abbrev pub earlier : Option RootElement → Option RootElement → Option RootElement
earlier None other = other
earlier (Some r) None = Some r
earlier (Some r) (Some s) = cond (stands_before s.file r.file) (Some s) (Some r)

-- the element of the least public owned root member of the library that bears x
abbrev pub least_root : List StoredFile → List ℕ → Option RootElement
least_root [] x = None
least_root (f ∷ fs) x = earlier (in_library f.library x f f.model) (least_root fs x)

-- the element with that number in a file
abbrev pub element_in : Data → ℕ → ElementNo
element_in d e = record { file = d.file; index = e }

-- that element, if it is a type
abbrev pub typed : Data → ℕ → Option ElementNo
typed d e = option_and_then (λ x. cond (is_type x.kind) (Some (element_in d e)) None) (slice_get d.elements e)

-- the type to which a name leads from a root member: the least public member of that name, if its element is a type
abbrev pub type_under : List ℕ → RootElement → Option ElementNo
type_under x r = option_and_then (typed r.model) (least_owned r.model.members r.element x)

-- where the path leads: to a public owned member of the library's roots, then to one of its members, which is a type
abbrev pub led_to : List StoredFile → BasePath → Option ElementNo
led_to files p = option_and_then (type_under p.name) (least_root files p.namespace)

-- the base of a kind, if it has one and its path leads to a type
abbrev pub base_of_kind : List StoredFile → Kind → Option ElementNo
base_of_kind files k = option_and_then (led_to files) (base_path k)

-- the model of a file, and an element of it
abbrev pub model_of : List StoredFile → ℕ → Option Data
model_of files f = option_and_then (λ x. x.model) (slice_get files f)

-- the owner of an enumerated value: of a feature, of whatever kind, that an enumeration definition owns
abbrev pub enumerated_in : Data → Element → ℕ → Option ElementNo
enumerated_in d e owner =
    option_and_then
    (λ o. cond (is_feature e.kind && is_enumeration o.kind) (Some (element_in d owner)) None)
    (slice_get d.elements owner)

abbrev pub enumeration_of : Data → Element → Option ElementNo
enumeration_of d e = option_and_then (enumerated_in d e) e.owner

-- the base of an element: of an enumerated value its owner, and otherwise the base of its kind
abbrev pub base_of_element : List StoredFile → Data → Element → Option ElementNo
base_of_element files d e = first_of (enumeration_of d e) (base_of_kind files e.kind)

-- the element stands in that model
abbrev pub IsIn : Data → ElementNo → Type 0
IsIn d e = (e.file ≡ d.file) × (e.index < length d.elements)

-- the element stands in the model of its file
abbrev pub StandsIn : List StoredFile → ElementNo → Type 0
StandsIn files e = (d : Data) × (model_of files e.file.0 ≡ Some d) × (e.index < length d.elements)

-- what a rule says of an element and the model in which it stands
abbrev pub told_of : {A : Type 0} → (Data → Element → Option A) → List StoredFile → ElementNo → Option A
told_of rule files e =
    option_and_then (λ d. option_and_then (rule d) (slice_get d.elements e.index)) (model_of files e.file.0)

-- the base of the element that stands there
abbrev pub base_of : List StoredFile → ElementNo → Option ElementNo
base_of files e = told_of (base_of_element files) files e

-- the enumeration definition of the element that stands there, if that is an enumerated value
abbrev pub enumeration_at : List StoredFile → ElementNo → Option ElementNo
enumeration_at files e = told_of enumeration_of files e
