-- How lookups read: the models of files by a look, a reference by its outcome in the table.
use Rattle.std.specs.Prelude.{ℕ, ◌^◌, Bool, true, false, cond, nat_eq, nat_lt, ◌&&◌, List, [], ◌∷◌, map, length, get_or, slice_get, Option, None, Some}
use Rattle.std.specs.List.{list_any}
use Rattle.std.specs.Cmp.Lexicographic.{pointwise}
use Rattle.element_store.specs.declared.numbers.FileNo.{FileNo}
use Rattle.element_store.specs.declared.numbers.ElementNo.{ElementNo}
use Rattle.element_store.specs.declared.outcome.Role.{Role}
use Rattle.element_store.specs.declared.outcome.Outcome.{Outcome}
use Rattle.element_store.specs.declared.outcome.Outcome.TheVariants.{Linked}
use Rattle.element_store.specs.declared.records.Element.{Element}
use Rattle.element_store.specs.declared.records.Member.{Member}
use Rattle.element_store.specs.declared.records.Import.{Import}
use Rattle.element_store.specs.Numbers.{numbers_from}
use Rattle.element_store.specs.Model.{Data, root_element}
use Rattle.element_store.specs.Condition.{members_of, imports_of}
use Rattle.demand_core.specs.Computation.{World, Computation, done, read, look, ◌>>=◌, joined}
use Rattle.link_model.specs.declared.keys.LinkKey.{LinkKey}
use Rattle.link_model.specs.declared.keys.LinkFact.{LinkFact}
use Rattle.link_model.specs.declared.keys.LinkFact.TheVariants.{File}
use Rattle.link_model.specs.Outside.{Seen, model_in}

abbrev pub Lookup : Type 0 → Type 0
Lookup A = Computation LinkKey Outcome LinkFact Seen A

abbrev pub LinkWorld : Type 0
LinkWorld = World LinkKey Outcome LinkFact Seen

-- More steps than there can be elements. A walk ends because it goes nowhere twice; the steps are a number that hangs
-- on no model, so that no edit changes it.
abbrev pub most : ℕ
most = 2 ^ 64

-- small words on lists
abbrev pub is_nil : {A : Type 0} → List A → Bool
is_nil [] = true
is_nil (x ∷ xs) = false

abbrev pub only_if : {A : Type 0} → Bool → A → List A
only_if b x = cond b (x ∷ []) []

abbrev pub listed : {A : Type 0} → Option A → List A
listed None = []
listed (Some x) = x ∷ []

-- x is among the names
abbrev pub is_named : List ℕ → List (List ℕ) → Bool
is_named x names = list_any (pointwise nat_eq x) names

-- what is told of the one that stands there, or nothing
abbrev pub told : {A B : Type 0} → Option A → (A → Lookup (List B)) → Lookup (List B)
told None f = done []
told (Some x) f = f x

-- what is told of the first of a list, or nothing
abbrev pub from_first : {A B : Type 0} → (A → Lookup (List B)) → List A → Lookup (List B)
from_first f [] = done []
from_first f (x ∷ xs) = f x

-- the first tier that isn't empty; later ones aren't reached
abbrev pub first_of : {A : Type 0} → List (Lookup (List A)) → Lookup (List A)
first_of [] = done []
first_of (tier ∷ tiers) = tier >>= λ xs. cond (is_nil xs) (first_of tiers) (done xs)

-- the model of a file
abbrev pub model : FileNo → Lookup Data
model f = look (File f) >>= λ s. done (model_in s)

-- what its model says of an element
abbrev pub element : ElementNo → Lookup Element
element e = model e.file >>= λ d. done (get_or d.elements e.index root_element)

-- what is told of each member of a namespace, or of each of its imports, with its number: parts of one stage
abbrev pub of_members : {A : Type 0} → (ℕ → Member → Lookup (List A)) → ElementNo → Lookup (List A)
of_members f n = model n.file >>= λ d. joined (λ k. told (slice_get d.members k) (f k)) (members_of d n.index)

abbrev pub of_imports : {A : Type 0} → (Import → Lookup (List A)) → ElementNo → Lookup (List A)
of_imports f n = model n.file >>= λ d. joined (λ k. told (slice_get d.imports k) f) (imports_of d n.index)

-- a reference of a file, as a key
abbrev pub key : FileNo → ℕ → LinkKey
key f k = record { 0 = record { file = f; index = k } }

-- the references of certain roles that an element has, in order
abbrev pub references_as : (Role → Bool) → ElementNo → Lookup (List LinkKey)
references_as fits e = model e.file
    >>= λ d. done (map (key e.file) (numbers_from 0 (λ r. nat_eq r.context e.index && fits r.role) d.references))

-- where an outcome leads: names the element, and so its file
abbrev pub led_to : Outcome → Lookup (List ElementNo)
led_to (Linked steps e) = look (File e.file) >>= λ s. done (e ∷ [])
led_to other = done []

-- The linked target of a reference, or none where it is refused; waits on it while it is open. A reference that
-- doesn't stand in the model leads nowhere.
abbrev pub target : LinkKey → Lookup (List ElementNo)
target r = model r.0.file >>= λ d. cond (nat_lt r.0.index (length d.references)) (read r >>= led_to) (done [])
