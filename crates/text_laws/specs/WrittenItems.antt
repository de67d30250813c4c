-- What a text says of its members and its imports, by its tree.
use Rattle.std.specs.Prelude.{◌≡◌, ℕ, ◌+◌, Option, Some, None, List, [], ◌∷◌, ◌++◌, map}
use Rattle.element_store.specs.declared.numbers.FileNo.{FileNo}
use Rattle.element_store.specs.declared.outcome.Language.{Language}
use Rattle.element_store.specs.declared.records.Member.{Member}
use Rattle.element_store.specs.declared.records.Target.{Target}
use Rattle.element_store.specs.declared.records.Target.TheVariants as target
use Rattle.element_store.specs.Model.{Data}
use Rattle.token_core.specs.declared.token.Token.{Token}
use Rattle.ll_core.specs.Derives.{Forest, Nothing, Token as Leaf, Node}
use Rattle.text_model.specs.declared.action.Action.{Action}
use Rattle.text_model.specs.declared.action.Action.TheVariants.{Element, Take}
use Rattle.text_model.specs.declared.action.Taking.TheVariants as taking
use Rattle.text_model.specs.Tables.{Tables, tables, action_at}
use Rattle.text_model.specs.Profile.{IsRead, InProfile}
use Rattle.text_laws.specs.Written.{inner_owner}

-- a member as it is written: the innermost element around it, and the element that it owns, none for an alias
pub record WrittenMember : Type 0 where
  pub owner : ℕ
  pub element : Option ℕ

-- one, where a production is an element's
abbrev pub makes_element : Action → ℕ
makes_element (Element k) = 1
makes_element other = 0

-- how many elements a forest has
abbrev pub count_elements : Tables → Forest → ℕ
count_elements t Nothing = 0
count_elements t (Leaf k f) = count_elements t f
count_elements t (Node p below f) =
    makes_element (action_at t p) + count_elements t below + count_elements t f

-- the member that owns a production's element
abbrev pub element_member : Action → ℕ → ℕ → List WrittenMember
element_member (Element k) around n = record { owner = around; element = Some n } ∷ []
element_member other around n = []

-- the member that is a production's alias
abbrev pub alias_of : Action → ℕ → List WrittenMember
alias_of (Take taking.Alias) around = record { owner = around; element = None } ∷ []
alias_of other around = []

-- the element around a production's import
abbrev pub import_owner : Action → ℕ → List ℕ
import_owner (Take taking.Import) around = around ∷ []
import_owner other around = []

-- the members of a forest in text order, where its first element has the number n
abbrev pub members_in : Tables → ℕ → ℕ → Forest → List WrittenMember
members_in t around n Nothing = []
members_in t around n (Leaf k f) = members_in t around n f
members_in t around n (Node p below f) =
    let a = action_at t p in
    element_member a around n ++ (members_in t (inner_owner a around n) (n + makes_element a) below
    ++ (alias_of a around ++ members_in t around (n + (makes_element a + count_elements t below)) f))

-- the innermost elements around its imports, in text order
abbrev pub importers_in : Tables → ℕ → ℕ → Forest → List ℕ
importers_in t around n Nothing = []
importers_in t around n (Leaf k f) = importers_in t around n f
importers_in t around n (Node p below f) =
    let a = action_at t p in
    importers_in t (inner_owner a around n) (n + makes_element a) below
    ++ (import_owner a around ++ importers_in t around (n + (makes_element a + count_elements t below)) f)

-- the element of a target
abbrev pub owned_by : Target → Option ℕ
owned_by (target.Owned e) = Some e
owned_by (target.Alias r) = None

-- a member of a model, as far as it is written so
abbrev pub as_written : Member → WrittenMember
as_written m = record { owner = m.owner; element = owned_by m.target }

-- the members and the imports of a model are those that are written, in text order
pub record HasWrittenItems (t : Tables) (f : Forest) (d : Data) : Type 0 where
  pub members : map as_written d.members ≡ members_in t 0 1 f
  pub imports : map (λ i. i.owner) d.imports ≡ importers_in t 0 1 f

-- so are those of every text
abbrev pub ItemsAreWritten : Type 0
ItemsAreWritten =
    (file : FileNo) (language : Language) (text : List ℕ) (d : Data) (tokens : List Token) (tree : Forest)
    → InProfile file language text d → IsRead language text tokens tree → HasWrittenItems (tables language) tree d
