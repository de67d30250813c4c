-- Where the ten roles start.
use Rattle.std.specs.Prelude.{◌≡◌, ℕ, Bool, true, cond, List, [], ◌∷◌, ◌++◌, length, slice_get, get_or, Option, None, Some}
use Rattle.element_store.specs.declared.numbers.FileNo.{FileNo}
use Rattle.element_store.specs.declared.numbers.ElementNo.{ElementNo}
use Rattle.element_store.specs.declared.numbers.RefNo.{RefNo}
use Rattle.element_store.specs.declared.outcome.Role.{Role}
use Rattle.element_store.specs.declared.outcome.Role.TheVariants as role
use Rattle.element_store.specs.declared.records.Reference.{Reference}
use Rattle.element_store.specs.Kinds.{is_type}
use Rattle.element_store.specs.Model.{Data, root_element}
use Rattle.link_model.specs.declared.keys.Hit.{Hit}
use Rattle.link_model.specs.Outside.{Library}
use Rattle.link_model.specs.Readers.{Lookup}
use Rattle.link_model.specs.Names.{declared, effective}
use Rattle.link_model.specs.Inheritance.{inherited, inherited_tier}
use Rattle.link_model.specs.Lexical.{imports_of_all, imports_before, outward, owners, lexical}
use Rattle.link_model.specs.Asking.{from_owner, from_body}
use Rattle.link_asking.specs.declared.starts.Begin.{Begin}
use Rattle.link_asking.specs.declared.starts.Begin.TheVariants as begin

-- an element of a file
abbrev pub node_at : FileNo → ℕ → ElementNo
node_at f e = record { file = f; index = e }

-- where a role begins
abbrev pub begin_of : Role → Begin
begin_of role.Subclass = begin.Owner
begin_of role.Typing = begin.Owner
begin_of role.Subsetting = begin.Owner
begin_of role.ReferenceSubsetting = begin.Owner
begin_of role.Redefinition = begin.Redefined
begin_of role.Import = begin.Body
begin_of role.Alias = begin.Context
begin_of role.About = begin.Owner
begin_of role.Value = begin.Context
begin_of role.Bound = begin.Context

-- the tiers of a beginning
abbrev pub tiers_from : Library → Begin → Bool → List ℕ → Data → ℕ → ElementNo → List (Lookup (List Hit))
tiers_from lib begin.Owner library x d r e = lexical lib library x (owners d e)
tiers_from lib begin.Redefined library x d r e = from_owner lib library x d (owners d e)
tiers_from lib begin.Body library x d r e = from_body lib library x r (outward d e)
tiers_from lib begin.Context library x d r e = lexical lib library x (outward d e)

-- the tiers of the owner of a redefining feature, a type or not
abbrev pub owner_tiers : Library → Bool → List ℕ → ElementNo → List (Lookup (List Hit))
owner_tiers lib typed x o = cond typed (inherited lib true x o ∷ [])
    (declared x o ∷ inherited_tier lib x o ∷ imports_of_all lib x o ∷ [])

-- the tiers of the body in which an import is written
abbrev pub body_tiers : Library → List ℕ → ℕ → ElementNo → List (Lookup (List Hit))
body_tiers lib x r n = declared x n ∷ effective x n ∷ inherited_tier lib x n ∷ imports_before lib r x n ∷ []
