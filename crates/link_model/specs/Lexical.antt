-- What a tier gives, and the tiers from a namespace outward, after KerML's Namespace::resolveLocal and resolveGlobal.
use Rattle.std.specs.Prelude.{ℕ, zero, suc, Bool, true, false, cond, not, nat_eq, nat_lt, List, [], ◌∷◌, ◌++◌, length, drop, get_or, slice_get, Option, None, Some}
use Rattle.std.specs.List.{flat_map}
use Rattle.std.specs.Option.{option_map_or}
use Rattle.std.specs.Cmp.Lexicographic.{pointwise}
use Rattle.element_store.specs.declared.numbers.FileNo.{FileNo}
use Rattle.element_store.specs.declared.numbers.ElementNo.{ElementNo}
use Rattle.element_store.specs.declared.numbers.MemberNo.{MemberNo}
use Rattle.element_store.specs.declared.models.StoredFile.{StoredFile}
use Rattle.element_store.specs.Numbers.{those_where}
use Rattle.element_store.specs.Model.{Data, root_element}
use Rattle.element_store.specs.Stored.{in_order}
use Rattle.demand_core.specs.Computation.{done, look, ◌>>=◌, joined}
use Rattle.link_model.specs.declared.keys.Hit.{Hit}
use Rattle.link_model.specs.declared.keys.LinkFact.TheVariants.{File, RootName}
use Rattle.link_model.specs.Keys.{same_element}
use Rattle.link_model.specs.Outside.{Library}
use Rattle.link_model.specs.Readers.{Lookup, told, model}
use Rattle.link_model.specs.Names.{hit, declared, effective}
use Rattle.link_model.specs.Inheritance.{inherited_tier}
use Rattle.link_model.specs.Imports.{import_tier, visible}

-- A member or a reference with what decides which is least: whether its file is of the library, the file's name, and
-- its number there.
pub record Ranked (A : Type 0) : Type 0 where
  pub library : Bool
  pub name : List ℕ
  pub number : ℕ
  pub item : A

abbrev pub ranked_by : {A : Type 0} → Option StoredFile → ℕ → A → Ranked A
ranked_by None n x = record { library = false; name = []; number = n; item = x }
ranked_by (Some s) n x = record { library = s.library; name = s.name; number = n; item = x }

-- project files before library files, within each the byte order of file names, then the number
abbrev pub is_before : {A B : Type 0} → Ranked A → Ranked B → Bool
is_before a b = cond (pointwise nat_eq a.name b.name) (nat_lt a.number b.number)
    (in_order a.library a.name b.library b.name)

abbrev pub lesser : {A : Type 0} → Ranked A → Option (Ranked A) → Option (Ranked A)
lesser a None = Some a
lesser a (Some b) = cond (is_before b a) (Some b) (Some a)

abbrev pub least_of : {A : Type 0} → List (Ranked A) → Option (Ranked A)
least_of [] = None
least_of (a ∷ more) = lesser a (least_of more)

-- the hits by their members
abbrev pub ranked_hits : List Hit → Lookup (List (Ranked Hit))
ranked_hits = joined (λ h. look (File h.member.file) >>= λ s. done (ranked_by s h.member.index h ∷ []))

-- PICK. Of a tier: nothing where it is empty; its element where all its hits lead to one; otherwise the least member,
-- and the least member that leads to another element.
pub data Picked : Type 0 where
  Nothing : Picked
  One : ElementNo → Picked
  Several : (first second : MemberNo) → Picked

abbrev pub picked_with : Hit → Option (Ranked Hit) → Picked
picked_with h None = One h.element
picked_with h (Some o) = Several h.member o.item.member

abbrev pub picked_from : List (Ranked Hit) → Option (Ranked Hit) → Picked
picked_from hs None = Nothing
picked_from hs (Some a) =
    picked_with a.item (least_of (those_where (λ b. not (same_element b.item.element a.item.element)) hs))

abbrev pub pick : List Hit → Lookup Picked
pick hs = ranked_hits hs >>= λ rs. done (picked_from rs (least_of rs))

-- an element, its owner, and so on up to the root of its file; no way is longer than the elements are many
abbrev pub way_up : Data → FileNo → ℕ → ℕ → List ElementNo
way_up d f zero e = []
way_up d f (suc steps) e =
    record { file = f; index = e } ∷ option_map_or (way_up d f steps) (get_or d.elements e root_element).owner []

abbrev pub outward : Data → ElementNo → List ElementNo
outward d e = way_up d e.file (length d.elements) e.index

-- its owner, the owner's owner, and so on
abbrev pub owners : Data → ElementNo → List ElementNo
owners d e = drop 1 (outward d e)

-- the hit of a member, wherever it stands
abbrev pub member_hit : MemberNo → Lookup (List Hit)
member_hit m = model m.file >>= λ d. told (slice_get d.members m.index) (hit m.file m.index)

-- THE PROJECT TIER: the public root members of all present project files that bear x, as one tier
abbrev pub project_tier : List ℕ → Lookup (List Hit)
project_tier x = look (RootName x) >>= joined member_hit

module _ (lib : Library) where
  -- THE LIBRARY TIER: the same over the library's files
  abbrev pub library_tier : List ℕ → Lookup (List Hit)
  library_tier x = joined member_hit (lib.roots x)

  -- what all imports of n bring
  abbrev pub imports_of_all : List ℕ → ElementNo → Lookup (List Hit)
  imports_of_all x n = import_tier (visible lib x (n ∷ [])) (λ i. true) x n

  -- what those imports of n bring that are written before the one of that reference: the imports of a body have rising
  -- references
  abbrev pub imports_before : ℕ → List ℕ → ElementNo → Lookup (List Hit)
  imports_before r x n = import_tier (visible lib x (n ∷ [])) (λ i. nat_lt i.reference r) x n

  -- the tiers of a namespace
  abbrev pub tiers : List ℕ → ElementNo → List (Lookup (List Hit))
  tiers x n = declared x n ∷ effective x n ∷ inherited_tier lib x n ∷ imports_of_all x n ∷ []

  -- the last two tiers; a library file passes over the project's
  abbrev pub last_tiers : Bool → List ℕ → List (Lookup (List Hit))
  last_tiers library x = cond library [] (project_tier x ∷ []) ++ library_tier x ∷ []

  -- LEXICAL. The tiers of these namespaces, one after the other, and the last two.
  abbrev pub lexical : Bool → List ℕ → List ElementNo → List (Lookup (List Hit))
  lexical library x ns = flat_map (tiers x) ns ++ last_tiers library x
