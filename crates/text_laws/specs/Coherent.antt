-- What holds of every walk over every forest: who owns and holds what.
use Rattle.std.specs.Prelude.{◌≡◌, ℕ, suc, ◌<◌, nat_eq, Option, Some, None, List, [], ◌∷◌, length, map, slice_get}
use Rattle.std.specs.List.{flat_map}
use Rattle.element_store.specs.declared.outcome.Role.{Role}
use Rattle.element_store.specs.declared.outcome.Role.TheVariants as role
use Rattle.element_store.specs.declared.lists.Item.{Item}
use Rattle.element_store.specs.declared.lists.Item.TheVariants as item
use Rattle.element_store.specs.Numbers.{numbers_from}
use Rattle.element_store.specs.Model.{members_in, imports_in}
use Rattle.text_model.specs.declared.draft.Draft.{Draft}
use Rattle.text_model.specs.declared.draft.DraftTarget.{DraftTarget}
use Rattle.text_model.specs.declared.draft.DraftTarget.TheVariants.{Owned, Alias}
use Rattle.text_model.specs.declared.draft.DraftMember.{DraftMember}
use Rattle.text_model.specs.declared.draft.DraftImport.{DraftImport}
use Rattle.text_model.specs.Walk.{Walk}

-- what owning and holding speak of
pub record Stock : Type 0 where
  pub owner : Option ℕ
  pub items : List Item
  pub inner : List Role

-- of a draft
abbrev pub stock : Draft → Stock
stock d = record { owner = d.owner; items = d.items; inner = map (λ m. m.role) d.inner }

-- an element, a place among the names of its aliases and imports, and what the name there is for
pub record Held : Type 0 where
  pub owner : ℕ
  pub place : ℕ
  pub role : Role

-- the name that an alias holds
abbrev pub held_target : ℕ → DraftTarget → List Held
held_target owner (Owned e) = []
held_target owner (Alias k) = record { owner = owner; place = k; role = role.Alias } ∷ []

-- and a member, if it is one
abbrev pub held_member : Option DraftMember → List Held
held_member None = []
held_member (Some m) = held_target m.owner m.target

-- and an import
abbrev pub held_import : Option DraftImport → List Held
held_import None = []
held_import (Some i) = record { owner = i.owner; place = i.at; role = role.Import } ∷ []

-- and an item
abbrev pub held : List DraftMember → List DraftImport → Item → List Held
held ms is (item.Member m) = held_member (slice_get ms m)
held ms is (item.Import i) = held_import (slice_get is i)

-- names with these roles, the first at this place
abbrev pub held_from : ℕ → ℕ → List Role → List Held
held_from e n [] = []
held_from e n (r ∷ rs) = record { owner = e; place = n; role = r } ∷ held_from e (suc n) rs

-- the item's number is in range
abbrev pub IsWithin : ℕ → ℕ → Item → Type 0
IsWithin ms is (item.Member m) = m < ms
IsWithin ms is (item.Import i) = i < is

-- so is each
abbrev pub AreWithin : ℕ → ℕ → List Item → Type 0
AreWithin ms is [] = Unit {0}
AreWithin ms is (i ∷ items) = IsWithin ms is i × AreWithin ms is items

-- the items of the element e are its members and imports, and they hold the names of its aliases and imports, each once
-- and in order
pub record Holds (ms : List DraftMember) (is : List DraftImport) (e : ℕ) (s : Stock) : Type 0 where
  pub members : members_in s.items ≡ numbers_from 0 (λ m. nat_eq m.owner e) ms
  pub imports : imports_in s.items ≡ numbers_from 0 (λ i. nat_eq i.owner e) is
  pub within : AreWithin (length ms) (length is) s.items
  pub inner : flat_map (held ms is) s.items ≡ held_from e 0 s.inner

-- of each, where the first has the number n
abbrev pub EachFrom : {A : Type 0} → (ℕ → A → Type 0) → ℕ → List A → Type 0
EachFrom P n [] = Unit {0}
EachFrom P n (x ∷ xs) = P n x × EachFrom P (suc n) xs

-- the owners of the members have lower numbers
abbrev pub MembersBelow : ℕ → List DraftMember → Type 0
MembersBelow n [] = Unit {0}
MembersBelow n (m ∷ ms) = (m.owner < n) × MembersBelow n ms

-- and so have those of the imports
abbrev pub ImportsBelow : ℕ → List DraftImport → Type 0
ImportsBelow n [] = Unit {0}
ImportsBelow n (i ∷ is) = (i.owner < n) × ImportsBelow n is

-- an element and its owner
pub record Owner : Type 0 where
  pub element : ℕ
  pub owner : Option ℕ

-- the element that a member owns, with its owner
abbrev pub owner_by : DraftTarget → ℕ → List Owner
owner_by (Owned e) owner = record { element = e; owner = Some owner } ∷ []
owner_by (Alias k) owner = []

-- all that members own, in order
abbrev pub owners_by : List DraftMember → List Owner
owners_by ms = flat_map (λ m. owner_by m.target m.owner) ms

-- the owners that elements have, from this number on
abbrev pub owners_from : ℕ → List Stock → List Owner
owners_from n [] = []
owners_from n (s ∷ ss) = record { element = n; owner = s.owner } ∷ owners_from (suc n) ss

-- owners and items agree with the members and imports
pub record AreCoherent (ss : List Stock) (ms : List DraftMember) (is : List DraftImport) (now : ℕ) : Type 0 where
  pub current : now < length ss
  pub owners : record { element = 0; owner = None } ∷ owners_by ms ≡ owners_from 0 ss
  pub each : EachFrom (Holds ms is) 0 ss
  pub members : MembersBelow (length ss) ms
  pub imports : ImportsBelow (length ss) is

-- they do in a walk
abbrev pub IsCoherent : Walk → Type 0
IsCoherent w = AreCoherent (map stock w.elements) w.members w.imports w.current
