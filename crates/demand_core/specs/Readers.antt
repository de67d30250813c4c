-- Who looked at what: the lists of looks by key, and the other way round, the readers of each thing that was looked at.
use Rattle.std.specs.Prelude.{◌≡◌, Bool, true, List, [], Option, None, Some, is_some}
use Rattle.linker_base.specs.Members.{IsMember}
use Rattle.demand_core.specs.Tables.{entry_of}

-- the entries of an inner table, or none where there is no such table
abbrev pub or_empty : {A : Type 0} → Option (List A) → List A
or_empty None = []
or_empty (Some xs) = xs

-- the key is among the readers of the thing
abbrev pub is_reader : {K T : Type 0} → (K → K → Bool) → (T → T → Bool) → List (T × List (K × Unit {0})) → T → K → Bool
is_reader eq same readers thing key = is_some (entry_of eq (or_empty (entry_of same readers thing)) key)

-- whoever has a list is a reader of each thing on it
abbrev pub AreRecorded : {K T : Type 0} → (K → K → Bool) → (T → T → Bool) → List (K × List T)
    → List (T × List (K × Unit {0})) → Type 0
AreRecorded {K} {T} eq same lists readers = (key : K) (list : List T) (thing : T) → entry_of eq lists key ≡ Some list
    → IsMember list thing → is_reader eq same readers thing key ≡ true

-- the thing is on the list of the key
abbrev pub IsListed : {K T : Type 0} → (K → K → Bool) → List (K × List T) → K → T → Type 0
IsListed {K} {T} eq lists key thing = (list : List T) × (entry_of eq lists key ≡ Some list) × IsMember list thing
