-- How the members under names change with the roots of one file.
use Rattle.std.specs.Prelude.{◌≡◌, ℕ, Bool, false, cond, nat_eq, ◌&&◌, not, Option, List, [], ◌∷◌, map, slice_get}
use Rattle.std.specs.Option.{option_map_or}
use Rattle.element_store.specs.declared.lists.Item.{Item}
use Rattle.element_store.specs.declared.lists.Item.TheVariants as item
use Rattle.element_store.specs.declared.numbers.FileNo.{FileNo}
use Rattle.element_store.specs.declared.numbers.MemberNo.{MemberNo}
use Rattle.element_store.specs.declared.models.StoredFile.{StoredFile}
use Rattle.element_store.specs.declared.records.Member.{Member}
use Rattle.element_store.specs.Numbers.{numbers_from, those_where, chosen}
use Rattle.element_store.specs.Model.{Data, is_name, bears}
use Rattle.element_store.specs.Readings.{is_any}
use Rattle.element_store.specs.Stored.{stands_before}
use Rattle.link_model.specs.Outside.{is_public}
use Rattle.root_names.specs.Roots.{Entries, bearing}

-- what stands under each name after one name's is changed
abbrev pub IsChanged : Entries → Entries → (List ℕ → Bool) → (List MemberNo → List MemberNo) → Type 0
IsChanged old new test change =
    (x : List ℕ) → bearing new x ≡ cond (test x) (change (bearing old x)) (bearing old x)

-- the members of other files
abbrev pub is_other : FileNo → MemberNo → Bool
is_other f m = not (nat_eq m.file.0 f.0)

abbrev pub others : FileNo → List MemberNo → List MemberNo
others f members = those_where (is_other f) members

-- those that are left, if the file's are taken away
abbrev pub left : FileNo → Bool → List MemberNo → List MemberNo
left f taken members = cond taken (others f members) members

-- the one file stands before the other, if both are there
abbrev pub stand_so : Option StoredFile → Option StoredFile → Bool
stand_so s t = option_map_or (λ a. option_map_or (λ b. stands_before a b) t false) s false

-- the member's file stands behind that one
abbrev pub is_behind : List StoredFile → FileNo → MemberNo → Bool
is_behind files f m = stand_so (slice_get files f.0) (slice_get files m.file.0)

-- a member put before the first that passes the test, or else last
abbrev pub put_before : (MemberNo → Bool) → MemberNo → List MemberNo → List MemberNo
put_before test m [] = m ∷ []
put_before test m (y ∷ ys) = cond (test y) (m ∷ y ∷ ys) (y ∷ put_before test m ys)

-- so each of these, in order
abbrev pub put_each : (MemberNo → Bool) → List MemberNo → List MemberNo → List MemberNo
put_each test [] xs = xs
put_each test (m ∷ ms) xs = put_each test ms (put_before test m xs)

-- a member of a file by its number
abbrev pub numbered : FileNo → ℕ → MemberNo
numbered f k = record { file = f; index = k }

-- both names of the member are the same one
abbrev pub repeats : Member → Bool
repeats m = option_map_or (λ x. is_name x m.name) m.short false

-- the member is public and bears x
abbrev pub shows : List ℕ → Member → Bool
shows x m = is_public m.visibility && bears x m

-- the member of an item of a root, if it is public and bears x
abbrev pub shown_by : List ℕ → FileNo → Data → Item → List MemberNo
shown_by x f d (item.Member k) = option_map_or (λ m. chosen (shows x m) (numbered f k) []) (slice_get d.members k) []
shown_by x f d (item.Import k) = []

-- the public members of a model's root that bear x, in order
abbrev pub roots_in : FileNo → Data → List ℕ → List MemberNo
roots_in f d x =
    map (numbered f) (numbers_from 0 (λ m. nat_eq m.owner 0 && is_public m.visibility && bears x m) d.members)

-- those of a file that may have a model
abbrev pub own_roots : FileNo → Option Data → List ℕ → List MemberNo
own_roots f model x = option_map_or (λ d. roots_in f d x) model []

-- under each name these members are put in, each before the first that passes the test
abbrev pub IsPut : (MemberNo → Bool) → (List ℕ → List MemberNo) → Entries → Entries → Type 0
IsPut test ms old new = (x : List ℕ) → bearing new x ≡ put_each test (ms x) (bearing old x)

-- under each name other files' members stand as before, and all do where none was to be put in
abbrev pub IsPartly : FileNo → (List ℕ → List MemberNo) → Entries → Entries → Type 0
IsPartly f ms old new =
    (x : List ℕ) → (others f (bearing new x) ≡ others f (bearing old x)) × (ms x ≡ [] → bearing new x ≡ bearing old x)

-- under each name of one of these members, those of the file are taken away
abbrev pub IsTaken : FileNo → (List ℕ → List MemberNo) → Entries → Entries → Type 0
IsTaken f ms old new = (x : List ℕ) → bearing new x ≡ left f (is_any (ms x)) (bearing old x)

-- no member of the file stands under a name
abbrev pub HasOthers : FileNo → Entries → Type 0
HasOthers f t = (x : List ℕ) → others f (bearing t x) ≡ bearing t x

-- under each name stands the same
abbrev pub IsAsBefore : Entries → Entries → Type 0
IsAsBefore old new = (x : List ℕ) → bearing new x ≡ bearing old x
