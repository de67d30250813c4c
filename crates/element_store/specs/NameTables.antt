-- The table through which the names of a namespace are found.
use Rattle.std.specs.Prelude.{◌≡◌, ℕ, Bool, ◌&&◌, cond, nat_eq, Option, Some, None, List, [], ◌++◌, Vec, unwrap_or}
use Rattle.std.specs.declared.alloc.Global.{Global}
use Rattle.std.specs.Map.{lookup}
use Rattle.std.specs.Cmp.Lexicographic.{pointwise}
use Rattle.element_store.specs.declared.records.Member.{Member}
use Rattle.element_store.specs.Numbers.{chosen}
use Rattle.element_store.specs.Model.{bearers}

-- the names of one namespace, each with the numbers of those that bear it
abbrev pub Names : Type 0
Names = List (Vec ℕ Global × List ℕ)

-- the names of each namespace, by the number of the namespace
abbrev pub Table : Type 0
Table = List (ℕ × Names)

-- the numbers kept under the name
abbrev pub numbers_under : Names → List ℕ → List ℕ
numbers_under names x = unwrap_or (lookup (λ k. pointwise nat_eq x k.items) names) []

-- the names kept for the owner
abbrev pub names_of : Table → ℕ → Names
names_of table owner = unwrap_or (lookup (nat_eq owner) table) []

-- the list kept under that owner and name, [] where there is none
abbrev pub found_in : Table → ℕ → List ℕ → List ℕ
found_in table owner x = numbers_under (names_of table owner) x

-- what is found is who bears the name
abbrev pub HasBearers : List Member → Table → Type 0
HasBearers members table = (owner : ℕ) (x : List ℕ) → found_in table owner x ≡ bearers members owner x

-- the number alone, if it is noted
abbrev pub if_noted : Bool → ℕ → List ℕ
if_noted b number = chosen b number []

-- one number more is found under a name
abbrev pub IsNoted : Names → Names → List ℕ → ℕ → Type 0
IsNoted old new name number =
    (x : List ℕ) → numbers_under new x ≡ numbers_under old x ++ if_noted (pointwise nat_eq x name) number

-- one number more is found under each name of an owner that passes the test
abbrev pub AreNoted : Table → Table → ℕ → (List ℕ → Bool) → ℕ → Type 0
AreNoted old new owner test number =
    (o : ℕ) (x : List ℕ) → found_in new o x ≡ found_in old o x ++ if_noted (nat_eq owner o && test x) number

-- a name, if there is one and it is not that short name
abbrev pub unless_same : Option (List ℕ) → Option (List ℕ) → Option (List ℕ)
unless_same short None = None
unless_same None (Some name) = Some name
unless_same (Some short) (Some name) = cond (pointwise nat_eq short name) None (Some name)
