-- What a linked project answers. A broken one answers so before all else.
use Rattle.std.specs.Prelude.{◌≡◌, ℕ, Bool, true, false, List, map, Option, Some, None, Result, Ok, Err}
use Rattle.element_store.specs.declared.outcome.Outcome.{Outcome}
use Rattle.book_model.specs.declared.asked_name.AskedName.{AskedName}
use Rattle.book_model.specs.AskedNames.{AskFor}
use Rattle.book_model.specs.Files.{AreFilesOf}
use Rattle.book_model.specs.Queries.{find_query, implied_query}
use Rattle.implied_rules.specs.declared.rows.ImpliedRow.{ImpliedRow}
use Rattle.implied_rules.specs.Implied.{said_by}
use Rattle.project_book.specs.Held.{Held}
use Rattle.project_answers.specs.Holds.{holding_of}
use Rattle.linked_project.specs.declared.asked_pair.AskedPair.{AskedPair}
use Rattle.linked_project.specs.declared.query_fault.QueryFault.{QueryFault}
use Rattle.linked_project.specs.declared.query_fault.QueryFault.TheVariants.{NoSuchFile, BadName, Broken, NoMemory}
use Rattle.linked_project.specs.AskedPairs.{AskForPair, spelt_pair}

-- a project holds the files of its book over its library, each read from its text
abbrev pub HasItsFiles : Held → Type 0
HasItsFiles held = let h = holding_of held in AreFilesOf h.book h.library held.files

-- ANSWERED. The value of a query; none is there exactly where no text is present; or memory was wanting.
abbrev pub IsAnswered : {A : Type 0} → Bool → Option A → Result A QueryFault → Type 0
IsAnswered broken value (Ok a) = (broken ≡ false) × (value ≡ Some a)
IsAnswered broken value (Err NoSuchFile) = (broken ≡ false) × (value ≡ None)
IsAnswered broken value (Err Broken) = broken ≡ true
IsAnswered broken value (Err NoMemory) = broken ≡ false
IsAnswered broken value (Err BadName) = ⊥

-- TOLD. The same of a query that takes no memory.
abbrev pub IsTold : {A : Type 0} → Bool → Option A → Result A QueryFault → Type 0
IsTold broken value (Err NoMemory) = ⊥
IsTold broken value result = IsAnswered broken value result

-- FOUND. What the qualified name finds that the words are; or they are none.
abbrev pub IsFound : Held → List ℕ → Result Outcome QueryFault → Type 0
IsFound held words (Ok outcome) = (held.broken ≡ false)
    × ((name : AskedName) × AskFor words (Some name) × (outcome ≡ find_query held.files name.path))
IsFound held words (Err BadName) = (held.broken ≡ false) × AskFor words None
IsFound held words (Err Broken) = held.broken ≡ true
IsFound held words (Err NoMemory) = held.broken ≡ false
IsFound held words (Err NoSuchFile) = ⊥

-- IMPLIED. The rows say the implied specialisations of the book.
abbrev pub IsImplied : Held → Result (List ImpliedRow) QueryFault → Type 0
IsImplied held (Ok rows) = (held.broken ≡ false) × (map said_by rows ≡ implied_query held.files)
IsImplied held (Err Broken) = held.broken ≡ true
IsImplied held (Err NoMemory) = held.broken ≡ false
IsImplied held (Err NoSuchFile) = ⊥
IsImplied held (Err BadName) = ⊥

-- SPELT. The canonical spelling of the one name or the two that the words are; or they are none.
abbrev pub IsSpelt : Bool → List ℕ → Result (List ℕ) QueryFault → Type 0
IsSpelt broken words (Ok text) = (broken ≡ false)
    × ((pair : AskedPair) × AskForPair words (Some pair) × (text ≡ spelt_pair pair))
IsSpelt broken words (Err BadName) = (broken ≡ false) × AskForPair words None
IsSpelt broken words (Err Broken) = broken ≡ true
IsSpelt broken words (Err NoMemory) = broken ≡ false
IsSpelt broken words (Err NoSuchFile) = ⊥
