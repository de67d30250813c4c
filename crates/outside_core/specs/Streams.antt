-- What a call does to the content of a source or a sink, where it is told. None stands for a content that is not told.
use Rattle.std.specs.Prelude.{◌≡◌, ℕ, ◌≤◌, ◌↔◌, List, [], ◌++◌, length, take, Option, Some, None, Result, Ok, Err}

-- a stream of std with its count of faults: what contracts see of an adapter
pub record Adapted (S : Type 0) : Type 0 where
  pub stream : S
  pub faults : ℕ

-- Ok n took the next n bytes, which are now the first of the buffer, and 0 exactly where nothing was left;
-- a failure took nothing; what is not told stays untold
abbrev pub Takes : {E : Type 0} → Option (List ℕ) → Option (List ℕ) → Result ℕ E → List ℕ → Type 0
Takes None left result buffer = left ≡ None
Takes (Some bytes) left (Ok n) buffer =
    (rest : List ℕ) × (left ≡ Some rest) × (bytes ≡ take n buffer ++ rest) × ((n ≡ 0) ↔ (bytes ≡ []))
Takes (Some bytes) left (Err e) buffer = left ≡ Some bytes

-- these bytes were taken so far
abbrev pub TakenSoFar : Option (List ℕ) → Option (List ℕ) → List ℕ → Type 0
TakenSoFar None left taken = left ≡ None
TakenSoFar (Some bytes) left taken = (rest : List ℕ) × (left ≡ Some rest) × (bytes ≡ taken ++ rest)

-- Ok n appended the first n bytes of the piece; a failure gave nothing; what is not told stays untold
abbrev pub Gives : {E : Type 0} → Option (List ℕ) → Option (List ℕ) → Result ℕ E → List ℕ → Type 0
Gives None given result piece = given ≡ None
Gives (Some bytes) given (Ok n) piece = given ≡ Some (bytes ++ take n piece)
Gives (Some bytes) given (Err e) piece = given ≡ Some bytes

-- the first n bytes of the piece were given
abbrev pub GivenSoFar : Option (List ℕ) → Option (List ℕ) → List ℕ → ℕ → Type 0
GivenSoFar None given piece n = given ≡ None
GivenSoFar (Some bytes) given piece n = given ≡ Some (bytes ++ take n piece)

-- Ok gave the whole piece, a failure some prefix of it; what is not told stays untold
abbrev pub GivesAll : {T E : Type 0} → Option (List ℕ) → Option (List ℕ) → Result T E → List ℕ → Type 0
GivesAll None given result piece = given ≡ None
GivesAll (Some bytes) given (Ok u) piece = given ≡ Some (bytes ++ piece)
GivesAll (Some bytes) given (Err e) piece = (n : ℕ) × (n ≤ length piece) × (given ≡ Some (bytes ++ take n piece))
