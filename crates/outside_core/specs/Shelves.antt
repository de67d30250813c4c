-- What a shelf holds, and what a fetch answers.
use Rattle.std.specs.Prelude.{◌≡◌, ℕ, ◌<◌, ◌≤◌, List, [], ◌∷◌, length, cond, bytes_eq, Option, Some, None, Result, Ok, Err, Vec, vec_items, unwrap_or, slice_index_or}
use Rattle.linker_base.specs.Counts.{Rose}
use Rattle.linker_base.specs.Members.{IsMember}
use Rattle.outside_core.specs.declared.faults.ShelfFault.{ShelfFault}
use Rattle.outside_core.specs.declared.faults.ShelfFault.TheVariants.{Failed, TooLong, NoMemory}

-- from a name to the text under it, or to None where nothing stands under it
abbrev pub Texts : Type 0
Texts = List ℕ → Option (List ℕ)

-- the texts of a shelf, where they are told
abbrev pub Told : Type 0
Told = Option Texts

-- the text, if there is one, has at most so many bytes
abbrev pub IsAtMost : Option (List ℕ) → ℕ → Type 0
IsAtMost None max = Unit {0}
IsAtMost (Some text) max = length text ≤ max

-- there is a text, and it has more bytes
abbrev pub IsLonger : Option (List ℕ) → ℕ → Type 0
IsLonger None max = ⊥
IsLonger (Some text) max = max < length text

-- Ok gives exactly the text under the name; where that text has more than `max` bytes, TooLong comes or Failed, and
-- TooLong comes nowhere else (that Ok gives at most `max` bytes is a clause of its own); what is not told says
-- nothing
abbrev pub Fetches : {A : Type 0} → Told → List ℕ → ℕ → Result (Vec ℕ A) ShelfFault → Type 0
Fetches None name max result = Unit {0}
Fetches (Some texts) name max (Ok text) = texts name ≡ Some (vec_items text)
Fetches (Some texts) name max (Err Failed) = Unit {0}
Fetches (Some texts) name max (Err TooLong) = IsLonger (texts name) max
Fetches (Some texts) name max (Err NoMemory) = IsAtMost (texts name) max

-- Failed comes only where the count rose, and then the last failed name is this one; any other answer leaves both;
-- the count never falls
abbrev pub HasShelfCause : {T : Type 0} → (before now : ℕ) (last new : Option (List ℕ)) (name : List ℕ)
    → Result T ShelfFault → Type 0
HasShelfCause before now last new name (Ok text) = (now ≡ before) × (new ≡ last)
HasShelfCause before now last new name (Err Failed) = (before ≤ now) × Rose before now × (new ≡ Some name)
HasShelfCause before now last new name (Err TooLong) = (now ≡ before) × (new ≡ last)
HasShelfCause before now last new name (Err NoMemory) = (now ≡ before) × (new ≡ last)

-- the text beside the first name that is this one
abbrev pub text_beside : List (List ℕ) → List (List ℕ) → Texts
text_beside [] texts name = None
text_beside (held ∷ names) [] name = None
text_beside (held ∷ names) (text ∷ texts) name = cond (bytes_eq held name) (Some text) (text_beside names texts name)

-- names and the texts beside them
pub record Library : Type 0 where
  pub names : List (List ℕ)
  pub texts : List (List ℕ)

-- the text beside a name, and the empty text under every other name
abbrev pub steady_text : Library → List ℕ → List ℕ
steady_text l name = unwrap_or (text_beside l.names l.texts name) []

-- what the shelf tells: the text beside each name, and the empty text under every other name
abbrev pub steady_told : Library → Told
steady_told l = Some (λ name. Some (steady_text l name))

-- each text stands under the name at its place, and the empty text under every other name
pub record StandsBeside (names texts : List (List ℕ)) (text : List ℕ → List ℕ) : Type 0 where
  pub each : (i : ℕ) → i < length names → text (slice_index_or names i []) ≡ slice_index_or texts i []
  pub other : (name : List ℕ) → (IsMember names name → ⊥) → text name ≡ []
