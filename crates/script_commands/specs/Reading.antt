-- What a call of the reader takes, and what it gives.
use Rattle.std.specs.Prelude.{◌≡◌, ℕ, ◌+◌, ◌<◌, ◌≤◌, List, [], ◌∷◌, ◌++◌, length, take, codes, Option, Some, None, Result, Ok, Err, ◌⊎◌}
use Rattle.linker_base.specs.declared.limits.TheConstants.{FILE_BYTES, INPUT_BYTES, LINE_BYTES}
use Rattle.linker_base.specs.Counts.{Rose}
use Rattle.linker_base.specs.Members.{IsMember}
use Rattle.outside_core.specs.Streams.{TakenSoFar}
use Rattle.session_course.specs.Commands.{Command as Meant, line_of, spelling_of, HasForm, limit_passed}
use Rattle.session_course.specs.Refusals.{IsEndless, IsFormless, IsOversized, IsUnclosed, IsUnfinished}
use Rattle.script_commands.specs.Lines.{command_of, IsHeading}
use Rattle.script_commands.specs.Pieces.{IsAtEnd}
use Rattle.script_commands.specs.declared.command.Command.{Command}
use Rattle.script_commands.specs.declared.command.ReadStop.{ReadStop}
use Rattle.script_commands.specs.declared.command.ReadStop.TheVariants.{LongLine, NoForm, LongText, NoLineFeed, LongInput, CutShort, ReadFault, NoMemory}
use Rattle.script_commands.specs.declared.line.Heading.{Heading}

-- a reader: how many bytes of the input were used up so far, and which bytes were taken after these
pub record Window : Type 0 where
  pub used : ℕ
  pub pending : List ℕ

-- a call took some bytes, and this holds of the bytes that were pending followed by them: of the bytes seen
pub record HasTaken (before : Window) (left now : Option (List ℕ)) (Outcome : List ℕ → Type 0) : Type 0 where
  pub taken : List ℕ
  pub from : TakenSoFar left now taken
  pub outcome : Outcome (before.pending ++ taken)

-- the front of the bytes seen was used up, and the rest of them is pending
pub record HasUsed (before after : Window) (front seen : List ℕ) : Type 0 where
  pub stands : seen ≡ front ++ after.pending
  pub place : after.used ≡ before.used + length front

-- some front of the bytes seen was used up
abbrev pub HasUsedSome : Window → Window → List ℕ → Type 0
HasUsedSome before after seen = (front : List ℕ) × HasUsed before after front seen

-- the count of faults rose with a read fault, and with no other answer
abbrev pub HasReadCause : {T : Type 0} → ℕ → ℕ → Result T ReadStop → Type 0
HasReadCause before now (Ok t) = now ≡ before
HasReadCause before now (Err ReadFault) = (before ≤ now) × Rose before now
HasReadCause before now (Err other) = now ≡ before

-- One byte more than the limit of an input was taken, and is lost. Of the bytes before it this holds, and a front of
-- them was used up.
pub record IsBeyond (before after : Window) (Within : List ℕ → Type 0) (seen : List ℕ) : Type 0 where
  pub front : List ℕ
  pub back : List ℕ
  pub stands : seen ≡ front ++ back
  pub full : before.used + length front ≡ INPUT_BYTES
  pub more : 0 < length back
  pub within : Within front
  pub kept : HasUsedSome before after front

-- THE STOP of a reading, by the bytes seen: the row of the table that holds at their front, whatever follows; or
-- nothing whole stands there and a byte came beyond the limit of an input, the input ended, or a call failed; or memory
-- was wanting. Of a refused line nothing was used up; of a put without its LF all that stands before the wrong byte.
abbrev pub IsStopped : Window → Window → Option (List ℕ) → ReadStop → List ℕ → Type 0
IsStopped before after left LongLine seen = IsEndless seen × HasUsed before after [] seen
IsStopped before after left NoForm seen =
    (h : IsFormless seen) × (length h.line ≤ LINE_BYTES) × HasUsed before after [] seen
IsStopped before after left LongText seen =
    (h : IsOversized FILE_BYTES seen) × (length (line_of h.command) ≤ LINE_BYTES) × HasUsed before after [] seen
IsStopped before after left NoLineFeed seen =
    (front : List ℕ) × IsUnclosed (length front) seen × HasUsed before after front seen
IsStopped before after left LongInput seen = IsBeyond before after IsUnfinished seen
IsStopped before after left CutShort seen = IsAtEnd left × IsUnfinished seen × (seen ≡ codes "end" → ⊥)
    × HasUsedSome before after seen
IsStopped before after left ReadFault seen = IsUnfinished seen × HasUsedSome before after seen
IsStopped before after left NoMemory seen = HasUsedSome before after seen

-- the command has a form, and its line and its number keep to their limits
pub record IsGood (c : Meant) : Type 0 where
  pub form : HasForm c
  pub short : length (line_of c) ≤ LINE_BYTES
  pub size : limit_passed c ≡ None

-- the command's spelling was used up; or the input ended at an `end` without its LF
abbrev pub IsRead : Window → Window → Option (List ℕ) → Meant → List ℕ → Type 0
IsRead before after left c seen = HasUsed before after (spelling_of c) seen
    ⊎ (IsAtEnd left × (c ≡ Meant.End) × (seen ≡ codes "end") × HasUsed before after seen seen)

-- THE NEXT STEP: the next command was read from the bytes seen, or the reading stopped
abbrev pub IsNext : Window → Window → Option (List ℕ) → Result Command ReadStop → List ℕ → Type 0
IsNext before after left (Ok c) seen = IsGood (command_of c) × IsRead before after left (command_of c) seen
IsNext before after left (Err stop) seen = IsStopped before after left stop seen

-- ---- the parts of a call

-- one take of the source
abbrev pub IsFilled : Window → Window → Option (List ℕ) → Result (Unit {0}) ReadStop → List ℕ → Type 0
IsFilled before after left (Ok u) seen =
    HasUsed before after [] seen × (length before.pending < length after.pending)
IsFilled before after left (Err LongInput) seen = (after ≡ before)
    × (before.used + length before.pending ≡ INPUT_BYTES) × (length before.pending < length seen)
IsFilled before after left (Err CutShort) seen = (after ≡ before) × (seen ≡ before.pending) × IsAtEnd left
IsFilled before after left (Err ReadFault) seen = (after ≡ before) × (seen ≡ before.pending)
IsFilled before after left (Err other) seen = ⊥

-- a whole line is pending, its LF at this place
pub record HasLine (n : ℕ) (bytes : List ℕ) : Type 0 where
  pub within : n < length bytes
  pub short : n ≤ LINE_BYTES
  pub free : IsMember (take n bytes) 10 → ⊥
  pub back : List ℕ
  pub stands : bytes ≡ take n bytes ++ 10 ∷ back

-- a whole line was awaited; nothing was used up
abbrev pub IsLined : Window → Window → Option (List ℕ) → Result ℕ ReadStop → List ℕ → Type 0
IsLined before after left (Ok n) seen = HasUsed before after [] seen × HasLine n seen
IsLined before after left (Err LongLine) seen = IsEndless seen × HasUsed before after [] seen
IsLined before after left (Err LongInput) seen = IsBeyond before after IsUnfinished seen
IsLined before after left (Err CutShort) seen =
    IsAtEnd left × IsUnfinished seen × HasUsed before after [] seen
IsLined before after left (Err ReadFault) seen = IsUnfinished seen × HasUsed before after [] seen
IsLined before after left (Err other) seen = ⊥

-- a line and its LF were used up, and say this
pub record HasHeading (before after : Window) (h : Heading) (seen : List ℕ) : Type 0 where
  pub line : List ℕ
  pub says : IsHeading line (Ok h)
  pub free : IsMember line 10 → ⊥
  pub short : length line ≤ LINE_BYTES
  pub used : HasUsed before after (line ++ codes "\n") seen

-- the next line was read, or the reading stopped
abbrev pub IsHeaded : Window → Window → Option (List ℕ) → Result Heading ReadStop → List ℕ → Type 0
IsHeaded before after left (Ok h) seen = HasHeading before after h seen
IsHeaded before after left (Err CutShort) seen =
    IsAtEnd left × IsUnfinished seen × HasUsed before after [] seen
IsHeaded before after left (Err other) seen = IsStopped before after left other seen

-- fewer bytes than a text and its LF, or as many
abbrev pub IsShort : ℕ → List ℕ → Type 0
IsShort count seen = length seen ≤ count

-- the first bytes hold no LF
abbrev pub IsFree : ℕ → List ℕ → Type 0
IsFree n bytes = IsMember (take n bytes) 10 → ⊥

-- where the line at the front of the bytes ends, if it does; or its first 2,049 bytes hold no LF
abbrev pub IsLineEnd : List ℕ → Result (Option ℕ) ReadStop → Type 0
IsLineEnd bytes (Ok (Some n)) = HasLine n bytes
IsLineEnd bytes (Ok None) = (IsMember bytes 10 → ⊥) × (length bytes ≤ LINE_BYTES)
IsLineEnd bytes (Err LongLine) = IsEndless bytes
IsLineEnd bytes (Err other) = ⊥

-- pending bytes moved to the end of a text, until it has so many or nothing is pending; or memory was wanting, and
-- nothing moved
abbrev pub HasMoved : Window → Window → List ℕ → List ℕ → ℕ → Result (Unit {0}) ReadStop → Type 0
HasMoved before after text more count (Ok u) = (part : List ℕ) × (more ≡ text ++ part) × (length more ≤ count)
    × HasUsed before after part before.pending × ((length more ≡ count) ⊎ (after.pending ≡ []))
HasMoved before after text more count (Err NoMemory) = after ≡ before
HasMoved before after text more count (Err other) = ⊥

-- the text, which has so many bytes, was read and used up; or the reading stopped before it was whole
abbrev pub IsText : ℕ → Window → Window → List ℕ → Option (List ℕ) → Result (Unit {0}) ReadStop → List ℕ → Type 0
IsText count before after text left (Ok u) seen = (length text ≡ count) × HasUsed before after text seen
IsText count before after text left (Err LongInput) seen = IsBeyond before after (IsShort count) seen
IsText count before after text left (Err CutShort) seen =
    IsAtEnd left × IsShort count seen × HasUsedSome before after seen
IsText count before after text left (Err ReadFault) seen = IsShort count seen × HasUsedSome before after seen
IsText count before after text left (Err NoMemory) seen = HasUsedSome before after seen
IsText count before after text left (Err other) seen = ⊥

-- a byte is pending, or the reading stopped since there is none
abbrev pub IsAwaited : Window → Window → Option (List ℕ) → Result (Unit {0}) ReadStop → List ℕ → Type 0
IsAwaited before after left (Ok u) seen = HasUsed before after [] seen × (0 < length after.pending)
IsAwaited before after left (Err LongInput) seen = IsBeyond before after (IsShort 0) seen
IsAwaited before after left (Err CutShort) seen = IsAtEnd left × IsShort 0 seen × HasUsedSome before after seen
IsAwaited before after left (Err ReadFault) seen = IsShort 0 seen × HasUsedSome before after seen
IsAwaited before after left (Err other) seen = ⊥

-- the next byte is another than LF
pub record IsOther (bytes : List ℕ) : Type 0 where
  pub next : ℕ
  pub back : List ℕ
  pub stands : bytes ≡ next ∷ back
  pub other : next ≡ 10 → ⊥

-- the next byte was LF and was used up, or it is another; or there is none
abbrev pub IsClosed : Window → Window → Option (List ℕ) → Result (Unit {0}) ReadStop → List ℕ → Type 0
IsClosed before after left (Ok u) seen = HasUsed before after (codes "\n") seen
IsClosed before after left (Err NoLineFeed) seen = IsOther after.pending × HasUsed before after [] seen
IsClosed before after left (Err other) seen = IsAwaited before after left (Err other) seen

-- the text of a put and its LF were used up; or another byte follows the text; or the reading stopped before
abbrev pub IsBody : ℕ → Window → Window → Option (List ℕ) → Result (List ℕ) ReadStop → List ℕ → Type 0
IsBody count before after left (Ok text) seen =
    (length text ≡ count) × HasUsed before after (text ++ codes "\n") seen
IsBody count before after left (Err NoLineFeed) seen =
    (text : List ℕ) × (length text ≡ count) × IsOther after.pending × HasUsed before after text seen
IsBody count before after left (Err other) seen = IsText count before after [] left (Err other) seen

-- `end` is pending without its LF, and was used up, or something else is
abbrev pub IsBareEnd : Window → Window → Result Command ReadStop → Type 0
IsBareEnd before after (Ok c) = (command_of c ≡ Meant.End) × (before.pending ≡ codes "end")
    × (after.pending ≡ []) × (after.used ≡ before.used + 3)
IsBareEnd before after (Err CutShort) = (after ≡ before) × (before.pending ≡ codes "end" → ⊥)
IsBareEnd before after (Err other) = ⊥
