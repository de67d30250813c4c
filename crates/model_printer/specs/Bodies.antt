-- What is left to write of a model: bodies that are open, each at its next item.
use Rattle.std.specs.Prelude.{◌≡◌, ℕ, zero, suc, ◌+◌, ◌-◌, ◌*◌, ◌<◌, ◌≤◌, Bool, true, not, ◌||◌, is_some, List, [], ◌∷◌, ◌++◌, length, drop, codes}
use Rattle.std.specs.List.{flat_map, list_any}
use Rattle.element_store.specs.declared.kind.Visibility.{Visibility}
use Rattle.element_store.specs.declared.records.Target.{Target}
use Rattle.element_store.specs.declared.records.Target.TheVariants as target
use Rattle.element_store.specs.declared.lists.Item.{Item}
use Rattle.element_store.specs.declared.lists.Item.TheVariants as item
use Rattle.element_store.specs.Model.{Data}
use Rattle.print_model.specs.Printed.{sign}
use Rattle.print_model.specs.Layout.{Line, text_of}
use Rattle.print_model.specs.Heads.{body_lines, element_at, element_lines, is_end, item_lines, items_at, line, member_at, result_lines}
use Rattle.model_printer.specs.declared.bodies.OpenBody.{OpenBody}
use Rattle.model_printer.specs.Sheets.{Sheet}

-- the lines of a body
unfoldable pub lines_at : Data → ℕ → ℕ → List Line
lines_at d level e = body_lines (suc (length d.elements)) d level e

-- whether a member has a line: an end has none
abbrev pub target_has_line : Data → Target → Bool
target_has_line d (target.Owned c) = not (is_end (element_at d c).kind)
target_has_line d (target.Alias r) = true

-- whether an item has a line
abbrev pub has_line : Data → Item → Bool
has_line d (item.Member m) = target_has_line d (member_at d m).target
has_line d (item.Import i) = true

-- whether a body has a line
abbrev pub has_lines : Data → ℕ → Bool
has_lines d e = list_any (has_line d) (items_at d e) || is_some (element_at d e).result

-- the line that closes a body within others
abbrev pub closing : ℕ → List Line
closing zero = []
closing (suc level) = line level (sign (codes "}") ∷ []) ∷ []

-- lines were written
abbrev pub AreWritten : List Line → Sheet → Sheet → Type 0
AreWritten ls s t = t.bytes ≡ s.bytes ++ text_of ls

module _ (d : Data) where
  -- the items of a body that are left
  abbrev pub items_left : OpenBody → List Item
  items_left b = drop b.next (items_at d b.element)

  -- the lines of a body that are left, without the one that closes it
  abbrev pub body_left : ℕ → OpenBody → List Line
  body_left level b =
      flat_map (item_lines (lines_at d) d level) (items_left b) ++ result_lines d level (element_at d b.element).result

  -- the lines that are left, where the innermost body comes first
  abbrev pub lines_left : List OpenBody → List Line
  lines_left [] = []
  lines_left (b ∷ bs) = body_left (length bs) b ++ (closing (length bs) ++ lines_left bs)

  -- the items that are left, and the bodies
  abbrev pub count_left : List OpenBody → ℕ
  count_left [] = 0
  count_left (b ∷ bs) = (1 + length (items_left b)) + count_left bs

  -- at most how many turns are left: a body has fewer than 2^32 items
  abbrev pub turns_left : List OpenBody → ℕ
  turns_left bs = 4294967296 * length (lines_left bs) + count_left bs

  -- the elements of the bodies stand in the model
  abbrev pub AreOpen : List OpenBody → Type 0
  AreOpen [] = Unit {0}
  AreOpen (b ∷ bs) = (b.element < length d.elements) × AreOpen bs

  -- lines are written or left, in few turns
  pub record AreBegun (ls : List Line) (s t : Sheet) (before after : List OpenBody) : Type 0 where
    pub same : s.bytes ++ text_of (ls ++ lines_left before) ≡ t.bytes ++ text_of (lines_left after)
    pub less : turns_left after ≤ 4294967296 * length ls + turns_left before
    pub stand : AreOpen after

  -- the level of the items of the innermost body
  abbrev pub level_in : List OpenBody → ℕ
  level_in bs = length bs - 1

  -- those of an element
  abbrev pub IsElementWritten : Visibility → ℕ → Sheet → Sheet → List OpenBody → List OpenBody → Type 0
  IsElementWritten v c s t before after = AreBegun (element_lines (lines_at d) d (level_in before) v c) s t before after

  -- those of an item
  abbrev pub IsItemWritten : Item → Sheet → Sheet → List OpenBody → List OpenBody → Type 0
  IsItemWritten i s t before after = AreBegun (item_lines (lines_at d) d (level_in before) i) s t before after

  -- ONE TURN: what is written and what is left stay together, and fewer turns are left
  pub record IsMoved (s t : Sheet) (before after : List OpenBody) : Type 0 where
    pub same : s.bytes ++ text_of (lines_left before) ≡ t.bytes ++ text_of (lines_left after)
    pub less : turns_left after < turns_left before
    pub stand : AreOpen after
