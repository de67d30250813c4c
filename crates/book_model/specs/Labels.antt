-- The label of an element: its path from below the root of its file, joined by `::`.
use Rattle.std.specs.Prelude.{ℕ, zero, suc, List, [], ◌∷◌, ◌++◌, length, codes, slice_get, Option, Some, None}
use Rattle.std.specs.Fmt.{decimal}
use Rattle.std.specs.Option.{option_map_or}
use Rattle.element_store.specs.declared.outcome.Language.{Language}
use Rattle.element_store.specs.declared.records.Element.{Element}
use Rattle.element_store.specs.Model.{Data}
use Rattle.element_store.specs.BaseRules.{first_of}
use Rattle.token_core.specs.Spelling.{name_spelling}
use Rattle.book_model.specs.Spelling.{joined}

-- an element's own part: its declared name as it is spelt, or else its declared short name, or else `#` and its number
abbrev pub own_part : Language → ℕ → Element → List ℕ
own_part language number e =
    option_map_or (name_spelling language) (first_of e.name e.short) (codes "#" ++ decimal number)

-- the parts of an element under its owner: the owner's, and then its own; the root, which has no owner, has none
abbrev pub parts_under : (ℕ → List (List ℕ)) → List ℕ → Option ℕ → List (List ℕ)
parts_under parts own None = []
parts_under parts own (Some owner) = parts owner ++ own ∷ []

-- those of an element that stands there
abbrev pub parts_by : (ℕ → List (List ℕ)) → Language → ℕ → Option Element → List (List ℕ)
parts_by parts language number None = []
parts_by parts language number (Some e) = parts_under parts (own_part language number e) e.owner

-- Owners stand before what they own, so no path is longer than the elements are many.
abbrev pub parts_within : Data → ℕ → ℕ → List (List ℕ)
parts_within d zero e = []
parts_within d (suc steps) e = parts_by (parts_within d steps) d.language e (slice_get d.elements e)

-- the parts of the path of an element
abbrev pub parts_of : Data → ℕ → List (List ℕ)
parts_of d e = parts_within d (length d.elements) e

-- THE LABEL of the element with that number
abbrev pub label_of : Data → ℕ → List ℕ
label_of d e = joined (codes "::") (parts_of d e)
