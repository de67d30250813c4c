-- The least of the places at which a limit is passed.
use Rattle.std.specs.Prelude.{ℕ, min, max, Option, Some, None, List, [], ◌∷◌, ◌++◌}
use Rattle.text_model.specs.declared.draft.Draft.{Draft}
use Rattle.text_model.specs.Numbering.{deep_place}

-- the lesser of two places
abbrev pub lesser : Option ℕ → Option ℕ → Option ℕ
lesser None other = other
lesser (Some p) None = Some p
lesser (Some p) (Some q) = Some (min p q)

-- the greatest of as many depths as a node has operands, if there are so many, and the others: of one
abbrev pub top_one : List ℕ → ℕ × List ℕ
top_one [] = (0, [])
top_one (a ∷ ds) = (a, ds)

-- of two
abbrev pub top_two : List ℕ → ℕ × List ℕ
top_two (b ∷ a ∷ ds) = (max a b, ds)
top_two ds = (0, ds)

-- of three
abbrev pub top_three : List ℕ → ℕ × List ℕ
top_three (c ∷ b ∷ a ∷ ds) = (max a (max b c), ds)
top_three ds = (0, ds)

-- the places of the expressions of a draft that are too deep
abbrev pub deep_places : Draft → List ℕ
deep_places d = deep_place d.value ++ deep_place d.result
