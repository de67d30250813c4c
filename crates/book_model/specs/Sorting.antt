-- Lists sorted by a test that says whether the first of two items stands before the second.
use Rattle.std.specs.Prelude.{Bool, cond, List, [], ◌∷◌}

-- one item more takes its place before the first that doesn't stand before it
abbrev pub put_by : {A : Type 0} → (A → A → Bool) → A → List A → List A
put_by before x [] = x ∷ []
put_by before x (y ∷ ys) = cond (before y x) (y ∷ put_by before x ys) (x ∷ y ∷ ys)

-- all items, each in its place
abbrev pub sorted_by : {A : Type 0} → (A → A → Bool) → List A → List A
sorted_by before [] = []
sorted_by before (x ∷ xs) = put_by before x (sorted_by before xs)
