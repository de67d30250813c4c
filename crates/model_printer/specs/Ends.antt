-- Ends behind the first, and the ends among items.
use Rattle.std.specs.Prelude.{ℕ, Option, Some, None, List, [], ◌∷◌, ◌++◌, codes}
use Rattle.element_store.specs.declared.lists.Item.{Item}
use Rattle.element_store.specs.Model.{Data}
use Rattle.element_store.specs.Numbers.{those_where}
use Rattle.print_model.specs.Printed.{Printed, sign}
use Rattle.print_model.specs.Heads.{element_at, end_tokens, is_end, item_elements}

-- ends, each behind a comma
abbrev pub more_ends : Data → List ℕ → List Printed
more_ends d [] = []
more_ends d (e ∷ es) = sign (codes ",") ∷ (end_tokens d e ++ more_ends d es)

-- the end that an item is, if it is one
abbrev pub ends_in : Data → Item → List ℕ
ends_in d i = those_where (λ c. is_end (element_at d c).kind) (item_elements d i)

-- the number as a list
abbrev pub in_option : Option ℕ → List ℕ
in_option None = []
in_option (Some n) = n ∷ []
