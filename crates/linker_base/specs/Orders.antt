-- Lists in an order.
use Rattle.std.specs.Prelude.{List, [], ◌∷◌}
use Rattle.linker_base.specs.Members.{IsMember}

-- each item is related so to all items that stand after it
abbrev pub AreInOrder : {A : Type 0} → (A → A → Type 0) → List A → Type 0
AreInOrder R [] = Unit {0}
AreInOrder {A} R (x ∷ xs) = ((y : A) → IsMember xs y → R x y) × AreInOrder R xs
