-- The tree that a postfix list of nodes spells.
use Rattle.std.specs.Prelude.{◌≡◌, ◌⊎◌, ℕ, ◌<◌, ◌^◌, Some, pos, List, [], ◌∷◌, ◌++◌, length, slice_get}
use Rattle.element_store.specs.declared.numbers.FileNo.{FileNo}
use Rattle.element_store.specs.declared.outcome.Language.{Language}
use Rattle.element_store.specs.declared.records.Element.{Element}
use Rattle.element_store.specs.declared.expression.Node.{Node}
use Rattle.element_store.specs.declared.expression.Node.TheVariants as node
use Rattle.element_store.specs.Model.{Data}
use Rattle.text_model.specs.Profile.{InProfile}
use Rattle.print_model.specs.Trees.{Tree, Integer, Boolean, Text, Null, Named, Before, Between, Choice, IsPrintable}
use Rattle.print_model.specs.Heads.{path_at}

-- the nodes of a tree, where each name has the number of a reference with its path
abbrev pub IsSpelt : Data → List Node → Tree → Type 0
IsSpelt d ns (Integer n) = ns ≡ node.Integer (pos n) ∷ []
IsSpelt d ns (Boolean b) = ns ≡ node.Boolean b ∷ []
IsSpelt d ns (Text bytes) = ns ≡ node.Text bytes ∷ []
IsSpelt d ns Null = ns ≡ node.Null ∷ []
IsSpelt d ns (Named p) = (r : ℕ) × (ns ≡ node.Named r ∷ []) × (path_at d r ≡ p)
IsSpelt d ns (Before o a) = (xs : List Node) × IsSpelt d xs a × (ns ≡ xs ++ node.Unary o ∷ [])
IsSpelt d ns (Between o a b) =
    (xs : List Node) × (ys : List Node) × IsSpelt d xs a × IsSpelt d ys b × (ns ≡ xs ++ (ys ++ node.Binary o ∷ []))
IsSpelt d ns (Choice a b c) =
    (xs : List Node)
    × (ys : List Node)
    × (zs : List Node)
    × IsSpelt d xs a
    × IsSpelt d ys b
    × IsSpelt d zs c
    × (ns ≡ xs ++ (ys ++ (zs ++ node.If ∷ [])))

-- the nodes spell an expression that can be printed
abbrev pub HasTree : Data → List Node → Type 0
HasTree d ns = (t : Tree) × IsSpelt d ns t × IsPrintable t

-- so do those of each value and each result of a model that a text within the profile has
abbrev pub ExpressionsHaveTrees : Type 0
ExpressionsHaveTrees =
    (file : FileNo) (language : Language) (text : List ℕ) (d : Data) (n : ℕ) (e : Element) (ns : List Node)
    → length text < 2 ^ 32 → InProfile file language text d → slice_get d.elements n ≡ Some e
    → (e.value ≡ Some ns) ⊎ (e.result ≡ Some ns) → HasTree d ns
