-- A worked example: brackets that match, Brackets = '(' Brackets ')' Brackets | nothing.
use Rattle.std.specs.Prelude.{true, [], ◌∷◌}
use Rattle.ll_core.specs.declared.grammar.Symbol.TheVariants.{Terminal, Inner}
use Rattle.ll_core.specs.Table.{Table}
use Rattle.ll_core.specs.Derives.{Forest, Nothing, Token, Node}

-- the terminal 0 opens a bracket, and 1 closes it
abbrev pub brackets : Table
brackets = record {
  start = 0;
  rules =
      (record { left = 0; right = Terminal 0 ∷ Inner 0 ∷ Terminal 1 ∷ Inner 0 ∷ [] })
      ∷ (record { left = 0; right = [] }) ∷ [];
  empty = true ∷ [];
  first = (0 ∷ []) ∷ [];
  follow = (1 ∷ 65535 ∷ []) ∷ [];
  height = 0 ∷ [];
  rank = 0 ∷ [];
  predictions = (
      (record { look = 0; production = 0 }) ∷ (record { look = 1; production = 1 })
      ∷ (record { look = 65535; production = 1 }) ∷ []
      ) ∷ [];
}

-- the tree of one pair of brackets
abbrev pub pair : Forest
pair = Node 0 (Token 0 (Node 1 Nothing (Token 1 (Node 1 Nothing Nothing)))) Nothing
