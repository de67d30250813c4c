-- An expression as the tree that its postfix list spells, and its printed tokens: brackets stand where the level asks
-- for them.
use Rattle.std.specs.Prelude.{◌≡◌, ℕ, suc, ◌<◌, ◌^◌, pos, ltb, Bool, true, false, List, [], ◌∷◌, ◌++◌, codes}
use Rattle.std.specs.Fmt.{decimal}
use Rattle.element_store.specs.declared.outcome.Language.{Language}
use Rattle.element_store.specs.declared.expression.UnaryOp.{UnaryOp}
use Rattle.element_store.specs.declared.expression.UnaryOp.TheVariants as unary
use Rattle.element_store.specs.declared.expression.BinaryOp.{BinaryOp}
use Rattle.element_store.specs.declared.expression.BinaryOp.TheVariants as binary
use Rattle.text_model.specs.declared.draft.Path.{Path}
use Rattle.text_model.specs.declared.draft.What.{What}
use Rattle.text_model.specs.declared.draft.What.TheVariants as what
use Rattle.print_model.specs.Printed.{Printed, sign, word, name, text, number, tightly}

-- the segments behind the first, each behind its sign
abbrev pub behind : Language → List ℕ → List (List ℕ) → List Printed
behind language mark [] = []
behind language mark (s ∷ ss) = sign mark ∷ name language s ∷ behind language mark ss

-- the segments of a path
abbrev pub headed : Language → List (List ℕ) → List Printed
headed language [] = []
headed language (s ∷ ss) = name language s ∷ behind language (codes "::") ss

-- what begins an absolute name
abbrev pub rooted : Bool → List Printed
rooted true = sign (codes "$") ∷ sign (codes "::") ∷ []
rooted false = []

-- a qualified name or chain
abbrev pub named : Language → Path → List Printed
named language p = rooted p.absolute ++ (headed language p.path ++ behind language (codes ".") p.chain)

-- an expression
pub data Tree : Type 0 where
  Integer : (n : ℕ) → Tree
  Boolean : (b : Bool) → Tree
  Text : (bytes : List ℕ) → Tree
  Null : Tree
  Named : (p : Path) → Tree
  Before : (o : UnaryOp) (a : Tree) → Tree
  Between : (o : BinaryOp) (a b : Tree) → Tree
  Choice : (a b c : Tree) → Tree

-- the nodes in postfix order; the tree is the one that they spell
abbrev pub postfix : Tree → List What
postfix (Integer n) = what.Integer (pos n) ∷ []
postfix (Boolean b) = what.Boolean b ∷ []
postfix (Text bytes) = what.Text bytes ∷ []
postfix Null = what.Null ∷ []
postfix (Named p) = what.Named p ∷ []
postfix (Before o a) = postfix a ++ what.Unary o ∷ []
postfix (Between o a b) = postfix a ++ (postfix b ++ what.Binary o ∷ [])
postfix (Choice a b c) = postfix a ++ (postfix b ++ (postfix c ++ what.If ∷ []))

-- from loose to tight
abbrev pub level_between : BinaryOp → ℕ
level_between binary.Implies = 1
level_between binary.Or = 2
level_between binary.Bar = 2
level_between binary.Xor = 3
level_between binary.And = 4
level_between binary.Amp = 4
level_between binary.Equal = 5
level_between binary.NotEqual = 5
level_between binary.Less = 6
level_between binary.Greater = 6
level_between binary.AtMost = 6
level_between binary.AtLeast = 6
level_between binary.Add = 7
level_between binary.Subtract = 7
level_between binary.Multiply = 8
level_between binary.Divide = 8
level_between binary.Remainder = 8

-- the level of an expression: that of its outermost operator
abbrev pub level : Tree → ℕ
level (Choice a b c) = 0
level (Between o a b) = level_between o
level (Before o a) = 9
level other = 10

-- the token of an operator between two operands
abbrev pub token_between : Language → BinaryOp → Printed
token_between language binary.Implies = word language (codes "implies")
token_between language binary.Or = word language (codes "or")
token_between language binary.Bar = sign (codes "|")
token_between language binary.Xor = word language (codes "xor")
token_between language binary.And = word language (codes "and")
token_between language binary.Amp = sign (codes "&")
token_between language binary.Equal = sign (codes "==")
token_between language binary.NotEqual = sign (codes "!=")
token_between language binary.Less = sign (codes "<")
token_between language binary.Greater = sign (codes ">")
token_between language binary.AtMost = sign (codes "<=")
token_between language binary.AtLeast = sign (codes ">=")
token_between language binary.Add = sign (codes "+")
token_between language binary.Subtract = sign (codes "-")
token_between language binary.Multiply = sign (codes "*")
token_between language binary.Divide = sign (codes "/")
token_between language binary.Remainder = sign (codes "%")

-- the token of an operator before its operand
abbrev pub token_before : Language → UnaryOp → Printed
token_before language unary.Minus = tightly (sign (codes "-"))
token_before language unary.Plus = tightly (sign (codes "+"))
token_before language unary.Not = word language (codes "not")

-- `true` and `false`
abbrev pub boolean : Language → Bool → Printed
boolean language true = word language (codes "true")
boolean language false = word language (codes "false")

-- in brackets, or not
abbrev pub within : Bool → List Printed → List Printed
within true ps = sign (codes "(") ∷ (ps ++ sign (codes ")") ∷ [])
within false ps = ps

-- the tokens of an expression; a part that is looser than its place asks for stands in brackets
abbrev pub printed : Language → Tree → List Printed
printed language (Integer n) = number (decimal n) ∷ []
printed language (Boolean b) = boolean language b ∷ []
printed language (Text bytes) = text bytes ∷ []
printed language Null = word language (codes "null") ∷ []
printed language (Named p) = named language p
printed language (Before o a) = token_before language o ∷ within (ltb (level a) 9) (printed language a)
printed language (Between o a b) =
    within (ltb (level a) (level_between o)) (printed language a)
    ++ (token_between language o ∷ within (ltb (level b) (suc (level_between o))) (printed language b))
printed language (Choice a b c) =
    word language (codes "if") ∷ (printed language a
    ++ (sign (codes "?") ∷ (printed language b ++ (word language (codes "else") ∷ printed language c))))

-- its integers are values, and its names have segments
abbrev pub IsPrintable : Tree → Type 0
IsPrintable (Integer n) = n < 2 ^ 63
IsPrintable (Boolean b) = Unit {0}
IsPrintable (Text bytes) = Unit {0}
IsPrintable Null = Unit {0}
IsPrintable (Named p) = p.path ≡ [] → ⊥
IsPrintable (Before o a) = IsPrintable a
IsPrintable (Between o a b) = IsPrintable a × IsPrintable b
IsPrintable (Choice a b c) = IsPrintable a × IsPrintable b × IsPrintable c
