-- Made by `tools/make_table.py`: change tools/actions, not this file.
use Rattle.std.specs.Prelude.{List, [], ◌∷◌}
use Rattle.text_model.specs.declared.action.Meaning.{Meaning}
use Rattle.text_model.specs.declared.action.Meaning.TheVariants.{Absolute, Leaf, Nothing, Operator}
use Rattle.element_store.specs.declared.expression.BinaryOp.TheVariants as binary
use Rattle.text_model.specs.declared.action.Leaf.TheVariants as leaf
use Rattle.text_model.specs.declared.action.Operator.TheVariants as operator

-- what each means, by its number in its list
unfoldable pub sign_meanings : List Meaning
sign_meanings =
    Nothing ∷  -- {
    Nothing ∷  -- }
    Nothing ∷  -- [
    Nothing ∷  -- ]
    Nothing ∷  -- (
    Nothing ∷  -- )
    Operator (operator.Binary binary.Less) ∷  -- <
    Operator (operator.Binary binary.Greater) ∷  -- >
    Nothing ∷  -- ;
    Nothing ∷  -- ,
    Nothing ∷  -- .
    Nothing ∷  -- ..
    Nothing ∷  -- :
    Nothing ∷  -- ::
    Nothing ∷  -- :>
    Nothing ∷  -- :>>
    Nothing ∷  -- ::>
    Nothing ∷  -- =
    Operator (operator.Binary binary.Equal) ∷  -- ==
    Operator (operator.Binary binary.NotEqual) ∷  -- !=
    Nothing ∷  -- ===
    Nothing ∷  -- !==
    Operator (operator.Binary binary.AtMost) ∷  -- <=
    Operator (operator.Binary binary.AtLeast) ∷  -- >=
    Operator (operator.Binary binary.Add) ∷  -- +
    Operator (operator.Binary binary.Subtract) ∷  -- -
    Operator (operator.Binary binary.Multiply) ∷  -- *
    Leaf leaf.Deep ∷  -- **
    Operator (operator.Binary binary.Divide) ∷  -- /
    Operator (operator.Binary binary.Remainder) ∷  -- %
    Operator (operator.Binary binary.Amp) ∷  -- &
    Operator (operator.Binary binary.Bar) ∷  -- |
    Nothing ∷  -- ~
    Nothing ∷  -- ^
    Nothing ∷  -- @
    Nothing ∷  -- @@
    Nothing ∷  -- #
    Absolute ∷  -- $
    Nothing ∷  -- ?
    Nothing ∷  -- ??
    Nothing ∷  -- ->
    Nothing ∷  -- =>
    Nothing ∷  -- :=
    []
