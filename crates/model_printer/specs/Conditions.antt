-- What printing asks of a model: each value and each result spells an expression.
use Rattle.std.specs.Prelude.{◌≡◌, ◌⊎◌, ℕ, ◌<◌, ◌^◌, true, Option, Some, List, length, slice_get}
use Rattle.std.specs.List.{list_all}
use Rattle.element_store.specs.declared.numbers.FileNo.{FileNo}
use Rattle.element_store.specs.declared.outcome.Language.{Language}
use Rattle.element_store.specs.declared.records.Element.{Element}
use Rattle.element_store.specs.declared.expression.Node.{Node}
use Rattle.element_store.specs.Expressions.{names_in, names_of_bounds}
use Rattle.element_store.specs.Model.{Data}
use Rattle.element_store.specs.Condition.{has_reference, names_of}
use Rattle.text_model.specs.Profile.{InProfile}
use Rattle.print_model.specs.Spelt.{HasTree}

-- each value and each result of the model is an expression that can be printed
abbrev pub HasExpressions : Data → Type 0
HasExpressions d =
    (n : ℕ) (e : Element) (ns : List Node) → slice_get d.elements n ≡ Some e
    → (e.value ≡ Some ns) ⊎ (e.result ≡ Some ns) → HasTree d ns

-- the nodes spell an expression, and their names stand in the model
pub record IsExpression (d : Data) (ns : List Node) : Type 0 where
  pub tree : HasTree d ns
  pub names : list_all (has_reference d) (names_in ns) ≡ true

-- so do those of a value or a result, if there is one
abbrev pub IsExpressionIn : Data → Option (List Node) → Type 0
IsExpressionIn d o = (ns : List Node) → o ≡ Some ns → IsExpression d ns

-- the references that an element names stand in the model
pub record NamesStand (d : Data) (e : Element) : Type 0 where
  pub bounds : list_all (has_reference d) (names_of_bounds e.bounds) ≡ true
  pub value : list_all (has_reference d) (names_of e.value) ≡ true
  pub result : list_all (has_reference d) (names_of e.result) ≡ true

-- the model of a text within the profile is such a model
abbrev pub ProfileHasExpressions : Type 0
ProfileHasExpressions =
    (file : FileNo) (language : Language) (text : List ℕ) (d : Data) → length text < 2 ^ 32
    → InProfile file language text d → HasExpressions d
