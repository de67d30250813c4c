-- How many nodes the value and the result of an element have.
use Rattle.std.proofs.Common.{◌≡◌, ℕ, List, length, true, false, ap, ◌∙◌}
use Rattle.std.specs.Prelude.{Some, slice_get}
use Rattle.std.specs.Option.{option_and_then}
use Rattle.element_store.specs.declared.expression.Node.{Node}
use Rattle.element_store.specs.declared.records.Element.{Element}
use Rattle.element_store.specs.Condition.{nodes_in}
use Rattle.element_store.specs.Model.{Data}
use Rattle.element_store.specs.Readings.{expression_in, nodes_of}

-- the value that the element has
pub value_has : (d : Data) (e : ℕ) (x : Element) (ns : List Node) → slice_get d.elements e ≡ Some x → x.value ≡ Some ns
    → nodes_of d false e ≡ length ns
value_has d e x ns stands is = ap (λ o. nodes_in (option_and_then (expression_in false) o)) stands ∙ ap nodes_in is

-- the result that the element has
pub result_has : (d : Data) (e : ℕ) (x : Element) (ns : List Node) → slice_get d.elements e ≡ Some x → x.result ≡ Some ns
    → nodes_of d true e ≡ length ns
result_has d e x ns stands is = ap (λ o. nodes_in (option_and_then (expression_in true) o)) stands ∙ ap nodes_in is
