-- A deciding expression is whole, and has few nodes.
use Rattle.std.proofs.Common.{◌≡◌, ◌∙◌, ℕ, zero, suc, ◌<◌, Bool, true, false, List, [], ◌∷◌, refl, sym, ap, subst, length, arith}
use Rattle.std.specs.Prelude.{◌^◌, slice_get, nat_lt, ◌&&◌, Option, None, Some}
use Rattle.std.specs.Option.{option_map_or, option_and_then}
use Rattle.std.proofs.lemmas.Bool.Decides.{nat_tests}
use Rattle.linker_base.proofs.Cases.{both_true}
use Rattle.element_store.specs.declared.expression.Node.{Node}
use Rattle.element_store.specs.declared.models.StoredFile.{StoredFile}
use Rattle.element_store.specs.declared.records.Element.{Element}
use Rattle.element_store.specs.declared.numbers.ElementNo.{ElementNo}
use Rattle.element_store.specs.Condition.{IsModel, is_few, has_whole, nodes_in}
use Rattle.element_store.specs.Expressions.{is_whole}
use Rattle.element_store.specs.Model.{Data, root_element}
use Rattle.element_store.specs.Readings.{expression_in}
use Rattle.element_store.specs.Stored.{AreFiles}
use Rattle.element_store.proofs.ModelLaws.{all_at, long_at}
use Rattle.link_model.specs.Outside.{model_in}

whole_of : (x : Element) (r : Bool) (nodes : List Node) → has_whole x ≡ true → expression_in r x ≡ Some nodes → is_whole nodes ≡ true
whole_of x false nodes h e =
    let both = both_true (option_map_or is_whole x.value true) (option_map_or is_whole x.result true) h in
    ap (λ o. option_map_or is_whole o true) (sym e) ∙ both.0
whole_of x true nodes h e =
    let both = both_true (option_map_or is_whole x.value true) (option_map_or is_whole x.result true) h in
    ap (λ o. option_map_or is_whole o true) (sym e) ∙ both.1

-- the expression of an element of a model
whole_in : (d : Data) (i : ℕ) (r : Bool) (nodes : List Node) (o : Option Element) → IsModel d → slice_get d.elements i ≡ o
    → option_and_then (expression_in r) o ≡ Some nodes → is_whole nodes ≡ true
whole_in d i r nodes None is at e = cc
whole_in d i r nodes (Some x) is at e = whole_of x r nodes (all_at has_whole i d.elements x is.expressions at) e

root_has_none : (i : ℕ) (r : Bool) (nodes : List Node) → option_and_then (expression_in r) (slice_get (root_element ∷ []) i) ≡ Some nodes → ⊥
root_has_none zero true nodes e = cc
root_has_none zero false nodes e = cc
root_has_none (suc i) r nodes e = cc

by_model : (f : ℕ) (files : List StoredFile) (i : ℕ) (r : Bool) (nodes : List Node) (s : StoredFile) (m : Option Data) → AreFiles files
    → slice_get files f ≡ Some s → s.model ≡ m → option_and_then (expression_in r) (slice_get (model_in (Some s)).elements i) ≡ Some nodes
    → (d : Data) × IsModel d × (option_and_then (expression_in r) (slice_get d.elements i) ≡ Some nodes)
by_model f files i r nodes s None are at is e =
    let h : option_and_then (expression_in r) (slice_get (root_element ∷ []) i) ≡ Some nodes = rw is at e in absurd (root_has_none i r nodes h)
by_model f files i r nodes s (Some d) are at is e =
    let h : option_and_then (expression_in r) (slice_get d.elements i) ≡ Some nodes = rw is at e in (d, (are.models f s d at is).1, h)

by_file : (f : ℕ) (files : List StoredFile) (i : ℕ) (r : Bool) (nodes : List Node) (o : Option StoredFile) → AreFiles files → slice_get files f ≡ o
    → option_and_then (expression_in r) (slice_get (model_in o).elements i) ≡ Some nodes
    → (d : Data) × IsModel d × (option_and_then (expression_in r) (slice_get d.elements i) ≡ Some nodes)
by_file f files i r nodes None are at e = absurd (root_has_none i r nodes e)
by_file f files i r nodes (Some s) are at e = by_model f files i r nodes s s.model are at refl e

pub whole_nodes : (files : List StoredFile) (f i : ℕ) (r : Bool) (nodes : List Node) → AreFiles files
    → option_and_then (expression_in r) (slice_get (model_in (slice_get files f)).elements i) ≡ Some nodes → is_whole nodes ≡ true
whole_nodes files f i r nodes are e =
    let found = by_file f files i r nodes (slice_get files f) are refl e in
    whole_in found.0 i r nodes (slice_get found.0.elements i) found.1 refl found.2

few_by : (n : ℕ) → is_few n ≡ true → n < 2 ^ 32
few_by n h = grind (arith, nat_tests)

few_of : (d : Data) (i : ℕ) (r : Bool) (nodes : List Node) (x : Element) → IsModel d → slice_get d.elements i ≡ Some x → expression_in r x ≡ Some nodes
    → length nodes < 2 ^ 32
few_of d i false nodes x is at e =
    let places = long_at length (λ (y : Element). nodes_in y.value) i d.value_places d.elements x is.places.values at in
    let long : length places.0 ≡ length nodes = places.2 ∙ ap nodes_in e in
    few_by (length nodes) (ap is_few (sym long) ∙ all_at (λ list. is_few (length list)) i d.value_places places.0 is.few.values places.1)
few_of d i true nodes x is at e =
    let places = long_at length (λ (y : Element). nodes_in y.result) i d.result_places d.elements x is.places.results at in
    let long : length places.0 ≡ length nodes = places.2 ∙ ap nodes_in e in
    few_by (length nodes) (ap is_few (sym long) ∙ all_at (λ list. is_few (length list)) i d.result_places places.0 is.few.results places.1)

few_in : (d : Data) (i : ℕ) (r : Bool) (nodes : List Node) (o : Option Element) → IsModel d → slice_get d.elements i ≡ o
    → option_and_then (expression_in r) o ≡ Some nodes → length nodes < 2 ^ 32
few_in d i r nodes None is at e = cc
few_in d i r nodes (Some x) is at e = few_of d i r nodes x is at e

pub few_nodes : (files : List StoredFile) (f i : ℕ) (r : Bool) (nodes : List Node) → AreFiles files
    → option_and_then (expression_in r) (slice_get (model_in (slice_get files f)).elements i) ≡ Some nodes → length nodes < 2 ^ 32
few_nodes files f i r nodes are e =
    let found = by_file f files i r nodes (slice_get files f) are refl e in
    few_in found.0 i r nodes (slice_get found.0.elements i) found.1 refl found.2
