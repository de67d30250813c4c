-- The values and results of a model that a text has spell trees that can be printed.
use Rattle.std.proofs.Common.{◌≡◌, inl, inr, ℕ, zero, suc, ◌+◌, ◌<◌, ◌^◌, true, List, [], ◌∷◌, ◌++◌, length, ap, sym, subst, ◌∙◌, ◌⊎◌, arith}
use Rattle.std.specs.Prelude.{Option, Some, None, nat_lt, nat_le, pos, slice_get, slice_index_or}
use Rattle.std.specs.List.{list_all}
use Rattle.std.specs.Option.{option_map_or}
use Rattle.std.proofs.lemmas.Bool.Decides.{nat_tests}
use Rattle.std.proofs.lemmas.Option.{slice_get-get_or}
use Rattle.std.proofs.lemmas.List.Folds.{list_all-append}
use Rattle.linker_base.proofs.Cases.{both_true}
use Rattle.element_store.specs.declared.records.Element.{Element}
use Rattle.element_store.specs.declared.records.Reference.{Reference}
use Rattle.element_store.specs.declared.expression.Node.{Node}
use Rattle.element_store.specs.declared.expression.Node.TheVariants as node
use Rattle.element_store.specs.Expressions.{names_in, names_of_bounds, is_whole}
use Rattle.element_store.specs.Model.{Data}
use Rattle.element_store.specs.Condition.{IsModel, has_reference, has_path, has_whole, names_of, element_stands, is_few}
use Rattle.element_store.proofs.ModelLaws.{all_at}
use Rattle.text_model.specs.declared.action.Action.TheVariants.{Group}
use Rattle.text_model.specs.declared.draft.What.{What}
use Rattle.text_model.specs.declared.draft.What.TheVariants as what
use Rattle.text_model.specs.declared.draft.DraftExpr.{DraftExpr}
use Rattle.text_model.specs.declared.draft.DraftNode.{DraftNode}
use Rattle.text_model.specs.declared.draft.Draft.{Draft}
use Rattle.text_model.specs.Tables.{tables}
use Rattle.text_model.specs.Numbering.{element, elements_from, node_of, after_node, numbered, numbered_in, nodes_of, width}
use Rattle.text_model.specs.Profile.{drafts_of, start}
use Rattle.text_laws.specs.Fits.{Every}
use Rattle.text_laws.proofs.BuiltModel.{built_is_model}
use Rattle.print_model.specs.Heads.{no_reference, path_at}
use Rattle.print_model.specs.Spelt.{HasTree, ExpressionsHaveTrees}
use Rattle.print_model.proofs.SpeltTrees.{IsGood, whole_tree}
use Rattle.print_model.proofs.ValueNodes.{IsValue, AreValues, HasValues, AllValues, walk_values}

-- an integer is a value
abbrev IsInteger : Node → Type 0
IsInteger (node.Integer i) = (n : ℕ) × (i ≡ pos n) × (n < 2 ^ 63)
IsInteger other = Unit {0}

abbrev AreIntegers : Option (List Node) → Type 0
AreIntegers None = Unit {0}
AreIntegers (Some ns) = Every IsInteger ns

node_integer : (n : ℕ) (w : What) → IsValue w → IsInteger (node_of n w)
node_integer n (what.Integer i) h = h
node_integer n (what.Boolean b) h = tt
node_integer n (what.Text bytes) h = tt
node_integer n (what.Named p) h = tt
node_integer n (what.Unary o) h = tt
node_integer n (what.Binary o) h = tt
node_integer n what.If h = tt
node_integer n other h = tt

numbered_integers : (n : ℕ) (ns : List DraftNode) → AreValues ns → Every IsInteger (numbered n ns)
numbered_integers n [] h = tt
numbered_integers n (d ∷ ds) h = (node_integer n d.what h.0, numbered_integers (after_node n d.what) ds h.1)

nodes_integers : (n : ℕ) (e : Option DraftExpr) → AreValues (nodes_of e) → AreIntegers (numbered_in n e)
nodes_integers n None h = tt
nodes_integers n (Some e) h = numbered_integers n e.nodes h

record HoldsIntegers (e : Element) : Type 0 where
  pub value : AreIntegers e.value
  pub result : AreIntegers e.result

element_integers : (n k : ℕ) (ds : List Draft) (e : Element) → Every HasValues ds → slice_get (elements_from n ds) k ≡ Some e → HoldsIntegers e
element_integers n k [] e h at = cc
element_integers n zero (d ∷ ds) e h at =
    subst HoldsIntegers (some_is (element n d) e at)
    (record { value = nodes_integers _ d.value h.0.value; result = nodes_integers _ d.result h.0.result })
  where
    some_is : (a b : Element) → Some a ≡ Some b → a ≡ b
    some_is a b q = cc
element_integers n (suc k) (d ∷ ds) e h at = element_integers (n + width d) k ds e h.1 at

good_nodes : (d : Data) (ns : List Node) → Every IsInteger ns → list_all (has_reference d) (names_in ns) ≡ true
    → ((r : ℕ) → has_reference d r ≡ true → (path_at d r).path ≡ [] → ⊥) → Every (IsGood d) ns
good_nodes d [] h e named = tt
good_nodes d (node.Integer i ∷ ns) h e named = (h.0, good_nodes d ns h.1 e named)
good_nodes d (node.Boolean b ∷ ns) h e named = (tt, good_nodes d ns h.1 e named)
good_nodes d (node.Text bytes ∷ ns) h e named = (tt, good_nodes d ns h.1 e named)
good_nodes d (node.Null ∷ ns) h e named = (tt, good_nodes d ns h.1 e named)
good_nodes d (node.Unary o ∷ ns) h e named = (tt, good_nodes d ns h.1 e named)
good_nodes d (node.Binary o ∷ ns) h e named = (tt, good_nodes d ns h.1 e named)
good_nodes d (node.If ∷ ns) h e named = (tt, good_nodes d ns h.1 e named)
good_nodes d (node.Named r ∷ ns) h e named =
    let b = both_true (has_reference d r) (list_all (has_reference d) (names_in ns)) e in
    (named r b.0, good_nodes d ns h.1 b.1 named)

-- each reference of a model has a segment
pub named_has : (d : Data) → IsModel d → (r : ℕ) → has_reference d r ≡ true → (path_at d r).path ≡ [] → ⊥
named_has d m r within none =
    empty (slice_index_or d.references r no_reference)
    (all_at has_path r d.references (slice_index_or d.references r no_reference) m.paths
    (slice_get-get_or d.references r no_reference (below r (length d.references) within))) none
  where
    below : (a b : ℕ) → nat_lt a b ≡ true → a < b
    below a b e = grind (arith, nat_tests)

    has_none : (xs : List (List ℕ)) → xs ≡ [] → nat_le 1 (length xs) ≡ true → ⊥
    has_none [] e h = cc
    has_none (x ∷ xs) e h = cc

    empty : (x : Reference) → has_path x ≡ true → x.path ≡ [] → ⊥
    empty x h e =
        let f = (both_true (nat_le 1 (length x.path)) (is_few (length x.path + length x.chain)) h).0 in
        absurd (has_none x.path e f)

-- of a model whose integers are values
tree_of : (d : Data) (n : ℕ) (e : Element) (ns : List Node) → IsModel d → HoldsIntegers e → slice_get d.elements n ≡ Some e
    → (e.value ≡ Some ns) ⊎ (e.result ≡ Some ns) → HasTree d ns
tree_of d n e ns m h at o =
    let stands = both_true _ _ (all_at (element_stands d) n d.elements e m.ranges.elements at) in
    let both = both_true _ _ (sym (list_all-append (has_reference d) (names_of_bounds e.bounds) (names_of e.value ++ names_of e.result)) ∙ stands.1) in
    let named = both_true _ _ (sym (list_all-append (has_reference d) (names_of e.value) (names_of e.result)) ∙ both.1) in
    let whole = both_true _ _ (all_at has_whole n d.elements e m.expressions at) in
    by_side d ns m e.value e.result h.value h.result named.0 named.1 whole.0 whole.1 o
  where
    same : (xs ys : List Node) → Some xs ≡ Some ys → xs ≡ ys
    same xs ys q = cc

    one : (d : Data) (ns : List Node) (m : IsModel d) (x : Option (List Node)) → AreIntegers x → list_all (has_reference d) (names_of x) ≡ true
        → option_map_or is_whole x true ≡ true → x ≡ Some ns → HasTree d ns
    one d ns m None h s k q = cc
    one d ns m (Some ms) h s k q = subst (HasTree d) (same ms ns q) (whole_tree d ms (good_nodes d ms h s (named_has d m)) k)

    by_side : (d : Data) (ns : List Node) (m : IsModel d) (x y : Option (List Node)) → AreIntegers x → AreIntegers y
        → list_all (has_reference d) (names_of x) ≡ true → list_all (has_reference d) (names_of y) ≡ true
        → option_map_or is_whole x true ≡ true → option_map_or is_whole y true ≡ true → (x ≡ Some ns) ⊎ (y ≡ Some ns) → HasTree d ns
    by_side d ns m x y h k a b p q (inl e) = one d ns m x h a p e
    by_side d ns m x y h k a b p q (inr e) = one d ns m y k b q e

-- and of a text within the profile
pub expressions_have_trees : ExpressionsHaveTrees
expressions_have_trees file language text d n e ns short p at o =
    let w = drafts_of language text p.tokens p.tree in
    let begun : AllValues (start p.tokens) = record { drafts = (record { value = tt; result = tt }, tt); reading = tt } in
    let values = walk_values (tables language) text Group p.tree (start p.tokens) begun in
    tree_of d n e ns (subst IsModel (sym p.model) (built_is_model file language text p.tokens p.tree short p.read p.within))
    (element_integers 0 n w.elements e values.drafts (ap (λ (m : Data). slice_get m.elements n) (sym p.model) ∙ at)) at o
