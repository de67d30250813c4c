-- What reading a part begins with, by the node that ends it.
use Rattle.std.proofs.Common.{◌≡◌, ◌∙◌, ℕ, zero, suc, ◌-◌, ◌<◌, ◌≤◌, true, List, [], ◌∷◌, ◌++◌, refl, sym, ap, subst, arith, length, get_or}
use Rattle.std.specs.Prelude.{slice_get, Some, Result, Ok, Err, IfOk}
use Rattle.std.proofs.lemmas.Option.{slice_get_read}
use Rattle.element_store.specs.declared.expression.Node.{Node}
use Rattle.element_store.specs.declared.expression.Node.TheVariants as node
use Rattle.element_store.specs.declared.expression.UnaryOp.{UnaryOp}
use Rattle.element_store.specs.declared.expression.BinaryOp.{BinaryOp}
use Rattle.element_store.specs.Expressions.{is_whole}
use Rattle.demand_core.specs.Tables.{Decided}
use Rattle.value_model.specs.declared.values.ValueAnswer.{ValueAnswer}
use Rattle.value_model.specs.declared.values.ValueAnswer.TheVariants as answer
use Rattle.value_model.specs.declared.values.ValueKey.{ValueKey}
use Rattle.value_model.specs.declared.values.Value.TheVariants.{Integer, Boolean, Text, Null}
use Rattle.demand_core.specs.Computed.{world}
use Rattle.value_model.specs.Reading.{worth}
use Rattle.value_model.specs.Valuing.{nothing}
use Rattle.value_model.specs.Trees.{Tree, grown}
use Rattle.value_model.specs.Trees.Tree.{Number, Truth, Words, Nil, Name}
use Rattle.expr_reading.specs.declared.turns.Pending.{Pending}
use Rattle.expr_reading.specs.declared.turns.Pending.TheVariants.{Operand, First, Condition}
use Rattle.expr_reading.specs.declared.turns.Turn.{Turn}
use Rattle.expr_reading.specs.declared.turns.Turn.TheVariants.{Read, Have}
use Rattle.expr_reading.specs.Positions.{tree_before, AreBegins, begin_before}
use Rattle.expr_reading.specs.Sources.{Expression, worth_in}
use Rattle.expr_reading.specs.Turns.{literal_value, seen, told, EndsPart, ArePending, Turned, IsNamed}
use Rattle.expr_reading.proofs.PositionLaws.{whole_before, leaf_at, one_at, two_at, choice_at}
use Rattle.expr_reading.proofs.TurnLaws.{Looked, leaf_read, name_read, one_read, two_read, choice_read}

pub if_ok : {T E : Type 0} {P Q : T → Type 0} (r : Result T E) → IfOk r P → ((t : T) → P t → Q t) → IfOk r Q
if_ok (Ok t) h f = f t h
if_ok (Err e) h f = h

-- the node that ends a part
pub node_at : (given nodes : List Node) (end : ℕ) (x : Node) → given ≡ nodes → (0 < end) × (end ≤ length nodes) → x ≡ get_or given (end - 1) x
    → slice_get nodes (end - 1) ≡ Some x
node_at given nodes end x same part is =
    slice_get_read nodes (length nodes) (end - 1) x refl (omega arith) (is ∙ ap (λ ns. get_or ns (end - 1) x) same)

-- nothing is pending, and all is to be read
pub whole_told : (e : Expression) (s : Decided ValueKey ValueAnswer) (looks : Looked) (ps : List Pending) (end : ℕ) → ps ≡ [] → end ≡ length e.nodes
    → told e s looks ps (Read end) ≡ seen looks (worth_in e s)
whole_told e s looks ps end none all =
    ap (λ qs. told e s looks qs (Read end)) none
    ∙ ap (λ k. told e s looks [] (Read k)) all
    ∙ ap (λ t. seen looks (worth e.links e.library e.place t (world nothing s))) (whole_before e.nodes)

pub no_items : {A : Type 0} (xs : List A) → length xs ≡ 0 → xs ≡ []
no_items [] h = refl
no_items (x ∷ xs) h = absurd (omega arith)

module _ (e : Expression) (s : Decided ValueKey ValueAnswer) (begins : List ℕ) (looks : Looked) (fs : List Pending) (end : ℕ) where
  -- what is known where a part is read
  pub record IsReady : Type 0 where
    pub whole : is_whole e.nodes ≡ true
    pub begins_are : AreBegins e.nodes begins
    pub each : length begins ≡ length e.nodes
    pub pending : ArePending e fs
    pub part : EndsPart e end

  ends : (0 < end) × (end ≤ length e.nodes) → (t : Tree) → tree_before e.nodes (suc (end - 1)) ≡ t → tree_before e.nodes end ≡ t
  ends part t is = let at : end ≡ suc (end - 1) = omega arith in ap (tree_before e.nodes) at ∙ is

  leaf : IsReady → (x : Node) (t : Tree) → slice_get e.nodes (end - 1) ≡ Some x → ((ts : List Tree) → grown (end - 1) x ts ≡ t ∷ ts)
      → tree_before e.nodes end ≡ t
  leaf ready x t at is = ends ready.part t (leaf_at e.nodes (end - 1) x t at is).1

  pub literal_turn : IsReady → (x : Node) → slice_get e.nodes (end - 1) ≡ Some x → ((r : ℕ) → x ≡ node.Named r → ⊥)
      → ((op : UnaryOp) → x ≡ node.Unary op → ⊥) → ((op : BinaryOp) → x ≡ node.Binary op → ⊥) → (x ≡ node.If → ⊥)
      → Turned e s looks fs (Read end) looks fs (Have (literal_value x))
  literal_turn ready (node.Integer z) at named one two three =
      leaf_read e s looks fs end (Number z) (Integer z) ready.pending (leaf ready (node.Integer z) (Number z) at (λ ts. refl)) refl refl
  literal_turn ready (node.Boolean b) at named one two three =
      leaf_read e s looks fs end (Truth b) (Boolean b) ready.pending (leaf ready (node.Boolean b) (Truth b) at (λ ts. refl)) refl refl
  literal_turn ready (node.Text x) at named one two three =
      leaf_read e s looks fs end (Words x) (Text x) ready.pending (leaf ready (node.Text x) (Words x) at (λ ts. refl)) refl refl
  literal_turn ready node.Null at named one two three =
      leaf_read e s looks fs end Nil Null ready.pending (leaf ready node.Null Nil at (λ ts. refl)) refl refl
  literal_turn ready (node.Named r) at named one two three = absurd (named r refl)
  literal_turn ready (node.Unary op) at named one two three = absurd (one op refl)
  literal_turn ready (node.Binary op) at named one two three = absurd (two op refl)
  literal_turn ready node.If at named one two three = absurd (three refl)

  pub named_turn : IsReady → (r : ℕ) (more : Looked) (to : Turn) → slice_get e.nodes (end - 1) ≡ Some (node.Named r) → IsNamed e s r looks more to
      → Turned e s looks fs (Read end) more fs to
  named_turn ready r more to at named =
      name_read e s looks more fs end r to ready.pending (leaf ready (node.Named r) (Name r) at (λ ts. refl)) named

  pub unary_turn : IsReady → (op : UnaryOp) (now : List Pending) → slice_get e.nodes (end - 1) ≡ Some (node.Unary op) → now ≡ fs ++ Operand (end - 1) op ∷ []
      → Turned e s looks fs (Read end) looks now (Read (end - 1))
  unary_turn ready op now at is =
      let part = ready.part in
      let one = one_at e.nodes begins (end - 1) op ready.whole ready.begins_are (let each = ready.each in omega (arith, each, part)) at in
      subst (λ ps. Turned e s looks fs (Read end) looks ps (Read (end - 1))) (sym is)
      (one_read e s looks fs end (end - 1) op ready.pending (one.some, (omega (arith, part))) (omega (arith, part)) (ends part _ one.tree))

  pub second_some : IsReady → (op : BinaryOp) → slice_get e.nodes (end - 1) ≡ Some (node.Binary op) → 0 < begin_before begins (end - 1)
  second_some ready op at =
      let part = ready.part in
      (two_at e.nodes begins (end - 1) op ready.whole ready.begins_are (let each = ready.each in omega (arith, each, part)) at).first

  pub binary_turn : IsReady → (op : BinaryOp) (j : ℕ) (now : List Pending) → slice_get e.nodes (end - 1) ≡ Some (node.Binary op)
      → j ≡ begin_before begins (end - 1) → now ≡ fs ++ First (end - 1) op ∷ [] → Turned e s looks fs (Read end) looks now (Read j)
  binary_turn ready op j now at first is =
      let part = ready.part in
      let two = two_at e.nodes begins (end - 1) op ready.whole ready.begins_are (let each = ready.each in omega (arith, each, part)) at in
      let within = two.within in
      subst (λ ps. Turned e s looks fs (Read end) looks ps (Read j)) (sym is)
      (subst (λ k. Turned e s looks fs (Read end) looks (fs ++ First (end - 1) op ∷ []) (Read k)) (sym first)
      (two_read e s looks fs end (end - 1) (begin_before begins (end - 1)) op ready.pending (two.some, (omega (arith, part)))
      (two.first, (omega (arith, part, within))) (ends part _ two.tree)))

  pub if_some : IsReady → slice_get e.nodes (end - 1) ≡ Some node.If → 0 < begin_before begins (end - 1)
  if_some ready at =
      let part = ready.part in
      (choice_at e.nodes begins (end - 1) ready.whole ready.begins_are (let each = ready.each in omega (arith, each, part)) at).second

  pub if_turn : IsReady → (j i : ℕ) (now : List Pending) → slice_get e.nodes (end - 1) ≡ Some node.If → j ≡ begin_before begins (end - 1)
      → i ≡ begin_before begins j → now ≡ fs ++ Condition (end - 1) j ∷ [] → Turned e s looks fs (Read end) looks now (Read i)
  if_turn ready j i now at second first is =
      let part = ready.part in
      let choice = choice_at e.nodes begins (end - 1) ready.whole ready.begins_are (let each = ready.each in omega (arith, each, part)) at in
      let within = choice.within in
      let below = choice.below in
      let at_second = begin_before begins (end - 1) in
      let at_first = begin_before begins at_second in
      subst (λ ps. Turned e s looks fs (Read end) looks ps (Read i)) (sym is)
      (subst (λ k. Turned e s looks fs (Read end) looks (fs ++ Condition (end - 1) j ∷ []) (Read k)) (sym (first ∙ ap (begin_before begins) second))
      (subst (λ k. Turned e s looks fs (Read end) looks (fs ++ Condition (end - 1) k ∷ []) (Read at_first)) (sym second)
      (choice_read e s looks fs end (end - 1) at_second at_first ready.pending
      (choice.some, (omega (arith, part)), (choice.second, (omega (arith, part, within))))
      (choice.first, (omega (arith, part, within, below))) (ends part _ choice.tree))))
