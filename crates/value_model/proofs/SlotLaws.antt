-- Going through a postfix list gives what its tree gives. A whole list spells one tree.
use Rattle.std.proofs.Common.{◌≡◌, ◌∙◌, ℕ, zero, suc, true, false, List, [], ◌∷◌, refl, sym, ap, inl, inr}
use Rattle.std.specs.Prelude.{map, length, Option, None, Some}
use Rattle.linker_base.proofs.Cases.{option_cases}
use Rattle.element_store.specs.declared.expression.Node.{Node}
use Rattle.element_store.specs.declared.expression.Node.TheVariants as node
use Rattle.element_store.specs.Expressions.{stand_after, stand, is_one, is_whole}
use Rattle.demand_core.specs.Computation.{World, done, then_step, ◌>>=◌}
use Rattle.link_model.specs.Outside.{Library}
use Rattle.link_model.specs.Readers.{LinkWorld}
use Rattle.value_model.specs.declared.values.NoFact.{NoFact}
use Rattle.value_model.specs.declared.values.Spot.{Spot}
use Rattle.value_model.specs.declared.values.Value.{Value}
use Rattle.value_model.specs.declared.values.Value.TheVariants.{Integer, Boolean, Text, Enumerated, Null}
use Rattle.value_model.specs.declared.values.ValueAnswer.{ValueAnswer}
use Rattle.value_model.specs.declared.values.ValueAnswer.TheVariants as answer
use Rattle.value_model.specs.declared.values.ValueKey.{ValueKey}
use Rattle.value_model.specs.Trees.{Tree, grown, trees_from, tree}
use Rattle.value_model.specs.Operators.{of_one, of_two, of_first}
use Rattle.value_model.specs.Reading.{Nothing, Reading, of_value, unless, chosen_by, Place, node_spot, worth}
use Rattle.value_model.specs.Slots.{Slot, given, passed_on, after, or_given, slot_of_if, slots_after, slots_from}

-- ONE TREE

node_count : (n : ℕ) (x : Node) (ts : List Tree) (m : ℕ) → stand_after x (length ts) ≡ Some m → length (grown n x ts) ≡ m
node_count n (node.Integer z) ts m e = cc
node_count n (node.Boolean b) ts m e = cc
node_count n (node.Text x) ts m e = cc
node_count n node.Null ts m e = cc
node_count n (node.Named r) ts m e = cc
node_count n (node.Unary op) [] m e = cc
node_count n (node.Unary op) (t ∷ ts) m e = cc
node_count n (node.Binary op) [] m e = cc
node_count n (node.Binary op) (t ∷ []) m e = cc
node_count n (node.Binary op) (u ∷ t ∷ ts) m e = cc
node_count n node.If [] m e = cc
node_count n node.If (t ∷ []) m e = cc
node_count n node.If (u ∷ t ∷ []) m e = cc
node_count n node.If (v ∷ u ∷ t ∷ ts) m e = cc

stand_none : (xs : List Node) → stand xs None ≡ None
stand_none [] = refl
stand_none (x ∷ xs) = refl

tree_count : (n : ℕ) (xs : List Node) (ts : List Tree) (m : ℕ) → stand xs (Some (length ts)) ≡ Some m → length (trees_from n xs ts) ≡ m
tree_count n [] ts m e = cc
tree_count n (x ∷ xs) ts m e = elim (option_cases (stand_after x (length ts))) [
  | inl none ↦ let h : None ≡ Some m = sym (stand_none xs) ∙ (ap (stand xs) (sym none) ∙ e) in cc
  | inr k ↦ tree_count (suc n) xs (grown n x ts) m (ap (λ j. stand xs (Some j)) (node_count n x ts k.0 k.1) ∙ (ap (stand xs) (sym k.1) ∙ e))
]

one_of : (o : Option ℕ) → is_one o ≡ true → o ≡ Some 1
one_of None h = cc
one_of (Some zero) h = cc
one_of (Some (suc zero)) h = refl
one_of (Some (suc (suc n))) h = cc

only_tree : (ts : List Tree) → length ts ≡ 1 → (t : Tree) × (ts ≡ t ∷ [])
only_tree [] e = cc
only_tree (t ∷ []) e = (t, refl)
only_tree (t ∷ u ∷ ts) e = cc

-- a whole list of nodes spells one tree
pub whole_tree : (xs : List Node) → is_whole xs ≡ true → trees_from 0 xs [] ≡ tree xs ∷ []
whole_tree xs h =
    let one = only_tree (trees_from 0 xs []) (tree_count 0 xs [] 1 (one_of (stand xs (Some 0)) h)) in
    rw one.1 refl

-- SLOTS

module _ (w : LinkWorld) (lib : Library) (p : Place) (s : World ValueKey ValueAnswer NoFact Nothing) where
  slot_of : Tree → Slot
  slot_of t = worth w lib p t s

  after_is : (a : Slot) (f : Value → Reading ValueAnswer) (g : Value → Slot) → ((v : Value) → f v s ≡ g v) → then_step a (λ x. of_value f x s) a.step
      ≡ after a g
  after_is a f g h = λ i. then_step a (λ x. each x i) a.step
    where
      each : (x : ValueAnswer) → of_value f x s ≡ passed_on g x
      each (answer.Value v) = h v
      each (answer.Refused y) = refl

  unless_is : (c : Reading ValueAnswer) (b : Slot) (o : Option ValueAnswer) → c s ≡ b → unless c o s ≡ or_given b o
  unless_is c b None h = h
  unless_is c b (Some x) h = refl

  chosen_is : (at : Spot) (c d : Reading ValueAnswer) (v : Value) → chosen_by at c d v s ≡ slot_of_if at (c s) (d s) v
  chosen_is at c d (Boolean true) = refl
  chosen_is at c d (Boolean false) = refl
  chosen_is at c d (Integer z) = refl
  chosen_is at c d (Text x) = refl
  chosen_is at c d (Enumerated e) = refl
  chosen_is at c d Null = refl

  put_first : (a b : Slot) (ss : List Slot) → a ≡ b → a ∷ ss ≡ b ∷ ss
  put_first a b ss h = λ i. h i ∷ ss

  -- one node
  pub node_slots : (n : ℕ) (x : Node) (ts : List Tree) → map (λ t. worth w lib p t s) (grown n x ts)
      ≡ slots_after w lib p s n x (map (λ t. worth w lib p t s) ts)
  node_slots n (node.Integer z) ts = refl
  node_slots n (node.Boolean b) ts = refl
  node_slots n (node.Text x) ts = refl
  node_slots n node.Null ts = refl
  node_slots n (node.Named r) ts = refl
  node_slots n (node.Unary op) [] = refl
  node_slots n (node.Unary op) (t ∷ ts) = put_first _ _ (map (λ t. worth w lib p t s) ts)
      (after_is (worth w lib p t s) (λ a. done (of_one op (node_spot w p n) a)) (λ v. given (of_one op (node_spot w p n) v)) (λ v. refl))
  node_slots n (node.Binary op) [] = refl
  node_slots n (node.Binary op) (u ∷ []) = refl
  node_slots n (node.Binary op) (u ∷ t ∷ ts) = put_first _ _ (map (λ t. worth w lib p t s) ts)
      (after_is (worth w lib p t s) (λ a. unless (worth w lib p u >>= of_value (λ b. done (of_two op (node_spot w p n) a b))) (of_first op (node_spot w p n) a))
      (λ v. or_given (after (worth w lib p u s) (λ b. given (of_two op (node_spot w p n) v b))) (of_first op (node_spot w p n) v))
      (λ v. unless_is (worth w lib p u >>= of_value (λ b. done (of_two op (node_spot w p n) v b)))
      (after (worth w lib p u s) (λ b. given (of_two op (node_spot w p n) v b))) (of_first op (node_spot w p n) v)
      (after_is (worth w lib p u s) (λ b. done (of_two op (node_spot w p n) v b)) (λ b. given (of_two op (node_spot w p n) v b)) (λ b. refl))))
  node_slots n node.If [] = refl
  node_slots n node.If (v ∷ []) = refl
  node_slots n node.If (v ∷ u ∷ []) = refl
  node_slots n node.If (v ∷ u ∷ t ∷ ts) = put_first _ _ (map (λ t. worth w lib p t s) ts)
      (after_is (worth w lib p t s) (chosen_by (node_spot w p n) (worth w lib p u) (worth w lib p v))
      (slot_of_if (node_spot w p n) (worth w lib p u s) (worth w lib p v s))
      (chosen_is (node_spot w p n) (worth w lib p u) (worth w lib p v)))

  -- all nodes
  pub all_slots : (n : ℕ) (xs : List Node) (ts : List Tree) → map (λ t. worth w lib p t s) (trees_from n xs ts)
      ≡ slots_from w lib p s n xs (map (λ t. worth w lib p t s) ts)
  all_slots n [] ts = refl
  all_slots n (x ∷ xs) ts = all_slots (suc n) xs (grown n x ts) ∙ ap (slots_from w lib p s (suc n) xs) (node_slots n x ts)

  -- A WHOLE LIST leaves one slot, that of its tree
  pub whole_slots : (xs : List Node) → is_whole xs ≡ true → slots_from w lib p s 0 xs [] ≡ worth w lib p (tree xs) s ∷ []
  whole_slots xs h = sym (all_slots 0 xs []) ∙ ap (map (λ t. worth w lib p t s)) (whole_tree xs h)
