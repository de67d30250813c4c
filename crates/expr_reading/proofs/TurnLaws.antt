-- A turn changes nothing of what the whole expression gives.
use Rattle.std.proofs.Common.{◌≡◌, ◌∙◌, ℕ, zero, suc, ◌+◌, ◌<◌, ◌≤◌, true, false, List, [], ◌∷◌, ◌++◌, refl, sym, ap, subst, arith, length, append_assoc, append-nil, inl, inr}
use Rattle.std.specs.Prelude.{slice_get, Option, None, Some}
use Rattle.linker_base.specs.Members.{IsMember}
use Rattle.element_store.specs.declared.expression.Node.{Node}
use Rattle.element_store.specs.declared.expression.Node.TheVariants as node
use Rattle.element_store.specs.declared.expression.UnaryOp.{UnaryOp}
use Rattle.element_store.specs.declared.expression.BinaryOp.{BinaryOp}
use Rattle.element_store.specs.Expressions.{names_in}
use Rattle.demand_core.specs.Tables.{Decided}
use Rattle.demand_core.specs.Computed.{world}
use Rattle.demand_core.specs.Computation.{World, done, then_step, ◌>>=◌}
use Rattle.demand_core.specs.declared.looks.Fact.{Fact}
use Rattle.demand_core.specs.declared.looks.Fact.TheVariants.{Key}
use Rattle.demand_core.specs.declared.step.Step.{Step}
use Rattle.demand_core.specs.declared.step.Step.TheVariants.{Done, Waits}
use Rattle.value_model.specs.declared.values.NoFact.{NoFact}
use Rattle.value_model.specs.declared.values.Spot.{Spot}
use Rattle.value_model.specs.declared.values.Value.{Value}
use Rattle.value_model.specs.declared.values.Value.TheVariants.{Integer, Boolean, Text, Enumerated, Null}
use Rattle.value_model.specs.declared.values.ValueAnswer.{ValueAnswer}
use Rattle.value_model.specs.declared.values.ValueAnswer.TheVariants as answer
use Rattle.value_model.specs.declared.values.ValueFault.{ValueFault}
use Rattle.value_model.specs.declared.values.ValueFault.TheVariants.{WrongKind}
use Rattle.value_model.specs.declared.values.ValueKey.{ValueKey}
use Rattle.value_model.specs.Trees.{Tree}
use Rattle.value_model.specs.Trees.Tree.{Number, Truth, Words, Nil, Name, One, Two, Choice}
use Rattle.value_model.specs.Operators.{of_one, of_two, of_first}
use Rattle.value_model.specs.Reading.{Nothing, Reading, of_value, unless, chosen_by, node_spot, Lead, by_lead, worth}
use Rattle.value_model.specs.Reading.Lead.{Known, Needs}
use Rattle.value_model.specs.Valuing.{nothing}
use Rattle.value_model.specs.Slots.{Slot, given, passed_on, after, or_given, slot_of_if}
use Rattle.expr_reading.specs.declared.turns.Pending.{Pending}
use Rattle.expr_reading.specs.declared.turns.Pending.TheVariants.{Operand, First, Second, Condition}
use Rattle.expr_reading.specs.declared.turns.Turn.{Turn}
use Rattle.expr_reading.specs.declared.turns.Turn.TheVariants.{Read, Have, Ended}
use Rattle.expr_reading.specs.Positions.{tree_before}
use Rattle.expr_reading.specs.Sources.{Expression, spot_in, lead_in}
use Rattle.expr_reading.specs.Turns.{turn_of, turn_of_entry, turn_of_if, seen, turns_of, turns_after, turns_after_all, turns_in, turns_left, EndsPart, IsPending, ArePending, IsTurn, part, next, carried, told, Turned, IsNamed, HasFollowed}

abbrev wrong : Spot → ValueAnswer
wrong at = answer.Refused (WrongKind at)

abbrev pub Looked : Type 0
Looked = List (Fact ValueKey NoFact)

-- WHAT WAS LOOKED AT BEFORE

then_seen : (looks : Looked) (a : Slot) (f : ValueAnswer → Slot) (st : Step ValueKey ValueAnswer)
    → then_step (seen looks a) f st ≡ seen looks (then_step a f st)
then_seen looks a f (Done x) = λ i. record { step = (f x).step; looks = append_assoc looks a.looks (f x).looks i }
then_seen looks a f (Waits ks) = refl

seen_more : (looks more : Looked) (a : Slot) → seen (looks ++ more) a ≡ seen looks (seen more a)
seen_more looks more a = λ i. record { step = a.step; looks = append_assoc looks more a.looks i }

-- A NAME STANDS among those of the nodes

pub name_stands : (nodes : List Node) (n r : ℕ) → slice_get nodes n ≡ Some (node.Named r) → IsMember (names_in nodes) r
name_stands [] n r e = cc
name_stands (node.Named k ∷ xs) zero r e = inl (cc)
name_stands (node.Named k ∷ xs) (suc n) r e = inr (name_stands xs n r e)
name_stands (node.Integer z ∷ xs) zero r e = cc
name_stands (node.Integer z ∷ xs) (suc n) r e = name_stands xs n r e
name_stands (node.Boolean b ∷ xs) zero r e = cc
name_stands (node.Boolean b ∷ xs) (suc n) r e = name_stands xs n r e
name_stands (node.Text x ∷ xs) zero r e = cc
name_stands (node.Text x ∷ xs) (suc n) r e = name_stands xs n r e
name_stands (node.Null ∷ xs) zero r e = cc
name_stands (node.Null ∷ xs) (suc n) r e = name_stands xs n r e
name_stands (node.Unary op ∷ xs) zero r e = cc
name_stands (node.Unary op ∷ xs) (suc n) r e = name_stands xs n r e
name_stands (node.Binary op ∷ xs) zero r e = cc
name_stands (node.Binary op ∷ xs) (suc n) r e = name_stands xs n r e
name_stands (node.If ∷ xs) zero r e = cc
name_stands (node.If ∷ xs) (suc n) r e = name_stands xs n r e

module _ (e : Expression) where
  -- THE STACK

  turns_more : (fs : List Pending) (f : Pending) → turns_after_all e (fs ++ f ∷ []) ≡ turns_after_all e fs + turns_after e f
  turns_more [] f = omega arith
  turns_more (g ∷ fs) f = let h = turns_more fs f in omega (arith, h)

  pub pending_more : (fs : List Pending) (f : Pending) → ArePending e fs → IsPending e f → ArePending e (fs ++ f ∷ [])
  pending_more [] f are is = (is, tt)
  pending_more (g ∷ fs) f are is = (are.0, pending_more fs f are.1 is)

  pub pending_less : (fs : List Pending) (f : Pending) → ArePending e (fs ++ f ∷ []) → ArePending e fs × IsPending e f
  pending_less [] f are = (tt, are.0)
  pending_less (g ∷ fs) f are = let rest = pending_less fs f are.1 in ((are.0, rest.0), rest.1)

  -- what is pending last
  pub last_pending : (fs : List Pending) (last f : Pending) → ArePending e (fs ++ last ∷ []) → last ≡ f → IsPending e f
  last_pending fs last f are is = subst (IsPending e) is (pending_less fs last are).1

  module _ (s : Decided ValueKey ValueAnswer) where
    carried_more : (fs : List Pending) (f : Pending) (a : Slot) → carried e s (fs ++ f ∷ []) a ≡ carried e s fs (after a (next e s f))
    carried_more [] f a = refl
    carried_more (g ∷ fs) f a = ap (λ x. after x (next e s g)) (carried_more fs f a)

    carried_seen : (fs : List Pending) (looks : Looked) (a : Slot) → carried e s fs (seen looks a) ≡ seen looks (carried e s fs a)
    carried_seen [] looks a = refl
    carried_seen (f ∷ fs) looks a =
        ap (λ x. after x (next e s f)) (carried_seen fs looks a)
        ∙ then_seen looks (carried e s fs a) (passed_on (next e s f)) (carried e s fs a).step

    -- a refusal goes through
    carried_refused : (fs : List Pending) (x : ValueFault) → carried e s fs (given (answer.Refused x)) ≡ given (answer.Refused x)
    carried_refused [] x = refl
    carried_refused (f ∷ fs) x = ap (λ a. after a (next e s f)) (carried_refused fs x)

    -- a wait goes through
    waiting : ValueKey → Slot
    waiting k = record { step = Waits (k ∷ []); looks = Key k ∷ [] }

    carried_waiting : (fs : List Pending) (k : ValueKey) → carried e s fs (waiting k) ≡ waiting k
    unfolding waiting
    carried_waiting [] k = refl
    carried_waiting (f ∷ fs) k = ap (λ a. after a (next e s f)) (carried_waiting fs k)

    -- THE TURN AFTER AN ANSWER

    pub told_of : (looks : Looked) (fs : List Pending) (x : ValueAnswer) → told e s looks fs (turn_of x) ≡ seen looks (carried e s fs (given x))
    told_of looks fs (answer.Value v) = refl
    told_of looks fs (answer.Refused x) =
        (λ i. record { step = Done (answer.Refused x); looks = sym (append-nil looks) i })
        ∙ ap (seen looks) (sym (carried_refused fs x))

    pub few_of : (x : ValueAnswer) → turns_in e (turn_of x) ≤ 1
    few_of (answer.Value v) = omega arith
    few_of (answer.Refused x) = omega arith

    pub turn_within_of : (x : ValueAnswer) → IsTurn e (turn_of x)
    turn_within_of (answer.Value v) = tt
    turn_within_of (answer.Refused x) = tt

    -- NAMES

    led_to : (looks : Looked) (fs : List Pending) (k : ValueKey) (o : Option ValueAnswer) → s k ≡ o
        → told e s (looks ++ Key k ∷ []) fs (turn_of_entry k o) ≡ seen looks (carried e s fs (by_lead (Needs k) (world nothing s)))
    unfolding waiting
    led_to looks fs k None none = rw none (ap (seen looks) (sym (carried_waiting fs k)))
    led_to looks fs k (Some x) some = rw some (told_of (looks ++ Key k ∷ []) fs x
        ∙ seen_more looks (Key k ∷ []) (carried e s fs (given x))
        ∙ ap (seen looks) (sym (carried_seen fs (Key k ∷ []) (given x))))

    pub known_named : (r : ℕ) (looks more : Looked) (x : ValueAnswer) (to : Turn) → to ≡ turn_of x → more ≡ looks → Known x ≡ lead_in e r
        → IsNamed e s r looks more to
    known_named r looks more x to is same leads = subst (λ y. IsNamed e s r looks more y) (sym is)
        (subst (λ l. IsNamed e s r looks l (turn_of x)) (sym same) (record {
          same = λ fs. told_of looks fs x ∙ ap (λ l. seen looks (carried e s fs (by_lead l (world nothing s)))) leads;
          less = few_of x;
          turn_within = turn_within_of x;
        }))

    few_of_entry : (k : ValueKey) (o : Option ValueAnswer) → turns_in e (turn_of_entry k o) ≤ 1
    few_of_entry k None = omega arith
    few_of_entry k (Some x) = few_of x

    within_of_entry : (k : ValueKey) (o : Option ValueAnswer) → IsTurn e (turn_of_entry k o)
    within_of_entry k None = tt
    within_of_entry k (Some x) = turn_within_of x

    pub needs_named : (r : ℕ) (looks more : Looked) (k : ValueKey) (to : Turn) → to ≡ turn_of_entry k (s k) → more ≡ looks ++ Key k ∷ []
        → Needs k ≡ lead_in e r → IsNamed e s r looks more to
    needs_named r looks more k to is same leads = subst (λ y. IsNamed e s r looks more y) (sym is)
        (subst (λ l. IsNamed e s r looks l (turn_of_entry k (s k))) (sym same) (record {
          same = λ fs. led_to looks fs k (s k) refl ∙ ap (λ l. seen looks (carried e s fs (by_lead l (world nothing s)))) leads;
          less = few_of_entry k (s k);
          turn_within = within_of_entry k (s k);
        }))

    -- WHAT A TREE GIVES, by what its first operand gives

    after_is : (a : Slot) (f : Value → Reading ValueAnswer) (g : Value → Slot) → ((v : Value) → f v (world nothing s) ≡ g v)
        → then_step a (λ x. of_value f x (world nothing s)) a.step ≡ after a g
    after_is a f g h = λ i. then_step a (λ x. each x i) a.step
      where
        each : (x : ValueAnswer) → of_value f x (world nothing s) ≡ passed_on g x
        each (answer.Value v) = h v
        each (answer.Refused y) = refl

    unless_is : (c : Reading ValueAnswer) (b : Slot) (o : Option ValueAnswer) → c (world nothing s) ≡ b → unless c o (world nothing s) ≡ or_given b o
    unless_is c b None h = h
    unless_is c b (Some x) h = refl

    chosen_is : (at : Spot) (c d : Reading ValueAnswer) (v : Value) → chosen_by at c d v (world nothing s)
        ≡ slot_of_if at (c (world nothing s)) (d (world nothing s)) v
    chosen_is at c d (Boolean true) = refl
    chosen_is at c d (Boolean false) = refl
    chosen_is at c d (Integer z) = refl
    chosen_is at c d (Text x) = refl
    chosen_is at c d (Enumerated n) = refl
    chosen_is at c d Null = refl

    part_is : (n : ℕ) (t : Tree) → tree_before e.nodes n ≡ t → part e s n ≡ worth e.links e.library e.place t (world nothing s)
    part_is n t is = ap (λ t. worth e.links e.library e.place t (world nothing s)) is

    one_gives : (n : ℕ) (op : UnaryOp) (t : Tree) → worth e.links e.library e.place (One n op t) (world nothing s)
        ≡ after (worth e.links e.library e.place t (world nothing s)) (λ a. given (of_one op (spot_in e n) a))
    one_gives n op t =
        after_is (worth e.links e.library e.place t (world nothing s)) (λ a. done (of_one op (spot_in e n) a))
        (λ a. given (of_one op (spot_in e n) a)) (λ v. refl)

    two_gives : (n : ℕ) (op : BinaryOp) (t u : Tree) → worth e.links e.library e.place (Two n op t u) (world nothing s)
        ≡ after (worth e.links e.library e.place t (world nothing s))
        (λ a. or_given (after (worth e.links e.library e.place u (world nothing s)) (λ b. given (of_two op (spot_in e n) a b))) (of_first op (spot_in e n) a))
    two_gives n op t u =
        let reads = worth e.links e.library e.place in
        after_is (reads t (world nothing s)) (λ a. unless (reads u >>= of_value (λ b. done (of_two op (spot_in e n) a b))) (of_first op (spot_in e n) a))
        (λ a. or_given (after (reads u (world nothing s)) (λ b. given (of_two op (spot_in e n) a b))) (of_first op (spot_in e n) a))
        (λ v. unless_is (reads u >>= of_value (λ b. done (of_two op (spot_in e n) v b)))
        (after (reads u (world nothing s)) (λ b. given (of_two op (spot_in e n) v b))) (of_first op (spot_in e n) v)
        (after_is (reads u (world nothing s)) (λ b. done (of_two op (spot_in e n) v b)) (λ b. given (of_two op (spot_in e n) v b)) (λ b. refl)))

    choice_gives : (n : ℕ) (t u v : Tree) → worth e.links e.library e.place (Choice n t u v) (world nothing s)
        ≡ after (worth e.links e.library e.place t (world nothing s))
        (slot_of_if (spot_in e n) (worth e.links e.library e.place u (world nothing s)) (worth e.links e.library e.place v (world nothing s)))
    choice_gives n t u v =
        let reads = worth e.links e.library e.place in
        after_is (reads t (world nothing s)) (chosen_by (spot_in e n) (reads u) (reads v))
        (slot_of_if (spot_in e n) (reads u (world nothing s)) (reads v (world nothing s)))
        (chosen_is (spot_in e n) (reads u) (reads v))

    -- READING A PART

    pub leaf_read : (looks : Looked) (fs : List Pending) (n : ℕ) (t : Tree) (v : Value) → ArePending e fs → tree_before e.nodes n ≡ t
        → turns_of t ≡ 2 → worth e.links e.library e.place t (world nothing s) ≡ given (answer.Value v)
        → Turned e s looks fs (Read n) looks fs (Have v)
    leaf_read looks fs n t v are is two gives = record {
      same = ap (λ a. seen looks (carried e s fs a)) (sym (part_is n t is ∙ gives));
      less = let many : turns_of (tree_before e.nodes n) ≡ 2 = ap turns_of is ∙ two in omega arith;
      pending_within = are;
      turn_within = tt;
    }

    pub name_read : (looks more : Looked) (fs : List Pending) (n r : ℕ) (to : Turn) → ArePending e fs → tree_before e.nodes n ≡ Name r
        → IsNamed e s r looks more to → Turned e s looks fs (Read n) more fs to
    name_read looks more fs n r to are is named = record {
      same = named.same fs ∙ ap (λ a. seen looks (carried e s fs a)) (sym (part_is n (Name r) is));
      less = let many : turns_of (tree_before e.nodes n) ≡ 2 = ap turns_of is in let few = named.less in omega arith;
      pending_within = are;
      turn_within = named.turn_within;
    }

    -- an operator: its first operand is to be read, and it is pending
    operand_read : (looks : Looked) (fs : List Pending) (n j : ℕ) (f : Pending) → ArePending e fs → IsPending e f → EndsPart e j
        → part e s n ≡ after (part e s j) (next e s f)
        → turns_of (tree_before e.nodes j) + turns_after e f < turns_of (tree_before e.nodes n)
        → Turned e s looks fs (Read n) looks (fs ++ f ∷ []) (Read j)
    operand_read looks fs n j f are is ends gives lt = record {
      same = ap (seen looks) (carried_more fs f (part e s j) ∙ ap (carried e s fs) (sym gives));
      less = let sum = turns_more fs f in omega (arith, sum, lt);
      pending_within = pending_more fs f are is;
      turn_within = ends;
    }

    pub one_read : (looks : Looked) (fs : List Pending) (n k : ℕ) (op : UnaryOp) → ArePending e fs → EndsPart e k → k < length e.nodes
        → tree_before e.nodes n ≡ One k op (tree_before e.nodes k) → Turned e s looks fs (Read n) looks (fs ++ Operand k op ∷ []) (Read k)
    one_read looks fs n k op are ends within is =
        operand_read looks fs n k (Operand k op) are within ends (part_is n (One k op (tree_before e.nodes k)) is ∙ one_gives k op (tree_before e.nodes k))
        (let many = ap turns_of is in omega (arith, many))

    pub two_read : (looks : Looked) (fs : List Pending) (n k j : ℕ) (op : BinaryOp) → ArePending e fs → (0 < k) × (k < length e.nodes) → EndsPart e j
        → tree_before e.nodes n ≡ Two k op (tree_before e.nodes j) (tree_before e.nodes k)
        → Turned e s looks fs (Read n) looks (fs ++ First k op ∷ []) (Read j)
    two_read looks fs n k j op are within ends is =
        operand_read looks fs n j (First k op) are within ends
        (part_is n (Two k op (tree_before e.nodes j) (tree_before e.nodes k)) is ∙ two_gives k op (tree_before e.nodes j) (tree_before e.nodes k))
        (let many = ap turns_of is in omega (arith, many))

    pub choice_read : (looks : Looked) (fs : List Pending) (n k j i : ℕ) → ArePending e fs → (0 < k) × (k < length e.nodes) × EndsPart e j → EndsPart e i
        → tree_before e.nodes n ≡ Choice k (tree_before e.nodes i) (tree_before e.nodes j) (tree_before e.nodes k)
        → Turned e s looks fs (Read n) looks (fs ++ Condition k j ∷ []) (Read i)
    choice_read looks fs n k j i are within ends is =
        operand_read looks fs n i (Condition k j) are within ends
        (part_is n (Choice k (tree_before e.nodes i) (tree_before e.nodes j) (tree_before e.nodes k)) is
        ∙ choice_gives k (tree_before e.nodes i) (tree_before e.nodes j) (tree_before e.nodes k))
        (let many = ap turns_of is in omega (arith, many))

    -- WITH A VALUE

    -- what follows gives an answer
    answer_follows : (looks : Looked) (fs : List Pending) (f : Pending) (v : Value) (x : ValueAnswer) (to : Turn) → ArePending e (fs ++ f ∷ [])
        → next e s f v ≡ given x → 1 ≤ turns_after e f → to ≡ turn_of x → Turned e s looks (fs ++ f ∷ []) (Have v) looks fs to
    answer_follows looks fs f v x to are gives some is = subst (λ y. Turned e s looks (fs ++ f ∷ []) (Have v) looks fs y) (sym is) (record {
      same = told_of looks fs x ∙ ap (seen looks) (ap (carried e s fs) (sym gives) ∙ sym (carried_more fs f (given (answer.Value v))));
      less = let sum = turns_more fs f in let few = few_of x in omega (arith, sum, few);
      pending_within = (pending_less fs f are).0;
      turn_within = turn_within_of x;
    })

    -- what follows is a part
    part_follows : (looks : Looked) (fs : List Pending) (f : Pending) (v : Value) (n : ℕ) → ArePending e (fs ++ f ∷ []) → next e s f v ≡ part e s n
        → EndsPart e n → turns_of (tree_before e.nodes n) < 1 + turns_after e f → Turned e s looks (fs ++ f ∷ []) (Have v) looks fs (Read n)
    part_follows looks fs f v n are gives ends lt = record {
      same = ap (seen looks) (ap (carried e s fs) (sym gives) ∙ sym (carried_more fs f (given (answer.Value v))));
      less = let sum = turns_more fs f in omega (arith, sum, lt);
      pending_within = (pending_less fs f are).0;
      turn_within = ends;
    }

  -- the value of the whole expression
  pub end_follows : (v : Value) → HasFollowed e [] v [] (Ended (Done (answer.Value v)))
  end_follows v s looks = record {
    same = λ i. record { step = Done (answer.Value v); looks = sym (append-nil looks) i };
    less = omega arith;
    pending_within = tt;
    turn_within = tt;
  }

  pub operand_follows : (fs : List Pending) (n : ℕ) (op : UnaryOp) (v : Value) (to : Turn) → ArePending e (fs ++ Operand n op ∷ [])
      → to ≡ turn_of (of_one op (spot_in e n) v) → HasFollowed e (fs ++ Operand n op ∷ []) v fs to
  operand_follows fs n op v to are is s looks =
      answer_follows s looks fs (Operand n op) v (of_one op (spot_in e n) v) to are refl (omega arith) is

  pub second_follows : (fs : List Pending) (n : ℕ) (op : BinaryOp) (a v : Value) (to : Turn) → ArePending e (fs ++ Second n op a ∷ [])
      → to ≡ turn_of (of_two op (spot_in e n) a v) → HasFollowed e (fs ++ Second n op a ∷ []) v fs to
  second_follows fs n op a v to are is s looks =
      answer_follows s looks fs (Second n op a) v (of_two op (spot_in e n) a v) to are refl (omega arith) is

  -- the first operand decides
  pub first_decides : (fs : List Pending) (n : ℕ) (op : BinaryOp) (v : Value) (x : ValueAnswer) (to : Turn) → ArePending e (fs ++ First n op ∷ [])
      → Some x ≡ of_first op (spot_in e n) v → to ≡ turn_of x → HasFollowed e (fs ++ First n op ∷ []) v fs to
  first_decides fs n op v x to are decided is s looks =
      answer_follows s looks fs (First n op) v x to are
      (ap (or_given (after (part e s n) (λ b. given (of_two op (spot_in e n) v b)))) (sym decided)) (omega arith) is

  -- the second operand is to be read
  pub second_is_read : (fs : List Pending) (n : ℕ) (op : BinaryOp) (v : Value) → ArePending e (fs ++ First n op ∷ [])
      → None ≡ of_first op (spot_in e n) v → HasFollowed e (fs ++ First n op ∷ []) v (fs ++ Second n op v ∷ []) (Read n)
  second_is_read fs n op v are open_yet s looks =
      let less_pending = pending_less fs (First n op) are in
      let follows : next e s (First n op) v ≡ after (part e s n) (next e s (Second n op v)) =
      ap (or_given (after (part e s n) (λ b. given (of_two op (spot_in e n) v b)))) (sym open_yet) in
      record {
        same = ap (seen looks) (carried_more s fs (Second n op v) (part e s n)
            ∙ (ap (carried e s fs) (sym follows) ∙ sym (carried_more s fs (First n op) (given (answer.Value v)))));
        less = let before = turns_more fs (First n op) in let now = turns_more fs (Second n op v) in omega (arith, before, now);
        pending_within = pending_more fs (Second n op v) less_pending.0 less_pending.1.1;
        turn_within = (less_pending.1.0, (omega (arith, less_pending.1.1)));
      }

  -- how many turns a tree takes at least
  some_turns : (t : Tree) → 1 ≤ turns_of t
  some_turns (Number z) = omega arith
  some_turns (Truth b) = omega arith
  some_turns (Words x) = omega arith
  some_turns Nil = omega arith
  some_turns (Name r) = omega arith
  some_turns (One n op t) = omega arith
  some_turns (Two n op t u) = omega arith
  some_turns (Choice n t u v) = omega arith

  other_chosen : (fs : List Pending) (n j : ℕ) (v : Value) → ArePending e (fs ++ Condition n j ∷ [])
      → ((s : Decided ValueKey ValueAnswer) → next e s (Condition n j) v ≡ given (wrong (spot_in e n)))
      → turn_of_if (spot_in e n) j n v ≡ turn_of (wrong (spot_in e n))
      → HasFollowed e (fs ++ Condition n j ∷ []) v fs (turn_of_if (spot_in e n) j n v)
  other_chosen fs n j v are gives is s looks =
      answer_follows s looks fs (Condition n j) v (wrong (spot_in e n)) (turn_of_if (spot_in e n) j n v) are (gives s)
      (let a = some_turns (tree_before e.nodes j) in omega (arith, a)) is

  pub condition_follows : (fs : List Pending) (n j : ℕ) (v : Value) → ArePending e (fs ++ Condition n j ∷ [])
      → HasFollowed e (fs ++ Condition n j ∷ []) v fs (turn_of_if (spot_in e n) j n v)
  condition_follows fs n j (Boolean true) are s looks =
      part_follows s looks fs (Condition n j) (Boolean true) j are refl (pending_less fs (Condition n j) are).1.2 (omega arith)
  condition_follows fs n j (Boolean false) are s looks =
      let within = (pending_less fs (Condition n j) are).1 in
      part_follows s looks fs (Condition n j) (Boolean false) n are refl (within.0, (omega (arith, within.1))) (omega arith)
  condition_follows fs n j (Integer z) are s looks = other_chosen fs n j (Integer z) are (λ s. refl) refl s looks
  condition_follows fs n j (Text x) are s looks = other_chosen fs n j (Text x) are (λ s. refl) refl s looks
  condition_follows fs n j (Enumerated x) are s looks = other_chosen fs n j (Enumerated x) are (λ s. refl) refl s looks
  condition_follows fs n j Null are s looks = other_chosen fs n j Null are (λ s. refl) refl s looks
