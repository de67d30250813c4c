-- A postfix list read node by node: what each tree on the way gives over one table. Operands are there before their
-- operator, and what is not needed of them is left out: so code can go through the list once, and yet read from left
-- to right, and only what is needed.
use Rattle.std.specs.Prelude.{ℕ, suc, List, [], ◌∷◌, Option, None, Some, true, false}
use Rattle.element_store.specs.declared.expression.Node.{Node}
use Rattle.element_store.specs.declared.expression.Node.TheVariants as node
use Rattle.demand_core.specs.Computation.{World, Asked, then_step}
use Rattle.demand_core.specs.declared.step.Step.TheVariants.{Done}
use Rattle.link_model.specs.Outside.{Library}
use Rattle.link_model.specs.Readers.{LinkWorld}
use Rattle.value_model.specs.declared.values.NoFact.{NoFact}
use Rattle.value_model.specs.declared.values.Spot.{Spot}
use Rattle.value_model.specs.declared.values.Value.{Value}
use Rattle.value_model.specs.declared.values.Value.TheVariants.{Integer, Boolean, Text, Null}
use Rattle.value_model.specs.declared.values.ValueAnswer.{ValueAnswer}
use Rattle.value_model.specs.declared.values.ValueAnswer.TheVariants as answer
use Rattle.value_model.specs.declared.values.ValueFault.TheVariants.{WrongKind}
use Rattle.value_model.specs.declared.values.ValueKey.{ValueKey}
use Rattle.value_model.specs.Operators.{of_one, of_two, of_first}
use Rattle.value_model.specs.Reading.{Nothing, Place, node_spot, by_lead, lead}

-- what a part of an expression gives: a step and its looks
abbrev pub Slot : Type 0
Slot = Asked ValueKey NoFact ValueAnswer

abbrev pub given : ValueAnswer → Slot
given x = record { step = Done x; looks = [] }

abbrev pub passed_on : (Value → Slot) → ValueAnswer → Slot
passed_on f (answer.Value v) = f v
passed_on f (answer.Refused x) = given (answer.Refused x)

-- what follows a value; a wait and a refusal stay as they are
abbrev pub after : Slot → (Value → Slot) → Slot
after a f = then_step a (passed_on f) a.step

abbrev pub or_given : Slot → Option ValueAnswer → Slot
or_given a None = a
or_given a (Some x) = given x

abbrev pub slot_of_if : Spot → Slot → Slot → Value → Slot
slot_of_if at b c (Boolean true) = b
slot_of_if at b c (Boolean false) = c
slot_of_if at b c other = given (answer.Refused (WrongKind at))

module _ (w : LinkWorld) (lib : Library) (p : Place) (s : World ValueKey ValueAnswer NoFact Nothing) where
  -- the slots after the node of that number, the last one first
  abbrev pub slots_after : ℕ → Node → List Slot → List Slot
  slots_after n (node.Integer z) ss = given (answer.Value (Integer z)) ∷ ss
  slots_after n (node.Boolean b) ss = given (answer.Value (Boolean b)) ∷ ss
  slots_after n (node.Text x) ss = given (answer.Value (Text x)) ∷ ss
  slots_after n node.Null ss = given (answer.Value Null) ∷ ss
  slots_after n (node.Named r) ss = by_lead (lead w lib p.feature.file p.target r) s ∷ ss
  slots_after n (node.Unary op) (a ∷ ss) = after a (λ v. given (of_one op (node_spot w p n) v)) ∷ ss
  slots_after n (node.Binary op) (b ∷ a ∷ ss) =
      after a (λ v. or_given (after b (λ u. given (of_two op (node_spot w p n) v u))) (of_first op (node_spot w p n) v))
      ∷ ss
  slots_after n node.If (c ∷ b ∷ a ∷ ss) = after a (slot_of_if (node_spot w p n) b c) ∷ ss
  slots_after n other ss = ss

  abbrev pub slots_from : ℕ → List Node → List Slot → List Slot
  slots_from n [] ss = ss
  slots_from n (x ∷ xs) ss = slots_from (suc n) xs (slots_after n x ss)
