-- The turns in which an expression is read: what is to come, and what is to follow it.
use Rattle.std.specs.Prelude.{◌≡◌, ℕ, suc, ◌+◌, ◌<◌, ◌≤◌, List, [], ◌∷◌, ◌++◌, length, Option, None, Some, true, false}
use Rattle.element_store.specs.declared.expression.Node.{Node}
use Rattle.element_store.specs.declared.expression.Node.TheVariants as node
use Rattle.demand_core.specs.Tables.{Decided}
use Rattle.demand_core.specs.Computed.{world}
use Rattle.demand_core.specs.declared.looks.Fact.{Fact}
use Rattle.demand_core.specs.declared.step.Step.{Step}
use Rattle.demand_core.specs.declared.step.Step.TheVariants.{Done, Waits}
use Rattle.value_model.specs.declared.values.NoFact.{NoFact}
use Rattle.value_model.specs.declared.values.Value.{Value}
use Rattle.value_model.specs.declared.values.Value.TheVariants.{Integer, Boolean, Text, Null}
use Rattle.value_model.specs.declared.values.Spot.{Spot}
use Rattle.value_model.specs.declared.values.ValueAnswer.{ValueAnswer}
use Rattle.value_model.specs.declared.values.ValueAnswer.TheVariants as answer
use Rattle.value_model.specs.declared.values.ValueFault.TheVariants.{WrongKind}
use Rattle.value_model.specs.declared.values.ValueKey.{ValueKey}
use Rattle.value_model.specs.Trees.{Tree}
use Rattle.value_model.specs.Trees.Tree.{Number, Truth, Words, Nil, Name, One, Two, Choice}
use Rattle.value_model.specs.Operators.{of_one, of_two, of_first}
use Rattle.value_model.specs.Reading.{worth, by_lead}
use Rattle.value_model.specs.Valuing.{nothing}
use Rattle.value_model.specs.Slots.{Slot, given, after, or_given, slot_of_if}
use Rattle.expr_reading.specs.declared.turns.Pending.{Pending}
use Rattle.expr_reading.specs.declared.turns.Pending.TheVariants.{Operand, First, Second, Condition}
use Rattle.expr_reading.specs.declared.turns.Turn.{Turn}
use Rattle.expr_reading.specs.declared.turns.Turn.TheVariants.{Read, Have, Ended}
use Rattle.expr_reading.specs.Positions.{tree_before}
use Rattle.expr_reading.specs.Sources.{Expression, lead_in, spot_in}

-- the value of a literal
abbrev pub literal_value : Node → Value
literal_value (node.Integer z) = Integer z
literal_value (node.Boolean b) = Boolean b
literal_value (node.Text x) = Text x
literal_value other = Null

-- the turn after an answer: with a value it goes on, a refusal is the end
abbrev pub turn_of : ValueAnswer → Turn
turn_of (answer.Value v) = Have v
turn_of (answer.Refused x) = Ended (Done (answer.Refused x))

-- the turn after a look at a key
abbrev pub turn_of_entry : ValueKey → Option ValueAnswer → Turn
turn_of_entry k None = Ended (Waits (k ∷ []))
turn_of_entry k (Some x) = turn_of x

-- the turn after a condition
abbrev pub turn_of_if : Spot → ℕ → ℕ → Value → Turn
turn_of_if at second last (Boolean true) = Read second
turn_of_if at second last (Boolean false) = Read last
turn_of_if at second last other = Ended (Done (answer.Refused (WrongKind at)))

-- the slot, where this was looked at before
abbrev pub seen : List (Fact ValueKey NoFact) → Slot → Slot
seen looks a = record { step = a.step; looks = looks ++ a.looks }

-- how many turns reading a tree takes at most
abbrev pub turns_of : Tree → ℕ
turns_of (One n op t) = 2 + turns_of t
turns_of (Two n op t u) = 2 + (turns_of t + turns_of u)
turns_of (Choice n t u v) = 1 + (turns_of t + (turns_of u + turns_of v))
turns_of leaf = 2

module _ (e : Expression) where
  -- how many turns what is pending takes at most
  abbrev pub turns_after : Pending → ℕ
  turns_after (Operand n op) = 1
  turns_after (First n op) = 1 + turns_of (tree_before e.nodes n)
  turns_after (Second n op a) = 1
  turns_after (Condition n second) = turns_of (tree_before e.nodes second) + turns_of (tree_before e.nodes n)

  abbrev pub turns_after_all : List Pending → ℕ
  turns_after_all [] = 0
  turns_after_all (f ∷ fs) = turns_after f + turns_after_all fs

  abbrev pub turns_in : Turn → ℕ
  turns_in (Read n) = turns_of (tree_before e.nodes n)
  turns_in (Have v) = 1
  turns_in (Ended step) = 0

  -- how many turns are to come at most
  abbrev pub turns_left : List Pending → Turn → ℕ
  turns_left pending turn = turns_in turn + turns_after_all pending

  -- a part ends there
  abbrev pub EndsPart : ℕ → Type 0
  EndsPart n = (0 < n) × (n ≤ length e.nodes)

  abbrev pub IsPending : Pending → Type 0
  IsPending (Operand n op) = n < length e.nodes
  IsPending (First n op) = (0 < n) × (n < length e.nodes)
  IsPending (Second n op a) = n < length e.nodes
  IsPending (Condition n second) = (0 < n) × (n < length e.nodes) × EndsPart second

  abbrev pub ArePending : List Pending → Type 0
  ArePending [] = Unit {0}
  ArePending (f ∷ fs) = IsPending f × ArePending fs

  abbrev pub IsTurn : Turn → Type 0
  IsTurn (Read n) = EndsPart n
  IsTurn other = Unit {0}

  module _ (s : Decided ValueKey ValueAnswer) where
    -- what the part gives that ends before the node of that number
    abbrev pub part : ℕ → Slot
    part n = worth e.links e.library e.place (tree_before e.nodes n) (world nothing s)

    -- what follows a value
    abbrev pub next : Pending → Value → Slot
    next (Operand n op) a = given (of_one op (spot_in e n) a)
    next (First n op) a =
        or_given (after (part n) (λ b. given (of_two op (spot_in e n) a b))) (of_first op (spot_in e n) a)
    next (Second n op a) b = given (of_two op (spot_in e n) a b)
    next (Condition n second) a = slot_of_if (spot_in e n) (part second) (part n) a

    -- what all that is pending makes of a slot; the last is the next to follow
    abbrev pub carried : List Pending → Slot → Slot
    carried [] a = a
    carried (f ∷ fs) a = after (carried fs a) (next f)

    -- what the whole expression gives, as it stands at a turn
    abbrev pub told : List (Fact ValueKey NoFact) → List Pending → Turn → Slot
    told looks pending (Read n) = seen looks (carried pending (part n))
    told looks pending (Have v) = seen looks (carried pending (given (answer.Value v)))
    told looks pending (Ended step) = record { step = step; looks = looks }

    -- ONE TURN, or some: what the whole expression gives stays, and less is to come.
    pub record Turned
        (looks : List (Fact ValueKey NoFact)) (pending : List Pending) (turn : Turn)
        (more : List (Fact ValueKey NoFact)) (rest : List Pending) (to : Turn)
        : Type 0 where
      pub same : told more rest to ≡ told looks pending turn
      pub less : turns_left rest to < turns_left pending turn
      pub pending_within : ArePending rest
      pub turn_within : IsTurn to

    -- the step that the whole expression gives in the end, as it stood at a turn
    abbrev pub HasRead : List (Fact ValueKey NoFact) → List Pending → Turn → List (Fact ValueKey NoFact)
        → Step ValueKey ValueAnswer → Type 0
    HasRead looks pending turn more step = told more [] (Ended step) ≡ told looks pending turn

    -- the turn after a name, with what is looked at then
    pub record IsNamed (r : ℕ) (looks more : List (Fact ValueKey NoFact)) (to : Turn) : Type 0 where
      pub same : (pending : List Pending)
          → told more pending to ≡ seen looks (carried pending (by_lead (lead_in e r) (world nothing s)))
      pub less : turns_in to ≤ 1
      pub turn_within : IsTurn to

  -- what follows a value, over every table
  abbrev pub HasFollowed : List Pending → Value → List Pending → Turn → Type 0
  HasFollowed pending value rest turn = (s : Decided ValueKey ValueAnswer) (looks : List (Fact ValueKey NoFact))
      → Turned s looks pending (Have value) looks rest turn
