-- The value of a key: the deciding expression, read from left to right. Each part is read by itself, so that a
-- reading waits on the first open key that it needs, and on that alone.
use Rattle.std.specs.Prelude.{ℕ, Bool, true, false, cond, List, [], ◌∷◌, slice_get, Option, None, Some, Result, Ok, Err}
use Rattle.element_store.specs.declared.numbers.FileNo.{FileNo}
use Rattle.element_store.specs.declared.numbers.ElementNo.{ElementNo}
use Rattle.element_store.specs.declared.outcome.Outcome.{Outcome}
use Rattle.element_store.specs.declared.outcome.Outcome.TheVariants.{Linked}
use Rattle.element_store.specs.Readings.{place_in}
use Rattle.demand_core.specs.Computation.{Computation, done, read, ◌>>=◌}
use Rattle.link_model.specs.Outside.{Library}
use Rattle.link_model.specs.Readers.{LinkWorld, key}
use Rattle.value_model.specs.declared.values.NoFact.{NoFact}
use Rattle.value_model.specs.declared.values.Spot.{Spot}
use Rattle.value_model.specs.declared.values.Value.{Value}
use Rattle.value_model.specs.declared.values.Value.TheVariants.{Integer, Boolean, Text, Enumerated, Null}
use Rattle.value_model.specs.declared.values.ValueAnswer.{ValueAnswer}
use Rattle.value_model.specs.declared.values.ValueAnswer.TheVariants as answer
use Rattle.value_model.specs.declared.values.ValueFault.{ValueFault}
use Rattle.value_model.specs.declared.values.ValueFault.TheVariants.{Unbound, Several, WrongKind, Unlinked}
use Rattle.value_model.specs.declared.values.ValueKey.{ValueKey}
use Rattle.value_model.specs.Trees.{Tree, tree}
use Rattle.value_model.specs.Trees.Tree.{Number, Truth, Words, Nil, Name, One, Two, Choice}
use Rattle.value_model.specs.Operators.{of_one, of_two, of_first}
use Rattle.value_model.specs.Meant.{Decider, model_at, feature_at, enumerated_at, decider, meant}

-- nothing stands outside of the table of values
abbrev pub Nothing : NoFact → Type 0
Nothing f = Unit {0}

abbrev pub Reading : Type 0 → Type 0
Reading A = Computation ValueKey ValueAnswer NoFact Nothing A

-- what is read of a value; a refusal is passed on
abbrev pub of_value : (Value → Reading ValueAnswer) → ValueAnswer → Reading ValueAnswer
of_value f (answer.Value v) = f v
of_value f (answer.Refused x) = done (answer.Refused x)

-- the answer, if there is one already, or what is still to be read
abbrev pub unless : Reading ValueAnswer → Option ValueAnswer → Reading ValueAnswer
unless c None = c
unless c (Some x) = done x

-- one of two, by a condition
abbrev pub chosen_by : Spot → Reading ValueAnswer → Reading ValueAnswer → Value → Reading ValueAnswer
chosen_by at c d (Boolean true) = c
chosen_by at c d (Boolean false) = d
chosen_by at c d other = done (answer.Refused (WrongKind at))

-- an expression of a feature, read for a target
pub record Place : Type 0 where
  pub feature : ElementNo
  pub of_result : Bool
  pub target : Option ElementNo

-- what a name leads to: an answer, or a key whose value it has
pub data Lead : Type 0 where
  Known : ValueAnswer → Lead
  Needs : ValueKey → Lead

abbrev pub by_lead : Lead → Reading ValueAnswer
by_lead (Known x) = done x
by_lead (Needs k) = read k

abbrev pub or_zero : Option ℕ → ℕ
or_zero None = 0
or_zero (Some n) = n

module _ (w : LinkWorld) where
  -- the places of references and of operators
  abbrev pub name_spot : FileNo → ℕ → Spot
  name_spot f r = record { file = f; at = or_zero (slice_get (model_at w f).reference_places r) }

  abbrev pub node_spot : Place → ℕ → Spot
  node_spot p n = record {
    file = p.feature.file;
    at = or_zero (place_in (model_at w p.feature.file) p.of_result p.feature.index n);
  }

  -- the last element of a name: no feature, an enumerated value, or a feature with its key
  abbrev pub last_lead : Spot → ElementNo → Result (Option ElementNo) ValueFault → Lead
  last_lead at e (Err x) = Known (answer.Refused x)
  last_lead at e (Ok t) = cond (feature_at w e)
      (cond (enumerated_at w e) (Known (answer.Value (Enumerated e))) (Needs (record { feature = e; target = t })))
      (Known (answer.Refused (WrongKind at)))

  module _ (lib : Library) where
    -- the target after an earlier element: the feature meant for it in the target so far
    abbrev pub one_further : ElementNo → Option ElementNo → Result (Option ElementNo) ValueFault
    one_further e None = Err (Several e)
    one_further e (Some g) = Ok (Some g)

    abbrev pub further : Spot → Result (Option ElementNo) ValueFault → ElementNo → Result (Option ElementNo) ValueFault
    further at (Err x) e = Err x
    further at (Ok t) e = cond (feature_at w e) (one_further e (meant w lib e t)) (Err (WrongKind at))

    -- the target after all earlier elements, or the first refusal
    abbrev pub through : Spot → List ElementNo → Result (Option ElementNo) ValueFault
        → Result (Option ElementNo) ValueFault
    through at [] t = t
    through at (e ∷ es) t = through at es (further at t e)

    abbrev pub lead_of : Spot → Option ElementNo → Option Outcome → Lead
    lead_of at t (Some (Linked steps e)) = last_lead at e (through at steps (Ok t))
    lead_of at t other = Known (answer.Refused (Unlinked at))

    -- A NAME, read for a target
    abbrev pub lead : FileNo → Option ElementNo → ℕ → Lead
    lead f t r = lead_of (name_spot f r) t (w.table (key f r))

    -- AN EXPRESSION, read from left to right; `and`, `or`, `implies` and `if` read a further operand only where it is
    -- needed
    abbrev pub worth : Place → Tree → Reading ValueAnswer
    worth p (Number z) = done (answer.Value (Integer z))
    worth p (Truth b) = done (answer.Value (Boolean b))
    worth p (Words x) = done (answer.Value (Text x))
    worth p Nil = done (answer.Value Null)
    worth p (Name r) = by_lead (lead p.feature.file p.target r)
    worth p (One n op t) = worth p t >>= of_value (λ a. done (of_one op (node_spot p n) a))
    worth p (Two n op t u) = worth p t
        >>= of_value (λ a. unless (worth p u >>= of_value (λ b. done (of_two op (node_spot p n) a b)))
        (of_first op (node_spot p n) a))
    worth p (Choice n t u v) = worth p t >>= of_value (chosen_by (node_spot p n) (worth p u) (worth p v))

    abbrev pub decided_by : ValueKey → ElementNo → Option Decider → Reading ValueAnswer
    decided_by k g None = done (answer.Refused (Unbound g))
    decided_by k g (Some d) =
        worth (record { feature = d.feature; of_result = d.own.of_result; target = k.target }) (tree d.own.nodes)

    abbrev pub of_meant : ValueKey → Option ElementNo → Reading ValueAnswer
    of_meant k None = done (answer.Refused (Several k.feature))
    of_meant k (Some g) = decided_by k g (decider w g)

    -- THE RULE of a key
    abbrev pub ask : ValueKey → Reading ValueAnswer
    ask k = of_meant k (meant w lib k.feature k.target)
