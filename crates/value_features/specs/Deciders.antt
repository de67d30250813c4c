-- What the calls' clauses say of the definitions.
use Rattle.std.specs.Prelude.{◌≡◌, ℕ, suc, ◌<◌, List, [], ◌∷◌, length, reverse, Option, Some, slice_get}
use Rattle.std.specs.Option.{option_map, option_and_then}
use Rattle.element_store.specs.declared.numbers.ElementNo.{ElementNo}
use Rattle.element_store.specs.declared.outcome.Outcome.{Outcome}
use Rattle.element_store.specs.declared.outcome.Outcome.TheVariants.{Linked}
use Rattle.element_store.specs.Model.{Data}
use Rattle.element_store.specs.Readings.{expression_in}
use Rattle.element_store.specs.BaseRules.{first_of as this_or}
use Rattle.link_model.specs.Readers.{LinkWorld}
use Rattle.value_model.specs.Meant as meant
use Rattle.value_model.specs.Meant.{model_at, walk, first_own}
use Rattle.value_features.specs.declared.own.Decider.{Decider}

-- the element stands in this model, which is that of its file
pub record IsHome (w : LinkWorld) (e : ElementNo) (d : Data) : Type 0 where
  pub same : d ≡ model_at w e.file
  pub within : e.index < length d.elements

-- a feature with its expression, in the words of the definitions
abbrev pub as_decider : Decider → meant.Decider
as_decider d = record { feature = d.feature; own = record { of_result = d.of_result; nodes = d.nodes.now } }

-- its nodes are those of the value or of the result of its feature
abbrev pub HasNodes : LinkWorld → Decider → Type 0
HasNodes w d =
    option_and_then (expression_in d.of_result) (slice_get (model_at w d.feature.file).elements d.feature.index)
    ≡ Some d.nodes.now

-- where an outcome leads
abbrev pub end_of : Option Outcome → List ElementNo
end_of (Some (Linked steps e)) = e ∷ []
end_of other = []

-- the first expression in the walk of so many steps from those to do on, of which the last is the next
abbrev pub first_from : LinkWorld → ℕ → List ElementNo → List ElementNo → Option meant.Decider
first_from w n seen stack = first_own w (walk w n seen (reverse stack))

-- one step of the walk: what is found first is this, or else what is found from there on
abbrev pub Steps : LinkWorld → List ElementNo → List ElementNo → List ElementNo → List ElementNo → Option Decider
    → Type 0
Steps w seen stack more rest found = (n : ℕ)
    → first_from w (suc n) seen stack ≡ this_or (option_map as_decider found) (first_from w n more rest)
