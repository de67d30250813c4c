-- Keys on the way: those of which all that they may read is marked.
use Rattle.std.specs.Prelude.{◌≡◌, ℕ, ◌<◌, List, [], Option, Some, slice_get}
use Rattle.linker_base.specs.Members.{IsMember, IsEachOnce}
use Rattle.element_store.specs.declared.numbers.ElementNo.{ElementNo}
use Rattle.element_store.specs.declared.numbers.FileNo.{FileNo}
use Rattle.element_store.specs.declared.expression.Node.{Node}
use Rattle.element_store.specs.declared.expression.Node.TheVariants.{Named}
use Rattle.link_model.specs.Outside.{Library}
use Rattle.link_model.specs.Readers.{LinkWorld}
use Rattle.value_model.specs.declared.values.ValueKey.{ValueKey}
use Rattle.value_model.specs.Reading.{lead}
use Rattle.value_model.specs.Valuing.{IsKey, may_read, needed}

-- the key to which a node leads that is a name
abbrev pub led_by : LinkWorld → Library → FileNo → Option ElementNo → Node → List ValueKey
led_by w lib f t (Named r) = needed (lead w lib f t r)
led_by w lib f t other = []

-- marks that hold the first ones, and all that those before a place may read
pub record IsReached
    (w : LinkWorld) (lib : Library) (first : List ValueKey) (place : ℕ) (marks : List ValueKey)
    : Type 0 where
  pub once : IsEachOnce marks
  pub each : (k : ValueKey) → IsMember marks k → IsKey w k
  pub before : (n : ℕ) (k q : ValueKey) → n < place → slice_get marks n ≡ Some k → IsMember (may_read w lib k) q
      → IsMember marks q
  pub kept : (k : ValueKey) → IsMember first k → IsMember marks k
