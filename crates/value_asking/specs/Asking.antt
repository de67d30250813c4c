-- A reader of a deciding expression for a target, and what it is valid for.
use Rattle.std.specs.Prelude.{◌≡◌, List, Option}
use Rattle.demand_core.specs.Tables.{entry_of}
use Rattle.demand_core.specs.Computed.{world}
use Rattle.element_store.specs.Stored.{AreFiles}
use Rattle.element_store.specs.declared.numbers.ElementNo.{ElementNo}
use Rattle.link_model.specs.declared.view.View.{View}
use Rattle.link_model.specs.Outside.{Library}
use Rattle.link_model.specs.Readers.{LinkWorld}
use Rattle.link_walk.specs.Calls.{files_of, read_by}
use Rattle.value_model.specs.declared.values.ValueAnswer.{ValueAnswer}
use Rattle.value_model.specs.declared.values.ValueKey.{ValueKey}
use Rattle.value_model.specs.Keys.{same_value_key}
use Rattle.value_model.specs.Reading.{ask}
use Rattle.value_model.specs.Slots.{Slot}
use Rattle.value_model.specs.Valuing.{nothing}
use Rattle.value_features.specs.declared.own.Decider.{Decider}
use Rattle.value_features.specs.Deciders.{HasNodes}
use Rattle.expr_reading.specs.Sources.{Expression}

-- the deciding expression, read for a target
abbrev pub expression_of : LinkWorld → Library → Decider → Option ElementNo → Expression
expression_of w lib d t = record {
  links = w;
  library = lib;
  place = record { feature = d.feature; of_result = d.of_result; target = t };
  nodes = d.nodes.now;
}

-- it is an expression of the models, and the links are those that are seen
pub record IsReadable (w : LinkWorld) (v : View) (d : Decider) : Type 0 where
  pub links : w ≡ read_by v
  pub files : AreFiles (files_of v)
  pub nodes : HasNodes (read_by v) d

-- what asking a key gives over a table
abbrev pub asked : LinkWorld → Library → ValueKey → List (ValueKey × ValueAnswer) → Slot
asked w lib key entries = ask w lib key (world nothing (entry_of same_value_key entries))
