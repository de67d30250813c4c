-- What keys are worth: the least table of the rule over a list of keys; what is left open is circular.
use Rattle.std.specs.Prelude.{◌≡◌, true, List, [], ◌∷◌, Option, None, Some}
use Rattle.std.specs.List.{flat_map}
use Rattle.linker_base.specs.Members.{IsMember, IsEachOnce}
use Rattle.element_store.specs.declared.models.StoredFile.{StoredFile}
use Rattle.element_store.specs.declared.outcome.Outcome.{Outcome}
use Rattle.element_store.specs.declared.numbers.ElementNo.{ElementNo}
use Rattle.element_store.specs.Expressions.{names_in}
use Rattle.demand_core.specs.Tables.{Decided}
use Rattle.demand_core.specs.Rules.{Meaning, WaitsOn}
use Rattle.demand_core.specs.Computed.{world, computed, each_once}
use Rattle.demand_core.specs.Least.{least, cyclic_on}
use Rattle.link_model.specs.declared.keys.LinkKey.{LinkKey}
use Rattle.link_model.specs.Outside.{Library, seen_in, library_of}
use Rattle.link_model.specs.Readers.{LinkWorld}
use Rattle.value_model.specs.declared.values.NoFact.{NoFact}
use Rattle.value_model.specs.declared.values.Value.TheVariants.{Enumerated}
use Rattle.value_model.specs.declared.values.ValueAnswer.{ValueAnswer}
use Rattle.value_model.specs.declared.values.ValueAnswer.TheVariants.{Value, Refused}
use Rattle.value_model.specs.declared.values.ValueFault.TheVariants.{Unbound, Several, Circular}
use Rattle.value_model.specs.declared.values.ValueKey.{ValueKey}
use Rattle.value_model.specs.Keys.{same_value_key}
use Rattle.value_model.specs.Meant.{Decider, feature_at, type_at, decider, meant}
use Rattle.value_model.specs.Reading.{Nothing, Lead, lead, ask}
use Rattle.value_model.specs.Reading.Lead.{Known, Needs}

-- Which answers may stand in a table: none is circular, as that is seen in the end, and the elements that one names are
-- features.
abbrev pub MayStand : LinkWorld → ValueAnswer → Type 0
MayStand w (Value (Enumerated e)) = feature_at w e ≡ true
MayStand w (Refused (Unbound e)) = feature_at w e ≡ true
MayStand w (Refused (Several e)) = feature_at w e ≡ true
MayStand w (Refused (Circular e)) = ⊥
MayStand w other = Unit {0}

-- The same of an answer to a caller, who is told of circular keys.
abbrev pub NamesFeatures : LinkWorld → ValueAnswer → Type 0
NamesFeatures w (Refused (Circular e)) = feature_at w e ≡ true
NamesFeatures w other = MayStand w other

-- a key has a feature, and a type if it has a target
abbrev pub IsTarget : LinkWorld → Option ElementNo → Type 0
IsTarget w None = Unit {0}
IsTarget w (Some t) = type_at w t ≡ true

pub record IsKey (w : LinkWorld) (k : ValueKey) : Type 0 where
  pub feature : feature_at w k.feature ≡ true
  pub target : IsTarget w k.target

abbrev pub nothing : (f : NoFact) → Nothing f
nothing f = tt

-- the key that a lead needs
abbrev pub needed : Lead → List ValueKey
needed (Known x) = []
needed (Needs k) = k ∷ []

module _ (w : LinkWorld) (lib : Library) where
  -- THE RULES OF VALUES over a list of keys; the links and the files don't change
  abbrev pub value_meaning : List ValueKey → Meaning ValueKey ValueAnswer NoFact
  value_meaning keys = computed (each_once same_value_key) keys (λ k v. MayStand w v) nothing (ask w lib)

  -- each key once, and with each key all those on which it waits in some table
  pub record AreValueKeys (keys : List ValueKey) : Type 0 where
    pub once : IsEachOnce keys
    pub each : (k : ValueKey) → IsMember keys k → IsKey w k
    pub closed : (s : Decided ValueKey ValueAnswer) (k q : ValueKey) → IsMember keys k
        → WaitsOn (ask w lib k (world nothing s)).step q → IsMember keys q

  -- MAY READ. The keys to which the names in the deciding expression lead, without an asking.
  abbrev pub read_by : Option ElementNo → Option Decider → List ValueKey
  read_by t None = []
  read_by t (Some d) = flat_map (λ r. needed (lead w lib d.feature.file t r)) (names_in d.own.nodes)

  abbrev pub read_with : Option ElementNo → Option ElementNo → List ValueKey
  read_with t None = []
  read_with t (Some g) = read_by t (decider w g)

  abbrev pub may_read : ValueKey → List ValueKey
  may_read k = read_with k.target (meant w lib k.feature k.target)

  -- REACHABLE. A list of keys, each once, that holds with each key all that it may read.
  pub record IsReachable (keys : List ValueKey) : Type 0 where
    pub once : IsEachOnce keys
    pub each : (k : ValueKey) → IsMember keys k → IsKey w k
    pub closed : (k q : ValueKey) → IsMember keys k → IsMember (may_read k) q → IsMember keys q

-- what a key has, or else the feature of the key on which it waits in the end
abbrev pub answered : ValueKey → Option ValueAnswer → Option ValueKey → ValueAnswer
answered k (Some v) q = v
answered k None (Some q) = Refused (Circular q.feature)
answered k None None = Refused (Circular k.feature)

-- THE VALUE of a key, by the rules over a list of keys that holds it
abbrev pub value_by : Meaning ValueKey ValueAnswer NoFact → ValueKey → ValueAnswer
value_by m k = answered k (least same_value_key m k) (cyclic_on same_value_key m k)

-- the rules over the files of a project and a table of links
abbrev pub values_of : List StoredFile → Decided LinkKey Outcome → List ValueKey → Meaning ValueKey ValueAnswer NoFact
values_of files links keys = value_meaning (world (seen_in files) links) (library_of files) keys
