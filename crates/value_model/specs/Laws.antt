-- What the laws of values say.
use Rattle.std.specs.Prelude.{◌≡◌, List}
use Rattle.linker_base.specs.Members.{IsMember}
use Rattle.link_model.specs.Outside.{Library}
use Rattle.link_model.specs.Readers.{LinkWorld}
use Rattle.value_model.specs.declared.values.ValueKey.{ValueKey}
use Rattle.value_model.specs.Valuing.{NamesFeatures, value_by, value_meaning}

-- Keys of values have no order: an asking waits on one key at a time.
abbrev pub NeverBefore : ValueKey → ValueKey → Type 0
NeverBefore a b = ⊥

-- a key that stands in two closed lists has one value by both
abbrev pub HaveSameValues : LinkWorld → Library → List ValueKey → List ValueKey → Type 0
HaveSameValues w lib xs ys = (k : ValueKey) → IsMember xs k → IsMember ys k
    → value_by (value_meaning w lib ys) k ≡ value_by (value_meaning w lib xs) k

-- the elements that the value of a key names are features
abbrev pub NameFeatures : LinkWorld → Library → List ValueKey → Type 0
NameFeatures w lib keys = (k : ValueKey) → IsMember keys k → NamesFeatures w (value_by (value_meaning w lib keys) k)
