-- The value of a key over the links, whatever closed list of keys holds it.
use Rattle.std.specs.Prelude.{◌≡◌, List}
use Rattle.linker_base.specs.Members.{IsMember}
use Rattle.link_model.specs.Outside.{Library}
use Rattle.link_model.specs.Readers.{LinkWorld}
use Rattle.value_model.specs.declared.values.ValueAnswer.{ValueAnswer}
use Rattle.value_model.specs.declared.values.ValueKey.{ValueKey}
use Rattle.value_model.specs.Valuing.{AreValueKeys, value_by, value_meaning}

-- the key has that value by every list of keys that holds it and is closed under waits
abbrev pub HasValue : LinkWorld → Library → ValueKey → ValueAnswer → Type 0
HasValue w lib key x = (keys : List ValueKey) → AreValueKeys w lib keys → IsMember keys key
    → x ≡ value_by (value_meaning w lib keys) key

-- and there is such a list
abbrev pub HasList : LinkWorld → Library → ValueKey → Type 0
HasList w lib key = (keys : List ValueKey) × AreValueKeys w lib keys × IsMember keys key
