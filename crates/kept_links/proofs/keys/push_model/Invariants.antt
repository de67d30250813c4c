use Rattle.std.proofs.Common.{◌≡◌, ◌++◌, map, drop}
use Rattle.element_store.specs.Numbers.{places_from}
use Rattle.link_model.specs.Readers.{key}
use Rattle.kept_links.proofs.keys.push_model.Given as goal

-- what is appended, and what is left, is all
abbrev pub invariant-loop-index : goal.invariant-loop-index
invariant-loop-index l = l.keys.items ++ map (key l.file) (places_from l.index (drop l.index l.model.references))
    ≡ l.initial.keys.items ++ map (key l.file) (places_from 0 l.model.references)
