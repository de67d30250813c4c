use Rattle.std.proofs.Common.{◌≡◌, ◌++◌, drop}
use Rattle.std.specs.List.{flat_map}
use Rattle.link_model.specs.Outside.{keys_in, keys_of, numbered_from}
use Rattle.kept_links.proofs.keys.keys_of.Given as goal

-- what is listed, and what is left, is all
abbrev pub invariant-loop-file : goal.invariant-loop-file
invariant-loop-file l = l.keys.items ++ flat_map keys_in (numbered_from l.file (drop l.file l.models)) ≡ keys_of l.models
