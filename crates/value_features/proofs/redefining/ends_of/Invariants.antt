use Rattle.std.proofs.Common.{◌≡◌, ◌++◌, drop}
use Rattle.std.specs.List.{flat_map}
use Rattle.link_walk.specs.Calls.{read_by}
use Rattle.value_features.specs.Deciders.{end_of}
use Rattle.value_features.proofs.redefining.ends_of.Given as goal

abbrev pub invariant-loop-key : goal.invariant-loop-key
invariant-loop-key l = l.ends ++ flat_map (λ k. end_of ((read_by l.view).table k)) (drop l.key-index l.keys)
    ≡ flat_map (λ k. end_of ((read_by l.view).table k)) l.keys
