use Rattle.std.specs.Prelude.{◌^◌}
use Rattle.link_walk.specs.Calls.{read_by}
use Rattle.value_model.specs.Meant.{decider}
use Rattle.value_features.proofs.DecidingLaws.{IsLeft}
use Rattle.value_features.proofs.deciding.walk.Given as goal

abbrev pub invariant-loop : goal.invariant-loop
invariant-loop l =
    IsLeft (read_by l.view) (2 ^ 64) l.counter (decider (read_by l.view) l.fn.feature) l.seen l.todo.items
