use Rattle.std.proofs.Common.{ℕ}
use Rattle.std.specs.Prelude.{◌≤◌, ◌^◌}
use Rattle.link_model.specs.Outside.{library_of}
use Rattle.link_walk.specs.Calls.{elements_of, files_of, read_by}
use Rattle.import_walk.specs.Deferred.{HitAsked, IsHunt, asks_task, AllTasksStand, weight}
use Rattle.import_walk.proofs.visibility.run.Given as goal

-- what is known, with what the tasks that are left give
abbrev pub invariant-loop-task : goal.invariant-loop-task
invariant-loop-task g l = record {
  stand : AllTasksStand (files_of l.fn.view) l.hunt.nodes;
  hunt : (base : ℕ) (a : HitAsked) → 2 ^ 64 ≤ base → IsHunt (asks_task (library_of (files_of l.fn.view)) l.name base) (read_by l.fn.view) a l.fn.hunt
      → IsHunt (asks_task (library_of (files_of l.fn.view)) l.name base) (read_by l.fn.view) a l.hunt;
}

abbrev pub decreases-loop-task : goal.decreases-loop-task
decreases-loop-task g l = weight (elements_of (files_of l.fn.view)) l.hunt.nodes
