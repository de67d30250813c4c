use Rattle.std.proofs.Common.{ℕ, []}
use Rattle.demand_core.specs.Search.{IsRoom}
use Rattle.link_model.specs.Keys.{same_element}
use Rattle.link_model.specs.Readers.{Lookup}
use Rattle.link_model.specs.declared.keys.Hit.{Hit}
use Rattle.std.specs.Prelude.{List}
use Rattle.link_walk.specs.Calls.{elements_of, files_of, read_by}
use Rattle.import_walk.specs.Deferred.{AllTasksStand, Asking, DefersIn, lib_of, shows, task_of}
use Rattle.import_walk.specs.Plain.{nothing_yet}
use Rattle.import_walk.proofs.PlainLaws.{IsPlain, load}
use Rattle.import_walk.proofs.plain.run_plain.Given as goal

-- what is known, with what is visible from the tasks that are left
abbrev pub invariant-loop-task : goal.invariant-loop-task
invariant-loop-task g l = record {
  stand : AllTasksStand (files_of l.fn.view) l.hunt.nodes;
  room : IsRoom same_element (elements_of (files_of l.fn.view)) l.marks;
  plain : (c : Asking → Lookup (List Hit)) (n : ℕ) → DefersIn l.fn.view [] n c nothing_yet l.fn.hunt → IsPlain (read_by l.fn.view) (files_of l.fn.view)
      (λ e. task_of [] l.mode.recursive l.mode.all e)
      (λ e ask. shows (lib_of l.fn.view) l.name ask [] (task_of [] l.mode.recursive l.mode.all e) (read_by l.fn.view)) l.excluded
      (λ ask. c ask (read_by l.fn.view)) l.marks l.hunt;
}

abbrev pub decreases-loop-task : goal.decreases-loop-task
decreases-loop-task g l = load (elements_of (files_of l.fn.view)) l.marks l.hunt.nodes
