use Rattle.std.proofs.Common.{◌++◌, ◌-◌, take, ◌^◌, [], ◌∷◌, refl, sym, ◌∙◌, ap, subst, arith}
use Rattle.link_model.specs.Outside.{library_of}
use Rattle.link_walk.specs.Calls.{elements_of, read_by}
use Rattle.link_walk.proofs.ElementLaws.{element_among}
use Rattle.import_walk.specs.Deferred.{IsHunt, asks_task, width}
use Rattle.import_walk.proofs.DeferLaws.{hunt_of, hunt_next, hunt_ends, hunt_less, task_in, tasks_in}
use Rattle.import_walk.proofs.PartLaws.{narrow}
use Rattle.import_walk.proofs.visibility.run.Goals as goal

pub expand-requires-clause-stands : goal.expand-requires-clause-stands
expand-requires-clause-stands g c =
    let files = c.args.view.now.models.now in
    let t = c.in-Some.task in
    let rest = c.pop.new.self.items in
    task_in files t rest c.loop-task.hunt.nodes (sym (ap (λ z. z.nodes) c.hunt.view_is) ∙ c.in-Some.ensures.items) c.loop-task.invariant.stand

pub loop-task-smaller : goal.loop-task-smaller
loop-task-smaller g c =
    let files = c.args.view.now.models.now in
    let lib = library_of files in
    let x = c.args.name.now in
    let w = read_by c.args.view.now in
    let t = c.in-Some.task in
    let rest = c.pop.new.self.items in
    let nodes = sym (ap (λ z. z.nodes) c.hunt.view_is) ∙ c.in-Some.ensures.items in
    let stands = task_in files t rest c.loop-task.hunt.nodes nodes c.loop-task.invariant.stand in
    hunt_less (asks_task lib x (2 ^ 64)) files w (elements_of files) (width files t) (asks_task lib x (2 ^ 64) t w) t rest c.loop-task.hunt
    (hunt_of rest c.hunt.inside.found c.hunt.inside.notes) c.expand.new.hunt nodes refl
    (element_among files t.namespace stands) (narrow files c.files.ensures.kept t.namespace stands) c.in_ok-expand.ensures.excluded
    (c.in_ok-expand.ensures.gives (2 ^ 64) (omega arith))

pub loop-task-preserved : goal.loop-task-preserved
loop-task-preserved g c =
    let files = c.args.view.now.models.now in
    let lib = library_of files in
    let x = c.args.name.now in
    let w = read_by c.args.view.now in
    let t = c.in-Some.task in
    let rest = c.pop.new.self.items in
    let nodes = sym (ap (λ z. z.nodes) c.hunt.view_is) ∙ c.in-Some.ensures.items in
    record {
      stand = tasks_in (asks_task lib x (2 ^ 64)) files w (t.namespace ∷ t.excluded) (width files t) (asks_task lib x (2 ^ 64) t w) t rest c.loop-task.hunt
          (hunt_of rest c.hunt.inside.found c.hunt.inside.notes) c.expand.new.hunt nodes refl c.loop-task.invariant.stand
          (c.in_ok-expand.ensures.gives (2 ^ 64) (omega arith));
      hunt = λ base a le h. hunt_next (asks_task lib x base) files w (t.namespace ∷ t.excluded) (width files t) a t rest
          (hunt_of c.hunt.inside.tasks.items c.hunt.inside.found c.hunt.inside.notes) c.expand.new.hunt c.in-Some.ensures.items
          (subst (IsHunt (asks_task lib x base) w a) (sym c.hunt.view_is) (c.loop-task.invariant.hunt base a le h)) (c.in_ok-expand.ensures.gives base le);
    }

pub returns : goal.returns
returns g c base a le sound h =
    let files = c.args.view.now.models.now in
    let lib = library_of files in
    let x = c.args.name.now in
    let w = read_by c.args.view.now in
    let asked = hunt_ends (asks_task lib x base) w a (hunt_of c.hunt.inside.tasks.items c.hunt.inside.found c.hunt.inside.notes)
    (c.in_default.ensures.items ∙ ap
    (λ z. z ++ []) (c.in_default.ensures.rest ∙ ap (λ n. take (n - 1) c.hunt.inside.tasks.items) c.in_default.ensures.cases.0)) sound
    (subst (IsHunt (asks_task lib x base) w a) (sym c.hunt.view_is) (c.loop-task.invariant.hunt base a le h)) in
    record { step = asked.step; looks = asked.looks }
