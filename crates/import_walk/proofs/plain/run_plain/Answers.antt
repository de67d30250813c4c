use Rattle.std.proofs.Common.{◌++◌, ◌-◌, ◌<◌, [], sym, ◌∙◌, ap, subst, take}
use Rattle.demand_core.specs.Search.{IsRoom}
use Rattle.demand_core.proofs.WalkLaws.{room_begins}
use Rattle.link_model.specs.Keys.{same_element}
use Rattle.link_walk.specs.Calls.{elements_of, read_by}
use Rattle.link_walk.proofs.ElementLaws.{elements_few}
use Rattle.import_walk.specs.Deferred.{HuntTrail, AllTasksStand, shows, task_of, lib_of}
use Rattle.import_walk.proofs.DeferLaws.{hunt_of, task_in}
use Rattle.import_walk.proofs.PartLaws.{narrow}
use Rattle.import_walk.proofs.PlainLaws.{IsPlainIn, load, plain_begins, next_plain, next_room, next_stand, next_less, plain_asked}
use Rattle.import_walk.proofs.plain.run_plain.Goals as goal

pub loop-task-init : goal.loop-task-init
loop-task-init g c =
    let v = c.args.view.now in
    let w = read_by v in
    let m = c.last_mode-mode.result in
    record {
      stand = c.requires.stand;
      room = subst (λ z. IsRoom same_element (elements_of v.models.now) z) (sym c.new-marks.ensures) (room_begins same_element (elements_of v.models.now));
      plain = λ d n h. subst (λ z. IsPlainIn v c.args.name.now c.args.excluded.now m d z c.args.hunt) (sym c.new-marks.ensures)
          (plain_begins w v.models.now (λ e. task_of [] m.recursive m.all e)
          (λ e ask. shows (lib_of v) c.args.name.now ask [] (task_of [] m.recursive m.all e) w)
          c.args.excluded.now (λ ask. d ask w) n c.args.hunt h);
    }

pub visit-requires-clause-stands : goal.visit-requires-clause-stands
visit-requires-clause-stands g c =
    task_in c.args.view.now.models.now c.in-Some.task c.pop.new.self.items c.loop-task.hunt.nodes
    (sym (ap (λ z. z.nodes) c.hunt-in-loop-task.view_is) ∙ c.in-Some.ensures.items) c.loop-task.invariant.stand

pub loop-task-smaller : goal.loop-task-smaller
loop-task-smaller g c =
    let v = c.args.view.now in
    let t = c.in-Some.task in
    let rest = c.pop.new.self.items in
    let old = hunt_of c.hunt-in-loop-task.inside.tasks.items c.hunt-in-loop-task.inside.found c.hunt-in-loop-task.inside.notes in
    let stands = task_in v.models.now t rest old.nodes c.in-Some.ensures.items
    (subst (λ (h : HuntTrail). AllTasksStand v.models.now h.nodes) (sym c.hunt-in-loop-task.view_is) c.loop-task.invariant.stand) in
    subst (λ (h : HuntTrail). load (elements_of v.models.now) c.visit.new.marks c.visit.new.hunt.nodes < load (elements_of v.models.now) c.loop-task.marks
    h.nodes) c.hunt-in-loop-task.view_is
    (next_less v c.args.name.now c.args.excluded.now t rest c.loop-task.marks c.visit.new.marks old c.visit.new.hunt c.in-Some.ensures.items
    c.in_ok-visit.ensures (narrow v.models.now c.files.ensures.kept t.namespace stands) stands c.loop-task.invariant.room)

pub loop-task-preserved : goal.loop-task-preserved
loop-task-preserved g c =
    let v = c.args.view.now in
    let m = c.last_mode-mode.result in
    let t = c.in-Some.task in
    let rest = c.pop.new.self.items in
    let old = hunt_of c.hunt-in-loop-task.inside.tasks.items c.hunt-in-loop-task.inside.found c.hunt-in-loop-task.inside.notes in
    let x = c.args.name.now in
    let excluded = c.args.excluded.now in
    let stand = subst (λ (h : HuntTrail). AllTasksStand v.models.now h.nodes) (sym c.hunt-in-loop-task.view_is) c.loop-task.invariant.stand in
    let stands = task_in v.models.now t rest old.nodes c.in-Some.ensures.items stand in
    record {
      stand = next_stand v x excluded t rest c.loop-task.marks c.visit.new.marks old c.visit.new.hunt c.in-Some.ensures.items c.in_ok-visit.ensures stand;
      room = next_room v x excluded t rest c.loop-task.marks c.visit.new.marks old c.visit.new.hunt c.in-Some.ensures.items c.in_ok-visit.ensures stands
          c.loop-task.invariant.room;
      plain = λ d n h. next_plain v x excluded t rest c.loop-task.marks c.visit.new.marks old c.visit.new.hunt c.in-Some.ensures.items c.in_ok-visit.ensures
          m d (c.asks-alike.ensures c.if-not-alike.false)
          (subst (λ z. IsPlainIn v x excluded m d c.loop-task.marks z) (sym c.hunt-in-loop-task.view_is) (c.loop-task.invariant.plain d n h));
    }

pub returns : goal.returns
returns g c d n h sound =
    let v = c.args.view.now in
    let m = c.last_mode-mode.result in
    let asked = plain_asked v c.args.name.now c.args.excluded.now m d c.loop-task.marks
    (hunt_of c.hunt-in-loop-task.inside.tasks.items c.hunt-in-loop-task.inside.found c.hunt-in-loop-task.inside.notes) (c.in_default.ensures.items ∙ ap
    (λ z. z ++ []) (c.in_default.ensures.rest ∙ ap (λ k. take (k - 1) c.hunt-in-loop-task.inside.tasks.items) c.in_default.ensures.cases.0))
    (elements_few v.models.now c.files.ensures.kept) sound
    (subst (λ z. IsPlainIn v c.args.name.now c.args.excluded.now m d c.loop-task.marks z) (sym c.hunt-in-loop-task.view_is)
    (c.loop-task.invariant.plain d n h)) in
    record { step = asked.step; looks = asked.looks }
