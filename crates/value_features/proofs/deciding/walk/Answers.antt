use Rattle.std.proofs.Common.{◌∙◌, [], refl, sym, ap, arith}
use Rattle.std.specs.Prelude.{◌^◌}
use Rattle.link_walk.specs.Calls.{read_by}
use Rattle.value_model.specs.Meant.{decider}
use Rattle.value_features.specs.Deciders.{first_from}
use Rattle.value_features.proofs.DecidingLaws.{walk_on, walk_found, walk_empty, no_items}
use Rattle.value_features.proofs.deciding.walk.Goals as goal

pub loop-init : goal.loop-init
loop-init c =
    let w = read_by c.args.view.now in
    (2 ^ 64, refl, ap (λ seen. first_from w (2 ^ 64) seen c.args.todo.now.items) c.requires.seen ∙ ap (first_from w (2 ^ 64) []) c.requires.todo)

pub returns-in_default-clause-decides : goal.returns-in_default-clause-decides
returns-in_default-clause-decides c =
    let w = read_by c.args.view.now in
    walk_empty w (2 ^ 64) c.loop.counter (decider w c.args.feature) c.loop.seen c.loop.todo.items c.loop.invariant
    (no_items c.loop.todo.items (sym c.loop.todo.ok.0 ∙ c.in_default.ensures.cases.0))

pub returns-in-Some-2-clause-decides : goal.returns-in-Some-2-clause-decides
returns-in-Some-2-clause-decides c =
    let w = read_by c.args.view.now in
    walk_found w (2 ^ 64) c.loop.counter (decider w c.args.feature) c.loop.seen c.loop.todo.items c.pop.new.self.items c.step.new.seen c.step.new.todo.items
    c.in-Some.next c.in_ok-found.field-0 c.in-Some-2.found c.loop.invariant (omega arith) c.in-Some.ensures.items c.in_ok-found.ensures.steps c.in-Some-2.is

pub loop-preserved : goal.loop-preserved
loop-preserved c =
    let w = read_by c.args.view.now in
    walk_on w (2 ^ 64) c.loop.counter (decider w c.args.feature) c.loop.seen c.loop.todo.items c.pop.new.self.items c.step.new.seen c.step.new.todo.items
    c.in-Some.next c.in_ok-found.field-0 c.loop.invariant (omega arith) c.in-Some.ensures.items c.in_ok-found.ensures.steps c.in-None.is
