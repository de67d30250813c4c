use Rattle.std.proofs.Common.{◌∙◌, ◌+◌, ◌<◌, ◌≤◌, length, sym, subst, arith, length-append}
use Rattle.link_walk.specs.Calls.{files_of}
use Rattle.link_asking.specs.Courses.{names_of, GoesOn}
use Rattle.link_asking.proofs.TurnLaws.{AreLeft, left_first, left_next, left_stops, left_none, onward_stands}
use Rattle.link_asking.proofs.searching.go_on.Goals as goal

pub step-requires-clause-stands : goal.step-requires-clause-stands
step-requires-clause-stands g c = c.loop-number.invariant.0

pub loop-number-init : goal.loop-number-init
loop-number-init g c = (
  c.requires.stands,
  left_first c.args.view.now (names_of c.args.written.now.path.now c.args.written.now.chain.now) c.args.from c.args.found.now c.args.notes.now,
)

pub loop-number-preserved : goal.loop-number-preserved
loop-number-preserved g c =
    let names = names_of c.args.written.now.path.now c.args.written.now.chain.now in
    let on = sym c.onward.ensures ∙ c.in-Some.is in
    let less = c.loop-number-test.true in
    let long = length-append c.args.written.now.path.now c.args.written.now.chain.now in (
      onward_stands (files_of c.args.view.now) c.in_ok-turn.turn c.in-Some.element on c.in_ok-turn.ensures.stands,
      subst (λ es. AreLeft c.args.view.now names c.args.from c.args.found.now c.args.notes.now (c.loop-number.number + 1) c.in-Some.element es c.step.new.notes)
          (sym c.in_ok-push.ensures.ok)
          (left_next c.args.view.now names c.args.from c.args.found.now c.args.notes.now c.loop-number.number c.name-name.result.now c.loop-number.at
          c.in-Some.element c.loop-number.found c.in_ok-turn.turn c.loop-number.notes c.step.new.notes (omega (arith, less, long)) c.name-name.ensures on
          c.loop-number.invariant.1 c.in_ok-turn.ensures.turned),
    )

pub loop-number-preserved-in_ok-push-3 : goal.loop-number-preserved-in_ok-push-3
loop-number-preserved-in_ok-push-3 g c =
    let names = names_of c.args.written.now.path.now c.args.written.now.chain.now in
    let on = sym c.onward.ensures ∙ c.in-Some.is in
    let less = c.loop-number-test.true in
    let long = length-append c.args.written.now.path.now c.args.written.now.chain.now in (
      onward_stands (files_of c.args.view.now) c.in_ok-turn.turn c.in-Some.element on c.in_ok-turn.ensures.stands,
      subst (λ es. AreLeft c.args.view.now names c.args.from c.args.found.now c.args.notes.now (c.loop-number.number + 1) c.in-Some.element es c.step.new.notes)
          (sym c.in_ok-push.ensures.ok)
          (left_next c.args.view.now names c.args.from c.args.found.now c.args.notes.now c.loop-number.number c.name-name.result.now c.loop-number.at
          c.in-Some.element c.loop-number.found c.in_ok-turn.turn c.loop-number.notes c.step.new.notes (omega (arith, less, long)) c.name-name.ensures on
          c.loop-number.invariant.1 c.in_ok-turn.ensures.turned),
    )

pub returns-in_default : goal.returns-in_default
returns-in_default g c =
    let names = names_of c.args.written.now.path.now c.args.written.now.chain.now in
    let less = c.loop-number-test.true in
    let long = length-append c.args.written.now.path.now c.args.written.now.chain.now in
    left_stops c.args.view.now names c.args.from c.args.found.now c.args.notes.now c.loop-number.number c.name-name.result.now c.loop-number.at
    c.loop-number.found c.in_ok-turn.turn c.loop-number.notes c.step.new.notes (omega (arith, less, long)) c.name-name.ensures
    (sym c.onward.ensures ∙ c.in_default.is) c.loop-number.invariant.1 c.in_ok-turn.ensures.turned

pub returns : goal.returns
returns g c =
    let names = names_of c.args.written.now.path.now c.args.written.now.chain.now in
    let over = c.loop-number-test.false in
    let long = length-append c.args.written.now.path.now c.args.written.now.chain.now in
    left_none c.args.view.now names c.args.from c.args.found.now c.args.notes.now c.loop-number.number c.loop-number.at c.loop-number.found c.loop-number.notes
    (omega (arith, over, long)) c.loop-number.invariant.1
