use Rattle.std.proofs.Common.{◌∙◌, drop, sym, subst}
use Rattle.link_walk.specs.Calls.{files_of}
use Rattle.link_asking.specs.Courses.{names_of, RunsAlong}
use Rattle.link_asking.proofs.TurnLaws.{runs_stop, runs_on, onward_stands}
use Rattle.link_asking.proofs.searching.along.Goals as goal

pub later-requires-clause-stands : goal.later-requires-clause-stands
later-requires-clause-stands g c =
    onward_stands (files_of c.args.view.now) c.in_ok-turn.turn c.in-Some.element (sym c.onward.ensures ∙ c.in-Some.is) c.in_ok-turn.ensures.stands

pub returns-in_default : goal.returns-in_default
returns-in_default g c =
    let names = drop 1 (names_of c.args.written.now.path.now c.args.written.now.chain.now) in
    subst (λ k. RunsAlong c.args.view.now c.args.tier.now names k c.args.notes.now c.begin.new.notes) (sym c.course_at.ensures)
    (runs_stop c.args.view.now c.args.tier.now names c.args.notes.now c.begin.new.notes c.in_ok-turn.turn c.new.result
    (sym c.onward.ensures ∙ c.in_default.is) c.in_ok-turn.ensures.turned)

pub returns : goal.returns
returns g c =
    let names = drop 1 (names_of c.args.written.now.path.now c.args.written.now.chain.now) in
    runs_on c.args.view.now c.args.tier.now names c.args.notes.now c.begin.new.notes c.in_ok-turn.turn c.in-Some.element c.in_ok-course.course c.later.new.notes
    (sym c.onward.ensures ∙ c.in-Some.is) c.in_ok-turn.ensures.turned c.in_ok-course.ensures
