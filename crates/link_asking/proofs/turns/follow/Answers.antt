use Rattle.std.proofs.Common.{sym, subst}
use Rattle.std.specs.Prelude.{Some}
use Rattle.element_store.specs.declared.outcome.Outcome.TheVariants.{Ambiguous}
use Rattle.link_model.specs.Lexical.Picked.{Nothing}
use Rattle.link_walk.specs.Calls.{files_of}
use Rattle.link_tiers.specs.Picks.{picked_of}
use Rattle.link_asking.specs.Courses.{Follows, PickStands, StandsOn}
use Rattle.link_asking.specs.declared.turns.Turn.TheVariants as turn
use Rattle.link_asking.proofs.TurnLaws.{follows_hidden, follows_one, follows_several, ended_stands}
use Rattle.link_asking.proofs.turns.follow.Goals as goal

pub returns-in_ok-outcome-in-Nothing-clause-turned : goal.returns-in_ok-outcome-in-Nothing-clause-turned
returns-in_ok-outcome-in-Nothing-clause-turned g c =
    let v = c.args.view.now in
    let n = c.args.number in
    let x = c.args.name.now in
    let o = c.in_ok-outcome-in-Nothing.outcome in
    subst (λ p. Follows v n x c.args.at (picked_of p) c.ended.result c.args.notes.now c.hidden.new.notes) (sym c.in-Nothing.is)
    (subst (λ t. Follows v n x c.args.at Nothing t c.args.notes.now c.hidden.new.notes) (sym c.ended.ensures)
    (follows_hidden v n x c.args.at o c.args.notes.now c.hidden.new.notes c.in_ok-outcome-in-Nothing.ensures))

pub returns-in_ok-outcome-in-Nothing-clause-stands : goal.returns-in_ok-outcome-in-Nothing-clause-stands
returns-in_ok-outcome-in-Nothing-clause-stands g c = λ p.
    subst (StandsOn (files_of c.args.view.now)) (sym c.ended.ensures) (ended_stands (files_of c.args.view.now) c.in_ok-outcome-in-Nothing.outcome)

pub returns-in-One-clause-turned : goal.returns-in-One-clause-turned
returns-in-One-clause-turned g c =
    let v = c.args.view.now in
    let x = c.args.name.now in
    subst (λ p. Follows v c.args.number x c.args.at (picked_of p) (Some (turn.On c.in-One.element)) c.args.notes.now c.args.notes.now) (sym c.in-One.is)
    (follows_one v c.args.number x c.args.at c.in-One.element c.args.notes.now)

pub returns-in-One-clause-stands : goal.returns-in-One-clause-stands
returns-in-One-clause-stands g c = λ p. subst (PickStands (files_of c.args.view.now)) c.in-One.is p

pub returns-in-Several-clause-turned : goal.returns-in-Several-clause-turned
returns-in-Several-clause-turned g c =
    let v = c.args.view.now in
    let n = c.args.number in
    let x = c.args.name.now in
    let end = turn.Ended (Ambiguous n c.in-Several.first c.in-Several.second) in
    subst (λ p. Follows v n x c.args.at (picked_of p) (Some end) c.args.notes.now c.args.notes.now) (sym c.in-Several.is)
    (follows_several v n x c.args.at c.in-Several.first c.in-Several.second c.args.notes.now)
