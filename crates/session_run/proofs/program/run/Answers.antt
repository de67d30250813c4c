use Rattle.std.proofs.Common.{◌∙◌, [], sym, refl, inr}
use Rattle.std.specs.Prelude.{map, string_bytes}
use Rattle.session_streams.specs.Running.{streams}
use Rattle.session_streams.proofs.Giving.{gave_none}
use Rattle.session_streams.proofs.RunLemmas.{quiet_said, quiet_usage, ran_session, causes_session, causes_usage, said_no_usage, said_usage}
use Rattle.sysml_session.specs.Answered.{across}
use Rattle.sysml_session.specs.Turns.{ending_of}
use Rattle.session_run.proofs.Seen.{seen}
use Rattle.session_run.proofs.program.run.Goals as goal

pub returns-then-not-are_session-clause-quiet : goal.returns-then-not-are_session-clause-quiet
returns-then-not-are_session-clause-quiet g c = λ bytes told none.
    let io = streams (across g.S.Source.left g.S.Source.faults c.args.input.now c.args.input.now)
    (across g.K.Sink.given g.K.Sink.faults c.args.output.now c.args.output.now)
    (across g.E.Sink.given g.E.Sink.faults c.args.errors.now c.say.new.errors) in
    quiet_usage g.P.Opening.library (map string_bytes c.args.words.now) bytes io _ (sym c.are_session.ensures ∙ c.if-not-are_session.true)
    (gave_none (seen g.K.Sink.given g.K.Sink.faults c.args.output.now)) c.say.ensures none

pub returns-then-not-are_session-clause-ran : goal.returns-then-not-are_session-clause-ran
returns-then-not-are_session-clause-ran g c = λ bytes told. inr (sym c.are_session.ensures ∙ c.if-not-are_session.true, refl, refl, c.say.ensures)

pub returns-then-not-are_session-clause-causes : goal.returns-then-not-are_session-clause-causes
returns-then-not-are_session-clause-causes g c =
    let io = streams (across g.S.Source.left g.S.Source.faults c.args.input.now c.args.input.now)
    (across g.K.Sink.given g.K.Sink.faults c.args.output.now c.args.output.now)
    (across g.E.Sink.given g.E.Sink.faults c.args.errors.now c.say.new.errors) in
    causes_usage io _ refl refl c.say.ensures

pub returns-then-not-are_session-clause-refused : goal.returns-then-not-are_session-clause-refused
returns-then-not-are_session-clause-refused g c = λ is.
    (refl, refl, said_usage (across g.E.Sink.given g.E.Sink.faults c.args.errors.now c.say.new.errors) _ c.say.ensures)

pub returns-clause-quiet : goal.returns-clause-quiet
returns-clause-quiet g c = λ bytes told none.
    let io = streams (across g.S.Source.left g.S.Source.faults c.args.input.now c.serve_project-ended.new.input)
    (across g.K.Sink.given g.K.Sink.faults c.args.output.now c.serve_project-ended.new.output)
    (across g.E.Sink.given g.E.Sink.faults c.args.errors.now c.report.new.errors) in
    let served = c.serve_project-ended.ensures.served bytes told in
    quiet_said g.P.Opening.library (map string_bytes c.args.words.now) bytes [] served.0 io (ending_of c.serve_project-ended.result) _
    (sym c.are_session.ensures ∙ c.if-not-are_session.false) refl served.1 c.serve_project-ended.ensures.causes c.report.ensures none

pub returns-clause-ran : goal.returns-clause-ran
returns-clause-ran g c = λ bytes told.
    let io = streams (across g.S.Source.left g.S.Source.faults c.args.input.now c.serve_project-ended.new.input)
    (across g.K.Sink.given g.K.Sink.faults c.args.output.now c.serve_project-ended.new.output)
    (across g.E.Sink.given g.E.Sink.faults c.args.errors.now c.report.new.errors) in
    let served = c.serve_project-ended.ensures.served bytes told in
    ran_session g.P.Opening.library (map string_bytes c.args.words.now) bytes [] served.0 io (ending_of c.serve_project-ended.result) _
    (sym c.are_session.ensures ∙ c.if-not-are_session.false) refl served.1 c.report.ensures

pub returns-clause-causes : goal.returns-clause-causes
returns-clause-causes g c =
    let io = streams (across g.S.Source.left g.S.Source.faults c.args.input.now c.serve_project-ended.new.input)
    (across g.K.Sink.given g.K.Sink.faults c.args.output.now c.serve_project-ended.new.output)
    (across g.E.Sink.given g.E.Sink.faults c.args.errors.now c.report.new.errors) in
    causes_session io (ending_of c.serve_project-ended.result) _ c.serve_project-ended.ensures.causes c.report.ensures

pub returns-clause-usage : goal.returns-clause-usage
returns-clause-usage g c = λ is.
    absurd (said_no_usage (across g.E.Sink.given g.E.Sink.faults c.args.errors.now c.report.new.errors) (ending_of c.serve_project-ended.result) _
    c.report.ensures is)
