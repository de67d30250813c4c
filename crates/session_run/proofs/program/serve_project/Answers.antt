use Rattle.std.proofs.Common.{[], subst}
use Rattle.std.specs.Prelude.{false}
use Rattle.sysml_session.specs.Answered.{Holding, across}
use Rattle.sysml_session.specs.Turns.{ending_of, HasServed}
use Rattle.sysml_session.proofs.Loops.{nothing_served}
use Rattle.session_run.proofs.Seen.{seen}
use Rattle.session_run.proofs.program.serve_project.Goals as goal

pub returns-in-Ok-clause-served : goal.returns-in-Ok-clause-served
returns-in-Ok-clause-served g c bytes told =
    let after = g.P.Answering.holding c.serve.new.project in (
      after.book,
      (subst (λ (h : Holding). HasServed h after (across g.S.Source.left g.S.Source.faults c.args.input.now c.serve.new.input)
          (across g.K.Sink.given g.K.Sink.faults c.args.output.now c.serve.new.output) c.serve.result) c.in-Ok.ensures c.serve.ensures.served) bytes told,
    )

pub returns-in-Err-clause-served : goal.returns-in-Err-clause-served
returns-in-Err-clause-served g c bytes told = (
  [],
  nothing_served (record { library = g.P.Opening.library; book = []; broken = false })
      (seen g.K.Sink.given g.K.Sink.faults c.args.output.now) bytes,
)
