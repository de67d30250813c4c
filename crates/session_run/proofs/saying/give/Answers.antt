use Rattle.sysml_session.proofs.Commands.{gave_all, gave_front}
use Rattle.session_run.proofs.saying.give.Goals as goal

pub returns-in-Ok : goal.returns-in-Ok
returns-in-Ok g c = (
  gave_all _ _ _ (g.E.Sink.faults c.args.errors.now) (g.E.Sink.faults c.give_all.new.sink) _ _ c.in-Ok.ensures.told,
  c.in-Ok.ensures.cause.kept,
)

pub returns-in-Err : goal.returns-in-Err
returns-in-Err g c = (
  gave_front _ _ _ (g.E.Sink.faults c.args.errors.now) (g.E.Sink.faults c.give_all.new.sink) _ _ c.in-Err.ensures.told,
  (c.in-Err.ensures.cause.later, c.in-Err.ensures.cause.failed),
)
