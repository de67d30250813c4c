use Rattle.sysml_session.proofs.Commands.{gave_all, gave_front}
use Rattle.sysml_session.proofs.answering.give_piece.Goals as goal

pub returns-in-Ok : goal.returns-in-Ok
returns-in-Ok g c = (
  gave_all _ _ _ (g.K.Sink.faults c.args.output.now) (g.K.Sink.faults c.give_all.new.sink) _ _ c.in-Ok.ensures.told,
  c.in-Ok.ensures.cause.kept,
)

pub returns-in-Err : goal.returns-in-Err
returns-in-Err g c = (
  gave_front _ _ _ (g.K.Sink.faults c.args.output.now) (g.K.Sink.faults c.give_all.new.sink) _ _ c.in-Err.ensures.told,
  (c.in-Err.ensures.cause.later, c.in-Err.ensures.cause.failed),
)
