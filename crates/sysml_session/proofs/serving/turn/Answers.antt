use Rattle.std.proofs.Common.{arith}
use Rattle.script_commands.specs.Lines.{command_of}
use Rattle.sysml_session.proofs.Ways.{turn_stopped, turn_done}
use Rattle.sysml_session.proofs.serving.turn.Goals as goal

pub returns-in-Err-clause-turned : goal.returns-in-Err-clause-turned
returns-in-Err-clause-turned g c = turn_stopped _ _ _ _ _ _ c.in-Err.stop _ c.in-Err.ensures.read c.after_stop.ensures.within c.after_stop.ensures.fault

pub returns-in-Ok-clause-turned : goal.returns-in-Ok-clause-turned
returns-in-Ok-clause-turned g c = turn_done _ _ _ _ _ _ _ _ (g.K.Sink.faults c.args.output.now) (g.K.Sink.faults c.answer.new.output)
    (command_of c.in-Ok.command) c.answer.result
    c.in-Ok.ensures.read (omega (arith, c.taken.ensures.count, c.taken.ensures.within)) c.answer.ensures

pub answer-requires-clause-good : goal.answer-requires-clause-good
answer-requires-clause-good g c = c.in-Ok.ensures.read.outcome.0
