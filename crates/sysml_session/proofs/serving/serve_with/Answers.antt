use Rattle.std.proofs.Common.{◌∙◌, refl, subst}
use Rattle.std.specs.Prelude.{Ok}
use Rattle.session_course.specs.Stops.{Ending}
use Rattle.sysml_session.specs.Turns.{sight, fault_ending, IsTurnFrom, IsForward}
use Rattle.sysml_session.specs.declared.serving.Flow.{Flow}
use Rattle.sysml_session.proofs.Loops.{way_begun, served_so}
use Rattle.sysml_session.proofs.serving.serve_with.Goals as goal

pub loop-fault-init : goal.loop-fault-init
loop-fault-init g c = record {
  way = way_begun _ _ _ _ c.requires.fresh;
  whole = c.requires.whole;
  input = refl;
  output = refl;
}

pub loop-fault-preserved : goal.loop-fault-preserved
loop-fault-preserved g c = record {
  way = λ bytes told. subst (λ (f : Flow). IsTurnFrom
      (sight (g.P.Answering.holding c.loop-fault.project) c.loop-fault.reader (g.S.Source.left c.loop-fault.input) (g.K.Sink.given c.loop-fault.output))
      (sight (g.P.Answering.holding c.turn.new.project) c.turn.new.reader (g.S.Source.left c.turn.new.input) (g.K.Sink.given c.turn.new.output)) (Ok f))
      c.in-Ok-GoesOn.field-0-is c.in-Ok-GoesOn.ensures.turned _ bytes (c.loop-fault.invariant.way bytes told);
  whole = (subst (λ (f : Flow). IsForward c.loop-fault.reader c.turn.new.reader (g.P.Answering.holding c.turn.new.project) (Ok f))
      c.in-Ok-GoesOn.field-0-is c.in-Ok-GoesOn.ensures.forward).2;
  input = c.in-Ok-GoesOn.ensures.causes.0 ∙ c.loop-fault.invariant.input;
  output = c.in-Ok-GoesOn.ensures.causes.1 ∙ c.loop-fault.invariant.output;
}

pub returns-in-Ok-Ended-clause-served : goal.returns-in-Ok-Ended-clause-served
returns-in-Ok-Ended-clause-served g c bytes told = served_so _ _ _ bytes (g.S.Source.left c.args.input.now) (g.S.Source.left c.turn.new.input)
    (g.K.Sink.given c.args.output.now) (g.K.Sink.given c.turn.new.output) (g.S.Source.faults c.args.input.now) (g.S.Source.faults c.turn.new.input)
    (g.K.Sink.faults c.args.output.now) (g.K.Sink.faults c.turn.new.output) Ending.Done
    (subst (λ (f : Flow). IsTurnFrom
    (sight (g.P.Answering.holding c.loop-fault.project) c.loop-fault.reader (g.S.Source.left c.loop-fault.input) (g.K.Sink.given c.loop-fault.output))
    (sight (g.P.Answering.holding c.turn.new.project) c.turn.new.reader (g.S.Source.left c.turn.new.input) (g.K.Sink.given c.turn.new.output)) (Ok f))
    c.in-Ok-Ended.field-0-is c.in-Ok-Ended.ensures.turned _ bytes (c.loop-fault.invariant.way bytes told))

pub returns-in-Err-clause-served : goal.returns-in-Err-clause-served
returns-in-Err-clause-served g c bytes told = served_so _ _ _ bytes (g.S.Source.left c.args.input.now) (g.S.Source.left c.turn.new.input)
    (g.K.Sink.given c.args.output.now) (g.K.Sink.given c.turn.new.output) (g.S.Source.faults c.args.input.now) (g.S.Source.faults c.turn.new.input)
    (g.K.Sink.faults c.args.output.now) (g.K.Sink.faults c.turn.new.output) (fault_ending c.in-Err.fault)
    (c.in-Err.ensures.turned _ bytes (c.loop-fault.invariant.way bytes told))
