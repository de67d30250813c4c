use Rattle.std.proofs.Common.{◌≡◌, ◌-◌, ℕ, List, false}
use Rattle.std.specs.Prelude.{Some}
use Rattle.linker_base.specs.declared.limits.TheConstants.{INPUT_BYTES}
use Rattle.sysml_session.specs.Turns.{sight, OnWay}
use Rattle.sysml_session.proofs.serving.serve_with.Given as goal

abbrev pub invariant-loop-fault : goal.invariant-loop-fault
invariant-loop-fault g l = record {
  way : (bytes : List ℕ) → g.S.Source.left l.fn.input ≡ Some bytes
      → OnWay (sight (g.P.Answering.holding l.fn.project) l.fn.reader (g.S.Source.left l.fn.input) (g.K.Sink.given l.fn.output))
      (sight (g.P.Answering.holding l.project) l.reader (g.S.Source.left l.input) (g.K.Sink.given l.output)) bytes;
  whole : (g.P.Answering.holding l.project).broken ≡ false;
  input : g.S.Source.faults l.input ≡ g.S.Source.faults l.fn.input;
  output : g.K.Sink.faults l.output ≡ g.K.Sink.faults l.fn.output;
}

abbrev pub decreases-loop-fault : goal.decreases-loop-fault
decreases-loop-fault g l = INPUT_BYTES - l.reader.used
