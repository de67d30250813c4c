use Rattle.std.proofs.Common.{◌≡◌, drop}
use Rattle.ll_core.specs.Test.{rises_from}
use Rattle.ll_core.proofs.grammar.rise.Given as goal

-- what is left of the predictions decides
abbrev pub invariant-loop-prediction : goal.invariant-loop-prediction
invariant-loop-prediction l = rises_from l.low (drop l.prediction-index l.predictions) ≡ rises_from 0 l.fn.predictions
