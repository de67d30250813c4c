use Rattle.std.proofs.Common.{◌≡◌, drop}
use Rattle.ll_core.specs.Test.{told_for}
use Rattle.ll_core.proofs.grammar.told_for.Given as goal

-- what is left of the predictions decides
abbrev pub invariant-loop-prediction : goal.invariant-loop-prediction
invariant-loop-prediction l = told_for (drop l.prediction-index l.predictions) l.look ≡ told_for l.fn.predictions l.look
