use Rattle.std.proofs.Common.{length, ◌-◌, ◌≤◌}
use Rattle.token_core.proofs.lexer.lex.Given as goal
use Rattle.token_core.proofs.Cuts.{IsCutTo}

abbrev pub invariant-loop-at : goal.invariant-loop-at
invariant-loop-at l = record {
  within : l.at ≤ length l.text;
  cut : IsCutTo l.language l.text l.at l.tokens;
}

abbrev pub decreases-loop-at : goal.decreases-loop-at
decreases-loop-at l = length l.text - l.at
