use Rattle.std.proofs.Common.{◌≡◌, drop, ◌+◌}
use Rattle.std.specs.Prelude.{option_map, false}
use Rattle.token_core.specs.Scan.{close_end}
use Rattle.token_core.proofs.scan.close_length.Given as goal

abbrev pub invariant-loop-at : goal.invariant-loop-at
invariant-loop-at l = close_end false l.text ≡ option_map (λ n. l.at + n) (close_end l.starred (drop l.at l.text))
