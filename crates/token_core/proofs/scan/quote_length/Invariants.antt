use Rattle.std.proofs.Common.{◌≡◌, drop, ◌+◌}
use Rattle.std.specs.Prelude.{option_map, false}
use Rattle.token_core.specs.Scan.{quote_end}
use Rattle.token_core.proofs.scan.quote_length.Given as goal

abbrev pub invariant-loop-at : goal.invariant-loop-at
invariant-loop-at l = quote_end l.quote false l.text ≡ option_map (λ n. l.at + n) (quote_end l.quote l.escaped (drop l.at l.text))
