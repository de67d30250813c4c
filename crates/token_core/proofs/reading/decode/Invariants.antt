use Rattle.std.proofs.Common.{◌≡◌, ◌++◌, drop}
use Rattle.std.specs.Prelude.{false}
use Rattle.token_core.specs.Reading.{decoded}
use Rattle.token_core.proofs.reading.decode.Given as goal

abbrev pub invariant-loop-byte : goal.invariant-loop-byte
invariant-loop-byte l = decoded l.quote false l.bytes ≡ l.letters.items ++ decoded l.quote l.escaped (drop l.byte-index l.bytes)
