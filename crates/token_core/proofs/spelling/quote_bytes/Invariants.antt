use Rattle.std.proofs.Common.{◌≡◌, ◌++◌, drop}
use Rattle.token_core.specs.Spelling.{quoted, spelt}
use Rattle.token_core.proofs.spelling.quote_bytes.Given as goal

abbrev pub invariant-loop-byte : goal.invariant-loop-byte
invariant-loop-byte l = quoted l.quote l.bytes ≡ l.spelling.items ++ spelt l.quote (drop l.byte-index l.bytes)
