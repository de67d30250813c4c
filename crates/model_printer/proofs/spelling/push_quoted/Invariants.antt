use Rattle.std.proofs.Common.{◌≡◌, ◌++◌, drop}
use Rattle.token_core.specs.Spelling.{quoted, spelt}
use Rattle.model_printer.proofs.spelling.push_quoted.Given as goal

abbrev pub invariant-loop-byte : goal.invariant-loop-byte
invariant-loop-byte l = l.fn.bytes.items ++ quoted l.quote l.text ≡ l.bytes.items ++ spelt l.quote (drop l.byte-index l.text)
