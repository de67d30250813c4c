use Rattle.std.proofs.Common.{◌≡◌, ◌≤◌, drop}
use Rattle.token_core.specs.Lex.{too_deep}
use Rattle.token_core.proofs.lexer.too_deep_place.Given as goal

abbrev pub invariant-loop-token : goal.invariant-loop-token
invariant-loop-token l = record {
  few : l.nesting ≤ 64;
  same : too_deep 0 l.tokens ≡ too_deep l.nesting (drop l.token-index l.tokens);
}
