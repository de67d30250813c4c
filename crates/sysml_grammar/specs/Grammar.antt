-- The grammar as a table: its productions, and the claims about its inner symbols.
use Rattle.std.specs.Prelude.{map}
use Rattle.ll_core.specs.Table.{Table, part_of}
use Rattle.sysml_grammar.specs.Rules.{sysml_rules}
use Rattle.sysml_grammar.specs.declared.claims.TheConstants.{FIRST, FOLLOW, TERMINALS, EMPTY, HEIGHT, RANK}
use Rattle.sysml_grammar.specs.declared.predictions.TheConstants.{PREDICTED, PREDICTIONS}

unfoldable pub sysml_table : Table
sysml_table = record {
  start = 0;
  rules = sysml_rules;
  empty = EMPTY;
  first = map (part_of TERMINALS) FIRST;
  follow = map (part_of TERMINALS) FOLLOW;
  height = HEIGHT;
  rank = RANK;
  predictions = map (part_of PREDICTIONS) PREDICTED;
}
