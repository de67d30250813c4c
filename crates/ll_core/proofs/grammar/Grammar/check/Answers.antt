use Rattle.ll_core.specs.Table.{table_of}
use Rattle.ll_core.proofs.CheckedExact.{checked_exact}
use Rattle.ll_core.proofs.grammar.Grammar.check.Goals as goal

pub returns : goal.returns
returns c = checked_exact (table_of c.args.self.now) c.passes.result c.passes.ensures
