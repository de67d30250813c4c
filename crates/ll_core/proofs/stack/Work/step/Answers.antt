use Rattle.std.specs.Prelude.{reverse}
use Rattle.ll_core.specs.Table.{table_of}
use Rattle.ll_core.proofs.StepExact.{exact_step}
use Rattle.ll_core.proofs.stack.Work.step.Goals as goal

pub returns-clause-exact : goal.returns-clause-exact
returns-clause-exact c =
    exact_step (table_of c.args.grammar.now) c.requires.checked c.args.look
    (reverse c.args.self.now.stack.items) c.args.self.now c.do_task.new.self c.do_task.result c.requires.at c.do_task.ensures
