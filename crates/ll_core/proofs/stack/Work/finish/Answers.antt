use Rattle.std.proofs.Common.{refl, subst, sym}
use Rattle.std.specs.Prelude.{reverse, Some}
use Rattle.ll_core.specs.Table.{table_of}
use Rattle.ll_core.specs.Stack.{IsAt}
use Rattle.ll_core.proofs.AtStep.{at_end}
use Rattle.ll_core.proofs.stack.Work.finish.Goals as goal

pub returns-in-None : goal.returns-in-None
returns-in-None c =
    let t = table_of c.args.grammar.now in
    let w = c.args.self.now in (
      c.in-None.is,
      refl,
      refl,
      subst (λ xs. IsAt t w.trace.given w.trace.shifted (Some c.args.look) (reverse xs)) (sym c.requires.empty) c.requires.at,
      at_end t w.trace.given w.trace.shifted c.requires.at.sound,
    )
