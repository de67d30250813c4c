use Rattle.std.proofs.Common.{subst, sym, arith, ◌++◌, ◌∷◌, []}
use Rattle.std.specs.Prelude.{reverse, Some}
use Rattle.ll_core.specs.declared.event.Event.TheVariants.{Close}
use Rattle.ll_core.specs.Table.{table_of}
use Rattle.ll_core.specs.Stack.{IsAt}
use Rattle.ll_core.proofs.AtStep.{at_close}
use Rattle.ll_core.proofs.stack.Work.close.Goals as goal

pub returns : goal.returns
returns c =
    let t = table_of c.args.grammar.now in
    let w = c.args.self.now in
    let s = reverse w.stack.items in
    let told = c.told-self.ensures in (
      told.0,
      told.1,
      subst (λ es. IsAt t es c.told-self.result.shifted (Some c.args.look) s) (sym told.0)
          (subst (λ ks. IsAt t (w.trace.given ++ Close ∷ []) ks (Some c.args.look) s) (sym told.1)
          (at_close t c.requires.checked w.trace.given w.trace.shifted s (Some c.args.look) c.requires.at)),
      omega arith,
      λ e. cc,
    )
