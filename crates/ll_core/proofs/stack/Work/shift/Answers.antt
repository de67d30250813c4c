use Rattle.std.proofs.Common.{◌≡◌, subst, sym, ap, ◌∙◌, ◌∷◌, ◌++◌, []}
use Rattle.std.specs.Prelude.{reverse, Some, None}
use Rattle.ll_core.specs.Table.{table_of}
use Rattle.ll_core.specs.Stack.{IsAt}
use Rattle.ll_core.specs.declared.stack.Task.TheVariants.{Match}
use Rattle.ll_core.specs.declared.event.Event.TheVariants.{Shift}
use Rattle.ll_core.proofs.AtStep.{at_shift}
use Rattle.ll_core.proofs.stack.Work.shift.Goals as goal

pub returns : goal.returns
returns c =
    let t = table_of c.args.grammar.now in
    let w = c.args.self.now in
    let s = reverse w.stack.items in
    let k = c.in-Some.token in
    let same : k ≡ c.args.terminal = c.if-token-terminal.false in
    let at = subst (λ n. IsAt t w.trace.given w.trace.shifted (Some c.args.look) (Match n ∷ s)) (sym same) c.requires.at in
    let here = subst (λ l. IsAt t w.trace.given w.trace.shifted (Some l) (Match k ∷ s)) c.in-Some.is at in
    let given : c.took-self.result.given ≡ w.trace.given ++ Shift ∷ [] = c.took-self.ensures.0 ∙ c.told.ensures.0 in
    let shifted : c.took-self.result.shifted ≡ w.trace.shifted ++ k ∷ [] =
    c.took-self.ensures.1 ∙ ap (λ ks. ks ++ k ∷ []) c.told.ensures.1 in (
      k,
      c.in-Some.is,
      given,
      shifted,
      subst (λ es. IsAt t es c.took-self.result.shifted None s) (sym given)
          (subst (λ ks. IsAt t (w.trace.given ++ Shift ∷ []) ks None s) (sym shifted)
          (at_shift t c.requires.checked w.trace.given w.trace.shifted s k here)),
      λ e. cc,
    )
