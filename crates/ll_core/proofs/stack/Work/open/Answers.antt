use Rattle.std.proofs.Common.{List, ◌≡◌, ◌<◌, ℕ, refl, subst, sym, ap, ◌∙◌, ◌∷◌, ◌++◌, []}
use Rattle.std.specs.Prelude.{reverse, Option, Some, None, unwrap_or}
use Rattle.std.proofs.lemmas.List.{length-map}
use Rattle.std.proofs.lemmas.Option.{slice_get_within}
use Rattle.ll_core.specs.Table.{table_of, rule_of}
use Rattle.ll_core.specs.Checked.{Predicts}
use Rattle.ll_core.specs.Stack.{IsAt, look_code, tasks, effort}
use Rattle.ll_core.specs.declared.stack.Task.TheVariants.{Expand, Close}
use Rattle.ll_core.specs.declared.event.Event.TheVariants.{Open}
use Rattle.ll_core.proofs.AtStep.{at_open, none_goes_on_expand}
use Rattle.ll_core.proofs.Effort.{open_falls}
use Rattle.ll_core.proofs.stack.Work.open.Goals as goal

code_is : (look : Option ℕ) → unwrap_or look 65535 ≡ look_code look
code_is None = refl
code_is (Some k) = refl

pub returns-in_default : goal.returns-in_default
returns-in_default c =
    let t = table_of c.args.grammar.now in
    let w = c.args.self.now in
    let e : c.unwrap_or-code.result ≡ look_code c.args.look = c.unwrap_or-code.ensures ∙ code_is c.args.look in (
      refl,
      refl {A = List ℕ},
      none_goes_on_expand t c.requires.checked w.trace.given w.trace.shifted (reverse w.stack.items) c.args.symbol c.args.look
          (λ p r is left h. c.in_default.ensures.none p (r, is, left, subst (λ k. Predicts t r k) (sym e) h)) c.requires.at,
    )

pub right_side-requires : goal.right_side-requires
right_side-requires c =
    let g = c.args.grammar.now in
    let rule = c.in-Some.ensures.some in
    subst (λ n. c.in-Some.number < n) (length-map g.productions.now (rule_of g.symbols.now))
    (slice_get_within (table_of g).rules c.in-Some.number rule.0 rule.1)

pub returns-in-Ok : goal.returns-in-Ok
returns-in-Ok c =
    let t = table_of c.args.grammar.now in
    let w = c.args.self.now in
    let s = reverse w.stack.items in
    let p = c.in-Some.number in
    let rule = c.in-Some.ensures.some in
    let e : c.unwrap_or-code.result ≡ look_code c.args.look = c.unwrap_or-code.ensures ∙ code_is c.args.look in
    let predicts = subst (λ k. Predicts t rule.0 k) e rule.3 in
    let right = c.right_side.ensures rule.0 rule.1 in
    let next = at_open t c.requires.checked w.trace.given w.trace.shifted s c.args.symbol p rule.0 c.args.look rule.1 rule.2 predicts c.requires.at in
    let after = reverse c.push_right.new.stack.items in
    let stack_is : after ≡ tasks rule.0.right (Close ∷ s) = c.in-Ok.ensures ∙ ap (λ r. tasks r (Close ∷ s)) right in
    let falls = subst (λ a. effort t (tasks rule.0.right (Close ∷ s)) < effort t (Expand a ∷ s)) rule.2 (open_falls t c.requires.checked p rule.0 s rule.1) in
    let told = c.told-self.ensures in (
      told.0,
      told.1,
      subst (λ es. IsAt t es c.told-self.result.shifted (Some c.args.look) after) (sym told.0)
          (subst (λ ks. IsAt t (w.trace.given ++ Open p ∷ []) ks (Some c.args.look) after) (sym told.1)
          (subst (λ st. IsAt t (w.trace.given ++ Open p ∷ []) w.trace.shifted (Some c.args.look) st) (sym stack_is) next)),
      subst (λ st. effort t st < effort t (Expand c.args.symbol ∷ s)) (sym stack_is) falls,
      λ e. cc,
    )
