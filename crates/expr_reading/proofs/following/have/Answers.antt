use Rattle.std.proofs.Common.{◌≡◌, ◌∙◌, ◌++◌, ◌∷◌, [], List, length, sym, ap, subst, arith, refl}
use Rattle.std.specs.Prelude.{Result, IfOk}
use Rattle.expr_reading.specs.Turns.{ArePending, HasFollowed}
use Rattle.demand_core.specs.declared.step.Step.TheVariants.{Done}
use Rattle.value_model.specs.declared.values.ValueAnswer.TheVariants as answer
use Rattle.expr_reading.specs.declared.turns.Turn.TheVariants.{Ended}
use Rattle.expr_reading.proofs.ReadLaws.{no_items}
use Rattle.expr_reading.proofs.TurnLaws.{end_follows}
use Rattle.expr_reading.proofs.following.have.Goals as goal

pub returns-in-None : goal.returns-in-None
returns-in-None g c =
    let e = g.S.Source.meaning c.args.source.now in
    let old : c.args.pending.now.items ≡ [] = no_items c.args.pending.now.items (sym c.args.pending.now.ok.0 ∙ c.in-None.ensures.cases.0) in
    let new : c.pop.new.self.items ≡ [] = no_items c.pop.new.self.items (sym c.pop.new.self.ok.0 ∙ c.in-None.ensures.cases.1) in
    subst (λ ps. HasFollowed e ps c.args.value c.pop.new.self.items (Ended (Done (answer.Value c.args.value)))) (sym old)
    (subst (λ ps. HasFollowed e [] c.args.value ps (Ended (Done (answer.Value c.args.value)))) (sym new) (end_follows e c.args.value))

pub returns-in-Some : goal.returns-in-Some
returns-in-Some g c =
    subst (λ ps. IfOk c.follow.result (HasFollowed (g.S.Source.meaning c.args.source.now) ps c.args.value c.follow.new.pending.items))
    (sym c.in-Some.ensures.items) c.follow.ensures

pub follow-requires-clause-pending : goal.follow-requires-clause-pending
follow-requires-clause-pending g c = subst (ArePending (g.S.Source.meaning c.args.source.now)) c.in-Some.ensures.items c.requires.pending
