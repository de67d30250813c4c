use Rattle.std.proofs.Common.{◌≡◌, ◌∙◌, ◌++◌, ◌∷◌, [], sym, ap, subst}
use Rattle.value_model.specs.Operators.{of_one, of_two, of_first}
use Rattle.expr_reading.specs.declared.turns.Turn.TheVariants.{Read}
use Rattle.expr_reading.specs.declared.turns.Pending.TheVariants.{Operand, First, Second, Condition}
use Rattle.expr_reading.specs.Turns.{ArePending, HasFollowed, turn_of, turn_of_if}
use Rattle.expr_reading.proofs.TurnLaws.{last_pending, operand_follows, second_follows, first_decides, second_is_read, condition_follows}
use Rattle.expr_reading.proofs.following.follow.Goals as goal

pub spot-requires-clause-within : goal.spot-requires-clause-within
spot-requires-clause-within g c =
    last_pending (g.S.Source.meaning c.args.source.now) c.args.pending.now.items c.args.last (Operand c.in-Operand.number c.in-Operand.op)
    c.requires.pending c.in-Operand.is

pub spot-requires-in-First-clause-within : goal.spot-requires-in-First-clause-within
spot-requires-in-First-clause-within g c =
    (last_pending (g.S.Source.meaning c.args.source.now) c.args.pending.now.items c.args.last (First c.in-First.number c.in-First.op)
    c.requires.pending c.in-First.is).1

pub spot-requires-in-Second-clause-within : goal.spot-requires-in-Second-clause-within
spot-requires-in-Second-clause-within g c =
    last_pending (g.S.Source.meaning c.args.source.now) c.args.pending.now.items c.args.last (Second c.in-Second.number c.in-Second.op c.in-Second.first)
    c.requires.pending c.in-Second.is

pub spot-requires-in-Condition-clause-within : goal.spot-requires-in-Condition-clause-within
spot-requires-in-Condition-clause-within g c =
    (last_pending (g.S.Source.meaning c.args.source.now) c.args.pending.now.items c.args.last (Condition c.in-Condition.number c.in-Condition.second)
    c.requires.pending c.in-Condition.is).1

pub returns-in-Operand : goal.returns-in-Operand
returns-in-Operand g c =
    let e = g.S.Source.meaning c.args.source.now in
    let fs = c.args.pending.now.items in
    let op = c.in-Operand.op in
    subst (λ l. HasFollowed e (fs ++ l ∷ []) c.args.value fs c.turn_of.result) (sym c.in-Operand.is)
    (operand_follows e fs c.in-Operand.number op c.args.value c.turn_of.result
    (subst (λ l. ArePending e (fs ++ l ∷ [])) c.in-Operand.is c.requires.pending)
    (c.turn_of.ensures ∙ ap turn_of (c.of_one.ensures ∙ ap (λ at. of_one op at c.args.value) c.spot.ensures)))

pub returns-in-Some : goal.returns-in-Some
returns-in-Some g c =
    let e = g.S.Source.meaning c.args.source.now in
    let fs = c.args.pending.now.items in
    let op = c.in-First.op in
    subst (λ l. HasFollowed e (fs ++ l ∷ []) c.args.value fs c.turn_of-in-Some.result) (sym c.in-First.is)
    (first_decides e fs c.in-First.number op c.args.value c.in-Some.answer c.turn_of-in-Some.result
    (subst (λ l. ArePending e (fs ++ l ∷ [])) c.in-First.is c.requires.pending)
    (c.in-Some.ensures ∙ ap (λ at. of_first op at c.args.value) c.spot-in-First.ensures)
    c.turn_of-in-Some.ensures)

pub returns-in_ok-push-in-None : goal.returns-in_ok-push-in-None
returns-in_ok-push-in-None g c =
    let e = g.S.Source.meaning c.args.source.now in
    let fs = c.args.pending.now.items in
    let op = c.in-First.op in
    subst (λ l. HasFollowed e (fs ++ l ∷ []) c.args.value c.push.new.self.items (Read c.in-First.number)) (sym c.in-First.is)
    (subst (λ ps. HasFollowed e (fs ++ First c.in-First.number op ∷ []) c.args.value ps (Read c.in-First.number)) (sym c.in_ok-push-in-None.ensures.items)
    (second_is_read e fs c.in-First.number op c.args.value
    (subst (λ l. ArePending e (fs ++ l ∷ [])) c.in-First.is c.requires.pending)
    (c.in-None.ensures ∙ ap (λ at. of_first op at c.args.value) c.spot-in-First.ensures)))

pub returns-in_ok-answer-in-Second : goal.returns-in_ok-answer-in-Second
returns-in_ok-answer-in-Second g c =
    let e = g.S.Source.meaning c.args.source.now in
    let fs = c.args.pending.now.items in
    let op = c.in-Second.op in
    subst (λ l. HasFollowed e (fs ++ l ∷ []) c.args.value fs c.turn_of-in-Second.result) (sym c.in-Second.is)
    (second_follows e fs c.in-Second.number op c.in-Second.first c.args.value c.turn_of-in-Second.result
    (subst (λ l. ArePending e (fs ++ l ∷ [])) c.in-Second.is c.requires.pending)
    (c.turn_of-in-Second.ensures
    ∙ ap turn_of (c.in_ok-answer-in-Second.ensures ∙ ap (λ at. of_two op at c.in-Second.first c.args.value) c.spot-in-Second.ensures)))

pub returns-in-Condition : goal.returns-in-Condition
returns-in-Condition g c =
    let e = g.S.Source.meaning c.args.source.now in
    let fs = c.args.pending.now.items in
    subst (λ l. HasFollowed e (fs ++ l ∷ []) c.args.value fs c.turn_of_if.result) (sym c.in-Condition.is)
    (subst (λ to. HasFollowed e (fs ++ Condition c.in-Condition.number c.in-Condition.second ∷ []) c.args.value fs to)
    (sym (c.turn_of_if.ensures ∙ ap (λ at. turn_of_if at c.in-Condition.second c.in-Condition.number c.args.value) c.spot-in-Condition.ensures))
    (condition_follows e fs c.in-Condition.number c.in-Condition.second c.args.value
    (subst (λ l. ArePending e (fs ++ l ∷ [])) c.in-Condition.is c.requires.pending)))
