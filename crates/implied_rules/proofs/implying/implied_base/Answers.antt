use Rattle.std.proofs.Common.{◌∙◌, true, false, sym}
use Rattle.implied_rules.proofs.ImpliedLaws.{none_implied, itself_implied, other_implied, stands}
use Rattle.implied_rules.proofs.implying.implied_base.Goals as goal

pub of-requires : goal.of-requires
of-requires c = stands c.args.view.now.models.now c.args.of c.requires.there

pub specialises-requires-clause-stands : goal.specialises-requires-clause-stands
specialises-requires-clause-stands c = stands c.args.view.now.models.now c.args.of c.requires.there

pub returns-in_default-clause-implied : goal.returns-in_default-clause-implied
returns-in_default-clause-implied c =
    let there = c.requires.there in
    none_implied c.args.view.now.models.now c.args.view.now.table.now c.args.of there.0 there.1 (sym c.in_default.is ∙ c.of.ensures.base)

pub returns-then-eq-clause-implied : goal.returns-then-eq-clause-implied
returns-then-eq-clause-implied c =
    let there = c.requires.there in
    itself_implied c.args.view.now.models.now c.args.view.now.table.now c.args.of there.0 there.1 c.in-Some.base c.in-Some.ensures.base
    (sym c.eq.ensures ∙ c.if-eq.true)

pub returns-then-reached-clause-implied : goal.returns-then-reached-clause-implied
returns-then-reached-clause-implied c =
    let there = c.requires.there in
    other_implied c.args.view.now.models.now c.args.view.now.table.now c.args.of there.0 there.1 c.in-Some.base true c.in-Some.ensures.base
    (sym c.eq.ensures ∙ c.if-eq.false) (sym c.if-reached.true ∙ c.in_ok-reached.ensures)

pub returns-else-reached-clause-implied : goal.returns-else-reached-clause-implied
returns-else-reached-clause-implied c =
    let there = c.requires.there in
    other_implied c.args.view.now.models.now c.args.view.now.table.now c.args.of there.0 there.1 c.in-Some.base false c.in-Some.ensures.base
    (sym c.eq.ensures ∙ c.if-eq.false) (sym c.if-reached.false ∙ c.in_ok-reached.ensures)
