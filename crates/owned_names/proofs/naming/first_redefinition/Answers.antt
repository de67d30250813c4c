use Rattle.std.proofs.Common.{sym, ◌∙◌, arith}
use Rattle.owned_names.proofs.WayLaws.{first_of_range, none_of_range}
use Rattle.owned_names.proofs.naming.first_redefinition.Goals as goal

pub returns-then-found-clause-first : goal.returns-then-found-clause-first
returns-then-found-clause-first c =
    first_of_range c.args.model.now.references c.args.element c.references_of-first.result.0 c.references_of-first.result.1 c.loop-index.index
    c.reference.result.now c.references_of-first.ensures.own
    (omega arith) c.loop-index-test.true c.reference.ensures.lent (sym c.is_redefinition-found.ensures ∙ c.if-found.true) c.loop-index.invariant

pub returns-clause-first : goal.returns-clause-first
returns-clause-first c =
    none_of_range c.args.model.now.references c.args.element c.references_of-first.result.0 c.references_of-first.result.1 c.loop-index.index
    c.references_of-first.ensures.own
    (omega (arith, c.loop-index-test.false)) c.loop-index.invariant
