use Rattle.std.proofs.Common.{sym, subst}
use Rattle.std.specs.Prelude.{IfSome}
use Rattle.element_store.specs.BaseRules.{StandsIn}
use Rattle.link_walk.proofs.reading.read_target.Goals as goal

pub returns-in-Some-2-clause-links : goal.returns-in-Some-2-clause-links
returns-in-Some-2-clause-links c = λ links.
    let files = c.args.view.now.models.now in
    subst (λ o. IfSome o (StandsIn files)) c.in-Some-2.is
    (c.in_ok-e-in-Some.ensures.stands files (links (record { 0 = c.args.reference }) c.in-Some.outcome.now (sym c.in-Some.ensures)))
