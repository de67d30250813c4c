use Rattle.std.proofs.Common.{sym}
use Rattle.inheritance.proofs.sight.Sight.target.Goals as goal

pub returns-in_ok-e-in-Some-clause-links : goal.returns-in_ok-e-in-Some-clause-links
returns-in_ok-e-in-Some-clause-links c = λ links.
    c.in_ok-e-in-Some.ensures.stands c.args.self.now.view.now.models.now (links c.args.reference c.in-Some.outcome.now (sym c.in-Some.ensures))
