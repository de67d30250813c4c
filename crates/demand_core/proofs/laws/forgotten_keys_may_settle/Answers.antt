use Rattle.demand_core.proofs.AgainLaws.{may_settle_again}
use Rattle.demand_core.proofs.RoundsLaws.{exact_test}
use Rattle.demand_core.proofs.laws.forgotten_keys_may_settle.Goals as goal

pub returns : goal.returns
returns g c =
    may_settle_again g.K.PartialEq.eq (exact_test g.met.K.Same.exact g.met.K.Eq.laws) (g.O.Rules.meaning c.args.old.now) (g.N.Rules.meaning c.args.new.now)
    (g.met.O.Rules.lawful c.args.old.now c.requires.old) (g.met.N.Rules.lawful c.args.new.now c.requires.new)
