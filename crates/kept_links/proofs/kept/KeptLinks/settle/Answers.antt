use Rattle.kept_links.proofs.KeptLaws.{is_settled, may_settle}
use Rattle.kept_links.proofs.kept.KeptLinks.settle.Goals as goal

pub settle-requires-clause-ready : goal.settle-requires-clause-ready
settle-requires-clause-ready g c =
    may_settle (g.R.Rules.meaning c.args.rules.now) c.args.models.now c.args.self.now c.self.inside.pending.items c.deref.result.now
    c.in_ok-fresh.fresh.items c.deref-2.result.now c.self.inside.engine c.self.view_is c.requires.right c.requires.keys c.deref.ensures.value
    c.deref-2.ensures.value c.in_ok-fresh.ensures

pub returns : goal.returns
returns g c =
    is_settled (g.R.Rules.meaning c.args.rules.now) (g.met.R.Rules.lawful c.args.rules.now c.requires.valid) c.settle.new.self c.clear.new.self.items
    c.in_ok-settle.ensures.least c.in_ok-settle.ensures.looks c.clear.ensures.items
