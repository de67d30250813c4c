use Rattle.kept_links.proofs.KeptLaws.{let_go_is}
use Rattle.kept_links.proofs.kept.KeptLinks.let_go.Goals as goal

pub returns : goal.returns
returns c =
    let told = c.in_ok-gone.ensures in
    let_go_is c.args.facts.now c.args.self.now c.self.inside.engine c.forget.new.self c.self.inside.pending.items c.in_ok-gone.gone c.as_slice.result.now
    c.extend_from_slice.new.self.items c.self.view_is (record { stale = told.stale; all = told.all; without = told.without }) c.as_slice.ensures
    c.in_ok-extend_from_slice.ensures.items
