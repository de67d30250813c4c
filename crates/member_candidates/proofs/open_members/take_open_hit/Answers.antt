use Rattle.std.proofs.Common.{sym, ◌∙◌}
use Rattle.link_model.specs.Names.{hit}
use Rattle.link_walk.specs.Calls.{read_by}
use Rattle.member_candidates.proofs.OpenLists.{private_told, open_told}
use Rattle.member_candidates.proofs.open_members.take_open_hit.Goals as goal

pub returns-then-private : goal.returns-then-private
returns-then-private c =
    private_told c.args.model.now c.args.member.index c.member-own.result.now (read_by c.args.view.now) (hit c.args.member.file) c.args.gains.now
    c.args.gains.now c.member-own.ensures.lent (sym c.is_private-private.ensures ∙ c.if-private.true)

pub returns : goal.returns
returns c =
    open_told c.args.model.now c.args.member.index c.member-own.result.now (read_by c.args.view.now) (hit c.args.member.file) c.args.gains.now
    c.take_hit.new.gains c.member-own.ensures.lent (sym c.is_private-private.ensures ∙ c.if-private.false) c.in_ok-take_hit.ensures
