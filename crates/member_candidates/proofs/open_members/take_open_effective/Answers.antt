use Rattle.std.proofs.Common.{sym, ◌∙◌, subst}
use Rattle.std.specs.Prelude.{Option}
use Rattle.element_store.specs.declared.records.Member.{Member}
use Rattle.link_model.specs.Names.{effective_hit}
use Rattle.link_model.specs.Readers.{told}
use Rattle.link_walk.specs.Calls.{read_by}
use Rattle.link_walk.specs.Gained.{Gained}
use Rattle.member_candidates.proofs.OpenLists.{private_told, open_told}
use Rattle.member_candidates.proofs.open_members.take_open_effective.Goals as goal

pub returns-then-private : goal.returns-then-private
returns-then-private c =
    private_told c.args.model.now c.args.member.index c.member.result.now (read_by c.args.view.now) (effective_hit c.args.name.now c.args.member.file)
    c.args.gains.now c.args.gains.now c.member.ensures.lent (sym c.is_private-private.ensures ∙ c.if-private.true)

pub returns : goal.returns
returns c =
    let w = read_by c.args.view.now in
    open_told c.args.model.now c.args.member.index c.member.result.now w (effective_hit c.args.name.now c.args.member.file) c.args.gains.now
    c.take_effective.new.gains c.member.ensures.lent (sym c.is_private-private.ensures ∙ c.if-private.false)
    (subst (λ (o : Option Member). Gained (told o (effective_hit c.args.name.now c.args.member.file c.args.member.index) w) c.args.gains.now
    c.take_effective.new.gains) c.member.ensures.lent c.in_ok-take_effective.ensures)
