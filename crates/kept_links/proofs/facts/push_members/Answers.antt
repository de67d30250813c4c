use Rattle.std.proofs.Common.{refl, arith}
use Rattle.kept_links.specs.Facts.{member_facts}
use Rattle.kept_links.proofs.WorkLaws.{told_more, told_all}
use Rattle.kept_links.proofs.facts.push_members.Goals as goal

pub loop-index-init : goal.loop-index-init
loop-index-init c = refl

pub loop-index-preserved : goal.loop-index-preserved
loop-index-preserved c =
    told_more member_facts c.args.model.now.members c.loop-index.index c.member.result.now c.loop-index.facts.items c.push_member.new.facts.items _
    c.member.ensures.lent c.in_ok-push_member.ensures c.loop-index.invariant

pub returns : goal.returns
returns c =
    told_all member_facts c.args.model.now.members c.loop-index.index c.loop-index.facts.items _
    (omega (arith, c.loop-index-test.false, c.members-index-end.ensures)) c.loop-index.invariant
