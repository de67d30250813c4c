use Rattle.std.proofs.Common.{refl, arith, length}
use Rattle.link_model.specs.Lexical.{member_hit}
use Rattle.link_walk.specs.Calls.{read_by}
use Rattle.link_walk.proofs.MarkLaws.{get_among}
use Rattle.link_tiers.proofs.PartLaws.{asked_next, asked_all}
use Rattle.link_tiers.proofs.roots.member_hits.Goals as goal

pub add_member-requires-clause-stands : goal.add_member-requires-clause-stands
add_member-requires-clause-stands c = c.requires.stand _ (get_among c.args.members.now c.loop-member.member-index _ c.loop-member-test.true)

pub loop-member-preserved : goal.loop-member-preserved
loop-member-preserved c = (
  asked_next (read_by c.args.view.now) member_hit c.args.members.now c.loop-member.member-index _ _ c.loop-member.gains c.add_member.new.gains
      c.loop-member-test.true refl c.loop-member.invariant.0 c.in_ok-add_member.ensures.joins,
  c.in_ok-add_member.ensures.found c.loop-member.invariant.1,
)

pub returns-clause-asked : goal.returns-clause-asked
returns-clause-asked c = asked_all (read_by c.args.view.now) member_hit c.args.members.now c.loop-member.member-index c.loop-member.gains
    (let end = c.loop-member-test.false in omega arith) c.loop-member.invariant.0
