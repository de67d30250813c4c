use Rattle.std.proofs.Common.{refl, arith, ap}
use Rattle.link_model.specs.Inheritance.{candidates}
use Rattle.link_model.proofs.TameLaws.{candidates_tame}
use Rattle.link_walk.specs.Calls.{read_by}
use Rattle.link_walk.proofs.GainLaws.{gained_none, gained_next, gained_all, asked_gained, begins_empty}
use Rattle.link_walk.proofs.MarkLaws.{get_among}
use Rattle.member_candidates.specs.Stages.{candidate_stage, candidates_in}
use Rattle.member_candidates.proofs.candidate_list.candidates.Goals as goal

pub loop-owner-init : goal.loop-owner-init
loop-owner-init c = gained_none (read_by c.args.heir.now.view.now) (candidates_in c.new-gains.result)

pub take_candidates-requires-clause-stands : goal.take_candidates-requires-clause-stands
take_candidates-requires-clause-stands c = c.requires.stand _ (get_among c.args.types.now c.loop-owner.owner-index _ c.loop-owner-test.true)

pub loop-owner-preserved : goal.loop-owner-preserved
loop-owner-preserved c =
    gained_next (read_by c.args.heir.now.view.now) (candidate_stage c.args.name.now c.args.heir.now.of) c.args.types.now c.loop-owner.owner-index _ _
    (candidates_in c.new-gains.result) (candidates_in c.loop-owner.gains) (candidates_in c.take_candidates.new.gains) c.loop-owner-test.true refl
    c.loop-owner.invariant c.in_ok-take_candidates.ensures

pub returns : goal.returns
returns c =
    let h = c.args.heir.now in
    let w = read_by h.view.now in
    asked_gained w (candidates c.args.name.now h.of c.args.types.now w) (candidates_in c.new-gains.result) (candidates_in c.loop-owner.gains)
    (begins_empty (candidates_in c.new-gains.result) (ap candidates_in c.new-gains.ensures))
    ((candidates_tame c.args.name.now h.of c.args.types.now).regular.sound w)
    (gained_all w (candidate_stage c.args.name.now h.of) c.args.types.now c.loop-owner.owner-index (candidates_in c.new-gains.result)
    (candidates_in c.loop-owner.gains) (omega (arith, c.loop-owner-test.false)) c.loop-owner.invariant)
