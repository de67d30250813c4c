use Rattle.std.proofs.Common.{refl, arith}
use Rattle.link_walk.proofs.GainLaws.{gained_none, gained_next, gained_all}
use Rattle.link_walk.proofs.MarkLaws.{get_among}
use Rattle.inherited_names.specs.Known.{staying}
use Rattle.feature_facts.specs.Known.{world_of}
use Rattle.inherited_names.proofs.conditions.take_all_staying.Goals as goal

pub loop-candidate-init : goal.loop-candidate-init
loop-candidate-init c = gained_none (world_of c.args.stage.now.heir.now) c.args.gains.now

pub take_staying-requires-clause-among : goal.take_staying-requires-clause-among
take_staying-requires-clause-among c = get_among c.args.stage.now.candidates.now c.loop-candidate.candidate-index _ c.loop-candidate-test.true

pub loop-candidate-preserved : goal.loop-candidate-preserved
loop-candidate-preserved c =
    let s = c.args.stage.now in
    gained_next (world_of s.heir.now) (staying s) s.candidates.now c.loop-candidate.candidate-index _ _ c.args.gains.now c.loop-candidate.gains
    c.take_staying.new.gains c.loop-candidate-test.true refl c.loop-candidate.invariant c.in_ok-take_staying.ensures

pub returns : goal.returns
returns c =
    let s = c.args.stage.now in
    gained_all (world_of s.heir.now) (staying s) s.candidates.now c.loop-candidate.candidate-index c.args.gains.now c.loop-candidate.gains
    (omega (arith, c.loop-candidate-test.false)) c.loop-candidate.invariant
