use Rattle.std.proofs.Common.{refl, arith}
use Rattle.demand_core.specs.Computation.{joined}
use Rattle.demand_core.proofs.ComputationLaws.{regular_joined}
use Rattle.link_walk.specs.Calls.{read_by}
use Rattle.link_walk.proofs.GainLaws.{gained_none, gained_next, gained_all, asked_gained, begins_empty}
use Rattle.link_walk.proofs.MarkLaws.{get_among}
use Rattle.removed_features.specs.Stages.{given_gone}
use Rattle.removed_features.proofs.RemovalLaws.{given_regular}
use Rattle.removed_features.proofs.removal.removing.Goals as goal

pub loop-candidate-init : goal.loop-candidate-init
loop-candidate-init c = gained_none (read_by c.args.heir.now.view.now) c.new-gains.result

pub take_removing-requires : goal.take_removing-requires
take_removing-requires c = record {
  stands = c.requires.stand _ (get_among c.args.candidates.now c.loop-candidate.candidate-index _ c.loop-candidate-test.true);
}

pub loop-candidate-preserved : goal.loop-candidate-preserved
loop-candidate-preserved c =
    let h = c.args.heir.now in
    gained_next (read_by h.view.now) (given_gone h.raw h.of) c.args.candidates.now c.loop-candidate.candidate-index _ _ c.new-gains.result
    c.loop-candidate.gains c.take_removing.new.gains c.loop-candidate-test.true refl c.loop-candidate.invariant c.in_ok-take_removing.ensures

pub returns : goal.returns
returns c =
    let h = c.args.heir.now in
    let w = read_by h.view.now in
    let cs = c.args.candidates.now in
    asked_gained w (joined (given_gone h.raw h.of) cs w) c.new-gains.result c.loop-candidate.gains (begins_empty c.new-gains.result c.new-gains.ensures)
    ((regular_joined (given_gone h.raw h.of) (given_regular h.raw h.of) cs).sound w)
    (gained_all w (given_gone h.raw h.of) cs c.loop-candidate.candidate-index c.new-gains.result c.loop-candidate.gains
    (omega (arith, c.loop-candidate-test.false)) c.loop-candidate.invariant)
