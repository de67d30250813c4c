use Rattle.std.proofs.Common.{refl, arith}
use Rattle.link_walk.specs.Calls.{read_by}
use Rattle.link_walk.proofs.GainLaws.{gained_none, gained_next, gained_all}
use Rattle.link_walk.proofs.MarkLaws.{get_among}
use Rattle.name_lookups.specs.Narrowed.{narrowed_hit}
use Rattle.name_lookups.proofs.narrowing.take_all_shown.Goals as goal

pub loop-hit-init : goal.loop-hit-init
loop-hit-init c = gained_none (read_by c.args.view.now) c.args.gains.now

pub take_shown-requires : goal.take_shown-requires
take_shown-requires c = record { stands = c.requires.stand _ (get_among c.args.hits.now c.loop-hit.hit-index _ c.loop-hit-test.true) }

pub loop-hit-preserved : goal.loop-hit-preserved
loop-hit-preserved c =
    gained_next (read_by c.args.view.now) (narrowed_hit c.args.all) c.args.hits.now c.loop-hit.hit-index _ _ c.args.gains.now c.loop-hit.gains
    c.take_shown.new.gains c.loop-hit-test.true refl c.loop-hit.invariant c.in_ok-take_shown.ensures

pub returns : goal.returns
returns c =
    gained_all (read_by c.args.view.now) (narrowed_hit c.args.all) c.args.hits.now c.loop-hit.hit-index c.args.gains.now c.loop-hit.gains
    (omega (arith, c.loop-hit-test.false)) c.loop-hit.invariant
