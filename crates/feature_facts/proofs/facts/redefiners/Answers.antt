use Rattle.std.proofs.Common.{refl, sym, subst, [], ◌∷◌, take, arith}
use Rattle.demand_core.specs.Computation.{join, joined}
use Rattle.demand_core.proofs.ComputationLaws.{regular_joined}
use Rattle.link_walk.specs.Calls.{read_by}
use Rattle.link_walk.specs.Gained.{Gained}
use Rattle.link_walk.proofs.GainLaws.{gained_none, gained_join, asked_gained}
use Rattle.link_walk.proofs.MarkLaws.{get_among}
use Rattle.feature_facts.specs.Stages.{redefiners_of}
use Rattle.feature_facts.proofs.TableLaws.{redefiners_regular, after_first, after_all, nothing_yet}
use Rattle.feature_facts.proofs.facts.redefiners.Goals as goal

pub take_redefiners-requires-in-loop-owner : goal.take_redefiners-requires-in-loop-owner
take_redefiners-requires-in-loop-owner c = record { stands = c.requires.stand _ (get_among c.args.types.now c.loop-owner.owner-index _ c.loop-owner-test.true) }

pub loop-owner-init : goal.loop-owner-init
loop-owner-init c =
    let h = c.args.heir.now in
    let w = read_by h.view.now in
    subst (λ z. Gained (join (redefiners_of h.raw h.of h.of) (joined (redefiners_of h.raw h.of) []) w) z c.take_redefiners.new.gains) c.new-gains.ensures
    (gained_join w (redefiners_of h.raw h.of h.of) (joined (redefiners_of h.raw h.of) []) c.new-gains.result c.take_redefiners.new.gains
    c.take_redefiners.new.gains c.in_ok-take_redefiners.ensures (gained_none w c.take_redefiners.new.gains))

pub loop-owner-preserved : goal.loop-owner-preserved
loop-owner-preserved c =
    let h = c.args.heir.now in
    after_first (read_by h.view.now) (redefiners_of h.raw h.of h.of) (redefiners_of h.raw h.of) c.args.types.now c.loop-owner.owner-index _ _ _
    c.loop-owner.gains c.take_redefiners-in-loop-owner.new.gains c.loop-owner-test.true refl c.loop-owner.invariant c.in_ok-take_redefiners-2.ensures

pub returns : goal.returns
returns c =
    let h = c.args.heir.now in
    let w = read_by h.view.now in
    let types = h.of ∷ c.args.types.now in
    asked_gained w (joined (redefiners_of h.raw h.of) types w) nothing_yet c.loop-owner.gains refl
    ((regular_joined (redefiners_of h.raw h.of) (redefiners_regular h.raw h.of) types).sound w)
    (after_all w (redefiners_of h.raw h.of h.of) (redefiners_of h.raw h.of) c.args.types.now c.loop-owner.owner-index
    nothing_yet c.loop-owner.gains (omega (arith, c.loop-owner-test.false)) c.loop-owner.invariant)
