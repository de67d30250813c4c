use Rattle.std.proofs.Common.{subst, []}
use Rattle.demand_core.specs.Computation.{joined}
use Rattle.element_store.specs.Condition.{members_of}
use Rattle.link_model.specs.Names.{declared}
use Rattle.link_model.specs.Readers.{model}
use Rattle.link_walk.specs.Calls.{read_by}
use Rattle.link_walk.specs.Gained.{Gained}
use Rattle.link_walk.proofs.GainLaws.{gains_of, gained_read}
use Rattle.owned_names.proofs.BearerLaws.{declared_part, taken_none, taken_next, taken_all, told_there}
use Rattle.owned_names.proofs.declared_tier.take_declared.Goals as goal

pub loop-index-init : goal.loop-index-init
loop-index-init c = record {
  taken = taken_none c.in_ok-model.model.now c.args.at.file c.args.name.now c.args.at.index (read_by c.args.view.now)
      (gains_of c.gains.inside.found c.model.new.notes);
  within = tt;
}

pub loop-index-preserved : goal.loop-index-preserved
loop-index-preserved c =
    let w = read_by c.args.view.now in
    let d = c.in_ok-model.model.now in
    record {
      taken = taken_next d c.args.at.file c.args.name.now c.args.at.index w
          (gains_of c.gains.inside.found c.model.new.notes) c.loop-index.gains c.take_hit.new.gains c.loop-index.after c.in-Some.index
          c.in-Some.ensures.least c.loop-index.invariant.taken
          (told_there d c.args.at.file c.in-Some.index c.member.result.now w c.loop-index.gains c.take_hit.new.gains c.member.ensures.lent
          c.in_ok-take_hit.ensures);
      within = c.in-Some.ensures.within;
    }

pub returns : goal.returns
returns c =
    let w = read_by c.args.view.now in
    let d = c.in_ok-model.model.now in
    subst (λ z. Gained (declared c.args.name.now c.args.at w) z c.loop-index.gains) c.gains.view_is
    (gained_read w (model c.args.at.file) (λ m. joined (declared_part m c.args.at.file c.args.name.now)
    (members_of m c.args.at.index)) d [] c.gains.inside.found c.gains.inside.notes c.model.new.notes
    c.loop-index.gains c.in_ok-model.ensures.read
    (taken_all d c.args.at.file c.args.name.now c.args.at.index w
    (gains_of c.gains.inside.found c.model.new.notes) c.loop-index.gains c.loop-index.after c.in_default.ensures.least c.loop-index.invariant.taken))
