use Rattle.std.proofs.Common.{[], sym, ◌∙◌, map}
use Rattle.demand_core.specs.Computation.{done}
use Rattle.link_model.specs.Readers.{is_nil}
use Rattle.link_walk.proofs.GainLaws.{gained_true, gained_false, gained_none}
use Rattle.feature_facts.specs.Known.{library_for, world_of}
use Rattle.feature_facts.specs.Stages.{as_candidate}
use Rattle.inherited_names.specs.Stages.{decided}
use Rattle.inherited_names.proofs.conditions.take_conditions.Goals as goal

pub returns-then-none : goal.returns-then-none
returns-then-none c =
    let h = c.args.heir.now in
    let cs = map as_candidate c.args.candidates.now in
    gained_true (world_of h) (is_nil cs) (done []) (decided (library_for h) h.raw h.of c.args.types.now cs) c.args.gains.now c.args.gains.now
    (sym c.is_none-none.ensures ∙ c.if-none.true) (gained_none (world_of h) c.args.gains.now)

pub returns : goal.returns
returns c =
    let h = c.args.heir.now in
    let cs = map as_candidate c.args.candidates.now in
    gained_false (world_of h) (is_nil cs) (done []) (decided (library_for h) h.raw h.of c.args.types.now cs) c.args.gains.now c.take_decided.new.gains
    (sym c.is_none-none.ensures ∙ c.if-none.false) c.in_ok-take_decided.ensures
