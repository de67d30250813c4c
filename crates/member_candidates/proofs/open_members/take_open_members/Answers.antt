use Rattle.std.proofs.Common.{subst, []}
use Rattle.demand_core.specs.Computation.{join, joined}
use Rattle.element_store.specs.Model.{bearers}
use Rattle.element_store.specs.Readings.{redefining_of}
use Rattle.link_model.specs.Readers.{model}
use Rattle.link_walk.specs.Calls.{files_of, read_by}
use Rattle.link_walk.specs.Gained.{Gained}
use Rattle.link_walk.proofs.GainLaws.{gains_of, gained_read, gained_join}
use Rattle.inheritance.proofs.ExpandLaws.{stands_within}
use Rattle.feature_facts.specs.Stages.{told_of}
use Rattle.member_candidates.specs.Stages.{open_hit, open_effective, open_members}
use Rattle.member_candidates.proofs.open_members.take_open_members.Goals as goal

pub take_open_declared-requires-clause-stands : goal.take_open_declared-requires-clause-stands
take_open_declared-requires-clause-stands c =
    stands_within (files_of c.args.view.now) c.args.at c.in_ok-model.model.now c.in_ok-model.ensures.stored c.requires.stands

pub returns : goal.returns
returns c =
    let w = read_by c.args.view.now in
    let f = c.args.at.file in
    let e = c.args.at.index in
    let x = c.args.name.now in
    let d = c.in_ok-model.model.now in
    subst (λ z. Gained (open_members x c.args.at w) z c.take_open_redefining.new.gains) c.gains.view_is
    (gained_read w (model f) (λ m. join (joined (told_of m (open_hit f)) (bearers m.members e x)) (joined (told_of m (open_effective x f))
    (redefining_of m e))) d [] c.gains.inside.found c.gains.inside.notes c.model.new.notes c.take_open_redefining.new.gains c.in_ok-model.ensures.read
    (gained_join w (joined (told_of d (open_hit f)) (bearers d.members e x)) (joined (told_of d (open_effective x f)) (redefining_of d e))
    (gains_of c.gains.inside.found c.model.new.notes) c.take_open_declared.new.gains c.take_open_redefining.new.gains c.in_ok-take_open_declared.ensures
    c.in_ok-take_open_redefining.ensures))
