use Rattle.std.proofs.Common.{sym, ◌∙◌, ap, subst, ◌++◌, []}
use Rattle.std.specs.Prelude.{not, ◌&&◌}
use Rattle.demand_core.specs.Computation.{done}
use Rattle.link_model.specs.Inheritance.{is_owned_by}
use Rattle.link_model.specs.Readers.{element, only_if}
use Rattle.link_walk.specs.Calls.{read_by}
use Rattle.link_walk.specs.Gained.{Gained}
use Rattle.link_walk.proofs.GainLaws.{gains_of, gained_read, gained_if}
use Rattle.removed_features.specs.Stages.{removing_of}
use Rattle.removed_features.proofs.removal.take_removing.Goals as goal

pub returns : goal.returns
returns c =
    let h = c.args.heir.now in
    let w = read_by h.view.now in
    let e = c.args.e in
    let found = c.gains.inside.found in
    let x = c.in_ok-x.x.now in
    let own = h.raw && is_owned_by h.of e x.owner in
    subst (λ z. Gained (removing_of h.raw h.of e w) z (gains_of c.push_unless.new.found c.element.new.notes)) c.gains.view_is
    (gained_read w (element e) (λ y. done (only_if (not (h.raw && is_owned_by h.of e y.owner)) e)) x [] found c.gains.inside.notes c.element.new.notes
    (gains_of c.push_unless.new.found c.element.new.notes) c.in_ok-x.ensures.read
    (subst (λ fs. Gained (done (only_if (not own) e) w) (gains_of found c.element.new.notes) (gains_of fs c.element.new.notes))
    (sym (c.in_ok-push_unless.ensures ∙ ap (λ b. found ++ only_if (not b) e) c.is_own-own.ensures)) (gained_if w (not own) e found c.element.new.notes)))
