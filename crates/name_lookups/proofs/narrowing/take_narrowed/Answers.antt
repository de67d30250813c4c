use Rattle.std.proofs.Common.{subst, sym, ◌∙◌, ap}
use Rattle.demand_core.specs.Computation.{◌>>=◌}
use Rattle.demand_core.specs.Search.{IsAsked}
use Rattle.link_model.specs.Imports.{narrowed}
use Rattle.link_walk.specs.Calls.{files_of, read_by}
use Rattle.link_walk.specs.Gained.{Gained}
use Rattle.link_walk.proofs.GainLaws.{gains_of, stop_by, goes_on_by, waits_some, waits_none}
use Rattle.name_lookups.specs.Narrowed.{MembersStand}
use Rattle.name_lookups.proofs.NarrowLaws.{members_stand, narrowed_alike}
use Rattle.name_lookups.proofs.narrowing.take_narrowed.Goals as goal

pub take_all_shown-requires : goal.take_all_shown-requires
take_all_shown-requires c =
    let files = files_of c.args.view.now in
    let g = gains_of c.tier.inside.found c.tier.inside.notes in
    record {
      stand = subst (λ hs. MembersStand files hs) (ap (λ z. z.found) (sym c.tier.view_is) ∙ sym c.as_slice.ensures)
          (members_stand files c.args.tier.now c.requires.stand
          (ap (λ z. z.waits) (sym c.tier.view_is) ∙ waits_none g.waits (sym c.is_waiting-waiting.ensures ∙ c.if-waiting.false)));
    }

pub returns-then-waiting : goal.returns-then-waiting
returns-then-waiting c = λ a h.
    let w = read_by c.args.view.now in
    let g = gains_of c.tier.inside.found c.tier.inside.notes in
    subst (λ z. Gained ((a >>= narrowed c.args.all) w) z (gains_of c.gains.inside.found c.append.new.self)) c.gains.view_is
    (stop_by w g a (narrowed c.args.all) c.gains.inside.found c.gains.inside.notes c.append.new.self
    (subst (λ z. IsAsked z (a w)) (sym c.tier.view_is) h) c.in_ok-append.ensures
    (waits_some g.waits (sym c.is_waiting-waiting.ensures ∙ c.if-waiting.true)))

pub returns : goal.returns
returns c = λ a h.
    let w = read_by c.args.view.now in
    let g = gains_of c.tier.inside.found c.tier.inside.notes in
    let new = c.take_all_shown.new.gains in
    subst (λ z. Gained ((a >>= narrowed c.args.all) w) z new) c.gains.view_is
    (goes_on_by w g a (narrowed c.args.all) c.gains.inside.found c.gains.inside.notes c.append.new.self
    (subst (λ z. IsAsked z (a w)) (sym c.tier.view_is) h) c.in_ok-append.ensures new
    (waits_none g.waits (sym c.is_waiting-waiting.ensures ∙ c.if-waiting.false)) (narrowed_alike w c.args.all)
    (subst (λ hs. Gained (narrowed c.args.all hs w) (gains_of c.gains.inside.found c.append.new.self) new) c.as_slice.ensures
    c.in_ok-take_all_shown.ensures))
