use Rattle.std.proofs.Common.{sym, subst, ◌++◌, [], ◌∷◌}
use Rattle.element_store.specs.declared.records.Target.TheVariants.{Owned}
use Rattle.link_model.specs.Outside.{is_private}
use Rattle.link_walk.specs.Gained.{Gained}
use Rattle.link_walk.proofs.GainLaws.{gains_of, gained_none}
use Rattle.feature_facts.specs.Stages.{told_of, own_redefiner, owned_redefiner, feature_at}
use Rattle.feature_facts.specs.declared.facts.Redefiner.{Redefiner}
use Rattle.feature_facts.proofs.TableLaws.{told_gained, gained_one}
use Rattle.feature_facts.proofs.facts.take_redefiner.Goals as goal

pub returns-in-Alias : goal.returns-in-Alias
returns-in-Alias c = λ w.
    let m = c.member-member.result.now in
    told_gained c.args.model.now c.args.index m w (own_redefiner c.args.owner) c.args.gains.now c.args.gains.now c.member-member.ensures.lent
    (subst (λ t. Gained (owned_redefiner c.args.owner (is_private m.visibility) t w) c.args.gains.now c.args.gains.now) (sym c.in-Alias.is)
    (gained_none w c.args.gains.now))

pub returns-in_ok-push-in-Owned : goal.returns-in_ok-push-in-Owned
returns-in_ok-push-in-Owned c = λ w.
    let m = c.member-member.result.now in
    let u = c.args.owner in
    let found = c.gains.inside.found in
    let notes = c.gains.inside.notes in
    let q : Redefiner = record { owner = u; feature = feature_at u c.in-Owned.element; hidden = c.is_private-hidden.result } in
    let new = gains_of c.push.new.self notes in
    subst (λ z. Gained (told_of c.args.model.now (own_redefiner u) c.args.index w) z new) c.gains.view_is
    (told_gained c.args.model.now c.args.index m w (own_redefiner u) (gains_of found notes) new c.member-member.ensures.lent
    (subst (λ t. Gained (owned_redefiner u (is_private m.visibility) t w) (gains_of found notes) new) (sym c.in-Owned.is)
    (subst (λ b. Gained (owned_redefiner u b (Owned c.in-Owned.element) w) (gains_of found notes) new) c.is_private-hidden.ensures
    (subst (λ fs. Gained (owned_redefiner u c.is_private-hidden.result (Owned c.in-Owned.element) w) (gains_of found notes) (gains_of fs notes))
    (sym c.in_ok-push-in-Owned.ensures.ok) (gained_one w q found notes)))))
