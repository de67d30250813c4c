use Rattle.std.proofs.Common.{[], sym, ◌∙◌, cond, subst}
use Rattle.std.specs.Prelude.{◌||◌}
use Rattle.demand_core.specs.Computation.{done}
use Rattle.link_model.specs.Imports.{in_owned}
use Rattle.link_model.specs.Outside.{is_public}
use Rattle.link_model.specs.Readers.{told}
use Rattle.import_walk.specs.Deferred.{Defers, again_from}
use Rattle.import_walk.proofs.DeferLaws.{defers_true, defers_false, defers_none}
use Rattle.import_walk.proofs.PartLaws.{target_in}
use Rattle.import_walk.proofs.visibility.add_member.Goals as goal

pub returns-in_ok-defer_owned : goal.returns-in_ok-defer_owned
returns-in_ok-defer_owned c ask files w there =
    let inner = c.args.inner.now in
    let m = c.member-member.result.now in
    subst (λ o. Defers ask files w inner 1 (told o (λ j. cond (c.args.all || is_public j.visibility) (in_owned
    (again_from ask inner) c.args.all c.args.file j.target) (done [])) w) c.args.hunt.now c.defer_owned.new.hunt) (sym c.member-member.ensures.lent)
    (defers_true ask files w inner 1 (c.args.all || is_public m.visibility) (in_owned (again_from ask inner) c.args.all c.args.file m.target)
    (done []) c.args.hunt.now c.defer_owned.new.hunt
    (sym c.is_shown-shown.ensures ∙ c.if-shown.true) (c.in_ok-defer_owned.ensures ask files w
    (target_in files c.args.file c.args.model.now m.target there c.member-member.ensures.target)))

pub returns-else-shown : goal.returns-else-shown
returns-else-shown c ask files w there =
    let inner = c.args.inner.now in
    let m = c.member-member.result.now in
    subst (λ o. Defers ask files w inner 1 (told o (λ j. cond (c.args.all || is_public j.visibility) (in_owned
    (again_from ask inner) c.args.all c.args.file j.target) (done [])) w) c.args.hunt.now c.args.hunt.now) (sym c.member-member.ensures.lent)
    (defers_false ask files w inner 1 (c.args.all || is_public m.visibility) (in_owned (again_from ask inner) c.args.all c.args.file m.target)
    (done []) c.args.hunt.now c.args.hunt.now
    (sym c.is_shown-shown.ensures ∙ c.if-shown.false) (defers_none ask files w inner 1 c.args.hunt.now))
