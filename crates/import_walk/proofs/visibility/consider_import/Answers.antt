use Rattle.std.proofs.Common.{[], sym, ◌∙◌, cond, subst}
use Rattle.std.specs.Prelude.{◌||◌}
use Rattle.demand_core.specs.Computation.{done}
use Rattle.link_model.specs.Imports.{brought}
use Rattle.link_model.specs.Outside.{library_of, is_public}
use Rattle.link_model.specs.Readers.{told}
use Rattle.link_walk.specs.Calls.{read_by}
use Rattle.import_walk.specs.Deferred.{Defers, again_from}
use Rattle.import_walk.proofs.DeferLaws.{defers_true, defers_false, defers_none}
use Rattle.import_walk.proofs.visibility.consider_import.Goals as goal

pub returns-in_ok-add_import : goal.returns-in_ok-add_import
returns-in_ok-add_import g c ask =
    let files = c.args.view.now.models.now in
    let lib = library_of files in
    let w = read_by c.args.view.now in
    let x = c.args.name.now in
    let i = c.import-import.result.now in
    let f = c.args.number.file in
    let inner = c.args.inner.now in
    subst (λ o. Defers ask files w inner 1 (told o (λ j. cond (c.args.all || is_public j.visibility) (brought (again_from ask inner) x f j)
    (done [])) w) c.args.hunt.now c.add_import.new.hunt) (sym c.import-import.ensures.lent)
    (defers_true ask files w inner 1 (c.args.all || is_public i.visibility) (brought (again_from ask inner) x f i)
    (done []) c.args.hunt.now c.add_import.new.hunt
    (sym c.is_shown-shown.ensures ∙ c.if-shown.true) (c.in_ok-add_import.ensures ask))

pub returns-else-shown : goal.returns-else-shown
returns-else-shown g c ask =
    let files = c.args.view.now.models.now in
    let lib = library_of files in
    let w = read_by c.args.view.now in
    let x = c.args.name.now in
    let i = c.import-import.result.now in
    let f = c.args.number.file in
    let inner = c.args.inner.now in
    subst (λ o. Defers ask files w inner 1 (told o (λ j. cond (c.args.all || is_public j.visibility) (brought (again_from ask inner) x f j)
    (done [])) w) c.args.hunt.now c.args.hunt.now) (sym c.import-import.ensures.lent)
    (defers_false ask files w inner 1 (c.args.all || is_public i.visibility) (brought (again_from ask inner) x f i)
    (done []) c.args.hunt.now c.args.hunt.now
    (sym c.is_shown-shown.ensures ∙ c.if-shown.false) (defers_none ask files w inner 1 c.args.hunt.now))
