use Rattle.std.proofs.Common.{subst}
use Rattle.link_model.specs.Imports.{brought}
use Rattle.link_model.specs.Outside.{library_of}
use Rattle.link_model.specs.Readers.{key, model, target}
use Rattle.demand_core.specs.Computation.{◌>>=◌, joined}
use Rattle.link_walk.specs.Calls.{read_by}
use Rattle.link_walk.specs.Noted.{Tells}
use Rattle.import_walk.specs.Deferred.{Defers, again_from, import_at}
use Rattle.import_walk.proofs.DeferLaws.{hunt_of, defers_nowhere, defers_somewhere, defers_read}
use Rattle.import_walk.proofs.visibility.add_import.Goals as goal

pub returns-in-None : goal.returns-in-None
returns-in-None g c ask =
    let files = c.args.view.now.models.now in
    let lib = library_of files in
    let w = read_by c.args.view.now in
    let x = c.args.name.now in
    let i = c.args.import.now in
    let f = c.args.file in
    let inner = c.args.inner.now in
    let d = c.in_ok-of.of.now in
    let told = subst (λ o. Tells (target (key f i.reference) w) o c.model.new.notes c.target.new.notes) c.in-None.is c.in_ok-target.ensures.told in
    subst (λ z. Defers ask files w inner 1 (brought (again_from ask inner) x f i w) z
    (hunt_of c.hunt.inside.tasks.items c.hunt.inside.found c.target.new.notes)) c.hunt.view_is
    (defers_read ask files w inner 1 (model f) (λ m. target (key f i.reference) >>= joined
    (import_at x ask inner m i)) d c.hunt.inside.tasks.items c.hunt.inside.found c.hunt.inside.notes c.model.new.notes _ c.in_ok-of.ensures.read
    (defers_nowhere ask files w inner 1 (target (key f i.reference))
    (import_at x ask inner d i) c.hunt.inside.tasks.items c.hunt.inside.found c.model.new.notes c.target.new.notes told))

pub returns-in_ok-add_target-in-Some : goal.returns-in_ok-add_target-in-Some
returns-in_ok-add_target-in-Some g c ask =
    let files = c.args.view.now.models.now in
    let lib = library_of files in
    let w = read_by c.args.view.now in
    let x = c.args.name.now in
    let i = c.args.import.now in
    let f = c.args.file in
    let inner = c.args.inner.now in
    let d = c.in_ok-of.of.now in
    let told = subst (λ o. Tells (target (key f i.reference) w) o c.model.new.notes c.target.new.notes) c.in-Some.is c.in_ok-target.ensures.told in
    subst (λ z. Defers ask files w inner 1 (brought (again_from ask inner) x f i w) z c.add_target.new.hunt) c.hunt.view_is
    (defers_read ask files w inner 1 (model f) (λ m. target (key f i.reference) >>= joined
    (import_at x ask inner m i)) d c.hunt.inside.tasks.items c.hunt.inside.found c.hunt.inside.notes c.model.new.notes _ c.in_ok-of.ensures.read
    (defers_somewhere ask files w inner 1 (target (key f i.reference))
    (import_at x ask inner d i) c.in-Some.element c.hunt.inside.tasks.items c.hunt.inside.found c.model.new.notes c.target.new.notes
    c.add_target.new.hunt told
    (c.in_ok-add_target-in-Some.ensures ask)))
