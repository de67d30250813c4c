use Rattle.std.proofs.Common.{sym, subst}
use Rattle.link_model.specs.Imports.{brought}
use Rattle.link_model.specs.Outside.{library_of}
use Rattle.link_model.specs.Readers.{model, told}
use Rattle.std.specs.Prelude.{slice_get}
use Rattle.link_walk.specs.Calls.{read_by}
use Rattle.import_walk.specs.Deferred.{Defers, again_from, brings}
use Rattle.import_walk.proofs.DeferLaws.{hunt_of, defers_read}
use Rattle.import_walk.proofs.visibility.add_numbered.Goals as goal

pub returns : goal.returns
returns g c ask =
    let files = c.args.view.now.models.now in
    let lib = library_of files in
    let w = read_by c.args.view.now in
    let x = c.args.name.now in
    let i = c.args.import in
    let excluded = c.args.excluded.now in
    let again = again_from ask excluded in
    let d = c.in_ok-model.model.now in
    let tasks = c.hunt.inside.tasks.items in
    let found = c.hunt.inside.found in
    subst (λ z. Defers ask files w excluded 1 (brings x i again w) z c.add_import.new.hunt) c.hunt.view_is
    (defers_read ask files w excluded 1 (model i.file) (λ m. told (slice_get m.imports i.index)
    (brought again x i.file)) d tasks found c.hunt.inside.notes c.model.new.notes c.add_import.new.hunt c.in_ok-model.ensures.read
    (subst (λ o. Defers ask files w excluded 1 (told o (brought again x i.file) w) (hunt_of tasks found c.model.new.notes) c.add_import.new.hunt)
    (sym c.import-own.ensures.lent)
    (c.in_ok-add_import.ensures ask)))
