use Rattle.std.proofs.Common.{List, ℕ, sym, subst, length}
use Rattle.std.specs.Prelude.{◌||◌}
use Rattle.demand_core.specs.Computation.{joined}
use Rattle.element_store.specs.Condition.{imports_of}
use Rattle.element_store.specs.Model.{Data}
use Rattle.link_model.specs.Imports.{import_tier}
use Rattle.link_model.specs.Outside.{library_of, is_public}
use Rattle.link_model.specs.Readers.{model}
use Rattle.link_walk.specs.Calls.{read_by}
use Rattle.import_walk.specs.Deferred.{Defers, again_from, shown_import, imports_at}
use Rattle.import_walk.proofs.DeferLaws.{hunt_of, defers_read}
use Rattle.import_walk.proofs.PartLaws.{done_same}
use Rattle.import_walk.proofs.visibility.add_imports_of.Goals as goal

pub returns : goal.returns
returns g c ask =
    let files = c.args.view.now.models.now in
    let lib = library_of files in
    let w = read_by c.args.view.now in
    let x = c.args.name.now in
    let all = c.args.all in
    let f = c.args.of.file in
    let inner = c.args.inner.now in
    let d = c.in_ok-model.model.now in
    let there = done_same _ _ c.in_ok-model.ensures.read.step in
    let tasks = c.hunt.inside.tasks.items in
    let found = c.hunt.inside.found in
    subst (λ z. Defers ask files w inner (length (imports_at files c.args.of)) (import_tier (again_from ask inner)
    (λ i. all || is_public i.visibility) x c.args.of w) z c.add_imports.new.hunt) c.hunt.view_is
    (defers_read ask files w inner (length (imports_at files c.args.of)) (model f) (λ m. joined (shown_import x ask inner all f m)
    (imports_of m c.args.of.index)) d tasks found c.hunt.inside.notes c.model.new.notes c.add_imports.new.hunt
    c.in_ok-model.ensures.read
    (subst (λ (m : Data). Defers ask files w inner (length (imports_of m c.args.of.index)) (joined (shown_import x ask inner all f d)
    (imports_of d c.args.of.index) w) (hunt_of tasks found c.model.new.notes) c.add_imports.new.hunt) (sym there)
    (subst (λ (ks : List ℕ). Defers ask files w inner (length ks) (joined (shown_import x ask inner all f d) ks w)
    (hunt_of tasks found c.model.new.notes) c.add_imports.new.hunt) c.imports_of-numbers.ensures.lent
    (c.in_ok-add_imports.ensures ask))))
