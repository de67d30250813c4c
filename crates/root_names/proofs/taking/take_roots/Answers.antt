-- The items of the root have its members.
use Rattle.std.proofs.Common.{◌∙◌, ap}
use Rattle.std.specs.List.{flat_map}
use Rattle.element_store.specs.Readings.{is_any}
use Rattle.root_names.specs.Roots.{bearing}
use Rattle.root_names.specs.Steps.{left, shown_by}
use Rattle.root_names.proofs.RootLaws.{roots_are}
use Rattle.root_names.proofs.taking.take_roots.Goals as goal

pub returns : goal.returns
returns c x =
    let f = c.args.file in
    let d = c.args.model.now in
    c.take_items.ensures x
    ∙ ap (λ items. left f (is_any (flat_map (shown_by x f d) items)) (bearing c.args.table.now x)) c.as_slice.ensures
    ∙ ap (λ ms. left f (is_any ms) (bearing c.args.table.now x)) (roots_are x f d c.items.result.now c.items.ensures.members)
