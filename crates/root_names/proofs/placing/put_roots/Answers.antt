-- The items of the root have its members.
use Rattle.std.proofs.Common.{◌∙◌, ap}
use Rattle.std.specs.List.{flat_map}
use Rattle.std.proofs.lemmas.Result.{on_ok_weaker, on_err_weaker}
use Rattle.element_store.specs.declared.lists.Item.{Item}
use Rattle.std.specs.Prelude.{List}
use Rattle.root_names.specs.Roots.{bearing}
use Rattle.root_names.specs.Steps.{is_behind, put_each, shown_by}
use Rattle.root_names.proofs.RootLaws.{roots_are}
use Rattle.root_names.proofs.placing.put_roots.Goals as goal

pub returns-clause-ok : goal.returns-clause-ok
returns-clause-ok c =
    let f = c.args.file in
    let d = c.args.model.now in
    on_ok_weaker c.put_items.result (λ put x.
    put x
    ∙ ap (λ (items : List Item). put_each (is_behind c.args.models.now f) (flat_map (shown_by x f d) items) (bearing c.args.table.now x)) c.as_slice.ensures
    ∙ ap (λ ms. put_each (is_behind c.args.models.now f) ms (bearing c.args.table.now x)) (roots_are x f d c.items.result.now c.items.ensures.members))
    c.put_items.ensures.ok

pub returns-clause-err : goal.returns-clause-err
returns-clause-err c =
    let f = c.args.file in
    let d = c.args.model.now in
    on_err_weaker c.put_items.result (λ partly x.
    let p = partly x in (
      p.0,
      λ none. p.1 (ap (λ (items : List Item). flat_map (shown_by x f d) items) c.as_slice.ensures
          ∙ roots_are x f d c.items.result.now c.items.ensures.members ∙ none),
    )) c.put_items.ensures.err
