use Rattle.std.proofs.Common.{◌≡◌, ℕ, List, [], ◌∷◌, ◌<◌, ◌≤◌, ◌^◌, ◌++◌, sym, ◌∙◌, ap, subst, length, arith}
use Rattle.element_store.specs.declared.numbers.ElementNo.{ElementNo}
use Rattle.link_model.specs.Keys.{is_in}
use Rattle.link_model.specs.Outside.{library_of}
use Rattle.link_walk.specs.Calls.{read_by}
use Rattle.import_walk.specs.Deferred.{Defers, asks_task, shows, width}
use Rattle.import_walk.proofs.DeferLaws.{defers_excluded, defers_expanded}
use Rattle.import_walk.proofs.visibility.expand.Goals as goal

below : (xs ys : List ElementNo) (base : ℕ) → xs ≡ ys → length xs < 2 ^ 64 → 2 ^ 64 ≤ base → length ys < base
below xs ys base is lt le = let same : length xs ≡ length ys = ap length is in omega arith

pub returns-then-known-clause-gives : goal.returns-then-known-clause-gives
returns-then-known-clause-gives g c base le =
    let files = c.args.view.now.models.now in
    let w = read_by c.args.view.now in
    let t = c.args.task.now in
    let lt = below c.as_slice-depth.result.now t.excluded base c.as_slice-depth.ensures c.as_slice-depth.type_inv.0 le in
    defers_excluded (library_of files) c.args.name.now base files w (width files t) t c.args.hunt.now lt (sym (c.is_in-known.ensures ∙ ap
    (is_in t.namespace) c.as_slice.ensures) ∙ c.if-known.true)

pub returns-clause-gives : goal.returns-clause-gives
returns-clause-gives g c base le =
    let files = c.args.view.now.models.now in
    let lib = library_of files in
    let x = c.args.name.now in
    let w = read_by c.args.view.now in
    let t = c.args.task.now in
    let lt = below c.as_slice-depth.result.now t.excluded base c.as_slice-depth.ensures c.as_slice-depth.type_inv.0 le in
    let inner : c.append_elements.new.elements ≡ t.namespace ∷ t.excluded = c.in_ok-append_elements.ensures ∙ (ap (λ z. z ++ c.as_slice-2.result.now)
    (c.in_ok-push.ensures.ok ∙ ap (λ z. z ++ t.namespace ∷ []) c.new-inner.ensures) ∙ ap (λ z. t.namespace ∷ z) c.as_slice-2.ensures) in
    defers_expanded lib x base files w t c.args.hunt.now c.add_shown.new.hunt lt (sym (c.is_in-known.ensures ∙ ap
    (is_in t.namespace) c.as_slice.ensures) ∙ c.if-known.false)
    (subst (λ z. Defers (asks_task lib x base) files w z (width files t) (shows lib x (asks_task lib x base) z t w) c.args.hunt.now c.add_shown.new.hunt)
    (c.as_slice-3.ensures ∙ inner) (c.in_ok-add_shown.ensures (asks_task lib x base)))
