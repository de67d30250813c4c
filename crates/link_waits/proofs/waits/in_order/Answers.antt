use Rattle.std.proofs.Common.{◌≡◌, ◌∙◌, map, sym, subst, ap, length}
use Rattle.std.specs.Prelude.{None}
use Rattle.std.specs.List.Sorted.{IsPermutation}
use Rattle.linker_base.specs.Members.{SameMembers}
use Rattle.linker_base.specs.Orders.{AreInOrder}
use Rattle.link_model.specs.Linking.{ComesBefore}
use Rattle.link_waits.specs.Waits.{place_of, keys_from, Rises}
use Rattle.link_waits.proofs.WaitLaws.{keys_in_order, keys_same, permuted}
use Rattle.link_waits.proofs.waits.in_order.Goals as goal

pub returns-clause-order : goal.returns-clause-order
returns-clause-order c =
    let ps = c.put_in_order.new.places.items in
    subst (AreInOrder (ComesBefore c.args.models.now)) (sym (c.in_ok-keys.ensures ∙ ap (keys_from None) c.as_slice.ensures.value))
    (keys_in_order c.args.models.now c.files.ensures.kept c.args.ranks.now c.requires.ranks c.args.waits.now ps c.requires.files
    (subst (λ qs. SameMembers qs ps) c.in_ok-places.ensures (permuted _ ps c.in_ok-put_in_order.ensures.same)) c.in_ok-put_in_order.ensures.order)

pub returns-clause-same : goal.returns-clause-same
returns-clause-same c =
    let ps = c.put_in_order.new.places.items in
    subst (λ ks. SameMembers ks c.args.waits.now) (sym (c.in_ok-keys.ensures ∙ ap (keys_from None) c.as_slice.ensures.value))
    (keys_same c.args.ranks.now c.args.waits.now ps (subst (λ qs. SameMembers qs ps) c.in_ok-places.ensures
    (permuted _ ps c.in_ok-put_in_order.ensures.same)))
