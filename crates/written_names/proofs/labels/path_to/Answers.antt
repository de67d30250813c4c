use Rattle.std.proofs.Common.{◌<◌, length, IfSome, subst, sym, arith, All}
use Rattle.std.proofs.lemmas.List.Elements.{All-push}
use Rattle.book_model.proofs.LabelLaws.{parts_are}
use Rattle.written_names.proofs.NameLaws.{one_out}
use Rattle.written_names.proofs.labels.path_to.Goals as goal

pub loop-owner-preserved : goal.loop-owner-preserved
loop-owner-preserved c =
    let d = c.args.model.now in
    let owned = c.in-Some.is in
    let before : c.in-Some.owner < c.loop-owner.at = subst (λ o. IfSome o (λ owner. owner < c.loop-owner.at)) owned c.element.ensures.owner in (
      omega (arith, before, c.loop-owner.invariant.0),
      one_out d _ c.loop-owner.at c.in-Some.owner c.loop-owner.path.items c.push.new.self.items c.element.result.now c.element.ensures.lent owned
          (parts_are d c.loop-owner.at c.element.result.now c.elements.ensures.model c.element.ensures.lent)
          c.loop-owner.invariant.1 c.in_ok-push.ensures.items,
      subst (All (λ e. e < length d.elements)) (sym c.in_ok-push.ensures.items)
          (All-push (λ e. e < length d.elements) c.loop-owner.path.items c.loop-owner.at c.loop-owner.invariant.2 c.loop-owner.invariant.0),
    )
