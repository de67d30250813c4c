use Rattle.std.proofs.Common.{subst, length, ◌<◌, refl, sym}
use Rattle.std.proofs.lemmas.Option.{slice_get_read}
use Rattle.element_store.proofs.ModelLaws.{owner_before}
use Rattle.element_store.proofs.model.FileModel.element.Goals as goal

pub returns-clause-owner : goal.returns-clause-owner
returns-clause-owner c =
    let es = c.self.inside.parts.elements.items in
    let at = slice_get_read es (length es) c.args.index c.index.result.now refl (subst (λ v. c.args.index < length v.elements) (sym c.self.view_is) c.requires) c.index.ensures in
    owner_before es c.args.index c.index.result.now c.self.invariant.0.root c.self.invariant.0.numbering.elements at
