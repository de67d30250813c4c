use Rattle.std.proofs.Common.{sym, subst, ap, ◌∙◌, ◌+◌}
use Rattle.std.specs.List.Sorted.{IsNonDecreasingBy}
use Rattle.element_store.specs.Model.{data_of}
use Rattle.element_store.specs.Readings.{ArePartedAt}
use Rattle.element_store.proofs.ReferenceLaws.{contexts_rise, between_counts}
use Rattle.element_store.proofs.model.FileModel.references_of.Goals as goal

pub count_before-first-requires : goal.count_before-first-requires
count_before-first-requires c = subst (IsNonDecreasingBy (λ r. r.context)) (sym c.deref.ensures.value) (contexts_rise (data_of c.self.inside.parts) c.self.invariant.0.numbering.references)

pub count_before-after-requires : goal.count_before-after-requires
count_before-after-requires c = subst (IsNonDecreasingBy (λ r. r.context)) (sym c.deref-2.ensures.value) (contexts_rise (data_of c.self.inside.parts) c.self.invariant.0.numbering.references)

pub returns-clause-own : goal.returns-clause-own
returns-clause-own c = between_counts c.args.self.now.references c.args.element c.count_before-first.result c.count_before-after.result
    (subst (λ rs. ArePartedAt rs c.args.element c.count_before-first.result) (c.deref.ensures.value ∙ ap (λ v. v.references) c.self.view_is) c.count_before-first.ensures.parts)
    (subst (λ rs. ArePartedAt rs (c.args.element + 1) c.count_before-after.result) (c.deref-2.ensures.value ∙ ap (λ v. v.references) c.self.view_is) c.count_before-after.ensures.parts)
