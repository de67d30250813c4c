-- What is kept for the namespace stands among all.
use Rattle.std.proofs.Common.{◌<◌, ◌&&◌, nat_eq, length, sym, ◌∙◌, subst}
use Rattle.std.specs.List.{All}
use Rattle.element_store.specs.Model.{data_of}
use Rattle.element_store.specs.Readings.{is_redefining}
use Rattle.element_store.proofs.NumberLaws.{numbers_all}
use Rattle.element_store.proofs.model.FileModel.redefining.Goals as goal

pub returns-clause-within : goal.returns-clause-within
returns-clause-within c =
    let d = data_of c.self.inside.parts in
    let kept = c.numbers.ensures ∙ c.self.invariant.1.redefining_kept c.args.element in
    subst (λ v. All (λ n. n < length v.members) c.numbers.result.now) c.self.view_is
    (subst (All (λ n. n < length d.members)) (sym kept) (numbers_all (λ m. nat_eq m.owner c.args.element && is_redefining d.references m.target) d.members))
