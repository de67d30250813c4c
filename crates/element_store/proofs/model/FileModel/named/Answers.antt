use Rattle.std.proofs.Common.{length, sym, subst, zero-add, nat_eq, ◌&&◌}
use Rattle.std.specs.List.Sorted.{IsNonDecreasingBy}
use Rattle.linker_base.specs.Members.{IsMember}
use Rattle.element_store.specs.Model.{bears}
use Rattle.element_store.proofs.NumberLaws.{numbers_rise, numbers_below, least_within}
use Rattle.element_store.proofs.model.FileModel.named.Goals as goal

pub first_above-requires : goal.first_above-requires
first_above-requires c =
    subst (IsNonDecreasingBy (λ n. n)) (sym c.bearers.ensures) (numbers_rise (λ m. nat_eq m.owner c.args.element && bears c.bytes.result.now m) 0 c.args.self.now.members)

pub returns-clause-within : goal.returns-clause-within
returns-clause-within c =
    let members = c.args.self.now.members in
    least_within c.args.after c.bearers.result.now c.first_above.result (length members) c.first_above.ensures
    (λ m is. numbers_below (λ x. nat_eq x.owner c.args.element && bears c.bytes.result.now x) 0 (length members) members m (zero-add (length members))
    (subst (λ ns. IsMember ns m) c.bearers.ensures is))
