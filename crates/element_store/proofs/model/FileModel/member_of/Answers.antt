use Rattle.std.proofs.Common.{◌<◌, ◌≡◌, suc, length, drop, get_or, sym, ap, subst, arith, length-drop}
use Rattle.element_store.specs.Numbers.{numbers_from}
use Rattle.element_store.specs.Model.{data_of, is_owning}
use Rattle.element_store.specs.Readings.{Owns}
use Rattle.element_store.proofs.OwnerLaws.{owners_long, owner_read}
use Rattle.element_store.proofs.model.FileModel.member_of.Goals as goal

-- the place of the element among all but the root
within : (c : goal.After-self) → c.in_ok-place.place < length (drop 1 (data_of c.self.inside.parts).elements)
within c =
    let d = data_of c.self.inside.parts in
    let below : c.args.element < length d.elements = subst (λ v. c.args.element < length v.elements) (sym c.self.view_is) c.requires in
    omega (arith, below, length-drop 1 d.elements, c.in_ok-place.ensures.0, c.in_ok-place.ensures.1)

pub index-requires : goal.index-requires
index-requires c =
    let d = data_of c.self.inside.parts in
    omega (arith, within c, owners_long d c.self.invariant.0.owned, ap length c.self.invariant.1.owning)

pub returns-clause-member : goal.returns-clause-member
returns-clause-member c =
    let d = data_of c.self.inside.parts in
    let below : c.args.element < length d.elements = subst (λ v. c.args.element < length v.elements) (sym c.self.view_is) c.requires in
    let lt : c.in_ok-place.place < length (drop 1 d.elements) = omega (arith, below, length-drop 1 d.elements, c.in_ok-place.ensures.0, c.in_ok-place.ensures.1) in
    let read : c.index.result.now ≡ get_or (numbers_from 0 is_owning d.members) c.in_ok-place.place c.index.result.now =
    subst (λ ns. c.index.result.now ≡ get_or ns c.in_ok-place.place c.index.result.now) c.self.invariant.1.owning c.index.ensures in
    let number : suc c.in_ok-place.place ≡ c.args.element = omega (arith, c.in_ok-place.ensures.0, c.in_ok-place.ensures.1) in
    subst (λ v. Owns v c.args.element c.index.result.now) c.self.view_is
    (subst (λ e. Owns d e c.index.result.now) number (owner_read d c.self.invariant.0.owned c.in_ok-place.place c.index.result.now lt read))
