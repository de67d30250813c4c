use Rattle.std.proofs.Common.{◌<◌, length, sym, subst, arith}
use Rattle.element_store.specs.Model.{data_of}
use Rattle.element_store.proofs.ModelLaws.{AreItemsOf, items_long, items_at}
use Rattle.element_store.proofs.model.FileModel.items.Goals as goal

pub index-requires : goal.index-requires
index-requires c =
    let below : c.args.element < length (data_of c.self.inside.parts).elements = subst (λ v. c.args.element < length v.elements) (sym c.self.view_is) c.requires in
    omega (arith, items_long (data_of c.self.inside.parts) c.self.invariant.0, below)

-- the four clauses at once
told : (c : goal.After-index) → AreItemsOf c.args.self.now c.args.element c.index.result.now
told c = subst (λ v. AreItemsOf v c.args.element c.index.result.now) c.self.view_is
    (items_at (data_of c.self.inside.parts) c.self.invariant.0 c.args.element c.index.result.now
    (subst (λ v. c.args.element < length v.elements) (sym c.self.view_is) c.requires) c.index.ensures)

pub returns-clause-lent : goal.returns-clause-lent
returns-clause-lent c = (told c).lent

pub returns-clause-members : goal.returns-clause-members
returns-clause-members c = (told c).members

pub returns-clause-imports : goal.returns-clause-imports
returns-clause-imports c = (told c).imports

pub returns-clause-stand : goal.returns-clause-stand
returns-clause-stand c = (told c).stand
