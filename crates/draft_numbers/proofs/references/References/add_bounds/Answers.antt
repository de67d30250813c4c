use Rattle.std.proofs.Common.{◌++◌, ◌∷◌, [], ap, sym, ◌∙◌}
use Rattle.element_store.specs.declared.outcome.Role.TheVariants as role
use Rattle.draft_numbers.proofs.Grown.{two_added, two_are}
use Rattle.draft_numbers.proofs.references.References.add_bounds.Goals as goal

pub returns-clause-added : goal.returns-clause-added
returns-clause-added c =
    let first = c.in-Some-pop.first in
    let last = c.in-Some.last in
    two_added c.args.context role.Bound c.args.nodes.items first last c.args.self.now c.add_end-in-Some-pop.new.self c.add_end-in-Some-pop-2.new.self
    (two_are c.args.nodes.items c.pop-2.new.self.items first last
    (sym c.truncate.ensures.items ∙ (c.in-Some.ensures.items ∙ ap (λ t. t ++ last ∷ []) c.in-Some-pop.ensures.items)))
    c.in_ok-lower-in-Some-pop.ensures.added c.in_ok-upper-in-Some-pop.ensures.added
