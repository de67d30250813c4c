use Rattle.std.proofs.Common.{length, subst, sym}
use Rattle.linker_base.specs.Members.{SameMembers}
use Rattle.demand_core.proofs.AgainLaws.{can_begin}
use Rattle.demand_core.specs.Settled.{CanSettle}
use Rattle.rules_example.specs.Example.{example_meaning}
use Rattle.rules_example.specs.Numbers.{numbers, same_number}
use Rattle.rules_example.proofs.example.Example.settle.Goals as goal

pub settle-requires-clause-ready : goal.settle-requires-clause-ready
settle-requires-clause-ready g c =
    subst (CanSettle same_number (example_meaning c.args.self.now) c.as_slice.result.now) (sym c.new-engine.ensures)
    (can_begin same_number (example_meaning c.args.self.now) c.as_slice.result.now
    (subst (λ ks. SameMembers ks (numbers (length c.args.self.now))) (sym c.as_slice.ensures) c.in_ok-keys.ensures))
