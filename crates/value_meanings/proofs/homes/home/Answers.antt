use Rattle.std.proofs.Common.{sym, arith}
use Rattle.value_meanings.proofs.HomeLaws.{nowhere_past}
use Rattle.value_meanings.proofs.homes.home.Goals as goal

pub returns-else-e-elements : goal.returns-else-e-elements
returns-else-e-elements c =
    nowhere_past c.args.view.now c.args.e c.in-Some.model.now (sym c.in-Some.ensures.kept) c.in-Some.ensures.sound.1
    (omega (arith, c.elements.ensures.count, c.if-e-elements.false))
