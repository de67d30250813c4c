use Rattle.std.proofs.Common.{sym, arith}
use Rattle.project_book.proofs.NamedLaws.{name_stays}
use Rattle.project_book.proofs.named.NamedFiles.enter.Goals as goal

pub returns-in-Some-clause-entered : goal.returns-in-Some-clause-entered
returns-in-Some-clause-entered c =
    let number = c.in-Some.ensures in
    sym (name_stays c.args.self.now c.args.name (omega (arith, number.0, number.1)))
