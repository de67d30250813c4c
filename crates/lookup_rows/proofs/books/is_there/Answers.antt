use Rattle.std.proofs.Common.{arith}
use Rattle.lookup_rows.proofs.BookLaws.{none_named}
use Rattle.lookup_rows.proofs.books.is_there.Goals as goal

pub returns : goal.returns
returns c same = none_named c.args.models.now c.loop-file.file c.args.name.now
    (omega (arith, c.loop-file-test.false, c.files-file-end.ensures.count)) c.loop-file.invariant
