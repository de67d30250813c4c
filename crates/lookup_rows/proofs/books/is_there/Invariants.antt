use Rattle.lookup_rows.proofs.BookLaws.{IsNoneOf}
use Rattle.lookup_rows.proofs.books.is_there.Given as goal

-- none of the files so far has the name
abbrev pub invariant-loop-file : goal.invariant-loop-file
invariant-loop-file l = IsNoneOf l.models l.file l.name
