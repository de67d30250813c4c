use Rattle.book_links.proofs.SettledLaws.{none_linked}
use Rattle.book_links.proofs.links.BookLinksLinking.none.Goals as goal

pub invariant_of-result : goal.invariant_of-result
invariant_of-result c = none_linked c.none.result.files c.new.result c.new-2.result c.none.ensures c.new.ensures c.new-2.ensures
