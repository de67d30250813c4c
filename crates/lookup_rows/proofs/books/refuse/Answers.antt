use Rattle.lookup_rows.proofs.BookLaws.{put_links}
use Rattle.lookup_rows.proofs.books.refuse.Goals as goal

pub returns : goal.returns
returns c files links = put_links files c.args.table.now c.put.new.self _ _ c.in_ok-put.ensures.ok tt links
