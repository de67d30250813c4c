use Rattle.book_links.proofs.SettledLaws.{linked_of}
use Rattle.book_links.proofs.links.BookLinksLinking.link.Goals as goal

pub invariant_of-self : goal.invariant_of-self
invariant_of-self c =
    linked_of c.of-self-inside.result.files c.args.models.now c.settle.new.kept c.in_ok-roots.roots c.of-self-inside.ensures c.in_ok-kept.ensures.are
    c.in_ok-settle.ensures c.in_ok-roots.ensures
