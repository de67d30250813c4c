use Rattle.book_links.proofs.settling.settle.Goals as goal

pub settle-requires-clause-valid : goal.settle-requires-clause-valid
settle-requires-clause-valid c = record { files = c.files.ensures.kept; roots = c.requires.roots; ranks = c.in_ok-ranks.ensures }
