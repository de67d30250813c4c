use Rattle.kept_links.proofs.SettledLaws.{settled_least}
use Rattle.book_links.proofs.FoundLaws.{found_is, least_links}
use Rattle.book_links.proofs.finding.found.Goals as goal

pub find-requires-clause-ready : goal.find-requires-clause-ready
find-requires-clause-ready c = record { files = c.files.ensures.kept; roots = c.requires.roots; ranks = c.in_ok-ranks.ensures }

pub find-requires-clause-links : goal.find-requires-clause-links
find-requires-clause-links c =
    let files = c.files.ensures.kept in
    least_links c.args.models.now c.args.kept.now.engine (settled_least c.args.models.now c.args.kept.now files c.requires.settled) c.table.result.now
    c.table.ensures files

pub returns : goal.returns
returns c =
    found_is c.args.models.now c.args.kept.now.engine (settled_least c.args.models.now c.args.kept.now c.files.ensures.kept c.requires.settled)
    c.table.result.now c.table.ensures c.args.path c.in_ok-outcome.outcome c.in_ok-outcome.ensures
