use Rattle.kept_links.proofs.SettledLaws.{settled_least}
use Rattle.book_links.proofs.FoundLaws.{implied_is, least_links}
use Rattle.book_links.proofs.finding.implied_over.Goals as goal

pub implied-requires : goal.implied-requires
implied-requires c =
    let files = c.files.ensures.kept in
    record {
      links = least_links c.args.models.now c.args.kept.now.engine (settled_least c.args.models.now c.args.kept.now files c.requires) c.table.result.now
          c.table.ensures files;
    }

pub returns-clause-rows : goal.returns-clause-rows
returns-clause-rows c =
    implied_is c.args.models.now c.args.kept.now.engine (settled_least c.args.models.now c.args.kept.now c.files.ensures.kept c.requires)
    c.table.result.now c.table.ensures c.implied.result c.implied.ensures.rows
