use Rattle.std.proofs.Common.{subst}
use Rattle.linker_base.specs.Members.{IsMember}
use Rattle.lookup_rows.proofs.BookLaws.{put_links}
use Rattle.lookup_rows.proofs.books.link.Goals as goal

pub returns : goal.returns
returns c links = put_links c.args.models.now c.args.table.now c.put.new.self _ _ c.in_ok-put.ensures.ok (
  (λ s m. absurd (subst (λ z. IsMember z s) c.new-steps.ensures m)),
  (c.requires.stands.0, c.requires.stands.1, c.requires.stands.2, c.requires.below),
) links
