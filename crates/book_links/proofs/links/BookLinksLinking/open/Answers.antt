use Rattle.std.proofs.Common.{ap, subst, sym}
use Rattle.element_store.specs.declared.models.StoredFile.{StoredFile}
use Rattle.std.specs.Prelude.{List}
use Rattle.link_model.specs.Edits.{HasCome}
use Rattle.book_links.specs.Linked.{without}
use Rattle.book_links.proofs.SettledLaws.{roots_open}
use Rattle.book_links.proofs.links.BookLinksLinking.open.Goals as goal

pub open_both-requires-clause-roots : goal.open_both-requires-clause-roots
open_both-requires-clause-roots c =
    roots_open (without c.self.inside.over.files c.self.inside.closed) c.args.models.now c.args.file c.self.inside.roots c.files.ensures.kept
    (subst (λ (fs : List StoredFile). HasCome fs c.args.models.now c.args.file) (sym (ap (λ l. l.files) c.self.view_is)) c.requires.come)
    c.self.invariant.roots
