use Rattle.std.proofs.Common.{◌∙◌, ap, subst}
use Rattle.element_store.specs.Stored.{AreFiles}
use Rattle.root_names.specs.Roots.{AreRootsOf}
use Rattle.book_links.specs.Linked.{without}
use Rattle.book_links.proofs.SettledLaws.{linked_of}
use Rattle.book_links.proofs.links.BookLinksLinking.settle.Goals as goal

pub invariant_of-self : goal.invariant_of-self
invariant_of-self c =
    let same = ap (λ l. l.files) c.self.view_is ∙ c.requires.over in
    linked_of (without c.self.inside.over.files c.self.inside.closed) c.args.models.now c.settle.new.kept c.self.inside.roots same
    (subst AreFiles same c.self.invariant.kept.are) c.in-Ok.ensures (subst (λ fs. AreRootsOf fs c.self.inside.roots) same c.self.invariant.roots)
