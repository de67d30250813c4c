use Rattle.std.proofs.Common.{◌∙◌, length, sym, ap, subst}
use Rattle.std.specs.Option.{option_map}
use Rattle.book_model.specs.Files.{Content}
use Rattle.project_files.specs.Kept.{content_at}
use Rattle.project_book.specs.Named.{AreRead}
use Rattle.project_book.proofs.NamedLaws.{sizes_same}
use Rattle.project_book.proofs.HeldLaws.{text_there, text_nowhere}
use Rattle.project_book.proofs.named.NamedFiles.size.Goals as goal

pub returns-in-Some : goal.returns-in-Some
returns-in-Some c =
    let read = subst AreRead c.self.view_is c.self.invariant.0 in
    c.size.ensures
    ∙ (ap (λ fs. option_map (λ (x : Content). length x.text) (content_at fs c.in-Some.file)) c.self.view_is
    ∙ (sizes_same (content_at c.args.self.now c.in-Some.file)
    ∙ sym (ap (option_map length) (text_there c.args.self.now c.args.name.now c.in-Some.file read c.in-Some.ensures.0))))

pub returns-in-None : goal.returns-in-None
returns-in-None c =
    let read = subst AreRead c.self.view_is c.self.invariant.0 in
    sym (ap (option_map length) (text_nowhere c.args.self.now c.args.name.now read c.in-None.ensures))
