use Rattle.std.proofs.Common.{◌≡◌, ap, refl, subst}
use Rattle.book_model.specs.declared.edit.Edit.TheVariants.{Drop}
use Rattle.book_model.specs.Book.{Edited, edited}
use Rattle.project_book.specs.Named.{book_of}
use Rattle.linked_project.proofs.HeldLaws.{nothing_there}
use Rattle.linked_project.proofs.project.LinkedProject.remove.Goals as goal

pub returns-then-is_none : goal.returns-then-is_none
returns-then-is_none g c =
    let name = c.args.name.now in
    let there = nothing_there c.self.inside.book.files name c.present.result c.files.ensures.are c.present.ensures c.if-is_none.ensures in
    (c.requires, subst (λ fs. edited (book_of fs) (Drop name) ≡ Edited.NotThere) (ap (λ held. held.files) c.self.view_is) there, refl)
