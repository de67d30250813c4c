use Rattle.std.proofs.Common.{◌≡◌, ◌∙◌, ◌+◌, ◌-◌, length, sym, ap, subst, inr, arith}
use Rattle.std.specs.Prelude.{None}
use Rattle.book_model.specs.declared.edit.Edit.TheVariants.{Drop}
use Rattle.book_model.specs.Book.{edited, text_in}
use Rattle.project_book.specs.Named.{HaveMoved, book_of, library_in}
use Rattle.project_book.proofs.NamedLaws.{library_with}
use Rattle.project_book.proofs.HeldLaws.{drop_done, drop_fits, drop_sized, text_sized}
use Rattle.project_book.proofs.project.Project.remove.Goals as goal

pub overflow_sub-self : goal.overflow_sub-self
overflow_sub-self c =
    let text = text_sized (text_in (book_of c.self.inside.named) c.args.name.now) c.in-Some.size c.in-Some.ensures.size in
    omega (arith, text.2, drop_fits c.self.inside.named c.self.inside.bytes c.args.name.now text.0 c.self.invariant text.1)

pub invariant_of-self : goal.invariant_of-self
invariant_of-self c =
    let text = text_sized (text_in (book_of c.self.inside.named) c.args.name.now) c.in-Some.size c.in-Some.ensures.size in
    let fits = drop_fits c.self.inside.named c.self.inside.bytes c.args.name.now text.0 c.self.invariant text.1 in
    drop_sized c.self.inside.named c.clear.new.self c.self.inside.bytes (c.self.inside.bytes - c.in-Some.size) c.args.name.now text.0
    c.self.invariant text.1 (omega (arith, text.2, fits)) c.in-Some.ensures.cleared

pub returns-in-Some-clause-applied : goal.returns-in-Some-clause-applied
returns-in-Some-clause-applied c =
    let text = text_sized (text_in (book_of c.self.inside.named) c.args.name.now) c.in-Some.size c.in-Some.ensures.size in
    let files = ap (λ held. held.files) c.self.view_is in (
      sym (ap (λ held. held.broken) c.self.view_is) ∙ c.if-self.false,
      ap (λ fs. edited (book_of fs) (Drop c.args.name.now)) (sym files)
          ∙ drop_done c.self.inside.named c.clear.new.self c.args.name.now text.0 text.1 c.in-Some.ensures.cleared,
      c.if-self.false,
      ap library_in c.in-Some.ensures.cleared ∙ (library_with c.self.inside.named c.args.name.now None ∙ ap library_in files),
    )

pub returns-in-Some-clause-files : goal.returns-in-Some-clause-files
returns-in-Some-clause-files c =
    subst (λ fs. HaveMoved fs c.clear.new.self c.args.name.now) (ap (λ held. held.files) c.self.view_is) (inr (None, c.in-Some.ensures.cleared))
