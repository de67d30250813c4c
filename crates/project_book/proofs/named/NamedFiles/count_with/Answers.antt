use Rattle.std.proofs.Common.{◌≡◌, ◌∙◌, ℕ, ◌+◌, List, length, sym, ap, arith}
use Rattle.book_model.specs.Files.{ProjectFile}
use Rattle.project_book.specs.Named.{book_of, numbers_from}
use Rattle.project_book.proofs.NamedLaws.{numbers_long}
use Rattle.project_book.proofs.HeldLaws.{names_old, names_new}
use Rattle.project_book.proofs.named.NamedFiles.count_with.Goals as goal

-- so many numbers as names
count_is : (inside now : List ProjectFile) → inside ≡ now → (n : ℕ) → n ≡ length (numbers_from 0 inside) → n ≡ length (book_of now)
count_is inside now view n is = is ∙ (numbers_long 0 inside ∙ ap (λ files. length (book_of files)) view)

pub returns-in-Some : goal.returns-in-Some
returns-in-Some c text =
    let number = c.in-Some.ensures in
    count_is c.self.inside.files c.args.self.now c.self.view_is _ (c.len-count.ensures.len ∙ ap length c.self.invariant.1)
    ∙ sym (names_old c.args.self.now c.args.name.now text (omega (arith, number.0, number.1)))

pub returns-in-None : goal.returns-in-None
returns-in-None c text =
    ap (λ n. n + 1) (count_is c.self.inside.files c.args.self.now c.self.view_is _ (c.len-count.ensures.len ∙ ap length c.self.invariant.1))
    ∙ sym (names_new c.args.self.now c.args.name.now text c.in-None.ensures)
