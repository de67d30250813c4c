use Rattle.std.proofs.Common.{◌≡◌, ◌∙◌, nat_eq, sym, ap, subst}
use Rattle.std.specs.Map.{lookup}
use Rattle.std.specs.Cmp.Lexicographic.{pointwise}
use Rattle.project_book.specs.Named.{IsNumberUnder, numbers_from}
use Rattle.project_book.proofs.NamedLaws.{number_found}
use Rattle.project_book.proofs.named.NamedFiles.number.Goals as goal

pub returns : goal.returns
returns c =
    let name = c.args.name.now in
    let looked : lookup (pointwise nat_eq name) (numbers_from 0 c.self.inside.files) ≡ c.copied.result =
    sym (ap (lookup (pointwise nat_eq name)) c.self.invariant.1) ∙ (sym c.get.ensures.value ∙ sym c.copied.ensures) in
    subst (λ files. IsNumberUnder files name c.copied.result) c.self.view_is
    (number_found c.self.inside.files name c.copied.result looked)
