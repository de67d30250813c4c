use Rattle.std.proofs.Common.{◌≡◌, ◌∙◌, ◌++◌, ◌∷◌, [], ◌+◌, nat_eq, false, None, length, map, sym, ap, subst, arith}
use Rattle.std.specs.Cmp.Lexicographic.{pointwise}
use Rattle.indexmap.specs.IndexMap.{insert_entry}
use Rattle.linker_base.specs.Members.{IsMember}
use Rattle.book_model.specs.Files.{ProjectFile, number_under}
use Rattle.project_book.specs.Named.{AreRead, numbers_from, with_name}
use Rattle.project_book.proofs.NamedLaws.{name_fresh, name_last, numbers_named, read_named}
use Rattle.project_book.proofs.named.NamedFiles.add.Goals as goal

pub add-requires-clause-fresh : goal.add-requires-clause-fresh
add-requires-clause-fresh c =
    let files = c.self.inside.files in
    let name = c.of.ensures ∙ (c.in_ok-bytes.ensures.items ∙ c.bytes.ensures.lent) in
    let new = subst (λ fs. number_under fs c.args.name ≡ length fs) (sym c.self.view_is) c.requires.fresh in
    subst (λ n. IsMember (map (λ (f : ProjectFile). f.name) files) n → ⊥) (sym name)
    (name_fresh 0 files c.args.name c.self.invariant.0 c.bytes.ensures.name new)

pub invariant_of-self-2 : goal.invariant_of-self-2
invariant_of-self-2 c =
    let files = c.self.inside.files in
    let name = c.of.ensures ∙ (c.in_ok-bytes.ensures.items ∙ c.bytes.ensures.lent) in
    let new = subst (λ fs. number_under fs c.args.name ≡ length fs) (sym c.self.view_is) c.requires.fresh in
    let whole : c.add.new.self ≡ with_name files c.args.name =
    c.in_ok-file.ensures.added
    ∙ (ap (λ n. files ++ record { name = n; library = false; content = None } ∷ []) name ∙ sym (name_last files c.args.name new)) in (
      subst AreRead (sym whole) (read_named 0 files c.args.name c.self.invariant.0),
      c.in-Ok.ensures.entries
          ∙ (ap (λ es. insert_entry (pointwise nat_eq) es c.args.name c.in_ok-file.file) (c.in_ok-reserve.ensures.entries ∙ c.self.invariant.1)
          ∙ (numbers_named 0 files c.args.name c.in_ok-file.file new (omega (arith, c.in_ok-file.ensures.number))
          ∙ ap (numbers_from 0) (sym whole))),
    )

pub returns-clause-entered : goal.returns-clause-entered
returns-clause-entered c =
    let files = c.self.inside.files in
    let name = c.of.ensures ∙ (c.in_ok-bytes.ensures.items ∙ c.bytes.ensures.lent) in
    let new = subst (λ fs. number_under fs c.args.name ≡ length fs) (sym c.self.view_is) c.requires.fresh in
    c.in_ok-file.ensures.added
    ∙ (ap (λ n. files ++ record { name = n; library = false; content = None } ∷ []) name
    ∙ (sym (name_last files c.args.name new) ∙ ap (λ fs. with_name fs c.args.name) c.self.view_is))
