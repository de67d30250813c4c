use Rattle.std.proofs.Common.{◌≡◌, ◌∙◌, ◌+◌, List, [], Some, false, sym, ap, subst, zero-add}
use Rattle.std.specs.Prelude.{slice_get}
use Rattle.std.specs.Option.{option_map_or}
use Rattle.book_model.specs.Files.{ProjectFile, IsContentOf, name_at}
use Rattle.book_model.specs.Readings.{language_of}
use Rattle.project_files.specs.Kept.{MayKeep, content_of}
use Rattle.project_book.specs.Named.{AreRead, IsReadAs, numbers_from, text_in_content}
use Rattle.project_book.proofs.NamedLaws.{numbers_changed, read_changed}
use Rattle.project_book.proofs.ReadLaws.{read_content, read_kept}
use Rattle.project_book.proofs.named.NamedFiles.set.Goals as goal

pub put-requires-clause-may : goal.put-requires-clause-may
put-requires-clause-may c =
    let file = c.args.file in
    let read = c.args.read in
    subst (λ files. MayKeep file (name_at files file) (record { text = read.text; fault = read.fault }) read.model) (sym c.self.view_is)
    (read_kept file (name_at c.args.self.now file) read.text read.fault read.model c.requires.as_read)

pub invariant_of-self : goal.invariant_of-self
invariant_of-self c =
    let files = c.self.inside.files in
    let file = c.args.file in
    let read = c.args.read in
    let content = content_of (Some read.model) (Some (record { text = read.text; fault = read.fault })) in
    let own = subst (λ (fs : List ProjectFile). (f : ProjectFile) → slice_get fs file.0 ≡ Some f → f.library ≡ false) (sym c.self.view_is) c.requires.own in
    let said = subst (λ fs. IsReadAs file (language_of (name_at fs file)) read.text read.fault read.model) (sym c.self.view_is) c.requires.as_read in (
      subst AreRead (sym c.put.ensures) (read_changed 0 files file.0 content c.self.invariant.0 own (λ f at.
          let number : file.0 ≡ 0 + file.0 = sym (zero-add file.0) in
          let name : name_at files file ≡ f.name = ap (λ o. option_map_or (λ (x : ProjectFile). x.name) o []) at in
          subst (λ k. IsContentOf (record { 0 = k }) (language_of f.name) (text_in_content content) content) number
          (read_content file (language_of f.name) read.text read.fault read.model
          (subst (λ n. IsReadAs file (language_of n) read.text read.fault read.model) name said)))),
      c.self.invariant.1 ∙ sym (ap (numbers_from 0) c.put.ensures ∙ numbers_changed 0 files file.0 content),
    )
