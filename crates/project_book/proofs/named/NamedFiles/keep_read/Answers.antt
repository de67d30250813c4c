use Rattle.std.proofs.Common.{◌≡◌, ◌∙◌, ◌<◌, Some, length, sym, ap, subst, arith}
use Rattle.std.specs.Prelude.{slice_get}
use Rattle.book_model.specs.Files.{name_at}
use Rattle.book_model.specs.Readings.{language_of}
use Rattle.project_files.specs.Kept.{content_of, with_content_at}
use Rattle.project_book.specs.Named.{IsReadAs, with_name}
use Rattle.project_book.proofs.NamedLaws.{content_with, name_has, name_stands, own_named}
use Rattle.project_book.proofs.named.NamedFiles.keep_read.Goals as goal

pub set-requires-clause-stands : goal.set-requires-clause-stands
set-requires-clause-stands c =
    subst (λ files. c.args.file.0 < length files) (sym c.in_ok-enter.ensures.entered)
    (omega (arith, c.requires.place, name_stands c.args.self.now c.args.name))

pub set-requires-clause-own : goal.set-requires-clause-own
set-requires-clause-own c f at =
    own_named c.args.self.now c.args.name f
    (ap (λ k. slice_get (with_name c.args.self.now c.args.name) k) (sym c.requires.place)
    ∙ (ap (λ fs. slice_get fs c.args.file.0) (sym c.in_ok-enter.ensures.entered) ∙ at))

pub set-requires-clause-as_read : goal.set-requires-clause-as_read
set-requires-clause-as_read c =
    let read = c.args.read in
    let name : name_at c.enter.new.self c.args.file ≡ c.args.name =
    ap (λ files. name_at files c.args.file) c.in_ok-enter.ensures.entered
    ∙ (ap (λ k. name_at (with_name c.args.self.now c.args.name) (record { 0 = k })) c.requires.place ∙ name_has c.args.self.now c.args.name) in
    subst (λ n. IsReadAs c.args.file (language_of n) read.text read.fault read.model) (sym name) c.requires.as_read

pub returns-clause-kept : goal.returns-clause-kept
returns-clause-kept c =
    let read = c.args.read in
    let content = content_of (Some read.model) (Some (record { text = read.text; fault = read.fault })) in
    c.set.ensures
    ∙ (ap (λ files. with_content_at files c.args.file.0 content) c.in_ok-enter.ensures.entered
    ∙ (ap (λ k. with_content_at (with_name c.args.self.now c.args.name) k content) c.requires.place
    ∙ content_with c.args.self.now c.args.name content))
