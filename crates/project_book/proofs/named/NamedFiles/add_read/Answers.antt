use Rattle.std.proofs.Common.{◌≡◌, ◌∙◌, ◌∷◌, ◌++◌, [], ◌+◌, Some, length, map, sym, ap, subst, arith}
use Rattle.linker_base.specs.Members.{IsMember}
use Rattle.book_model.specs.Files.{ProjectFile, name_at}
use Rattle.project_files.specs.Kept.{MayKeep, content_of, with_content_at}
use Rattle.project_book.specs.Named.{AreRead, book_of, library_in, numbers_from}
use Rattle.project_book.proofs.LibraryLaws.{bare, library_may, library_more, longer, names_fixed}
use Rattle.project_book.proofs.named.NamedFiles.add_read.Goals as goal

pub add-requires-clause-fresh : goal.add-requires-clause-fresh
add-requires-clause-fresh c =
    let files = c.self.inside.files in
    let empty = ap book_of c.self.view_is ∙ c.requires.alone in
    let fresh = subst (λ fs. IsMember (map (λ e. e.0) (library_in fs)) c.args.name → ⊥) (sym c.self.view_is) c.requires.fresh in
    subst (λ ns. IsMember ns c.args.name → ⊥) (sym (names_fixed files empty)) fresh

pub put-requires-clause-stands : goal.put-requires-clause-stands
put-requires-clause-stands c =
    let place = c.requires.place ∙ sym (ap length c.self.view_is) in
    let long = ap length c.in_ok-add.ensures.added in
    omega (arith, place, long, longer c.self.inside.files (bare c.args.name))

pub put-requires-clause-may : goal.put-requires-clause-may
put-requires-clause-may c =
    let read = c.args.read in
    let place = c.requires.place ∙ sym (ap length c.self.view_is) in
    subst (λ fs. MayKeep c.args.number (name_at fs c.args.number) (record { text = read.text; fault = read.fault }) read.model)
    (sym c.in_ok-add.ensures.added) (library_may c.self.inside.files c.args.number c.args.name read.text read.fault read.model place c.requires.as_read)

pub invariant_of-self-2 : goal.invariant_of-self-2
invariant_of-self-2 c =
    let files = c.self.inside.files in
    let read = c.args.read in
    let place = c.requires.place ∙ sym (ap length c.self.view_is) in
    let more = library_more files c.put.new.self c.args.number c.args.name read.text read.fault read.model
    (ap book_of c.self.view_is ∙ c.requires.alone) place c.requires.as_read c.requires.apart
    (c.put.ensures ∙ ap (λ fs. with_content_at fs c.args.number.0 (content_of (Some read.model) (Some (record { text = read.text; fault = read.fault }))))
    c.in_ok-add.ensures.added) in
    (more.read c.self.invariant.0, c.self.invariant.1 ∙ sym more.numbers)

pub returns-clause-added : goal.returns-clause-added
returns-clause-added c =
    let files = c.self.inside.files in
    let read = c.args.read in
    let place = c.requires.place ∙ sym (ap length c.self.view_is) in
    let more = library_more files c.put.new.self c.args.number c.args.name read.text read.fault read.model
    (ap book_of c.self.view_is ∙ c.requires.alone) place c.requires.as_read c.requires.apart
    (c.put.ensures ∙ ap (λ fs. with_content_at fs c.args.number.0 (content_of (Some read.model) (Some (record { text = read.text; fault = read.fault }))))
    c.in_ok-add.ensures.added) in
    more.library_is ∙ ap (λ fs. library_in fs ++ (c.args.name, read.text) ∷ []) c.self.view_is

pub returns-clause-alone : goal.returns-clause-alone
returns-clause-alone c =
    let files = c.self.inside.files in
    let read = c.args.read in
    let place = c.requires.place ∙ sym (ap length c.self.view_is) in
    let more = library_more files c.put.new.self c.args.number c.args.name read.text read.fault read.model
    (ap book_of c.self.view_is ∙ c.requires.alone) place c.requires.as_read c.requires.apart
    (c.put.ensures ∙ ap (λ fs. with_content_at fs c.args.number.0 (content_of (Some read.model) (Some (record { text = read.text; fault = read.fault }))))
    c.in_ok-add.ensures.added) in
    more.empty
