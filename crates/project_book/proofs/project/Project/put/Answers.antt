use Rattle.std.proofs.Common.{◌≡◌, ◌∙◌, ◌≤◌, length, sym, ap, subst, inr, arith}
use Rattle.std.specs.Prelude.{Some}
use Rattle.book_model.specs.declared.edit.Edit.TheVariants.{Put}
use Rattle.book_model.specs.Book.{Edited, bytes_in, edited, put_in}
use Rattle.project_book.specs.Named.{HaveMoved, book_of, library_in}
use Rattle.project_book.proofs.NamedLaws.{files_long, library_with}
use Rattle.project_book.proofs.HeldLaws.{put_done, put_sized}
use Rattle.project_book.proofs.project.Project.put.Goals as goal

pub keep-requires-clause-room : goal.keep-requires-clause-room
keep-requires-clause-room c =
    let names : length (book_of c.self.inside.named) ≤ 1024 = c.self.invariant.within.names in
    omega (arith, files_long c.self.inside.named, names, c.self.invariant.few)

pub invariant_of-self : goal.invariant_of-self
invariant_of-self c =
    let before = c.self.inside.named in
    let after = c.keep.new.self in
    let files = ap (λ held. held.files) c.self.view_is in
    let room = subst (λ fs. (c.in-Ok.bytes ≡ bytes_in (put_in (book_of fs) c.args.name c.args.text))
    × (edited (book_of fs) (Put c.args.name c.args.text) ≡ Edited.Changed (put_in (book_of fs) c.args.name c.args.text)))
    (sym files) (c.in-Ok.ensures c.args.text (sym (ap length c.bytes.ensures))) in
    let kept = c.in-Ok-keep.ensures.kept in
    let fixed = ap library_in kept.files ∙ library_with before c.args.name (Some kept.content) in
    let done = put_done before after c.args.name c.args.text c.in-Ok-keep.file kept room.1 in
    put_sized before after c.self.inside.bytes c.in-Ok.bytes c.args.name c.args.text c.self.invariant fixed room.1 done room.0

pub returns-in-Ok-keep-clause-put : goal.returns-in-Ok-keep-clause-put
returns-in-Ok-keep-clause-put c =
    let before = c.self.inside.named in
    let after = c.keep.new.self in
    let files = ap (λ held. held.files) c.self.view_is in
    let kept = c.in-Ok-keep.ensures.kept in
    let room = (c.in-Ok.ensures c.args.text (sym (ap length c.bytes.ensures))).1 in
    let room_inside = subst (λ fs. edited (book_of fs) (Put c.args.name c.args.text) ≡ Edited.Changed (put_in (book_of fs) c.args.name c.args.text))
    (sym files) room in
    let done = put_done before after c.args.name c.args.text c.in-Ok-keep.file kept room_inside in (
      (
        sym (ap (λ held. held.broken) c.self.view_is) ∙ c.if-self.false,
        ap (λ fs. edited (book_of fs) (Put c.args.name c.args.text)) (sym files) ∙ done,
        c.if-self.false,
        ap library_in kept.files ∙ (library_with before c.args.name (Some kept.content) ∙ ap library_in files),
      ),
      (kept.number, kept.below),
    )

pub returns-in-Ok-keep-clause-files : goal.returns-in-Ok-keep-clause-files
returns-in-Ok-keep-clause-files c =
    let kept = c.in-Ok-keep.ensures.kept in
    subst (λ fs. HaveMoved fs c.keep.new.self c.args.name) (ap (λ held. held.files) c.self.view_is) (inr (Some kept.content, kept.files))
