use Rattle.std.proofs.Common.{◌≡◌, ◌∙◌, Some, length, sym, ap, arith}
use Rattle.std.specs.Option.{unwrap_or}
use Rattle.book_model.specs.Book.{bytes_in, put_in, text_in}
use Rattle.project_book.specs.Named.{book_of}
use Rattle.project_book.proofs.HeldLaws.{bytes_full, bytes_put, held_by, held_in, held_most, put_fits}
use Rattle.project_book.proofs.project.Project.bytes_after.Goals as goal

pub overflow_sub-bytes : goal.overflow_sub-bytes
overflow_sub-bytes c =
    let book = book_of c.self.inside.named in
    let name = c.args.name.now in
    let held = c.unwrap_or.ensures ∙ (ap (λ o. unwrap_or o 0) c.size.ensures ∙ held_by (text_in book name)) in
    omega (arith, c.self.invariant.bytes_are, held, held_most book name)

pub returns-then-bytes-gt-BOOK_BYTES : goal.returns-then-bytes-gt-BOOK_BYTES
returns-then-bytes-gt-BOOK_BYTES c text size =
    let files = ap (λ held. held.files) c.self.view_is in
    let name = c.args.name.now in
    let book = book_of c.args.self.now.files in
    let bytes = c.self.invariant.bytes_are ∙ ap (λ fs. bytes_in (book_of fs)) files in
    let held = c.unwrap_or.ensures ∙ (ap (λ o. unwrap_or o 0) c.size.ensures ∙ (held_by (text_in (book_of c.self.inside.named) name)
    ∙ ap (λ fs. held_in (book_of fs) name) files)) in
    let names = c.count_with.ensures text ∙ ap (λ fs. length (put_in (book_of fs) name text)) files in
    let all = bytes_put book name (Some text) in
    bytes_full book name text (omega (arith, size, c.if-size-gt-FILE_BYTES.false)) (omega (arith, names, c.if-count_with-gt-NAMES.false))
    (omega (arith, bytes, all, size, held, c.if-bytes-gt-BOOK_BYTES.true))

pub returns : goal.returns
returns c text size =
    let files = ap (λ held. held.files) c.self.view_is in
    let name = c.args.name.now in
    let book = book_of c.args.self.now.files in
    let bytes = c.self.invariant.bytes_are ∙ ap (λ fs. bytes_in (book_of fs)) files in
    let held = c.unwrap_or.ensures ∙ (ap (λ o. unwrap_or o 0) c.size.ensures ∙ (held_by (text_in (book_of c.self.inside.named) name)
    ∙ ap (λ fs. held_in (book_of fs) name) files)) in
    let names = c.count_with.ensures text ∙ ap (λ fs. length (put_in (book_of fs) name text)) files in
    let all = bytes_put book name (Some text) in (
      omega (arith, bytes, all, size, held),
      put_fits book name text (omega (arith, size, c.if-size-gt-FILE_BYTES.false)) (omega (arith, names, c.if-count_with-gt-NAMES.false))
          (omega (arith, bytes, all, size, held, c.if-bytes-gt-BOOK_BYTES.false)),
    )
