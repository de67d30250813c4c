use Rattle.std.proofs.Common.{◌≡◌, ◌∙◌, ◌<◌, Some, length, sym, ap, subst, arith}
use Rattle.book_model.specs.Files.{Content, number_under, with_content}
use Rattle.project_files.specs.Kept.{reading_of}
use Rattle.project_book.proofs.NamedLaws.{number_kept}
use Rattle.project_book.proofs.named.NamedFiles.keep.Goals as goal

pub returns-clause-kept : goal.returns-clause-kept
returns-clause-kept c =
    let read = c.in_ok-read.read in
    let content : Content = record { text = read.text; reading = reading_of read.fault (Some read.model) } in
    let whole = c.in_ok-keep_read.ensures.kept in
    let kept = number_kept c.args.self.now c.args.name (Some content) in record {
      content = content;
      text_is = c.in_ok-read.ensures.text;
      files = whole;
      number = ap (λ files. number_under files c.args.name) whole ∙ (kept.0 ∙ sym c.place-file.ensures);
      below = subst (λ files. c.place-file.result.0 < length files) (sym whole) (omega (arith, c.place-file.ensures, kept.1));
    }
