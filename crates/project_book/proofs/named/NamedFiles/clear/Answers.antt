use Rattle.std.proofs.Common.{◌≡◌, ◌∙◌, None, length, sym, ap, subst}
use Rattle.std.specs.Option.{option_map}
use Rattle.book_model.specs.Files.{Content, number_under}
use Rattle.project_files.specs.Kept.{content_at, with_content_at}
use Rattle.project_book.specs.Named.{AreRead, numbers_from}
use Rattle.project_book.proofs.NamedLaws.{content_put, numbers_changed, own_under, read_changed, sizes_same}
use Rattle.project_book.proofs.HeldLaws.{text_there, text_nowhere}
use Rattle.project_book.proofs.named.NamedFiles.clear.Goals as goal

pub invariant_of-self : goal.invariant_of-self
invariant_of-self c =
    let files = c.self.inside.files in
    let at = c.in-Some.file.0 in
    let under : number_under files c.args.name.now ≡ at = ap (λ fs. number_under fs c.args.name.now) c.self.view_is ∙ c.in-Some.ensures.0 in (
      subst AreRead (sym c.clear.ensures) (read_changed 0 files at None c.self.invariant.0 (own_under files c.args.name.now at under) (λ f is. tt)),
      c.self.invariant.1 ∙ sym (ap (numbers_from 0) c.clear.ensures ∙ numbers_changed 0 files at None),
    )

pub returns-in-Some-size-clause-size : goal.returns-in-Some-size-clause-size
returns-in-Some-size-clause-size c =
    let read = subst AreRead c.self.view_is c.self.invariant.0 in
    c.in-Some-size.ensures
    ∙ (ap (λ fs. option_map (λ (x : Content). length x.text) (content_at fs c.in-Some.file)) c.self.view_is
    ∙ (sizes_same (content_at c.args.self.now c.in-Some.file)
    ∙ sym (ap (option_map length) (text_there c.args.self.now c.args.name.now c.in-Some.file read c.in-Some.ensures.0))))

pub returns-in-Some-size-clause-cleared : goal.returns-in-Some-size-clause-cleared
returns-in-Some-size-clause-cleared c =
    c.clear.ensures
    ∙ (ap (λ fs. with_content_at fs c.in-Some.file.0 None) c.self.view_is
    ∙ content_put c.args.self.now c.args.name.now c.in-Some.file.0 None c.in-Some.ensures.0 c.in-Some.ensures.1)

pub returns-in-None-size-clause-size : goal.returns-in-None-size-clause-size
returns-in-None-size-clause-size c =
    let read = subst AreRead c.self.view_is c.self.invariant.0 in
    c.in-None-size.ensures
    ∙ (ap (λ fs. option_map (λ (x : Content). length x.text) (content_at fs c.in-Some.file)) c.self.view_is
    ∙ (sizes_same (content_at c.args.self.now c.in-Some.file)
    ∙ sym (ap (option_map length) (text_there c.args.self.now c.args.name.now c.in-Some.file read c.in-Some.ensures.0))))

pub returns-in-None-clause-size : goal.returns-in-None-clause-size
returns-in-None-clause-size c =
    let read = subst AreRead c.self.view_is c.self.invariant.0 in
    sym (ap (option_map length) (text_nowhere c.args.self.now c.args.name.now read c.in-None.ensures))
