use Rattle.std.proofs.Common.{◌∙◌, Some, length, sym, ap}
use Rattle.std.specs.Option.{option_map}
use Rattle.book_model.specs.Files.{Content}
use Rattle.project_files.specs.Kept.{own_kept}
use Rattle.project_files.proofs.KeptLaws.{has_text, no_text}
use Rattle.project_files.proofs.files.ProjectFiles.size.Goals as goal

pub returns-in-Some : goal.returns-in-Some
returns-in-Some c =
    let at = sym (c.in-Some.ensures ∙ ap (λ ks. own_kept ks c.args.file.0) c.deref.ensures.value) in
    let has = has_text c.self.inside.models c.self.inside.contents.items c.args.self.now c.self.invariant c.self.view_is c.args.file c.in-Some.kept.now at in
    ap (λ bytes. Some (length bytes)) c.bytes.ensures.lent ∙ sym (ap (option_map (λ (x : Content). length x.text)) has.content)

pub returns-in-None : goal.returns-in-None
returns-in-None c =
    let at = sym (c.in-None.ensures ∙ ap (λ ks. own_kept ks c.args.file.0) c.deref.ensures.value) in
    sym (ap (option_map (λ (x : Content). length x.text))
    (no_text c.self.inside.models c.self.inside.contents.items c.args.self.now c.self.invariant c.self.view_is c.args.file at))
