use Rattle.std.proofs.Common.{◌≡◌, ◌∙◌, Some, sym, ap, subst}
use Rattle.std.specs.Option.{option_map}
use Rattle.linker_base.proofs.Cases.{some_same}
use Rattle.book_model.specs.Rows.{report_of, report_by}
use Rattle.project_files.specs.Kept.{own_kept, reading_of}
use Rattle.project_files.proofs.KeptLaws.{has_text, no_text}
use Rattle.project_files.proofs.files.ProjectFiles.report.Goals as goal

pub report_of-requires : goal.report_of-requires
report_of-requires c =
    let at = sym (c.in-Some.ensures ∙ ap (λ ks. own_kept ks c.args.file.0) c.deref.ensures.value) in
    let has = has_text c.self.inside.models c.self.inside.contents.items c.args.self.now c.self.invariant c.self.view_is c.args.file c.in-Some.kept.now at in
    has.with_it

pub unreachable-requires : goal.unreachable-requires
unreachable-requires c =
    let at = sym (c.in-Some.ensures ∙ ap (λ ks. own_kept ks c.args.file.0) c.deref.ensures.value) in
    let has = has_text c.self.inside.models c.self.inside.contents.items c.args.self.now c.self.invariant c.self.view_is c.args.file c.in-Some.kept.now at in
    let both = c.in-None-model.ensures.kept ∙ has.has in
    cc

pub returns-in-Some-model : goal.returns-in-Some-model
returns-in-Some-model c =
    let at = sym (c.in-Some.ensures ∙ ap (λ ks. own_kept ks c.args.file.0) c.deref.ensures.value) in
    let has = has_text c.self.inside.models c.self.inside.contents.items c.args.self.now c.self.invariant c.self.view_is c.args.file c.in-Some.kept.now at in
    let same : c.in-Some-model.model.now ≡ has.model = some_same c.in-Some-model.model.now has.model (c.in-Some-model.ensures.kept ∙ has.has) in
    ap Some (c.report_of.ensures ∙ ap (λ d. report_by c.in-Some.kept.now.text (reading_of c.in-Some.kept.now.fault (Some d))) same)
    ∙ sym (ap (option_map report_of) has.content)

pub returns-in-None : goal.returns-in-None
returns-in-None c =
    let at = sym (c.in-None.ensures ∙ ap (λ ks. own_kept ks c.args.file.0) c.deref.ensures.value) in
    sym (ap (option_map report_of) (no_text c.self.inside.models c.self.inside.contents.items c.args.self.now c.self.invariant c.self.view_is c.args.file at))
