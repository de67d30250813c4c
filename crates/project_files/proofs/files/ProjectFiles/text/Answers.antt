use Rattle.std.proofs.Common.{◌≡◌, ◌∙◌, Some, sym, ap, subst, arith}
use Rattle.std.proofs.lemmas.Option.{slice_get_within, get_or_from_slice_get}
use Rattle.linker_base.proofs.Cases.{some_same}
use Rattle.book_model.specs.Files.{model_at, text_at}
use Rattle.project_files.specs.Kept.{ArePlacesWithin}
use Rattle.project_files.proofs.KeptLaws.{has_kept, seen_model}
use Rattle.project_files.proofs.files.ProjectFiles.text.Goals as goal

pub index-requires : goal.index-requires
index-requires c =
    let has = seen_model c.self.inside.models c.self.inside.contents.items c.args.self.now c.self.invariant c.self.view_is
    c.args.file c.requires.0 c.requires.1 in
    let kept = has_kept c.self.inside.models c.self.inside.contents.items c.self.invariant c.args.file c.requires.0 has in
    omega (arith, slice_get_within c.self.inside.contents.items c.args.file.0 (Some kept.own) kept.kept, c.self.inside.contents.ok.0)

pub unreachable-requires : goal.unreachable-requires
unreachable-requires c =
    let has = seen_model c.self.inside.models c.self.inside.contents.items c.args.self.now c.self.invariant c.self.view_is
    c.args.file c.requires.0 c.requires.1 in
    let kept = has_kept c.self.inside.models c.self.inside.contents.items c.self.invariant c.args.file c.requires.0 has in
    let at = get_or_from_slice_get c.self.inside.contents.items c.args.file.0 (Some kept.own) c.index.result.now kept.kept in
    let both = sym c.in-None.is ∙ c.index.ensures ∙ at in
    cc

pub returns-clause-text : goal.returns-clause-text
returns-clause-text c =
    let has = seen_model c.self.inside.models c.self.inside.contents.items c.args.self.now c.self.invariant c.self.view_is
    c.args.file c.requires.0 c.requires.1 in
    let kept = has_kept c.self.inside.models c.self.inside.contents.items c.self.invariant c.args.file c.requires.0 has in
    let at = get_or_from_slice_get c.self.inside.contents.items c.args.file.0 (Some kept.own) c.index.result.now kept.kept in
    let same : c.in-Some.kept ≡ kept.own = some_same c.in-Some.kept kept.own (sym c.in-Some.is ∙ c.index.ensures ∙ at) in
    ap (λ k. k.text) same ∙ kept.text ∙ ap (λ files. text_at files c.args.file) c.self.view_is

pub returns-clause-places : goal.returns-clause-places
returns-clause-places c =
    let has = seen_model c.self.inside.models c.self.inside.contents.items c.args.self.now c.self.invariant c.self.view_is
    c.args.file c.requires.0 c.requires.1 in
    let kept = has_kept c.self.inside.models c.self.inside.contents.items c.self.invariant c.args.file c.requires.0 has in
    let at = get_or_from_slice_get c.self.inside.contents.items c.args.file.0 (Some kept.own) c.index.result.now kept.kept in
    let same : c.in-Some.kept ≡ kept.own = some_same c.in-Some.kept kept.own (sym c.in-Some.is ∙ c.index.ensures ∙ at) in
    let model = kept.same ∙ kept.model ∙ ap (λ files. model_at files c.args.file) c.self.view_is in
    subst (λ d. ArePlacesWithin c.in-Some.kept.text d) model (subst (λ k. ArePlacesWithin k.text kept.with_it.model) (sym same) kept.with_it.places)
