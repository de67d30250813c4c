use Rattle.std.proofs.Common.{◌≡◌, ◌∙◌, sym, ap, subst}
use Rattle.linker_base.proofs.Cases.{some_same}
use Rattle.book_model.specs.Files.{model_at}
use Rattle.written_names.specs.Spellable.{AreNamesSpellable}
use Rattle.project_files.proofs.KeptLaws.{has_kept, seen_model}
use Rattle.project_files.proofs.files.ProjectFiles.model.Goals as goal

pub unreachable-requires : goal.unreachable-requires
unreachable-requires c =
    let has = seen_model c.self.inside.models c.self.inside.contents.items c.args.self.now c.self.invariant c.self.view_is
    c.args.file c.requires.0 c.requires.1 in
    let both = c.in_default.ensures.kept ∙ has in
    cc

pub returns-clause-model : goal.returns-clause-model
returns-clause-model c =
    let has = seen_model c.self.inside.models c.self.inside.contents.items c.args.self.now c.self.invariant c.self.view_is
    c.args.file c.requires.0 c.requires.1 in
    let kept = has_kept c.self.inside.models c.self.inside.contents.items c.self.invariant c.args.file c.requires.0 has in
    let same : c.in-Some.model.now ≡ c.requires.0 = some_same c.in-Some.model.now c.requires.0 (c.in-Some.ensures.kept ∙ has) in
    same ∙ kept.model ∙ ap (λ files. model_at files c.args.file) c.self.view_is

pub returns-clause-spellable : goal.returns-clause-spellable
returns-clause-spellable c =
    let has = seen_model c.self.inside.models c.self.inside.contents.items c.args.self.now c.self.invariant c.self.view_is
    c.args.file c.requires.0 c.requires.1 in
    let kept = has_kept c.self.inside.models c.self.inside.contents.items c.self.invariant c.args.file c.requires.0 has in
    let same : c.in-Some.model.now ≡ c.requires.0 = some_same c.in-Some.model.now c.requires.0 (c.in-Some.ensures.kept ∙ has) in
    subst AreNamesSpellable (kept.same ∙ sym same) kept.with_it.spellable
