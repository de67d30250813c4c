use Rattle.std.proofs.Common.{◌∙◌, ◌<◌, Some, length, sym, ap, subst, arith, slice_set}
use Rattle.project_files.specs.Kept.{AreKept, content_of, files_of, with_content_at}
use Rattle.project_files.proofs.KeptLaws.{files_long}
use Rattle.project_files.proofs.ChangeLaws.{changed_files, kept_long, put_kept}
use Rattle.project_files.proofs.files.ProjectFiles.put.Goals as goal

pub set-requires-clause-within : goal.set-requires-clause-within
set-requires-clause-within c =
    omega (arith, c.requires.stands, files_long 0 c.self.inside.models c.self.inside.contents.items c.self.invariant, ap length c.self.view_is)

pub index_mut-requires : goal.index_mut-requires
index_mut-requires c =
    let stored = files_long 0 c.self.inside.models c.self.inside.contents.items c.self.invariant in
    let kept = kept_long 0 c.self.inside.models c.self.inside.contents.items c.self.invariant in
    omega (arith, c.requires.stands, stored, kept, ap length c.self.view_is, c.self.inside.contents.ok.0)

pub invariant_of-self : goal.invariant_of-self
invariant_of-self c =
    let within : c.args.file.0 < length c.self.inside.models =
    omega (arith, c.requires.stands, files_long 0 c.self.inside.models c.self.inside.contents.items c.self.invariant, ap length c.self.view_is) in
    subst (λ xs. AreKept xs (slice_set c.self.inside.contents.items c.args.file.0 (Some c.args.kept))) (sym c.set.ensures)
    (put_kept c.self.inside.models c.self.inside.contents.items c.args.self.now c.self.invariant c.self.view_is
    c.args.file c.args.kept c.args.model within c.requires.may)

pub returns : goal.returns
returns c =
    ap (λ xs. files_of xs (slice_set c.self.inside.contents.items c.args.file.0 (Some c.args.kept))) c.set.ensures
    ∙ changed_files 0 c.self.inside.models c.self.inside.contents.items c.args.file.0 (Some c.args.model) (Some c.args.kept) c.self.invariant
    ∙ ap (λ files. with_content_at files c.args.file.0 (content_of (Some c.args.model) (Some c.args.kept))) c.self.view_is
