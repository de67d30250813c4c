use Rattle.std.proofs.Common.{◌∙◌, ◌<◌, None, length, sym, ap, subst, arith, slice_set}
use Rattle.project_files.specs.Kept.{AreKept, content_of, files_of, with_content_at}
use Rattle.project_files.proofs.KeptLaws.{files_long}
use Rattle.project_files.proofs.ChangeLaws.{changed_files, kept_long, clear_kept}
use Rattle.project_files.proofs.files.ProjectFiles.clear.Goals as goal

pub set-requires-clause-within : goal.set-requires-clause-within
set-requires-clause-within c =
    omega (arith, c.requires.stands, files_long 0 c.self.inside.models c.self.inside.contents.items c.self.invariant, ap length c.self.view_is)

pub index_mut-requires : goal.index_mut-requires
index_mut-requires c =
    let stored = files_long 0 c.self.inside.models c.self.inside.contents.items c.self.invariant in
    let kept = kept_long 0 c.self.inside.models c.self.inside.contents.items c.self.invariant in
    omega (arith, c.requires.stands, stored, kept, ap length c.self.view_is, c.self.inside.contents.ok.0)

pub invariant_of-self : goal.invariant_of-self
invariant_of-self c =
    let within : c.args.file.0 < length c.self.inside.models =
    omega (arith, c.requires.stands, files_long 0 c.self.inside.models c.self.inside.contents.items c.self.invariant, ap length c.self.view_is) in
    subst (λ xs. AreKept xs (slice_set c.self.inside.contents.items c.args.file.0 None)) (sym c.set.ensures)
    (clear_kept c.self.inside.models c.self.inside.contents.items c.args.file.0 c.self.invariant within)

pub returns : goal.returns
returns c =
    ap (λ xs. files_of xs (slice_set c.self.inside.contents.items c.args.file.0 None)) c.set.ensures
    ∙ changed_files 0 c.self.inside.models c.self.inside.contents.items c.args.file.0 None None c.self.invariant
    ∙ ap (λ files. with_content_at files c.args.file.0 (content_of None None)) c.self.view_is
