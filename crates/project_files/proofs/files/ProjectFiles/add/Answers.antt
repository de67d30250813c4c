use Rattle.std.proofs.Common.{◌∙◌, ◌∷◌, [], ◌++◌, None, length, map, sym, ap, subst, arith, refl}
use Rattle.linker_base.specs.Members.{IsMember}
use Rattle.element_store.specs.declared.models.StoredFile.{StoredFile}
use Rattle.project_files.specs.Kept.{AreKept, file_of, files_of}
use Rattle.project_files.proofs.KeptLaws.{files_long}
use Rattle.project_files.proofs.ChangeLaws.{added_files, added_kept, names_kept}
use Rattle.project_files.proofs.files.ProjectFiles.add.Goals as goal

pub add-requires-clause-fresh : goal.add-requires-clause-fresh
add-requires-clause-fresh c =
    let names = names_kept 0 c.self.inside.models c.self.inside.contents.items c.self.invariant ∙ ap (map (λ f. f.name)) c.self.view_is in
    subst (λ all. IsMember all c.args.name → ⊥) (sym names) c.requires.fresh

pub add-requires-clause-room : goal.add-requires-clause-room
add-requires-clause-room c =
    omega (arith, c.requires.room, files_long 0 c.self.inside.models c.self.inside.contents.items c.self.invariant, ap length c.self.view_is)

pub invariant_of-self-2 : goal.invariant_of-self-2
invariant_of-self-2 c =
    let items = c.in_ok-push.ensures.items ∙ ap (λ ks. ks ++ None ∷ []) c.in_ok-reserve.ensures.items in
    let file : StoredFile = record { name = c.args.name; library = c.args.library; model = None } in
    subst (λ ks. AreKept c.add.new.self ks) (sym items)
    (subst (λ xs. AreKept xs (c.self.inside.contents.items ++ None ∷ [])) (sym c.in_ok-number.ensures.added)
    (added_kept 0 c.self.inside.models c.self.inside.contents.items file refl c.self.invariant))

pub returns-clause-number : goal.returns-clause-number
returns-clause-number c =
    c.in_ok-number.ensures.number ∙ sym (files_long 0 c.self.inside.models c.self.inside.contents.items c.self.invariant) ∙ ap length c.self.view_is

pub returns-clause-added : goal.returns-clause-added
returns-clause-added c =
    let items = c.in_ok-push.ensures.items ∙ ap (λ ks. ks ++ None ∷ []) c.in_ok-reserve.ensures.items in
    let file : StoredFile = record { name = c.args.name; library = c.args.library; model = None } in
    ap (λ ks. files_of c.add.new.self ks) items
    ∙ ap (λ xs. files_of xs (c.self.inside.contents.items ++ None ∷ [])) c.in_ok-number.ensures.added
    ∙ added_files 0 c.self.inside.models c.self.inside.contents.items file c.self.invariant
    ∙ ap (λ files. files ++ file_of file None ∷ []) c.self.view_is
