-- The table of the file's kind has its members, and the other one is as before.
use Rattle.std.proofs.Common.{◌≡◌, sym, ◌∙◌, true, false, None, subst}
use Rattle.std.proofs.lemmas.Result.{on_ok_weaker}
use Rattle.element_store.specs.Stored.{with_model}
use Rattle.root_names.specs.Roots.{Tables, AreRootsOf}
use Rattle.root_names.proofs.FileLaws.{get_below}
use Rattle.root_names.proofs.KeepLaws.{library_others, project_others, library_in, project_in}
use Rattle.root_names.proofs.root_names.RootNames.put_in.Goals as goal

pub put_file-requires : goal.put_file-requires
put_file-requires c =
    let files = c.args.models.now in
    let s = get_below files c.args.file.0 c.requires.within in
    let tables : Tables = record { project = c.self.inside.project; library = c.self.inside.library } in
    let before : AreRootsOf (with_model files c.args.file.0 None) tables =
    subst (λ (t : Tables). AreRootsOf (with_model files c.args.file.0 None) t) (sym c.self.view_is) c.requires.before in
    library_others files c.args.file s.0 s.1 c.files.ensures.kept.names tables tables.library before

pub put_file-requires-else-is_library : goal.put_file-requires-else-is_library
put_file-requires-else-is_library c =
    let files = c.args.models.now in
    let s = get_below files c.args.file.0 c.requires.within in
    let tables : Tables = record { project = c.self.inside.project; library = c.self.inside.library } in
    let before : AreRootsOf (with_model files c.args.file.0 None) tables =
    subst (λ (t : Tables). AreRootsOf (with_model files c.args.file.0 None) t) (sym c.self.view_is) c.requires.before in
    project_others files c.args.file s.0 s.1 c.files.ensures.kept.names tables tables.project before

pub returns-then-is_library-clause-ok : goal.returns-then-is_library-clause-ok
returns-then-is_library-clause-ok c =
    let files = c.args.models.now in
    let s = get_below files c.args.file.0 c.requires.within in
    let tables : Tables = record { project = c.self.inside.project; library = c.self.inside.library } in
    let before : AreRootsOf (with_model files c.args.file.0 None) tables =
    subst (λ (t : Tables). AreRootsOf (with_model files c.args.file.0 None) t) (sym c.self.view_is) c.requires.before in
    let library : s.0.library ≡ true = sym (c.is_library.ensures s.0 s.1) ∙ c.if-is_library.true in
    on_ok_weaker c.put_file.result
    (λ put. library_in files c.args.file s.0 s.1 c.files.ensures.kept.names tables c.put_file.new.table library before put) c.put_file.ensures.ok

pub returns-else-is_library-clause-ok : goal.returns-else-is_library-clause-ok
returns-else-is_library-clause-ok c =
    let files = c.args.models.now in
    let s = get_below files c.args.file.0 c.requires.within in
    let tables : Tables = record { project = c.self.inside.project; library = c.self.inside.library } in
    let before : AreRootsOf (with_model files c.args.file.0 None) tables =
    subst (λ (t : Tables). AreRootsOf (with_model files c.args.file.0 None) t) (sym c.self.view_is) c.requires.before in
    let project : s.0.library ≡ false = sym (c.is_library.ensures s.0 s.1) ∙ c.if-is_library.false in
    on_ok_weaker c.put_file-else-is_library.result
    (λ put. project_in files c.args.file s.0 s.1 c.files.ensures.kept.names tables c.put_file-else-is_library.new.table project before put)
    c.put_file-else-is_library.ensures.ok
