-- The table of the file's kind has its members, and the other one is as before.
use Rattle.std.proofs.Common.{◌≡◌, sym, ◌∙◌, true, false, subst}
use Rattle.std.proofs.lemmas.Result.{on_ok_weaker}
use Rattle.root_names.specs.Roots.{Tables, AreRootsOf}
use Rattle.root_names.proofs.FileLaws.{get_below}
use Rattle.root_names.proofs.FirstLaws.{library_entered, project_entered, library_apart, project_apart}
use Rattle.root_names.specs.Firsts.{first_models}
use Rattle.root_names.proofs.root_names.RootNames.enter.Goals as goal

pub put_file-requires : goal.put_file-requires
put_file-requires c =
    let files = c.args.models.now in
    let s = get_below files c.args.number.0 c.requires.within in
    let tables : Tables = record { project = c.self.inside.project; library = c.self.inside.library } in
    library_apart files c.args.number s.0 s.1 c.files.ensures.kept.names tables tables.library
    (subst (λ (t : Tables). AreRootsOf (first_models c.args.number.0 files) t) (sym c.self.view_is) c.requires.before)

pub put_file-requires-else-is_library : goal.put_file-requires-else-is_library
put_file-requires-else-is_library c =
    let files = c.args.models.now in
    let s = get_below files c.args.number.0 c.requires.within in
    let tables : Tables = record { project = c.self.inside.project; library = c.self.inside.library } in
    project_apart files c.args.number s.0 s.1 c.files.ensures.kept.names tables tables.project
    (subst (λ (t : Tables). AreRootsOf (first_models c.args.number.0 files) t) (sym c.self.view_is) c.requires.before)

pub returns-then-is_library : goal.returns-then-is_library
returns-then-is_library c =
    let files = c.args.models.now in
    let s = get_below files c.args.number.0 c.requires.within in
    let tables : Tables = record { project = c.self.inside.project; library = c.self.inside.library } in
    let library : s.0.library ≡ true = sym (c.is_library.ensures s.0 s.1) ∙ c.if-is_library.true in
    on_ok_weaker c.put_file.result
    (λ put. library_entered files c.args.number s.0 s.1 c.files.ensures.kept.names tables c.put_file.new.table library
    (subst (λ (t : Tables). AreRootsOf (first_models c.args.number.0 files) t) (sym c.self.view_is) c.requires.before) put) c.put_file.ensures.ok

pub returns-else-is_library : goal.returns-else-is_library
returns-else-is_library c =
    let files = c.args.models.now in
    let s = get_below files c.args.number.0 c.requires.within in
    let tables : Tables = record { project = c.self.inside.project; library = c.self.inside.library } in
    let project : s.0.library ≡ false = sym (c.is_library.ensures s.0 s.1) ∙ c.if-is_library.false in
    on_ok_weaker c.put_file-else-is_library.result
    (λ put. project_entered files c.args.number s.0 s.1 c.files.ensures.kept.names tables c.put_file-else-is_library.new.table project
    (subst (λ (t : Tables). AreRootsOf (first_models c.args.number.0 files) t) (sym c.self.view_is) c.requires.before) put)
    c.put_file-else-is_library.ensures.ok
