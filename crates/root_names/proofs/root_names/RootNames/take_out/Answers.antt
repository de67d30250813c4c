-- The table of the file's kind lacks its members, and the other one is as before.
use Rattle.std.proofs.Common.{◌≡◌, sym, ◌∙◌, true, false, subst}
use Rattle.root_names.specs.Roots.{Tables, AreRootsOf}
use Rattle.root_names.proofs.FileLaws.{get_below}
use Rattle.root_names.proofs.KeepLaws.{library_out, project_out}
use Rattle.root_names.proofs.root_names.RootNames.take_out.Goals as goal

pub returns-then-is_library : goal.returns-then-is_library
returns-then-is_library c =
    let files = c.args.models.now in
    let s = get_below files c.args.file.0 c.requires.within in
    let tables : Tables = record { project = c.self.inside.project; library = c.self.inside.library } in
    let before : AreRootsOf files tables = subst (λ (t : Tables). AreRootsOf files t) (sym c.self.view_is) c.requires.before in
    let library : s.0.library ≡ true = sym (c.is_library.ensures s.0 s.1) ∙ c.if-is_library.true in
    library_out files c.args.file s.0 s.1 c.files.ensures.kept.names tables c.take_file.new.table library before c.take_file.ensures

pub returns-else-is_library : goal.returns-else-is_library
returns-else-is_library c =
    let files = c.args.models.now in
    let s = get_below files c.args.file.0 c.requires.within in
    let tables : Tables = record { project = c.self.inside.project; library = c.self.inside.library } in
    let before : AreRootsOf files tables = subst (λ (t : Tables). AreRootsOf files t) (sym c.self.view_is) c.requires.before in
    let project : s.0.library ≡ false = sym (c.is_library.ensures s.0 s.1) ∙ c.if-is_library.false in
    project_out files c.args.file s.0 s.1 c.files.ensures.kept.names tables c.take_file-else-is_library.new.table project before
    c.take_file-else-is_library.ensures
