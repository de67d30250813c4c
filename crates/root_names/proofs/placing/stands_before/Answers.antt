-- Files of one kind stand in the byte order of their names, and project files before those of the library.
use Rattle.std.proofs.Common.{◌≡◌, rules, sym, ◌∙◌, ap, not}
use Rattle.element_store.proofs.RankLaws.{name_before, alike_before}
use Rattle.root_names.specs.Steps.{stand_so}
use Rattle.root_names.proofs.FileLaws.{get_below, unlike_before}
use Rattle.root_names.proofs.placing.stands_before.Goals as goal

pub returns-then-is_library : goal.returns-then-is_library
returns-then-is_library c =
    let s = get_below c.args.models.now c.args.file.0 c.requires.file in
    let t = get_below c.args.models.now c.args.other.0 c.requires.other in
    let a = c.is_library.ensures s.0 s.1 in
    let b = c.is_library-2.ensures t.0 t.1 in
    let alike : s.0.library ≡ t.0.library = search rules in
    let name = c.name.ensures s.0 s.1 in
    let other = c.name-then-is_library.ensures t.0 t.1 in
    c.lt.ensures ∙ rw (c.bytes.ensures, c.bytes-then-is_library.ensures, name, other) (name_before s.0.name t.0.name)
    ∙ sym (alike_before s.0.library t.0.library s.0.name t.0.name alike)
    ∙ (λ i. stand_so (sym s.1 i) (sym t.1 i))

pub returns-else-is_library : goal.returns-else-is_library
returns-else-is_library c =
    let s = get_below c.args.models.now c.args.file.0 c.requires.file in
    let t = get_below c.args.models.now c.args.other.0 c.requires.other in
    let a = c.is_library.ensures s.0 s.1 in
    let b = c.is_library-2.ensures t.0 t.1 in
    let unlike : s.0.library ≡ t.0.library → ⊥ = search rules in
    ap not (c.is_library-else-is_library.ensures s.0 s.1)
    ∙ sym (unlike_before s.0.library t.0.library s.0.name t.0.name unlike)
    ∙ (λ i. stand_so (sym s.1 i) (sym t.1 i))
