-- Files of one kind stand in the byte order of their names, and project files before those of the library.
use Rattle.std.proofs.Common.{◌≡◌, rules, sym, ◌∙◌, ap, not}
use Rattle.element_store.proofs.RankLaws.{name_before, alike_before}
use Rattle.root_names.proofs.FileLaws.{unlike_before}
use Rattle.link_tiers.proofs.picking.stands_before.Goals as goal

pub returns-then-is_library : goal.returns-then-is_library
returns-then-is_library c = λ s t at there.
    let a = c.is_library.ensures s at in
    let b = c.is_library-2.ensures t there in
    let alike : s.library ≡ t.library = search rules in
    let name = c.name.ensures s at in
    let other = c.name-then-is_library.ensures t there in
    c.lt.ensures ∙ rw (c.bytes.ensures, c.bytes-then-is_library.ensures, name, other) (name_before s.name t.name)
    ∙ sym (alike_before s.library t.library s.name t.name alike)

pub returns-else-is_library : goal.returns-else-is_library
returns-else-is_library c = λ s t at there.
    let a = c.is_library.ensures s at in
    let b = c.is_library-2.ensures t there in
    let unlike : s.library ≡ t.library → ⊥ = search rules in
    ap not (c.is_library-else-is_library.ensures s at)
    ∙ sym (unlike_before s.library t.library s.name t.name unlike)
