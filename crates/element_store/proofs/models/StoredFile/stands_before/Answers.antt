-- Files of one kind stand in the byte order of their names.
use Rattle.std.proofs.Common.{◌≡◌, rules, sym, ◌∙◌}
use Rattle.element_store.proofs.RankLaws.{name_before, alike_before}
use Rattle.element_store.proofs.models.StoredFile.stands_before.Goals as goal

pub returns-then-self-other : goal.returns-then-self-other
returns-then-self-other c =
    let alike : c.args.self.now.library ≡ c.args.other.now.library = search rules in
    c.lt.ensures ∙ rw (c.bytes.ensures, c.bytes-then-self-other.ensures) (name_before c.args.self.now.name c.args.other.now.name)
    ∙ sym (alike_before c.args.self.now.library c.args.other.now.library c.args.self.now.name c.args.other.now.name alike)
