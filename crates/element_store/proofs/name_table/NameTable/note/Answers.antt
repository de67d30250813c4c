-- What is found after a note.
use Rattle.std.proofs.Common.{◌≡◌, ◌&&◌, nat_eq, ◌++◌, None, sym, ◌∙◌, ap}
use Rattle.std.specs.Cmp.Lexicographic.{pointwise}
use Rattle.std.specs.Map.{lookup}
use Rattle.std.proofs.lemmas.Result.{on_ok_weaker}
use Rattle.indexmap.proofs.CallerLemmas.{insert_entry-new}
use Rattle.element_store.specs.NameTables.{found_in, if_noted}
use Rattle.element_store.proofs.NameLaws.{table_changed, table_added}
use Rattle.element_store.proofs.name_table.NameTable.note.Goals as goal

pub returns-in-Some : goal.returns-in-Some
returns-in-Some c =
    let there = c.in-Some.ensures.value in
    let written = c.get_mut.follows.holds c.note.new.self in
    on_ok_weaker c.note.result (λ noted o x.
    table_changed _ _ _ _ c.args.owner c.args.name.now c.args.number (sym there) noted written.0 o x
    ∙ ap (λ old. found_in old o x ++ if_noted (nat_eq c.args.owner o && pointwise nat_eq x c.args.name.now) c.args.number) c.self.view_is) c.note.ensures

pub returns-in_ok-insert-in-None : goal.returns-in_ok-insert-in-None
returns-in_ok-insert-in-None c o x =
    let map = c.get_mut.follows.lender-at-none in
    let same : map ≡ c.self.inside.namespaces = c.get_mut.follows.holds-at-none in
    let none : lookup (nat_eq c.args.owner) map.entries ≡ None = ap (λ m. lookup (nat_eq c.args.owner) m.entries) same ∙ sym c.in-None.ensures.value in
    table_added map.entries _ c.new-names.result c.note-in-None.new.self c.args.owner c.args.name.now c.args.number none c.new-names.ensures c.in_ok-note-in-None.ensures
    (c.in_ok-insert-in-None.ensures.entries ∙ insert_entry-new nat_eq map c.args.owner c.note-in-None.new.self none) o x
    ∙ ap (λ old. found_in old o x ++ if_noted (nat_eq c.args.owner o && pointwise nat_eq x c.args.name.now) c.args.number) (ap (λ m. m.entries) same ∙ c.self.view_is)
