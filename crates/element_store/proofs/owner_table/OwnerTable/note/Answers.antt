-- What is kept after a note.
use Rattle.std.proofs.Common.{◌≡◌, nat_eq, [], ◌∷◌, ◌++◌, None, sym, ◌∙◌, ap}
use Rattle.std.specs.Map.{lookup}
use Rattle.std.proofs.lemmas.Result.{on_ok_weaker}
use Rattle.indexmap.proofs.CallerLemmas.{insert_entry-new}
use Rattle.element_store.specs.NameTables.{if_noted}
use Rattle.element_store.specs.OwnerTables.{numbers_of}
use Rattle.element_store.proofs.OwnerTableLaws.{owner_changed, owner_added}
use Rattle.element_store.proofs.owner_table.OwnerTable.note.Goals as goal

pub returns-in-Some : goal.returns-in-Some
returns-in-Some c =
    let there = c.in-Some.ensures.value in
    let written = c.get_mut.follows.holds c.push.new.self in
    on_ok_weaker c.push.result (λ pushed o.
    owner_changed _ _ c.args.owner c.args.number _ _ (sym there) pushed written.0 o
    ∙ ap (λ old. numbers_of old o ++ if_noted (nat_eq c.args.owner o) c.args.number) c.self.view_is) c.push.ensures.ok

pub returns-in_ok-insert-in-None : goal.returns-in_ok-insert-in-None
returns-in_ok-insert-in-None c o =
    let map = c.get_mut.follows.lender-at-none in
    let same : map ≡ c.self.inside.owners = c.get_mut.follows.holds-at-none in
    let none : lookup (nat_eq c.args.owner) map.entries ≡ None = ap (λ m. lookup (nat_eq c.args.owner) m.entries) same ∙ sym c.in-None.ensures.value in
    let numbers : c.push-in-None.new.self ≡ c.args.number ∷ [] = c.in_ok-push-in-None.ensures.ok ∙ ap (λ l. l ++ c.args.number ∷ []) c.new-numbers.ensures in
    owner_added map.entries _ c.args.owner c.args.number c.push-in-None.new.self none numbers
    (c.in_ok-insert-in-None.ensures.entries ∙ insert_entry-new nat_eq map c.args.owner c.push-in-None.new.self none) o
    ∙ ap (λ old. numbers_of old o ++ if_noted (nat_eq c.args.owner o) c.args.number) (ap (λ m. m.entries) same ∙ c.self.view_is)
