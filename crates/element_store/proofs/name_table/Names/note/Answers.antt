-- What is found after a note.
use Rattle.std.proofs.Common.{◌≡◌, nat_eq, [], ◌∷◌, ◌++◌, None, sym, ◌∙◌, ap, subst}
use Rattle.std.specs.Cmp.Lexicographic.{pointwise}
use Rattle.std.specs.Map.{lookup}
use Rattle.std.proofs.lemmas.Result.{on_ok_weaker}
use Rattle.indexmap.proofs.CallerLemmas.{insert_entry-new}
use Rattle.element_store.specs.NameTables.{numbers_under, if_noted}
use Rattle.element_store.proofs.NameLaws.{name_changed, name_added}
use Rattle.element_store.proofs.name_table.Names.note.Goals as goal

pub returns-in-Some : goal.returns-in-Some
returns-in-Some c =
    let there = c.in-Some.ensures.value in
    let written = c.get_mut.follows.holds c.push.new.self in
    on_ok_weaker c.push.result (λ pushed x.
    name_changed _ _ c.args.name.now c.args.number _ _ (sym there) pushed written.0 x
    ∙ ap (λ old. numbers_under old x ++ if_noted (pointwise nat_eq x c.args.name.now) c.args.number) c.self.view_is) c.push.ensures.ok

pub returns-in_ok-insert-in-None : goal.returns-in_ok-insert-in-None
returns-in_ok-insert-in-None c x =
    let map = c.get_mut.follows.lender-at-none in
    let same : map ≡ c.self.inside.bearers = c.get_mut.follows.holds-at-none in
    let key : c.in_ok-from_slice-in-None.field-0.items ≡ c.args.name.now = c.in_ok-from_slice-in-None.ensures.items in
    let none : lookup (λ k. pointwise nat_eq c.args.name.now k.items) map.entries ≡ None = ap (λ m. lookup (λ k. pointwise nat_eq c.args.name.now k.items) m.entries) same ∙ sym c.in-None.ensures.value in
    let absent = subst (λ name. lookup (λ k. pointwise nat_eq name k.items) map.entries ≡ None) (sym key) none in
    let numbers : c.push-in-None.new.self ≡ c.args.number ∷ [] = c.in_ok-push-in-None.ensures.ok ∙ ap (λ l. l ++ c.args.number ∷ []) c.new-numbers.ensures in
    name_added map.entries _ c.args.name.now c.args.number c.in_ok-from_slice-in-None.field-0 c.push-in-None.new.self none key numbers
    (c.in_ok-insert-in-None.ensures.entries ∙ insert_entry-new (λ y z. pointwise nat_eq y.items z.items) map c.in_ok-from_slice-in-None.field-0 c.push-in-None.new.self absent) x
    ∙ ap (λ old. numbers_under old x ++ if_noted (pointwise nat_eq x c.args.name.now) c.args.number) (ap (λ m. m.entries) same ∙ c.self.view_is)
