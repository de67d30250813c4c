-- What stands under each name after one member more.
use Rattle.std.proofs.Common.{rules, ◌≡◌, ◌≤◌, [], ◌∷◌, ◌++◌, List, None, length, nat_eq, cond, sym, ◌∙◌, ap, subst}
use Rattle.std.specs.Prelude.{insert}
use Rattle.std.specs.Cmp.Lexicographic.{pointwise}
use Rattle.std.specs.Map.{lookup}
use Rattle.indexmap.proofs.CallerLemmas.{insert_entry-new}
use Rattle.element_store.specs.declared.numbers.MemberNo.{MemberNo}
use Rattle.root_names.specs.Roots.{Entries, bearing}
use Rattle.root_names.proofs.TableLaws.{changed, added, same_either, insert_first, items_of, on_err}
use Rattle.root_names.proofs.root_table.RootTable.insert.Goals as goal

pub insert-requires : goal.insert-requires
insert-requires c =
    let there = ap items_of c.in-Some.ensures.value in
    let kept = ap (λ (es : Entries). bearing es c.args.name.now) c.self.view_is in
    let le : c.args.place ≤ length c.in-Some.members.now.items = subst (λ ms. c.args.place ≤ length ms) (sym kept ∙ sym there) c.requires in
    search rules

pub returns-in_ok-insert-in-Some-clause-ok : goal.returns-in_ok-insert-in-Some-clause-ok
returns-in_ok-insert-in-Some-clause-ok c x =
    let written = c.get_mut.follows.holds c.insert.new.self in
    let place : List MemberNo → List MemberNo = λ ms. insert ms c.args.place c.args.member in
    changed _ _ c.args.name.now c.in-Some.members.now c.insert.new.self place (sym c.in-Some.ensures.value) c.in_ok-insert-in-Some.ensures.items written.0 x
    ∙ ap (λ (es : Entries). cond (pointwise nat_eq x c.args.name.now) (place (bearing es x)) (bearing es x)) c.self.view_is

pub returns-in_err-insert-in-Some-clause-err : goal.returns-in_err-insert-in-Some-clause-err
returns-in_err-insert-in-Some-clause-err c =
    let written = c.get_mut.follows.holds c.insert.new.self in
    on_err c.from_residual.result (λ x.
    changed _ _ c.args.name.now c.in-Some.members.now c.insert.new.self (λ ms. ms)
    (sym c.in-Some.ensures.value) c.in_err-insert-in-Some.ensures.items written.0 x
    ∙ ap (λ (es : Entries). cond (pointwise nat_eq x c.args.name.now) (bearing es x) (bearing es x)) c.self.view_is
    ∙ same_either (pointwise nat_eq x c.args.name.now) (bearing c.args.self.now x))

pub returns-in_ok-insert-in-None-clause-ok : goal.returns-in_ok-insert-in-None-clause-ok
returns-in_ok-insert-in-None-clause-ok c x =
    let map = c.get_mut.follows.lender-at-none in
    let same : map ≡ c.self.inside.names = c.get_mut.follows.holds-at-none in
    let view : map.entries ≡ c.args.self.now = ap (λ m. m.entries) same ∙ c.self.view_is in
    let key : c.in_ok-from_slice-in-None.field-0.items ≡ c.args.name.now = c.in_ok-from_slice-in-None.ensures.items in
    let none : lookup (λ k. pointwise nat_eq c.args.name.now k.items) map.entries ≡ None =
    ap (λ m. lookup (λ k. pointwise nat_eq c.args.name.now k.items) m.entries) same ∙ sym c.in-None.ensures.value in
    let absent = subst (λ name. lookup (λ k. pointwise nat_eq name k.items) map.entries ≡ None) (sym key) none in
    let place : List MemberNo → List MemberNo = λ ms. insert ms c.args.place c.args.member in
    let empty : bearing c.args.self.now c.args.name.now ≡ [] = ap (λ (es : Entries). bearing es c.args.name.now) (sym view) ∙ ap items_of none in
    let first : c.args.place ≤ 0 = subst (λ (ms : List MemberNo). c.args.place ≤ length ms) empty c.requires in
    let pushed : c.push.new.self.items ≡ c.args.member ∷ [] =
    c.in_ok-push-in-None.ensures.items ∙ ap (λ (l : List MemberNo). l ++ c.args.member ∷ []) c.new-members.ensures.items in
    added map.entries _ c.args.name.now c.in_ok-from_slice-in-None.field-0 c.push.new.self place none key (pushed
    ∙ insert_first c.args.place c.args.member first)
    (c.in_ok-insert-in-None.ensures.entries
    ∙ insert_entry-new (λ y z. pointwise nat_eq y.items z.items) map c.in_ok-from_slice-in-None.field-0 c.push.new.self absent) x
    ∙ ap (λ (es : Entries). cond (pointwise nat_eq x c.args.name.now) (place (bearing es x)) (bearing es x)) view
