-- What stands under each name after the members of a file are gone.
use Rattle.std.proofs.Common.{◌≡◌, List, None, nat_eq, cond, refl, sym, ◌∙◌, ap}
use Rattle.std.specs.Cmp.Lexicographic.{pointwise}
use Rattle.std.specs.Map.{lookup}
use Rattle.element_store.specs.declared.numbers.MemberNo.{MemberNo}
use Rattle.root_names.specs.Roots.{Entries, bearing}
use Rattle.root_names.specs.Steps.{others}
use Rattle.root_names.proofs.TableLaws.{changed, unchanged}
use Rattle.root_names.proofs.root_table.RootTable.remove.Goals as goal
use Rattle.root_names.proofs.root_table.RootTable.remove.Goals.{in-Some, in-None}

pub returns : goal.returns
returns c x =
    let change : List MemberNo → List MemberNo = λ ms. others c.args.file ms in
    elim c.match-get_mut.branch [
      | in-Some w ↦
          let written = c.get_mut.follows.holds w.keep_others.new.members in
          ap (λ i. bearing i.names.entries x) w.self-inside-is
          ∙ changed _ _ c.args.name.now w.in-Some.members.now w.keep_others.new.members change (sym w.in-Some.ensures.value) w.keep_others.ensures written.0 x
          ∙ ap (λ (es : Entries). cond (pointwise nat_eq x c.args.name.now) (change (bearing es x)) (bearing es x)) c.self.view_is
      | in-None w ↦
          let map = c.get_mut.follows.lender-at-none in
          let same : map ≡ c.self.inside.names = c.get_mut.follows.holds-at-none in
          let view : map.entries ≡ c.args.self.now = ap (λ m. m.entries) same ∙ c.self.view_is in
          let none : lookup (λ k. pointwise nat_eq c.args.name.now k.items) map.entries ≡ None =
          ap (λ m. lookup (λ k. pointwise nat_eq c.args.name.now k.items) m.entries) same ∙ sym w.in-None.ensures.value in
          ap (λ i. bearing i.names.entries x) w.self-inside-is
          ∙ unchanged map.entries c.args.name.now change none refl x
          ∙ ap (λ (es : Entries). cond (pointwise nat_eq x c.args.name.now) (change (bearing es x)) (bearing es x)) view
    ]
