use Rattle.std.proofs.Common.{◌≡◌, ◌∙◌, [], ◌∷◌, ◌++◌, sym, ap, subst, inl, inr, append-nil}
use Rattle.std.specs.Prelude.{OnOk}
use Rattle.std.specs.List.{flat_map}
use Rattle.element_store.specs.Readings.{redefining_of}
use Rattle.link_walk.specs.Calls.{read_by}
use Rattle.value_meanings.specs.Standing.{IsOwn, standing_at}
use Rattle.value_meanings.proofs.HomeLaws.{own_same}
use Rattle.value_meanings.proofs.StandingLaws.{home_added}
use Rattle.value_meanings.proofs.candidates.add_home.Goals.{in-Some-own_member+in_ok-add_member, in_default-own_member}
use Rattle.value_meanings.proofs.candidates.add_home.Goals as goal

pub returns : goal.returns
returns c =
    let v = c.args.view.now in
    let f = c.args.feature in
    let h = c.args.of in
    let d = c.in-Some.model.now in
    let g = standing_at (read_by v) f h.file in
    let home = c.in-Some.ensures in
    let later : OnOk c.add_members.result (c.add_members.new.found ≡ c.match-own_member.found ++ flat_map g (redefining_of d h.index)) =
    subst (λ ks. OnOk c.add_members.result (c.add_members.new.found ≡ c.match-own_member.found ++ flat_map g ks)) c.redefining.ensures.lent
    c.add_members.ensures in
    elim c.match-own_member.branch [
      | in-Some-own_member+in_ok-add_member w ↦
          let k = w.in-Some-own_member.index in
          let own = w.in-Some-own_member.ensures in
          home_added v f c.add_members.result h d (k ∷ []) c.args.found.now c.match-own_member.found c.add_members.new.found home
          (λ j m. elim m [ inl is ↦ subst (IsOwn d h f) is own | inr none ↦ absurd none ])
          (λ j within below other. inl (sym (own_same d h f j k home.whole other (own.member, own.at, own.target))))
          (w.found-is ∙ w.in_ok-add_member.ensures ∙ ap (λ xs. c.args.found.now ++ xs) (sym (append-nil (g k)))) later
      | in_default-own_member w ↦
          home_added v f c.add_members.result h d [] c.args.found.now c.match-own_member.found c.add_members.new.found home (λ j m. absurd m)
          (λ j within below other. absurd (w.in_default-own_member.ensures j within below other)) (w.found-is ∙ sym (append-nil c.args.found.now)) later
    ]
