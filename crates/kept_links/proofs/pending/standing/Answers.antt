use Rattle.std.proofs.Common.{◌≡◌, ◌∙◌, ◌+◌, ap, subst, sym, take, true, false}
use Rattle.std.proofs.lemmas.List.{take_all}
use Rattle.kept_links.specs.Kept.{AreStanding}
use Rattle.kept_links.proofs.WorkLaws.{none_standing, standing_more, standing_same}
use Rattle.kept_links.proofs.pending.standing.Goals as goal
use Rattle.kept_links.proofs.pending.standing.Goals.{then-stands+in_ok-push, else-stands}

pub loop-key-init : goal.loop-key-init
loop-key-init c =
    subst (λ xs. AreStanding c.args.models.now (take 0 c.args.keys.now) xs) (sym c.new-standing.ensures.items) (none_standing c.args.models.now c.args.keys.now)

pub loop-key-preserved : goal.loop-key-preserved
loop-key-preserved c = elim c.if-stands.branch [
  | then-stands+in_ok-push w ↦
      subst (λ xs. AreStanding c.args.models.now (take (c.loop-key.key-index + 1) c.args.keys.now) xs)
      (sym (ap (λ v. v.items) w.standing-is ∙ w.in_ok-push.ensures.items))
      (standing_more c.args.models.now c.args.keys.now c.loop-key.key-index _ c.loop-key.standing.items c.loop-key-test.true c.loop-key.invariant
      (c.stands.ensures.0 w.if-stands.true))
  | else-stands w ↦
      subst (λ xs. AreStanding c.args.models.now (take (c.loop-key.key-index + 1) c.args.keys.now) xs) (sym (ap (λ v. v.items) w.standing-is))
      (standing_same c.args.models.now c.args.keys.now c.loop-key.key-index _ c.loop-key.standing.items c.loop-key-test.true c.loop-key.invariant
      (λ m. let bad : true ≡ false = sym (c.stands.ensures.1 m) ∙ w.if-stands.false in cc))
]

pub returns : goal.returns
returns c =
    subst (λ ks. AreStanding c.args.models.now ks c.loop-key.standing.items) (take_all c.loop-key.key-index c.args.keys.now c.loop-key-test.false)
    c.loop-key.invariant
