use Rattle.std.proofs.Common.{◌≡◌, ◌∷◌, ◌++◌, [], sym, ap, ◌∙◌, subst, All, length, ◌<◌, suc, arith, append_assoc}
use Rattle.memchr.specs.Find.{Passes, is_byte}
use Rattle.memchr.proofs.lemmas.CallerLemmas.{All-places}
use Rattle.source_text.proofs.source.ends_of.Goals as goal

pub loop-end-init : goal.loop-end-init
loop-end-init c =
    let is = c.into_iter-end-iterator.ensures.into_iter_gives ∙ c.memchr_iter-end-items.ensures.value in
    let all = subst (All (λ k. (k < length c.args.text.now) × Passes (is_byte 10) c.args.text.now k)) (sym is) (All-places (is_byte 10) c.args.text.now) in
    (tt, tt, ap (λ es. es ++ c.into_iter-end-iterator.result) c.new-ends.ensures.items ∙ is, λ k d lt. (all k d lt).0)

pub loop-end-preserved : goal.loop-end-preserved
loop-end-preserved c =
    let step : c.loop-end.end-iterator ≡ c.in-Some.end ∷ c.next.new.self = c.in-Some.ensures.steps in
    let all = subst (All (λ e. e < length c.args.text.now)) step c.loop-end.invariant.3 in (
      tt,
      tt,
      ap (λ es. es ++ c.next.new.self) c.in_ok-push.ensures.items ∙ append_assoc c.loop-end.ends.items (c.in-Some.end ∷ []) c.next.new.self
          ∙ ap (λ es. c.loop-end.ends.items ++ es) (sym step) ∙ c.loop-end.invariant.2,
      λ k d lt. all (suc k) d (omega (arith, lt)),
    )
