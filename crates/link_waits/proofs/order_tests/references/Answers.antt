use Rattle.std.proofs.Common.{◌<◌, List, [], ◌∷◌, ◌++◌, ℕ, sym, subst, inl, inr, arith}
use Rattle.std.proofs.Math.Nat.{mod-lt}
use Rattle.linker_base.specs.Members.{IsMember}
use Rattle.linker_base.proofs.MemberLaws.{member_cases}
use Rattle.link_model.specs.declared.keys.LinkKey.{LinkKey}
use Rattle.link_waits.specs.Waits.{HaveFiles}
use Rattle.link_waits.proofs.order_tests.references.Goals as goal

have_more : (n : ℕ) (ks : List LinkKey) (k : LinkKey) → HaveFiles n ks → k.0.file.0 < n → HaveFiles n (ks ++ k ∷ [])
have_more n ks k have lt = λ j m. elim (member_cases ks (k ∷ []) j m) [
  | inl a ↦ have j a
  | inr b ↦ elim b [ inl e ↦ subst (λ (z : LinkKey). z.0.file.0 < n) e lt | inr none ↦ absurd none ]
]

pub loop-file-preserved : goal.loop-file-preserved
loop-file-preserved c =
    subst (HaveFiles 4) (sym c.in_ok-push.ensures.items) (have_more 4 c.loop-file.keys.items _ c.loop-file.invariant (mod-lt _ (omega arith)))
