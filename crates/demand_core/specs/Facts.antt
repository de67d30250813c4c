-- Facts that `==` ties are one, where this holds of keys and of facts from outside.
use Rattle.std.specs.Prelude.{◌≡◌, Bool, true, false}
use Rattle.std.proofs.Common.{sym, ◌∙◌, ap}
use Rattle.demand_core.specs.declared.looks.Fact.{Fact}
use Rattle.demand_core.specs.declared.looks.Fact.TheVariants.{Key, Outer}

-- a test that compares keys with keys, and facts from outside with such
pub fact_exact : {K F : Type 0} (same : Fact K F → Fact K F → Bool) (key : K → K → Bool) (outer : F → F → Bool)
    → ((a b : K) → same (Key a) (Key b) ≡ key a b) → ((a b : F) → same (Outer a) (Outer b) ≡ outer a b)
    → ((a : K) (b : F) → same (Key a) (Outer b) ≡ false) → ((a : F) (b : K) → same (Outer a) (Key b) ≡ false)
    → ((a b : K) → key a b ≡ true → a ≡ b) → ((a b : F) → outer a b ≡ true → a ≡ b)
    → (x y : Fact K F) → same x y ≡ true → x ≡ y
fact_exact same key outer kk oo ko ok keys outers (Key a) (Key b) e = ap Key (keys a b (sym (kk a b) ∙ e))
fact_exact same key outer kk oo ko ok keys outers (Outer a) (Outer b) e = ap Outer (outers a b (sym (oo a b) ∙ e))
fact_exact same key outer kk oo ko ok keys outers (Key a) (Outer b) e = let bad : false ≡ true = sym (ko a b) ∙ e in cc
fact_exact same key outer kk oo ko ok keys outers (Outer a) (Key b) e = let bad : false ≡ true = sym (ok a b) ∙ e in cc
