-- The keys of the example.
use Rattle.std.specs.Prelude.{◌≡◌, ℕ, zero, suc, Bool, true, List, [], ◌∷◌, ◌++◌, nat_eq}
use Rattle.std.proofs.Common.{ap, arith}
use Rattle.std.proofs.lemmas.Bool.Decides.{nat_tests}
use Rattle.linker_base.specs.Members.{IsExact}
use Rattle.rules_example.specs.declared.number.Number.{Number}

nat_eq_same : (a b : ℕ) → nat_eq a b ≡ true → a ≡ b
nat_eq_same a b h = grind (arith, nat_tests)

nat_eq_itself : (a : ℕ) → nat_eq a a ≡ true
nat_eq_itself a = grind (arith, nat_tests)

-- `==` on keys
abbrev pub same_number : Number → Number → Bool
same_number a b = nat_eq a.0 b.0

-- keys that it ties are one
pub number_exact : (x y : Number) → same_number x y ≡ true → x ≡ y
number_exact x y h = ap (λ (n : ℕ). record { 0 = n }) (nat_eq_same x.0 y.0 h)

pub number_is_exact : IsExact same_number
number_is_exact = record { exact = number_exact; itself = λ x. nat_eq_itself x.0 }

-- the first so many keys, in order
abbrev pub numbers : ℕ → List Number
numbers zero = []
numbers (suc n) = numbers n ++ record { 0 = n } ∷ []
