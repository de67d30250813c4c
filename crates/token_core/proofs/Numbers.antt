-- The number of digits, which only grows.
use Rattle.std.proofs.Common.{ℕ, ◌+◌, ◌-◌, ◌*◌, ◌<◌, ◌≤◌, List, [], ◌∷◌, length, drop, get_or, subst, sym, ap, arith}
use Rattle.std.proofs.lemmas.List.{drop_more}
use Rattle.token_core.specs.Reading.{number_from}

-- more digits make no smaller number
pub number_ge : (n : ℕ) (bs : List ℕ) → n ≤ number_from n bs
number_ge n [] = omega arith
number_ge n (b ∷ bs) = omega (arith, number_ge (n * 10 + (b - 48)) bs)

-- the number passes what the next digit makes of it
pub number_more : (n : ℕ) (xs : List ℕ) (i : ℕ) → i < length xs → n * 10 + (get_or xs i 0 - 48) ≤ number_from n (drop i xs)
number_more n xs i lt = subst (λ m. n * 10 + (get_or xs i 0 - 48) ≤ m) (ap (number_from n) (sym (drop_more xs i 0 lt))) (number_ge (n * 10 + (get_or xs i 0 - 48)) (drop (i + 1) xs))
