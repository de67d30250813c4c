-- Tests in a row.
use Rattle.std.proofs.Common.{◌≡◌, Bool, ap}
use Rattle.std.specs.Prelude.{◌||◌, ◌&&◌}

-- the first of them may be taken for an equal one
pub tested : (a b c d : Bool) → a ≡ b → ((a && c) || d) ≡ ((b && c) || d)
tested a b c d is = ap (λ x. (x && c) || d) is
