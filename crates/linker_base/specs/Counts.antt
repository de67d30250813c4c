-- Counts of faults and of steps. Each is a u64 that stands still at its last value.
use Rattle.std.specs.Prelude.{◌≡◌, ℕ, ◌+◌, ◌-◌, ◌^◌, ◌≤◌, min, max, Result, OnOk, OnErr}

-- a count after one more, or the same where it stands at its last value
abbrev pub counted_once : ℕ → ℕ
counted_once n = max n (min (n + 1) (2 ^ 64 - 1))

-- a count rose, or stands at its last value: the reading in which it is the cause of a fault
abbrev pub Rose : ℕ → ℕ → Type 0
Rose before now = min (before + 1) (2 ^ 64 - 1) ≤ now

-- a failure comes only where the count rose, any other answer leaves the count, and it never falls
pub record HasCause {T E : Type 0} (before now : ℕ) (result : Result T E) : Type 0 where
  pub later : before ≤ now
  pub failed : OnErr result (Rose before now)
  pub kept : OnOk result (now ≡ before)

-- a count rose by at most so many
pub record RoseAtMost (bound before now : ℕ) : Type 0 where
  pub later : before ≤ now
  pub most : now ≤ before + bound
