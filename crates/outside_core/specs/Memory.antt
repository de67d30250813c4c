-- What contracts see of the objects over memory.
use Rattle.std.specs.Prelude.{ℕ, ◌+◌, ◌-◌, ◌^◌, min, max, List, [], ◌∷◌}

-- a source: the bytes left, the greatest sizes of the calls to come, the numbers of the calls that fail, the calls
-- made, the faults
pub record Feed : Type 0 where
  pub left : List ℕ
  pub cuts : List ℕ
  pub fails : List ℕ
  pub calls : ℕ
  pub faults : ℕ

-- a sink: the bytes given, for how many there is room in all, and the rest as in a source
pub record Tray : Type 0 where
  pub given : List ℕ
  pub room : ℕ
  pub cuts : List ℕ
  pub fails : List ℕ
  pub calls : ℕ
  pub faults : ℕ

-- room for bytes: those given, and for how many there is room in all
pub record Filled : Type 0 where
  pub given : List ℕ
  pub room : ℕ

-- a source that never fails: the bytes left, the greatest sizes of the calls to come
pub record Stream : Type 0 where
  pub left : List ℕ
  pub cuts : List ℕ

-- how many of so many bytes the next call may move: at most its cut, of which 0 counts as 1; no limit after the last
-- cut
abbrev pub within_cut : List ℕ → ℕ → ℕ
within_cut [] count = count
within_cut (cut ∷ cuts) count = min (max 1 cut) count

-- the number of the call that comes, from 1; it stands still at the last u64
abbrev pub next_call : ℕ → ℕ
next_call calls = min (calls + 1) (2 ^ 64 - 1)
