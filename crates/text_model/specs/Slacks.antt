-- Fewer items than tokens, as a test of the tables alone.
use Rattle.std.specs.Prelude.{ℕ, suc, ◌+◌, nat_eq, nat_le, Bool, true, ◌&&◌, cond, List, [], ◌∷◌, slice_index_or}
use Rattle.ll_core.specs.declared.grammar.Symbol.{Symbol}
use Rattle.ll_core.specs.declared.grammar.Symbol.TheVariants.{Terminal, Inner}
use Rattle.ll_core.specs.Table.{Rule, Table}
use Rattle.text_model.specs.declared.action.Action.{Action}
use Rattle.text_model.specs.declared.action.Action.TheVariants as action
use Rattle.text_model.specs.declared.action.Taking.TheVariants as taking
use Rattle.text_model.specs.Tables.{Tables, action_at}

-- a comment counts twice, since it has four bytes at least
abbrev pub weight : ℕ → ℕ
weight k = cond (nat_eq k 3) 2 1

abbrev pub weights : List ℕ → ℕ
weights [] = 0
weights (k ∷ ks) = weight k + weights ks

abbrev pub slack_at : List ℕ → ℕ → ℕ
slack_at claims a = slice_index_or claims a 0

abbrev pub slack_of : List ℕ → List Symbol → ℕ
slack_of claims [] = 0
slack_of claims (Terminal k ∷ ss) = weight k + slack_of claims ss
slack_of claims (Inner b ∷ ss) = slack_at claims b + slack_of claims ss

-- how many items a production makes by itself
abbrev pub makes : Action → ℕ
makes (action.Element k) = 1
makes (action.Take taking.Alias) = 1
makes (action.Take taking.Import) = 1
makes other = 0

abbrev pub all_slack : Tables → List ℕ → ℕ → List Rule → Bool
all_slack t claims p [] = true
all_slack t claims p (r ∷ rs) =
    nat_le (slack_at claims r.left + makes (action_at t p)) (slack_of claims r.right) && all_slack t claims (suc p) rs

-- the claims hold of each production
abbrev pub are_slacks : Tables → List ℕ → Table → Bool
are_slacks t claims g = all_slack t claims 0 g.rules
