-- What productions do to the values of the expression around them, as a test of the tables alone.
use Rattle.std.specs.Prelude.{ℕ, suc, ◌-◌, nat_eq, nat_lt, Bool, true, false, not, ◌&&◌, cond, Option, Some, None, List, [], ◌∷◌, slice_index_or}
use Rattle.ll_core.specs.declared.grammar.Symbol.{Symbol}
use Rattle.ll_core.specs.declared.grammar.Symbol.TheVariants.{Terminal, Inner}
use Rattle.ll_core.specs.Table.{Rule, Table}
use Rattle.element_store.specs.declared.expression.BinaryOp.TheVariants as binary
use Rattle.text_model.specs.declared.action.Action.{Action}
use Rattle.text_model.specs.declared.action.Action.TheVariants as action
use Rattle.text_model.specs.declared.action.Taking.TheVariants as taking
use Rattle.text_model.specs.declared.action.Operator.{Operator}
use Rattle.text_model.specs.declared.action.Operator.TheVariants as operator
use Rattle.text_model.specs.declared.action.Meaning.{Meaning}
use Rattle.text_model.specs.declared.action.Meaning.TheVariants as meaning
use Rattle.text_model.specs.Tables.{Tables, action_at}

-- Whole: one value more. Tail: where an operator waits, the two values before it are one after. Between, BeforeOne: an
-- operator of this sort waits after. Silent: nothing.
pub data Claim : Type 0 where
  Whole : Claim
  Tail : Claim
  Between : Claim
  BeforeOne : Claim
  Silent : Claim
  Other : Claim

-- what waits: what did before, nothing, an operator between two, before one, `if`
pub data Waits : Type 0 where
  Kept : Waits
  Free : Waits
  ForTwo : Waits
  ForOne : Waits
  ForThree : Waits

-- how many values there are more, and what waits
pub record Effect : Type 0 where
  pub values : ℕ
  pub waits : Waits

abbrev pub effect : ℕ → Waits → Effect
effect n q = record { values = n; waits = q }

-- the meaning of a terminal by its number in the tables of grammars
abbrev pub meaning_at : Tables → ℕ → Meaning
meaning_at t k =
    cond (nat_lt k 4)
    (slice_index_or (meaning.Name ∷ meaning.Integer ∷ meaning.Text ∷ meaning.Comment ∷ []) k meaning.Nothing)
    (cond (nat_lt k 260) (slice_index_or t.signs (k - 4) meaning.Nothing)
    (slice_index_or t.words (k - 260) meaning.Nothing))

abbrev pub waits_for : Operator → Waits
waits_for operator.If = ForThree
waits_for operator.Not = ForOne
waits_for (operator.Binary b) = ForTwo

abbrev pub one_more : Effect → Effect
one_more s = effect (suc s.values) s.waits

-- an operator may wait where none is kept
abbrev pub waits_over : Waits → ℕ → Waits → Option Effect
waits_over q n Kept = None
waits_over q n other = Some (effect n q)

abbrev pub now_waits : Waits → Effect → Option Effect
now_waits q s = waits_over q s.values s.waits

abbrev pub name_effect : Action → Effect → Effect
name_effect action.Name s = s
name_effect action.Short s = s
name_effect action.Segment s = s
name_effect action.Step s = s
name_effect other s = one_more s

abbrev pub operator_effect : Action → Operator → Effect → Option Effect
operator_effect action.Star o s = Some (one_more s)
operator_effect other o s = now_waits (waits_for o) s

abbrev pub token_effect : Action → Meaning → Effect → Option Effect
token_effect a meaning.Text s = Some (one_more s)
token_effect a meaning.Integer s = Some (one_more s)
token_effect a (meaning.Leaf l) s = Some (one_more s)
token_effect a meaning.Name s = Some (name_effect a s)
token_effect a (meaning.Operator o) s = operator_effect a o s
token_effect a other s = Some s

-- the operator that waits takes the two values before it
abbrev pub tail_effect : ℕ → Waits → Option Effect
tail_effect (suc n) Free = Some (effect (suc n) Free)
tail_effect (suc (suc n)) ForTwo = Some (effect (suc n) Free)
tail_effect n other = None

abbrev pub claim_effect : Claim → Effect → Option Effect
claim_effect Whole s = Some (one_more s)
claim_effect Tail s = tail_effect s.values s.waits
claim_effect Between s = now_waits ForTwo s
claim_effect BeforeOne s = now_waits ForOne s
claim_effect Silent s = Some s
claim_effect Other s = None

abbrev pub claim_at : List Claim → ℕ → Claim
claim_at claims a = slice_index_or claims a Other

-- what symbols do, one after another
abbrev pub effects : Tables → List Claim → Action → List Symbol → Option Effect → Option Effect
effects t claims a ss None = None
effects t claims a [] (Some s) = Some s
effects t claims a (Terminal k ∷ ss) (Some s) = effects t claims a ss (token_effect a (meaning_at t k) s)
effects t claims a (Inner b ∷ ss) (Some s) = effects t claims a ss (claim_effect (claim_at claims b) s)

-- at the end of a Level the operator that waits takes its values
abbrev pub level_effect : ℕ → Waits → Option Effect
level_effect n Free = Some (effect n Free)
level_effect (suc n) ForOne = Some (effect (suc n) Free)
level_effect (suc (suc (suc n))) ForThree = Some (effect (suc n) Free)
level_effect n other = None

abbrev pub level_end : Option Effect → Option Effect
level_end None = None
level_end (Some s) = level_effect s.values s.waits

abbrev pub frees : ℕ → ℕ → Waits → Bool
frees n m Free = nat_eq m n
frees n m other = false

abbrev pub is_free : ℕ → Option Effect → Bool
is_free n None = false
is_free n (Some s) = frees n s.values s.waits

abbrev pub keeps : ℕ → ℕ → Waits → Bool
keeps n m Kept = nat_eq m n
keeps n m other = false

abbrev pub is_kept : ℕ → Option Effect → Bool
is_kept n None = false
is_kept n (Some s) = keeps n s.values s.waits

-- an action that does nothing to nodes by itself
abbrev pub is_plain : Action → Bool
is_plain action.Group = true
is_plain action.Name = true
is_plain action.Short = true
is_plain action.Segment = true
is_plain action.Step = true
is_plain action.Star = true
is_plain other = false

abbrev pub is_star : Action → Bool
is_star action.Star = true
is_star other = false

abbrev pub is_between : Meaning → Bool
is_between (meaning.Operator (operator.Binary b)) = true
is_between other = false

abbrev pub is_sign : Operator → Bool
is_sign operator.Not = true
is_sign (operator.Binary binary.Add) = true
is_sign (operator.Binary binary.Subtract) = true
is_sign other = false

abbrev pub is_before_one : Meaning → Bool
is_before_one (meaning.Operator o) = is_sign o
is_before_one other = false

abbrev pub one_sign : Tables → (Meaning → Bool) → List Symbol → Bool
one_sign t test (Terminal k ∷ []) = test (meaning_at t k)
one_sign t test other = false

-- a whole expression is a Level, or it keeps what waits
abbrev pub is_whole_rule : Tables → List Claim → Action → List Symbol → Bool
is_whole_rule t claims action.Level ss = is_free 1 (level_end (effects t claims action.Level ss (Some (effect 0 Free))))
is_whole_rule t claims a ss = is_plain a && is_kept 1 (effects t claims a ss (Some (effect 0 Kept)))

abbrev pub is_tail_rule : Tables → List Claim → Action → List Symbol → Bool
is_tail_rule t claims action.Tail ss = is_free 1 (effects t claims action.Tail ss (Some (effect 1 Free)))
is_tail_rule t claims a ss = false

-- whether the production does what is claimed of its left symbol
abbrev pub meets_claim : Tables → List Claim → Claim → Action → List Symbol → Bool
meets_claim t claims Whole a ss = is_whole_rule t claims a ss
meets_claim t claims Tail a ss = is_tail_rule t claims a ss
meets_claim t claims Between a ss = is_plain a && (not (is_star a) && one_sign t is_between ss)
meets_claim t claims BeforeOne a ss = is_plain a && (not (is_star a) && one_sign t is_before_one ss)
meets_claim t claims Silent a ss = is_plain a && is_kept 0 (effects t claims a ss (Some (effect 0 Kept)))
meets_claim t claims Other a ss = true

-- and what a value or a result takes is one expression
abbrev pub takes_whole : Tables → List Claim → Action → List Symbol → Bool
takes_whole t claims (action.Take taking.Value) ss =
    is_free 1 (effects t claims (action.Take taking.Value) ss (Some (effect 0 Free)))
takes_whole t claims (action.Take taking.Result) ss =
    is_free 1 (effects t claims (action.Take taking.Result) ss (Some (effect 0 Free)))
takes_whole t claims other ss = true

abbrev pub all_meet : Tables → List Claim → ℕ → List Rule → Bool
all_meet t claims p [] = true
all_meet t claims p (r ∷ rs) =
    (meets_claim t claims (claim_at claims r.left) (action_at t p) r.right
    && takes_whole t claims (action_at t p) r.right) && all_meet t claims (suc p) rs

-- the claims hold of each production
abbrev pub are_wholes : Tables → List Claim → Table → Bool
are_wholes t claims g = all_meet t claims 0 g.rules
