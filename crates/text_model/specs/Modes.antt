-- Where items may begin: no two at one token, as a test of the tables alone.
use Rattle.std.specs.Prelude.{ℕ, suc, Bool, true, false, not, ◌&&◌, ◌||◌, cond, Option, Some, None, List, [], ◌∷◌, slice_index_or}
use Rattle.ll_core.specs.declared.grammar.Symbol.{Symbol}
use Rattle.ll_core.specs.declared.grammar.Symbol.TheVariants.{Terminal, Inner}
use Rattle.ll_core.specs.Table.{Rule, Table}
use Rattle.text_model.specs.declared.action.Action.{Action}
use Rattle.text_model.specs.declared.action.Action.TheVariants as action
use Rattle.text_model.specs.declared.action.Taking.TheVariants as taking
use Rattle.text_model.specs.declared.action.Meaning.{Meaning}
use Rattle.text_model.specs.declared.action.Meaning.TheVariants as meaning
use Rattle.text_model.specs.Tables.{Tables, action_at}
use Rattle.text_model.specs.Wholes.{meaning_at}

-- Clear: an item may begin at the next token. Used: one began there.
pub data Mode : Type 0 where
  Clear : Mode
  Used : Mode

-- an item or a visibility word may stand at the first token, a token is taken, there are neither items nor visibility
-- words
pub record ModeClaim : Type 0 where
  pub begins : Bool
  pub takes : Bool
  pub quiet : Bool

abbrev pub mode_claim : Bool → Bool → Bool → ModeClaim
mode_claim begins takes quiet = record { begins = begins; takes = takes; quiet = quiet }

abbrev pub mode_claim_at : List ModeClaim → ℕ → ModeClaim
mode_claim_at claims a = slice_index_or claims a (mode_claim true false false)

abbrev pub is_used : Mode → Bool
is_used Used = true
is_used Clear = false

abbrev pub mode_after : ModeClaim → Mode → Option Mode
mode_after c m = cond (c.begins && is_used m) None (Some (cond c.takes Clear m))

abbrev pub is_visibility : Meaning → Bool
is_visibility (meaning.Visibility v) = true
is_visibility other = false

abbrev pub token_mode : Meaning → Mode → Option Mode
token_mode w m = cond (is_visibility w && is_used m) None (Some Clear)

abbrev pub modes : Tables → List ModeClaim → List Symbol → Option Mode → Option Mode
modes t claims ss None = None
modes t claims [] (Some m) = Some m
modes t claims (Terminal k ∷ ss) (Some m) = modes t claims ss (token_mode (meaning_at t k) m)
modes t claims (Inner b ∷ ss) (Some m) = modes t claims ss (mode_after (mode_claim_at claims b) m)

abbrev pub are_quiet : Tables → List ModeClaim → List Symbol → Bool
are_quiet t claims [] = true
are_quiet t claims (Terminal k ∷ ss) = not (is_visibility (meaning_at t k)) && are_quiet t claims ss
are_quiet t claims (Inner b ∷ ss) = (mode_claim_at claims b).quiet && are_quiet t claims ss

abbrev pub is_clear : Option Mode → Bool
is_clear (Some Clear) = true
is_clear other = false

abbrev pub item_mode : Mode → Option Mode → Option Mode
item_mode Used o = None
item_mode Clear o = cond (is_clear o) (Some Clear) None

-- an alias or an import: quiet below, and clear at its end
abbrev pub held_mode : Bool → Mode → Option Mode → Option Mode
held_mode quiet Used o = None
held_mode quiet Clear o = cond (quiet && is_clear o) (Some Clear) None

abbrev pub production_mode : Tables → List ModeClaim → Action → List Symbol → Mode → Option Mode
production_mode t claims (action.Element k) ss m = item_mode m (modes t claims ss (Some Used))
production_mode t claims (action.Take taking.Alias) ss m =
    held_mode (are_quiet t claims ss) m (modes t claims ss (Some Used))
production_mode t claims (action.Take taking.Import) ss m =
    held_mode (are_quiet t claims ss) m (modes t claims ss (Some Used))
production_mode t claims a ss m = modes t claims ss (Some m)

abbrev pub makes_none : Action → Bool
makes_none (action.Element k) = false
makes_none (action.Take taking.Alias) = false
makes_none (action.Take taking.Import) = false
makes_none other = true

abbrev pub is_freer : Option Mode → Option Mode → Bool
is_freer o None = true
is_freer None (Some n) = false
is_freer (Some Clear) (Some n) = true
is_freer (Some Used) (Some n) = is_used n

abbrev pub meets_mode : Tables → List ModeClaim → ModeClaim → Action → List Symbol → Bool
meets_mode t claims c a ss =
    is_freer (production_mode t claims a ss Clear) (mode_after c Clear)
    && (is_freer (production_mode t claims a ss Used) (mode_after c Used)
    && (not c.quiet || (makes_none a && are_quiet t claims ss)))

abbrev pub all_modes : Tables → List ModeClaim → ℕ → List Rule → Bool
all_modes t claims p [] = true
all_modes t claims p (r ∷ rs) =
    meets_mode t claims (mode_claim_at claims r.left) (action_at t p) r.right && all_modes t claims (suc p) rs

abbrev pub is_some_mode : Option Mode → Bool
is_some_mode None = false
is_some_mode (Some m) = true

abbrev pub are_modes : Tables → List ModeClaim → Table → Bool
are_modes t claims g =
    all_modes t claims 0 g.rules && is_some_mode (mode_after (mode_claim_at claims g.start) Clear)
