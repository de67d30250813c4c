-- What a parser's stack stands for. Proofs alone speak of it.
use Rattle.std.specs.Prelude.{◌≡◌, ◌⊎◌, ℕ, ◌+◌, ◌*◌, ◌^◌, ◌<◌, max, true, Option, Some, None, List, [], ◌∷◌, ◌++◌, slice_get, cond, length}
use Rattle.ll_core.specs.declared.grammar.Symbol.{Symbol}
use Rattle.ll_core.specs.declared.grammar.Symbol.TheVariants.{Terminal, Inner}
use Rattle.ll_core.specs.declared.event.Event.{Event}
use Rattle.ll_core.specs.declared.event.Event.TheVariants.{Open, Shift, Close}
use Rattle.ll_core.specs.declared.stack.Task.{Task}
use Rattle.ll_core.specs.declared.stack.Task.TheVariants.{Match, Expand, Close as Close'}
use Rattle.ll_core.specs.Table.{Rule, Table}
use Rattle.ll_core.specs.Derives.{Forest, IsDerivation, tokens, preorder, IsTree}
use Rattle.linker_base.specs.Members.{IsMember}
use Rattle.ll_core.specs.Checked.{empty_of, first_of, follow_of, rank_of}

-- the tasks of a right side, before others
abbrev pub tasks : List Symbol → List Task → List Task
tasks [] s = s
tasks (Terminal k ∷ ss) s = Match k ∷ tasks ss s
tasks (Inner a ∷ ss) s = Expand a ∷ tasks ss s

-- what is still to come of a tree
pub data Rest : Type 0 where
  Done : Rest
  Next : (kind : ℕ) (rest : Rest) → Rest
  Below : (rule : ℕ) (below : Forest) (rest : Rest) → Rest
  Up : (rest : Rest) → Rest

-- it is what the stack asks for
abbrev pub Completes : Table → List Task → Rest → Type 0
Completes t [] Done = Unit {0}
Completes t [] (Next k c) = ⊥
Completes t [] (Below p f c) = ⊥
Completes t [] (Up c) = ⊥
Completes t (Match k ∷ s) Done = ⊥
Completes t (Match k ∷ s) (Next j c) = (j ≡ k) × Completes t s c
Completes t (Match k ∷ s) (Below p f c) = ⊥
Completes t (Match k ∷ s) (Up c) = ⊥
Completes t (Expand a ∷ s) Done = ⊥
Completes t (Expand a ∷ s) (Next j c) = ⊥
Completes t (Expand a ∷ s) (Below p f c) =
    ((r : Rule) × (slice_get t.rules p ≡ Some r) × (r.left ≡ a) × IsDerivation t r.right f) × Completes t s c
Completes t (Expand a ∷ s) (Up c) = ⊥
Completes t (Close' ∷ s) Done = ⊥
Completes t (Close' ∷ s) (Next j c) = ⊥
Completes t (Close' ∷ s) (Below p f c) = ⊥
Completes t (Close' ∷ s) (Up c) = Completes t s c

abbrev pub tokens_left : Rest → List ℕ
tokens_left Done = []
tokens_left (Next k c) = k ∷ tokens_left c
tokens_left (Below p f c) = tokens f ++ tokens_left c
tokens_left (Up c) = tokens_left c

abbrev pub events_left : Rest → List Event
events_left Done = []
events_left (Next k c) = Shift ∷ events_left c
events_left (Below p f c) = Open p ∷ preorder f ++ Close ∷ events_left c
events_left (Up c) = Close ∷ events_left c

-- what may come next by the claims, 65,535 for the end
abbrev pub MayCome : Table → List Task → ℕ → Type 0
MayCome t [] k = k ≡ 65535
MayCome t (Match j ∷ s) k = k ≡ j
MayCome t (Expand a ∷ s) k = IsMember (first_of t a) k ⊎ ((empty_of t a ≡ true) × MayCome t s k)
MayCome t (Close' ∷ s) k = MayCome t s k

-- what may come behind each symbol to expand is claimed to follow it
abbrev pub IsFollowed : Table → List Task → Type 0
IsFollowed t [] = Unit {0}
IsFollowed t (Match k ∷ s) = IsFollowed t s
IsFollowed t (Expand a ∷ s) = ((k : ℕ) → MayCome t s k → IsMember (follow_of t a) k) × IsFollowed t s
IsFollowed t (Close' ∷ s) = IsFollowed t s

-- the first of the tokens, or 65,535 where there is none
abbrev pub next_of : List ℕ → ℕ
next_of [] = 65535
next_of (k ∷ ks) = k

-- the tokens to come agree with what is known of the next
abbrev pub Agrees : Option (Option ℕ) → List ℕ → Type 0
Agrees None ks = Unit {0}
Agrees (Some None) ks = ks ≡ []
Agrees (Some (Some k)) [] = ⊥
Agrees (Some (Some k)) (j ∷ ks) = j ≡ k

-- each way to complete the stack gives a tree
abbrev pub IsSound : Table → List Event → List ℕ → List Task → Type 0
IsSound t given shifted stack =
    (c : Rest) → Completes t stack c
    → (f : Forest) × IsTree t (shifted ++ tokens_left c) f × (preorder f ≡ given ++ events_left c)

-- each tree whose tokens go on so is one of these
abbrev pub IsComplete : Table → List Event → List ℕ → Option (Option ℕ) → List Task → Type 0
IsComplete t given shifted ahead stack =
    (f : Forest) (ks : List ℕ) → IsTree t (shifted ++ ks) f → Agrees ahead ks
    → (c : Rest) × Completes t stack c × (tokens_left c ≡ ks) × (preorder f ≡ given ++ events_left c)

-- the next token as a look-ahead
abbrev pub look_code : Option ℕ → ℕ
look_code None = 65535
look_code (Some k) = k

-- the numbers on the stack are in range
abbrev pub IsNumbered : ℕ → List Task → Type 0
IsNumbered count [] = Unit {0}
IsNumbered count (Match k ∷ s) = (k < 65535) × IsNumbered count s
IsNumbered count (Expand a ∷ s) = (a < count) × IsNumbered count s
IsNumbered count (Close' ∷ s) = IsNumbered count s

-- two more than the longest right side has
abbrev pub widest : List Rule → ℕ
widest [] = 2
widest (r ∷ rs) = max (length r.right + 2) (widest rs)

-- a number that each step but a shift makes smaller
abbrev pub effort : Table → List Task → ℕ
effort t [] = 0
effort t (Match k ∷ s) = 0
effort t (Expand a ∷ s) = 2 ^ (widest t.rules * (rank_of t a + 1)) + cond (empty_of t a) (effort t s) 0
effort t (Close' ∷ s) = 1 + effort t s

-- what a parser keeps of its stack: the tokens that were shifted and the stack stand for the same trees, what may
-- follow each symbol is claimed to follow it, and the numbers are in range
pub record IsAt (t : Table) (given : List Event) (shifted : List ℕ) (ahead : Option (Option ℕ))
    (stack : List Task) : Type 0 where
  pub sound : IsSound t given shifted stack
  pub complete : IsComplete t given shifted ahead stack
  pub followed : IsFollowed t stack
  pub numbered : IsNumbered (length t.empty) stack
