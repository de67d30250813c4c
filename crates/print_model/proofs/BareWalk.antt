-- The walk over a forest with its printed tokens, where all places are 0: the steps are the walk's own.
use Rattle.std.specs.Prelude.{List, [], ◌∷◌, length}
use Rattle.token_core.specs.declared.token.Token.{Token}
use Rattle.ll_core.specs.Derives.{Forest, Nothing, Token as Leaf, Node}
use Rattle.text_model.specs.declared.action.Action.{Action}
use Rattle.text_model.specs.Tables.{Tables, action_at, meaning_of}
use Rattle.text_model.specs.Walk.{Walk, saved, entered, left, meant}
use Rattle.print_model.specs.Printed.{Printed}

-- a walk without places, and the printed tokens to come
pub record Bare : Type 0 where
  pub now : Walk
  pub rest : List Printed

-- the only token of its own text
abbrev pub token_of : Printed → Token
token_of p = record { kind = p.kind; from = 0; upto = length p.bytes }

-- a printed token is taken
abbrev pub said : Tables → Action → Printed → Walk → Walk
said t a p w = meant p.bytes a (meaning_of t p.kind) (token_of p) w

-- the next token is taken, if there is one
abbrev pub told : Tables → Action → List Printed → Walk → Bare
told t a [] w = record { now = w; rest = [] }
told t a (p ∷ ps) w = record { now = said t a p w; rest = ps }

-- a production ends
abbrev pub ended : Action → Walk → Bare → Bare
ended a w b = record b { now = left a (saved a w) b.now }

-- the walk over a forest with its printed tokens
abbrev pub bare_walk : Tables → Action → Forest → Bare → Bare
bare_walk t a Nothing b = b
bare_walk t a (Leaf k f) b = bare_walk t a f (told t a b.rest b.now)
bare_walk t a (Node p below f) b =
    bare_walk t a f (ended (action_at t p) b.now
    (bare_walk t (action_at t p) below (record { now = entered (action_at t p) b.now; rest = b.rest })))
