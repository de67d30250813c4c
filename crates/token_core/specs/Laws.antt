-- What holds of every text.
use Rattle.std.specs.Prelude.{◌≡◌, ◌≢◌, ℕ, List, length, Result, Ok, Err}
use Rattle.element_store.specs.declared.outcome.Language.{Language}
use Rattle.token_core.specs.declared.token.Token.{Token}
use Rattle.token_core.specs.declared.token.LexFault.{LexFault}
use Rattle.token_core.specs.declared.token.LexFault.TheVariants.{NoMemory}
use Rattle.token_core.specs.Lex.{Lexes, StandApart}

-- a text has one lexing: two answers of which neither is want of memory are the same
abbrev pub OneLexing : Type 0
OneLexing =
    (language : Language) (text : List ℕ) (a b : Result (List Token) LexFault)
    → Lexes language text a → Lexes language text b → a ≢ Err NoMemory → b ≢ Err NoMemory → a ≡ b

-- the tokens of a text stand apart and in rising place within it
abbrev pub TokensRise : Type 0
TokensRise =
    (language : Language) (text : List ℕ) (tokens : List Token)
    → Lexes language text (Ok tokens) → StandApart 0 tokens (length text)
