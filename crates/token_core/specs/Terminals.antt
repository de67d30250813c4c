-- The numbers of the kinds of tokens in the tables of grammars.
use Rattle.std.specs.Prelude.{ℕ, ◌+◌, ◌<◌}
use Rattle.token_core.specs.declared.token.TokenKind.{TokenKind}
use Rattle.token_core.specs.declared.token.TokenKind.TheVariants.{Name, Integer, Quote, Comment, Sign, Word}

-- the four kinds without a list, then the signs, then the words
abbrev pub terminal : TokenKind → ℕ
terminal Name = 0
terminal Integer = 1
terminal Quote = 2
terminal Comment = 3
terminal (Sign n) = 4 + n
terminal (Word n) = 260 + n

-- the number of a sign or word fits a byte
abbrev pub HasNumber : TokenKind → Type 0
HasNumber (Sign n) = n < 256
HasNumber (Word n) = n < 256
HasNumber _ = Unit {0}
