-- What words ask for: one qualified name, `QName = [ '$' '::' ] NAME { '::' NAME }`, lexed as SysML.
use Rattle.std.specs.Prelude.{◌≡◌, ◌≢◌, ℕ, Bool, true, false, ◌&&◌, cond, nat_eq, List, [], ◌∷◌, drop, codes, Option, Some, None, Result, Ok, Err}
use Rattle.std.specs.Option.{option_map, option_map_or}
use Rattle.element_store.specs.declared.outcome.Language.TheVariants.{Sysml}
use Rattle.token_core.specs.declared.token.Token.{Token}
use Rattle.token_core.specs.declared.token.TokenKind.{TokenKind}
use Rattle.token_core.specs.declared.token.TokenKind.TheVariants.{Name, Sign}
use Rattle.token_core.specs.declared.token.LexFault.{LexFault}
use Rattle.token_core.specs.declared.token.LexFault.TheVariants.{NoMemory}
use Rattle.token_core.specs.Lex.{Lexes}
use Rattle.token_core.specs.Reading.{bytes_of, name_meaning}
use Rattle.token_core.specs.Words.{place_in, signs}
use Rattle.book_model.specs.declared.asked_name.AskedName.{AskedName}

-- the token is a name
abbrev pub is_name : TokenKind → Bool
is_name Name = true
is_name other = false

-- the token is the sign that is spelt so
abbrev pub is_sign : List ℕ → TokenKind → Bool
is_sign spelling (Sign n) = option_map_or (nat_eq n) (place_in signs spelling) false
is_sign spelling other = false

-- NAME { '::' NAME }: what the names stand for, where the tokens are so. Behind a name stands `::`, or nothing.
abbrev pub path_from : Bool → List ℕ → List Token → Option (List (List ℕ))
path_from true words [] = Some []
path_from false words [] = None
path_from true words (t ∷ ts) = cond (is_sign (codes "::") t.kind) (path_from false words ts) None
path_from false words (t ∷ ts) = cond (is_name t.kind)
    (option_map (λ names. name_meaning (bytes_of words t) ∷ names) (path_from true words ts)) None

-- '$' '::' stands at the front
abbrev pub is_absolute : List Token → Bool
is_absolute (dollar ∷ colons ∷ more) = is_sign (codes "$") dollar.kind && is_sign (codes "::") colons.kind
is_absolute others = false

-- the tokens of the path
abbrev pub path_tokens : List Token → List Token
path_tokens tokens = cond (is_absolute tokens) (drop 2 tokens) tokens

-- the qualified name that the tokens of words are, if they are one
abbrev pub name_by : List ℕ → List Token → Option AskedName
name_by words tokens = option_map (λ path. record { absolute = is_absolute tokens; path = path })
    (path_from false words (path_tokens tokens))

-- words that the lexer refuses ask for nothing
abbrev pub asked_by : List ℕ → Result (List Token) LexFault → Option AskedName
asked_by words (Ok tokens) = name_by words tokens
asked_by words (Err fault) = None

-- WHAT WORDS ASK FOR: the qualified name that they are as SysML; or nothing, and they are a bad name
pub record AskFor (words : List ℕ) (name : Option AskedName) : Type 0 where
  pub lexed : Result (List Token) LexFault
  pub lexes : Lexes Sysml words lexed
  pub answered : lexed ≢ Err NoMemory
  pub stands : name ≡ asked_by words lexed
