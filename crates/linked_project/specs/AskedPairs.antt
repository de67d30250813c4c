-- What words ask for where a second name may stand: one qualified name, or two with the word `in` between them,
-- `QName [ 'in' QName ]`, lexed as SysML; and how they are spelt.
use Rattle.std.specs.Prelude.{◌≡◌, ◌≢◌, ℕ, ◌+◌, Bool, false, nat_eq, All, List, [], ◌++◌, codes, drop, take, Option, Some, None, IfSome, Result, Ok, Err}
use Rattle.std.specs.List.{position}
use Rattle.std.specs.Option.{option_map, option_map_or}
use Rattle.element_store.specs.declared.outcome.Language.TheVariants.{Sysml}
use Rattle.token_core.specs.declared.token.Token.{Token}
use Rattle.token_core.specs.declared.token.TokenKind.{TokenKind}
use Rattle.token_core.specs.declared.token.TokenKind.TheVariants.{Word}
use Rattle.token_core.specs.declared.token.LexFault.{LexFault}
use Rattle.token_core.specs.declared.token.LexFault.TheVariants.{NoMemory}
use Rattle.token_core.specs.Lex.{Lexes}
use Rattle.token_core.specs.Reading.{IsSpellable}
use Rattle.token_core.specs.Words.{place_in, words}
use Rattle.book_model.specs.declared.asked_name.AskedName.{AskedName}
use Rattle.book_model.specs.AskedNames.{name_by}
use Rattle.book_model.specs.Spelling.{written_name}
use Rattle.linked_project.specs.declared.asked_pair.AskedPair.{AskedPair}

-- the token is the word `in`
abbrev pub is_in : TokenKind → Bool
is_in (Word n) = option_map_or (nat_eq n) (place_in (words Sysml) (codes "in")) false
is_in other = false

-- where the first word `in` stands
abbrev pub place_of_in : List Token → Option ℕ
place_of_in tokens = position (λ t. is_in t.kind) tokens

-- one name alone
abbrev pub alone : AskedName → AskedPair
alone name = record { name = name; target = None }

-- two names, where both are names
abbrev pub both : Option AskedName → Option AskedName → Option AskedPair
both (Some name) (Some target) = Some (record { name = name; target = Some target })
both (Some name) None = None
both None target = None

-- the names before that place and behind it, or the one name
abbrev pub pair_at : List ℕ → List Token → Option ℕ → Option AskedPair
pair_at words tokens None = option_map alone (name_by words tokens)
pair_at words tokens (Some place) = both (name_by words (take place tokens)) (name_by words (drop (place + 1) tokens))

-- what the tokens of words ask for
abbrev pub pair_by : List ℕ → List Token → Option AskedPair
pair_by words tokens = pair_at words tokens (place_of_in tokens)

-- words that the lexer refuses ask for nothing
abbrev pub pair_asked_by : List ℕ → Result (List Token) LexFault → Option AskedPair
pair_asked_by words (Ok tokens) = pair_by words tokens
pair_asked_by words (Err fault) = None

-- WHAT WORDS ASK FOR: one name or two; or nothing, and they are a bad name
pub record AskForPair (words : List ℕ) (pair : Option AskedPair) : Type 0 where
  pub lexed : Result (List Token) LexFault
  pub lexes : Lexes Sysml words lexed
  pub answered : lexed ≢ Err NoMemory
  pub stands : pair ≡ pair_asked_by words lexed

-- the canonical spelling of a qualified name
abbrev pub spelt_name : AskedName → List ℕ
spelt_name name = written_name Sysml name.absolute name.path []

-- and of what stands behind it
abbrev pub spelt_target : Option AskedName → List ℕ
spelt_target None = []
spelt_target (Some target) = codes " in " ++ spelt_name target

-- THE CANONICAL SPELLING of what words ask for
abbrev pub spelt_pair : AskedPair → List ℕ
spelt_pair pair = spelt_name pair.name ++ spelt_target pair.target

-- each name can be spelt
abbrev pub IsSpellableName : AskedName → Type 0
IsSpellableName name = All IsSpellable name.path

-- both can
abbrev pub IsSpellablePair : AskedPair → Type 0
IsSpellablePair pair = IsSpellableName pair.name × IfSome pair.target IsSpellableName
