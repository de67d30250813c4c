-- Which texts have a model, which, and the fault of each other text.
use Rattle.std.specs.Prelude.{◌≡◌, ℕ, zero, suc, Option, Some, None, Result, Ok, Err, List, [], ◌∷◌, map, length, slice_get}
use Rattle.element_store.specs.declared.numbers.FileNo.{FileNo}
use Rattle.element_store.specs.declared.kind.Kind.TheVariants.{Root}
use Rattle.element_store.specs.declared.outcome.Language.{Language}
use Rattle.element_store.specs.Model.{Data}
use Rattle.token_core.specs.declared.token.Token.{Token}
use Rattle.token_core.specs.declared.token.LexFault.TheVariants as lexer
use Rattle.token_core.specs.Lex.{Lexes}
use Rattle.token_core.specs.Terminals.{terminal}
use Rattle.ll_core.specs.Derives.{Forest, IsTree, IsSyntaxPlace}
use Rattle.text_model.specs.declared.action.Action.TheVariants.{Group}
use Rattle.text_model.specs.declared.fault.FileFault.{FileFault}
use Rattle.text_model.specs.declared.fault.FileFault.TheVariants.{Encoding, Token as BadToken, TooDeep, Syntax, Limit, NoMemory}
use Rattle.text_model.specs.Languages.{grammar_of}
use Rattle.text_model.specs.Tables.{tables}
use Rattle.text_model.specs.Drafts.{draft}
use Rattle.text_model.specs.Walk.{Walk, fresh, walk, next_place}
use Rattle.text_model.specs.Numbering.{model_of, limits, least}

abbrev pub kinds_of : List Token → List ℕ
kinds_of tokens = map (λ t. terminal t.kind) tokens

-- before the first token: the root alone
abbrev pub start : List Token → Walk
start tokens = record {
  elements = draft Root None ∷ [];
  members = [];
  imports = [];
  current = 0;
  waiting = None;
  reading = fresh;
  large = [];
  rest = tokens;
}

abbrev pub drafts_of : Language → List ℕ → List Token → Forest → Walk
drafts_of language text tokens f = walk (tables language) text Group f (start tokens)

-- the tokens and the tree of a text
pub record IsRead (language : Language) (text : List ℕ) (tokens : List Token) (f : Forest) : Type 0 where
  pub lexed : Lexes language text (Ok tokens)
  pub derived : IsTree (grammar_of language) (kinds_of tokens) f

-- the text is within the profile, with this model
pub record InProfile (file : FileNo) (language : Language) (text : List ℕ) (d : Data) : Type 0 where
  pub tokens : List Token
  pub tree : Forest
  pub read : IsRead language text tokens tree
  pub within : limits (drafts_of language text tokens tree) ≡ []
  pub model : d ≡ model_of file language (drafts_of language text tokens tree)

-- the place of a token by its number, or the end of the text
abbrev pub token_place : List ℕ → List Token → ℕ → ℕ
token_place text [] n = length text
token_place text (t ∷ ts) zero = t.from
token_place text (t ∷ ts) (suc n) = token_place text ts n

-- the fault of a text, with its place
abbrev pub IsFaultOf : Language → List ℕ → FileFault → Type 0
IsFaultOf language text (Encoding place) = Lexes language text (Err (lexer.Encoding place))
IsFaultOf language text (BadToken place) = Lexes language text (Err (lexer.Token place))
IsFaultOf language text (TooDeep place) = Lexes language text (Err (lexer.TooDeep place))
IsFaultOf language text (Syntax place) =
    (tokens : List Token) × (n : ℕ) × Lexes language text (Ok tokens)
    × IsSyntaxPlace (grammar_of language) (kinds_of tokens) n × (place ≡ token_place text tokens n)
IsFaultOf language text (Limit place) =
    (tokens : List Token) × (f : Forest) × IsRead language text tokens f
    × (least (limits (drafts_of language text tokens f)) ≡ Some place)
IsFaultOf language text NoMemory = Unit {0}
