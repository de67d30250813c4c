-- The canonical spelling of names and texts.
use Rattle.std.specs.Prelude.{ℕ, Bool, false, ◌==◌, ◌&&◌, cond, List, [], ◌∷◌, ◌++◌, length, Ok}
use Rattle.std.specs.Prelude.{Option, Some, None, is_none}
use Rattle.std.specs.List.{list_all}
use Rattle.element_store.specs.declared.outcome.Language.{Language}
use Rattle.token_core.specs.declared.token.TokenKind.{TokenKind}
use Rattle.token_core.specs.declared.token.TokenKind.TheVariants.{Quote}
use Rattle.token_core.specs.Bytes.{backslash, backspace, byte, form_feed, line_feed, name_quote, tab, text_quote}
use Rattle.token_core.specs.Bytes.{is_letter, is_word}
use Rattle.token_core.specs.Lex.{Lexes}
use Rattle.token_core.specs.Words.{words, place_in}

-- the letter of the escape by which the byte is written between these quotes, if it isn't written as it is
abbrev pub escape_letter : ℕ → ℕ → Option ℕ
escape_letter quote b =
    cond (b == backspace) (Some (byte "b")) (
    cond (b == tab) (Some (byte "t")) (
    cond (b == line_feed) (Some (byte "n")) (
    cond (b == form_feed) (Some (byte "f")) (
    cond (b == backslash) (Some backslash) (cond (b == quote) (Some quote) None)))))

abbrev pub written : ℕ → Option ℕ → List ℕ
written b None = b ∷ []
written b (Some letter) = backslash ∷ letter ∷ []

-- the bytes as they are written, and the closing quote
abbrev pub spelt : ℕ → List ℕ → List ℕ
spelt quote [] = quote ∷ []
spelt quote (b ∷ bs) = written b (escape_letter quote b) ++ spelt quote bs

abbrev pub quoted : ℕ → List ℕ → List ℕ
quoted quote bytes = quote ∷ spelt quote bytes

abbrev pub is_basic_name : List ℕ → Bool
is_basic_name [] = false
is_basic_name (b ∷ bs) = is_letter b && list_all is_word bs

-- without quotes where it is a basic name and no reserved word
abbrev pub name_spelling : Language → List ℕ → List ℕ
name_spelling language name =
    cond (is_basic_name name && is_none (place_in (words language) name)) name (quoted name_quote name)

abbrev pub string_spelling : List ℕ → List ℕ
string_spelling text = quoted text_quote text

-- the text is one token of this kind, and nothing besides
abbrev pub IsOneToken : Language → TokenKind → List ℕ → Type 0
IsOneToken language kind text = Lexes language text (Ok (record { kind = kind; from = 0; upto = length text } ∷ []))

-- the text is one string in both languages, and nothing besides
abbrev pub IsOneString : List ℕ → Type 0
IsOneString text = (language : Language) → IsOneToken language Quote text
