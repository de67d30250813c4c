-- The piece at the front of a text as the lexer finds it, by its first bytes, and how it looks for a word or a sign.
use Rattle.std.specs.Prelude.{ℕ, suc, ◌+◌, ◌≤◌, nat_le, ◌≡◌, ◌==◌, ◌&&◌, not, Bool, true, false, cond}
use Rattle.std.specs.Prelude.{List, [], ◌∷◌, length, take, drop, get_or, codes, Option, Some, None, option_map}
use Rattle.std.specs.List.{prefix_len, list_all, list_any, range_with_len}
use Rattle.element_store.specs.declared.outcome.Language.{Language}
use Rattle.token_core.specs.declared.token.TokenKind.TheVariants.{Name, Integer, Quote, Comment, Sign, Word}
use Rattle.token_core.specs.declared.token.PieceKind.{PieceKind}
use Rattle.token_core.specs.declared.token.PieceKind.TheVariants.{Space, LineNote, BlockNote, Token}
use Rattle.token_core.specs.declared.pieces.Found.{Found}
use Rattle.token_core.specs.declared.pieces.ByteClass.{ByteClass}
use Rattle.token_core.specs.declared.pieces.ByteClass.TheVariants as class
use Rattle.token_core.specs.Bytes.{byte, backslash, name_quote, slash, star, text_quote}
use Rattle.token_core.specs.Bytes.{is_space, is_digit, is_letter, is_word, is_in_line, is_plain, is_escape}
use Rattle.token_core.specs.Words.{signs, words, place_in}

abbrev pub class_of : ℕ → ByteClass
class_of b =
    cond (is_space b) class.Blank (
    cond (is_letter b) class.Letter (
    cond (is_digit b) class.Digit (
    cond (b == name_quote) class.NameQuote (
    cond (b == text_quote) class.TextQuote (cond (b == slash) class.Slash class.Other)))))

abbrev pub found_of : PieceKind → ℕ → Found
found_of kind size = record { kind = kind; length = size }

abbrev pub begins : ℕ → List ℕ → Bool
begins b [] = false
begins b (c ∷ cs) = c == b

-- how many bytes there are up to and with the first `*/`; `starred` where a `*` stands before the bytes
abbrev pub close_end : Bool → List ℕ → Option ℕ
close_end starred [] = None
close_end starred (b ∷ bs) = cond (starred && (b == slash)) (Some 1) (option_map suc (close_end (b == star) bs))

-- how many bytes there are up to and with the closing quote; `escaped` where a backslash stands before the bytes
abbrev pub quote_end : ℕ → Bool → List ℕ → Option ℕ
quote_end quote escaped [] = None
quote_end quote true (b ∷ bs) = cond (is_escape b) (option_map suc (quote_end quote false bs)) None
quote_end quote false (b ∷ bs) =
    cond (b == quote) (Some 1) (
    cond (b == backslash) (option_map suc (quote_end quote true bs)) (
    cond (is_plain quote b) (option_map suc (quote_end quote false bs)) None))

abbrev pub kind_of_number : Option ℕ → PieceKind
kind_of_number None = Token Name
kind_of_number (Some n) = Token (Word n)

abbrev pub word_kind : Language → List ℕ → PieceKind
word_kind language bytes = kind_of_number (place_in (words language) bytes)

abbrev pub word_at : Language → List ℕ → Found
word_at language text = found_of (word_kind language (take (prefix_len is_word text) text)) (prefix_len is_word text)

-- the sign of exactly so many bytes at the front
abbrev pub sign_of : ℕ → List ℕ → Option Found
sign_of size text =
    cond (nat_le size (length text))
    (option_map (λ n. found_of (Token (Sign n)) size) (place_in signs (take size text)))
    None

abbrev pub first_of_two : Option Found → Option Found → Option Found
first_of_two None other = other
first_of_two (Some f) other = Some f

-- no sign has more than three bytes
abbrev pub sign_at : List ℕ → Option Found
sign_at text = first_of_two (sign_of 3 text) (first_of_two (sign_of 2 text) (sign_of 1 text))

abbrev pub quoted_at : PieceKind → ℕ → List ℕ → Option Found
quoted_at kind quote text = option_map (λ n. found_of kind (1 + n)) (quote_end quote false (drop 1 text))

-- after `//`
abbrev pub note_at : List ℕ → Option Found
note_at text =
    cond (begins star text)
    (option_map (λ n. found_of BlockNote (3 + n)) (close_end false (drop 1 text)))
    (Some (found_of LineNote (2 + prefix_len is_in_line text)))

abbrev pub slash_at : List ℕ → Option Found
slash_at text =
    cond (begins slash (drop 1 text)) (note_at (drop 2 text)) (
    cond (begins star (drop 1 text))
    (option_map (λ n. found_of (Token Comment) (2 + n)) (close_end false (drop 2 text)))
    (sign_at text))

abbrev pub found_by : Language → ByteClass → List ℕ → Option Found
found_by language class.Blank text = Some (found_of Space (prefix_len is_space text))
found_by language class.Letter text = Some (word_at language text)
found_by language class.Digit text = Some (found_of (Token Integer) (prefix_len is_digit text))
found_by language class.NameQuote text = quoted_at (Token Name) name_quote text
found_by language class.TextQuote text = quoted_at (Token Quote) text_quote text
found_by language class.Slash text = slash_at text
found_by language class.Other text = sign_at text

abbrev pub found : Language → List ℕ → Option Found
found language [] = None
found language (b ∷ bs) = found_by language (class_of b) (b ∷ bs)

-- a sign may have the byte behind its first
abbrev pub goes_on : ℕ → Bool
goes_on b = list_any (λ c. b == c) (codes ".:>=*@?")

-- no word of the list begins with the byte
abbrev pub none_begins : ℕ → List (List ℕ) → Bool
none_begins b list = list_all (λ word. not (begins b word)) list

-- the words that begin with the byte stand in the list from one place up to another
abbrev pub is_part : List (List ℕ) → ℕ → ℕ → ℕ → Bool
is_part list b from upto =
    nat_le from upto
    && (nat_le upto (length list) && (none_begins b (take from list) && none_begins b (drop upto list)))

-- for each letter in turn the place at which its words begin, and those of the letter before end; at last the end
unfoldable pub are_starts : List (List ℕ) → List ℕ → Bool
are_starts list starts =
    (length starts == 27)
    && list_all
    (λ k. is_part list (byte "a" + k) (get_or starts k 0) (get_or starts (k + 1) 0))
    (range_with_len 0 26)

-- words of a list, from a place on, are enough to look for what begins with the byte
pub record IsPartFor (list : List (List ℕ)) (first from : ℕ) (part : List (List ℕ)) : Type 0 where
  pub within : from + length part ≤ length list
  pub enough :
      (more : List ℕ)
      → place_in list (first ∷ more) ≡ option_map (λ n. from + n) (place_in part (first ∷ more))
