-- Tokens as they are printed, each with its bytes; no space stands behind one that is tight.
use Rattle.std.specs.Prelude.{ℕ, Bool, true, false, List, ◌++◌, codes}
use Rattle.std.specs.Option.{unwrap_or}
use Rattle.element_store.specs.declared.outcome.Language.{Language}
use Rattle.token_core.specs.declared.token.TokenKind.{TokenKind}
use Rattle.token_core.specs.declared.token.TokenKind.TheVariants.{Name, Integer, Quote, Comment, Sign, Word}
use Rattle.token_core.specs.Words.{signs, words, place_in}
use Rattle.token_core.specs.Spelling.{name_spelling, string_spelling}

-- a token with its bytes; no space stands behind it where it is tight
pub record Printed : Type 0 where
  pub kind : TokenKind
  pub bytes : List ℕ
  pub tight : Bool

-- the sign with these bytes
abbrev pub sign : List ℕ → Printed
sign bytes = record { kind = Sign (unwrap_or (place_in signs bytes) 0); bytes = bytes; tight = false }

-- the reserved word with these bytes
abbrev pub word : Language → List ℕ → Printed
word language bytes = record {
  kind = Word (unwrap_or (place_in (words language) bytes) 0);
  bytes = bytes;
  tight =
      false;
}

-- a name, quoted where it has to be
abbrev pub name : Language → List ℕ → Printed
name language bytes = record { kind = Name; bytes = name_spelling language bytes; tight = false }

-- a string
abbrev pub text : List ℕ → Printed
text bytes = record { kind = Quote; bytes = string_spelling bytes; tight = false }

-- a number as it is written
abbrev pub number : List ℕ → Printed
number bytes = record { kind = Integer; bytes = bytes; tight = false }

-- a comment in its marks
abbrev pub note : List ℕ → Printed
note bytes = record { kind = Comment; bytes = codes "/*" ++ (bytes ++ codes "*/"); tight = false }

-- the same token, with no space behind it
abbrev pub tightly : Printed → Printed
tightly p = record p { tight = true }

-- what reading sees of it
abbrev pub heard : Printed → Printed
heard p = record p { tight = false }
