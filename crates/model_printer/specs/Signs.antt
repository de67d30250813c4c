-- The bytes of signs.
use Rattle.std.specs.Prelude.{ℕ, Bool, true, false, List, codes}
use Rattle.model_printer.specs.declared.signs.Sign.{Sign}
use Rattle.model_printer.specs.declared.signs.Sign.TheVariants.{OpenBrace, CloseBrace, OpenBracket, CloseBracket, OpenParen, CloseParen, Less, Greater, Semicolon, Comma, Dot, Dots, Colon, ColonColon, Subsets, Redefines, References, Assigned, Equal, NotEqual, AtMost, AtLeast, Plus, Minus, Star, StarStar, Slash, Percent, Amp, Bar, Dollar, Question}

-- how a sign is spelt
abbrev pub sign_bytes : Sign → List ℕ
sign_bytes OpenBrace = codes "{"
sign_bytes CloseBrace = codes "}"
sign_bytes OpenBracket = codes "["
sign_bytes CloseBracket = codes "]"
sign_bytes OpenParen = codes "("
sign_bytes CloseParen = codes ")"
sign_bytes Less = codes "<"
sign_bytes Greater = codes ">"
sign_bytes Semicolon = codes ";"
sign_bytes Comma = codes ","
sign_bytes Dot = codes "."
sign_bytes Dots = codes ".."
sign_bytes Colon = codes ":"
sign_bytes ColonColon = codes "::"
sign_bytes Subsets = codes ":>"
sign_bytes Redefines = codes ":>>"
sign_bytes References = codes "::>"
sign_bytes Assigned = codes "="
sign_bytes Equal = codes "=="
sign_bytes NotEqual = codes "!="
sign_bytes AtMost = codes "<="
sign_bytes AtLeast = codes ">="
sign_bytes Plus = codes "+"
sign_bytes Minus = codes "-"
sign_bytes Star = codes "*"
sign_bytes StarStar = codes "**"
sign_bytes Slash = codes "/"
sign_bytes Percent = codes "%"
sign_bytes Amp = codes "&"
sign_bytes Bar = codes "|"
sign_bytes Dollar = codes "$"
sign_bytes Question = codes "?"

-- no space stands behind the sign
abbrev pub opens_sign : Sign → Bool
opens_sign OpenBracket = true
opens_sign OpenParen = true
opens_sign Dollar = true
opens_sign ColonColon = true
opens_sign Dot = true
opens_sign Dots = true
opens_sign other = false

-- no space stands before the sign
abbrev pub closes_sign : Sign → Bool
closes_sign Semicolon = true
closes_sign Comma = true
closes_sign CloseBracket = true
closes_sign CloseParen = true
closes_sign ColonColon = true
closes_sign Dot = true
closes_sign Dots = true
closes_sign other = false
