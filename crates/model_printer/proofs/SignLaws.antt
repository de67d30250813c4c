-- On which side of a sign no space stands.
use Rattle.std.proofs.Common.{◌≡◌, refl}
use Rattle.model_printer.specs.declared.signs.Sign.{Sign}
use Rattle.model_printer.specs.declared.signs.Sign.TheVariants as sign
use Rattle.model_printer.specs.Sheets.{closes, opens}
use Rattle.model_printer.specs.Signs.{sign_bytes, opens_sign, closes_sign}

-- before it
pub sign_closes : (s : Sign) → closes (sign_bytes s) ≡ closes_sign s
sign_closes sign.OpenBrace = refl
sign_closes sign.CloseBrace = refl
sign_closes sign.OpenBracket = refl
sign_closes sign.CloseBracket = refl
sign_closes sign.OpenParen = refl
sign_closes sign.CloseParen = refl
sign_closes sign.Less = refl
sign_closes sign.Greater = refl
sign_closes sign.Semicolon = refl
sign_closes sign.Comma = refl
sign_closes sign.Dot = refl
sign_closes sign.Dots = refl
sign_closes sign.Colon = refl
sign_closes sign.ColonColon = refl
sign_closes sign.Subsets = refl
sign_closes sign.Redefines = refl
sign_closes sign.References = refl
sign_closes sign.Assigned = refl
sign_closes sign.Equal = refl
sign_closes sign.NotEqual = refl
sign_closes sign.AtMost = refl
sign_closes sign.AtLeast = refl
sign_closes sign.Plus = refl
sign_closes sign.Minus = refl
sign_closes sign.Star = refl
sign_closes sign.StarStar = refl
sign_closes sign.Slash = refl
sign_closes sign.Percent = refl
sign_closes sign.Amp = refl
sign_closes sign.Bar = refl
sign_closes sign.Dollar = refl
sign_closes sign.Question = refl

-- behind it
pub sign_opens : (s : Sign) → opens (sign_bytes s) ≡ opens_sign s
sign_opens sign.OpenBrace = refl
sign_opens sign.CloseBrace = refl
sign_opens sign.OpenBracket = refl
sign_opens sign.CloseBracket = refl
sign_opens sign.OpenParen = refl
sign_opens sign.CloseParen = refl
sign_opens sign.Less = refl
sign_opens sign.Greater = refl
sign_opens sign.Semicolon = refl
sign_opens sign.Comma = refl
sign_opens sign.Dot = refl
sign_opens sign.Dots = refl
sign_opens sign.Colon = refl
sign_opens sign.ColonColon = refl
sign_opens sign.Subsets = refl
sign_opens sign.Redefines = refl
sign_opens sign.References = refl
sign_opens sign.Assigned = refl
sign_opens sign.Equal = refl
sign_opens sign.NotEqual = refl
sign_opens sign.AtMost = refl
sign_opens sign.AtLeast = refl
sign_opens sign.Plus = refl
sign_opens sign.Minus = refl
sign_opens sign.Star = refl
sign_opens sign.StarStar = refl
sign_opens sign.Slash = refl
sign_opens sign.Percent = refl
sign_opens sign.Amp = refl
sign_opens sign.Bar = refl
sign_opens sign.Dollar = refl
sign_opens sign.Question = refl
