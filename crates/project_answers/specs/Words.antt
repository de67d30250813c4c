-- A qualified name that words are, and the way to it.
use Rattle.std.specs.Prelude.{◌≡◌, ℕ, ◌<◌, All, Bool, cond, not, List, ◌∷◌, ◌++◌, length, Option, None}
use Rattle.std.specs.Option.{option_map}
use Rattle.token_core.specs.declared.token.Token.{Token}
use Rattle.token_core.specs.Reading.{IsSpellable}
use Rattle.book_model.specs.declared.asked_name.AskedName.{AskedName}
use Rattle.book_model.specs.AskedNames.{path_from}

-- it has a segment at least and fewer than 2^32, and each of them can be spelt
pub record IsGoodName (name : AskedName) : Type 0 where
  pub some : 0 < length name.path
  pub few : length name.path < 4294967296
  pub spellable : All IsSpellable name.path

-- the whole path, of which these names were read, if tokens go on so
abbrev pub path_behind : List (List ℕ) → Bool → List ℕ → List Token → Option (List (List ℕ))
path_behind names named words tokens = option_map (λ more. names ++ more) (path_from named words tokens)

-- the token was read, and the path goes on behind it; or it doesn't fit there, and the tokens are no path
abbrev pub Takes : List ℕ → Token → Bool → List (List ℕ) → List (List ℕ) → Bool → Type 0
Takes words t named old new fits = (rest : List Token)
    → path_behind old named words (t ∷ rest) ≡ cond fits (path_behind new (not named) words rest) None
