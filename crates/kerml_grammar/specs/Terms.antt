-- Productions, and terminals by their spellings.
use Prim.Native.String.{String}
use Rattle.std.specs.Prelude.{ℕ, ◌+◌, List, unwrap_or, codes}
use Rattle.element_store.specs.declared.outcome.Language.TheVariants.{Kerml}
use Rattle.token_core.specs.Words.{signs, words, place_in}
use Rattle.ll_core.specs.declared.grammar.Symbol.{Symbol}
use Rattle.ll_core.specs.declared.grammar.Symbol.TheVariants.{Terminal}
use Rattle.ll_core.specs.Table.{Rule}

abbrev pub rule : ℕ → List Symbol → Rule
rule left right = record { left = left; right = right }

-- the sign that is spelt so
unfoldable pub sign : String → Symbol
sign text = Terminal (4 + unwrap_or (place_in signs (codes text)) 0)

-- the reserved word that is spelt so
unfoldable pub word : String → Symbol
word text = Terminal (260 + unwrap_or (place_in (words Kerml) (codes text)) 0)
