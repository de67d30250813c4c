-- What it means that a printed expression is read back, and that a printed text is cut at its tokens.
use Rattle.std.specs.Prelude.{◌≡◌, ℕ, Some, None, List, [], ◌∷◌, ◌++◌, map}
use Rattle.element_store.specs.declared.outcome.Language.{Language}
use Rattle.element_store.specs.declared.outcome.Language.TheVariants.{Kerml, Sysml}
use Rattle.token_core.specs.declared.token.Token.{Token}
use Rattle.token_core.specs.Lex.{Lex}
use Rattle.token_core.specs.Terminals.{terminal}
use Rattle.ll_core.specs.declared.grammar.Symbol.TheVariants.{Inner}
use Rattle.ll_core.specs.Derives.{Forest, IsDerivation, tokens}
use Rattle.kerml_grammar.specs.Rules as kerml
use Rattle.sysml_grammar.specs.Rules as sysml
use Rattle.text_model.specs.declared.action.Action.{Action}
use Rattle.text_model.specs.declared.draft.What.{What}
use Rattle.text_model.specs.declared.draft.DraftNode.{DraftNode}
use Rattle.text_model.specs.Languages.{grammar_of}
use Rattle.text_model.specs.Tables.{tables}
use Rattle.text_model.specs.Drafts.{node}
use Rattle.text_model.specs.Walk.{Walk, walk}
use Rattle.print_model.specs.Printed.{Printed, heard}
use Rattle.print_model.specs.Trees.{Tree, postfix, printed, IsPrintable}
use Rattle.print_model.specs.Unplaced.{bare, bare_what, seen}
use Rattle.print_model.specs.Neighbours.{Put, bytes_in, ArePut}

-- the symbol of expressions
abbrev pub expression_symbol : Language → ℕ
expression_symbol Kerml = kerml.Expr
expression_symbol Sysml = sysml.Expr

-- the numbers of the tokens' kinds
abbrev pub kinds : List Printed → List ℕ
kinds ps = map (λ p. terminal p.kind) ps

-- a node of the postfix list, at no place
abbrev pub unplaced_node : What → DraftNode
unplaced_node w = node (bare_what w) 0

-- no expression is open, and no `$` waits
abbrev pub IsUnopened : Walk → Type 0
IsUnopened w = (w.reading.start ≡ None) × (w.reading.root ≡ None)

-- an expression is open: its nodes stand behind those that were read before
abbrev pub opened : List DraftNode → Walk → Walk
opened ns w = record w { reading = record w.reading { nodes = w.reading.nodes ++ ns; start = Some 0 } }

-- the grammar derives the printed tokens; the walk over the derivation takes just these, and changes one thing: it
-- pushes the nodes of the expression in postfix order (places aside)
pub record IsReadBack (language : Language) (e : Tree) (text : List ℕ) (a : Action) (w : Walk) (more : List Printed)
    : Type 0 where
  pub forest : Forest
  pub derived : IsDerivation (grammar_of language) (Inner (expression_symbol language) ∷ []) forest
  pub spelt : tokens forest ≡ kinds (printed language e)
  pub walked : bare (walk (tables language) text a forest w) ≡ opened (map unplaced_node (postfix e)) (bare w)
  pub rest : map (seen text) (walk (tables language) text a forest w).rest ≡ more

-- wherever the tokens that come are those of a printed expression, with anything behind them
abbrev pub ExpressionsReadBack : Type 0
ExpressionsReadBack =
    (language : Language) (e : Tree) (text : List ℕ) (a : Action) (w : Walk) (more : List Printed)
    → IsPrintable e → IsUnopened w → map (seen text) w.rest ≡ map heard (printed language e) ++ more
    → IsReadBack language e text a w more

-- a text has the tokens that were printed in it
abbrev pub HasTokens : Language → List ℕ → List Printed → Type 0
HasTokens language text ps = (ts : List Token) × Lex language text ts × (map (seen text) ts ≡ map heard ps)

-- printed tokens, each with the white space behind it, are the tokens of their bytes
abbrev pub PrintedTokensLex : Type 0
PrintedTokensLex =
    (language : Language) (ps : List Put) → ArePut language ps
    → HasTokens language (bytes_in ps) (map (λ p. p.token) ps)
