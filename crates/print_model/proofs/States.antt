-- An expression that is open: its nodes, and the operator that waits.
use Rattle.std.proofs.Common.{ℕ, List, [], ◌∷◌, ◌++◌}
use Rattle.std.specs.Prelude.{Option, Some, None, pos}
use Rattle.element_store.specs.declared.outcome.Language.{Language}
use Rattle.ll_core.specs.declared.grammar.Symbol.TheVariants.{Inner}
use Rattle.text_model.specs.declared.action.Action.{Action}
use Rattle.text_model.specs.declared.action.Operator.{Operator}
use Rattle.text_model.specs.declared.draft.Path.{Path}
use Rattle.text_model.specs.declared.draft.What.TheVariants as what
use Rattle.text_model.specs.declared.draft.DraftNode.{DraftNode}
use Rattle.text_model.specs.declared.draft.Waiting.{Waiting}
use Rattle.text_model.specs.declared.draft.Reading.{Reading}
use Rattle.text_model.specs.Drafts.{node}
use Rattle.text_model.specs.Walk.{Walk}
use Rattle.print_model.specs.Printed.{Printed}
use Rattle.print_model.specs.Trees.{Tree, Integer, Boolean, Text, Null, Named, Before, Between, Choice}
use Rattle.print_model.proofs.Readings.{Reads}

-- an operator that waits, at no place
abbrev pub waiting : Operator → Option Waiting
waiting o = Some (record { operator = o; place = 0 })

-- an expression is open, with these nodes and this operator
abbrev pub at : Walk → List DraftNode → Option Waiting → Walk
at w ns o = record w { reading = record w.reading { nodes = ns; operator = o; start = Some 0; root = None } }

-- nodes are read, whatever else was read with them
abbrev pub among : Walk → List DraftNode → Reading → Walk
among w ns r = record w { reading = record r { nodes = ns; root = None } }

-- a name at no place
abbrev pub unplaced : Path → Path
unplaced p = record p { place = 0 }

-- nodes, and behind them those of an expression
abbrev pub onto : List DraftNode → Tree → List DraftNode
onto ns (Integer n) = ns ++ node (what.Integer (pos n)) 0 ∷ []
onto ns (Boolean b) = ns ++ node (what.Boolean b) 0 ∷ []
onto ns (Text bytes) = ns ++ node (what.Text bytes) 0 ∷ []
onto ns Null = ns ++ node what.Null 0 ∷ []
onto ns (Named p) = ns ++ node (what.Named (unplaced p)) 0 ∷ []
onto ns (Before o a) = onto ns a ++ node (what.Unary o) 0 ∷ []
onto ns (Between o a b) = onto (onto ns a) b ++ node (what.Binary o) 0 ∷ []
onto ns (Choice a b c) = onto (onto (onto ns a) b) c ++ node what.If 0 ∷ []

-- the symbol derives the tokens, and the walk changes the nodes, whatever stands around
abbrev pub ReadsAt : Language → ℕ → List Printed → Walk → List DraftNode → List DraftNode → Type 0
ReadsAt l s ps w ns ms = (a : Action) (o : Option Waiting) → Reads l a (Inner s ∷ []) ps (at w ns o) (at w ms o)
