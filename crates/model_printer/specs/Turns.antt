-- A turn of writing an expression.
use Rattle.std.specs.Prelude.{◌≡◌, ℕ, ◌+◌, ◌<◌, ◌≤◌, Bool, List, ◌∷◌, ◌++◌}
use Rattle.element_store.specs.declared.expression.Node.{Node}
use Rattle.element_store.specs.Model.{Data}
use Rattle.print_model.specs.Printed.{Printed}
use Rattle.print_model.specs.Trees.{printed, within}
use Rattle.model_printer.specs.declared.expressions.Work.{Work}
use Rattle.model_printer.specs.Sheets.{Sheet, puts}
use Rattle.model_printer.specs.Parts.{AreWorks, tokens_left, tree_before, turns_left, turns_of}

module _ (d : Data) (nodes : List Node) where
  -- whatever stands in the brackets, it is left to write, and the closing one
  pub record IsOpened (brackets : Bool) (s t : Sheet) (works left : List Work) : Type 0 where
    pub same : (ps : List Printed)
        → puts s (within brackets ps ++ tokens_left d nodes works) ≡ puts t (ps ++ tokens_left d nodes left)
    pub less : turns_left d nodes left ≤ 1 + turns_left d nodes works
    pub stand : AreWorks d nodes left

  -- the part that ends before the node n, without its brackets, is written or left to write
  pub record IsEntered (n : ℕ) (s t : Sheet) (works left : List Work) : Type 0 where
    pub same : puts s (printed d.language (tree_before d nodes n) ++ tokens_left d nodes works)
        ≡ puts t (tokens_left d nodes left)
    pub less : 2 + turns_left d nodes left ≤ turns_of (tree_before d nodes n) + turns_left d nodes works
    pub stand : AreWorks d nodes left

  -- ONE TURN: all tokens stay, and fewer turns are left
  pub record IsTurned (work : Work) (s t : Sheet) (works left : List Work) : Type 0 where
    pub same : puts s (tokens_left d nodes (work ∷ works)) ≡ puts t (tokens_left d nodes left)
    pub less : turns_left d nodes left < turns_left d nodes (work ∷ works)
    pub stand : AreWorks d nodes left
