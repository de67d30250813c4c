-- The rows of a text within the profile.
use Rattle.std.specs.Prelude.{ℕ, List}
use Rattle.linker_base.specs.Orders.{AreInOrder}
use Rattle.element_store.specs.Model.{Data}
use Rattle.book_model.specs.Laws.{HasOneRowEach, IsRowBefore}
use Rattle.book_model.specs.Rows.{Outcomes, rows_in}

-- whatever the outcomes, each reference has one row, and the rows rise as they are printed
pub record HasRisingRows (text : List ℕ) (d : Data) : Type 0 where
  pub each : (outcomes : Outcomes) → HasOneRowEach d (rows_in outcomes text d)
  pub rising : (outcomes : Outcomes) → AreInOrder IsRowBefore (rows_in outcomes text d)
