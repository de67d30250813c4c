use Rattle.std.proofs.Common.{◌≡◌}
use Rattle.demand_core.specs.Tables.{entry_of}
use Rattle.value_model.specs.Keys.{same_value_key}
use Rattle.expr_reading.specs.declared.turns.Turn.TheVariants.{Read}
use Rattle.expr_reading.specs.Turns.{told, turns_left, ArePending, IsTurn}
use Rattle.expr_reading.proofs.reading.turn_all.Given as goal

abbrev pub invariant-loop-turn : goal.invariant-loop-turn
invariant-loop-turn g l =
    let e = g.S.Source.meaning l.source in
    let s = entry_of same_value_key l.table in
    record {
      same : told e s l.looks l.pending.items l.turn ≡ told e s l.fn.looks l.fn.pending.items (Read l.fn.end);
      pending_within : ArePending e l.pending.items;
      turn_within : IsTurn e l.turn;
    }

abbrev pub decreases-loop-turn : goal.decreases-loop-turn
decreases-loop-turn g l = turns_left (g.S.Source.meaning l.source) l.pending.items l.turn
