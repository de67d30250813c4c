use Rattle.std.proofs.Common.{◌≡◌, ◌++◌, drop, length}
use Rattle.demand_core.specs.Computed.{world}
use Rattle.demand_core.specs.Tables.{entry_of}
use Rattle.rules_example.specs.Numbers.{same_number}
use Rattle.rules_example.specs.Example.{row_of, first_answer}
use Rattle.rules_example.proofs.example.ExampleRulesNumberUsizeNumber.ask.Given as goal

-- the pairs that are left decide as all do
abbrev pub invariant-loop-pair : goal.invariant-loop-pair
invariant-loop-pair g l = record {
  step : (first_answer (length l.self) l.key (drop l.pair-index l.pair-items) (world (row_of l.self) (entry_of same_number l.table))).step ≡
      (first_answer (length l.self) l.key l.pair-items (world (row_of l.self) (entry_of same_number l.table))).step;
  looks : l.looks ++ (first_answer (length l.self) l.key (drop l.pair-index l.pair-items)
      (world (row_of l.self) (entry_of same_number l.table))).looks ≡ l.initial.looks ++
      (first_answer (length l.self) l.key l.pair-items (world (row_of l.self) (entry_of same_number l.table))).looks;
}
