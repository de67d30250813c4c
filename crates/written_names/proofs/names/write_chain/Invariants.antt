use Rattle.std.proofs.Common.{◌≡◌, ◌++◌, take}
use Rattle.book_model.specs.Spelling.{spelt_chain}
use Rattle.written_names.proofs.names.write_chain.Given as goal

abbrev pub invariant-loop-step : goal.invariant-loop-step
invariant-loop-step l = l.answer.items ≡ l.fn.answer.items ++ spelt_chain l.language (take l.step-index l.chain)
