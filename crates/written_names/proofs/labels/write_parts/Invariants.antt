use Rattle.std.proofs.Common.{◌≡◌, ◌++◌, codes, map, take}
use Rattle.book_model.specs.Spelling.{joined}
use Rattle.written_names.specs.Spellable.{own_part_at}
use Rattle.written_names.proofs.labels.write_parts.Given as goal

abbrev pub invariant-loop-index : goal.invariant-loop-index
invariant-loop-index l = l.answer.items ≡ l.fn.answer.items ++ joined (codes "::") (map (own_part_at l.model) (take l.index l.path))
