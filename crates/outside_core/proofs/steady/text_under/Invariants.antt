use Rattle.std.proofs.Common.{◌≡◌, ◌-◌, length, map, drop, string_bytes, vec_items}
use Rattle.outside_core.specs.Shelves.{text_beside}
use Rattle.outside_core.proofs.steady.text_under.Given as goal

abbrev pub invariant-loop-i : goal.invariant-loop-i
invariant-loop-i l = text_beside (map string_bytes (drop l.i l.names)) (map vec_items (drop l.i l.texts)) l.name
    ≡ text_beside (map string_bytes l.names) (map vec_items l.texts) l.name

abbrev pub decreases-loop-i : goal.decreases-loop-i
decreases-loop-i l = length l.names - l.i
