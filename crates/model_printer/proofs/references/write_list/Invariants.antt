use Rattle.std.proofs.Common.{◌≡◌, drop}
use Rattle.std.specs.Prelude.{None, ◌&&◌, nat_eq}
use Rattle.element_store.specs.Numbers.{those_where}
use Rattle.model_printer.specs.Lists.{in_list, stands_in}
use Rattle.model_printer.specs.Sheets.{puts}
use Rattle.model_printer.proofs.references.write_list.Given as goal

abbrev pub invariant-loop-number : goal.invariant-loop-number
invariant-loop-number l =
    puts l.initial.writer (in_list l.language l.list None (those_where (λ r. nat_eq r.context l.element && stands_in l.list r.role) l.model.references))
    ≡ puts l.writer (in_list l.language l.list l.before
    (those_where (λ r. nat_eq r.context l.element && stands_in l.list r.role) (drop l.number l.model.references)))
