use Rattle.std.proofs.Common.{◌<◌, arith}
use Rattle.model_printer.proofs.ProfileLaws.{profile_has_expressions}
use Rattle.print_rows.proofs.printed.Goals as goal

pub print-requires : goal.print-requires
print-requires c =
    profile_has_expressions (record { 0 = 0 }) c.args.language c.args.text.now c.in-Ok.model (omega (arith, c.if-text-gt-LONGEST.false))
    c.in-Ok.ensures.model
