use Rattle.std.proofs.Common.{subst, sym}
use Rattle.model_printer.specs.Conditions.{IsExpression}
use Rattle.model_printer.proofs.heads.write_value.Goals as goal

pub write_expression-requires : goal.write_expression-requires
write_expression-requires c =
    subst (IsExpression c.args.model.now) (sym c.as_slice.ensures) (c.requires c.in-Some.value c.in-Some.is)
