-- Under a name that both are, the second time changes nothing.
use Rattle.std.proofs.Common.{◌∙◌, ap}
use Rattle.element_store.specs.Model.{is_name}
use Rattle.root_names.specs.Roots.{bearing}
use Rattle.root_names.specs.Steps.{left}
use Rattle.root_names.proofs.PutLaws.{left_twice}
use Rattle.root_names.proofs.taking.take_names.Goals as goal

pub returns : goal.returns
returns c x =
    c.take_named-2.ensures x
    ∙ ap (left c.args.file (is_name x c.args.member.now.name)) (c.take_named.ensures x)
    ∙ left_twice c.args.file (is_name x c.args.member.now.short) (is_name x c.args.member.now.name) (bearing c.args.table.now x)
