use Rattle.std.proofs.Common.{◌≡◌, subst}
use Rattle.std.specs.Prelude.{IfOk}
use Rattle.std.specs.List.{flat_map}
use Rattle.linked_project.specs.Listed.{present_names}
use Rattle.linked_project.proofs.ListedLaws.{names_listed}
use Rattle.linked_project.proofs.file_names.file_names.Goals as goal

pub returns : goal.returns
returns c =
    let files = c.args.files.now in
    names_listed files c.in_ok-order.order.items c.names_at.result c.in_ok-order.ensures.ranked
    (subst (λ ns. IfOk c.names_at.result (λ names. names ≡ flat_map (present_names files) ns)) c.deref.ensures.value c.names_at.ensures)
