-- Want of memory at the second name leaves the first one in.
use Rattle.element_store.specs.Model.{is_name}
use Rattle.root_names.specs.Roots.{bearing}
use Rattle.root_names.specs.Steps.{is_behind}
use Rattle.root_names.proofs.TableLaws.{on_err}
use Rattle.root_names.proofs.PutLaws.{partly_named}
use Rattle.root_names.proofs.RootLaws.{own_number}
use Rattle.root_names.proofs.placing.put_names.Goals as goal

pub returns-in_err-put_named-2-clause-err : goal.returns-in_err-put_named-2-clause-err
returns-in_err-put_named-2-clause-err c = on_err c.from_residual-in_err-put_named-2.result (λ x.
    partly_named c.args.number.file (is_behind c.args.models.now c.args.number.file) c.args.number
    (is_name x c.args.member.now.short) (is_name x c.args.member.now.name)
    (bearing c.args.table.now x) (bearing c.put_named.new.table x) (bearing c.put_named-2.new.table x)
    (own_number x c.args.number.file c.args.number.index) (c.in_ok-put_named.ensures.ok x) (c.in_err-put_named-2.ensures.err x))
