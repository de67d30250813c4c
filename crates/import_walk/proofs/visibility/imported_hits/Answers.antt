use Rattle.std.proofs.Common.{◌+◌, List, [], length, subst, arith}
use Rattle.element_store.specs.declared.numbers.ElementNo.{ElementNo}
use Rattle.std.specs.Prelude.{IfSome}
use Rattle.std.proofs.lemmas.Result.{IfOk-weaker}
use Rattle.link_model.proofs.TameLaws.{imported_tame}
use Rattle.link_model.specs.Imports.{imported}
use Rattle.link_model.specs.Outside.{library_of}
use Rattle.link_model.specs.Readers.{most}
use Rattle.link_walk.specs.Calls.{read_by}
use Rattle.import_walk.specs.Deferred.{Asking, again_from, asks_task, brings}
use Rattle.import_walk.specs.Plain.{EndsPlain}
use Rattle.import_walk.proofs.PlainLaws.{begins_imported, begins_stand}
use Rattle.import_walk.proofs.DeferLaws.{hunt_imported, tasks_imported}
use Rattle.import_walk.proofs.visibility.imported_hits.Goals as goal

pub run_plain-requires-clause-stand : goal.run_plain-requires-clause-stand
run_plain-requires-clause-stand g c =
    let files = c.args.view.now.models.now in
    let w = read_by c.args.view.now in
    let whole = λ (inner : List ElementNo) (ask : Asking). brings c.args.name.now c.args.import (again_from ask inner) in
    begins_stand files w 1 (λ ask. whole [] ask w) c.add_numbered.new.hunt
    (begins_imported files w c.as_slice.result.now c.new-plain.result c.add_numbered.new.hunt whole c.new-plain.ensures c.as_slice.ensures
    c.in_ok-add_numbered.ensures)

pub returns-in-Some : goal.returns-in-Some
returns-in-Some g c =
    let files = c.args.view.now.models.now in
    let w = read_by c.args.view.now in
    let whole = λ (inner : List ElementNo) (ask : Asking). brings c.args.name.now c.args.import (again_from ask inner) in
    let ends = subst (λ o. IfSome o (EndsPlain c.args.view.now c.args.name.now c.args.excluded.now c.add_numbered.new.hunt)) c.in-Some.is
    c.in_ok-gains.ensures in
    ends (whole []) 1
    (begins_imported files w c.as_slice.result.now c.new-plain.result c.add_numbered.new.hunt whole c.new-plain.ensures c.as_slice.ensures
    c.in_ok-add_numbered.ensures)
    ((imported_tame (library_of files) c.args.name.now c.args.excluded.now c.args.import).regular.sound w)

pub run-requires-clause-stand : goal.run-requires-clause-stand
run-requires-clause-stand g c =
    let files = c.args.view.now.models.now in
    tasks_imported (library_of files) c.args.name.now files
    (read_by c.args.view.now) c.args.excluded.now c.new-hunt.result c.add_numbered-2.new.hunt c.new-hunt.ensures
    (brings c.args.name.now c.args.import) (λ base. c.in_ok-add_numbered-2.ensures (asks_task (library_of files) c.args.name.now base))

pub returns : goal.returns
returns g c =
    let files = c.args.view.now.models.now in
    let lib = library_of files in
    let x = c.args.name.now in
    let w = read_by c.args.view.now in
    let a = imported lib x c.args.excluded.now c.args.import in
    IfOk-weaker c.run.result _ _ (λ gains h. h (most + length c.args.excluded.now) (a w) (omega arith)
    ((imported_tame lib x c.args.excluded.now c.args.import).regular.sound w)
    (hunt_imported lib x files w c.args.excluded.now c.new-hunt.result c.add_numbered-2.new.hunt c.new-hunt.ensures
    (brings x c.args.import) (λ base. c.in_ok-add_numbered-2.ensures (asks_task (library_of files) c.args.name.now base)))) c.run.ensures
