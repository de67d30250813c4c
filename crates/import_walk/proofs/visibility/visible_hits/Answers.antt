use Rattle.std.proofs.Common.{◌+◌, [], length, subst, arith}
use Rattle.std.specs.Prelude.{IfSome}
use Rattle.std.proofs.lemmas.Result.{IfOk-weaker}
use Rattle.link_model.proofs.TameLaws.{visible_tame}
use Rattle.link_model.specs.Imports.{visible}
use Rattle.link_model.specs.Outside.{library_of}
use Rattle.link_model.specs.Readers.{most}
use Rattle.link_walk.specs.Calls.{read_by}
use Rattle.import_walk.specs.Deferred.{task_of}
use Rattle.import_walk.proofs.DeferLaws.{hunt_visible, tasks_visible}
use Rattle.import_walk.specs.Plain.{EndsPlain}
use Rattle.import_walk.proofs.PlainLaws.{begins_visible, begins_stand}
use Rattle.import_walk.proofs.visibility.visible_hits.Goals as goal

pub run_plain-requires-clause-stand : goal.run_plain-requires-clause-stand
run_plain-requires-clause-stand g c =
    let files = c.args.view.now.models.now in
    let w = read_by c.args.view.now in
    begins_stand files w 1 (λ ask. ask (task_of [] c.args.recursive c.args.all c.args.of) w) c.defer.new.self
    (begins_visible files w c.as_slice.result.now c.new-plain.result c.defer.new.self c.args.recursive c.args.all c.args.of c.new-plain.ensures
    c.as_slice.ensures c.in_ok-defer.ensures c.requires.stands)

pub returns-in-Some : goal.returns-in-Some
returns-in-Some g c =
    let files = c.args.view.now.models.now in
    let w = read_by c.args.view.now in
    let ends = subst (λ o. IfSome o (EndsPlain c.args.view.now c.args.name.now c.args.excluded.now c.defer.new.self)) c.in-Some.is c.in_ok-gains.ensures in
    ends (λ ask. ask (task_of [] c.args.recursive c.args.all c.args.of)) 1
    (begins_visible files w c.as_slice.result.now c.new-plain.result c.defer.new.self c.args.recursive c.args.all c.args.of c.new-plain.ensures
    c.as_slice.ensures c.in_ok-defer.ensures c.requires.stands)
    ((visible_tame (library_of files) c.args.name.now c.args.excluded.now c.args.recursive c.args.all c.args.of).regular.sound w)

pub run-requires-clause-stand : goal.run-requires-clause-stand
run-requires-clause-stand g c =
    let files = c.args.view.now.models.now in
    tasks_visible (library_of files) c.args.name.now files
    (read_by c.args.view.now) c.args.excluded.now c.new-hunt.result c.defer-2.new.self c.new-hunt.ensures c.args.recursive c.args.all c.args.of
    c.requires.stands c.in_ok-defer-2.ensures

pub returns : goal.returns
returns g c =
    let files = c.args.view.now.models.now in
    let lib = library_of files in
    let x = c.args.name.now in
    let w = read_by c.args.view.now in
    let a = visible lib x c.args.excluded.now c.args.recursive c.args.all c.args.of in
    IfOk-weaker c.run.result _ _ (λ gains h. h (most + length c.args.excluded.now) (a w) (omega arith)
    ((visible_tame lib x c.args.excluded.now c.args.recursive c.args.all c.args.of).regular.sound w)
    (hunt_visible lib x files w c.args.excluded.now c.new-hunt.result c.defer-2.new.self c.new-hunt.ensures c.args.recursive c.args.all c.args.of
    c.requires.stands c.in_ok-defer-2.ensures)) c.run.ensures
