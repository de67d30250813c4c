-- The place is that of the first member whose file stands behind, or the end.
use Rattle.std.proofs.Common.{arith}
use Rattle.root_names.specs.Steps.{is_behind}
use Rattle.root_names.proofs.PutLaws.{place_there, place_over, put_last}
use Rattle.root_names.proofs.placing.place_of.Goals as goal

pub returns-then-is_behind-clause-place : goal.returns-then-is_behind-clause-place
returns-then-is_behind-clause-place c =
    place_there (is_behind c.args.models.now c.args.file) c.args.members.now c.loop-place.place _ c.is_behind.result c.loop-place.invariant
    c.loop-place-test.true c.is_behind.ensures c.if-is_behind.true

pub loop-place-preserved : goal.loop-place-preserved
loop-place-preserved c =
    place_over (is_behind c.args.models.now c.args.file) c.args.members.now c.loop-place.place _ c.is_behind.result c.loop-place.invariant
    c.loop-place-test.true c.is_behind.ensures c.if-is_behind.false

pub returns-clause-place : goal.returns-clause-place
returns-clause-place c =
    let end = c.loop-place-test.false in
    put_last (is_behind c.args.models.now c.args.file) c.args.members.now (λ k z lt at. c.loop-place.invariant k z (omega arith) at)
