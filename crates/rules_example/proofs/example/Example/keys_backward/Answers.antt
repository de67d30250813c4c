use Rattle.std.proofs.Common.{subst}
use Rattle.linker_base.specs.Members.{SameMembers}
use Rattle.rules_example.specs.Numbers.{numbers}
use Rattle.rules_example.proofs.ChangeLaws.{backward_more, backward_all}
use Rattle.rules_example.proofs.example.Example.keys_backward.Goals as goal

pub loop-place-preserved : goal.loop-place-preserved
loop-place-preserved c =
    let both = backward_more c.len-count.result c.loop-place.place c.loop-place.keys c.push.new.self c.loop-place-test.true c.in_ok-push.ensures.ok
    c.loop-place.invariant.from c.loop-place.invariant.to in
    record { from = both.0; to = both.1 }

pub returns : goal.returns
returns c =
    subst (λ n. SameMembers c.loop-place.keys (numbers n)) c.len-count.ensures
    (backward_all c.len-count.result c.loop-place.place c.loop-place.keys c.loop-place-test.false c.loop-place.invariant.from c.loop-place.invariant.to)
