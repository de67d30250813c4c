-- The walk by ranks, a file at a time.
use Rattle.std.proofs.Common.{◌≡◌, ◌≤◌, Some, None, length, sym, subst, arith}
use Rattle.element_store.specs.BaseRules.{least_owned}
use Rattle.element_store.proofs.BaseLaws.{ArePassed, project_passed, passed_more, none_without, none_nameless, walk_found, walk_ended, stands_there}
use Rattle.element_store.proofs.bases.follow.Goals as goal
use Rattle.element_store.proofs.bases.follow.Goals.{in-Some+in_default-public_member, in_default}

pub loop-rank-init : goal.loop-rank-init
loop-rank-init c = subst (ArePassed c.args.models.now c.args.path.now.namespace) (sym c.project_files-first.ensures) (project_passed c.args.models.now c.args.path.now.namespace)

pub returns-in-Some-public_member-clause-led : goal.returns-in-Some-public_member-clause-led
returns-in-Some-public_member-clause-led c =
    let d = c.in-Some.model.now in
    let owned : least_owned d.members 0 c.args.path.now.namespace ≡ Some c.in-Some-public_member.root = rw (← c.path.view_is) (sym c.in-Some-public_member.ensures.least) in
    let above = subst (λ k. k ≤ c.loop-rank.rank) c.project_files-first.ensures c.loop-rank.auto.rank in
    let found = walk_found c.args.models.now c.args.path.now.namespace c.loop-rank.rank c.at_rank-file.result.0 d c.in-Some-public_member.root c.files-rank-end.ensures.kept c.at_rank-file.ensures.ranked
    above (sym c.in-Some.ensures.kept) owned c.loop-rank.invariant in
    rw found (rw (← c.path.view_is) c.public_type.ensures.led)

pub returns-in-Some-public_member-clause-stands : goal.returns-in-Some-public_member-clause-stands
returns-in-Some-public_member-clause-stands c =
    stands_there c.args.models.now c.at_rank-file.result c.in-Some.model.now c.public_type.result (sym c.in-Some.ensures.kept) c.in-Some.ensures.sound.0 c.public_type.ensures.within

pub loop-rank-preserved : goal.loop-rank-preserved
loop-rank-preserved c =
    let files = c.args.models.now in
    let file = c.at_rank-file.result.0 in
    let name = c.args.path.now.namespace in
    passed_more files name c.loop-rank.rank file c.files-rank-end.ensures.kept c.at_rank-file.ensures.ranked
    (elim c.match-model.branch [
      | in-Some+in_default-public_member w ↦
          let none : least_owned w.in-Some.model.now.members 0 name ≡ None = rw (← c.path.view_is) (sym w.in_default-public_member.ensures.least) in
          none_nameless files file name w.in-Some.model.now (sym w.in-Some.ensures.kept) none
      | in_default w ↦ none_without files file name (sym w.in_default.ensures.kept)
    ])
    c.loop-rank.invariant

pub returns-clause-led : goal.returns-clause-led
returns-clause-led c =
    let le : length c.args.models.now ≤ c.loop-rank.rank = omega (arith, c.files-rank-end.ensures.count, c.loop-rank-test.false) in
    let none = walk_ended c.args.models.now c.args.path.now.namespace c.loop-rank.rank le c.loop-rank.invariant in
    rw none
