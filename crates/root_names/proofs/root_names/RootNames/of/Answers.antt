use Rattle.std.proofs.Common.{◌≤◌, length, subst, arith}
use Rattle.root_names.specs.Roots.{AreRootsOf}
use Rattle.root_names.proofs.FirstLaws.{none_first, all_first}
use Rattle.root_names.specs.Firsts.{first_models}
use Rattle.root_names.proofs.root_names.RootNames.of.Goals as goal

pub loop-file-init : goal.loop-file-init
loop-file-init c = c.new-roots.ensures (first_models 0 c.args.models.now) (none_first c.args.models.now)

pub returns : goal.returns
returns c =
    let files = c.args.models.now in
    let long : length files ≤ c.loop-file.file = omega (arith, c.files-file-end.ensures.count, c.loop-file-test.false) in
    subst (λ fs. AreRootsOf fs c.loop-file.roots) (all_first files c.loop-file.file long) c.loop-file.invariant
