use Rattle.std.proofs.Common.{◌∙◌}
use Rattle.draft_numbers.proofs.Grown.{paths_more}
use Rattle.draft_numbers.proofs.references.References.add_paths.Goals as goal

pub loop-path-preserved : goal.loop-path-preserved
loop-path-preserved c =
    c.in_ok-add.ensures.added ∙ paths_more c.args.context c.args.role c.loop-path.yielded c.in-Some.path c.args.self.now c.loop-path.self c.loop-path.invariant
