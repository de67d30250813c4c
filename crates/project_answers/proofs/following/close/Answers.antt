use Rattle.std.proofs.Common.{◌∙◌}
use Rattle.project_answers.proofs.FollowLaws.{stays_beyond, stored_own, stored_within}
use Rattle.project_answers.proofs.following.close.Goals as goal

pub returns-then-file-count : goal.returns-then-file-count
returns-then-file-count g c = λ e.
    stays_beyond (g.G.Linking.follows c.args.linking.now).files c.files-files.result.now c.args.project.now.files c.args.file.0 c.count.result
    c.files-files.ensures.lent c.count.ensures c.if-file-count.true c.requires.over

pub close-requires-clause-within : goal.close-requires-clause-within
close-requires-clause-within g c =
    stored_within c.models.result.now c.files-files.result.now c.args.project.now.files c.count.result c.models.ensures c.files-files.ensures.lent
    c.count.ensures c.args.file.0 c.if-file-count.false

pub close-requires-clause-own : goal.close-requires-clause-own
close-requires-clause-own g c =
    stored_own c.models.result.now c.files-files.result.now c.args.project.now.files c.count.result c.models.ensures c.files-files.ensures.lent
    c.count.ensures c.args.file c.requires.own
