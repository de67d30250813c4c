use Rattle.project_answers.proofs.FollowLaws.{stays_where_none, stored_come, stored_within}
use Rattle.project_answers.proofs.following.open.Goals as goal

pub returns-then-file-count : goal.returns-then-file-count
returns-then-file-count g c = λ e.
    stays_where_none (g.G.Linking.follows c.args.linking.now).files c.files-files.result.now c.args.project.now.files c.args.file c.count.result
    c.files-files.ensures.lent c.count.ensures c.if-file-count.true c.requires

pub open-requires-clause-within : goal.open-requires-clause-within
open-requires-clause-within g c =
    stored_within c.models.result.now c.files-files.result.now c.args.project.now.files c.count.result c.models.ensures c.files-files.ensures.lent
    c.count.ensures c.args.file.0 c.if-file-count.false

pub open-requires-clause-come : goal.open-requires-clause-come
open-requires-clause-come g c =
    stored_come c.models.result.now c.files-files.result.now c.args.project.now.files c.count.result c.models.ensures c.files-files.ensures.lent
    c.count.ensures (g.G.Linking.follows c.args.linking.now).files c.args.file c.requires c.if-file-count.false
