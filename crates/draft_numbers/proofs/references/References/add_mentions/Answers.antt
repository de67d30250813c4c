use Rattle.std.proofs.Common.{◌∙◌}
use Rattle.draft_numbers.proofs.Grown.{mentions_more}
use Rattle.draft_numbers.proofs.references.References.add_mentions.Goals as goal

pub loop-mention-preserved : goal.loop-mention-preserved
loop-mention-preserved c =
    c.in_ok-add.ensures.added ∙ mentions_more c.args.context c.loop-mention.yielded c.in-Some.mention c.args.self.now c.loop-mention.self
    c.loop-mention.invariant
