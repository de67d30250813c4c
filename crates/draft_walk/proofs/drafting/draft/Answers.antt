use Rattle.draft_walk.proofs.Heard.{drafted}
use Rattle.draft_walk.proofs.drafting.draft.Goals as goal

pub returns-clause-ok : goal.returns-clause-ok
returns-clause-ok c = drafted c.args.source.now c.tell_all.new.parser c.tell_all.new.teller c.into_drafts.result c.in_ok-tell_all.ensures.ok
    c.into_drafts.ensures
