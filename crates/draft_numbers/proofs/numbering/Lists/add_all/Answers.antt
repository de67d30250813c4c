use Rattle.std.proofs.Common.{ap, sym, ◌∙◌}
use Rattle.draft_numbers.specs.Numbered.{with_draft}
use Rattle.draft_numbers.proofs.Grown.{with_drafts_push}
use Rattle.draft_numbers.proofs.numbering.Lists.add_all.Goals as goal

pub loop-draft-preserved : goal.loop-draft-preserved
loop-draft-preserved c =
    c.in_ok-add.ensures ∙ (ap (with_draft c.in-Some.draft) c.loop-draft.invariant ∙ sym (with_drafts_push c.args.self.now c.loop-draft.yielded c.in-Some.draft))
