use Rattle.std.proofs.Common.{ap, ◌∙◌}
use Rattle.draft_numbers.specs.Numbered.{with_parts}
use Rattle.draft_numbers.proofs.OneDraft.{draft_taken}
use Rattle.draft_numbers.proofs.numbering.Lists.add.Goals as goal

pub returns : goal.returns
returns c =
    let p = c.in_ok-parts.parts in
    c.in_ok-push.ensures ∙ (ap (with_parts p) c.in_ok-parts.ensures.added ∙ draft_taken c.args.self.now c.args.draft p c.in_ok-parts.ensures.parts)
