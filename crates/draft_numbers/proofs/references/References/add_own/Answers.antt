use Rattle.std.proofs.Common.{ap, ◌∙◌}
use Rattle.text_model.specs.Drafts.{mentions}
use Rattle.draft_numbers.specs.Numbered.{added}
use Rattle.draft_numbers.proofs.Grown.{then_added}
use Rattle.draft_numbers.proofs.references.References.add_own.Goals as goal

pub returns : goal.returns
returns c =
    let e = c.args.context in
    then_added e (mentions c.args.role c.args.own) c.args.specs c.args.self.now c.add_paths.new.self c.add_mentions.new.self
    (c.in_ok-add_paths.ensures ∙ ap (λ ps. added e (mentions c.args.role ps) c.args.self.now) c.into_vec.ensures)
    (c.in_ok-add_mentions.ensures ∙ ap (λ ms. added e ms c.add_paths.new.self) c.into_vec-2.ensures)
