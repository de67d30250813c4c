-- What the filter leaves.
use Rattle.std.proofs.Common.{rules, ◌∙◌}
use Rattle.std.proofs.lemmas.Fn.{filter_same}
use Rattle.element_store.proofs.RankLaws.{filter_is}
use Rattle.root_names.specs.Steps.{is_other}
use Rattle.root_names.proofs.root_table.keep_others.Goals as goal

pub returns : goal.returns
returns c =
    filter_same _ (is_other c.args.file) _ (λ x b f k. search rules) _ _ c.retain.ensures.filtered
    ∙ filter_is (is_other c.args.file) c.args.members.now.items
