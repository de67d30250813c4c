use Rattle.std.proofs.Common.{◌≡◌, ◌∙◌, sym, ap}
use Rattle.std.specs.Option.{option_map}
use Rattle.link_walk.specs.Marks.{marked_all}
use Rattle.value_model.specs.Keys.{same_value_key}
use Rattle.value_model.specs.Meant.{decider}
use Rattle.value_features.specs.Deciders.{as_decider}
use Rattle.value_rules.proofs.RuleLaws.{on_ok}
use Rattle.value_rules.proofs.ReachLaws.{read_is}
use Rattle.value_rules.proofs.reach.mark_read.Goals as goal

pub returns-in-Some-2 : goal.returns-in-Some-2
returns-in-Some-2 g c =
    let w = g.M.Meanings.links c.args.meanings.now in
    on_ok c.mark_names.result c.mark_names.ensures (λ is. is ∙ ap (marked_all same_value_key c.args.marks.now)
    (read_is w (g.M.Meanings.library c.args.meanings.now) c.args.key c.in-Some.feature c.in-Some-2.decider
    (sym c.in-Some.is ∙ c.in_ok-meant.ensures)
    (ap (option_map as_decider) (sym c.in-Some-2.is) ∙ c.in_ok-decider-in-Some.ensures.decides ∙ ap (λ v. decider v c.in-Some.feature) (sym c.requires))))
