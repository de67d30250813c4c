use Rattle.std.proofs.Common.{sym, ◌∙◌}
use Rattle.std.specs.Prelude.{nat_eq}
use Rattle.std.specs.Cmp.Lexicographic.{pointwise}
use Rattle.link_model.specs.Imports.{owning_hit}
use Rattle.link_walk.specs.Calls.{read_by}
use Rattle.link_walk.proofs.GainLaws.{gained_true, gained_false}
use Rattle.name_lookups.specs.Under.{by_names}
use Rattle.name_lookups.proofs.under.take_under.Goals as goal

pub returns-then-written : goal.returns-then-written
returns-then-written c =
    gained_true (read_by c.args.view.now) (pointwise nat_eq c.args.name.now c.args.last.now) (owning_hit c.args.element)
    (by_names c.args.name.now c.args.last.now c.args.element) c.args.gains.now c.take_owning.new.gains
    (sym c.is_same_name-written.ensures ∙ c.if-written.true) c.in_ok-take_owning.ensures

pub returns : goal.returns
returns c =
    gained_false (read_by c.args.view.now) (pointwise nat_eq c.args.name.now c.args.last.now) (owning_hit c.args.element)
    (by_names c.args.name.now c.args.last.now c.args.element) c.args.gains.now c.take_named_both.new.gains
    (sym c.is_same_name-written.ensures ∙ c.if-written.false) c.in_ok-take_named_both.ensures
