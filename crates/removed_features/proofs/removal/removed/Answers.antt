use Rattle.std.proofs.Common.{sym, ◌∙◌}
use Rattle.removed_features.proofs.RemovalLaws.{own_removed_by, set_of_one}
use Rattle.removed_features.proofs.removal.removed.Goals as goal

pub returns-then-own : goal.returns-then-own
returns-then-own c =
    own_removed_by c.args.heir.now c.requires.links c.files.ensures.kept c.args.e c.add.new.self
    (set_of_one c.args.e _ c.add.new.self c.new-set.ensures c.in_ok-add.ensures) (sym c.in_ok-own.ensures ∙ c.if-own.true)

pub returns : goal.returns
returns c =
    c.in_ok-add_redefined.ensures (set_of_one c.args.e _ c.add.new.self c.new-set.ensures c.in_ok-add.ensures) (sym c.in_ok-own.ensures ∙ c.if-own.false)
