use Rattle.std.proofs.Common.{◌≡◌, ◌∙◌, ◌<◌, ◌≤◌, sym, ap, arith, length, get_or}
use Rattle.std.specs.Prelude.{None}
use Rattle.link_walk.specs.Marks.{marked_all}
use Rattle.value_model.specs.declared.values.ValueKey.{ValueKey}
use Rattle.value_model.specs.Keys.{same_value_key}
use Rattle.value_model.specs.Valuing.{may_read}
use Rattle.value_rules.proofs.ReachLaws.{reached_more, reached_all}
use Rattle.value_rules.proofs.reach.mark_all.Goals as goal

pub returns-then-place-keys : goal.returns-then-place-keys
returns-then-place-keys g c = (
  reached_all (g.M.Meanings.links c.args.meanings.now) (g.M.Meanings.library c.args.meanings.now) c.args.marks.now c.loop-place.marks c.loop-place.place
      c.loop-place.invariant (let long = ap length c.as_slice-keys.ensures in omega (arith, long)),
  c.loop-place.invariant.kept,
)

pub loop-place-preserved : goal.loop-place-preserved
loop-place-preserved g c =
    let w = g.M.Meanings.links c.args.meanings.now in
    let lib = g.M.Meanings.library c.args.meanings.now in
    let d : ValueKey = record { feature = record { file = record { 0 = 0 }; index = 0 }; target = None } in
    reached_more w lib c.args.marks.now c.loop-place.marks c.mark_read.new.marks c.loop-place.place d c.loop-place.invariant
    (let long = ap length c.as_slice-keys.ensures in omega (arith, long))
    (c.in_ok-mark_read.ensures
    ∙ ap (λ ms. marked_all same_value_key c.loop-place.marks (may_read w lib (get_or ms c.loop-place.place d))) c.as_slice-keys.ensures)
