use Rattle.std.proofs.Common.{◌≡◌, ◌+◌, ◌≤◌, ◌++◌, ◌∙◌, drop, length, map, sym, ap, subst, arith}
use Rattle.book_model.specs.Rows.{standing}
use Rattle.project_answers.specs.Spots.{spot_of, spots_of}
use Rattle.project_answers.proofs.OrderLaws.{longer}
use Rattle.project_answers.proofs.SpotLaws.{next_spot, all_spots}
use Rattle.project_answers.proofs.spots.spots.Goals as goal

pub loop-number-preserved : goal.loop-number-preserved
loop-number-preserved c =
    let model = c.args.model.now in
    let long = ap length c.in_ok-push.ensures.items ∙ longer c.loop-number.spots.items _ in
    let few = c.loop-number.invariant.few in
    let below = c.loop-number-test.true in
    let count = c.references-number-end.ensures in
    record {
      so_far = subst (λ xs. xs ++ map spot_of (drop (c.loop-number.number + 1) (standing model)) ≡ spots_of model) (sym c.in_ok-push.ensures.items)
          (next_spot model c.loop-number.number c.place_of_reference-place.result c.loop-number.spots.items (omega (arith, below, count))
          c.place_of_reference-place.ensures c.loop-number.invariant.so_far);
      few = omega (arith, long, few);
    }

pub returns-clause-spots : goal.returns-clause-spots
returns-clause-spots c =
    let ended = c.loop-number-test.false in
    let count = c.references-number-end.ensures in
    let le : length c.args.model.now.references ≤ c.loop-number.number = omega (arith, ended, count) in
    all_spots c.args.model.now c.loop-number.number c.loop-number.spots.items le c.loop-number.invariant.so_far
