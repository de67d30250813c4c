use Rattle.std.proofs.Common.{subst, arith, get_or, take}
use Rattle.std.specs.List.{flat_map}
use Rattle.linker_base.specs.Members.{Adds}
use Rattle.linker_base.proofs.MemberLaws.{adds_more}
use Rattle.element_store.specs.declared.numbers.ElementNo.{ElementNo}
use Rattle.link_walk.specs.Calls.{read_by}
use Rattle.value_meanings.specs.Standing.{standing_in}
use Rattle.value_meanings.proofs.ListLaws.{flat_next}
use Rattle.value_meanings.proofs.candidates.add_homes.Goals as goal

pub loop-of-preserved : goal.loop-of-preserved
loop-of-preserved c =
    let g = standing_in (read_by c.args.view.now) c.args.feature in
    let d : ElementNo = record { file = record { 0 = 0 }; index = 0 } in
    subst (λ xs. Adds c.args.found.now c.add_home.new.found xs) (flat_next g c.args.types.now c.loop-of.of-index d (omega arith))
    (adds_more c.args.found.now c.loop-of.found c.add_home.new.found (flat_map g (take c.loop-of.of-index c.args.types.now))
    (g (get_or c.args.types.now c.loop-of.of-index d)) c.loop-of.invariant c.in_ok-add_home.ensures)
