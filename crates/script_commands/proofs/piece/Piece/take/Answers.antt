use Rattle.std.proofs.Common.{◌≡◌, ◌∙◌, ◌+◌, ◌-◌, [], ◌++◌, take, drop, length, ap, arith, rules}
use Rattle.std.proofs.lemmas.List.{length-take-le, with_items_is}
use Rattle.outside_core.proofs.Streams.{taken_none, taken_more}
use Rattle.script_commands.proofs.Windows.{piece_more, at_end}
use Rattle.script_commands.proofs.piece.Piece.take.Goals as goal

pub returns-clause-told : goal.returns-clause-told
returns-clause-told g c =
    let n = c.in_ok-count.count in
    let into = c.take.new.into in
    let items = c.deref_mut.result.now in
    let at = c.make_room.new.self.at in
    let end = c.make_room.new.self.end in
    let same : items ≡ c.make_room.new.self.bytes.items = c.deref_mut.ensures.value in (
      take n into,
      length-take-le n into c.in_ok-count.ensures.bound,
      ap (λ xs. take (end + n - at) (drop at xs)) (with_items_is c.make_room.new.self.bytes _ (search rules))
          ∙ piece_more items into _ at end n c.make_room.ensures.piece.order
          (omega (arith, ap length same, c.make_room.ensures.piece.size, c.make_room.ensures.room))
          c.in_ok-count.ensures.bound
          ∙ ap (λ bs. bs ++ take n into) (ap (λ xs. take (end - at) (drop at xs)) same ∙ c.make_room.ensures.same),
      taken_more _ _ _ _ [] n into (taken_none _) c.in_ok-count.ensures.told,
      at_end _ _ _ n into c.in_ok-count.ensures.told,
    )
