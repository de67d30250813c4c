use Rattle.std.proofs.Common.{◌≡◌, map, take}
use Rattle.draft_numbers.proofs.numbering.member_places.Given as goal

abbrev pub invariant-loop-member : goal.invariant-loop-member
invariant-loop-member l = l.places.items ≡ map (λ m. m.place) (take l.member-index l.members)
