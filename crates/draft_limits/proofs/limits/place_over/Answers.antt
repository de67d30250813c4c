use Rattle.std.proofs.Common.{ap, subst, ◌∙◌}
use Rattle.std.specs.Option.{option_to_list}
use Rattle.std.specs.Slice.{IsItemAt}
use Rattle.std.specs.List.Sorted.{IsPermutation}
use Rattle.draft_limits.proofs.Sorting.{item_over, none_over}
use Rattle.draft_limits.proofs.limits.place_over.Goals as goal

pub returns-then-places-le-REFERENCES : goal.returns-then-places-le-REFERENCES
returns-then-places-le-REFERENCES c = none_over 262144 c.args.places.now c.if-places-le-REFERENCES.true

pub returns : goal.returns
returns c = ap option_to_list c.copied.ensures ∙ item_over 262144 c.args.places.now c.sort.new.self.items c.get.result
    (subst (λ l. IsPermutation l c.sort.new.self.items) c.in_ok-sorted.ensures.items c.sort.ensures.permutation)
    c.in_ok-sort.ensures.sorted
    (subst (λ l. IsItemAt l 262144 c.get.result) c.deref.ensures.value c.get.ensures.lookup)
