use Rattle.std.proofs.Common.{rules, sym, ◌∙◌, ◌≡◌, slice_get}
use Rattle.element_store.proofs.NumberLaws.{item_copied, least_above, least_first}
use Rattle.element_store.proofs.number_search.first_above.Goals as goal

pub returns-in-Some : goal.returns-in-Some
returns-in-Some c =
    let at : slice_get c.args.numbers.now c.count_passed.result ≡ c.copied.result =
    item_copied c.args.numbers.now c.count_passed.result c.get.result c.get.ensures.lookup ∙ sym c.copied.ensures in
    rw c.in-Some.is (least_above c.args.numbers.now c.in-Some.last c.count_passed.result c.copied.result c.requires c.count_passed.ensures at)

pub returns-in-None : goal.returns-in-None
returns-in-None c =
    let at : slice_get c.args.numbers.now 0 ≡ c.copied-in-None.result = search rules in
    rw c.in-None.is (least_first c.args.numbers.now c.copied-in-None.result c.requires at)
