use Rattle.std.proofs.Common.{◌≡◌, subst}
use Rattle.std.specs.Prelude.{IfOk}
use Rattle.linked_project.specs.AskedPairs.{pair_by}
use Rattle.linked_project.proofs.PairLaws.{pair_spelt}
use Rattle.linked_project.proofs.asked_pair.pair_in.Goals as goal

pub returns-in-Ok-clause-spellable : goal.returns-in-Ok-clause-spellable
returns-in-Ok-clause-spellable c =
    pair_spelt c.args.words.now c.in-Ok.tokens c.in-Ok.ensures.each c.pair_by.result
    (subst (λ ts. IfOk c.pair_by.result (λ p. p ≡ pair_by c.args.words.now ts)) c.as_slice.ensures c.pair_by.ensures)
