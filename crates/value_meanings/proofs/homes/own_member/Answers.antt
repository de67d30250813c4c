use Rattle.std.proofs.Common.{◌∙◌, sym}
use Rattle.value_meanings.proofs.HomeLaws.{own_other}
use Rattle.value_meanings.proofs.homes.own_member.Goals as goal

pub returns-else-eq : goal.returns-else-eq
returns-else-eq c =
    λ k within below own.
    own_other c.args.model.now c.args.of c.args.feature k c.in_ok-index.index c.member.result.now c.elements.ensures.model c.in_ok-index.ensures.member
    c.member.ensures.lent (sym c.eq.ensures ∙ c.if-eq.false) own
