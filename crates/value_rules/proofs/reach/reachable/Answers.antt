use Rattle.std.proofs.Common.{◌∙◌, sym, subst}
use Rattle.value_model.specs.Valuing.{IsReachable}
use Rattle.value_model.proofs.ValueLaws.{reachable_keys}
use Rattle.value_rules.proofs.RuleLaws.{if_ok}
use Rattle.value_rules.proofs.reach.reachable.Goals as goal

pub returns-clause-closed : goal.returns-clause-closed
returns-clause-closed g c =
    let w = g.M.Meanings.links c.args.meanings.now in
    let lib = g.M.Meanings.library c.args.meanings.now in
    if_ok c.listed.result c.listed.ensures (λ keys is.
    reachable_keys w lib keys (subst (IsReachable w lib) (sym (is ∙ c.as_slice.ensures)) c.in_ok-mark_all.ensures.0))
