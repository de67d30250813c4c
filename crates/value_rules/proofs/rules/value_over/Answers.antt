use Rattle.std.proofs.Common.{◌∙◌, sym, subst}
use Rattle.value_model.specs.Valuing.{NamesFeatures, value_meaning}
use Rattle.value_model.proofs.ValueLaws.{decided_value, cyclic_value}
use Rattle.value_model.proofs.StandLaws.{value_names}
use Rattle.value_rules.proofs.RuleLaws.{if_ok, settles_all}
use Rattle.value_rules.proofs.rules.value_over.Goals as goal

pub returns-in-Decided-clause-names : goal.returns-in-Decided-clause-names
returns-in-Decided-clause-names g c =
    let w = g.M.Meanings.links c.args.rules.now.meanings.now in
    let lib = g.M.Meanings.library c.args.rules.now.meanings.now in
    let keys = c.args.rules.now.keys.now in
    let found = sym (c.in_ok-settle.ensures.least.decided c.args.key) ∙ c.in-Decided.ensures in
    let here = decided_value (value_meaning w lib keys) c.args.key c.in-Decided.answer.now found in
    let sure = value_names w lib keys c.requires.keys c.args.key c.requires.member in
    if_ok c.copy_answer.result c.copy_answer.ensures (λ answer is. subst (NamesFeatures w) (sym (is ∙ here)) sure)

pub returns-in-Cyclic-clause-names : goal.returns-in-Cyclic-clause-names
returns-in-Cyclic-clause-names g c =
    let w = g.M.Meanings.links c.args.rules.now.meanings.now in
    let lib = g.M.Meanings.library c.args.rules.now.meanings.now in
    let keys = c.args.rules.now.keys.now in
    let engine = c.in_ok-settle.ensures.least in
    let here = cyclic_value (value_meaning w lib keys) c.args.key c.in-Cyclic.on (sym (engine.decided c.args.key) ∙ c.in-Cyclic.ensures.0)
    (sym (engine.cyclic c.args.key) ∙ c.in-Cyclic.ensures.1) in
    subst (NamesFeatures w) (sym here) (value_names w lib keys c.requires.keys c.args.key c.requires.member)

pub settle-requires-clause-ready : goal.settle-requires-clause-ready
settle-requires-clause-ready g c =
    let w = g.M.Meanings.links c.args.rules.now.meanings.now in
    let lib = g.M.Meanings.library c.args.rules.now.meanings.now in
    settles_all (value_meaning w lib c.args.rules.now.keys.now)
    c.as_slice.result.now c.new-engine.result c.as_slice.ensures c.new-engine.ensures
