use Rattle.std.proofs.Common.{List, refl, sym, ◌∙◌, subst, [], arith}
use Rattle.std.specs.Prelude.{◌&&◌}
use Rattle.demand_core.specs.Computation.{done, ◌>>=◌, joined}
use Rattle.element_store.specs.Readings.{redefining_of}
use Rattle.link_model.specs.Keys.{same_element}
use Rattle.element_store.specs.Model.{Data}
use Rattle.link_model.specs.Readers.{Lookup, model}
use Rattle.feature_facts.specs.declared.facts.Redefiner.{Redefiner}
use Rattle.link_walk.specs.Calls.{read_by}
use Rattle.link_walk.specs.Gained.{Gained}
use Rattle.link_walk.proofs.GainLaws.{gains_of, gained_true, gained_false, gained_none, gained_next, gained_all, gained_read}
use Rattle.feature_facts.specs.Stages.{told_of, own_redefiner, redefiners_of}
use Rattle.feature_facts.proofs.facts.take_redefiners.Goals as goal

pub returns-then-left_out : goal.returns-then-left_out
returns-then-left_out c =
    let h = c.args.heir.now in
    let w = read_by h.view.now in
    let u = c.args.owner in
    gained_true w (h.raw && same_element u h.of) (done []) (model u.file >>= λ d. joined (told_of d (own_redefiner u)) (redefining_of d u.index))
    c.args.gains.now c.args.gains.now (sym c.is_left_out-left_out.ensures ∙ c.if-left_out.true) (gained_none w c.args.gains.now)

pub loop-index-init : goal.loop-index-init
loop-index-init c = gained_none (read_by c.args.heir.now.view.now) (gains_of c.gains.inside.found c.model.new.notes)

pub loop-index-preserved : goal.loop-index-preserved
loop-index-preserved c =
    let w = read_by c.args.heir.now.view.now in
    gained_next w (told_of c.in_ok-model.model.now (own_redefiner c.args.owner)) c.redefining-members.result.now c.loop-index.index-index _ _
    (gains_of c.gains.inside.found c.model.new.notes) c.loop-index.gains c.take_redefiner.new.gains c.loop-index-test.true refl c.loop-index.invariant
    (c.in_ok-take_redefiner.ensures w)

pub returns : goal.returns
returns c =
    let h = c.args.heir.now in
    let w = read_by h.view.now in
    let u = c.args.owner in
    let d = c.in_ok-model.model.now in
    let table : Data → Lookup (List Redefiner) = λ m. joined (told_of m (own_redefiner u)) (redefining_of m u.index) in
    subst (λ z. Gained (redefiners_of h.raw h.of u w) z c.loop-index.gains) c.gains.view_is
    (gained_false w (h.raw && same_element u h.of) (done []) (model u.file >>= table) (gains_of c.gains.inside.found c.gains.inside.notes) c.loop-index.gains
    (sym c.is_left_out-left_out.ensures ∙ c.if-left_out.false)
    (gained_read w (model u.file) table d [] c.gains.inside.found c.gains.inside.notes c.model.new.notes c.loop-index.gains c.in_ok-model.ensures.read
    (subst (λ ns. Gained (joined (told_of d (own_redefiner u)) ns w) (gains_of c.gains.inside.found c.model.new.notes) c.loop-index.gains)
    c.redefining-members.ensures.lent
    (gained_all w (told_of d (own_redefiner u)) c.redefining-members.result.now c.loop-index.index-index (gains_of c.gains.inside.found c.model.new.notes)
    c.loop-index.gains (omega (arith, c.loop-index-test.false)) c.loop-index.invariant))))
