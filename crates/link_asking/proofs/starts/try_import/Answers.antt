use Rattle.std.proofs.Common.{subst, sym}
use Rattle.link_walk.specs.Calls.{read_by}
use Rattle.link_tiers.specs.Tiers.{Tried}
use Rattle.link_asking.specs.Hiding.{library_in}
use Rattle.link_asking.specs.Starts.{body_tiers, node_at}
use Rattle.link_asking.proofs.StartLaws.{body_end, body_on}
use Rattle.link_asking.proofs.starts.try_import.Goals as goal

pub returns-then-first-clause-tried : goal.returns-then-first-clause-tried
returns-then-first-clause-tried g c =
    let w = read_by c.args.view.now in
    let lib = library_in c.args.view.now in
    let x = c.args.name.now in
    let d = c.args.model.now in
    let f = c.args.number.file in
    let own = c.args.gains.now in
    let mid = c.try_body.new.gains in
    body_end d c.elements.ensures.model f c.args.body c.element-of.result.now c.element-of.ensures.lent w lib c.args.library x own mid c.args.number.index
    (subst (λ b. Tried w (body_tiers lib x c.args.number.index (node_at f c.args.body)) b own mid) c.if-first.true c.in_ok-first.ensures.tried)

pub returns-clause-tried : goal.returns-clause-tried
returns-clause-tried g c =
    let w = read_by c.args.view.now in
    let lib = library_in c.args.view.now in
    let x = c.args.name.now in
    let d = c.args.model.now in
    let f = c.args.number.file in
    let own = c.args.gains.now in
    let mid = c.try_body.new.gains in
    let end = c.try_lexical.new.gains in
    body_on d c.elements.ensures.model f c.args.body c.element-of.result.now c.element-of.ensures.lent w lib c.args.library x own mid c.args.number.index
    c.in_ok-decided.decided end
    (subst (λ b. Tried w (body_tiers lib x c.args.number.index (node_at f c.args.body)) b own mid) c.if-first.false c.in_ok-first.ensures.tried)
    c.in_ok-decided.ensures.tried
