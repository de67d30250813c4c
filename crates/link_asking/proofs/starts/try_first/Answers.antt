use Rattle.std.proofs.Common.{cond, subst, sym, ◌∙◌}
use Rattle.link_model.specs.Asking.{start}
use Rattle.link_model.specs.Lexical.{last_tiers}
use Rattle.link_walk.specs.Calls.{read_by}
use Rattle.link_tiers.specs.Tiers.{Tried}
use Rattle.link_asking.specs.Hiding.{library_in}
use Rattle.link_asking.specs.Starts.{tiers_from, node_at}
use Rattle.link_asking.proofs.StartLaws.{start_is}
use Rattle.link_asking.proofs.starts.try_first.Goals as goal

pub returns-then-reference-clause-tried : goal.returns-then-reference-clause-tried
returns-then-reference-clause-tried g c =
    let w = read_by c.args.view.now in
    let lib = library_in c.args.view.now in
    let x = c.args.name.now in
    let d = c.args.model.now in
    let at = node_at c.args.number.file c.args.reference.now.context in
    subst (λ b. Tried w (cond b (last_tiers lib c.args.library x) (start lib c.args.reference.now.role c.args.library x d c.args.number.index at))
    c.in_ok-last.last c.args.gains.now c.try_roots.new.gains) (sym c.if-reference.true) c.in_ok-last.ensures.tried

pub returns-clause-tried : goal.returns-clause-tried
returns-clause-tried g c =
    let w = read_by c.args.view.now in
    let lib = library_in c.args.view.now in
    let x = c.args.name.now in
    let d = c.args.model.now in
    let at = node_at c.args.number.file c.args.reference.now.context in
    let end = c.try_begin.new.gains in
    let role = c.args.reference.now.role in
    subst (λ b. Tried w (cond b (last_tiers lib c.args.library x) (start lib role c.args.library x d c.args.number.index at))
    c.in_ok-decided.decided c.args.gains.now end) (sym c.if-reference.false)
    (subst (λ ts. Tried w ts c.in_ok-decided.decided c.args.gains.now end) (start_is lib role c.args.library x d c.args.number.index at)
    (subst (λ b. Tried w (tiers_from lib b c.args.library x d c.args.number.index at) c.in_ok-decided.decided c.args.gains.now end) c.begin_of-begin.ensures
    c.in_ok-decided.ensures.tried))
