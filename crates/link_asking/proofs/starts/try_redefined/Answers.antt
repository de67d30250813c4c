use Rattle.std.proofs.Common.{true, subst, sym}
use Rattle.link_model.specs.Asking.{from_owner}
use Rattle.link_walk.specs.Calls.{read_by}
use Rattle.link_tiers.specs.Tiers.{Tried, way_from}
use Rattle.link_asking.specs.Hiding.{library_in}
use Rattle.link_asking.specs.Starts.{owner_tiers, node_at}
use Rattle.link_asking.proofs.StartLaws.{redefined_end, redefined_on}
use Rattle.link_asking.proofs.starts.try_redefined.Goals as goal

pub returns-in_default-clause-tried : goal.returns-in_default-clause-tried
returns-in_default-clause-tried g c =
    let from = from_owner (library_in c.args.view.now) c.args.library c.args.name.now c.args.model.now in
    subst (λ o. Tried (read_by c.args.view.now) (from (way_from c.args.model.now c.args.file o)) c.in_ok-last.last c.args.gains.now c.try_roots.new.gains)
    (sym c.in_default.is) c.in_ok-last.ensures.tried

pub returns-then-first-clause-tried : goal.returns-then-first-clause-tried
returns-then-first-clause-tried g c =
    let w = read_by c.args.view.now in
    let lib = library_in c.args.view.now in
    let x = c.args.name.now in
    let d = c.args.model.now in
    let own = c.args.gains.now in
    let mid = c.try_owner.new.gains in
    subst (λ o. Tried w (from_owner lib c.args.library x d (way_from d c.args.file o)) true own mid) (sym c.in-Some.is)
    (redefined_end d c.elements.ensures.model c.args.file c.in-Some.index c.element-of.result.now c.element-of.ensures.lent w lib c.args.library x own mid
    c.is_type-is_type.result c.is_type-is_type.ensures
    (subst (λ b. Tried w (owner_tiers lib c.is_type-is_type.result x (node_at c.args.file c.in-Some.index)) b own mid) c.if-first.true
    c.in_ok-first.ensures.tried))

pub returns-clause-tried : goal.returns-clause-tried
returns-clause-tried g c =
    let w = read_by c.args.view.now in
    let lib = library_in c.args.view.now in
    let x = c.args.name.now in
    let d = c.args.model.now in
    let own = c.args.gains.now in
    let mid = c.try_owner.new.gains in
    let end = c.try_lexical.new.gains in
    subst (λ o. Tried w (from_owner lib c.args.library x d (way_from d c.args.file o)) c.in_ok-decided.decided own end) (sym c.in-Some.is)
    (redefined_on d c.elements.ensures.model c.args.file c.in-Some.index c.element-of.result.now c.element-of.ensures.lent w lib c.args.library x own mid
    c.is_type-is_type.result c.in_ok-decided.decided end c.is_type-is_type.ensures
    (subst (λ b. Tried w (owner_tiers lib c.is_type-is_type.result x (node_at c.args.file c.in-Some.index)) b own mid) c.if-first.false
    c.in_ok-first.ensures.tried)
    c.in_ok-decided.ensures.tried)
