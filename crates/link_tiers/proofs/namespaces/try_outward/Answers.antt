use Rattle.std.proofs.Common.{◌≡◌, ◌∙◌, ◌<◌, length, sym, subst, arith}
use Rattle.std.specs.Prelude.{Some, IfSome}
use Rattle.link_model.specs.Lexical.{tiers}
use Rattle.link_model.specs.Outside.{library_of}
use Rattle.link_walk.specs.Calls.{files_of, read_by}
use Rattle.root_names.proofs.FileLaws.{get_below}
use Rattle.link_tiers.specs.Tiers.{Tried}
use Rattle.link_tiers.proofs.NamespaceLaws.{IsOnWay, way_begins, way_next, way_decides, way_ends, owner_within, owner_nearer}
use Rattle.link_tiers.proofs.namespaces.try_outward.Goals as goal

pub loop-at-init : goal.loop-at-init
loop-at-init g c = (
  λ is. way_begins (read_by c.args.view.now) (library_of
      (files_of c.args.view.now)) c.args.name.now c.args.model.now is c.args.file c.args.from c.args.gains.now,
  c.requires.from,
  λ before. before,
)

pub loop-at-preserved : goal.loop-at-preserved
loop-at-preserved g c =
    let w = read_by c.args.view.now in
    let lib = library_of (files_of c.args.view.now) in
    let d = c.args.model.now in
    let here = subst (λ o. IfSome o (λ e. e < length d.elements)) c.in-Some.is c.loop-at.invariant.1 in (
      λ is. way_next w lib c.args.name.now d is c.args.file c.args.from c.args.gains.now c.loop-at.gains c.try_namespace.new.gains c.in-Some.index
          c.element.result.now c.element.ensures.lent
          (subst (λ o. IsOnWay w lib c.args.name.now d is c.args.file c.args.from c.args.gains.now o c.loop-at.gains) c.in-Some.is (c.loop-at.invariant.0 is))
          (subst (λ b. Tried w (tiers lib c.args.name.now (record { file = c.args.file; index = c.in-Some.index })) b c.loop-at.gains c.try_namespace.new.gains)
          c.if-decided.false c.in_ok-decided.ensures.tried),
      owner_within c.element.result.now.owner c.in-Some.index (length d.elements) c.element.ensures.owner here,
      λ before. c.in_ok-decided.ensures.found,
    )

pub loop-at-smaller : goal.loop-at-smaller
loop-at-smaller g c = owner_nearer c.element.result.now.owner c.loop-at.at c.in-Some.index c.in-Some.is c.element.ensures.owner

pub returns-then-decided-clause-tried : goal.returns-then-decided-clause-tried
returns-then-decided-clause-tried g c =
    let w = read_by c.args.view.now in
    let lib = library_of (files_of c.args.view.now) in
    let d = c.args.model.now in
    let is = c.elements.ensures.model in
    let here = subst (λ o. IfSome o (λ e. e < length d.elements)) c.in-Some.is c.loop-at.invariant.1 in
    let z = get_below d.elements c.in-Some.index here in
    way_decides w lib c.args.name.now d is c.args.file c.args.from c.args.gains.now c.loop-at.gains c.try_namespace.new.gains c.in-Some.index z.0 z.1
    (subst (λ o. IsOnWay w lib c.args.name.now d is c.args.file c.args.from c.args.gains.now o c.loop-at.gains) c.in-Some.is (c.loop-at.invariant.0 is))
    (subst (λ b. Tried w (tiers lib c.args.name.now (record { file = c.args.file; index = c.in-Some.index })) b c.loop-at.gains c.try_namespace.new.gains)
    c.if-decided.true c.in_ok-decided.ensures.tried)

pub returns-then-decided-clause-found : goal.returns-then-decided-clause-found
returns-then-decided-clause-found g c = λ before. c.in_ok-decided.ensures.found

pub returns-clause-tried : goal.returns-clause-tried
returns-clause-tried g c =
    let w = read_by c.args.view.now in
    let lib = library_of (files_of c.args.view.now) in
    let d = c.args.model.now in
    let is = c.elements.ensures.model in
    way_ends w lib c.args.name.now d is c.args.file c.args.from c.args.gains.now c.loop-at.gains
    (subst (λ o. IsOnWay w lib c.args.name.now d is c.args.file c.args.from c.args.gains.now o c.loop-at.gains) c.in_default.is (c.loop-at.invariant.0 is))

pub returns-clause-found : goal.returns-clause-found
returns-clause-found g c = λ before. c.loop-at.invariant.2 before
