use Rattle.link_model.specs.Inheritance.{inherited_tier}
use Rattle.link_model.specs.Lexical.{imports_before}
use Rattle.link_model.specs.Names.{declared, effective}
use Rattle.link_model.specs.Outside.{library_of}
use Rattle.link_walk.specs.Calls.{files_of, read_by}
use Rattle.link_tiers.proofs.NamespaceLaws.{four_first, four_second, four_third, four_last}
use Rattle.link_asking.proofs.starts.try_body.Goals as goal

pub returns-then-first-clause-tried : goal.returns-then-first-clause-tried
returns-then-first-clause-tried g c =
    let w = read_by c.args.view.now in
    let lib = library_of (files_of c.args.view.now) in
    let x = c.args.name.now in
    let n = c.args.at in
    four_first w (declared x n) (effective x n) (inherited_tier lib x n) (imports_before lib c.args.import x n) c.args.gains.now c.try_tier.new.gains
    c.in_ok-first.first (c.in_ok-first.ensures.tried w (declared x n) c.in_ok-declared.ensures.asked) c.if-first.true

pub returns-then-first-clause-found : goal.returns-then-first-clause-found
returns-then-first-clause-found g c = c.in_ok-first.ensures.found (files_of c.args.view.now) c.in_ok-declared.ensures.found

pub returns-then-second-clause-tried : goal.returns-then-second-clause-tried
returns-then-second-clause-tried g c =
    let w = read_by c.args.view.now in
    let lib = library_of (files_of c.args.view.now) in
    let x = c.args.name.now in
    let n = c.args.at in
    four_second w (declared x n) (effective x n) (inherited_tier lib x n) (imports_before lib c.args.import x n) c.args.gains.now c.try_tier.new.gains
    c.try_tier-2.new.gains
    c.in_ok-first.first (c.in_ok-first.ensures.tried w (declared x n) c.in_ok-declared.ensures.asked) c.if-first.false
    c.in_ok-second.second (c.in_ok-second.ensures.tried w (effective x n) c.in_ok-effective.ensures.asked) c.if-second.true

pub returns-then-second-clause-found : goal.returns-then-second-clause-found
returns-then-second-clause-found g c = c.in_ok-second.ensures.found (files_of c.args.view.now) c.in_ok-effective.ensures.found

pub returns-then-third-clause-tried : goal.returns-then-third-clause-tried
returns-then-third-clause-tried g c =
    let w = read_by c.args.view.now in
    let lib = library_of (files_of c.args.view.now) in
    let x = c.args.name.now in
    let n = c.args.at in
    four_third w (declared x n) (effective x n) (inherited_tier lib x n) (imports_before lib c.args.import x n) c.args.gains.now c.try_tier.new.gains
    c.try_tier-2.new.gains
    c.in_ok-first.first (c.in_ok-first.ensures.tried w (declared x n) c.in_ok-declared.ensures.asked) c.if-first.false
    c.try_tier-3.new.gains c.in_ok-second.second (c.in_ok-second.ensures.tried w (effective x n) c.in_ok-effective.ensures.asked) c.if-second.false
    c.in_ok-third.third (c.in_ok-third.ensures.tried w (inherited_tier lib x n) c.in_ok-inherited.ensures.asked) c.if-third.true

pub returns-then-third-clause-found : goal.returns-then-third-clause-found
returns-then-third-clause-found g c = c.in_ok-third.ensures.found (files_of c.args.view.now) c.in_ok-inherited.ensures.found

pub returns-clause-tried : goal.returns-clause-tried
returns-clause-tried g c =
    let w = read_by c.args.view.now in
    let lib = library_of (files_of c.args.view.now) in
    let x = c.args.name.now in
    let n = c.args.at in
    four_last w (declared x n) (effective x n) (inherited_tier lib x n) (imports_before lib c.args.import x n) c.args.gains.now c.try_tier.new.gains
    c.try_tier-2.new.gains
    c.in_ok-first.first (c.in_ok-first.ensures.tried w (declared x n) c.in_ok-declared.ensures.asked) c.if-first.false
    c.try_tier-3.new.gains c.in_ok-second.second (c.in_ok-second.ensures.tried w (effective x n) c.in_ok-effective.ensures.asked) c.if-second.false
    c.try_tier-4.new.gains c.in_ok-third.third c.in_ok-fourth.fourth (c.in_ok-third.ensures.tried w
    (inherited_tier lib x n) c.in_ok-inherited.ensures.asked) c.if-third.false
    (c.in_ok-fourth.ensures.tried w (imports_before lib c.args.import x n) c.in_ok-imported.ensures.asked)

pub returns-clause-found : goal.returns-clause-found
returns-clause-found g c = c.in_ok-fourth.ensures.found (files_of c.args.view.now) c.in_ok-imported.ensures.found
