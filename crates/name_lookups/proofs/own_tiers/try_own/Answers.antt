use Rattle.demand_core.specs.Computation.{◌>>=◌}
use Rattle.link_model.specs.Imports.{narrowed}
use Rattle.link_model.specs.Inheritance.{inherited_tier}
use Rattle.link_model.specs.Names.{declared, effective}
use Rattle.link_model.specs.Outside.{library_of}
use Rattle.link_walk.specs.Calls.{files_of, read_by}
use Rattle.name_lookups.proofs.NarrowLaws.{three_first, three_second, three_last}
use Rattle.name_lookups.proofs.own_tiers.try_own.Goals as goal

pub returns-then-first : goal.returns-then-first
returns-then-first c =
    let w = read_by c.args.view.now in
    let lib = library_of (files_of c.args.view.now) in
    let a = declared c.args.name.now c.args.of >>= narrowed c.args.all in
    let b = effective c.args.name.now c.args.of >>= narrowed c.args.all in
    let i = inherited_tier lib c.args.name.now c.args.of >>= narrowed c.args.all in
    three_first w a b i c.args.gains.now c.try_tier.new.gains c.in_ok-first.first (c.in_ok-first.ensures.tried w a c.in_ok-declared.ensures) c.if-first.true

pub returns-then-second : goal.returns-then-second
returns-then-second c =
    let w = read_by c.args.view.now in
    let lib = library_of (files_of c.args.view.now) in
    let a = declared c.args.name.now c.args.of >>= narrowed c.args.all in
    let b = effective c.args.name.now c.args.of >>= narrowed c.args.all in
    let i = inherited_tier lib c.args.name.now c.args.of >>= narrowed c.args.all in
    three_second w a b i c.args.gains.now c.try_tier.new.gains c.try_tier-2.new.gains
    c.in_ok-first.first (c.in_ok-first.ensures.tried w a c.in_ok-declared.ensures) c.if-first.false
    c.in_ok-second.second (c.in_ok-second.ensures.tried w b c.in_ok-effective.ensures) c.if-second.true

pub returns : goal.returns
returns c =
    let w = read_by c.args.view.now in
    let lib = library_of (files_of c.args.view.now) in
    let a = declared c.args.name.now c.args.of >>= narrowed c.args.all in
    let b = effective c.args.name.now c.args.of >>= narrowed c.args.all in
    let i = inherited_tier lib c.args.name.now c.args.of >>= narrowed c.args.all in
    three_last w a b i c.args.gains.now c.try_tier.new.gains c.try_tier-2.new.gains
    c.in_ok-first.first (c.in_ok-first.ensures.tried w a c.in_ok-declared.ensures) c.if-first.false
    c.try_tier-3.new.gains c.in_ok-second.second (c.in_ok-second.ensures.tried w b c.in_ok-effective.ensures) c.if-second.false
    c.in_ok-decided.decided (c.in_ok-decided.ensures.tried w i c.in_ok-inherited.ensures)
