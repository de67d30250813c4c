use Rattle.std.proofs.Common.{refl, arith, subst}
use Rattle.linker_base.specs.Members.{IsMember}
use Rattle.demand_core.specs.Computation.{joined}
use Rattle.demand_core.specs.Search.{IsAsked}
use Rattle.link_model.specs.Outside.{library_of}
use Rattle.link_model.specs.declared.keys.Hit.{Hit}
use Rattle.link_walk.specs.Calls.{files_of, read_by}
use Rattle.link_walk.specs.Noted.{LinkTrail}
use Rattle.link_tiers.specs.Tiers.{import_part}
use Rattle.link_tiers.proofs.PartLaws.{asked_none, asked_next, asked_all}
use Rattle.link_tiers.proofs.namespaces.all_imported.Goals as goal

pub loop-index-init : goal.loop-index-init
loop-index-init g c = (
  asked_none (read_by c.args.view.now) c.new-gains.result c.new-gains.ensures,
  λ none h m. absurd (subst (λ (t : LinkTrail Hit). IsMember t.found h) c.new-gains.ensures m),
)

pub loop-index-preserved : goal.loop-index-preserved
loop-index-preserved g c =
    let w = read_by c.args.view.now in
    let part = import_part (library_of (files_of c.args.view.now)) c.args.name.now c.args.before c.args.at c.args.model.now in (
      asked_next w part c.imports_of-numbers.result.now c.loop-index.index-index _ _ c.loop-index.gains c.add_import.new.gains c.loop-index-test.true refl
          c.loop-index.invariant.0 c.in_ok-add_import.ensures.joins,
      c.in_ok-add_import.ensures.found c.loop-index.invariant.1,
    )

pub returns-clause-asked : goal.returns-clause-asked
returns-clause-asked g c =
    let w = read_by c.args.view.now in
    let part = import_part (library_of (files_of c.args.view.now)) c.args.name.now c.args.before c.args.at c.args.model.now in
    subst (λ ns. IsAsked c.loop-index.gains (joined part ns w)) c.imports_of-numbers.ensures.lent
    (asked_all w part c.imports_of-numbers.result.now c.loop-index.index-index c.loop-index.gains
    (let end = c.loop-index-test.false in omega arith) c.loop-index.invariant.0)
