use Rattle.std.proofs.Common.{subst}
use Rattle.std.specs.List.{flat_map}
use Rattle.link_model.specs.Lexical.{tiers, last_tiers}
use Rattle.link_walk.specs.Calls.{read_by}
use Rattle.link_tiers.specs.Tiers.{Tried, way_from}
use Rattle.link_tiers.proofs.TierLaws.{tried_on, tried_end}
use Rattle.link_asking.specs.Hiding.{library_in}
use Rattle.link_asking.proofs.starts.try_lexical.Goals as goal

pub returns-then-decided-clause-tried : goal.returns-then-decided-clause-tried
returns-then-decided-clause-tried g c =
    let w = read_by c.args.view.now in
    let lib = library_in c.args.view.now in
    let x = c.args.name.now in
    let first = flat_map (tiers lib x) (way_from c.args.model.now c.args.file c.args.from) in
    tried_end w first (last_tiers lib c.args.library x) c.args.gains.now c.try_outward.new.gains
    (subst (λ b. Tried w first b c.args.gains.now c.try_outward.new.gains) c.if-decided.true c.in_ok-decided.ensures.tried)

pub returns-clause-tried : goal.returns-clause-tried
returns-clause-tried g c =
    let w = read_by c.args.view.now in
    let lib = library_in c.args.view.now in
    let x = c.args.name.now in
    let first = flat_map (tiers lib x) (way_from c.args.model.now c.args.file c.args.from) in
    tried_on w first (last_tiers lib c.args.library x) c.in_ok-last.last c.args.gains.now c.try_outward.new.gains c.try_roots.new.gains
    (subst (λ b. Tried w first b c.args.gains.now c.try_outward.new.gains) c.if-decided.false c.in_ok-decided.ensures.tried) c.in_ok-last.ensures.tried

pub returns-clause-found : goal.returns-clause-found
returns-clause-found g c = λ before. c.in_ok-last.ensures.found (c.in_ok-decided.ensures.found before)
