use Rattle.std.proofs.Common.{◌∙◌, ap, []}
use Rattle.demand_core.specs.Computation.{joined}
use Rattle.element_store.specs.Condition.{imports_of}
use Rattle.link_model.specs.Keys.{same_key}
use Rattle.link_model.specs.Outside.{library_of}
use Rattle.link_model.specs.Readers.{model}
use Rattle.link_walk.specs.Calls.{files_of, read_by}
use Rattle.link_walk.specs.Marks.{marked_all, same_fact}
use Rattle.link_walk.specs.Noted.{trail_of}
use Rattle.link_tiers.specs.Tiers.{import_part}
use Rattle.link_tiers.proofs.PartLaws.{asked_read}
use Rattle.link_tiers.proofs.NamespaceLaws.{found_same}
use Rattle.link_tiers.proofs.namespaces.import_tier.Goals as goal

pub returns-clause-asked : goal.returns-clause-asked
returns-clause-asked g c =
    let w = read_by c.args.view.now in
    asked_read w (model c.args.at.file)
    (λ d. joined (import_part (library_of (files_of c.args.view.now)) c.args.name.now c.args.before c.args.at d) (imports_of d c.args.at.index))
    c.in_ok-of.of.now c.new-notes.result c.model.new.notes c.in_ok-gains.gains
    (trail_of [] c.gains.inside.found c.append.new.self) c.in_ok-of.ensures.read c.new-notes.ensures c.in_ok-gains.ensures.asked
    (ap (λ t. t.found) c.gains.view_is)
    (ap (λ n. n.waits) c.in_ok-append.ensures ∙ λ i. marked_all same_key (c.gains.view_is i).waits c.model.new.notes.waits)
    (ap (λ n. n.looks) c.in_ok-append.ensures ∙ λ i. marked_all same_fact (c.gains.view_is i).looks c.model.new.notes.looks)

pub returns-clause-found : goal.returns-clause-found
returns-clause-found g c =
    found_same (files_of c.args.view.now) c.in_ok-gains.gains (trail_of [] c.gains.inside.found c.append.new.self) c.model.new.notes.waits
    (ap (λ t. t.found) c.gains.view_is)
    (ap (λ n. n.waits) c.in_ok-append.ensures ∙ λ i. marked_all same_key (c.gains.view_is i).waits c.model.new.notes.waits) c.in_ok-gains.ensures.found
