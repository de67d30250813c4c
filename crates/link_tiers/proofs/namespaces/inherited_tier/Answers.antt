use Rattle.std.proofs.Common.{◌∙◌, ap, cond, subst, false, []}
use Rattle.demand_core.specs.Computation.{done}
use Rattle.demand_core.specs.Search.{IsAsked}
use Rattle.element_store.specs.Kinds.{is_type}
use Rattle.link_model.specs.Inheritance.{inherited}
use Rattle.link_model.specs.Keys.{same_key}
use Rattle.link_model.specs.Outside.{library_of}
use Rattle.link_model.specs.Readers.{element}
use Rattle.link_walk.specs.Calls.{files_of, read_by}
use Rattle.link_walk.specs.Marks.{marked_all, same_fact}
use Rattle.link_walk.specs.Noted.{trail_of}
use Rattle.link_tiers.proofs.PartLaws.{asked_read}
use Rattle.link_tiers.proofs.NamespaceLaws.{found_same}
use Rattle.link_tiers.proofs.namespaces.inherited_tier.Goals as goal

pub returns-clause-asked : goal.returns-clause-asked
returns-clause-asked g c =
    let w = read_by c.args.view.now in
    let own = inherited (library_of (files_of c.args.view.now)) false c.args.name.now c.args.at in
    asked_read w (element c.args.at) (λ e. cond (is_type e.kind) own (done [])) c.in_ok-of.of.now c.new-notes.result c.element.new.notes c.in_ok-gains.gains
    (trail_of [] c.gains.inside.found c.append.new.self) c.in_ok-of.ensures.read c.new-notes.ensures
    (subst (λ b. IsAsked c.in_ok-gains.gains (cond b own (done []) w)) c.is_type-is_type.ensures c.in_ok-gains.ensures.asked)
    (ap (λ t. t.found) c.gains.view_is)
    (ap (λ n. n.waits) c.in_ok-append.ensures ∙ λ i. marked_all same_key (c.gains.view_is i).waits c.element.new.notes.waits)
    (ap (λ n. n.looks) c.in_ok-append.ensures ∙ λ i. marked_all same_fact (c.gains.view_is i).looks c.element.new.notes.looks)

pub returns-clause-found : goal.returns-clause-found
returns-clause-found g c =
    found_same (files_of c.args.view.now) c.in_ok-gains.gains (trail_of [] c.gains.inside.found c.append.new.self) c.element.new.notes.waits
    (ap (λ t. t.found) c.gains.view_is)
    (ap (λ n. n.waits) c.in_ok-append.ensures ∙ λ i. marked_all same_key (c.gains.view_is i).waits c.element.new.notes.waits) c.in_ok-gains.ensures.found
