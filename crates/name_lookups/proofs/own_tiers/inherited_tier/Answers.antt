use Rattle.std.proofs.Common.{◌∙◌, ap, cond, subst, false, []}
use Rattle.demand_core.specs.Computation.{done}
use Rattle.demand_core.specs.Search.{IsAsked}
use Rattle.element_store.specs.Kinds.{is_type}
use Rattle.link_model.specs.Inheritance.{inherited}
use Rattle.link_model.specs.Keys.{same_key}
use Rattle.link_model.specs.Outside.{library_of}
use Rattle.link_model.specs.Readers.{element}
use Rattle.link_walk.specs.Calls.{files_of, read_by}
use Rattle.link_walk.specs.Marks.{marked_all, same_fact}
use Rattle.link_walk.specs.Noted.{trail_of}
use Rattle.link_tiers.proofs.PartLaws.{asked_read}
use Rattle.name_lookups.proofs.own_tiers.inherited_tier.Goals as goal

pub returns : goal.returns
returns c =
    let w = read_by c.args.view.now in
    let own = inherited (library_of (files_of c.args.view.now)) false c.args.name.now c.args.of in
    asked_read w (element c.args.of) (λ e. cond (is_type e.kind) own (done [])) c.in_ok-found.found.now c.new-notes.result c.element.new.notes
    c.in_ok-gains.gains (trail_of [] c.gains.inside.found c.append.new.self) c.in_ok-found.ensures.read c.new-notes.ensures
    (subst (λ b. IsAsked c.in_ok-gains.gains (cond b own (done []) w)) c.is_type-is_type.ensures c.in_ok-gains.ensures)
    (ap (λ t. t.found) c.gains.view_is)
    (ap (λ n. n.waits) c.in_ok-append.ensures ∙ λ i. marked_all same_key (c.gains.view_is i).waits c.element.new.notes.waits)
    (ap (λ n. n.looks) c.in_ok-append.ensures ∙ λ i. marked_all same_fact (c.gains.view_is i).looks c.element.new.notes.looks)
