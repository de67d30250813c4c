use Rattle.std.proofs.Common.{◌∙◌, [], sym, ap, subst}
use Rattle.std.specs.List.{flat_map}
use Rattle.linker_base.specs.Members.{Adds, IsEachOnce, SameMembers}
use Rattle.link_model.specs.Keys.{same_element, element_is_exact}
use Rattle.link_model.specs.Outside.{library_of}
use Rattle.link_walk.specs.Calls.{files_of, read_by}
use Rattle.link_walk.specs.Marks.{marked_all}
use Rattle.link_walk.proofs.MarkLaws.{all_once}
use Rattle.value_model.specs.Meant.{standing_for}
use Rattle.value_meanings.specs.Standing.{standing_in}
use Rattle.value_meanings.proofs.StandingLaws.{candidates_all, none_stand}
use Rattle.value_meanings.proofs.candidates.candidates.Goals as goal

pub returns-clause-same : goal.returns-clause-same
returns-clause-same c =
    candidates_all c.args.view.now c.args.feature c.args.target c.in_ok-types.types c.add_home.new.found c.add_homes.new.found c.in_ok-each.each
    c.in_ok-types.ensures
    (subst (λ xs. Adds xs c.add_home.new.found (standing_in (read_by c.args.view.now) c.args.feature c.args.target)) c.new-found.ensures
    c.in_ok-add_home.ensures)
    (subst (λ ts. Adds c.add_home.new.found c.add_homes.new.found (flat_map (standing_in (read_by c.args.view.now) c.args.feature) ts)) c.as_slice.ensures
    c.in_ok-add_homes.ensures) (c.in_ok-each.ensures ∙ ap (marked_all same_element []) c.as_slice-2.ensures)

pub returns-clause-once : goal.returns-clause-once
returns-clause-once c =
    subst IsEachOnce (sym (c.in_ok-each.ensures)) (all_once same_element element_is_exact c.as_slice-2.result.now [] tt)

pub returns-in_default-clause-same : goal.returns-in_default-clause-same
returns-in_default-clause-same c =
    let v = c.args.view.now in
    subst (λ es. SameMembers es (standing_for (read_by v) (library_of (files_of v)) c.args.feature c.args.target)) (sym c.new-found.ensures)
    (none_stand v c.args.feature c.args.target c.in_default.ensures)
