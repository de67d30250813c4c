use Rattle.std.proofs.Common.{ℕ, List, refl, subst, []}
use Rattle.std.specs.Prelude.{cond, ◌&&◌}
use Rattle.demand_core.specs.Computation.{done}
use Rattle.link_model.specs.Imports.{owning_hit}
use Rattle.link_model.specs.Names.{names}
use Rattle.link_model.specs.Readers.{Lookup, is_named}
use Rattle.link_model.specs.declared.keys.Hit.{Hit}
use Rattle.link_walk.specs.Calls.{files_of, read_by}
use Rattle.link_walk.specs.Gained.{Gained}
use Rattle.link_walk.proofs.GainLaws.{gains_of, gained_none}
use Rattle.owned_names.specs.Walked.{Leaves, named_by, own_names}
use Rattle.owned_names.specs.declared.naming.Naming.TheVariants.{Open, Nameless, By}
use Rattle.name_lookups.specs.Under.{by_names}
use Rattle.name_lookups.proofs.NameLaws.{named_on, named_open}
use Rattle.name_lookups.proofs.under.take_named_both.Goals as goal

pub returns-in_ok-wait_on-in-Open : goal.returns-in_ok-wait_on-in-Open
returns-in_ok-wait_on-in-Open c =
    let w = read_by c.args.view.now in
    let files = files_of c.args.view.now in
    let e = c.args.element in
    let found = c.gains.inside.found in
    let after : List (List ℕ) → Lookup (List Hit) = λ ns. cond (is_named c.args.name.now ns && is_named c.args.last.now ns) (owning_hit e) (done []) in
    subst (λ z. Gained (by_names c.args.name.now c.args.last.now e w) z (gains_of found c.wait_on.new.self)) c.gains.view_is
    (named_open w (names e) after (named_by files (Open c.in-Open.reference)) found c.gains.inside.notes c.naming_of.new.notes
    (subst (λ n. Leaves c.gains.inside.notes c.naming_of.new.notes (named_by files n) (names e w)) c.in-Open.is c.in_ok-reference.ensures.names) refl
    (record { 0 = c.in-Open.reference }) c.wait_on.new.self refl c.in_ok-wait_on-in-Open.ensures)

pub returns-in-Nameless : goal.returns-in-Nameless
returns-in-Nameless c =
    let w = read_by c.args.view.now in
    let files = files_of c.args.view.now in
    let e = c.args.element in
    let found = c.gains.inside.found in
    let after : List (List ℕ) → Lookup (List Hit) = λ ns. cond (is_named c.args.name.now ns && is_named c.args.last.now ns) (owning_hit e) (done []) in
    subst (λ z. Gained (by_names c.args.name.now c.args.last.now e w) z (gains_of found c.naming_of.new.notes)) c.gains.view_is
    (named_on w (names e) after (named_by files Nameless) found c.gains.inside.notes c.naming_of.new.notes
    (subst (λ n. Leaves c.gains.inside.notes c.naming_of.new.notes (named_by files n) (names e w)) c.in-Nameless.is c.in_ok-reference.ensures.names) refl
    [] (gains_of found c.naming_of.new.notes) refl (gained_none w (gains_of found c.naming_of.new.notes)))

pub returns-in_ok-take_owning_if-in-By : goal.returns-in_ok-take_owning_if-in-By
returns-in_ok-take_owning_if-in-By c =
    let w = read_by c.args.view.now in
    let files = files_of c.args.view.now in
    let e = c.args.element in
    let o = c.in-By.other in
    let found = c.gains.inside.found in
    let after : List (List ℕ) → Lookup (List Hit) = λ ns. cond (is_named c.args.name.now ns && is_named c.args.last.now ns) (owning_hit e) (done []) in
    let new = c.take_owning_if.new.gains in
    subst (λ z. Gained (by_names c.args.name.now c.args.last.now e w) z new) c.gains.view_is
    (named_on w (names e) after (named_by files (By o)) found c.gains.inside.notes c.naming_of.new.notes
    (subst (λ n. Leaves c.gains.inside.notes c.naming_of.new.notes (named_by files n) (names e w)) c.in-By.is c.in_ok-reference.ensures.names) refl
    (own_names files o) new refl
    (subst (λ b. Gained (cond b (owning_hit e) (done []) w) (gains_of found c.naming_of.new.notes) new) c.has_both-both.ensures
    c.in_ok-take_owning_if-in-By.ensures))
