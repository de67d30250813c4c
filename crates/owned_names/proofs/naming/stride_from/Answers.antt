use Rattle.std.proofs.Common.{sym, ◌∙◌, ap, subst, not, []}
use Rattle.std.specs.Prelude.{suc}
use Rattle.element_store.specs.Model.{Data}
use Rattle.element_store.specs.declared.records.Element.{Element}
use Rattle.element_store.specs.Readings.{redefinitions_in}
use Rattle.link_model.specs.Names.{names_from, declared_names}
use Rattle.link_model.specs.Readers.{is_nil, key, target}
use Rattle.link_walk.specs.Calls.{read_by, step_of}
use Rattle.link_walk.specs.Noted.{Noted, noted}
use Rattle.link_walk.specs.declared.reading.Read.TheVariants.{Open, Nowhere, At}
use Rattle.owned_names.specs.Walked.{Leaves, first_in, named_by}
use Rattle.owned_names.specs.declared.naming.Naming.TheVariants.{By, Nameless}
use Rattle.owned_names.proofs.WayLaws.{step_named, step_walked, step_none, step_read, own_is, done_same, feature_of}
use Rattle.owned_names.proofs.naming.stride_from.Goals as goal

pub returns-then-named-clause-leaves : goal.returns-then-named-clause-leaves
returns-then-named-clause-leaves c n =
    let files = c.args.view.now.models.now in
    let table = c.args.view.now.table.now in
    let e = c.args.at in
    let there = done_same _ _ c.in_ok-model.ensures.read.step in
    let is = own_is files e c.in_ok-model.model.now c.element.result.now there c.element.ensures.lent in
    subst (λ (m : Noted). Leaves c.args.notes.now m (named_by files (By e)) (names_from (suc n) c.args.walked.now e (read_by c.args.view.now)))
    (sym c.in_ok-model.ensures.read.noted)
    (step_named files table e n c.args.walked.now c.args.notes.now (ap (λ (x : Element). not (is_nil (declared_names x.short x.name))) is ∙
    (sym c.has_name-named.ensures ∙ c.if-named.true)))

pub returns-then-passed-clause-leaves : goal.returns-then-passed-clause-leaves
returns-then-passed-clause-leaves c n =
    let files = c.args.view.now.models.now in
    let table = c.args.view.now.table.now in
    let e = c.args.at in
    let there = done_same _ _ c.in_ok-model.ensures.read.step in
    let is = own_is files e c.in_ok-model.model.now c.element.result.now there c.element.ensures.lent in
    subst (λ (m : Noted). Leaves c.args.notes.now m (named_by files Nameless) (names_from (suc n) c.args.walked.now e (read_by c.args.view.now)))
    (sym c.in_ok-model.ensures.read.noted)
    (step_walked files table e n c.args.walked.now c.args.notes.now (ap (λ (x : Element). not (is_nil (declared_names x.short x.name))) is ∙
    (sym c.has_name-named.ensures ∙ c.if-named.false))
    (sym c.has-passed.ensures ∙ c.if-passed.true))

pub returns-in_default-clause-leaves : goal.returns-in_default-clause-leaves
returns-in_default-clause-leaves c n =
    let files = c.args.view.now.models.now in
    let table = c.args.view.now.table.now in
    let e = c.args.at in
    let there = done_same _ _ c.in_ok-model.ensures.read.step in
    let is = own_is files e c.in_ok-model.model.now c.element.result.now there c.element.ensures.lent in
    subst (λ (m : Noted). Leaves c.args.notes.now m (named_by files Nameless) (names_from (suc n) c.args.walked.now e (read_by c.args.view.now)))
    (sym c.in_ok-model.ensures.read.noted)
    (step_none files table e n c.args.walked.now c.args.notes.now (ap (λ (x : Element). not (is_nil (declared_names x.short x.name))) is ∙
    (sym c.has_name-named.ensures ∙ c.if-named.false))
    (sym c.has-passed.ensures ∙ c.if-passed.false) (ap (λ (d : Data). first_in (redefinitions_in d.references e.index)) there ∙ sym c.in_default.ensures.first))

pub returns-in-Open-clause-leaves : goal.returns-in-Open-clause-leaves
returns-in-Open-clause-leaves c n =
    let files = c.args.view.now.models.now in
    let table = c.args.view.now.table.now in
    let e = c.args.at in
    let there = done_same _ _ c.in_ok-model.ensures.read.step in
    let is = own_is files e c.in_ok-model.model.now c.element.result.now there c.element.ensures.lent in
    let first = sym c.in-Some.ensures.first in
    step_read files table e n c.args.walked.now c.args.notes.now c.read_target.new.notes c.in-Some.index (ap (λ (x : Element). not (is_nil
    (declared_names x.short x.name))) is ∙ (sym c.has_name-named.ensures ∙ c.if-named.false))
    (sym c.has-passed.ensures ∙ c.if-passed.false) (feature_of files e c.in_ok-model.model.now c.in-Some.index there c.in_ok-model.ensures.whole first)
    (ap (λ (d : Data). first_in (redefinitions_in d.references e.index)) there ∙ first) (Open c.in-Open.reference) (c.in_ok-reference.ensures.read
    ∙ ap step_of c.in-Open.is)
    (c.in_ok-reference.ensures.looks ∙ ap (noted [] (target (key e.file c.in-Some.index) (read_by c.args.view.now)).looks) c.in_ok-model.ensures.read.noted)

pub returns-in-Nowhere-clause-leaves : goal.returns-in-Nowhere-clause-leaves
returns-in-Nowhere-clause-leaves c n =
    let files = c.args.view.now.models.now in
    let table = c.args.view.now.table.now in
    let e = c.args.at in
    let there = done_same _ _ c.in_ok-model.ensures.read.step in
    let is = own_is files e c.in_ok-model.model.now c.element.result.now there c.element.ensures.lent in
    let first = sym c.in-Some.ensures.first in
    step_read files table e n c.args.walked.now c.args.notes.now c.read_target.new.notes c.in-Some.index (ap (λ (x : Element). not (is_nil
    (declared_names x.short x.name))) is ∙ (sym c.has_name-named.ensures ∙ c.if-named.false))
    (sym c.has-passed.ensures ∙ c.if-passed.false) (feature_of files e c.in_ok-model.model.now c.in-Some.index there c.in_ok-model.ensures.whole first)
    (ap (λ (d : Data). first_in (redefinitions_in d.references e.index)) there ∙ first) Nowhere (c.in_ok-reference.ensures.read ∙ ap step_of c.in-Nowhere.is)
    (c.in_ok-reference.ensures.looks ∙ ap (noted [] (target (key e.file c.in-Some.index) (read_by c.args.view.now)).looks) c.in_ok-model.ensures.read.noted)

pub returns-in-At-clause-leaves : goal.returns-in-At-clause-leaves
returns-in-At-clause-leaves c n =
    let files = c.args.view.now.models.now in
    let table = c.args.view.now.table.now in
    let e = c.args.at in
    let there = done_same _ _ c.in_ok-model.ensures.read.step in
    let is = own_is files e c.in_ok-model.model.now c.element.result.now there c.element.ensures.lent in
    let first = sym c.in-Some.ensures.first in
    step_read files table e n c.args.walked.now c.args.notes.now c.read_target.new.notes c.in-Some.index (ap (λ (x : Element). not (is_nil
    (declared_names x.short x.name))) is ∙ (sym c.has_name-named.ensures ∙ c.if-named.false))
    (sym c.has-passed.ensures ∙ c.if-passed.false) (feature_of files e c.in_ok-model.model.now c.in-Some.index there c.in_ok-model.ensures.whole first)
    (ap (λ (d : Data). first_in (redefinitions_in d.references e.index)) there ∙ first) (At c.in-At.element) (c.in_ok-reference.ensures.read
    ∙ ap step_of c.in-At.is)
    (c.in_ok-reference.ensures.looks ∙ ap (noted [] (target (key e.file c.in-Some.index) (read_by c.args.view.now)).looks) c.in_ok-model.ensures.read.noted)
