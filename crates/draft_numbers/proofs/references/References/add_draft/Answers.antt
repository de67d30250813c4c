use Rattle.std.proofs.Common.{◌++◌, refl, ap, ◌∙◌}
use Rattle.element_store.specs.declared.outcome.Role.TheVariants as role
use Rattle.text_model.specs.Drafts.{mentions, names}
use Rattle.text_model.specs.Numbering.{bounds_of, ends, head}
use Rattle.draft_numbers.specs.Numbered.{added, next}
use Rattle.draft_numbers.proofs.Grown.{then_added}
use Rattle.draft_numbers.proofs.OneDraft.{bounds_begin, element_is, headed, inner_begins, values_begin}
use Rattle.draft_numbers.proofs.references.References.add_draft.Goals as goal

pub returns-clause-element : goal.returns-clause-element
returns-clause-element c =
    let e = c.args.context in
    let d = c.args.draft in
    let r0 = c.args.self.now in
    let r2 = c.add_own.new.self in
    let r3 = c.add_bounds.new.self in
    element_is (next r0) d (next r2) (next r3) c.in_ok-bounds.bounds c.in_ok-value.value c.in_ok-value.result
    (bounds_begin e d r0 r2 (c.in_ok-add_own.ensures ∙ ap (λ k. added e (mentions k d.own ++ d.specs) r0) c.own_role.ensures))
    (values_begin e d r0 r2 r3 (c.in_ok-add_own.ensures ∙ ap (λ k. added e (mentions k d.own ++ d.specs) r0) c.own_role.ensures)
    (c.in_ok-bounds.ensures.added ∙ ap (λ ns. added e (mentions role.Bound (names (ends ns))) r2) c.into_vec.ensures))
    (c.in_ok-bounds.ensures.bounds ∙ ap (λ ns. bounds_of (next r2) ns) c.into_vec.ensures)
    c.in_ok-value.ensures.first c.in_ok-value.ensures.second

pub returns-clause-items : goal.returns-clause-items
returns-clause-items c = refl

pub returns-clause-base : goal.returns-clause-base
returns-clause-base c =
    let e = c.args.context in
    let d = c.args.draft in
    let r0 = c.args.self.now in
    let r2 = c.add_own.new.self in
    let r3 = c.add_bounds.new.self in
    let r5 = c.add_expressions.new.self in
    c.in_ok-base.ensures ∙ inner_begins e d r0 r5
    (headed e d r0 r2 r3 r5
    (c.in_ok-add_own.ensures ∙ ap (λ k. added e (mentions k d.own ++ d.specs) r0) c.own_role.ensures)
    (c.in_ok-bounds.ensures.added ∙ ap (λ ns. added e (mentions role.Bound (names (ends ns))) r2) c.into_vec.ensures) c.in_ok-value.ensures.added)

pub returns-clause-added : goal.returns-clause-added
returns-clause-added c =
    let e = c.args.context in
    let d = c.args.draft in
    let r0 = c.args.self.now in
    let r2 = c.add_own.new.self in
    let r3 = c.add_bounds.new.self in
    let r5 = c.add_expressions.new.self in
    then_added e (head d) d.inner r0 r5 c.add_mentions.new.self
    (headed e d r0 r2 r3 r5
    (c.in_ok-add_own.ensures ∙ ap (λ k. added e (mentions k d.own ++ d.specs) r0) c.own_role.ensures)
    (c.in_ok-bounds.ensures.added ∙ ap (λ ns. added e (mentions role.Bound (names (ends ns))) r2) c.into_vec.ensures) c.in_ok-value.ensures.added)
    (c.in_ok-add_mentions.ensures ∙ ap (λ ms. added e ms r5) c.into_vec-2.ensures)
