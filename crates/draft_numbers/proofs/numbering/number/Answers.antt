use Rattle.std.proofs.Common.{ap, sym, ◌∙◌, map}
use Rattle.text_model.specs.declared.draft.DraftMember.{DraftMember}
use Rattle.draft_numbers.specs.Numbered.{import_as, member_as, no_lists, with_drafts}
use Rattle.draft_numbers.proofs.Whole.{model_is}
use Rattle.draft_numbers.proofs.numbering.number.Goals as goal

pub returns : goal.returns
returns c = λ w elements members imports.
    let l = c.in_ok-lists.lists in
    c.into_parts.ensures
    ∙ model_is c.args.heading w l c.in_ok-members.members.items c.in_ok-places.places.items c.in_ok-imports.imports.items
    (c.in_ok-lists.ensures ∙ ap (with_drafts no_lists) (sym elements))
    (c.in_ok-members.ensures ∙ ap (map (λ (m : DraftMember). member_as l m.target m)) (sym members))
    (c.in_ok-places.ensures ∙ ap (map (λ (m : DraftMember). m.place)) (c.deref.ensures.value ∙ sym members))
    (c.in_ok-imports.ensures ∙ ap (map (import_as l)) (sym imports))
