use Rattle.std.proofs.Common.{◌∙◌, ◌<◌, refl, sym, ap, subst, arith, length}
use Rattle.std.specs.Prelude.{Some}
use Rattle.std.proofs.lemmas.Option.{slice_get_read}
use Rattle.model_printer.specs.Parts.{BeginsAt, begin_before}
use Rattle.model_printer.proofs.PartLaws.{one_at, two_at, choice_at, no_operator_at}
use Rattle.model_printer.proofs.begins.begin_at.Goals as goal

pub begin_before-requires-clause-some : goal.begin_before-requires-clause-some
begin_before-requires-clause-some c =
    let at = slice_get_read c.args.nodes.now (length c.args.nodes.now) c.args.number c.index-nodes-number.result refl c.requires.within c.index-nodes-number.is
    ∙ ap Some c.in-Unary.is in
    (one_at c.args.model.now c.args.nodes.now c.args.begins.now c.args.number c.in-Unary.field-0 c.requires.tree c.requires.begins (omega arith) at).some

pub begin_before-requires-in-Binary-clause-some : goal.begin_before-requires-in-Binary-clause-some
begin_before-requires-in-Binary-clause-some c =
    let at = slice_get_read c.args.nodes.now (length c.args.nodes.now) c.args.number c.index-nodes-number.result refl c.requires.within c.index-nodes-number.is
    ∙ ap Some c.in-Binary.is in
    (two_at c.args.model.now c.args.nodes.now c.args.begins.now c.args.number c.in-Binary.field-0 c.requires.tree c.requires.begins (omega arith) at).some

pub begin_before-second-requires-clause-some : goal.begin_before-second-requires-clause-some
begin_before-second-requires-clause-some c =
    let at = slice_get_read c.args.nodes.now (length c.args.nodes.now) c.args.number c.index-nodes-number.result refl c.requires.within c.index-nodes-number.is
    ∙ ap Some c.in-If.is in
    (choice_at c.args.model.now c.args.nodes.now c.args.begins.now c.args.number c.requires.tree c.requires.begins (omega arith) at).some

pub begin_before-requires-in-Binary-2-clause-some : goal.begin_before-requires-in-Binary-2-clause-some
begin_before-requires-in-Binary-2-clause-some c =
    let at = slice_get_read c.args.nodes.now (length c.args.nodes.now) c.args.number c.index-nodes-number.result refl c.requires.within c.index-nodes-number.is
    ∙ ap Some c.in-Binary.is in
    let two = two_at c.args.model.now c.args.nodes.now c.args.begins.now c.args.number c.in-Binary.field-0 c.requires.tree c.requires.begins (omega arith) at in
    subst (λ k. 0 < k) (sym c.begin_before-in-Binary.ensures) two.first

pub begin_before-requires-in-If-clause-some : goal.begin_before-requires-in-If-clause-some
begin_before-requires-in-If-clause-some c =
    let at = slice_get_read c.args.nodes.now (length c.args.nodes.now) c.args.number c.index-nodes-number.result refl c.requires.within c.index-nodes-number.is
    ∙ ap Some c.in-If.is in
    let choice = choice_at c.args.model.now c.args.nodes.now c.args.begins.now c.args.number c.requires.tree c.requires.begins (omega arith) at in
    subst (λ k. 0 < k) (sym c.begin_before-second.ensures) choice.second

pub begin_before-requires-in-If-2-clause-some : goal.begin_before-requires-in-If-2-clause-some
begin_before-requires-in-If-2-clause-some c =
    let at = slice_get_read c.args.nodes.now (length c.args.nodes.now) c.args.number c.index-nodes-number.result refl c.requires.within c.index-nodes-number.is
    ∙ ap Some c.in-If.is in
    let choice = choice_at c.args.model.now c.args.nodes.now c.args.begins.now c.args.number c.requires.tree c.requires.begins (omega arith) at in
    subst (λ k. 0 < k) (sym (c.begin_before-in-If.ensures ∙ ap (begin_before c.args.begins.now) c.begin_before-second.ensures)) choice.first

pub returns-in-Unary : goal.returns-in-Unary
returns-in-Unary c =
    let at = slice_get_read c.args.nodes.now (length c.args.nodes.now) c.args.number c.index-nodes-number.result refl c.requires.within c.index-nodes-number.is
    ∙ ap Some c.in-Unary.is in
    let one = one_at c.args.model.now c.args.nodes.now c.args.begins.now c.args.number c.in-Unary.field-0 c.requires.tree c.requires.begins (omega arith) at in
    subst (BeginsAt c.args.model.now c.args.nodes.now c.args.number) (sym c.begin_before.ensures) one.begins_at

pub returns-in-Binary : goal.returns-in-Binary
returns-in-Binary c =
    let at = slice_get_read c.args.nodes.now (length c.args.nodes.now) c.args.number c.index-nodes-number.result refl c.requires.within c.index-nodes-number.is
    ∙ ap Some c.in-Binary.is in
    let two = two_at c.args.model.now c.args.nodes.now c.args.begins.now c.args.number c.in-Binary.field-0 c.requires.tree c.requires.begins (omega arith) at in
    subst (BeginsAt c.args.model.now c.args.nodes.now c.args.number)
    (sym (c.begin_before-in-Binary-2.ensures ∙ ap (begin_before c.args.begins.now) c.begin_before-in-Binary.ensures)) two.begins_at

pub returns-in-If : goal.returns-in-If
returns-in-If c =
    let at = slice_get_read c.args.nodes.now (length c.args.nodes.now) c.args.number c.index-nodes-number.result refl c.requires.within c.index-nodes-number.is
    ∙ ap Some c.in-If.is in
    let choice = choice_at c.args.model.now c.args.nodes.now c.args.begins.now c.args.number c.requires.tree c.requires.begins (omega arith) at in
    subst (BeginsAt c.args.model.now c.args.nodes.now c.args.number) (sym (c.begin_before-in-If-2.ensures ∙ ap (begin_before c.args.begins.now)
    (c.begin_before-in-If.ensures ∙ ap (begin_before c.args.begins.now) c.begin_before-second.ensures))) choice.begins_at

pub returns-in_default : goal.returns-in_default
returns-in_default c =
    (no_operator_at c.args.model.now c.args.nodes.now c.args.number c.index-nodes-number.result c.requires.tree
    (slice_get_read c.args.nodes.now (length c.args.nodes.now) c.args.number c.index-nodes-number.result refl c.requires.within c.index-nodes-number.is)
    c.in_default.not-Unary c.in_default.not-Binary c.in_default.not-If).begins_at
