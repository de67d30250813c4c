use Rattle.std.proofs.Common.{◌≡◌, ◌∙◌, suc, ◌+◌, ◌<◌, ◌∷◌, refl, sym, ap, subst, arith, add-one, length, reverse}
use Rattle.std.specs.Prelude.{Some}
use Rattle.std.proofs.lemmas.Option.{slice_get_read}
use Rattle.element_store.specs.Condition.{has_reference}
use Rattle.print_model.specs.Trees.{level_between}
use Rattle.model_printer.specs.declared.signs.Sign.TheVariants.{Question}
use Rattle.model_printer.specs.declared.expressions.Work.TheVariants.{Part, Mark, Operator, Else}
use Rattle.model_printer.specs.Parts.{begin_before}
use Rattle.model_printer.specs.Turns.{IsEntered}
use Rattle.model_printer.proofs.PartLaws.{one_at, two_at, choice_at, no_operator_at}
use Rattle.model_printer.proofs.TurnLaws.{pushed, name_passes, leaf_entered, one_entered, two_entered, choice_entered}
use Rattle.model_printer.proofs.expressions.enter_part.Goals as goal

pub begin_before-requires-clause-some : goal.begin_before-requires-clause-some
begin_before-requires-clause-some c =
    let at = slice_get_read c.args.nodes.now (length c.args.nodes.now) c.args.number c.index-nodes-number.result refl c.requires.part c.index-nodes-number.is
    ∙ ap Some c.in-Binary.is in
    (two_at c.args.model.now c.args.nodes.now c.args.begins.now c.args.number c.in-Binary.op c.requires.expression.tree c.requires.begins (omega arith) at).some

pub begin_before-second-requires-clause-some : goal.begin_before-second-requires-clause-some
begin_before-second-requires-clause-some c =
    let at = slice_get_read c.args.nodes.now (length c.args.nodes.now) c.args.number c.index-nodes-number.result refl c.requires.part c.index-nodes-number.is
    ∙ ap Some c.in-If.is in
    (choice_at c.args.model.now c.args.nodes.now c.args.begins.now c.args.number c.requires.expression.tree c.requires.begins (omega arith) at).some

pub begin_before-requires-in-If-clause-some : goal.begin_before-requires-in-If-clause-some
begin_before-requires-in-If-clause-some c =
    let at = slice_get_read c.args.nodes.now (length c.args.nodes.now) c.args.number c.index-nodes-number.result refl c.requires.part c.index-nodes-number.is
    ∙ ap Some c.in-If.is in
    let choice = choice_at c.args.model.now c.args.nodes.now c.args.begins.now c.args.number c.requires.expression.tree c.requires.begins (omega arith) at in
    subst (λ k. 0 < k) (sym c.begin_before-second.ensures) choice.second

pub write_leaf-requires : goal.write_leaf-requires
write_leaf-requires c =
    name_passes (has_reference c.args.model.now) c.args.nodes.now c.args.number c.index-nodes-number.result c.requires.expression.names
    (slice_get_read c.args.nodes.now (length c.args.nodes.now) c.args.number c.index-nodes-number.result refl c.requires.part c.index-nodes-number.is)

pub returns-in_ok-push-in-Unary : goal.returns-in_ok-push-in-Unary
returns-in_ok-push-in-Unary c =
    let at = slice_get_read c.args.nodes.now (length c.args.nodes.now) c.args.number c.index-nodes-number.result refl c.requires.part c.index-nodes-number.is
    ∙ ap Some c.in-Unary.is in
    subst (IsEntered c.args.model.now c.args.nodes.now (suc c.args.number) c.args.writer.now c.write_before.new.writer (reverse c.args.works.now.items))
    (sym (ap reverse c.in_ok-push-in-Unary.ensures.items ∙ pushed c.args.works.now.items (Part c.args.number 9)))
    (one_entered c.args.model.now c.args.nodes.now c.args.begins.now c.args.number c.in-Unary.op c.args.writer.now c.write_before.new.writer
    (reverse c.args.works.now.items)
    (one_at c.args.model.now c.args.nodes.now c.args.begins.now c.args.number c.in-Unary.op c.requires.expression.tree c.requires.begins (omega arith) at)
    c.requires.part (c.in_ok-write_before-in-Unary.ensures c.args.model.now.language) c.requires.works)

pub returns-in_ok-push-in-Binary-3 : goal.returns-in_ok-push-in-Binary-3
returns-in_ok-push-in-Binary-3 c =
    let at = slice_get_read c.args.nodes.now (length c.args.nodes.now) c.args.number c.index-nodes-number.result refl c.requires.part c.index-nodes-number.is
    ∙ ap Some c.in-Binary.is in
    let o = c.in-Binary.op in
    let works = reverse c.args.works.now.items in
    let first : reverse c.push-in-Binary.new.self.items ≡ Part c.args.number (suc (level_between o)) ∷ works =
    ap reverse c.in_ok-push-in-Binary.ensures.items ∙ pushed c.args.works.now.items (Part c.args.number (c.level_between-level.result + 1))
    ∙ ap (λ k. Part c.args.number k ∷ works) (add-one c.level_between-level.result ∙ ap suc c.level_between-level.ensures) in
    let second : reverse c.push-in-Binary-2.new.self.items ≡ Operator o ∷ Part c.args.number (suc (level_between o)) ∷ works =
    ap reverse c.in_ok-push-in-Binary-2.ensures.items ∙ pushed c.push-in-Binary.new.self.items (Operator o) ∙ ap (λ ws. Operator o ∷ ws) first in
    let third : reverse c.push-in-Binary-3.new.self.items
    ≡ Part (begin_before c.args.begins.now c.args.number) (level_between o) ∷ Operator o ∷ Part c.args.number (suc (level_between o)) ∷ works =
    ap reverse c.in_ok-push-in-Binary-3.ensures.items
    ∙ pushed c.push-in-Binary-2.new.self.items (Part c.begin_before.result c.level_between-level.result)
    ∙ ap (λ k. Part k c.level_between-level.result ∷ reverse c.push-in-Binary-2.new.self.items) c.begin_before.ensures
    ∙ ap (λ k. Part (begin_before c.args.begins.now c.args.number) k ∷ reverse c.push-in-Binary-2.new.self.items) c.level_between-level.ensures
    ∙ ap (λ ws. Part (begin_before c.args.begins.now c.args.number) (level_between o) ∷ ws) second in
    subst (IsEntered c.args.model.now c.args.nodes.now (suc c.args.number) c.args.writer.now c.args.writer.now works) (sym third)
    (two_entered c.args.model.now c.args.nodes.now c.args.begins.now c.args.number o c.args.writer.now works
    (two_at c.args.model.now c.args.nodes.now c.args.begins.now c.args.number o c.requires.expression.tree c.requires.begins (omega arith) at)
    c.requires.part c.requires.works)

pub returns-in_ok-push-in-If-5 : goal.returns-in_ok-push-in-If-5
returns-in_ok-push-in-If-5 c =
    let at = slice_get_read c.args.nodes.now (length c.args.nodes.now) c.args.number c.index-nodes-number.result refl c.requires.part c.index-nodes-number.is
    ∙ ap Some c.in-If.is in
    let works = reverse c.args.works.now.items in
    let j = begin_before c.args.begins.now c.args.number in
    let i = begin_before c.args.begins.now j in
    let first : reverse c.push-in-If.new.self.items ≡ Part c.args.number 0 ∷ works =
    ap reverse c.in_ok-push-in-If.ensures.items ∙ pushed c.args.works.now.items (Part c.args.number 0) in
    let second : reverse c.push-in-If-2.new.self.items ≡ Else ∷ Part c.args.number 0 ∷ works =
    ap reverse c.in_ok-push-in-If-2.ensures.items ∙ pushed c.push-in-If.new.self.items Else ∙ ap (λ ws. Else ∷ ws) first in
    let third : reverse c.push-in-If-3.new.self.items ≡ Part j 0 ∷ Else ∷ Part c.args.number 0 ∷ works =
    ap reverse c.in_ok-push-in-If-3.ensures.items ∙ pushed c.push-in-If-2.new.self.items (Part c.begin_before-second.result 0)
    ∙ ap (λ k. Part k 0 ∷ reverse c.push-in-If-2.new.self.items) c.begin_before-second.ensures ∙ ap (λ ws. Part j 0 ∷ ws) second in
    let fourth : reverse c.push-in-If-4.new.self.items ≡ Mark Question ∷ Part j 0 ∷ Else ∷ Part c.args.number 0 ∷ works =
    ap reverse c.in_ok-push-in-If-4.ensures.items ∙ pushed c.push-in-If-3.new.self.items (Mark Question) ∙ ap (λ ws. Mark Question ∷ ws) third in
    let fifth : reverse c.push-in-If-5.new.self.items ≡ Part i 0 ∷ Mark Question ∷ Part j 0 ∷ Else ∷ Part c.args.number 0 ∷ works =
    ap reverse c.in_ok-push-in-If-5.ensures.items ∙ pushed c.push-in-If-4.new.self.items (Part c.begin_before-in-If.result 0)
    ∙ ap (λ k. Part k 0 ∷ reverse c.push-in-If-4.new.self.items)
    (c.begin_before-in-If.ensures ∙ ap (begin_before c.args.begins.now) c.begin_before-second.ensures)
    ∙ ap (λ ws. Part i 0 ∷ ws) fourth in
    subst (IsEntered c.args.model.now c.args.nodes.now (suc c.args.number) c.args.writer.now c.word.new.self works) (sym fifth)
    (choice_entered c.args.model.now c.args.nodes.now c.args.begins.now c.args.number c.args.writer.now c.word.new.self works
    (choice_at c.args.model.now c.args.nodes.now c.args.begins.now c.args.number c.requires.expression.tree c.requires.begins (omega arith) at)
    c.requires.part c.in_ok-word-in-If.ensures c.requires.works)

pub returns-in_ok-write_leaf-in_default : goal.returns-in_ok-write_leaf-in_default
returns-in_ok-write_leaf-in_default c =
    let at = slice_get_read c.args.nodes.now (length c.args.nodes.now) c.args.number c.index-nodes-number.result refl c.requires.part c.index-nodes-number.is in
    leaf_entered c.args.model.now c.args.nodes.now c.args.number c.index-nodes-number.result c.args.writer.now c.write_leaf.new.writer
    (reverse c.args.works.now.items)
    (no_operator_at c.args.model.now c.args.nodes.now c.args.number c.index-nodes-number.result c.requires.expression.tree at
    c.in_default.not-Unary c.in_default.not-Binary c.in_default.not-If)
    c.in_ok-write_leaf-in_default.ensures c.requires.works
