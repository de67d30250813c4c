use Rattle.std.proofs.Common.{◌≡◌, ◌∙◌, ◌≤◌, ◌+◌, ap, sym, arith, drop}
use Rattle.std.specs.Prelude.{None}
use Rattle.element_store.specs.Numbers.{chosen, those_where}
use Rattle.model_printer.specs.Lists.{in_list, stands_in}
use Rattle.model_printer.specs.Sheets.{puts}
use Rattle.model_printer.proofs.ListLaws.{owns, from_first, at_last, one_more, listed_more}
use Rattle.model_printer.proofs.references.write_list.Goals as goal

pub loop-number-init : goal.loop-number-init
loop-number-init c =
    ap (λ rs. puts c.args.writer.now (in_list c.language-language.result c.args.list None rs))
    (from_first c.args.model.now.references c.args.element c.references_of-first.result.0 c.references_of-first.result.1
    c.references_of-first.ensures.own (stands_in c.args.list))

pub loop-number-preserved-then-not-stands_in : goal.loop-number-preserved-then-not-stands_in
loop-number-preserved-then-not-stands_in c =
    let rs = c.args.model.now.references in
    let test = owns c.args.element (stands_in c.args.list) in
    let r = c.reference-reference.result.now in
    let le : c.references_of-first.result.0 ≤ c.loop-number.number = omega arith in
    let step = one_more rs c.args.element c.references_of-first.result.0 c.references_of-first.result.1 c.references_of-first.ensures.own
    (stands_in c.args.list) c.loop-number.number r le c.loop-number-test.true c.reference-reference.ensures.lent in
    c.loop-number.invariant
    ∙ ap (λ xs. puts c.loop-number.writer (in_list c.language-language.result c.args.list c.loop-number.before xs))
    (step ∙ ap (λ b. chosen b r (those_where test (drop (c.loop-number.number + 1) rs))) (sym c.stands_in.ensures ∙ c.if-not-stands_in.true))

pub loop-number-preserved : goal.loop-number-preserved
loop-number-preserved c =
    let rs = c.args.model.now.references in
    let test = owns c.args.element (stands_in c.args.list) in
    let r = c.reference-reference.result.now in
    let le : c.references_of-first.result.0 ≤ c.loop-number.number = omega arith in
    let step = one_more rs c.args.element c.references_of-first.result.0 c.references_of-first.result.1 c.references_of-first.ensures.own
    (stands_in c.args.list) c.loop-number.number r le c.loop-number-test.true c.reference-reference.ensures.lent in
    listed_more c.language-language.result c.args.list c.loop-number.before _ c.loop-number.writer c.write_lead.new.writer c.write_name.new.writer r
    (those_where test (drop (c.loop-number.number + 1) rs)) (those_where test (drop c.loop-number.number rs)) c.loop-number.invariant
    (step ∙ ap (λ b. chosen b r (those_where test (drop (c.loop-number.number + 1) rs))) (sym c.stands_in.ensures ∙ c.if-not-stands_in.false))
    (c.in_ok-write_lead.ensures c.language-language.result) c.in_ok-write_name.ensures

pub returns : goal.returns
returns c =
    let rs = c.args.model.now.references in
    let test = owns c.args.element (stands_in c.args.list) in
    let order = c.references_of-first.ensures.own.order.0 in
    let end : c.loop-number.number ≡ c.references_of-first.result.1 = omega (arith, order) in
    sym (ap (λ l. puts c.args.writer.now (in_list l c.args.list None (those_where test rs))) (sym c.language-language.ensures)
    ∙ c.loop-number.invariant
    ∙ ap (λ n. puts c.loop-number.writer (in_list c.language-language.result c.args.list c.loop-number.before (those_where test (drop n rs)))) end
    ∙ ap (λ xs. puts c.loop-number.writer (in_list c.language-language.result c.args.list c.loop-number.before xs))
    (at_last rs c.args.element c.references_of-first.result.0 c.references_of-first.result.1 c.references_of-first.ensures.own (stands_in c.args.list)))
