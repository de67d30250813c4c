use Rattle.std.proofs.Common.{◌≡◌, ◌+◌, length-drop, List, drop, arith, ap, sym, ◌∙◌, subst}
use Rattle.std.specs.Prelude.{Some}
use Rattle.token_core.specs.declared.token.Token.{Token}
use Rattle.token_core.proofs.Cuts.{IsCutTo}
use Rattle.token_core.specs.Scan.{found}
use Rattle.token_core.specs.Lex.{too_deep}
use Rattle.linker_base.proofs.Lists.{rest_is}
use Rattle.token_core.proofs.Cuts.{right_piece, run_more, run_whole, run_stops, run_empty}
use Rattle.token_core.proofs.Kept.{lex_token}
use Rattle.token_core.proofs.lexer.lex.Goals as goal

pub loop-at-init : goal.loop-at-init
loop-at-init c = record {
  within = omega arith;
  cut = subst (λ (ts : List Token). IsCutTo c.args.language c.args.text.now 0 ts) (sym c.new-tokens.ensures) (run_empty c.args.language c.args.text.now);
}

pub returns-in_default-piece_at-clause-whole : goal.returns-in_default-piece_at-clause-whole
returns-in_default-piece_at-clause-whole c = (
  c.in_default.ensures.cases.1,
  run_stops c.args.language c.args.text.now c.loop-at.at c.loop-at.tokens c.loop-at.invariant.cut (omega arith) (ap (found c.args.language) (sym (rest_is c.loop-at.at c.args.text.now)) ∙ sym c.in_default-piece_at.ensures),
)

pub keep-requires : goal.keep-requires
keep-requires c =
    let h : found c.args.language (drop c.loop-at.at c.args.text.now) ≡ Some c.in-Some.found = ap (found c.args.language) (sym (rest_is c.loop-at.at c.args.text.now)) ∙ sym c.in-Some.ensures in
    let r = right_piece c.args.language (drop c.loop-at.at c.args.text.now) c.in-Some.found h in
    omega (arith, r.within, length-drop c.loop-at.at c.args.text.now)

pub overflow_add-at : goal.overflow_add-at
overflow_add-at c =
    let h : found c.args.language (drop c.loop-at.at c.args.text.now) ≡ Some c.in-Some.found = ap (found c.args.language) (sym (rest_is c.loop-at.at c.args.text.now)) ∙ sym c.in-Some.ensures in
    let r = right_piece c.args.language (drop c.loop-at.at c.args.text.now) c.in-Some.found h in
    omega (arith, r.within, length-drop c.loop-at.at c.args.text.now)

pub loop-at-smaller : goal.loop-at-smaller
loop-at-smaller c =
    let h : found c.args.language (drop c.loop-at.at c.args.text.now) ≡ Some c.in-Some.found = ap (found c.args.language) (sym (rest_is c.loop-at.at c.args.text.now)) ∙ sym c.in-Some.ensures in
    let r = right_piece c.args.language (drop c.loop-at.at c.args.text.now) c.in-Some.found h in
    omega (arith, r.some, r.within, length-drop c.loop-at.at c.args.text.now)

pub loop-at-preserved : goal.loop-at-preserved
loop-at-preserved c =
    let h : found c.args.language (drop c.loop-at.at c.args.text.now) ≡ Some c.in-Some.found = ap (found c.args.language) (sym (rest_is c.loop-at.at c.args.text.now)) ∙ sym c.in-Some.ensures in
    let r = right_piece c.args.language (drop c.loop-at.at c.args.text.now) c.in-Some.found h in
    record {
      within = omega (arith, r.within, length-drop c.loop-at.at c.args.text.now);
      cut =
          subst (λ (ts : List Token). IsCutTo c.args.language c.args.text.now (c.loop-at.at + c.in-Some.found.length) ts) (sym c.in-Ok.ensures) (
          run_more c.args.language c.args.text.now c.loop-at.at c.loop-at.tokens c.in-Some.found c.loop-at.invariant.cut h);
    }

pub returns-clause-whole : goal.returns-clause-whole
returns-clause-whole c = (
  c.in_default.ensures.cases.1,
  run_whole c.args.language c.args.text.now c.loop-at.at c.loop-at.tokens c.loop-at.invariant.cut (omega arith),
  ap (too_deep 0) (sym c.as_slice.ensures) ∙ sym c.in_default-too_deep_place.ensures,
)

pub returns-clause-each : goal.returns-clause-each
returns-clause-each c =
    lex_token c.args.language c.args.text.now c.loop-at.tokens c.in_default.ensures.cases.1 (
    run_whole c.args.language c.args.text.now c.loop-at.at c.loop-at.tokens c.loop-at.invariant.cut (omega arith))
