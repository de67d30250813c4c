use Rattle.std.proofs.Common.{◌≡◌, ℕ, List, length, ap, sym, ◌∙◌, arith}
use Rattle.std.specs.Borrow.{Bor}
use Rattle.std.proofs.lemmas.List.{length-map}
use Rattle.std.specs.List.{list_all}
use Rattle.linker_base.proofs.Lists.{rest_is}
use Rattle.token_core.specs.Scan.{goes_on}
use Rattle.token_core.specs.Words.{signs, place_in}
use Rattle.token_core.proofs.Lists.{sign_count, no_empty_sign, other_behind}
use Rattle.token_core.proofs.sign.sign_number.Goals as goal

pub returns-in_default : goal.returns-in_default
returns-in_default c = no_empty_sign c.args.bytes.now c.in_default.len_below

pub returns-then-not-are_behind_first : goal.returns-then-not-are_behind_first
returns-then-not-are_behind_first c =
    other_behind c.args.bytes.now c.in-len1-up.len_at_least (
    ap (list_all goes_on) (sym (rest_is 1 c.args.bytes.now)) ∙ (sym c.are_behind_first.ensures ∙ c.if-not-are_behind_first.true))

pub overflow_cast-result : goal.overflow_cast-result
overflow_cast-result c =
    let size : length c.all_signs.result.now ≡ length signs =
    sym (length-map c.all_signs.result.now (λ (w : Bor (List ℕ)). w.now)) ∙ ap length c.all_signs.ensures in
    omega (arith, size, sign_count, c.in_ok-number.ensures.within)

pub returns : goal.returns
returns c = sym c.in_ok-number.was ∙ (c.place_among.ensures.value ∙ ap (λ (l : List (List ℕ)). place_in l c.args.bytes.now) c.all_signs.ensures)
