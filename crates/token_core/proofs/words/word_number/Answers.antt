use Rattle.std.proofs.Common.{◌≡◌, ℕ, ◌+◌, List, map, ap, sym, ◌∙◌, arith}
use Rattle.std.specs.Prelude.{option_map}
use Rattle.std.specs.Borrow.{Bor}
use Rattle.std.proofs.lemmas.List.{length-map}
use Rattle.token_core.specs.Words.{words, place_in}
use Rattle.token_core.proofs.Lists.{few_words, no_empty_word}
use Rattle.token_core.proofs.Places.{part_place}
use Rattle.token_core.proofs.words.word_number.Goals as goal

pub overflow_add-result : goal.overflow_add-result
overflow_add-result c =
    let size = length-map c.part_of-part.result.words.now (λ (w : Bor (List ℕ)). w.now) in
    omega (arith, c.part_of-part.ensures.within, c.in_ok-place.ensures.within, few_words c.args.language, size)

pub overflow_cast-result : goal.overflow_cast-result
overflow_cast-result c =
    let size = length-map c.part_of-part.result.words.now (λ (w : Bor (List ℕ)). w.now) in
    omega (arith, c.part_of-part.ensures.within, c.in_ok-place.ensures.within, few_words c.args.language, size)

pub returns-in_default : goal.returns-in_default
returns-in_default c = no_empty_word c.args.language c.args.bytes.now c.in_default.len_below

pub returns : goal.returns
returns c =
    let from : ℕ = c.part_of-part.result.from in
    let part : List (List ℕ) = map (λ (w : Bor (List ℕ)). w.now) c.part_of-part.result.words.now in
    let whole : place_in (words c.args.language) c.args.bytes.now ≡ option_map (λ n. from + n) (place_in part c.args.bytes.now) =
    part_place (words c.args.language) c.args.bytes.now from part c.in-len1-up.len_at_least c.part_of-part.ensures in
    ap (option_map (λ (n : ℕ). from + n)) (sym c.in_ok-place.was ∙ c.place_among.ensures.value) ∙ sym whole
