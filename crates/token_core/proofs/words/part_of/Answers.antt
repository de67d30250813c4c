use Rattle.std.proofs.Common.{◌≡◌, ℕ, ◌+◌, ◌-◌, true, false, get_or, length, List, ap, sym, subst, ◌∙◌, arith}
use Rattle.std.proofs.lemmas.Bool.Decides.{nat_tests}
use Rattle.std.proofs.lemmas.List.{length-map}
use Rattle.std.specs.Borrow.{Bor}
use Rattle.token_core.specs.Bytes.{is_between}
use Rattle.token_core.specs.Words.{words}
use Rattle.token_core.specs.Scan.{is_part}
use Rattle.token_core.proofs.Lists.{starts_count, letter_part, no_word_begins}
use Rattle.token_core.proofs.Places.{part_lent, part_within, no_part}
use Rattle.token_core.proofs.words.part_of.Goals as goal

pub returns-then-not-is_ascii_lowercase : goal.returns-then-not-is_ascii_lowercase
returns-then-not-is_ascii_lowercase c =
    let high : is_between 97 122 c.args.first ≡ false = grind (arith, nat_tests) in
    no_part (words c.args.language) c.args.first (no_word_begins c.args.language c.args.first high)

pub bounds-starts-letter : goal.bounds-starts-letter
bounds-starts-letter c =
    let size = starts_count (words c.args.language) c.starts_of-starts.result.now c.starts_of-starts.ensures in
    omega (arith, c.if-not-is_ascii_lowercase.ensures.cases.1, size)

pub bounds-starts-letter-2 : goal.bounds-starts-letter-2
bounds-starts-letter-2 c =
    let size = starts_count (words c.args.language) c.starts_of-starts.result.now c.starts_of-starts.ensures in
    omega (arith, c.if-not-is_ascii_lowercase.ensures.cases.1, size)

pub slice_bounds-result-count : goal.slice_bounds-result-count
slice_bounds-result-count c =
    let starts : List ℕ = c.starts_of-starts.result.now in
    let k : ℕ = c.args.first - 97 in
    let low = c.if-not-is_ascii_lowercase.ensures.cases in
    let here = letter_part (words c.args.language) starts c.args.first c.starts_of-starts.ensures low.0 low.1 in
    (part_within (words c.args.language) c.args.first (get_or starts k 0) (get_or starts (k + 1) 0) here).0

pub slice_bounds-result-start : goal.slice_bounds-result-start
slice_bounds-result-start c =
    let starts : List ℕ = c.starts_of-starts.result.now in
    let k : ℕ = c.args.first - 97 in
    let low = c.if-not-is_ascii_lowercase.ensures.cases in
    let here = letter_part (words c.args.language) starts c.args.first c.starts_of-starts.ensures low.0 low.1 in
    (part_within (words c.args.language) c.args.first (get_or starts k 0) (get_or starts (k + 1) 0) here).0

pub slice_bounds-result-end-2 : goal.slice_bounds-result-end-2
slice_bounds-result-end-2 c =
    let starts : List ℕ = c.starts_of-starts.result.now in
    let k : ℕ = c.args.first - 97 in
    let low = c.if-not-is_ascii_lowercase.ensures.cases in
    let here = letter_part (words c.args.language) starts c.args.first c.starts_of-starts.ensures low.0 low.1 in
    let size : length c.words_of-words.result.now ≡ length (words c.args.language) =
    sym (length-map c.words_of-words.result.now (λ (w : Bor (List ℕ)). w.now)) ∙ ap length c.words_of-words.ensures in
    omega (arith, size, (part_within (words c.args.language) c.args.first (get_or starts k 0) (get_or starts (k + 1) 0) here).1)

pub returns : goal.returns
returns c =
    let starts : List ℕ = c.starts_of-starts.result.now in
    let k : ℕ = c.args.first - 97 in
    let low = c.if-not-is_ascii_lowercase.ensures.cases in
    let here = letter_part (words c.args.language) starts c.args.first c.starts_of-starts.ensures low.0 low.1 in
    part_lent c.words_of-words.result.now (words c.args.language) c.args.first (get_or starts k 0) (get_or starts (k + 1) 0)
    c.words_of-words.ensures here
