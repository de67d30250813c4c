-- The lexer's statics are the lists of the definitions, found by evaluation.
use Rattle.std.proofs.Common.{◌≡◌, ℕ, ◌+◌, ◌-◌, ◌<◌, ◌≤◌, Bool, true, false, List, [], ◌∷◌, length, drop, map, get_or, refl, inl, inr, ap, sym, subst, ◌∙◌, arith, zero-add}
use Rattle.std.specs.Prelude.{◌==◌, not, None}
use Rattle.std.specs.List.{range_with_len, list_all}
use Rattle.std.proofs.lemmas.Bool.{eqb-true}
use Rattle.std.proofs.lemmas.Bool.Decides.{nat_tests}
use Rattle.std.proofs.lemmas.List.Folds.{list_all_at}
use Rattle.std.proofs.lemmas.List.FromFn.{length-range_with_len, get_or-range_with_len, get_or-map-range_with_len}
use Rattle.linker_base.proofs.Cases.{bool_cases, option_cases, both_true, and_true}
use Rattle.element_store.specs.declared.outcome.Language.{Language}
use Rattle.element_store.specs.declared.outcome.Language.TheVariants.{Kerml, Sysml}
use Rattle.token_core.specs.declared.words.TheConstants.{SYSML_WORDS, SYSML_STARTS, KERML_WORDS, KERML_STARTS}
use Rattle.token_core.specs.declared.sign.TheConstants.{SIGNS, SINGLE_SIGNS}
use Rattle.token_core.specs.declared.classes.TheConstants.{CLASSES}
use Rattle.token_core.specs.declared.pieces.ByteClass.TheVariants.{Blank}
use Rattle.token_core.specs.Bytes.{is_between}
use Rattle.token_core.specs.Words.{signs, words, place_in}
use Rattle.token_core.specs.Scan.{are_starts, class_of, goes_on, is_part, none_begins}
use Rattle.token_core.proofs.Signs.{place_has}

pub sysml_words_are : words Sysml ≡ map (λ w. w.now) SYSML_WORDS
unfolding words
sysml_words_are = refl

pub kerml_words_are : words Kerml ≡ map (λ w. w.now) KERML_WORDS
unfolding words
kerml_words_are = refl

pub sysml_starts_are : are_starts (words Sysml) SYSML_STARTS ≡ true
unfolding words are_starts
sysml_starts_are = refl

pub kerml_starts_are : are_starts (words Kerml) KERML_STARTS ≡ true
unfolding words are_starts
kerml_starts_are = refl

-- what each item of a list passes, the item at a place passes
all_at : {X : Type 0} (p : X → Bool) (xs : List X) (i : ℕ) (d : X) → list_all p xs ≡ true → i < length xs → p (get_or xs i d) ≡ true
all_at p xs i d all lt = elim (bool_cases (p (get_or xs i d))) [
  | inl hit ↦ hit
  | inr miss ↦ let h : list_all p xs ≡ false = list_all_at p xs i d lt miss in absurd (cc)
]

-- there are 27 places, one of each letter and the end
pub starts_count : (list : List (List ℕ)) (starts : List ℕ) → are_starts list starts ≡ true → length starts ≡ 27
unfolding are_starts
starts_count list starts e = eqb-true (length starts) 27 (both_true (length starts == 27) _ e).0

-- the words with one letter stand between the letter's place and the next
part_at :
    (list : List (List ℕ)) (starts : List ℕ) (k : ℕ)
    → are_starts list starts ≡ true → k < 26 → is_part list (97 + k) (get_or starts k 0) (get_or starts (k + 1) 0) ≡ true
unfolding are_starts
part_at list starts k e lt =
    let p : ℕ → Bool = λ i. is_part list (97 + i) (get_or starts i 0) (get_or starts (i + 1) 0) in
    let all : list_all p (range_with_len 0 26) ≡ true = (both_true (length starts == 27) (list_all p (range_with_len 0 26)) e).1 in
    let here : p (get_or (range_with_len 0 26) k 0) ≡ true = all_at p (range_with_len 0 26) k 0 all (omega (arith, length-range_with_len 0 26)) in
    subst (λ i. p i ≡ true) (get_or-range_with_len 0 26 k 0 lt ∙ zero-add k) here

-- so the words with a lowercase letter stand between two places of the table
pub letter_part :
    (list : List (List ℕ)) (starts : List ℕ) (b : ℕ)
    → are_starts list starts ≡ true → 97 ≤ b → b ≤ 122
    → is_part list b (get_or starts (b - 97) 0) (get_or starts (b - 97 + 1) 0) ≡ true
letter_part list starts b e low high =
    subst (λ n. is_part list n (get_or starts (b - 97) 0) (get_or starts (b - 97 + 1) 0) ≡ true) (omega arith) (
    part_at list starts (b - 97) e (omega arith))

abbrev begins_low : List ℕ → Bool
begins_low [] = false
begins_low (c ∷ cs) = is_between 97 122 c

sysml_words_low : list_all begins_low (words Sysml) ≡ true
unfolding words
sysml_words_low = refl

kerml_words_low : list_all begins_low (words Kerml) ≡ true
unfolding words
kerml_words_low = refl

words_low : (language : Language) → list_all begins_low (words language) ≡ true
words_low Kerml = kerml_words_low
words_low Sysml = sysml_words_low

none_low : (list : List (List ℕ)) (b : ℕ) → list_all begins_low list ≡ true → is_between 97 122 b ≡ false → none_begins b list ≡ true
none_low [] b e high = refl
none_low ([] ∷ ws) b e high = absurd (cc)
none_low ((c ∷ cs) ∷ ws) b e high =
    let h = both_true (is_between 97 122 c) (list_all begins_low ws) e in
    and_true (not (c == b)) (none_begins b ws) (other c b h.0 high) (none_low ws b h.1 high)
  where
    other : (c b : ℕ) → is_between 97 122 c ≡ true → is_between 97 122 b ≡ false → not (c == b) ≡ true
    other c b e f = grind (arith, nat_tests)

-- no reserved word begins with a byte other than a lowercase letter
pub no_word_begins : (language : Language) (b : ℕ) → is_between 97 122 b ≡ false → none_begins b (words language) ≡ true
no_word_begins language b high = none_low (words language) b (words_low language) high

-- nor is a word empty
pub no_empty_word : (language : Language) (bytes : List ℕ) → length bytes < 1 → None ≡ place_in (words language) bytes
no_empty_word language [] few = elim (option_cases (place_in (words language) [])) [
  | inl none ↦ sym none
  | inr some ↦ let low : false ≡ true = place_has begins_low (words language) [] some.0 (words_low language) some.1 in absurd (cc)
]
no_empty_word language (b ∷ bs) few = absurd (omega arith)

pub sysml_word_count : length (words Sysml) ≡ 129
unfolding words
sysml_word_count = refl

pub kerml_word_count : length (words Kerml) ≡ 102
unfolding words
kerml_word_count = refl

-- so the numbers of words fit a byte
pub few_words : (language : Language) → length (words language) ≤ 255
few_words Kerml = omega (arith, kerml_word_count)
few_words Sysml = omega (arith, sysml_word_count)

pub signs_are : signs ≡ map (λ w. w.now) SIGNS
unfolding signs
signs_are = refl

single_signs_are : SINGLE_SIGNS ≡ map (λ b. place_in signs (b ∷ [])) (range_with_len 0 256)
unfolding signs
single_signs_are = refl

-- the table has the number of the sign that a byte is alone
pub single_at : (b : ℕ) → b < 256 → get_or SINGLE_SIGNS b None ≡ place_in signs (b ∷ [])
single_at b lt = ap (λ l. get_or l b None) single_signs_are ∙ get_or-map-range_with_len (λ b. place_in signs (b ∷ [])) 0 256 b b None lt (zero-add b)

classes_are : CLASSES ≡ map class_of (range_with_len 0 256)
classes_are = refl

-- the table has the class of a byte
pub class_at : (b : ℕ) → b < 256 → get_or CLASSES b Blank ≡ class_of b
class_at b lt = ap (λ l. get_or l b Blank) classes_are ∙ get_or-map-range_with_len class_of 0 256 b b Blank lt (zero-add b)

pub sign_count : length signs ≡ 43
unfolding signs
sign_count = refl

-- a sign goes on behind its first byte with some bytes alone
abbrev goes_on_behind : List ℕ → Bool
goes_on_behind [] = false
goes_on_behind (b ∷ bs) = list_all goes_on bs

signs_go_on : list_all goes_on_behind signs ≡ true
unfolding signs
signs_go_on = refl

pub no_longer_sign : (bytes : List ℕ) → goes_on_behind bytes ≡ false → None ≡ place_in signs bytes
no_longer_sign bytes e = elim (option_cases (place_in signs bytes)) [
  | inl none ↦ sym none
  | inr some ↦ let h : goes_on_behind bytes ≡ true = place_has goes_on_behind signs bytes some.0 signs_go_on some.1 in absurd (cc)
]

-- nor is a sign empty
pub no_empty_sign : (bytes : List ℕ) → length bytes < 1 → None ≡ place_in signs bytes
no_empty_sign [] few = no_longer_sign [] refl
no_empty_sign (b ∷ bs) few = absurd (omega arith)

-- bytes of which nothing is behind the first are that alone
pub single_alone : (bytes : List ℕ) → 1 ≤ length bytes → length bytes ≤ 1 → bytes ≡ get_or bytes 0 0 ∷ []
single_alone [] some few = absurd (omega arith)
single_alone (b ∷ []) some few = refl
single_alone (b ∷ c ∷ bs) some few = absurd (omega arith)

-- bytes with another one behind the first are no sign
pub other_behind : (bytes : List ℕ) → 1 ≤ length bytes → list_all goes_on (drop 1 bytes) ≡ false → None ≡ place_in signs bytes
other_behind [] some e = absurd (omega arith)
other_behind (b ∷ bs) some e = no_longer_sign (b ∷ bs) e
