-- Where a printed token ends: names, words and numbers where no further byte of theirs follows, what is quoted anywhere, white space
-- before a token, and a sign where no sign goes on.
use Rattle.std.proofs.Common.{◌≡◌, ℕ, suc, ◌+◌, ◌≤◌, Bool, true, false, List, [], ◌∷◌, ◌++◌, length, take, refl, ap, subst, ◌∙◌, inl, inr, arith, ◌⊎◌}
use Rattle.std.specs.Prelude.{Option, Some, None, cond, ◌==◌, ◌||◌, ◌&&◌, not, nat_le, option_map, codes}
use Rattle.std.proofs.lemmas.Bool.{eq-eqb, le-leb}
use Rattle.linker_base.proofs.Cases.{bool_cases}
use Rattle.std.specs.List.{prefix_len, list_all}
use Rattle.std.proofs.lemmas.Bool.Decides.{nat_tests}
use Rattle.std.proofs.Math.Seq.{take-append_seam, drop-append_seam}
use Rattle.element_store.specs.declared.outcome.Language.{Language}
use Rattle.token_core.specs.declared.token.TokenKind.TheVariants.{Name, Integer, Quote, Comment, Sign, Word}
use Rattle.token_core.specs.declared.token.PieceKind.{PieceKind}
use Rattle.token_core.specs.declared.token.PieceKind.TheVariants.{Space, Token as Kept}
use Rattle.token_core.specs.declared.pieces.ByteClass.TheVariants.{Blank, Letter, Digit, Other}
use Rattle.token_core.specs.Bytes.{IsRun, is_word, is_letter, is_digit, is_space, is_plain, is_escape}
use Rattle.token_core.specs.Words.{signs, words, place_in}
use Rattle.token_core.specs.Pieces.{IsLongest, IsBasicName, IsSomeRun, IsUpToQuote, IsUpToClose}
use Rattle.token_core.specs.Scan.{found, found_by, found_of, class_of, word_kind, sign_of, sign_at, first_of_two}
use Rattle.token_core.specs.Spelling.{spelt, quoted, written, escape_letter}
use Rattle.token_core.specs.Reading.{is_spellable}
use Rattle.token_core.proofs.Cuts.{found_longest}
use Rattle.token_core.proofs.Runs.{quote_at, close_at}
use Rattle.token_core.proofs.Signs.{place_has}

-- the bytes don't begin with such a byte
abbrev pub Ends : (ℕ → Bool) → List ℕ → Type 0
Ends p [] = Unit {0}
Ends p (b ∷ bs) = p b ≡ false

-- what the lexer finds is the longest
pub found_is : (l : Language) (kind : PieceKind) (bytes more : List ℕ) → found l (bytes ++ more) ≡ Some (found_of kind (length bytes))
    → IsLongest l kind bytes more
found_is l kind bytes more e =
    subst (λ xs. IsLongest l kind xs more) (take-append_seam bytes more)
    (subst (λ xs. IsLongest l kind (take (length bytes) (bytes ++ more)) xs) (drop-append_seam bytes more)
    (found_longest l (bytes ++ more) (found_of kind (length bytes)) e))

run_end : (p : ℕ → Bool) (bs more : List ℕ) → IsRun p bs → Ends p more → prefix_len p (bs ++ more) ≡ length bs
run_end p [] [] r e = refl
run_end p [] (c ∷ more) r e = rw e refl
run_end p (b ∷ bs) more r e = rw r.0 (ap (λ n. 1 + n) (run_end p bs more r.1 e) ∙ one_more (length bs))
  where
    one_more : (n : ℕ) → 1 + n ≡ suc n
    one_more n = omega arith

letter_is : (b : ℕ) → is_letter b ≡ true → class_of b ≡ Letter
letter_is b e = rw (no_space b e, e) refl
  where
    no_space : (b : ℕ) → is_letter b ≡ true → is_space b ≡ false
    no_space b e = grind (arith, nat_tests)

digit_is : (b : ℕ) → is_digit b ≡ true → class_of b ≡ Digit
digit_is b e = rw (no_space b e, no_letter b e, e) refl
  where
    no_space : (b : ℕ) → is_digit b ≡ true → is_space b ≡ false
    no_space b e = grind (arith, nat_tests)

    no_letter : (b : ℕ) → is_digit b ≡ true → is_letter b ≡ false
    no_letter b e = grind (arith, nat_tests)

letter_word : (b : ℕ) → is_letter b ≡ true → is_word b ≡ true
letter_word b e = grind (arith, nat_tests)

basic_found : (l : Language) (bs more : List ℕ) → IsBasicName bs → Ends is_word more → found l (bs ++ more) ≡ Some (found_of (word_kind l bs) (length bs))
basic_found l [] more name ends = elim name [ ]
basic_found l (b ∷ bs) more name ends =
    let text : List ℕ = b ∷ (bs ++ more) in
    let long : prefix_len is_word text ≡ length (b ∷ bs) = run_end is_word (b ∷ bs) more (letter_word b name.0, name.1) ends in
    ap (λ c. found_by l c text) (letter_is b name.0)
    ∙ (ap (λ n. Some (found_of (word_kind l (take n text)) n)) long
    ∙ ap (λ xs. Some (found_of (word_kind l xs) (length (b ∷ bs)))) (take-append_seam (b ∷ bs) more))

-- a basic name, and a word
pub basic_name_ends : (l : Language) (bs more : List ℕ) → IsBasicName bs → place_in (words l) bs ≡ None → Ends is_word more → IsLongest l (Kept Name) bs more
basic_name_ends l bs more name none ends = found_is l (Kept Name) bs more (basic_found l bs more name ends ∙ rw none refl)

-- a reserved word
pub word_ends : (l : Language) (bs more : List ℕ) (n : ℕ) → IsBasicName bs → place_in (words l) bs ≡ Some n → Ends is_word more
    → IsLongest l (Kept (Word n)) bs more
word_ends l bs more n name some ends = found_is l (Kept (Word n)) bs more (basic_found l bs more name ends ∙ rw some refl)

-- a number
pub number_ends : (l : Language) (bs more : List ℕ) → IsSomeRun is_digit bs → Ends is_digit more → IsLongest l (Kept Integer) bs more
number_ends l [] more run ends = elim run [ ]
number_ends l (b ∷ bs) more run ends = found_is l (Kept Integer) (b ∷ bs) more
    (ap (λ c. found_by l c (b ∷ (bs ++ more))) (digit_is b run.0) ∙ ap (λ n. Some (found_of (Kept Integer) n)) (run_end is_digit (b ∷ bs) more run ends))

-- white space
pub space_ends : (l : Language) (b : ℕ) (bs more : List ℕ) → IsRun is_space (b ∷ bs) → Ends is_space more → IsLongest l Space (b ∷ bs) more
space_ends l b bs more run ends = found_is l Space (b ∷ bs) more
    (ap (λ c. found_by l c (b ∷ (bs ++ more))) (blank b run.0) ∙ ap (λ n. Some (found_of Space n)) (run_end is_space (b ∷ bs) more run ends))
  where
    blank : (b : ℕ) → is_space b ≡ true → class_of b ≡ Blank
    blank b e = rw e refl

-- what is quoted ends with its quote, whatever follows
plain_written : (q b : ℕ) → escape_letter q b ≡ None → is_spellable b ≡ true → is_plain q b ≡ true
plain_written q b e s = grind (arith, nat_tests)

letter_escapes : (q b letter : ℕ) → (q ≡ 39) ⊎ (q ≡ 34) → escape_letter q b ≡ Some letter → is_escape letter ≡ true
letter_escapes q b letter o e = grind (arith, nat_tests)

quote_written : (q b : ℕ) (rest : List ℕ) (x : Option ℕ) → (q ≡ 39) ⊎ (q ≡ 34) → is_spellable b ≡ true → escape_letter q b ≡ x → IsUpToQuote q false rest
    → IsUpToQuote q false (written b x ++ rest)
quote_written q b rest None o s e i = inr (inr (plain_written q b e s, i))
quote_written q b rest (Some letter) o s e i = inr (inl (refl, (letter_escapes q b letter o e, i)))

quote_spelt : (q : ℕ) (bs : List ℕ) → (q ≡ 39) ⊎ (q ≡ 34) → IsRun is_spellable bs → IsUpToQuote q false (spelt q bs)
quote_spelt q [] o r = inl (refl, refl)
quote_spelt q (b ∷ bs) o r = quote_written q b (spelt q bs) (escape_letter q b) o r.0 refl (quote_spelt q bs o r.1)

-- a quoted name
pub quoted_name_ends : (l : Language) (bs more : List ℕ) → IsRun is_spellable bs → IsLongest l (Kept Name) (quoted 39 bs) more
quoted_name_ends l bs more run = found_is l (Kept Name) (quoted 39 bs) more
    (ap (option_map (λ n. found_of (Kept Name) (1 + n))) (quote_at 39 false (spelt 39 bs) more (λ e. omega (arith, e)) (quote_spelt 39 bs (inl refl) run))
    ∙ ap (λ n. Some (found_of (Kept Name) n)) (omega arith))

-- a string
pub string_ends : (l : Language) (bs more : List ℕ) → IsRun is_spellable bs → IsLongest l (Kept Quote) (quoted 34 bs) more
string_ends l bs more run = found_is l (Kept Quote) (quoted 34 bs) more
    (ap (option_map (λ n. found_of (Kept Quote) (1 + n))) (quote_at 34 false (spelt 34 bs) more (λ e. omega (arith, e)) (quote_spelt 34 bs (inr refl) run))
    ∙ ap (λ n. Some (found_of (Kept Quote) n)) (omega arith))

-- no sign goes on from the bytes with what follows
abbrev pub Stops : List ℕ → List ℕ → Type 0
Stops bytes [] = Unit {0}
Stops bytes (c ∷ cs) = (xs : List ℕ) → place_in signs (bytes ++ c ∷ xs) ≡ None

sign_none : (size : ℕ) (text : List ℕ) → place_in signs (take size text) ≡ None → sign_of size text ≡ None
sign_none size text e = rw e (by_cases (nat_le size (length text)))
  where
    by_cases : (b : Bool) → cond b (option_map (λ n. found_of (Kept (Sign n)) size) None) None ≡ None
    by_cases true = refl
    by_cases false = refl

sign_some : (size n : ℕ) (text : List ℕ) → size ≤ length text → place_in signs (take size text) ≡ Some n
    → sign_of size text ≡ Some (found_of (Kept (Sign n)) size)
sign_some size n text le e = rw (e, le-leb size (length text) le) refl

-- a sign of one byte is found where none goes on
pub one_at : (b n : ℕ) (more : List ℕ) → place_in signs (b ∷ []) ≡ Some n → Stops (b ∷ []) more → sign_at (b ∷ more) ≡ Some (found_of (Kept (Sign n)) 1)
one_at b n [] e stops = rw e refl
one_at b n (c ∷ cs) e stops =
    ap (λ f. first_of_two f (first_of_two (sign_of 2 (b ∷ c ∷ cs)) (sign_of 1 (b ∷ c ∷ cs)))) (sign_none 3 (b ∷ c ∷ cs) (stops (take 1 cs)))
    ∙ (ap (λ f. first_of_two f (sign_of 1 (b ∷ c ∷ cs))) (sign_none 2 (b ∷ c ∷ cs) (stops []))
    ∙ sign_some 1 n (b ∷ c ∷ cs) (omega arith) e)

two_at : (a b n : ℕ) (more : List ℕ) → place_in signs (a ∷ b ∷ []) ≡ Some n → Stops (a ∷ b ∷ []) more
    → sign_at (a ∷ b ∷ more) ≡ Some (found_of (Kept (Sign n)) 2)
two_at a b n [] e stops = rw e refl
two_at a b n (c ∷ cs) e stops =
    ap (λ f. first_of_two f (first_of_two (sign_of 2 (a ∷ b ∷ c ∷ cs)) (sign_of 1 (a ∷ b ∷ c ∷ cs)))) (sign_none 3 (a ∷ b ∷ c ∷ cs) (stops []))
    ∙ ap (λ f. first_of_two f (sign_of 1 (a ∷ b ∷ c ∷ cs))) (sign_some 2 n (a ∷ b ∷ c ∷ cs) (omega arith) e)

three_at : (a b c n : ℕ) (more : List ℕ) → place_in signs (a ∷ b ∷ c ∷ []) ≡ Some n → sign_at (a ∷ b ∷ c ∷ more) ≡ Some (found_of (Kept (Sign n)) 3)
three_at a b c n more e = ap (λ f. first_of_two f (first_of_two (sign_of 2 (a ∷ b ∷ c ∷ more)) (sign_of 1 (a ∷ b ∷ c ∷ more))))
    (sign_some 3 n (a ∷ b ∷ c ∷ more) (omega arith) e)

-- a sign of one, two or three bytes, `/` apart
pub sign_ends_one : (l : Language) (b n : ℕ) (more : List ℕ) → class_of b ≡ Other → place_in signs (b ∷ []) ≡ Some n → Stops (b ∷ []) more
    → IsLongest l (Kept (Sign n)) (b ∷ []) more
sign_ends_one l b n more other e stops = found_is l (Kept (Sign n)) (b ∷ []) more (ap (λ c. found_by l c (b ∷ more)) other ∙ one_at b n more e stops)

-- a sign of two bytes
pub sign_ends_two : (l : Language) (a b n : ℕ) (more : List ℕ) → class_of a ≡ Other → place_in signs (a ∷ b ∷ []) ≡ Some n → Stops (a ∷ b ∷ []) more
    → IsLongest l (Kept (Sign n)) (a ∷ b ∷ []) more
sign_ends_two l a b n more other e stops = found_is l (Kept (Sign n)) (a ∷ b ∷ []) more
    (ap (λ c. found_by l c (a ∷ b ∷ more)) other ∙ two_at a b n more e stops)

-- a sign of three bytes
pub sign_ends_three : (l : Language) (a b c n : ℕ) (more : List ℕ) → class_of a ≡ Other → place_in signs (a ∷ b ∷ c ∷ []) ≡ Some n
    → IsLongest l (Kept (Sign n)) (a ∷ b ∷ c ∷ []) more
sign_ends_three l a b c n more other e = found_is l (Kept (Sign n)) (a ∷ b ∷ c ∷ []) more
    (ap (λ k. found_by l k (a ∷ b ∷ c ∷ more)) other ∙ three_at a b c n more e)

-- before white space, a name, a number or a string: none of their first bytes stands in a sign
abbrev pub is_inside : ℕ → Bool
is_inside c = is_word c || (is_space c || ((c == 39) || (c == 34)))

-- none of its bytes is such a byte
abbrev pub stands_outside : List ℕ → Bool
stands_outside bytes = list_all (λ c. not (is_inside c)) bytes

signs_outside : list_all stands_outside signs ≡ true
unfolding signs
signs_outside = refl

-- what has such a byte stands apart from them
pub outside_behind : (bytes xs : List ℕ) (c : ℕ) → is_inside c ≡ true → stands_outside (bytes ++ c ∷ xs) ≡ false
outside_behind [] xs c e = rw e refl
outside_behind (b ∷ bs) xs c e = elim (bool_cases (is_inside b)) [
  | inl hit ↦ rw hit refl
  | inr miss ↦ rw miss (outside_behind bs xs c e)
]

stops_none : (bytes xs : List ℕ) (c : ℕ) → is_inside c ≡ true → (o : Option ℕ) → place_in signs (bytes ++ c ∷ xs) ≡ o → o ≡ None
stops_none bytes xs c e None at = refl
stops_none bytes xs c e (Some n) at =
    let t : stands_outside (bytes ++ c ∷ xs) ≡ true = place_has stands_outside signs (bytes ++ c ∷ xs) n signs_outside at in
    let f = outside_behind bytes xs c e in absurd (cc)

-- no sign goes on with the first byte of a name, number, string or white space
pub stops_inside : (bytes cs : List ℕ) (c : ℕ) → is_inside c ≡ true → Stops bytes (c ∷ cs)
stops_inside bytes cs c e xs = stops_none bytes xs c e (place_in signs (bytes ++ c ∷ xs)) refl

-- before another sign: by a test of all signs
abbrev starts : List ℕ → List ℕ → Bool
starts [] s = true
starts (b ∷ bs) [] = false
starts (b ∷ bs) (c ∷ cs) = (c == b) && starts bs cs

-- no sign begins with these bytes
abbrev pub none_starts : List ℕ → Bool
none_starts front = list_all (λ s. not (starts front s)) signs

starts_own : (bytes xs : List ℕ) (c : ℕ) → starts (bytes ++ c ∷ []) (bytes ++ c ∷ xs) ≡ true
starts_own [] xs c = rw (eq-eqb c c refl) refl
starts_own (b ∷ bs) xs c = rw (eq-eqb b b refl) (starts_own bs xs c)

starts_none : (bytes xs : List ℕ) (c : ℕ) → none_starts (bytes ++ c ∷ []) ≡ true → (o : Option ℕ) → place_in signs (bytes ++ c ∷ xs) ≡ o → o ≡ None
starts_none bytes xs c e None at = refl
starts_none bytes xs c e (Some n) at =
    let t : not (starts (bytes ++ c ∷ []) (bytes ++ c ∷ xs)) ≡ true = place_has (λ s. not (starts (bytes ++ c ∷ []) s)) signs (bytes ++ c ∷ xs) n e at in
    let f = starts_own bytes xs c in absurd (cc)

-- no sign goes on with a byte with which none begins so
pub stops_sign : (bytes cs : List ℕ) (c : ℕ) → none_starts (bytes ++ c ∷ []) ≡ true → Stops bytes (c ∷ cs)
stops_sign bytes cs c e xs = starts_none bytes xs c e (place_in signs (bytes ++ c ∷ xs)) refl

-- the pairs of signs that stand side by side in a printed text, by evaluation
brackets_apart : none_starts (codes "((") && (none_starts
    (codes "(-") && (none_starts (codes "(+") && (none_starts (codes "($") && (none_starts (codes "))") && (none_starts (codes ");")
    && (none_starts (codes "),") && none_starts (codes ")]"))))))) ≡ true
unfolding signs
brackets_apart = refl

unary_apart : none_starts (codes "--") && (none_starts (codes "-+")
    && (none_starts (codes "+-") && (none_starts (codes "++")
    && (none_starts (codes "-(") && (none_starts (codes "+(") && (none_starts (codes "-$") && none_starts (codes "+$"))))))) ≡ true
unfolding signs
unary_apart = refl

bounds_apart : none_starts (codes "[*") && (none_starts (codes "[$") && (none_starts (codes "*]")
    && (none_starts (codes "..*") && (none_starts (codes "..$") && (none_starts (codes "];") && none_starts (codes "],")))))) ≡ true
unfolding signs
bounds_apart = refl

imports_apart : none_starts (codes "::*") && (none_starts (codes "*::")
    && (none_starts (codes "*;") && (none_starts (codes "**;") && none_starts (codes "$::")))) ≡ true
unfolding signs
imports_apart = refl

-- `/` before a blank, and a comment
pub slash_ends : (l : Language) (more : List ℕ) → IsLongest l (Kept (Sign 28)) (47 ∷ []) (32 ∷ more)
unfolding signs
slash_ends l more = found_is l (Kept (Sign 28)) (47 ∷ []) (32 ∷ more) (one_at 47 28 (32 ∷ more) refl (stops_inside (47 ∷ []) more 32 refl))

-- a comment
pub comment_ends : (l : Language) (bytes more : List ℕ) → IsUpToClose bytes → IsLongest l (Kept Comment) (47 ∷ 42 ∷ bytes) more
comment_ends l bytes more close = found_is l (Kept Comment) (47 ∷ 42 ∷ bytes) more
    (ap (option_map (λ n. found_of (Kept Comment) (2 + n))) (close_at false bytes more close (λ e. absurd (cc)))
    ∙ ap (λ n. Some (found_of (Kept Comment) n)) (omega arith))
