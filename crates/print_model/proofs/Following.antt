-- Printed tokens of a list, each with what follows: they are put so that the text is cut at them.
use Rattle.std.proofs.Common.{◌≡◌, ℕ, zero, suc, ◌<◌, Bool, true, false, List, [], ◌∷◌, ◌++◌, refl, sym, subst, ◌∙◌, inl, inr, arith, ◌⊎◌}
use Rattle.std.specs.Prelude.{Option, Some, None, cond, ◌==◌, ◌||◌, ◌&&◌, not, is_none}
use Rattle.std.specs.List.{list_all}
use Rattle.std.proofs.lemmas.Bool.Decides.{nat_tests}
use Rattle.linker_base.proofs.Cases.{bool_cases, both_true}
use Rattle.element_store.specs.declared.outcome.Language.{Language}
use Rattle.token_core.specs.declared.token.TokenKind.{TokenKind}
use Rattle.token_core.specs.declared.token.TokenKind.TheVariants.{Name, Integer, Quote, Comment, Sign, Word}
use Rattle.token_core.specs.declared.token.PieceKind.TheVariants.{Token as Kept}
use Rattle.token_core.specs.declared.pieces.ByteClass.{ByteClass}
use Rattle.token_core.specs.declared.pieces.ByteClass.TheVariants.{Other}
use Rattle.token_core.specs.Bytes.{IsRun, is_word, is_letter, is_digit, is_space}
use Rattle.token_core.specs.Words.{signs, words, place_in}
use Rattle.token_core.specs.Pieces.{IsLongest, IsBasicName, IsSomeRun, IsUpToClose}
use Rattle.token_core.specs.Scan.{class_of}
use Rattle.token_core.specs.Spelling.{name_spelling, string_spelling, is_basic_name}
use Rattle.token_core.specs.Reading.{IsSpellable}
use Rattle.std.specs.Prelude.{IsUtf8, nat_lt}
use Rattle.std.specs.Str.{IsAscii}
use Rattle.std.proofs.lemmas.Str.{IsUtf8-append, IsUtf8-nil, IsUtf8-from_ascii}
use Rattle.token_core.proofs.Characters.{word_utf8, quoted_utf8}
use Rattle.token_core.proofs.Signs.{place_has, is_other, is_sign_form, sign_form}
use Rattle.print_model.specs.Printed.{Printed}
use Rattle.print_model.specs.Layout.{gap}
use Rattle.print_model.specs.Neighbours.{Put, bytes_in, puts_in, IsGap, ArePut}
use Rattle.print_model.proofs.Edges.{Ends, Stops, is_inside, found_is, basic_name_ends, word_ends, quoted_name_ends, number_ends, string_ends, comment_ends, space_ends, sign_ends_one, sign_ends_two, sign_ends_three, stops_inside, one_at}

-- the bytes are a token of this kind as it is printed
abbrev pub IsFitKind : Language → TokenKind → List ℕ → Type 0
IsFitKind l Name bytes = (s : List ℕ) × IsSpellable s × (bytes ≡ name_spelling l s)
IsFitKind l (Word n) bytes = IsBasicName bytes × (place_in (words l) bytes ≡ Some n)
IsFitKind l Integer bytes = IsSomeRun is_digit bytes
IsFitKind l Quote bytes = (s : List ℕ) × IsSpellable s × (bytes ≡ string_spelling s)
IsFitKind l Comment bytes = (s : List ℕ) × IsUpToClose s × IsUtf8 s × (bytes ≡ 47 ∷ 42 ∷ s)
IsFitKind l (Sign n) bytes = place_in signs bytes ≡ Some n

-- a token as it is printed
abbrev pub IsFit : Language → Printed → Type 0
IsFit l p = IsFitKind l p.kind p.bytes

-- the byte may follow a token of this kind
abbrev pub FollowsKind : TokenKind → List ℕ → ℕ → Type 0
FollowsKind Name bytes c = is_word c ≡ false
FollowsKind (Word n) bytes c = is_word c ≡ false
FollowsKind Integer bytes c = is_word c ≡ false
FollowsKind Quote bytes c = Unit {0}
FollowsKind Comment bytes c = Unit {0}
FollowsKind (Sign n) bytes c = ((xs : List ℕ) → place_in signs (bytes ++ c ∷ xs) ≡ None) × (bytes ≡ 47 ∷ [] → ((c == 47) ≡ false) × ((c == 42) ≡ false))

-- the byte may follow the token
abbrev pub Follows : Printed → ℕ → Type 0
Follows p c = FollowsKind p.kind p.bytes c

no_digit : (c : ℕ) → is_word c ≡ false → is_digit c ≡ false
no_digit c e = grind (arith, nat_tests)

other_is : (k : ByteClass) → is_other k ≡ true → k ≡ Other
other_is Other e = refl
other_is k e = cc

slash_longest : (l : Language) (n c : ℕ) (cs : List ℕ) → place_in signs (47 ∷ []) ≡ Some n → Stops (47 ∷ []) (c ∷ cs) → (c == 47) ≡ false → (c == 42) ≡ false
    → IsLongest l (Kept (Sign n)) (47 ∷ []) (c ∷ cs)
slash_longest l n c cs e stops a b = found_is l (Kept (Sign n)) (47 ∷ []) (c ∷ cs) (rw (a, b) (one_at 47 n (c ∷ cs) e stops))

sign_longest : (l : Language) (n : ℕ) (bytes : List ℕ) (c : ℕ) (cs : List ℕ) → is_sign_form bytes ≡ true → place_in signs bytes ≡ Some n
    → FollowsKind (Sign n) bytes c
    → IsLongest l (Kept (Sign n)) bytes (c ∷ cs)
sign_longest l n [] c cs form e f = cc
sign_longest l n (a ∷ []) c cs form e f = by_case (bool_cases (a == 47))
  where
    is_slash : (a : ℕ) → (a == 47) ≡ true → 47 ≡ a
    is_slash a e = grind (arith, nat_tests)

    no_slash : (x y : Bool) → (x || y) ≡ true → x ≡ false → y ≡ true
    no_slash true y e f = absurd (cc)
    no_slash false y e f = e

    at_slash : (a : ℕ) → 47 ≡ a → place_in signs (a ∷ []) ≡ Some n → FollowsKind (Sign n) (a ∷ []) c → IsLongest l (Kept (Sign n)) (a ∷ []) (c ∷ cs)
    at_slash a q = subst (λ b. place_in signs (b ∷ []) ≡ Some n → FollowsKind (Sign n) (b ∷ []) c → IsLongest l (Kept (Sign n)) (b ∷ []) (c ∷ cs)) q
        (λ e f. slash_longest l n c cs e f.0 (f.1 refl).0 (f.1 refl).1)

    by_case : ((a == 47) ≡ true) ⊎ ((a == 47) ≡ false) → IsLongest l (Kept (Sign n)) (a ∷ []) (c ∷ cs)
    by_case (inl q) = at_slash a (is_slash a q) e f
    by_case (inr q) = sign_ends_one l a n (c ∷ cs) (other_is (class_of a) (no_slash (a == 47) (is_other (class_of a)) form q)) e f.0
sign_longest l n (a ∷ b ∷ []) c cs form e f = sign_ends_two l a b n (c ∷ cs) (other_is (class_of a) form) e f.0
sign_longest l n (a ∷ b ∷ d ∷ []) c cs form e f = sign_ends_three l a b d n (c ∷ cs) (other_is (class_of a) form) e
sign_longest l n (a ∷ b ∷ d ∷ g ∷ bytes) c cs form e f = cc

run_all : (p : ℕ → Bool) (bs : List ℕ) → list_all p bs ≡ true → IsRun p bs
run_all p [] e = tt
run_all p (b ∷ bs) e = let h = both_true (p b) (list_all p bs) e in (h.0, run_all p bs h.1)

-- the test of a basic name
pub basic_name : (bs : List ℕ) → is_basic_name bs ≡ true → IsBasicName bs
basic_name [] e = absurd (cc)
basic_name (b ∷ bs) e = let h = both_true (is_letter b) (list_all is_word bs) e in (h.0, run_all is_word bs h.1)

none_is : (o : Option ℕ) → is_none o ≡ true → o ≡ None
none_is None e = refl
none_is (Some n) e = absurd (cc)

name_longest : (l : Language) (s : List ℕ) (c : ℕ) (cs : List ℕ) → IsSpellable s → is_word c ≡ false → IsLongest l (Kept Name) (name_spelling l s) (c ∷ cs)
name_longest l s c cs h e = elim (bool_cases (is_basic_name s && is_none (place_in (words l) s))) [
  | inl bare ↦
      let b = both_true (is_basic_name s) (is_none (place_in (words l) s)) bare in
      rw bare (basic_name_ends l s (c ∷ cs) (basic_name s b.0) (none_is (place_in (words l) s) b.1) e)
  | inr other ↦ rw other (quoted_name_ends l s (c ∷ cs) h.each)
]

-- a token is the longest piece where a byte follows that may
pub fit_longest : (l : Language) (k : TokenKind) (bytes : List ℕ) (c : ℕ) (cs : List ℕ) → IsFitKind l k bytes → FollowsKind k bytes c
    → IsLongest l (Kept k) bytes (c ∷ cs)
fit_longest l Name bytes c cs h f = subst (λ xs. IsLongest l (Kept Name) xs (c ∷ cs)) (sym h.2) (name_longest l h.0 c cs h.1 f)
fit_longest l (Word n) bytes c cs h f = word_ends l bytes (c ∷ cs) n h.0 h.1 f
fit_longest l Integer bytes c cs h f = number_ends l bytes (c ∷ cs) h (no_digit c f)
fit_longest l Quote bytes c cs h f = subst (λ xs. IsLongest l (Kept Quote) xs (c ∷ cs)) (sym h.2) (string_ends l h.0 (c ∷ cs) h.1.each)
fit_longest l Comment bytes c cs h f = subst (λ xs. IsLongest l (Kept Comment) xs (c ∷ cs)) (sym h.3) (comment_ends l h.0 (c ∷ cs) h.1)
fit_longest l (Sign n) bytes c cs h f = sign_longest l n bytes c cs (sign_form bytes n h) h f

-- white space may follow any token
space_inside : (c : ℕ) → is_space c ≡ true → is_inside c ≡ true
space_inside c e = grind (arith, nat_tests)

space_apart : (c : ℕ) → is_space c ≡ true → ((c == 47) ≡ false) × ((c == 42) ≡ false)
space_apart c e = (one c e, two c e)
  where
    one : (c : ℕ) → is_space c ≡ true → (c == 47) ≡ false
    one c e = grind (arith, nat_tests)

    two : (c : ℕ) → is_space c ≡ true → (c == 42) ≡ false
    two c e = grind (arith, nat_tests)

space_no_word : (c : ℕ) → is_space c ≡ true → is_word c ≡ false
space_no_word c e = grind (arith, nat_tests)

-- white space may follow any token
pub follows_space : (k : TokenKind) (bytes : List ℕ) (c : ℕ) → is_space c ≡ true → FollowsKind k bytes c
follows_space Name bytes c e = space_no_word c e
follows_space (Word n) bytes c e = space_no_word c e
follows_space Integer bytes c e = space_no_word c e
follows_space Quote bytes c e = tt
follows_space Comment bytes c e = tt
follows_space (Sign n) bytes c e = (stops_inside bytes [] c (space_inside c e), λ q. space_apart c e)

-- no token begins with white space
abbrev pub BeginsBlack : List ℕ → Type 0
BeginsBlack [] = ⊥
BeginsBlack (b ∷ bs) = is_space b ≡ false

letter_black : (b : ℕ) → is_letter b ≡ true → is_space b ≡ false
letter_black b e = grind (arith, nat_tests)

digit_black : (b : ℕ) → is_digit b ≡ true → is_space b ≡ false
digit_black b e = grind (arith, nat_tests)

abbrev is_black : List ℕ → Bool
is_black [] = false
is_black (b ∷ bs) = not (is_space b)

signs_black : list_all is_black signs ≡ true
unfolding signs
signs_black = refl

black_is : (bytes : List ℕ) → is_black bytes ≡ true → BeginsBlack bytes
black_is [] e = cc
black_is (b ∷ bs) e = off (is_space b) e
  where
    off : (x : Bool) → not x ≡ true → x ≡ false
    off true e = absurd (cc)
    off false e = refl

basic_black : (bytes : List ℕ) → IsBasicName bytes → BeginsBlack bytes
basic_black [] h = elim h [ ]
basic_black (b ∷ bs) h = letter_black b h.0

-- no token begins with white space
pub fit_black : (l : Language) (k : TokenKind) (bytes : List ℕ) → IsFitKind l k bytes → BeginsBlack bytes
fit_black l Name bytes h = subst BeginsBlack (sym h.2) (spelt_black l h.0)
  where
    spelt_black : (l : Language) (s : List ℕ) → BeginsBlack (name_spelling l s)
    spelt_black l s = elim (bool_cases (is_basic_name s && is_none (place_in (words l) s))) [
      | inl bare ↦ rw bare (basic_black s (basic_name s (both_true (is_basic_name s) (is_none (place_in (words l) s)) bare).0))
      | inr other ↦ rw other refl
    ]
fit_black l (Word n) bytes h = basic_black bytes h.0
fit_black l Integer [] h = elim h [ ]
fit_black l Integer (b ∷ bs) h = digit_black b h.0
fit_black l Quote bytes h = subst BeginsBlack (sym h.2) refl
fit_black l Comment bytes h = subst BeginsBlack (sym h.3) refl
fit_black l (Sign n) bytes h = black_is bytes (place_has is_black signs bytes n signs_black h)

-- where no space stands between two tokens, the second's first byte may follow the first
abbrev pub BeginsAfter : Printed → List ℕ → Type 0
BeginsAfter p [] = ⊥
BeginsAfter p (c ∷ cs) = Follows p c

-- the second token may stand behind the first
abbrev pub Apart : Printed → Printed → Type 0
Apart p q = gap p q ≡ [] → BeginsAfter p q.bytes

-- behind a token the tokens are fit, each apart from the one before
abbrev pub Chained : Language → Printed → List Printed → Type 0
Chained l p [] = Unit {0}
Chained l p (q ∷ qs) = IsFit l q × Apart p q × Chained l q qs

-- white space that ends a token
abbrev pub IsBreak : List ℕ → Type 0
IsBreak [] = ⊥
IsBreak (b ∷ bs) = (is_space b ≡ true) × IsRun is_space bs

longest_before : (l : Language) (p : Printed) (xs : List ℕ) → IsFit l p → BeginsAfter p xs → (more : List ℕ) → IsLongest l (Kept p.kind) p.bytes (xs ++ more)
longest_before l p [] h f more = elim f [ ]
longest_before l p (c ∷ cs) h f more = fit_longest l p.kind p.bytes c (cs ++ more) h f

-- what begins otherwise ends white space
pub black_ends : (xs more : List ℕ) → BeginsBlack xs → Ends is_space (xs ++ more)
black_ends [] more h = elim h [ ]
black_ends (x ∷ xs) more h = h

-- white space is a piece before what is none
pub break_gap : (l : Language) (g more : List ℕ) → IsBreak g → Ends is_space more → IsGap l g more
break_gap l [] more h e = elim h [ ]
break_gap l (b ∷ bs) more h e = space_ends l b bs more h e

break_after : (p : Printed) (g : List ℕ) → IsBreak g → BeginsAfter p g
break_after p [] h = elim h [ ]
break_after p (c ∷ cs) h = follows_space p.kind p.bytes c h.0

-- the bytes of tokens with their white space don't begin with white space
pub puts_black : (l : Language) (q : Printed) (qs : List Printed) (after : List ℕ) (rest : List Put) → IsFit l q
    → Ends is_space (bytes_in (puts_in (q ∷ qs) after ++ rest))
puts_black l q [] after rest h = black_ends q.bytes _ (fit_black l q.kind q.bytes h)
puts_black l q (r ∷ qs) after rest h = black_ends q.bytes _ (fit_black l q.kind q.bytes h)

one_put : (l : Language) (p q : Printed) (more : List ℕ) → IsFit l p → IsFit l q → Apart p q → Ends is_space (q.bytes ++ more) → (g : List ℕ) → gap p q ≡ g
    → (g ≡ []) ⊎ (g ≡ 32 ∷ [])
    → IsLongest l (Kept p.kind) p.bytes (g ++ (q.bytes ++ more)) × IsGap l g (q.bytes ++ more)
one_put l p q more h k a black g e (inl z) =
    subst (λ xs. IsLongest l (Kept p.kind) p.bytes (xs ++ (q.bytes ++ more)) × IsGap l xs (q.bytes ++ more)) (sym z)
    (longest_before l p q.bytes h (a (e ∙ z)) more, tt)
one_put l p q more h k a black g e (inr z) =
    subst (λ xs. IsLongest l (Kept p.kind) p.bytes (xs ++ (q.bytes ++ more)) × IsGap l xs (q.bytes ++ more)) (sym z)
    (fit_longest l p.kind p.bytes 32 (q.bytes ++ more) h (follows_space p.kind p.bytes 32 refl), break_gap l (32 ∷ []) (q.bytes ++ more) (refl, tt) black)

gap_is : (b : Bool) → (cond {A = List ℕ} b [] (32 ∷ []) ≡ []) ⊎ (cond {A = List ℕ} b [] (32 ∷ []) ≡ 32 ∷ [])
gap_is true = inl refl
gap_is false = inr refl

-- the tokens of a line are put, whatever is put behind it
pub line_put : (l : Language) (p : Printed) (ps : List Printed) (after : List ℕ) (rest : List Put) → IsFit l p → Chained l p ps → IsBreak after
    → Ends is_space (bytes_in rest) → ArePut l rest → ArePut l (puts_in (p ∷ ps) after ++ rest)
line_put l p [] after rest h c b black put = (
  longest_before l p after h (break_after p after b) (bytes_in rest),
  (break_gap l after (bytes_in rest) b black, put),
)
line_put l p (q ∷ ps) after rest h c b black put =
    let later = line_put l q ps after rest c.0 c.2 b black put in
    let one = first_put l p q ps after rest h c.0 c.1 in
    (one.0, (one.1, later))
  where
    first_put : (l : Language) (p q : Printed) (ps : List Printed) (after : List ℕ) (rest : List Put) → IsFit l p → IsFit l q → Apart p q
        → IsLongest l (Kept p.kind) p.bytes (gap p q ++ bytes_in (puts_in (q ∷ ps) after ++ rest))
        × IsGap l (gap p q) (bytes_in (puts_in (q ∷ ps) after ++ rest))
    first_put l p q [] after rest h k a = one_put l p q (after ++ bytes_in rest) h k a (puts_black l q [] after rest k) (gap p q) refl (gap_is _)
    first_put l p q (r ∷ ps) after rest h k a = one_put l p q (gap q r ++ bytes_in (puts_in (r ∷ ps) after ++ rest)) h k a
        (puts_black l q (r ∷ ps) after rest k) (gap p q) refl (gap_is _)

-- Tokens are UTF-8.

run_through : (p q : ℕ → Bool) → ((b : ℕ) → p b ≡ true → q b ≡ true) → (bs : List ℕ) → IsRun p bs → IsRun q bs
run_through p q on [] h = tt
run_through p q on (b ∷ bs) h = (on b h.0, run_through p q on bs h.1)

letter_word : (b : ℕ) → is_letter b ≡ true → is_word b ≡ true
letter_word b e = grind (arith, nat_tests)

digit_word : (b : ℕ) → is_digit b ≡ true → is_word b ≡ true
digit_word b e = grind (arith, nat_tests)

basic_utf8 : (bs : List ℕ) → IsBasicName bs → IsUtf8 bs
basic_utf8 [] h = elim h [ ]
basic_utf8 (b ∷ bs) h = word_utf8 (b ∷ bs) (letter_word b h.0, h.1)

digits_utf8 : (bs : List ℕ) → IsSomeRun is_digit bs → IsUtf8 bs
digits_utf8 [] h = elim h [ ]
digits_utf8 (b ∷ bs) h = word_utf8 (b ∷ bs) (run_through is_digit is_word digit_word (b ∷ bs) h)

abbrev is_low : List ℕ → Bool
is_low bs = list_all (λ b. nat_lt b 128) bs

signs_low : list_all is_low signs ≡ true
unfolding signs
signs_low = refl

one_ascii : (b : ℕ) → b < 128 → IsAscii (b ∷ [])
one_ascii b small zero = small
one_ascii b small (suc i) = omega arith

-- bytes below 128
pub low_utf8 : (bs : List ℕ) → is_low bs ≡ true → IsUtf8 bs
low_utf8 [] e = IsUtf8-nil
low_utf8 (b ∷ bs) e =
    let h = both_true (nat_lt b 128) (is_low bs) e in
    IsUtf8-append (b ∷ []) bs (IsUtf8-from_ascii (b ∷ []) (one_ascii b (small b h.0))) (low_utf8 bs h.1)
  where
    small : (b : ℕ) → nat_lt b 128 ≡ true → b < 128
    small b e = grind (arith, nat_tests)

-- a token is UTF-8
pub fit_utf8 : (l : Language) (k : TokenKind) (bytes : List ℕ) → IsFitKind l k bytes → IsUtf8 bytes
fit_utf8 l Name bytes h = subst IsUtf8 (sym h.2) (spelt_utf8 l h.0 h.1.utf8)
  where
    spelt_utf8 : (l : Language) (s : List ℕ) → IsUtf8 s → IsUtf8 (name_spelling l s)
    spelt_utf8 l s u = elim (bool_cases (is_basic_name s && is_none (place_in (words l) s))) [
      | inl bare ↦ rw bare u
      | inr other ↦ rw other (quoted_utf8 39 s (omega arith) u)
    ]
fit_utf8 l (Word n) bytes h = basic_utf8 bytes h.0
fit_utf8 l Integer bytes h = digits_utf8 bytes h
fit_utf8 l Quote bytes h = subst IsUtf8 (sym h.2) (quoted_utf8 34 h.0 (omega arith) h.1.utf8)
fit_utf8 l Comment bytes h = subst IsUtf8 (sym h.3) (IsUtf8-append (47 ∷ 42 ∷ []) h.0 (low_utf8 (47 ∷ 42 ∷ []) refl) h.2)
fit_utf8 l (Sign n) bytes h = low_utf8 bytes (place_has is_low signs bytes n signs_low h)
