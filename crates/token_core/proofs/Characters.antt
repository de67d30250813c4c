-- Escapes leave a text UTF-8: each is of ASCII bytes, and the bytes of other characters are passed over.
use Rattle.std.proofs.Common.{◌≡◌, ℕ, suc, ◌+◌, ◌<◌, ◌≤◌, Bool, true, false, List, [], ◌∷◌, ◌++◌, length, take, get_or, refl, sym, ap, subst, ◌∙◌, inl, inr, arith, append_assoc, append-nil}
use Rattle.std.specs.Prelude.{Option, Some, None, ◌==◌, IsUtf8}
use Rattle.std.proofs.lemmas.Bool.{and_parts, cases_lt, eq-eqb}
use Rattle.std.proofs.lemmas.Bool.Decides.{nat_tests}
use Rattle.std.proofs.lemmas.Str.{IsUtf8-append, IsUtf8-nil, IsUtf8-encode, encode_ascii, inside_one, length-encode, len_utf8_bounds, IsUtf8-take, IsCharBoundary-after_ascii}
use lib.Utf8.{scalar, scalars, encode, encodes, low_scalar}
use Rattle.token_core.specs.Bytes.{IsRun, is_word, is_plain, is_escape, escape_meaning}
use Rattle.token_core.specs.Pieces.{IsUpToQuote}
use Rattle.token_core.specs.Reading.{decoded}
use Rattle.token_core.specs.Spelling.{spelt, quoted, written, escape_letter}
use Rattle.std.proofs.lemmas.List.{length-append}
use Rattle.std.proofs.Math.Seq.{get_or-append_seam, take-append-add}

ascii_then : (x : ℕ) (xs : List ℕ) → x < 128 → IsUtf8 xs → IsUtf8 (x ∷ xs)
ascii_then x xs small u = IsUtf8-append (x ∷ []) xs (subst IsUtf8 (encode_ascii x small) (IsUtf8-encode x (low_scalar x (omega arith)))) u

-- the bytes of a word are UTF-8
pub word_utf8 : (bs : List ℕ) → IsRun is_word bs → IsUtf8 bs
word_utf8 [] r = IsUtf8-nil
word_utf8 (b ∷ bs) r = ascii_then b bs (small b r.0) (word_utf8 bs r.1) where
  small : (b : ℕ) → is_word b ≡ true → b < 128
  small b e = grind (arith, nat_tests)

-- no byte of these is ASCII
abbrev pub AreHigh : List ℕ → Type 0
AreHigh [] = Unit {0}
AreHigh (b ∷ bs) = (128 ≤ b) × AreHigh bs

high_all : (xs : List ℕ) → ((k : ℕ) → k < length xs → 128 ≤ get_or xs k 0) → AreHigh xs
high_all [] h = tt
high_all (x ∷ xs) h = (h 0 (omega arith), high_all xs (λ k below. h (suc k) (omega arith)))

-- nor of a character past ASCII
high_char : (c : ℕ) → 128 ≤ c → AreHigh (encode c)
high_char c big = high_all (encode c) (λ k below. elim (cases_lt (get_or (encode c) k 0) 128) [
  | inl low ↦ absurd (omega (arith, inside_one c [] (encode c) k (sym (append-nil (encode c))) below low))
  | inr h ↦ h
])

decoded_high : (q : ℕ) (xs rest : List ℕ) → q < 128 → AreHigh xs → decoded q false (xs ++ rest) ≡ xs ++ decoded q false rest
decoded_high q [] rest small h = refl
decoded_high q (x ∷ xs) rest small h =
    let other : (x == q) ≡ false = apart x q h.0 small in
    let slash : (x == 92) ≡ false = apart x 92 h.0 (omega arith) in
    rw (other, slash, decoded_high q xs rest small h.1) refl
  where
    apart : (x y : ℕ) → 128 ≤ x → y < 128 → (x == y) ≡ false
    apart x y h small = grind (arith, nat_tests)

quote_high : (q : ℕ) (xs rest : List ℕ) → q < 128 → AreHigh xs → IsUpToQuote q false (xs ++ rest) → IsUpToQuote q false rest
quote_high q [] rest small h i = i
quote_high q (x ∷ xs) rest small h (inl i) = absurd (omega (arith, h.0, i.0))
quote_high q (x ∷ xs) rest small h (inr (inl i)) = absurd (omega (arith, h.0, i.0))
quote_high q (x ∷ xs) rest small h (inr (inr i)) = quote_high q xs rest small h.1 i.1

escape_low : (b : ℕ) → is_escape b ≡ true → (b < 128) × (escape_meaning b < 128)
escape_low b e = (low b e, meaning b e) where
  low : (b : ℕ) → is_escape b ≡ true → b < 128
  low b e = grind (arith, nat_tests)

  meaning : (b : ℕ) → is_escape b ≡ true → escape_meaning b < 128
  meaning b e = grind (arith, nat_tests)

-- a backslash does not stand before a character past ASCII
escape_high : (q : ℕ) (xs rest : List ℕ) → 0 < length xs → AreHigh xs → IsUpToQuote q true (xs ++ rest) → ⊥
escape_high q [] rest some h i = absurd (omega arith)
escape_high q (x ∷ xs) rest some h i = absurd (omega (arith, h.0, (escape_low x i.0).0))

some_bytes : (c : ℕ) → 0 < length (encode c)
some_bytes c = omega (arith, length-encode c, (len_utf8_bounds c).0)

-- reading escapes leaves a text UTF-8
decoded_chars : (q : ℕ) (escaped : Bool) (cs : List ℕ) → q < 128 → (q ≡ 92 → ⊥) → scalars cs ≡ true → IsUpToQuote q escaped (encodes cs) → IsUtf8 (decoded q escaped (encodes cs))
decoded_chars q escaped [] small apart e i = absurd i
decoded_chars q true (c ∷ cs) small apart e i = elim (cases_lt c 128) [
  | inl low ↦
      let p = and_parts (scalar c) (scalars cs) e in
      let one : encode c ≡ c ∷ [] = encode_ascii c low in
      let j : IsUpToQuote q true ((c ∷ []) ++ encodes cs) = subst (λ x. IsUpToQuote q true (x ++ encodes cs)) one i in
      subst (λ x. IsUtf8 (decoded q true (x ++ encodes cs))) (sym one) (ascii_then (escape_meaning c) (decoded q false (encodes cs)) (escape_low c j.0).1 (decoded_chars q false cs small apart p.1 j.1))
  | inr high ↦ absurd (escape_high q (encode c) (encodes cs) (some_bytes c) (high_char c high) i)
]
decoded_chars q false (c ∷ cs) small apart e i = elim (cases_lt c 128) [
  | inl low ↦
      let p = and_parts (scalar c) (scalars cs) e in
      let one : encode c ≡ c ∷ [] = encode_ascii c low in
      let j : IsUpToQuote q false ((c ∷ []) ++ encodes cs) = subst (λ x. IsUpToQuote q false (x ++ encodes cs)) one i in
      subst (λ x. IsUtf8 (decoded q false (x ++ encodes cs))) (sym one) (
      ascii_decoded c low (λ k. decoded_chars q true cs small apart p.1 k) (λ k. decoded_chars q false cs small apart p.1 k) j)
  | inr high ↦
      let p = and_parts (scalar c) (scalars cs) e in
      let h : AreHigh (encode c) = high_char c high in
      subst IsUtf8 (sym (decoded_high q (encode c) (encodes cs) small h)) (
      IsUtf8-append (encode c) (decoded q false (encodes cs)) (IsUtf8-encode c p.0) (decoded_chars q false cs small apart p.1 (quote_high q (encode c) (encodes cs) small h i)))
] where
  plain_apart : (c : ℕ) → is_plain q c ≡ true → ((c == q) ≡ false) × ((c == 92) ≡ false)
  plain_apart c e = (first c e, second c e) where
    first : (c : ℕ) → is_plain q c ≡ true → (c == q) ≡ false
    first c e = grind (arith, nat_tests)

    second : (c : ℕ) → is_plain q c ≡ true → (c == 92) ≡ false
    second c e = grind (arith, nat_tests)

  ascii_decoded : (c : ℕ) → c < 128 → (IsUpToQuote q true (encodes cs) → IsUtf8 (decoded q true (encodes cs))) → (IsUpToQuote q false (encodes cs) → IsUtf8 (decoded q false (encodes cs))) → IsUpToQuote q false (c ∷ encodes cs) → IsUtf8 (decoded q false (c ∷ encodes cs))
  ascii_decoded c low after plain (inl j) = rw (eq-eqb c q j.0) IsUtf8-nil
  ascii_decoded c low after plain (inr (inl j)) =
      let other : (c == q) ≡ false = grind (arith, nat_tests) in
      rw (other, eq-eqb c 92 j.0) (after j.1)
  ascii_decoded c low after plain (inr (inr j)) = rw ((plain_apart c j.0).0, (plain_apart c j.0).1) (ascii_then c (decoded q false (encodes cs)) low (plain j.1))

pub decoded_utf8 : (q : ℕ) (bs : List ℕ) → q < 128 → (q ≡ 92 → ⊥) → IsUtf8 bs → IsUpToQuote q false bs → IsUtf8 (decoded q false bs)
decoded_utf8 q bs small apart u i =
    subst (λ x. IsUtf8 (decoded q false x)) u.1.1 (decoded_chars q false u.0 small apart u.1.0 (subst (IsUpToQuote q false) (sym u.1.1) i))

spelt_high : (q : ℕ) (xs rest : List ℕ) → q < 128 → AreHigh xs → spelt q (xs ++ rest) ≡ xs ++ spelt q rest
spelt_high q [] rest small h = refl
spelt_high q (x ∷ xs) rest small h = rw (as_is x h.0, spelt_high q xs rest small h.1) refl where
  as_is : (x : ℕ) → 128 ≤ x → escape_letter q x ≡ None
  as_is x h =
      let a : (x == 8) ≡ false = apart x 8 h (omega arith) in
      let b : (x == 9) ≡ false = apart x 9 h (omega arith) in
      let c : (x == 10) ≡ false = apart x 10 h (omega arith) in
      let d : (x == 12) ≡ false = apart x 12 h (omega arith) in
      let e : (x == 92) ≡ false = apart x 92 h (omega arith) in
      let f : (x == q) ≡ false = apart x q h small in
      rw (a, b, c, d, e, f) refl
    where
      apart : (x y : ℕ) → 128 ≤ x → y < 128 → (x == y) ≡ false
      apart x y h small = grind (arith, nat_tests)

-- what is written for an ASCII byte is ASCII
written_ascii : (q : ℕ) (b : ℕ) (rest : List ℕ) → q < 128 → b < 128 → IsUtf8 rest → IsUtf8 (written b (escape_letter q b) ++ rest)
written_ascii q b rest small low u = go (escape_letter q b) refl where
  letter_low : (letter : ℕ) → escape_letter q b ≡ Some letter → letter < 128
  letter_low letter e = grind (arith, nat_tests)

  go : (o : Option ℕ) → escape_letter q b ≡ o → IsUtf8 (written b o ++ rest)
  go None e = ascii_then b rest low u
  go (Some letter) e = ascii_then 92 (letter ∷ rest) (omega arith) (ascii_then letter rest (letter_low letter e) u)

spelt_chars : (q : ℕ) (cs : List ℕ) → q < 128 → scalars cs ≡ true → IsUtf8 (spelt q (encodes cs))
spelt_chars q [] small e = ascii_then q [] small IsUtf8-nil
spelt_chars q (c ∷ cs) small e = elim (cases_lt c 128) [
  | inl low ↦
      let p = and_parts (scalar c) (scalars cs) e in
      subst (λ x. IsUtf8 (spelt q (x ++ encodes cs))) (sym (encode_ascii c low)) (written_ascii q c (spelt q (encodes cs)) small low (spelt_chars q cs small p.1))
  | inr high ↦
      let p = and_parts (scalar c) (scalars cs) e in
      subst IsUtf8 (sym (spelt_high q (encode c) (encodes cs) small (high_char c high))) (
      IsUtf8-append (encode c) (spelt q (encodes cs)) (IsUtf8-encode c p.0) (spelt_chars q cs small p.1))
]

-- what is written between quotes is UTF-8
pub quoted_utf8 : (q : ℕ) (bs : List ℕ) → q < 128 → IsUtf8 bs → IsUtf8 (quoted q bs)
quoted_utf8 q bs small u = ascii_then q (spelt q bs) small (subst (λ x. IsUtf8 (spelt q x)) u.1.1 (spelt_chars q u.0 small u.1.0))

-- a front that ends at an ASCII byte is UTF-8 where the whole is
ascii_end : (front : List ℕ) (b : ℕ) (rest : List ℕ) → b < 128 → IsUtf8 (front ++ b ∷ rest) → IsUtf8 (front ++ b ∷ [])
ascii_end front b rest low u =
    let whole : List ℕ = front ++ b ∷ rest in
    let size : length whole ≡ length front + (1 + length rest) = omega (arith, length-append front (b ∷ rest)) in
    let here : get_or whole (length front) 0 ≡ b = get_or-append_seam front b rest 0 in
    let boundary = IsCharBoundary-after_ascii whole (length front) u (omega arith) (subst (λ x. x < 128) (sym here) low) in
    let cut : take (length front + 1) whole ≡ front ++ b ∷ [] = take-append-add front (b ∷ rest) 1 in
    subst IsUtf8 cut (IsUtf8-take whole (length front + 1) u boundary)

-- the bytes end with the quote
quote_last : (q : ℕ) (escaped : Bool) (bs : List ℕ) → IsUpToQuote q escaped bs → (front : List ℕ) × (bs ≡ front ++ q ∷ [])
quote_last q escaped [] i = absurd i
quote_last q true (b ∷ bs) i = let r = quote_last q false bs i.1 in (b ∷ r.0, ap (λ xs. b ∷ xs) r.1)
quote_last q false (b ∷ bs) (inl i) = ([], ap (λ x. x ∷ bs) i.0 ∙ ap (λ xs. q ∷ xs) i.1)
quote_last q false (b ∷ bs) (inr (inl i)) = let r = quote_last q true bs i.1 in (b ∷ r.0, ap (λ xs. b ∷ xs) r.1)
quote_last q false (b ∷ bs) (inr (inr i)) = let r = quote_last q false bs i.1 in (b ∷ r.0, ap (λ xs. b ∷ xs) r.1)

-- the bytes after an opening quote are UTF-8 where the whole text is
pub inside_utf8 : (q : ℕ) (bs rest : List ℕ) → q < 128 → IsUtf8 (bs ++ rest) → IsUpToQuote q false bs → IsUtf8 bs
inside_utf8 q bs rest low u i =
    let l = quote_last q false bs i in
    let whole : bs ++ rest ≡ l.0 ++ q ∷ rest = ap (λ xs. xs ++ rest) l.1 ∙ append_assoc l.0 (q ∷ []) rest in
    subst IsUtf8 (sym l.1) (ascii_end l.0 q rest low (subst IsUtf8 whole u))
