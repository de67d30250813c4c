-- A spelling is one token, and reading it gives back what was spelt.
use Rattle.std.proofs.Common.{◌≡◌, ℕ, Bool, true, false, List, [], ◌∷◌, ◌++◌, length, refl, sym, ap, ◌∙◌, inl, inr, arith, ◌⊎◌, append-nil}
use Rattle.std.specs.Prelude.{Option, Some, None, is_none, ◌&&◌, ◌==◌, IsUtf8}
use Rattle.std.specs.List.{list_all}
use Rattle.std.proofs.lemmas.Bool.{and_parts, eq-eqb}
use Rattle.std.proofs.lemmas.Bool.Decides.{nat_tests}
use Rattle.std.proofs.lemmas.List.{length-append}
use Rattle.linker_base.proofs.Cases.{bool_cases}
use Rattle.element_store.specs.declared.outcome.Language.{Language}
use Rattle.token_core.specs.declared.token.TokenKind.{TokenKind}
use Rattle.token_core.specs.declared.token.TokenKind.TheVariants.{Name, Quote}
use Rattle.token_core.specs.declared.token.PieceKind.TheVariants.{Token as Kept}
use Rattle.token_core.specs.Bytes.{IsRun, is_word, is_letter, is_plain, is_escape, escape_meaning}
use Rattle.token_core.specs.Words.{words, place_in}
use Rattle.token_core.specs.Pieces.{IsPiece, IsLongest, IsBasicName, IsUpToQuote}
use Rattle.token_core.specs.Lex.{Piece, Cut, too_deep}
use Rattle.token_core.specs.Reading.{decoded, is_spellable, name_meaning, string_meaning, IsSpellable}
use Rattle.token_core.specs.Spelling.{spelt, quoted, written, escape_letter, is_basic_name, name_spelling, string_spelling, IsOneToken}
use Rattle.token_core.proofs.Characters.{quoted_utf8}

-- a byte that is written as it is, is no quote, no backslash and none of the escaped ones
as_it_is : (q b : ℕ) → escape_letter q b ≡ None → ((b == q) ≡ false) × ((b == 92) ≡ false)
as_it_is q b e = (first q b e, second q b e) where
  first : (q b : ℕ) → escape_letter q b ≡ None → (b == q) ≡ false
  first q b e = grind (arith, nat_tests)

  second : (q b : ℕ) → escape_letter q b ≡ None → (b == 92) ≡ false
  second q b e = grind (arith, nat_tests)

-- and may stand between the quotes
plain_it_is : (q b : ℕ) → escape_letter q b ≡ None → is_spellable b ≡ true → is_plain q b ≡ true
plain_it_is q b e s = grind (arith, nat_tests)

-- the letter of an escape stands for the byte
letter_means : (q b letter : ℕ) → (q ≡ 39) ⊎ (q ≡ 34) → escape_letter q b ≡ Some letter → escape_meaning letter ≡ b
letter_means q b letter o e = grind (arith, nat_tests)

letter_escapes : (q b letter : ℕ) → (q ≡ 39) ⊎ (q ≡ 34) → escape_letter q b ≡ Some letter → is_escape letter ≡ true
letter_escapes q b letter o e = grind (arith, nat_tests)

-- reading what is written for one byte gives the byte back
decoded_written : (q b : ℕ) (rest : List ℕ) (x : Option ℕ) → (q ≡ 39) ⊎ (q ≡ 34) → escape_letter q b ≡ x → decoded q false (written b x ++ rest) ≡ b ∷ decoded q false rest
decoded_written q b rest None o e = rw ((as_it_is q b e).0, (as_it_is q b e).1) refl
decoded_written q b rest (Some letter) o e =
    let other : (92 == q) ≡ false = grind (arith, nat_tests) in
    rw (other, letter_means q b letter o e) refl

-- reading what is written gives back the bytes
pub decoded_spelt : (q : ℕ) (bs : List ℕ) → (q ≡ 39) ⊎ (q ≡ 34) → decoded q false (spelt q bs) ≡ bs
decoded_spelt q [] o =
    let same : (q == q) ≡ true = eq-eqb q q refl in
    rw same refl
decoded_spelt q (b ∷ bs) o = decoded_written q b (spelt q bs) (escape_letter q b) o refl ∙ ap (λ xs. b ∷ xs) (decoded_spelt q bs o)

quote_written : (q b : ℕ) (rest : List ℕ) (x : Option ℕ) → (q ≡ 39) ⊎ (q ≡ 34) → is_spellable b ≡ true → escape_letter q b ≡ x → IsUpToQuote q false rest → IsUpToQuote q false (written b x ++ rest)
quote_written q b rest None o s e i = inr (inr (plain_it_is q b e s, i))
quote_written q b rest (Some letter) o s e i = inr (inl (refl, (letter_escapes q b letter o e, i)))

-- what is written ends at its closing quote
quote_spelt : (q : ℕ) (bs : List ℕ) → (q ≡ 39) ⊎ (q ≡ 34) → IsRun is_spellable bs → IsUpToQuote q false (spelt q bs)
quote_spelt q [] o r = inl (refl, refl)
quote_spelt q (b ∷ bs) o r = quote_written q b (spelt q bs) (escape_letter q b) o r.0 refl (quote_spelt q bs o r.1)

-- a text that is one piece is one token
one_token : (language : Language) (kind : TokenKind) (text : List ℕ) → IsUtf8 text → IsPiece language (Kept kind) text [] → too_deep 0 (record { kind = kind; from = 0; upto = length text } ∷ []) ≡ None → IsOneToken language kind text
one_token language kind text u i flat = (u, (p ∷ [], cut, ap (λ n. record { kind = kind; from = 0; upto = n } ∷ []) (omega arith)), flat) where
  p : Piece
  p = record { kind = Kept kind; bytes = text }

  whole : IsLongest language (Kept kind) text []
  whole = record { piece = i; longest = λ k bs rest e j. omega (arith, ap length e, length-append bs rest, length-append text []) }

  cut : Cut language (p ∷ []) text []
  cut = ([], sym (append-nil text), whole, refl)

-- a string's spelling is one token
pub string_one : (language : Language) (bs : List ℕ) → IsSpellable bs → IsOneToken language Quote (string_spelling bs)
string_one language bs s = one_token language Quote (quoted 34 bs) (quoted_utf8 34 bs (omega arith) s.utf8) (refl, quote_spelt 34 bs (inr refl) s.each) refl

-- and stands for the text
pub string_back : (bs : List ℕ) → string_meaning (string_spelling bs) ≡ bs
string_back bs = decoded_spelt 34 bs (inr refl)

run_all : (p : ℕ → Bool) (bs : List ℕ) → list_all p bs ≡ true → IsRun p bs
run_all p [] e = tt
run_all p (b ∷ bs) e = let h = and_parts (p b) (list_all p bs) e in (h.0, run_all p bs h.1)

basic_name : (bs : List ℕ) → is_basic_name bs ≡ true → IsBasicName bs
basic_name [] e = absurd (cc)
basic_name (b ∷ bs) e = let h = and_parts (is_letter b) (list_all is_word bs) e in (h.0, run_all is_word bs h.1)

none_is : (o : Option ℕ) → is_none o ≡ true → o ≡ None
none_is None e = refl
none_is (Some n) e = absurd (cc)

-- a name's spelling is one token
pub name_one : (language : Language) (bs : List ℕ) → IsSpellable bs → IsOneToken language Name (name_spelling language bs)
name_one language bs s = elim (bool_cases (is_basic_name bs && is_none (place_in (words language) bs))) [
  | inl bare ↦
      let h = and_parts (is_basic_name bs) (is_none (place_in (words language) bs)) bare in
      rw bare (one_token language Name bs s.utf8 (inl (basic_name bs h.0, none_is (place_in (words language) bs) h.1)) refl)
  | inr other ↦ rw other (one_token language Name (quoted 39 bs) (quoted_utf8 39 bs (omega arith) s.utf8) (inr (refl, quote_spelt 39 bs (inl refl) s.each)) refl)
]

bare_back : (bs : List ℕ) → is_basic_name bs ≡ true → name_meaning bs ≡ bs
bare_back [] e = refl
bare_back (b ∷ bs) e =
    let letter = (and_parts (is_letter b) (list_all is_word bs) e).0 in
    let other : (b == 39) ≡ false = no_quote b letter in
    rw other refl
  where
    no_quote : (b : ℕ) → is_letter b ≡ true → (b == 39) ≡ false
    no_quote b e = grind (arith, nat_tests)

-- and stands for the name
pub name_back : (language : Language) (bs : List ℕ) → name_meaning (name_spelling language bs) ≡ bs
name_back language bs = elim (bool_cases (is_basic_name bs && is_none (place_in (words language) bs))) [
  | inl bare ↦ rw bare (bare_back bs (and_parts (is_basic_name bs) (is_none (place_in (words language) bs)) bare).0)
  | inr other ↦ rw other (decoded_spelt 39 bs (inl refl))
]
