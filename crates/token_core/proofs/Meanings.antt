-- What a name or a string stands for can be spelt again, and so can what a comment says.
use Rattle.std.proofs.Common.{◌≡◌, ℕ, ◌+◌, ◌-◌, ◌<◌, ◌≤◌, Bool, true, false, List, [], ◌∷◌, ◌++◌, length, take, drop, get_or, refl, sym, ap, subst, ◌∙◌, inl, inr, arith, length-drop, append_assoc}
use Rattle.std.specs.Prelude.{◌==◌, IsUtf8}
use Rattle.std.proofs.lemmas.Bool.{eq-eqb}
use Rattle.std.proofs.lemmas.Bool.Decides.{nat_tests}
use Rattle.std.proofs.lemmas.List.{get_or-drop, drop_more, length-append}
use Rattle.std.proofs.Math.Seq.{get_or-append_seam, take-append_seam}
use Rattle.std.proofs.lemmas.List.Folds.{drop_split}
use Rattle.std.proofs.lemmas.Str.{IsUtf8-drop, IsUtf8-take, IsCharBoundary-after_ascii, IsCharBoundary-before_ascii}
use Rattle.token_core.specs.declared.token.Token.{Token}
use Rattle.element_store.specs.declared.outcome.Language.{Language}
use Rattle.token_core.specs.declared.token.TokenKind.TheVariants.{Name, Quote, Comment}
use Rattle.token_core.specs.declared.token.PieceKind.TheVariants.{Token as Kept}
use Rattle.token_core.specs.Bytes.{IsRun, is_word, is_letter, is_plain, is_escape, escape_meaning}
use Rattle.token_core.specs.Pieces.{IsPiece, IsBasicName, IsUpToClose, IsUpToQuote, IsQuoted}
use Rattle.token_core.specs.Reading.{bytes_of, comment_meaning, commented, decoded, is_spellable, name_meaning, string_meaning, IsSpellable, IsTokenOf}
use Rattle.token_core.proofs.Characters.{word_utf8, decoded_utf8, inside_utf8}

word_spellable : (b : ℕ) → is_word b ≡ true → is_spellable b ≡ true
word_spellable b e = grind (arith, nat_tests)

letter_word : (b : ℕ) → is_letter b ≡ true → is_word b ≡ true
letter_word b e = rw e refl

run_through : (p q : ℕ → Bool) → ((b : ℕ) → p b ≡ true → q b ≡ true) → (bs : List ℕ) → IsRun p bs → IsRun q bs
run_through p q h [] r = tt
run_through p q h (b ∷ bs) r = (h b r.0, run_through p q h bs r.1)

basic_spellable : (bs : List ℕ) → IsBasicName bs → IsSpellable bs
basic_spellable [] i = absurd i
basic_spellable (b ∷ bs) i =
    let r : IsRun is_word (b ∷ bs) = (letter_word b i.0, i.1) in
    record { utf8 = word_utf8 (b ∷ bs) r; each = run_through is_word is_spellable word_spellable (b ∷ bs) r }

escape_spellable : (b : ℕ) → is_escape b ≡ true → is_spellable (escape_meaning b) ≡ true
escape_spellable b e = grind (arith, nat_tests)

plain_spellable : (q b : ℕ) → is_plain q b ≡ true → is_spellable b ≡ true
plain_spellable q b e = grind (arith, nat_tests)

plain_apart : (q b : ℕ) → is_plain q b ≡ true → ((b == q) ≡ false) × ((b == 92) ≡ false)
plain_apart q b e = (first q b e, second q b e) where
  first : (q b : ℕ) → is_plain q b ≡ true → (b == q) ≡ false
  first q b e = grind (arith, nat_tests)

  second : (q b : ℕ) → is_plain q b ≡ true → (b == 92) ≡ false
  second q b e = grind (arith, nat_tests)

-- each byte that is read between quotes may be spelt
decoded_each : (q : ℕ) (escaped : Bool) (bs : List ℕ) → (q ≡ 92 → ⊥) → IsUpToQuote q escaped bs → IsRun is_spellable (decoded q escaped bs)
decoded_each q escaped [] o i = absurd i
decoded_each q true (b ∷ bs) o i = (escape_spellable b i.0, decoded_each q false bs o i.1)
decoded_each q false (b ∷ bs) o (inl i) = rw (eq-eqb b q i.0) tt
decoded_each q false (b ∷ bs) o (inr (inl i)) =
    let other : (b == q) ≡ false = grind (arith, nat_tests) in
    rw (other, eq-eqb b 92 i.0) (decoded_each q true bs o i.1)
decoded_each q false (b ∷ bs) o (inr (inr i)) = rw ((plain_apart q b i.0).0, (plain_apart q b i.0).1) (plain_spellable q b i.0, decoded_each q false bs o i.1)

-- what quotes enclose in a text that is UTF-8 can be spelt
decoded_spellable : (q : ℕ) (bs rest : List ℕ) → q < 128 → (q ≡ 92 → ⊥) → IsUtf8 (bs ++ rest) → IsUpToQuote q false bs → IsSpellable (decoded q false bs)
decoded_spellable q bs rest low o u i = record { utf8 = decoded_utf8 q bs low o (inside_utf8 q bs rest low u i) i; each = decoded_each q false bs o i }

-- what stands after an ASCII byte of a text
after_first : (text : List ℕ) (at : ℕ) (b : ℕ) (bs : List ℕ) → IsUtf8 text → b < 128 → drop at text ≡ b ∷ bs → IsUtf8 bs
after_first text at b bs u low e =
    let size : length text - at ≡ 1 + length bs = sym (length-drop at text) ∙ (ap length e ∙ omega arith) in
    let here : get_or text at 0 ≡ b = ap (λ n. get_or text n 0) (omega arith) ∙ (sym (get_or-drop at text 0 0) ∙ ap (λ xs. get_or xs 0 0) e) in
    let tail : bs ≡ drop (at + 1) text = ap (drop 1) (sym e ∙ drop_more text at 0 (omega (arith, size))) in
    subst IsUtf8 (sym tail) (IsUtf8-drop text (at + 1) u (IsCharBoundary-after_ascii text at u (omega (arith, size)) (subst (λ x. x < 128) (sym here) low)))

name_quoted : (text : List ℕ) (at : ℕ) (bytes rest : List ℕ) → IsUtf8 text → drop at text ≡ bytes ++ rest → IsQuoted 39 bytes → IsSpellable (name_meaning bytes)
name_quoted text at [] rest u e i = absurd i
name_quoted text at (b ∷ bs) rest u e i =
    let inside : IsUtf8 (bs ++ rest) = after_first text at b (bs ++ rest) u (omega (arith, i.0)) e in
    rw (eq-eqb b 39 i.0) (decoded_spellable 39 bs rest (omega arith) (λ x. absurd (omega (arith, x))) inside i.1)

string_quoted : (text : List ℕ) (at : ℕ) (bytes rest : List ℕ) → IsUtf8 text → drop at text ≡ bytes ++ rest → IsQuoted 34 bytes → IsSpellable (string_meaning bytes)
string_quoted text at [] rest u e i = absurd i
string_quoted text at (b ∷ bs) rest u e i =
    let inside : IsUtf8 (bs ++ rest) = after_first text at b (bs ++ rest) u (omega (arith, i.0)) e in
    decoded_spellable 34 bs rest (omega arith) (λ x. absurd (omega (arith, x))) inside i.1

basic_meaning : (bytes : List ℕ) → IsBasicName bytes → IsSpellable (name_meaning bytes)
basic_meaning [] i = absurd i
basic_meaning (b ∷ bs) i =
    let other : (b == 39) ≡ false = no_quote b i.0 in
    rw other (basic_spellable (b ∷ bs) i)
  where
    no_quote : (b : ℕ) → is_letter b ≡ true → (b == 39) ≡ false
    no_quote b e = grind (arith, nat_tests)

-- a name of a text can be spelt
pub name_spellable : (text : List ℕ) (t : Token) → IsTokenOf Name text t → IsSpellable (name_meaning (bytes_of text t))
name_spellable text t h = elim h.piece [
  | inl i ↦ basic_meaning (bytes_of text t) i.0
  | inr i ↦ name_quoted text t.from (bytes_of text t) (drop t.upto text) h.utf8 (drop_split text t.from t.upto h.ordered) i
]

-- a string of a text can be spelt
pub string_spellable : (text : List ℕ) (t : Token) → IsTokenOf Quote text t → IsSpellable (string_meaning (bytes_of text t))
string_spellable text t h = string_quoted text t.from (bytes_of text t) (drop t.upto text) h.utf8 (drop_split text t.from t.upto h.ordered) h.piece

close_last : (bs : List ℕ) → IsUpToClose bs → (front : List ℕ) × (bs ≡ front ++ 42 ∷ 47 ∷ [])
close_last [] i = absurd i
close_last (b ∷ bs) (inl i) = ([], ap (λ x. x ∷ bs) i.0 ∙ ap (λ xs. 42 ∷ xs) i.1)
close_last (b ∷ bs) (inr i) = let r = close_last bs i.1 in (b ∷ r.0, ap (λ xs. b ∷ xs) r.1)

-- a comment is its two marks and what stands between
pub comment_whole :
    (language : Language) (bytes more : List ℕ)
    → IsPiece language (Kept Comment) bytes more → (front : List ℕ) × (bytes ≡ 47 ∷ 42 ∷ (front ++ 42 ∷ 47 ∷ []))
comment_whole language [] more i = absurd i
comment_whole language (a ∷ []) more i = absurd i
comment_whole language (a ∷ b ∷ bs) more i =
    let r = close_last bs i.2 in
    (r.0, ap (λ x. x ∷ b ∷ bs) i.0 ∙ (ap (λ x. 47 ∷ x ∷ bs) i.1 ∙ ap (λ xs. 47 ∷ 42 ∷ xs) r.1))

front_meaning : (front : List ℕ) → comment_meaning (47 ∷ 42 ∷ (front ++ 42 ∷ 47 ∷ [])) ≡ front
front_meaning front = ap (λ n. take n (front ++ 42 ∷ 47 ∷ [])) (omega (arith, length-append front (42 ∷ 47 ∷ []))) ∙ take-append_seam front (42 ∷ 47 ∷ [])

-- a comment has its four marks
pub comment_long : (text : List ℕ) (t : Token) → IsTokenOf Comment text t → 4 ≤ length (bytes_of text t)
comment_long text t h =
    let w = comment_whole h.language (bytes_of text t) (drop t.upto text) h.piece in
    omega (arith, ap length w.1, length-append w.0 (42 ∷ 47 ∷ []))

-- what a comment says, as a comment, is the comment
pub comment_again : (text : List ℕ) (t : Token) → IsTokenOf Comment text t → commented (comment_meaning (bytes_of text t)) ≡ bytes_of text t
comment_again text t h =
    let w = comment_whole h.language (bytes_of text t) (drop t.upto text) h.piece in
    ap commented (ap comment_meaning w.1 ∙ front_meaning w.0) ∙ sym w.1

front_utf8 : (front rest : List ℕ) → IsUtf8 (front ++ 42 ∷ rest) → IsUtf8 front
front_utf8 front rest u =
    let whole : List ℕ = front ++ 42 ∷ rest in
    let size : length whole ≡ length front + (1 + length rest) = omega (arith, length-append front (42 ∷ rest)) in
    let here : get_or whole (length front) 0 ≡ 42 = get_or-append_seam front 42 rest 0 in
    let low : get_or whole (length front) 0 < 128 = subst (λ x. x < 128) (sym here) (omega arith) in
    subst IsUtf8 (take-append_seam front (42 ∷ rest)) (
    IsUtf8-take whole (length front) u (IsCharBoundary-before_ascii whole (length front) (omega (arith, size)) low))

-- what a comment says is UTF-8
pub comment_utf8 : (text : List ℕ) (t : Token) → IsTokenOf Comment text t → IsUtf8 (comment_meaning (bytes_of text t))
comment_utf8 text t h =
    let w = comment_whole h.language (bytes_of text t) (drop t.upto text) h.piece in
    let rest : List ℕ = drop t.upto text in
    let after : List ℕ = w.0 ++ 42 ∷ (47 ∷ rest) in
    let here : drop t.from text ≡ 47 ∷ 42 ∷ after =
    drop_split text t.from t.upto h.ordered
    ∙ (ap (λ xs. xs ++ rest) w.1 ∙ ap (λ xs. 47 ∷ 42 ∷ xs) (append_assoc w.0 (42 ∷ 47 ∷ []) rest)) in
    let first : IsUtf8 (42 ∷ after) = after_first text t.from 47 (42 ∷ after) h.utf8 (omega arith) here in
    let second : IsUtf8 after = after_first (42 ∷ after) 0 42 after first (omega arith) refl in
    subst IsUtf8 (sym (ap comment_meaning w.1 ∙ front_meaning w.0)) (front_utf8 w.0 (47 ∷ rest) second)
