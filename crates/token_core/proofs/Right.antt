-- What the lexer finds is a piece.
use Rattle.std.proofs.Common.{◌≡◌, ℕ, zero, suc, ◌+◌, ◌<◌, ◌≤◌, Bool, true, false, List, [], ◌∷◌, length, take, drop, refl, sym, subst, inl, inr, arith}
use Rattle.std.specs.Prelude.{Option, Some, None, option_map, ◌==◌, nat_le, MatchOption}
use Rattle.std.specs.List.{prefix_len}
use Rattle.std.proofs.lemmas.Bool.{eqb-true, leb-true}
use Rattle.std.proofs.lemmas.List.{take-append-drop}
use Rattle.std.proofs.lemmas.List.Sums.{prefix_len-le-length}
use Rattle.std.proofs.Math.Numerals.{one-add}
use Rattle.linker_base.proofs.Cases.{bool_cases}
use Rattle.element_store.specs.declared.outcome.Language.{Language}
use Rattle.token_core.specs.declared.token.TokenKind.TheVariants.{Name, Integer, Quote, Comment, Sign}
use Rattle.token_core.specs.declared.token.PieceKind.TheVariants.{Space, LineNote, BlockNote, Token}
use Rattle.token_core.specs.declared.pieces.Found.{Found}
use Rattle.token_core.specs.declared.pieces.ByteClass.{ByteClass}
use Rattle.token_core.specs.declared.pieces.ByteClass.TheVariants.{Blank, Letter, Digit, NameQuote, TextQuote, Slash, Other}
use Rattle.token_core.specs.Bytes.{BeginsOther, is_space, is_letter, is_digit, is_word, is_in_line}
use Rattle.token_core.specs.Words.{signs, words, place_in}
use Rattle.token_core.specs.Pieces.{IsPiece, IsSomeRun, IsBasicName, MayFollowSign}
use Rattle.token_core.specs.Scan.{class_of, found, found_by, found_of, close_end, quote_end, kind_of_number, word_kind, word_at, sign_of, sign_at, first_of_two, quoted_at, note_at, slash_at}
use Rattle.token_core.proofs.Runs.{run_of, other_begins, close_right, quote_right}

-- the piece found stands at the front of the text
pub record Right (language : Language) (text : List ℕ) (f : Found) : Type 0 where
  pub some : 0 < f.length
  pub within : f.length ≤ length text
  pub piece : IsPiece language f.kind (take f.length text) (drop f.length text)

-- so it is, where one is found
abbrev pub RightIf : Language → List ℕ → Option Found → Type 0
RightIf language text o = MatchOption o (Unit {0}) (Right language text)

-- what a class tells of a byte
abbrev pub Tells : ℕ → ByteClass → Type 0
Tells b Blank = is_space b ≡ true
Tells b Letter = is_letter b ≡ true
Tells b Digit = is_digit b ≡ true
Tells b NameQuote = b ≡ 39
Tells b TextQuote = b ≡ 34
Tells b Slash = b ≡ 47
Tells b Other = (is_space b ≡ false) × (b ≡ 47 → ⊥)

class_tells : (b : ℕ) → Tells b (class_of b)
class_tells b = elim (bool_cases (is_space b)) [
  | inl blank ↦ rw blank blank
  | inr s ↦ elim (bool_cases (is_letter b)) [
    | inl letter ↦ rw (s, letter) letter
    | inr l ↦ elim (bool_cases (is_digit b)) [
      | inl digit ↦ rw (s, l, digit) digit
      | inr d ↦ elim (bool_cases (b == 39)) [
        | inl name ↦ rw (s, l, d, name) (eqb-true b 39 name)
        | inr n ↦ elim (bool_cases (b == 34)) [
          | inl text ↦ rw (s, l, d, n, text) (eqb-true b 34 text)
          | inr t ↦ elim (bool_cases (b == 47)) [
            | inl slash ↦ rw (s, l, d, n, t, slash) (eqb-true b 47 slash)
            | inr o ↦ rw (s, l, d, n, t, o) (s, other_begins 47 (b ∷ []) o)
          ]
        ]
      ]
    ]
  ]
]

-- a run whose first byte passes
run_some : (p : ℕ → Bool) (b : ℕ) (bs : List ℕ) → p b ≡ true → (0 < prefix_len p (b ∷ bs)) × IsSomeRun p (take (prefix_len p (b ∷ bs)) (b ∷ bs))
run_some p b bs e = rw (e, one-add) (omega arith, (e, run_of p bs))

right_space : (language : Language) (b : ℕ) (bs : List ℕ) → is_space b ≡ true → Right language (b ∷ bs) (found_of Space (prefix_len is_space (b ∷ bs)))
right_space language b bs e = record { some = (run_some is_space b bs e).0; within = prefix_len-le-length is_space (b ∷ bs); piece = (run_some is_space b bs e).1 }

right_integer : (language : Language) (b : ℕ) (bs : List ℕ) → is_digit b ≡ true → Right language (b ∷ bs) (found_of (Token Integer) (prefix_len is_digit (b ∷ bs)))
right_integer language b bs e = record { some = (run_some is_digit b bs e).0; within = prefix_len-le-length is_digit (b ∷ bs); piece = (run_some is_digit b bs e).1 }

basic_name : (b : ℕ) (bs : List ℕ) → is_letter b ≡ true → (0 < prefix_len is_word (b ∷ bs)) × IsBasicName (take (prefix_len is_word (b ∷ bs)) (b ∷ bs))
basic_name b bs e = rw (e, one-add) (omega arith, (e, run_of is_word bs))

word_piece : (language : Language) (bytes more : List ℕ) → IsBasicName bytes → IsPiece language (word_kind language bytes) bytes more
word_piece language bytes more h = go (place_in (words language) bytes) refl where
  go : (number : Option ℕ) → place_in (words language) bytes ≡ number → IsPiece language (kind_of_number number) bytes more
  go None e = inl (h, e)
  go (Some n) e = (h, e)

right_word : (language : Language) (b : ℕ) (bs : List ℕ) → is_letter b ≡ true → Right language (b ∷ bs) (word_at language (b ∷ bs))
right_word language b bs e = record {
  some = (basic_name b bs e).0;
  within = prefix_len-le-length is_word (b ∷ bs);
  piece = word_piece language (take (prefix_len is_word (b ∷ bs)) (b ∷ bs)) (drop (prefix_len is_word (b ∷ bs)) (b ∷ bs)) (basic_name b bs e).1;
}

right_name_quote : (language : Language) (bs : List ℕ) → RightIf language (39 ∷ bs) (quoted_at (Token Name) 39 (39 ∷ bs))
right_name_quote language bs = go (quote_end 39 false bs) refl where
  go : (o : Option ℕ) → quote_end 39 false bs ≡ o → RightIf language (39 ∷ bs) (option_map (λ n. found_of (Token Name) (1 + n)) o)
  go None e = tt
  go (Some n) e =
      let h = quote_right 39 false bs n e in
      record { some = omega arith; within = omega (arith, h.0); piece = rw one-add (inr (refl, h.1)) }

right_text_quote : (language : Language) (bs : List ℕ) → RightIf language (34 ∷ bs) (quoted_at (Token Quote) 34 (34 ∷ bs))
right_text_quote language bs = go (quote_end 34 false bs) refl where
  go : (o : Option ℕ) → quote_end 34 false bs ≡ o → RightIf language (34 ∷ bs) (option_map (λ n. found_of (Token Quote) (1 + n)) o)
  go None e = tt
  go (Some n) e =
      let h = quote_right 34 false bs n e in
      record { some = omega arith; within = omega (arith, h.0); piece = rw one-add (refl, h.1) }

right_sign_of : (language : Language) (size : ℕ) (text : List ℕ) → 0 < size → MayFollowSign (take size text) (drop size text) → RightIf language text (sign_of size text)
right_sign_of language size text some may = elim (bool_cases (nat_le size (length text))) [
  | inl hit ↦ rw hit (go (leb-true size (length text) hit) (place_in signs (take size text)) refl)
  | inr miss ↦ rw miss tt
] where
  go : size ≤ length text → (o : Option ℕ) → place_in signs (take size text) ≡ o → RightIf language text (option_map (λ n. found_of (Token (Sign n)) size) o)
  go within None e = tt
  go within (Some n) e = record { some = some; within = within; piece = (e, may) }

right_of_two : (language : Language) (text : List ℕ) (first other : Option Found) → RightIf language text first → RightIf language text other → RightIf language text (first_of_two first other)
right_of_two language text None other h k = k
right_of_two language text (Some f) other h k = h

right_sign_at : (language : Language) (text : List ℕ) → ((size : ℕ) → MayFollowSign (take (suc size) text) (drop (suc size) text)) → RightIf language text (sign_at text)
right_sign_at language text may =
    right_of_two language text (sign_of 3 text) (first_of_two (sign_of 2 text) (sign_of 1 text)) (right_sign_of language 3 text (omega arith) (may 2)) (
    right_of_two language text (sign_of 2 text) (sign_of 1 text) (right_sign_of language 2 text (omega arith) (may 1)) (right_sign_of language 1 text (omega arith) (may 0)))

right_other : (language : Language) (b : ℕ) (bs : List ℕ) → (b ≡ 47 → ⊥) → RightIf language (b ∷ bs) (sign_at (b ∷ bs))
right_other language b bs o = right_sign_at language (b ∷ bs) (λ size e. absurd (o (head e))) where
  head : {cs : List ℕ} → b ∷ cs ≡ 47 ∷ [] → b ≡ 47
  head e = cc

-- what follows no bytes of a text begins as the text does
after_none : (c k : ℕ) (bs : List ℕ) → take k bs ≡ [] → BeginsOther c bs → BeginsOther c (drop k bs)
after_none c zero bs e o = o
after_none c (suc k) [] e o = o
after_none c (suc k) (b ∷ bs) e o = absurd (cc)

right_slash_sign : (language : Language) (bs : List ℕ) → BeginsOther 47 bs → BeginsOther 42 bs → RightIf language (47 ∷ bs) (sign_at (47 ∷ bs))
right_slash_sign language bs slash star = right_sign_at language (47 ∷ bs) (λ size e. (after_none 47 size bs (tail e) slash, after_none 42 size bs (tail e) star)) where
  tail : {cs : List ℕ} → 47 ∷ cs ≡ 47 ∷ [] → cs ≡ []
  tail e = cc

two_add : (n : ℕ) → 2 + n ≡ suc (suc n)
two_add n = omega arith

three_add : (n : ℕ) → 3 + n ≡ suc (suc (suc n))
three_add n = omega arith

right_line : (language : Language) (bs : List ℕ) → BeginsOther 42 bs → Right language (47 ∷ 47 ∷ bs) (found_of LineNote (2 + prefix_len is_in_line bs))
right_line language bs o = record {
  some = omega arith;
  within = omega (arith, prefix_len-le-length is_in_line bs);
  piece = rw two_add (refl, refl, subst (BeginsOther 42) (sym (take-append-drop (prefix_len is_in_line bs) bs)) o, run_of is_in_line bs);
}

right_block : (language : Language) (bs : List ℕ) → RightIf language (47 ∷ 47 ∷ 42 ∷ bs) (note_at (42 ∷ bs))
right_block language bs = go (close_end false bs) refl where
  go : (o : Option ℕ) → close_end false bs ≡ o → RightIf language (47 ∷ 47 ∷ 42 ∷ bs) (option_map (λ n. found_of BlockNote (3 + n)) o)
  go None e = tt
  go (Some n) e =
      let h = close_right false bs n e in
      record { some = omega arith; within = omega (arith, h.0); piece = rw three_add (refl, refl, refl, h.1) }

right_comment : (language : Language) (bs : List ℕ) → RightIf language (47 ∷ 42 ∷ bs) (slash_at (47 ∷ 42 ∷ bs))
right_comment language bs = go (close_end false bs) refl where
  go : (o : Option ℕ) → close_end false bs ≡ o → RightIf language (47 ∷ 42 ∷ bs) (option_map (λ n. found_of (Token Comment) (2 + n)) o)
  go None e = tt
  go (Some n) e =
      let h = close_right false bs n e in
      record { some = omega arith; within = omega (arith, h.0); piece = rw two_add (refl, refl, h.1) }

right_note : (language : Language) (bs : List ℕ) → RightIf language (47 ∷ 47 ∷ bs) (note_at bs)
right_note language [] = right_line language [] tt
right_note language (c ∷ bs) = elim (bool_cases (c == 42)) [
  | inl star ↦ subst (λ x. RightIf language (47 ∷ 47 ∷ x ∷ bs) (note_at (x ∷ bs))) (sym (eqb-true c 42 star)) (right_block language bs)
  | inr other ↦ rw other (right_line language (c ∷ bs) (other_begins 42 (c ∷ bs) other))
]

right_slash : (language : Language) (bs : List ℕ) → RightIf language (47 ∷ bs) (slash_at (47 ∷ bs))
right_slash language [] = right_slash_sign language [] tt tt
right_slash language (c ∷ bs) = elim (bool_cases (c == 47)) [
  | inl slash ↦ subst (λ x. RightIf language (47 ∷ x ∷ bs) (slash_at (47 ∷ x ∷ bs))) (sym (eqb-true c 47 slash)) (right_note language bs)
  | inr other ↦ elim (bool_cases (c == 42)) [
    | inl star ↦ subst (λ x. RightIf language (47 ∷ x ∷ bs) (slash_at (47 ∷ x ∷ bs))) (sym (eqb-true c 42 star)) (right_comment language bs)
    | inr apart ↦ rw (other, apart) (right_slash_sign language (c ∷ bs) (other_begins 47 (c ∷ bs) other) (other_begins 42 (c ∷ bs) apart))
  ]
]

by_class : (language : Language) (b : ℕ) (bs : List ℕ) (x : ByteClass) → Tells b x → RightIf language (b ∷ bs) (found_by language x (b ∷ bs))
by_class language b bs Blank t = right_space language b bs t
by_class language b bs Letter t = right_word language b bs t
by_class language b bs Digit t = right_integer language b bs t
by_class language b bs NameQuote t = subst (λ x. RightIf language (x ∷ bs) (quoted_at (Token Name) 39 (x ∷ bs))) (sym t) (right_name_quote language bs)
by_class language b bs TextQuote t = subst (λ x. RightIf language (x ∷ bs) (quoted_at (Token Quote) 34 (x ∷ bs))) (sym t) (right_text_quote language bs)
by_class language b bs Slash t = subst (λ x. RightIf language (x ∷ bs) (slash_at (x ∷ bs))) (sym t) (right_slash language bs)
by_class language b bs Other t = right_other language b bs t.1

-- what the lexer finds is a piece at the front of the text
pub found_right : (language : Language) (text : List ℕ) → RightIf language text (found language text)
found_right language [] = tt
found_right language (b ∷ bs) = by_class language b bs (class_of b) (class_tells b)
