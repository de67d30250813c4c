-- Every piece that begins a text is one that the lexer finds, or a shorter one.
use Rattle.std.proofs.Common.{◌≡◌, ℕ, suc, ◌<◌, ◌≤◌, Bool, true, false, List, [], ◌∷◌, ◌++◌, length, take, refl, sym, ap, subst, ◌∙◌, inl, inr, arith}
use Rattle.std.specs.Prelude.{Option, Some, None, option_map, ◌||◌, ◌==◌, nat_le, MatchOption}
use Rattle.std.proofs.lemmas.Bool.{eqb-true, le-leb}
use Rattle.std.proofs.lemmas.Bool.Decides.{nat_tests}
use Rattle.std.proofs.Math.Seq.{take-append_seam}
use Rattle.std.proofs.lemmas.List.{length-append}
use Rattle.linker_base.proofs.Cases.{bool_cases}
use Rattle.element_store.specs.declared.outcome.Language.{Language}
use Rattle.token_core.specs.declared.token.TokenKind.TheVariants.{Name, Integer, Quote, Comment, Sign, Word}
use Rattle.token_core.specs.declared.token.PieceKind.{PieceKind}
use Rattle.token_core.specs.declared.token.PieceKind.TheVariants.{Space, LineNote, BlockNote, Token}
use Rattle.token_core.specs.declared.pieces.Found.{Found}
use Rattle.token_core.specs.declared.pieces.ByteClass.{ByteClass}
use Rattle.token_core.specs.declared.pieces.ByteClass.TheVariants.{Blank, Letter, Digit, NameQuote, TextQuote, Slash, Other}
use Rattle.token_core.specs.Bytes.{IsRun, BeginsOther, is_space, is_letter, is_digit, is_word, is_in_line}
use Rattle.token_core.specs.Words.{signs, words, place_in}
use Rattle.token_core.specs.Pieces.{IsPiece, NoPiece, IsSomeRun, IsBasicName, IsUpToClose, IsUpToQuote, IsQuoted, MayFollowSign}
use Rattle.token_core.specs.Scan.{class_of, found, found_of, kind_of_number, word_kind, sign_of, sign_at, first_of_two, quoted_at, note_at, slash_at}
use Rattle.token_core.proofs.Runs.{run_le, begins_other, close_at, quote_at}
use Rattle.token_core.proofs.Signs.{sign_form, is_sign_form, is_other}

-- the piece found is at least so long, and if it is as long, it is of this kind
abbrev pub Covers : PieceKind → ℕ → Option Found → Type 0
Covers kind size None = ⊥
Covers kind size (Some f) = (size ≤ f.length) × (size ≡ f.length → f.kind ≡ kind)

blank_class : (b : ℕ) → is_space b ≡ true → class_of b ≡ Blank
blank_class b e = rw e refl

letter_class : (b : ℕ) → is_letter b ≡ true → class_of b ≡ Letter
letter_class b e =
    let other : is_space b ≡ false = not_space b e in
    rw (other, e) refl
  where
    not_space : (b : ℕ) → is_letter b ≡ true → is_space b ≡ false
    not_space b e = grind (arith, nat_tests)

digit_class : (b : ℕ) → is_digit b ≡ true → class_of b ≡ Digit
digit_class b e =
    let other : is_space b ≡ false = not_space b e in
    let no : is_letter b ≡ false = not_letter b e in
    rw (other, no, e) refl
  where
    not_space : (b : ℕ) → is_digit b ≡ true → is_space b ≡ false
    not_space b e = grind (arith, nat_tests)

    not_letter : (b : ℕ) → is_digit b ≡ true → is_letter b ≡ false
    not_letter b e = grind (arith, nat_tests)

covers_space : (language : Language) (b : ℕ) (bs rest : List ℕ) → IsSomeRun is_space (b ∷ bs) → Covers Space (length (b ∷ bs)) (found language ((b ∷ bs) ++ rest))
covers_space language b bs rest i = rw (blank_class b i.0) (run_le is_space (b ∷ bs) rest i, λ _. refl)

covers_integer : (language : Language) (b : ℕ) (bs rest : List ℕ) → IsSomeRun is_digit (b ∷ bs) → Covers (Token Integer) (length (b ∷ bs)) (found language ((b ∷ bs) ++ rest))
covers_integer language b bs rest i = rw (digit_class b i.0) (run_le is_digit (b ∷ bs) rest i, λ _. refl)

-- a letter is one of the bytes of a word
letter_word : (b : ℕ) → is_letter b ≡ true → is_word b ≡ true
letter_word b e = rw e refl

covers_word : (language : Language) (number : Option ℕ) (b : ℕ) (bs rest : List ℕ) → IsBasicName (b ∷ bs) → place_in (words language) (b ∷ bs) ≡ number → Covers (kind_of_number number) (length (b ∷ bs)) (found language ((b ∷ bs) ++ rest))
covers_word language number b bs rest i e =
    let r : IsRun is_word (b ∷ bs) = (letter_word b i.0, i.1) in
    rw (letter_class b i.0) (
      run_le is_word (b ∷ bs) rest r,
      λ h. subst (λ n. word_kind language (take n ((b ∷ bs) ++ rest)) ≡ kind_of_number number) h (
          subst (λ w. word_kind language w ≡ kind_of_number number) (sym (take-append_seam (b ∷ bs) rest)) (ap kind_of_number e)),
    )

covers_quoted : (kind : PieceKind) (q : ℕ) (bs rest : List ℕ) → (q ≡ 92 → ⊥) → IsUpToQuote q false bs → Covers kind (suc (length bs)) (quoted_at kind q (q ∷ (bs ++ rest)))
covers_quoted kind q bs rest o i = rw (quote_at q false bs rest o i) (omega arith, λ _. refl)

covers_name_quote : (language : Language) (b : ℕ) (bs rest : List ℕ) → IsQuoted 39 (b ∷ bs) → Covers (Token Name) (length (b ∷ bs)) (found language ((b ∷ bs) ++ rest))
covers_name_quote language b bs rest i =
    subst (λ x. Covers (Token Name) (length (x ∷ bs)) (found language ((x ∷ bs) ++ rest))) (sym i.0) (covers_quoted (Token Name) 39 bs rest (λ e. cc) i.1)

covers_text_quote : (language : Language) (b : ℕ) (bs rest : List ℕ) → IsQuoted 34 (b ∷ bs) → Covers (Token Quote) (length (b ∷ bs)) (found language ((b ∷ bs) ++ rest))
covers_text_quote language b bs rest i =
    subst (λ x. Covers (Token Quote) (length (x ∷ bs)) (found language ((x ∷ bs) ++ rest))) (sym i.0) (covers_quoted (Token Quote) 34 bs rest (λ e. cc) i.1)

covers_line : (bs rest : List ℕ) → BeginsOther 42 (bs ++ rest) → IsRun is_in_line bs → Covers LineNote (suc (suc (length bs))) (note_at (bs ++ rest))
covers_line bs rest o r =
    let h = run_le is_in_line bs rest r in
    rw (begins_other 42 (bs ++ rest) o) (omega (arith, h), λ _. refl)

covers_block : (bs rest : List ℕ) → IsUpToClose bs → Covers BlockNote (suc (suc (suc (length bs)))) (note_at (42 ∷ (bs ++ rest)))
covers_block bs rest i = rw (close_at false bs rest i (λ e. absurd (cc))) (omega arith, λ _. refl)

covers_comment : (bs rest : List ℕ) → IsUpToClose bs → Covers (Token Comment) (suc (suc (length bs))) (slash_at (47 ∷ 42 ∷ (bs ++ rest)))
covers_comment bs rest i = rw (close_at false bs rest i (λ e. absurd (cc))) (omega arith, λ _. refl)

-- a sign of so many bytes is found as such
sign_here : (n : ℕ) (bs rest : List ℕ) → place_in signs bs ≡ Some n → sign_of (length bs) (bs ++ rest) ≡ Some (found_of (Token (Sign n)) (length bs))
sign_here n bs rest e =
    let long : nat_le (length bs) (length (bs ++ rest)) ≡ true = le-leb (length bs) (length (bs ++ rest)) (omega (arith, length-append bs rest)) in
    rw (long, take-append_seam bs rest, e) refl

-- a sign that is looked for by its length has that length
sign_length : (size : ℕ) (text : List ℕ) → MatchOption (sign_of size text) (Unit {0}) (λ f. f.length ≡ size)
sign_length size text = elim (bool_cases (nat_le size (length text))) [
  | inl hit ↦ rw hit (go (place_in signs (take size text)))
  | inr miss ↦ rw miss tt
] where
  go : (o : Option ℕ) → MatchOption (option_map (λ n. found_of (Token (Sign n)) size) o) (Unit {0}) (λ f. f.length ≡ size)
  go None = tt
  go (Some n) = refl

-- a longer sign that is found covers this one
covers_longer : (kind : PieceKind) (size more : ℕ) (first other : Option Found) → size < more → MatchOption first (Unit {0}) (λ f. f.length ≡ more) → Covers kind size other → Covers kind size (first_of_two first other)
covers_longer kind size more None other lt h c = c
covers_longer kind size more (Some f) other lt h c = (omega (arith, h), λ e. absurd (omega (arith, h, e)))

covers_sign : (n : ℕ) (bs rest : List ℕ) → place_in signs bs ≡ Some n → is_sign_form bs ≡ true → Covers (Token (Sign n)) (length bs) (sign_at (bs ++ rest))
covers_sign n [] rest e f = absurd (cc)
covers_sign n (a ∷ []) rest e f =
    covers_longer (Token (Sign n)) 1 3 _ _ (omega arith) (sign_length 3 (a ∷ rest)) (
    covers_longer (Token (Sign n)) 1 2 _ _ (omega arith) (sign_length 2 (a ∷ rest)) (rw (sign_here n (a ∷ []) rest e) (omega arith, λ _. refl)))
covers_sign n (a ∷ b ∷ []) rest e f =
    covers_longer (Token (Sign n)) 2 3 _ _ (omega arith) (sign_length 3 (a ∷ b ∷ rest)) (rw (sign_here n (a ∷ b ∷ []) rest e) (omega arith, λ _. refl))
covers_sign n (a ∷ b ∷ c ∷ []) rest e f = rw (sign_here n (a ∷ b ∷ c ∷ []) rest e) (omega arith, λ _. refl)
covers_sign n (a ∷ b ∷ c ∷ d ∷ bs) rest e f = absurd (cc)

covers_slash_sign : (n : ℕ) (rest : List ℕ) → place_in signs (47 ∷ []) ≡ Some n → BeginsOther 47 rest → BeginsOther 42 rest → Covers (Token (Sign n)) 1 (slash_at (47 ∷ rest))
covers_slash_sign n rest e slash star =
    rw (begins_other 47 rest slash, begins_other 42 rest star) (covers_sign n (47 ∷ []) rest e refl)

or_right : (x y : Bool) → x ≡ false → (x || y) ≡ true → y ≡ true
or_right false y e h = h
or_right true y e h = absurd (cc)

other_class : (x : ByteClass) → is_other x ≡ true → x ≡ Other
other_class Other h = refl
other_class Blank h = absurd (cc)
other_class Letter h = absurd (cc)
other_class Digit h = absurd (cc)
other_class NameQuote h = absurd (cc)
other_class TextQuote h = absurd (cc)
other_class Slash h = absurd (cc)

other_first : (b c : ℕ) (bs : List ℕ) → is_sign_form (b ∷ c ∷ bs) ≡ true → is_other (class_of b) ≡ true
other_first b c [] h = h
other_first b c (d ∷ []) h = h
other_first b c (d ∷ e ∷ bs) h = absurd (cc)

covers_sign_form : (language : Language) (n : ℕ) (b : ℕ) (bs rest : List ℕ) → place_in signs (b ∷ bs) ≡ Some n → MayFollowSign (b ∷ bs) rest → is_sign_form (b ∷ bs) ≡ true → Covers (Token (Sign n)) (length (b ∷ bs)) (found language ((b ∷ bs) ++ rest))
covers_sign_form language n b [] rest e m f = elim (bool_cases (b == 47)) [
  | inl hit ↦
      let same : b ≡ 47 = eqb-true b 47 hit in
      let k = m (ap (λ x. x ∷ []) same) in
      subst (λ x. Covers (Token (Sign n)) 1 (found language (x ∷ rest))) (sym same) (covers_slash_sign n rest (subst (λ x. place_in signs (x ∷ []) ≡ Some n) same e) k.0 k.1)
  | inr miss ↦ rw (other_class (class_of b) (or_right (b == 47) (is_other (class_of b)) miss f)) (covers_sign n (b ∷ []) rest e f)
]
covers_sign_form language n b (c ∷ bs) rest e m f = rw (other_class (class_of b) (other_first b c bs f)) (covers_sign n (b ∷ c ∷ bs) rest e f)

-- a piece of any kind is found, or a longer one
pub covers : (language : Language) (kind : PieceKind) (bs rest : List ℕ) → IsPiece language kind bs rest → Covers kind (length bs) (found language (bs ++ rest))
covers language Space [] rest i = absurd i
covers language Space (b ∷ bs) rest i = covers_space language b bs rest i
covers language LineNote [] rest i = absurd i
covers language LineNote (a ∷ []) rest i = absurd i
covers language LineNote (a ∷ b ∷ bs) rest i =
    subst (λ x. Covers LineNote (length (x ∷ b ∷ bs)) (found language ((x ∷ b ∷ bs) ++ rest))) (sym i.0) (
    subst (λ x. Covers LineNote (length (47 ∷ x ∷ bs)) (found language ((47 ∷ x ∷ bs) ++ rest))) (sym i.1) (covers_line bs rest i.2 i.3))
covers language BlockNote [] rest i = absurd i
covers language BlockNote (a ∷ []) rest i = absurd i
covers language BlockNote (a ∷ b ∷ []) rest i = absurd i
covers language BlockNote (a ∷ b ∷ c ∷ bs) rest i =
    subst (λ x. Covers BlockNote (length (x ∷ b ∷ c ∷ bs)) (found language ((x ∷ b ∷ c ∷ bs) ++ rest))) (sym i.0) (
    subst (λ x. Covers BlockNote (length (47 ∷ x ∷ c ∷ bs)) (found language ((47 ∷ x ∷ c ∷ bs) ++ rest))) (sym i.1) (
    subst (λ x. Covers BlockNote (length (47 ∷ 47 ∷ x ∷ bs)) (found language ((47 ∷ 47 ∷ x ∷ bs) ++ rest))) (sym i.2) (covers_block bs rest i.3)))
covers language (Token Comment) [] rest i = absurd i
covers language (Token Comment) (a ∷ []) rest i = absurd i
covers language (Token Comment) (a ∷ b ∷ bs) rest i =
    subst (λ x. Covers (Token Comment) (length (x ∷ b ∷ bs)) (found language ((x ∷ b ∷ bs) ++ rest))) (sym i.0) (
    subst (λ x. Covers (Token Comment) (length (47 ∷ x ∷ bs)) (found language ((47 ∷ x ∷ bs) ++ rest))) (sym i.1) (covers_comment bs rest i.2))
covers language (Token Name) [] rest (inl i) = absurd i.0
covers language (Token Name) [] rest (inr i) = absurd i
covers language (Token Name) (b ∷ bs) rest (inl i) = covers_word language None b bs rest i.0 i.1
covers language (Token Name) (b ∷ bs) rest (inr i) = covers_name_quote language b bs rest i
covers language (Token (Word n)) [] rest i = absurd i.0
covers language (Token (Word n)) (b ∷ bs) rest i = covers_word language (Some n) b bs rest i.0 i.1
covers language (Token Quote) [] rest i = absurd i
covers language (Token Quote) (b ∷ bs) rest i = covers_text_quote language b bs rest i
covers language (Token Integer) [] rest i = absurd i
covers language (Token Integer) (b ∷ bs) rest i = covers_integer language b bs rest i
covers language (Token (Sign n)) [] rest i = let h : false ≡ true = sign_form [] n i.0 in absurd (cc)
covers language (Token (Sign n)) (b ∷ bs) rest i = covers_sign_form language n b bs rest i.0 i.1 (sign_form (b ∷ bs) n i.0)

-- where the lexer finds no piece, none begins the text
pub no_piece : (language : Language) (text : List ℕ) → found language text ≡ None → NoPiece language text
no_piece language text e kind bs rest same i = subst (Covers kind (length bs)) (ap (found language) same ∙ e) (covers language kind bs rest i)

-- a piece that begins the text is no longer than the one found, and of its kind if it is as long
pub covered : (language : Language) (text : List ℕ) (f : Found) (kind : PieceKind) (bs rest : List ℕ) → found language text ≡ Some f → bs ++ rest ≡ text → IsPiece language kind bs rest → Covers kind (length bs) (Some f)
covered language text f kind bs rest e same i = subst (Covers kind (length bs)) (ap (found language) same ∙ e) (covers language kind bs rest i)
