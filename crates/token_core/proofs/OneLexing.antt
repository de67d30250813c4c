-- A text has one lexing.
use Rattle.std.proofs.Common.{◌≡◌, ℕ, List, [], length, refl, sym, ap, subst, ◌∙◌, arith}
use Rattle.std.specs.Prelude.{Some, None, Ok, Err, IsUtf8}
use Rattle.std.specs.Str.{IsValidUpTo}
use Rattle.std.proofs.Math.Seq.{take-length}
use Rattle.std.proofs.lemmas.Str.{utf8_valid_len-IsValidUpTo}
use Rattle.element_store.specs.declared.outcome.Language.{Language}
use Rattle.token_core.specs.declared.token.Token.{Token}
use Rattle.token_core.specs.declared.token.LexFault.TheVariants.{Encoding, Token as BadToken, TooDeep, NoMemory}
use Rattle.token_core.specs.Lex.{Lex, IsTokenPlace, tokens_from, too_deep}
use Rattle.token_core.specs.Laws.{OneLexing}
use Rattle.token_core.proofs.Cuts.{one_cut, none_found}

-- a text that is UTF-8 has no place of an encoding fault
not_both : (text : List ℕ) (n : ℕ) → IsUtf8 text → IsValidUpTo text n → ⊥
not_both text n whole valid = valid.longest (length text) valid.short (subst IsUtf8 (sym (take-length text)) whole)

one_encoding : (text : List ℕ) (n m : ℕ) → IsValidUpTo text n → IsValidUpTo text m → n ≡ m
one_encoding text n m h k = sym (utf8_valid_len-IsValidUpTo text n h) ∙ utf8_valid_len-IsValidUpTo text m k

pub one_lex : (language : Language) (text : List ℕ) (ts us : List Token) → Lex language text ts → Lex language text us → ts ≡ us
one_lex language text ts us h k = h.2 ∙ (ap (tokens_from 0) (one_cut language h.0 k.0 text [] [] h.1 k.1 refl refl).0 ∙ sym k.2)

lex_or_place : (language : Language) (text : List ℕ) (ts : List Token) (n : ℕ) → Lex language text ts → IsTokenPlace language text n → ⊥
lex_or_place language text ts n h k =
    let same : [] ≡ k.1 = (one_cut language h.0 k.0 text [] k.1 h.1 k.2 refl (none_found language k.1 k.4)).1 in
    absurd (omega (arith, k.3, ap length same))

one_place : (language : Language) (text : List ℕ) (n m : ℕ) → IsTokenPlace language text n → IsTokenPlace language text m → n ≡ m
one_place language text n m h k =
    let same : h.1 ≡ k.1 = (one_cut language h.0 k.0 text h.1 k.1 h.2 k.2 (none_found language h.1 h.4) (none_found language k.1 k.4)).1 in
    omega (arith, h.5, k.5, ap length same)

pub one_lexing : OneLexing
one_lexing language text (Ok ts) (Ok us) h k x y = ap Ok (one_lex language text ts us h.1 k.1)
one_lexing language text (Ok ts) (Err (Encoding m)) h k x y = absurd (not_both text m h.0 k)
one_lexing language text (Ok ts) (Err (BadToken m)) h k x y = absurd (lex_or_place language text ts m h.1 k.1)
one_lexing language text (Ok ts) (Err (TooDeep m)) h k x y =
    let same = one_lex language text ts k.1.0 h.1 k.1.1 in
    let both : None ≡ Some m = sym h.2 ∙ (ap (too_deep 0) same ∙ k.1.2) in
    absurd (cc)
one_lexing language text (Ok ts) (Err NoMemory) h k x y = absurd (y refl)
one_lexing language text (Err (Encoding n)) (Ok us) h k x y = absurd (not_both text n k.0 h)
one_lexing language text (Err (Encoding n)) (Err (Encoding m)) h k x y = ap (λ i. Err (Encoding i)) (one_encoding text n m h k)
one_lexing language text (Err (Encoding n)) (Err (BadToken m)) h k x y = absurd (not_both text n k.0 h)
one_lexing language text (Err (Encoding n)) (Err (TooDeep m)) h k x y = absurd (not_both text n k.0 h)
one_lexing language text (Err (Encoding n)) (Err NoMemory) h k x y = absurd (y refl)
one_lexing language text (Err (BadToken n)) (Ok us) h k x y = absurd (lex_or_place language text us n k.1 h.1)
one_lexing language text (Err (BadToken n)) (Err (Encoding m)) h k x y = absurd (not_both text m h.0 k)
one_lexing language text (Err (BadToken n)) (Err (BadToken m)) h k x y = ap (λ i. Err (BadToken i)) (one_place language text n m h.1 k.1)
one_lexing language text (Err (BadToken n)) (Err (TooDeep m)) h k x y = absurd (lex_or_place language text k.1.0 n k.1.1 h.1)
one_lexing language text (Err (BadToken n)) (Err NoMemory) h k x y = absurd (y refl)
one_lexing language text (Err (TooDeep n)) (Ok us) h k x y =
    let same = one_lex language text us h.1.0 k.1 h.1.1 in
    let both : None ≡ Some n = sym k.2 ∙ (ap (too_deep 0) same ∙ h.1.2) in
    absurd (cc)
one_lexing language text (Err (TooDeep n)) (Err (Encoding m)) h k x y = absurd (not_both text m h.0 k)
one_lexing language text (Err (TooDeep n)) (Err (BadToken m)) h k x y = absurd (lex_or_place language text h.1.0 m h.1.1 k.1)
one_lexing language text (Err (TooDeep n)) (Err (TooDeep m)) h k x y =
    let same = one_lex language text h.1.0 k.1.0 h.1.1 k.1.1 in
    let both : Some n ≡ Some m = sym h.1.2 ∙ (ap (too_deep 0) same ∙ k.1.2) in
    let inside : n ≡ m = cc in
    ap (λ i. Err (TooDeep i)) inside
one_lexing language text (Err (TooDeep n)) (Err NoMemory) h k x y = absurd (y refl)
one_lexing language text (Err NoMemory) b h k x y = absurd (x refl)
