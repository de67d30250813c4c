-- The tokens of a text: their numbers fit, and there are no more of them than bytes.
use Rattle.std.proofs.Common.{◌≡◌, inl, inr, ℕ, ◌+◌, ◌<◌, ◌≤◌, cond, List, [], ◌∷◌, length, refl, ap, ◌∙◌, arith, length-append}
use Rattle.std.specs.Prelude.{Some, None}
use Rattle.std.specs.Str.{bytes_eq}
use Rattle.std.proofs.lemmas.Bool.{ne_eqb}
use Rattle.std.proofs.lemmas.List.{map-append}
use Rattle.std.proofs.lemmas.List.Quantifiers.{position-Some}
use Rattle.element_store.specs.declared.outcome.Language.{Language}
use Rattle.element_store.specs.declared.outcome.Language.TheVariants.{Kerml, Sysml}
use Rattle.token_core.specs.declared.token.Token.{Token}
use Rattle.token_core.specs.declared.token.TokenKind.{TokenKind}
use Rattle.token_core.specs.declared.token.TokenKind.TheVariants as kind
use Rattle.token_core.specs.declared.token.PieceKind.{PieceKind}
use Rattle.token_core.specs.declared.token.PieceKind.TheVariants.{Space, LineNote, BlockNote, Token as Kept}
use Rattle.token_core.specs.Pieces.{IsPiece}
use Rattle.token_core.specs.Lex.{Piece, Cut, token_at, tokens_from}
use Rattle.token_core.specs.Words.{signs, words, place_in}
use Rattle.token_core.specs.Terminals.{terminal, HasNumber}
use Rattle.text_model.specs.Profile.{kinds_of}
use Rattle.text_model.specs.Slacks.{weight, weights}
use Rattle.text_laws.proofs.FewItems.{weights-append}
use Rattle.text_laws.specs.Fits.{Every}
use Rattle.text_laws.proofs.FittingLaws.{every_append}

place_below : (list : List (List ℕ)) (bytes : List ℕ) (n : ℕ) → place_in list bytes ≡ Some n → n < length list
place_below list bytes n is = (position-Some (λ word. bytes_eq word bytes) list n [] is).0

few_signs : length signs ≡ 43
unfolding signs
few_signs = refl

few_words : (language : Language) → length (words language) < 256
unfolding words
few_words Kerml = omega arith
few_words Sysml = omega arith

no_sign : place_in signs [] ≡ None
unfolding signs
no_sign = refl

-- a piece that is a token has a number that fits, and a byte
pub token_fits : (language : Language) (k : TokenKind) (bytes more : List ℕ) → IsPiece language (Kept k) bytes more → HasNumber k × (1 ≤ length bytes)
token_fits language kind.Name [] more (inl p) = absurd p.0
token_fits language kind.Name [] more (inr p) = absurd p
token_fits language kind.Name (b ∷ bytes) more p = (tt, omega arith)
token_fits language kind.Integer [] more p = absurd p
token_fits language kind.Integer (b ∷ bytes) more p = (tt, omega arith)
token_fits language kind.Quote [] more p = absurd p
token_fits language kind.Quote (b ∷ bytes) more p = (tt, omega arith)
token_fits language kind.Comment [] more p = absurd p
token_fits language kind.Comment (b ∷ bytes) more p = (tt, omega arith)
token_fits language (kind.Sign n) [] more p = let e : place_in signs [] ≡ Some n = p.0 in let f = no_sign in cc
token_fits language (kind.Sign n) (b ∷ bytes) more p = (omega (arith, place_below signs (b ∷ bytes) n p.0, few_signs), omega arith)
token_fits language (kind.Word n) [] more p = absurd p.0
token_fits language (kind.Word n) (b ∷ bytes) more p = (omega (arith, place_below (words language) (b ∷ bytes) n p.1, few_words language), omega arith)

-- the numbers of all tokens fit, and there are no more of them than bytes
pub tokens_fit : (language : Language) (at : ℕ) (ps : List Piece) (text rest : List ℕ) → Cut language ps text rest
    → Every (λ t. HasNumber t.kind) (tokens_from at ps) × (length (tokens_from at ps) ≤ length text)
tokens_fit language at [] text rest cut = (tt, omega arith)
tokens_fit language at (p ∷ ps) text rest cut =
    let more = cut.0 in
    let one = piece p.kind p.bytes at cut.2.piece in
    let others = tokens_fit language (at + length p.bytes) ps more rest cut.3 in (
      every_append (λ (t : Token). HasNumber t.kind) (token_at p.kind at (length p.bytes)) (tokens_from (at + length p.bytes) ps) one.0 others.0,
      omega (
        arith,
        one.1,
        others.1,
        ap length cut.1,
        length-append p.bytes more,
        length-append (token_at p.kind at (length p.bytes))
            (tokens_from (at + length p.bytes) ps),
      ),
    ) where
      piece : (k : PieceKind) (bytes : List ℕ) (at : ℕ) → IsPiece language k bytes cut.0 → Every (λ t. HasNumber t.kind) (token_at k at (length bytes))
          × (length (token_at k at (length bytes)) ≤ length bytes)
      piece Space bytes at p = (tt, omega arith)
      piece LineNote bytes at p = (tt, omega arith)
      piece BlockNote bytes at p = (tt, omega arith)
      piece (Kept k) bytes at p = let f = token_fits language k bytes cut.0 p in ((f.0, tt), omega (arith, f.1))

-- A comment has two bytes at least.
weight_one : (k : ℕ) → (k ≡ 3 → ⊥) → weight k ≡ 1
weight_one k other = ap (λ b. cond b 2 1) (ne_eqb k 3 other)

token_weighs : (language : Language) (k : TokenKind) (bytes more : List ℕ) → IsPiece language (Kept k) bytes more → weight (terminal k) ≤ length bytes
token_weighs language kind.Comment [] more p = absurd p
token_weighs language kind.Comment (a ∷ []) more p = absurd p
token_weighs language kind.Comment (a ∷ b ∷ bytes) more p = omega arith
token_weighs language kind.Name bytes more p = omega (arith, (token_fits language kind.Name bytes more p).1)
token_weighs language kind.Integer bytes more p = omega (arith, (token_fits language kind.Integer bytes more p).1)
token_weighs language kind.Quote bytes more p = omega (arith, (token_fits language kind.Quote bytes more p).1)
token_weighs language (kind.Sign n) bytes more p =
    let one : weight (4 + n) ≡ 1 = weight_one (4 + n) (λ e. omega (arith, e)) in
    omega (arith, one, (token_fits language (kind.Sign n) bytes more p).1)
token_weighs language (kind.Word n) bytes more p =
    let one : weight (260 + n) ≡ 1 = weight_one (260 + n) (λ e. omega (arith, e)) in
    omega (arith, one, (token_fits language (kind.Word n) bytes more p).1)

-- nor do they weigh more
pub tokens_weigh : (language : Language) (at : ℕ) (ps : List Piece) (text rest : List ℕ) → Cut language ps text rest
    → weights (kinds_of (tokens_from at ps)) ≤ length text
tokens_weigh language at [] text rest cut = omega arith
tokens_weigh language at (p ∷ ps) text rest cut =
    let more = cut.0 in
    let one = piece p.kind p.bytes at cut.2.piece in
    let others = tokens_weigh language (at + length p.bytes) ps more rest cut.3 in
    let split : weights (kinds_of (tokens_from at (p ∷ ps)))
    ≡ weights (kinds_of (token_at p.kind at (length p.bytes))) + weights (kinds_of (tokens_from (at + length p.bytes) ps)) =
    ap weights (map-append (λ (t : Token). terminal t.kind) (token_at p.kind at (length p.bytes)) (tokens_from (at + length p.bytes) ps))
    ∙ weights-append (kinds_of (token_at p.kind at (length p.bytes))) (kinds_of (tokens_from (at + length p.bytes) ps)) in
    omega (arith, split, one, others, ap length cut.1, length-append p.bytes more) where
      piece : (k : PieceKind) (bytes : List ℕ) (at : ℕ) → IsPiece language k bytes cut.0 → weights (kinds_of (token_at k at (length bytes))) ≤ length bytes
      piece Space bytes at p = omega arith
      piece LineNote bytes at p = omega arith
      piece BlockNote bytes at p = omega arith
      piece (Kept k) bytes at p = omega (arith, token_weighs language k bytes cut.0 p)
