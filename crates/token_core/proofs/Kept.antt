-- The tokens of a lexing stand in their text.
use Rattle.std.proofs.Common.{◌≡◌, ℕ, ◌+◌, ◌<◌, ◌≤◌, List, [], ◌∷◌, ◌++◌, length, take, drop, refl, sym, ap, subst, ◌∙◌, inl, inr, arith, length-drop, get_or, zero-add}
use Rattle.std.specs.Prelude.{IsUtf8, slice_range, Some, None}
use Rattle.std.proofs.lemmas.List.{drop-drop, length-append}
use Rattle.std.proofs.Math.Seq.{take-append_seam, drop-append_seam}
use Rattle.linker_base.specs.Members.{IsMember}
use Rattle.linker_base.proofs.MemberLaws.{member_cases}
use Rattle.element_store.specs.declared.outcome.Language.{Language}
use Rattle.token_core.specs.declared.token.TokenKind.{TokenKind}
use Rattle.token_core.specs.declared.token.TokenKind.TheVariants.{Name, Integer, Quote, Comment, Sign, Word}
use Rattle.token_core.specs.declared.token.PieceKind.{PieceKind}
use Rattle.token_core.specs.declared.token.PieceKind.TheVariants.{Space, LineNote, BlockNote, Token as Kept}
use Rattle.token_core.specs.declared.token.Token.{Token}
use Rattle.token_core.specs.Pieces.{IsPiece}
use Rattle.token_core.specs.Lex.{Piece, Cut, Lex, StandApart, token_at, tokens_from}
use Rattle.token_core.specs.Laws.{TokensRise}
use Rattle.token_core.specs.Reading.{IsTokenOf}
use Rattle.token_core.proofs.Lists.{no_empty_sign}

-- a piece at a place of the text
piece_token : (language : Language) (kind : PieceKind) (text : List ℕ) (at : ℕ) (bytes more : List ℕ) → IsUtf8 text → at ≤ length text → drop at text ≡ bytes ++ more → IsPiece language kind bytes more → (t : Token) → IsMember (token_at kind at (length bytes)) t → IsTokenOf t.kind text t
piece_token language Space text at bytes more u b e i t m = absurd m
piece_token language LineNote text at bytes more u b e i t m = absurd m
piece_token language BlockNote text at bytes more u b e i t m = absurd m
piece_token language (Kept kind) text at bytes more u b e i t (inl same) = subst (λ (x : Token). IsTokenOf x.kind text x) same here where
  size : at + length bytes ≤ length text
  size = omega (arith, length-drop at text, ap length e, length-append bytes more)

  part : slice_range text at (at + length bytes) ≡ bytes
  part = ap (λ n. take n (drop at text)) (omega arith) ∙ (ap (take (length bytes)) e ∙ take-append_seam bytes more)

  after : drop (at + length bytes) text ≡ more
  after = sym (drop-drop (length bytes) at text) ∙ (ap (drop (length bytes)) e ∙ drop-append_seam bytes more)

  here : IsTokenOf kind text (record { kind = kind; from = at; upto = at + length bytes })
  here = record {
    utf8 = u;
    ordered = omega arith;
    within = size;
    same = refl;
    language = language;
    piece = subst (λ xs. IsPiece language (Kept kind) xs (drop (at + length bytes) text)) (sym part) (subst (IsPiece language (Kept kind) bytes) (sym after) i);
  }
piece_token language (Kept kind) text at bytes more u b e i t (inr m) = absurd m

cut_token : (language : Language) (text : List ℕ) (at : ℕ) (ps : List Piece) (rest : List ℕ) → IsUtf8 text → at ≤ length text → drop at text ≡ rest → Cut language ps rest [] → (t : Token) → IsMember (tokens_from at ps) t → IsTokenOf t.kind text t
cut_token language text at [] rest u b e c t m = absurd m
cut_token language text at (p ∷ ps) rest u b e c t m =
    let here : drop at text ≡ p.bytes ++ c.0 = e ∙ c.1 in
    let next : drop (at + length p.bytes) text ≡ c.0 = sym (drop-drop (length p.bytes) at text) ∙ (ap (drop (length p.bytes)) here ∙ drop-append_seam p.bytes c.0) in
    let size : at + length p.bytes ≤ length text = omega (arith, length-drop at text, ap length here, length-append p.bytes c.0) in
    elim (member_cases (token_at p.kind at (length p.bytes)) (tokens_from (at + length p.bytes) ps) t m) [
      | inl h ↦ piece_token language p.kind text at p.bytes c.0 u b here c.2.piece t h
      | inr h ↦ cut_token language text (at + length p.bytes) ps c.0 u size next c.3 t h
    ]

-- each token of a lexing stands in the text, so it can be read
pub lex_token : (language : Language) (text : List ℕ) (tokens : List Token) → IsUtf8 text → Lex language text tokens → (t : Token) → IsMember tokens t → IsTokenOf t.kind text t
lex_token language text tokens u h t m = cut_token language text 0 h.0 text u (omega arith) refl h.1 t (subst (λ (ts : List Token). IsMember ts t) h.2 m)

-- the first token of a list is among its tokens
pub first_member : (ts : List Token) (d : Token) → 0 < length ts → IsMember ts (get_or ts 0 d)
first_member [] d some = absurd (omega arith)
first_member (t ∷ ts) d some = inl refl

-- a token has at least one byte
token_some : (language : Language) (kind : TokenKind) (bytes more : List ℕ) → IsPiece language (Kept kind) bytes more → 0 < length bytes
token_some language kind (b ∷ bs) more i = omega arith
token_some language Name [] more (inl i) = absurd i.0
token_some language Name [] more (inr i) = absurd i
token_some language Integer [] more i = absurd i
token_some language Quote [] more i = absurd i
token_some language Comment [] more i = absurd i
token_some language (Sign n) [] more i = let none : None ≡ Some n = no_empty_sign [] (omega arith) ∙ i.0 in absurd (cc)
token_some language (Word n) [] more i = absurd i.0

apart_piece :
    (language : Language) (kind : PieceKind) (here at : ℕ) (bytes more : List ℕ) (ts : List Token) (there : ℕ)
    → here ≤ at → IsPiece language kind bytes more
    → ((from : ℕ) → from ≤ at + length bytes → StandApart from ts there)
    → StandApart here (token_at kind at (length bytes) ++ ts) there
apart_piece language Space here at bytes more ts there le i rest = rest here (omega arith)
apart_piece language LineNote here at bytes more ts there le i rest = rest here (omega arith)
apart_piece language BlockNote here at bytes more ts there le i rest = rest here (omega arith)
apart_piece language (Kept kind) here at bytes more ts there le i rest =
    (le, omega (arith, token_some language kind bytes more i), rest (at + length bytes) (omega arith))

apart_from :
    (language : Language) (here at : ℕ) (ps : List Piece) (text : List ℕ)
    → here ≤ at → Cut language ps text [] → StandApart here (tokens_from at ps) (at + length text)
apart_from language here at [] text le c = omega arith
apart_from language here at (p ∷ ps) text le c =
    let size : at + length text ≡ at + length p.bytes + length c.0 = omega (arith, ap length c.1, length-append p.bytes c.0) in
    subst (StandApart here (tokens_from at (p ∷ ps))) (sym size) (
    apart_piece language p.kind here at p.bytes c.0 (tokens_from (at + length p.bytes) ps) (at + length p.bytes + length c.0) le c.2.piece (
    λ from lower. apart_from language from (at + length p.bytes) ps c.0 lower c.3))

-- the tokens of a text stand apart and in rising place within it
pub tokens_rise : TokensRise
tokens_rise language text tokens l =
    let h = l.1 in
    subst (λ n. StandApart 0 tokens n) (zero-add (length text)) (
    subst (λ (ts : List Token). StandApart 0 ts (0 + length text)) (sym h.2) (apart_from language 0 0 h.0 text (omega arith) h.1))
