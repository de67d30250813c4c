-- Cutting a text into the longest pieces: one more piece, and that there is one way.
use Rattle.std.proofs.Common.{◌≡◌, ℕ, ◌+◌, ◌<◌, ◌≤◌, List, [], ◌∷◌, ◌++◌, length, take, drop, refl, sym, ap, subst, ◌∙◌, inl, inr, arith, append_assoc, append-nil, length-drop, add_assoc}
use Rattle.std.specs.Prelude.{Some, None}
use Rattle.std.proofs.lemmas.List.{take-append-drop, length-take-le, length-append, drop_all, drop-drop}
use Rattle.std.proofs.Math.Seq.{take-append_seam, drop-append_seam}
use Rattle.linker_base.proofs.Cases.{option_cases}
use Rattle.element_store.specs.declared.outcome.Language.{Language}
use Rattle.token_core.specs.declared.token.PieceKind.{PieceKind}
use Rattle.token_core.specs.declared.token.Token.{Token}
use Rattle.token_core.specs.declared.pieces.Found.{Found}
use Rattle.token_core.specs.Pieces.{IsLongest, NoPiece}
use Rattle.token_core.specs.Lex.{Piece, Cut, Lex, IsTokenPlace, size_of, token_at, tokens_from}
use Rattle.token_core.specs.Scan.{found, found_of}
use Rattle.token_core.proofs.Found.{covered, no_piece}
use Rattle.token_core.proofs.Right.{Right, RightIf, found_right}

-- the piece found, where one is
pub right_piece : (language : Language) (text : List ℕ) (f : Found) → found language text ≡ Some f → Right language text f
right_piece language text f e = subst (RightIf language text) e (found_right language text)

-- the piece found is the longest
pub found_longest : (language : Language) (text : List ℕ) (f : Found) → found language text ≡ Some f → IsLongest language f.kind (take f.length text) (drop f.length text)
found_longest language text f e =
    let r = right_piece language text f e in
    record {
      piece = r.piece;
      longest = λ k bs rest same i.
          let c = covered language text f k bs rest e (same ∙ take-append-drop f.length text) i in
          subst (λ n. length bs ≤ n) (sym (length-take-le f.length text r.within)) c.0;
    }

-- the longest piece is the one found
pub longest_found : (language : Language) (kind : PieceKind) (bytes more : List ℕ) → IsLongest language kind bytes more → found language (bytes ++ more) ≡ Some (found_of kind (length bytes))
longest_found language kind bytes more h = elim (option_cases (found language (bytes ++ more))) [
  | inl none ↦ absurd (no_piece language (bytes ++ more) none kind bytes more refl h.piece)
  | inr some ↦
      let text : List ℕ = bytes ++ more in
      let f : Found = some.0 in
      let r = right_piece language text f some.1 in
      let c = covered language text f kind bytes more some.1 refl h.piece in
      let l : length (take f.length text) ≤ length bytes = h.longest f.kind (take f.length text) (drop f.length text) (take-append-drop f.length text) r.piece in
      let m : length (take f.length text) ≡ f.length = length-take-le f.length text r.within in
      let size : length bytes ≡ f.length = omega (arith, c.0, l, m) in
      some.1 ∙ ap Some (same_found f kind (length bytes) (c.1 size) (sym size))
] where
  same_found : (f : Found) (kind : PieceKind) (size : ℕ) → f.kind ≡ kind → f.length ≡ size → f ≡ found_of kind size
  same_found f kind size e g = ap (λ k. found_of k f.length) e ∙ ap (found_of kind) g

-- two longest pieces at the front of one text are the same
pub same_longest : (language : Language) (p q : Piece) (more rest : List ℕ) → IsLongest language p.kind p.bytes more → IsLongest language q.kind q.bytes rest → p.bytes ++ more ≡ q.bytes ++ rest → (p ≡ q) × (more ≡ rest)
same_longest language p q more rest h k e =
    let both : Some (found_of p.kind (length p.bytes)) ≡ Some (found_of q.kind (length q.bytes)) = sym (longest_found language p.kind p.bytes more h) ∙ (ap (found language) e ∙ longest_found language q.kind q.bytes rest k) in
    let inside : found_of p.kind (length p.bytes) ≡ found_of q.kind (length q.bytes) = cc in
    let kinds : p.kind ≡ q.kind = ap (λ (f : Found). f.kind) inside in
    let sizes : length p.bytes ≡ length q.bytes = ap (λ (f : Found). f.length) inside in
    let bytes : p.bytes ≡ q.bytes = sym (take-append_seam p.bytes more) ∙ (ap (λ n. take n (p.bytes ++ more)) sizes ∙ (ap (take (length q.bytes)) e ∙ take-append_seam q.bytes rest)) in
    let after : more ≡ rest = sym (drop-append_seam p.bytes more) ∙ (ap (λ n. drop n (p.bytes ++ more)) sizes ∙ (ap (drop (length q.bytes)) e ∙ drop-append_seam q.bytes rest)) in
    (ap (λ k. piece_of k p.bytes) kinds ∙ ap (piece_of q.kind) bytes, after)
  where
    piece_of : PieceKind → List ℕ → Piece
    piece_of kind bytes = record { kind = kind; bytes = bytes }

-- a cut up to where no piece begins is the only one
pub one_cut : (language : Language) (ps qs : List Piece) (text more rest : List ℕ) → Cut language ps text more → Cut language qs text rest → found language more ≡ None → found language rest ≡ None → (ps ≡ qs) × (more ≡ rest)
one_cut language [] [] text more rest h k m r = (refl, sym h ∙ k)
one_cut language [] (q ∷ qs) text more rest h k m r =
    let some = longest_found language q.kind q.bytes k.0 k.2 in
    let none : found language (q.bytes ++ k.0) ≡ None = ap (found language) (sym k.1 ∙ h) ∙ m in
    absurd (cc)
one_cut language (p ∷ ps) [] text more rest h k m r =
    let some = longest_found language p.kind p.bytes h.0 h.2 in
    let none : found language (p.bytes ++ h.0) ≡ None = ap (found language) (sym h.1 ∙ k) ∙ r in
    absurd (cc)
one_cut language (p ∷ ps) (q ∷ qs) text more rest h k m r =
    let same = same_longest language p q h.0 k.0 h.2 k.2 (sym h.1 ∙ k.1) in
    let i = one_cut language ps qs h.0 more rest h.3 (subst (λ t. Cut language qs t rest) (sym same.1) k.3) m r in
    (ap (λ x. x ∷ ps) same.0 ∙ ap (λ xs. q ∷ xs) i.0, i.1)

-- where no piece begins, the lexer finds none
pub none_found : (language : Language) (text : List ℕ) → NoPiece language text → found language text ≡ None
none_found language text empty = elim (option_cases (found language text)) [
  | inl none ↦ none
  | inr some ↦
      let r = right_piece language text some.0 some.1 in
      absurd (empty some.0.kind (take some.0.length text) (drop some.0.length text) (take-append-drop some.0.length text) r.piece)
]

-- one more piece at the end of a cut
pub cut_more : (language : Language) (ps : List Piece) (text rest : List ℕ) (p : Piece) (more : List ℕ) → Cut language ps text rest → rest ≡ p.bytes ++ more → IsLongest language p.kind p.bytes more → Cut language (ps ++ p ∷ []) text more
cut_more language [] text rest p more h e l = (more, h ∙ e, l, refl)
cut_more language (q ∷ ps) text rest p more h e l = (h.0, h.1, h.2, cut_more language ps h.0 rest p more h.3 e l)

size_more : (ps : List Piece) (p : Piece) → size_of (ps ++ p ∷ []) ≡ size_of ps + length p.bytes
size_more [] p = omega arith
size_more (q ∷ ps) p = omega (arith, size_more ps p)

tokens_more : (at : ℕ) (ps : List Piece) (p : Piece) → tokens_from at (ps ++ p ∷ []) ≡ tokens_from at ps ++ token_at p.kind (at + size_of ps) (length p.bytes)
tokens_more at [] p = append-nil (token_at p.kind at (length p.bytes)) ∙ ap (λ n. token_at p.kind n (length p.bytes)) (omega arith)
tokens_more at (q ∷ ps) p =
    let i = tokens_more (at + length q.bytes) ps p in
    ap (λ ts. token_at q.kind at (length q.bytes) ++ ts) (i ∙ ap (λ n. tokens_from (at + length q.bytes) ps ++ token_at p.kind n (length p.bytes)) (add_assoc at (length q.bytes) (size_of ps)))
    ∙ sym (append_assoc (token_at q.kind at (length q.bytes)) (tokens_from (at + length q.bytes) ps) (token_at p.kind (at + (length q.bytes + size_of ps)) (length p.bytes)))

-- the bytes of the pieces and the rest are all the bytes
pub cut_size : (language : Language) (ps : List Piece) (text rest : List ℕ) → Cut language ps text rest → size_of ps + length rest ≡ length text
cut_size language [] text rest h = omega (arith, ap length h)
cut_size language (p ∷ ps) text rest h = omega (arith, ap length h.1, length-append p.bytes h.0, cut_size language ps h.0 rest h.3)

-- the text is cut into whole pieces up to a place, and these are their tokens
pub record IsCutTo (language : Language) (text : List ℕ) (at : ℕ) (tokens : List Token) : Type 0 where
  pub pieces : List Piece
  pub cut : Cut language pieces text (drop at text)
  pub place : at ≡ size_of pieces
  pub kept : tokens ≡ tokens_from 0 pieces

-- the cut so far, and one more piece
pub run_more : (language : Language) (text : List ℕ) (at : ℕ) (tokens : List Token) (f : Found) → IsCutTo language text at tokens → found language (drop at text) ≡ Some f → IsCutTo language text (at + f.length) (tokens ++ token_at f.kind at f.length)
run_more language text at tokens f run e =
    let rest : List ℕ = drop at text in
    let r = right_piece language rest f e in
    let p : Piece = record { kind = f.kind; bytes = take f.length rest } in
    let size : length p.bytes ≡ f.length = length-take-le f.length rest r.within in
    let place : size_of run.pieces ≡ at = sym run.place in
    record {
      pieces = run.pieces ++ p ∷ [];
      cut = subst (Cut language (run.pieces ++ p ∷ []) text) (drop-drop f.length at text) (
          cut_more language run.pieces text rest p (drop f.length rest) run.cut (sym (take-append-drop f.length rest)) (found_longest language rest f e));
      place = omega (arith, size_more run.pieces p, size, place);
      kept =
          ap (λ ts. ts ++ token_at f.kind at f.length) run.kept
          ∙ (ap (λ n. tokens_from 0 run.pieces ++ token_at f.kind n f.length) (omega (arith, place))
          ∙ (ap (λ n. tokens_from 0 run.pieces ++ token_at f.kind (0 + size_of run.pieces) n) (sym size) ∙ sym (tokens_more 0 run.pieces p)));
    }

-- a cut to the end is the lexing
pub run_whole : (language : Language) (text : List ℕ) (at : ℕ) (tokens : List Token) → IsCutTo language text at tokens → length text ≤ at → Lex language text tokens
run_whole language text at tokens run end = (run.pieces, subst (Cut language run.pieces text) (drop_all at text end) run.cut, run.kept)

-- where the lexer finds no piece before the end, the token fault is
pub run_stops : (language : Language) (text : List ℕ) (at : ℕ) (tokens : List Token) → IsCutTo language text at tokens → at < length text → found language (drop at text) ≡ None → IsTokenPlace language text at
run_stops language text at tokens run before none = (
  run.pieces,
  drop at text,
  run.cut,
  omega (arith, length-drop at text),
  no_piece language (drop at text) none,
  omega (arith, length-drop at text),
)

-- nothing is cut yet
pub run_empty : (language : Language) (text : List ℕ) → IsCutTo language text 0 []
run_empty language text = record { pieces = []; cut = refl; place = refl; kept = refl }
