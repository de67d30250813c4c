-- The bytes of printed tokens are cut at them, and the tokens are what was printed.
use Rattle.std.proofs.Common.{◌≡◌, ℕ, ◌+◌, List, [], ◌∷◌, ◌++◌, length, take, drop, refl, ap, sym, ◌∙◌, arith, append_assoc}
use Rattle.std.specs.Prelude.{map, slice_range, false}
use Rattle.std.proofs.lemmas.List.{length-append}
use Rattle.std.proofs.lemmas.Simd.{map-map}
use Rattle.std.proofs.Math.Seq.{take-append_seam, drop-append_seam}
use Rattle.element_store.specs.declared.outcome.Language.{Language}
use Rattle.token_core.specs.Lex.{Piece, Cut, tokens_from}
use Rattle.print_model.specs.Printed.{heard}
use Rattle.print_model.specs.Unplaced.{seen}
use Rattle.print_model.specs.Layout.{gap}
use Rattle.print_model.specs.ReadBack.{PrintedTokensLex}
use Rattle.print_model.specs.Neighbours.{Put, bytes_in, space_piece, pieces_in, IsGap, ArePut}

-- white space, and what is cut behind it
pub cut_space : (l : Language) (g more : List ℕ) (ps : List Piece) → IsGap l g more → Cut l ps more [] → Cut l (space_piece g ++ ps) (g ++ more) []
cut_space l [] more ps gap cut = cut
cut_space l (b ∷ bs) more ps gap cut = (more, refl, gap, cut)

-- the bytes of printed tokens are cut at them
pub cut_puts : (l : Language) (ps : List Put) → ArePut l ps → Cut l (pieces_in ps) (bytes_in ps) []
cut_puts l [] h = refl
cut_puts l (p ∷ ps) h = (p.space ++ bytes_in ps, refl, h.0, cut_space l p.space (bytes_in ps) (pieces_in ps) h.1.0 (cut_puts l ps h.1.1))

-- the bytes behind others
part : (before bytes more : List ℕ) → slice_range (before ++ (bytes ++ more)) (length before) (length before + length bytes) ≡ bytes
part before bytes more =
    ap (λ n. take n (drop (length before) (before ++ (bytes ++ more)))) (omega arith)
    ∙ (ap (take (length bytes)) (drop-append_seam before (bytes ++ more)) ∙ take-append_seam bytes more)

-- white space is no token
pub space_tokens : (at : ℕ) (g : List ℕ) (ps : List Piece) → tokens_from at (space_piece g ++ ps) ≡ tokens_from (at + length g) ps
space_tokens at [] ps = ap (λ n. tokens_from n ps) (omega arith)
space_tokens at (b ∷ bs) ps = refl

-- what reading sees of the text is what was printed
pub seen_puts : (before : List ℕ) (ps : List Put) → map (seen (before ++ bytes_in ps)) (tokens_from (length before) (pieces_in ps))
    ≡ map (λ (p : Put). heard p.token) ps
seen_puts before [] = refl
seen_puts before (p ∷ ps) =
    let text = before ++ (p.token.bytes ++ (p.space ++ bytes_in ps)) in
    let here = length before in
    ap (λ bs. record { kind = p.token.kind; bytes = bs; tight = false }
    ∷ map (seen text) (tokens_from (here + length p.token.bytes) (space_piece p.space ++ pieces_in ps)))
    (part before p.token.bytes (p.space ++ bytes_in ps))
    ∙ ap (λ xs. heard p.token ∷ xs)
    (ap (map (seen text)) (space_tokens (here + length p.token.bytes) p.space (pieces_in ps)
    ∙ ap (λ n. tokens_from n (pieces_in ps)) (sym (length-append (before ++ p.token.bytes) p.space
    ∙ ap (λ n. n + length p.space) (length-append before p.token.bytes))))
    ∙ (ap (λ xs. map (seen xs) (tokens_from (length ((before ++ p.token.bytes) ++ p.space)) (pieces_in ps)))
    (joined before p.token.bytes p.space (bytes_in ps))
    ∙ seen_puts ((before ++ p.token.bytes) ++ p.space) ps))
  where
    joined : (a b c d : List ℕ) → a ++ (b ++ (c ++ d)) ≡ ((a ++ b) ++ c) ++ d
    joined a b c d = sym (append_assoc (a ++ b) c d ∙ append_assoc a b (c ++ d))

-- a printed text has just these tokens
pub lex_puts : PrintedTokensLex
lex_puts l ps h = (tokens_from 0 (pieces_in ps), (pieces_in ps, cut_puts l ps h, refl), seen_puts [] ps ∙ sym (map-map heard (λ (p : Put). p.token) ps))
