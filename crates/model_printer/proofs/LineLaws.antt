-- Tokens that are put one after another in a line are its bytes.
use Rattle.std.proofs.Common.{◌≡◌, ◌∙◌, ℕ, Bool, true, false, List, [], ◌∷◌, ◌++◌, refl, sym, ap, append_assoc, append-nil}
use Rattle.std.specs.Prelude.{cond, not, ◌&&◌, ◌||◌}
use Rattle.print_model.specs.Printed.{Printed}
use Rattle.print_model.specs.Layout.{Line, gap, set, indent, line_bytes, text_of}
use Rattle.print_model.specs.Heads.{line}
use Rattle.model_printer.specs.Sheets.{Sheet, blank_if, closes, opens, put, puts, begun, ended}
use Rattle.model_printer.specs.Bodies.{AreWritten}

-- the bytes behind a token
behind : Printed → List Printed → List ℕ
behind p [] = []
behind p (q ∷ qs) = gap p q ++ (q.bytes ++ behind q qs)

set_behind : (p : Printed) (qs : List Printed) → set (p ∷ qs) ≡ p.bytes ++ behind p qs
unfolding behind
set_behind p [] = sym (append-nil p.bytes)
set_behind p (q ∷ qs) = ap (λ xs. p.bytes ++ (gap p q ++ xs)) (set_behind q qs)

gap_is : (a b c : Bool) → blank_if (not (a || b) && not c) ≡ cond {A = List ℕ} (a || (b || c)) [] (32 ∷ [])
gap_is true b c = refl
gap_is false true c = refl
gap_is false false true = refl
gap_is false false false = refl

-- tokens behind one that was put
put_behind : (s : Sheet) (p : Printed) (qs : List Printed) → (puts (put s p.bytes p.tight) qs).bytes ≡ (put s p.bytes p.tight).bytes ++ behind p qs
unfolding behind put
put_behind s p [] = sym (append-nil (put s p.bytes p.tight).bytes)
put_behind s p (q ∷ qs) =
    let t = put s p.bytes p.tight in
    put_behind t q qs
    ∙ ap (λ g. (t.bytes ++ (g ++ q.bytes)) ++ behind q qs) (gap_is p.tight (opens p.bytes) (closes q.bytes))
    ∙ append_assoc t.bytes (gap p q ++ q.bytes) (behind q qs) ∙ ap (λ xs. t.bytes ++ xs) (append_assoc (gap p q) q.bytes (behind q qs))

-- the tokens of a line that has begun
begun_puts : (s : Sheet) (level : ℕ) (ps : List Printed) → (puts (begun s level) ps).bytes ≡ (s.bytes ++ indent level) ++ set ps
unfolding begun put
begun_puts s level [] = sym (append-nil (s.bytes ++ indent level))
begun_puts s level (p ∷ qs) =
    put_behind (begun s level) p qs ∙ append_assoc (s.bytes ++ indent level) p.bytes (behind p qs)
    ∙ ap (λ xs. (s.bytes ++ indent level) ++ xs) (sym (set_behind p qs))

-- a whole line
pub line_written : (s m t u : Sheet) (level : ℕ) (ps : List Printed) → m ≡ begun s level → t ≡ puts m ps → u ≡ ended t → AreWritten (line level ps ∷ []) s u
unfolding ended
line_written s m t u level ps first second third =
    ap (λ (x : Sheet). x.bytes) (third ∙ ap ended (second ∙ ap (λ x. puts x ps) first))
    ∙ ap (λ xs. xs ++ 10 ∷ []) (begun_puts s level ps)
    ∙ append_assoc (s.bytes ++ indent level) (set ps) (10 ∷ []) ∙ append_assoc s.bytes (indent level) (set ps ++ 10 ∷ [])
    ∙ ap (λ xs. s.bytes ++ xs) (sym (append-nil (line_bytes (line level ps))))

text_append : (ls ms : List Line) → text_of (ls ++ ms) ≡ text_of ls ++ text_of ms
text_append [] ms = refl
text_append (l ∷ ls) ms = ap (λ xs. line_bytes l ++ xs) (text_append ls ms) ∙ sym (append_assoc (line_bytes l) (text_of ls) (text_of ms))

-- lines, and then others
pub lines_written : (ls ms : List Line) (s t u : Sheet) → AreWritten ls s t → AreWritten ms t u → AreWritten (ls ++ ms) s u
lines_written ls ms s t u first second =
    second ∙ ap (λ xs. xs ++ text_of ms) first ∙ append_assoc s.bytes (text_of ls) (text_of ms) ∙ ap (λ xs. s.bytes ++ xs) (sym (text_append ls ms))

-- lines that are written are left no more
pub written_left : (ls ms : List Line) (s t : Sheet) → AreWritten ls s t → s.bytes ++ text_of (ls ++ ms) ≡ t.bytes ++ text_of ms
written_left ls ms s t is =
    ap (λ xs. s.bytes ++ xs) (text_append ls ms) ∙ sym (append_assoc s.bytes (text_of ls) (text_of ms)) ∙ ap (λ xs. xs ++ text_of ms) (sym is)

-- no line
pub none_written : (s : Sheet) → AreWritten [] s s
none_written s = sym (append-nil s.bytes)
