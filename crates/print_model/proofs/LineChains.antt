-- The lines of a model are put so that its text is cut at its tokens.
use Rattle.std.proofs.Common.{◌≡◌, ℕ, zero, suc, ◌+◌, Bool, true, false, List, [], ◌∷◌, ◌++◌, length, refl, ap, sym, subst, ◌∙◌, inl, inr, ◌⊎◌, arith}
use Rattle.std.specs.Prelude.{Option, Some, None, cond, map, codes, slice_index_or}
use Rattle.std.specs.List.{flat_map}
use Rattle.std.specs.Prelude.{IsUtf8}
use Rattle.std.proofs.lemmas.Str.{IsUtf8-append, IsUtf8-nil}
use Rattle.std.proofs.lemmas.List.{map-append}
use Rattle.std.proofs.lemmas.Simd.{map-map}
use Rattle.element_store.specs.declared.outcome.Language.{Language}
use Rattle.element_store.specs.declared.kind.Visibility.{Visibility}
use Rattle.element_store.specs.declared.records.Member.{Member}
use Rattle.element_store.specs.declared.records.Target.{Target}
use Rattle.element_store.specs.declared.records.Target.TheVariants as target
use Rattle.element_store.specs.declared.lists.Item.{Item}
use Rattle.element_store.specs.declared.lists.Item.TheVariants as item
use Rattle.element_store.specs.declared.expression.Node.{Node}
use Rattle.element_store.specs.Model.{Data}
use Rattle.token_core.specs.Bytes.{IsRun, is_space}
use Rattle.token_core.specs.Lex.{tokens_from}
use Rattle.text_laws.specs.Fits.{Every}
use Rattle.text_laws.proofs.FittingLaws.{every_append}
use Rattle.print_model.specs.Printed.{Printed, sign, name, heard}
use Rattle.print_model.specs.Layout.{Line, is_among, gap, set, indent, line_bytes, text_of}
use Rattle.print_model.specs.Heads.{element_at, member_at, items_at, no_import, is_end, is_note, is_about, references_in, before_names, abouts, member_visibility, locale_tokens, head, note_tokens, alias_tokens, import_tokens, expression, line, with_body, result_lines, element_lines, target_lines, item_lines, body_lines, model_lines}
use Rattle.print_model.specs.Neighbours.{Put, bytes_in, space_piece, pieces_in, IsGap, ArePut, puts_in, after_line, puts_of}
use Rattle.print_model.specs.ReadBack.{HasTokens}
use Rattle.print_model.specs.Written.{WrittenTextsLex, AreWrittenNodes, IsWrittenItem, IsWrittenTarget, HasWords, CanBeWritten}
use Rattle.print_model.proofs.Edges.{Ends}
use Rattle.print_model.proofs.Following.{low_utf8, fit_utf8, IsFit, Apart, Chained, IsBreak, line_put, puts_black, break_gap}
use Rattle.print_model.proofs.Joints.{Closing, closing_apart, sign_taking, Ready, ready_apart, spaced_apart, sign_fit, Passes, passes_none, passes_more, passes_on}
use Rattle.print_model.proofs.OperandChains.{name_closes, from_closing}
use Rattle.print_model.proofs.HeadChains.{Spaced, Anything, spaced_ready, semicolon_sign, brace_sign, brace_end, round_sign, expression_passes, head_passes, note_passes, alias_passes, import_passes}
use Rattle.print_model.proofs.Layouts as layouts
use Rattle.print_model.proofs.Cutting.{cut_space, cut_puts, seen_puts, space_tokens}

-- a line has a token, each is fit, and each is apart from the one before
abbrev pub IsChain : Language → List Printed → Type 0
IsChain l [] = ⊥
IsChain l (p ∷ ps) = IsFit l p × Chained l p ps

-- of each line
abbrev pub AreChains : Language → List Line → Type 0
AreChains l ls = Every (λ x. IsChain l x.tokens) ls

passes_chain : (l : Language) (ps : List Printed) (Q : Printed → Type 0) → layouts.HasTokens ps → Passes l Closing ps Q → IsChain l ps
passes_chain l [] Q some h = elim some [ ]
passes_chain l (p ∷ ps) Q some h = let k = (h (name l (codes "x")) (name_closes l (codes "x"))).0 in (k.0, k.2)

some_behind : (xs : List Printed) (y : Printed) (ys : List Printed) → layouts.HasTokens (xs ++ y ∷ ys)
some_behind [] y ys = tt
some_behind (x ∷ xs) y ys = tt

some_back : (xs ys : List Printed) → layouts.HasTokens ys → layouts.HasTokens (xs ++ ys)
some_back [] ys h = h
some_back (x ∷ xs) ys h = tt

some_note : (d : Data) (v : Visibility) (c : ℕ) → layouts.HasTokens (note_tokens d v c)
some_note d v c =
    some_back (before_names d v (element_at d c)) _ (some_back (abouts d.language (references_in d is_about c)) _
    (some_back (locale_tokens d.language (element_at d c).locale) _ tt))

-- a head with `;` or `{`
spaced_end : (l : Language) (ps : List Printed) → Passes l Closing ps Spaced → Passes l Closing (ps ++ sign (codes ";") ∷ []) Anything
spaced_end l ps h = passes_on l Closing Spaced Anything ps (sign (codes ";") ∷ []) h
    (passes_more l Spaced Anything Anything (sign (codes ";")) [] (sign_fit l (codes ";") semicolon_sign)
    (λ p s. ready_apart p (sign (codes ";")) (spaced_ready p s) refl) tt (passes_none l Anything))

spaced_begin : (l : Language) (ps : List Printed) → Passes l Closing ps Spaced → Passes l Closing (ps ++ sign (codes "{") ∷ []) Anything
spaced_begin l ps h = passes_on l Closing Spaced Anything ps (sign (codes "{") ∷ []) h
    (passes_more l Spaced Anything Anything (sign (codes "{")) [] (sign_fit l (codes "{") brace_sign) apart tt (passes_none l Anything))
  where
    apart : (p : Printed) → Spaced p → Apart p (sign (codes "{"))
    apart p (inl c) = closing_apart p (sign (codes "{")) c
    apart p (inr c) = spaced_apart p (sign (codes "{")) c.loose c.shut refl

body_chains : (l : Language) (level : ℕ) (ps : List Printed) (ls : List Line) → Passes l Closing ps Spaced → AreChains l ls
    → AreChains l (with_body level ps ls)
body_chains l level ps [] h k = (passes_chain l (ps ++ sign (codes ";") ∷ []) Anything (some_behind ps (sign (codes ";")) []) (spaced_end l ps h), tt)
body_chains l level ps (x ∷ xs) h k = (
  passes_chain l (ps ++ sign (codes "{") ∷ []) Anything (some_behind ps (sign (codes "{")) []) (spaced_begin l ps h),
  (k.0, every_append (λ (y : Line). IsChain l y.tokens) xs (line level (sign (codes "}") ∷ []) ∷ []) k.1 ((sign_fit l (codes "}") brace_end, tt), tt)),
)

element_chains : (inner : ℕ → ℕ → List Line) (d : Data) (level : ℕ) (v : Visibility) (c : ℕ) → CanBeWritten d → (is_end (element_at d c).kind ≡ true)
    ⊎ HasWords d.language (element_at d c)
    → ((l e : ℕ) → AreChains d.language (inner l e)) → AreChains d.language (element_lines inner d level v c)
element_chains inner d level v c w o below = by_end (is_end (element_at d c).kind) refl o
  where
    off : (b : Bool) → b ≡ false → b ≡ true → ⊥
    off b e k = cc

    by_note : (b : Bool) → HasWords d.language (element_at d c)
        → AreChains d.language (cond b (line level (note_tokens d v c) ∷ []) (with_body level (head d v c) (inner (suc level) c)))
    by_note true k = (passes_chain d.language (note_tokens d v c) Anything (some_note d v c) (note_passes d v c w k), tt)
    by_note false k = body_chains d.language level (head d v c) (inner (suc level) c) (head_passes d v c w k) (below (suc level) c)

    by_end : (b : Bool) → is_end (element_at d c).kind ≡ b → (is_end (element_at d c).kind ≡ true) ⊎ HasWords d.language (element_at d c)
        → AreChains d.language (cond b [] (cond (is_note (element_at d c).kind) (line level (note_tokens d v c) ∷ [])
        (with_body level (head d v c) (inner (suc level) c))))
    by_end true e o = tt
    by_end false e (inl k) = absurd (off (is_end (element_at d c).kind) e k)
    by_end false e (inr k) = by_note (is_note (element_at d c).kind) k

target_chains : (inner : ℕ → ℕ → List Line) (d : Data) (level : ℕ) (m : Member) (x : Target) → CanBeWritten d → IsWrittenTarget d m x
    → ((l e : ℕ) → AreChains d.language (inner l e)) → AreChains d.language (target_lines inner d level m x)
target_chains inner d level m (target.Owned c) w o below = element_chains inner d level m.visibility c w o below
target_chains inner d level m (target.Alias r) w o below =
    (passes_chain d.language (alias_tokens d m r) Closing (some_alias d m r) (alias_passes d m r o.0 o.1 o.2), tt)
  where
    some_alias : (d : Data) (m : Member) (r : ℕ) → layouts.HasTokens (alias_tokens d m r)
    some_alias d m r = some_back (member_visibility d.language m.visibility) _ tt

item_chains : (inner : ℕ → ℕ → List Line) (d : Data) (level : ℕ) (i : Item) → CanBeWritten d → IsWrittenItem d i
    → ((l e : ℕ) → AreChains d.language (inner l e)) → AreChains d.language (item_lines inner d level i)
item_chains inner d level (item.Member m) w o below = target_chains inner d level (member_at d m) (member_at d m).target w o below
item_chains inner d level (item.Import i) w o below =
    (passes_chain d.language (import_tokens d (slice_index_or d.imports i no_import)) Closing tt (import_passes d (slice_index_or d.imports i no_import) o), tt)

items_chains : (inner : ℕ → ℕ → List Line) (d : Data) (level : ℕ) (is : List Item) → CanBeWritten d → Every (IsWrittenItem d) is
    → ((l e : ℕ) → AreChains d.language (inner l e)) → AreChains d.language (flat_map (item_lines inner d level) is)
items_chains inner d level [] w h below = tt
items_chains inner d level (i ∷ is) w h below =
    every_append (λ (y : Line). IsChain d.language y.tokens) (item_lines inner d level i) (flat_map (item_lines inner d level) is)
    (item_chains inner d level i w h.0 below) (items_chains inner d level is w h.1 below)

-- an expression has a token
no_closing : Closing (sign (codes "(")) → ⊥
no_closing c = absurd (off c.shut)
  where
    off : is_among (codes "[ ( $ :: . ..") (codes "(") ≡ false → ⊥
    off e = cc

ready_chain : (l : Language) (ps : List Printed) → Passes l Ready ps Closing → IsChain l ps
ready_chain l [] k = absurd (no_closing (k (sign (codes "(")) (inr (sign_taking (codes "(") round_sign))).1)
ready_chain l (p ∷ ps) k = passes_chain l (p ∷ ps) Closing tt (from_closing l (p ∷ ps) Closing k)

result_chains : (d : Data) (level : ℕ) (ns : Option (List Node)) → AreWrittenNodes d ns → AreChains d.language (result_lines d level ns)
result_chains d level None h = tt
result_chains d level (Some ns) h = (ready_chain d.language (expression d ns) (expression_passes d ns h), tt)

-- each line of a body is a chain
pub body_are_chains : (steps : ℕ) (d : Data) (level e : ℕ) → CanBeWritten d → AreChains d.language (body_lines steps d level e)
body_are_chains zero d level e w = tt
body_are_chains (suc steps) d level e w =
    every_append (λ (y : Line). IsChain d.language y.tokens) (flat_map (item_lines (λ l c. body_lines steps d l c) d level) (items_at d e))
    (result_lines d level (element_at d e).result)
    (items_chains (λ l c. body_lines steps d l c) d level (items_at d e) w (w.items e) (λ l c. body_are_chains steps d l c w))
    (result_chains d level (element_at d e).result (w.elements e).result)

-- Lines.

indent_run : (n : ℕ) → IsRun is_space (indent n)
indent_run zero = tt
indent_run (suc n) = (refl, (refl, (refl, (refl, indent_run n))))

after_break : (ls : List Line) → IsBreak (after_line ls)
after_break [] = (refl, tt)
after_break (l ∷ ls) = (refl, indent_run l.level)

lines_black : (l : Language) (ls : List Line) → AreChains l ls → Ends is_space (bytes_in (puts_of ls))
lines_black l [] h = tt
lines_black l (x ∷ ls) h = begun x.tokens h.0
  where
    begun : (ps : List Printed) → IsChain l ps → Ends is_space (bytes_in (puts_in ps (after_line ls) ++ puts_of ls))
    begun [] k = elim k [ ]
    begun (p ∷ ps) k = puts_black l p ps (after_line ls) (puts_of ls) k.0

-- the tokens of lines are put
pub lines_put : (l : Language) (ls : List Line) → AreChains l ls → ArePut l (puts_of ls)
lines_put l [] h = tt
lines_put l (x ∷ ls) h = begun l ls x.tokens h.0 (lines_black l ls h.1) (lines_put l ls h.1)
  where
    begun : (l : Language) (ls : List Line) (ps : List Printed) → IsChain l ps → Ends is_space (bytes_in (puts_of ls)) → ArePut l (puts_of ls)
        → ArePut l (puts_in ps (after_line ls) ++ puts_of ls)
    begun l ls [] k b put = elim k [ ]
    begun l ls (p ∷ ps) k b put = line_put l p ps (after_line ls) (puts_of ls) k.0 k.1 (after_break ls) b put

-- The text of lines.

some_of : (l : Language) (ls : List Line) → AreChains l ls → layouts.AllHaveTokens ls
some_of l [] h = tt
some_of l (x ∷ ls) h = (has x.tokens h.0, some_of l ls h.1)
  where
    has : (ps : List Printed) → IsChain l ps → layouts.HasTokens ps
    has [] k = elim k [ ]
    has (p ∷ ps) k = tt

one_line : (ps : List Printed) (after : List ℕ) → map (λ (p : Put). p.token) (puts_in ps after) ≡ ps
one_line [] after = refl
one_line (p ∷ []) after = refl
one_line (p ∷ q ∷ ps) after = ap (λ xs. p ∷ xs) (one_line (q ∷ ps) after)

line_tokens : (ls : List Line) → map (λ (p : Put). p.token) (puts_of ls) ≡ flat_map (λ (x : Line). x.tokens) ls
line_tokens [] = refl
line_tokens (x ∷ ls) =
    map-append (λ (p : Put). p.token) (puts_in x.tokens (after_line ls)) (puts_of ls)
    ∙ (ap (λ xs. xs ++ map (λ (p : Put). p.token) (puts_of ls)) (one_line x.tokens (after_line ls)) ∙ ap (λ xs. x.tokens ++ xs) (line_tokens ls))

front_gap : (l : Language) (n : ℕ) (more : List ℕ) → Ends is_space more → IsGap l (indent n) more
front_gap l zero more e = tt
front_gap l (suc n) more e = break_gap l (indent (suc n)) more (refl, (refl, (refl, (refl, indent_run n)))) e

-- the text of lines that are chains has just their tokens
pub lines_lex : (l : Language) (ls : List Line) → AreChains l ls → HasTokens l (text_of ls) (flat_map (λ (x : Line). x.tokens) ls)
lines_lex l ls h =
    let g = indent (layouts.first_level ls) in
    let ps = puts_of ls in
    let put = lines_put l ls h in
    let start : length g ≡ 0 + length g = omega arith in
    subst (λ xs. HasTokens l xs (flat_map (λ (x : Line). x.tokens) ls)) (sym (layouts.text_puts ls (some_of l ls h))) (
      tokens_from (length g) (pieces_in ps),
      (
        space_piece g ++ pieces_in ps,
        cut_space l g (bytes_in ps) (pieces_in ps) (front_gap l (layouts.first_level ls) (bytes_in ps) (lines_black l ls h))
            (cut_puts l ps put),
        ap (λ n. tokens_from n (pieces_in ps)) start ∙ sym (space_tokens 0 g (pieces_in ps)),
      ),
      seen_puts g ps ∙ (sym (map-map heard (λ (p : Put). p.token) ps) ∙ ap (map heard) (line_tokens ls)),
    )

-- it is UTF-8

gap_utf8 : (b : Bool) → IsUtf8 (cond b [] (32 ∷ []))
gap_utf8 true = IsUtf8-nil
gap_utf8 false = low_utf8 (32 ∷ []) refl

set_utf8 : (l : Language) (p : Printed) (ps : List Printed) → IsFit l p → Chained l p ps → IsUtf8 (set (p ∷ ps))
set_utf8 l p [] h c = fit_utf8 l p.kind p.bytes h
set_utf8 l p (q ∷ ps) h c = IsUtf8-append p.bytes (gap p q ++ set (q ∷ ps)) (fit_utf8 l p.kind p.bytes h)
    (IsUtf8-append (gap p q) (set (q ∷ ps)) (gap_utf8 _) (set_utf8 l q ps c.0 c.2))

indent_utf8 : (n : ℕ) → IsUtf8 (indent n)
indent_utf8 zero = IsUtf8-nil
indent_utf8 (suc n) = IsUtf8-append (codes "    ") (indent n) (low_utf8 (codes "    ") refl) (indent_utf8 n)

chain_utf8 : (l : Language) (ps : List Printed) → IsChain l ps → IsUtf8 (set ps)
chain_utf8 l [] h = elim h [ ]
chain_utf8 l (p ∷ ps) h = set_utf8 l p ps h.0 h.1

-- the text of lines
pub lines_utf8 : (l : Language) (ls : List Line) → AreChains l ls → IsUtf8 (text_of ls)
lines_utf8 l [] h = IsUtf8-nil
lines_utf8 l (x ∷ ls) h =
    IsUtf8-append (line_bytes x) (text_of ls)
    (IsUtf8-append (indent x.level) (set x.tokens ++ 10 ∷ []) (indent_utf8 x.level)
    (IsUtf8-append (set x.tokens) (10 ∷ []) (chain_utf8 l x.tokens h.0) (low_utf8 (10 ∷ []) refl)))
    (lines_utf8 l ls h.1)

-- so is the text of a model, and it has just its tokens
pub written_texts_lex : WrittenTextsLex
written_texts_lex d w =
    let chains = body_are_chains (suc (length d.elements)) d 0 0 w in
    (lines_utf8 d.language (model_lines d) chains, lines_lex d.language (model_lines d) chains)
