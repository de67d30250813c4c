-- A printed expression is read back: at each level a symbol derives its tokens, and the walk puts its nodes behind those before.
use Rattle.std.proofs.Common.{◌≡◌, ℕ, zero, suc, ◌+◌, ◌-◌, ◌≤◌, List, [], ◌∷◌, ◌++◌, refl, ap, sym, subst, inl, inr, ◌∙◌, arith, append_assoc, append-nil}
use Rattle.std.proofs.lemmas.Bool.{ltb-true, ltb-false, lt-ltb, le-ltb}
use Rattle.std.proofs.lemmas.Bool.Decides.{eqb_tells}
use Rattle.linker_base.proofs.Cases.{bool_cases}
use Rattle.std.specs.Prelude.{Option, None, true, ltb, codes}
use Rattle.element_store.specs.declared.outcome.Language.{Language}
use Rattle.element_store.specs.declared.outcome.Language.TheVariants.{Kerml, Sysml}
use Rattle.element_store.specs.declared.expression.UnaryOp.{UnaryOp}
use Rattle.element_store.specs.declared.expression.UnaryOp.TheVariants as unary
use Rattle.element_store.specs.declared.expression.BinaryOp.{BinaryOp}
use Rattle.element_store.specs.declared.expression.BinaryOp.TheVariants as binary
use Rattle.token_core.specs.Terminals.{terminal}
use Rattle.token_core.specs.Words.{signs, words}
use Rattle.ll_core.specs.declared.grammar.Symbol.TheVariants.{Terminal, Inner}
use Rattle.kerml_grammar.specs.Grammar.{kerml_table}
use Rattle.sysml_grammar.specs.Grammar.{sysml_table}
use Rattle.text_model.specs.declared.action.Action.{Action}
use Rattle.text_model.specs.declared.action.Action.TheVariants.{Group, Level, Tail}
use Rattle.text_model.specs.declared.action.Operator.{Operator}
use Rattle.text_model.specs.declared.action.Operator.TheVariants as operator
use Rattle.text_model.specs.declared.action.Meaning.TheVariants as meaning
use Rattle.text_model.specs.declared.draft.What.TheVariants as what
use Rattle.text_model.specs.declared.draft.DraftNode.{DraftNode}
use Rattle.text_model.specs.declared.draft.Waiting.{Waiting}
use Rattle.text_model.specs.Tables.{tables, meaning_of}
use Rattle.text_model.specs.Drafts.{node, joined, applied}
use Rattle.text_model.specs.Walk.{Walk}
use Rattle.print_model.specs.Printed.{Printed, sign, word}
use Rattle.print_model.specs.Trees.{Tree, Integer, Boolean, Text, Null, Named, Before, Between, Choice, level, level_between, token_between, token_before, within, printed}
use Rattle.print_model.proofs.Readings.{Reads, IsRule, IsToken, reads_nothing, reads_said, reads_node, reads_last, reads_then, reads_as, reads_to}
use Rattle.print_model.proofs.States.{waiting, at, onto, ReadsAt}
use Rattle.print_model.proofs.Rules.{many, none, sign_before, LevelRules, IsMore, Direct, Through, sign_of, rule_between, rule_before, level_rules_1, level_rules_2, level_rules_3, level_rules_4, level_rules_5, level_rules_6, level_rules_7, level_rules_8}
use Rattle.text_model.specs.Languages.{grammar_of}
use Rattle.kerml_grammar.specs.Rules.{kerml_rules}
use Rattle.kerml_grammar.specs.Terms as kerml
use Rattle.sysml_grammar.specs.Rules.{sysml_rules}
use Rattle.sysml_grammar.specs.Terms as sysml
use Rattle.text_model.specs.KermlActions.{kerml_actions}
use Rattle.text_model.specs.SysmlActions.{sysml_actions}
use Rattle.text_model.specs.SignMeanings.{sign_meanings}
use Rattle.text_model.specs.KermlMeanings.{kerml_meanings}
use Rattle.text_model.specs.SysmlMeanings.{sysml_meanings}

-- the repetition at a level, with nothing more
pub none_reads : (l : Language) (k : ℕ) (rules : LevelRules l k) (a : Action) (w : Walk) (ns : List DraftNode) (o : Option Waiting)
    → Reads l a (Inner (many l k) ∷ []) [] (at w ns o) (at w (joined ns o) None)
none_reads l k rules a w ns o = reads_last l a Tail (none l k) (many l k) [] [] (at w ns o) (at w (joined ns o) None) rules.ended
    (reads_nothing l Tail (at w (joined ns o) None))

-- and with an operator and what follows
more_reads : (l : Language) (k : ℕ) (p : Printed) (b : Operator) (m : IsMore l k p b) (a : Action) (qs : List Printed) (w u : Walk) (ns : List DraftNode)
    (o : Option Waiting)
    → Reads l Tail (Inner (29 + k) ∷ Inner (many l k) ∷ []) qs (at w (joined ns o) (waiting b)) u → Reads l a (Inner (many l k) ∷ []) (p ∷ qs) (at w ns o) u
more_reads l k p b (Direct n t rule kind means) a qs w u ns o r =
    reads_last l a Tail n (many l k) (Terminal t ∷ Inner (29 + k) ∷ Inner (many l k) ∷ []) (p ∷ qs) (at w ns o) u rule
    (reads_said l Tail p t (meaning.Operator b) (Inner (29 + k) ∷ Inner (many l k) ∷ []) qs (at w (joined ns o) None) u kind means r)
more_reads l k p b (Through n s rule sign) a qs w u ns o r =
    reads_last l a Tail n (many l k) (Inner s ∷ Inner (29 + k) ∷ Inner (many l k) ∷ []) (p ∷ qs) (at w ns o) u rule
    (reads_node l Tail Group sign.n s (Terminal sign.t ∷ []) (Inner (29 + k) ∷ Inner (many l k) ∷ []) (p ∷ []) qs (at w (joined ns o) None)
    (at w (joined ns o) (waiting b)) u sign.rule
    (reads_said l Group p sign.t (meaning.Operator b) [] [] (at w (joined ns o) None) (at w (joined ns o) (waiting b)) sign.kind sign.means
    (reads_nothing l Group (at w (joined ns o) (waiting b))))
    r)

-- a level over the next one
level_step : (l : Language) (k : ℕ) (rules : LevelRules l k) (ps : List Printed) (w : Walk) (ns ms : List DraftNode) → ReadsAt l (29 + k) ps w ns ms
    → ReadsAt l (28 + k) ps w ns ms
level_step l k rules ps w ns ms sub a o =
    reads_last l a Level (49 + k) (28 + k) (Inner (29 + k) ∷ Inner (many l k) ∷ []) ps (at w ns o) (at w ms None) rules.rule
    (reads_as l Level (Inner (29 + k) ∷ Inner (many l k) ∷ []) (ps ++ []) ps (at w ns None) (at w ms None) (append-nil ps)
    (reads_then l Level (Inner (29 + k) ∷ []) (Inner (many l k) ∷ []) ps [] (at w ns None) (at w ms None) (at w ms None) (sub Level None)
    (none_reads l k rules Level w ms None)))

rules_of : (l : Language) (o : BinaryOp) → LevelRules l (level_between o)
rules_of l binary.Implies = level_rules_1 l
rules_of l binary.Or = level_rules_2 l
rules_of l binary.Bar = level_rules_2 l
rules_of l binary.Xor = level_rules_3 l
rules_of l binary.And = level_rules_4 l
rules_of l binary.Amp = level_rules_4 l
rules_of l binary.Equal = level_rules_5 l
rules_of l binary.NotEqual = level_rules_5 l
rules_of l binary.Less = level_rules_6 l
rules_of l binary.Greater = level_rules_6 l
rules_of l binary.AtMost = level_rules_6 l
rules_of l binary.AtLeast = level_rules_6 l
rules_of l binary.Add = level_rules_7 l
rules_of l binary.Subtract = level_rules_7 l
rules_of l binary.Multiply = level_rules_8 l
rules_of l binary.Divide = level_rules_8 l
rules_of l binary.Remainder = level_rules_8 l

-- the levels of operators between two operands
pub is_between : (o : BinaryOp) → (1 ≤ level_between o) × (level_between o ≤ 8)
is_between binary.Implies = (omega arith, omega arith)
is_between binary.Or = (omega arith, omega arith)
is_between binary.Bar = (omega arith, omega arith)
is_between binary.Xor = (omega arith, omega arith)
is_between binary.And = (omega arith, omega arith)
is_between binary.Amp = (omega arith, omega arith)
is_between binary.Equal = (omega arith, omega arith)
is_between binary.NotEqual = (omega arith, omega arith)
is_between binary.Less = (omega arith, omega arith)
is_between binary.Greater = (omega arith, omega arith)
is_between binary.AtMost = (omega arith, omega arith)
is_between binary.AtLeast = (omega arith, omega arith)
is_between binary.Add = (omega arith, omega arith)
is_between binary.Subtract = (omega arith, omega arith)
is_between binary.Multiply = (omega arith, omega arith)
is_between binary.Divide = (omega arith, omega arith)
is_between binary.Remainder = (omega arith, omega arith)

level_small : (e : Tree) → level e ≤ 10
level_small (Choice a b c) = omega arith
level_small (Between o a b) = omega (arith, (is_between o).1)
level_small (Before o a) = omega arith
level_small (Integer n) = omega arith
level_small (Boolean b) = omega arith
level_small (Text bytes) = omega arith
level_small Null = omega arith
level_small (Named p) = omega arith

-- productions that stand for the next level alone
pub expression_rule : (l : Language) → IsRule l 49 28 (Inner 29 ∷ []) Group
unfolding grammar_of kerml_table kerml_rules kerml.sign kerml.word sysml_table sysml_rules sysml.sign sysml.word signs words tables kerml_actions
    sysml_actions
expression_rule Kerml = (refl, refl)
expression_rule Sysml = (refl, refl)

unary_rule : (l : Language) → IsRule l 59 37 (Inner 38 ∷ []) Group
unfolding grammar_of kerml_table kerml_rules kerml.sign kerml.word sysml_table sysml_rules sysml.sign sysml.word signs words tables kerml_actions
    sysml_actions
unary_rule Kerml = (refl, refl)
unary_rule Sysml = (refl, refl)

plain_step : (l : Language) (n s t : ℕ) → IsRule l n s (Inner t ∷ []) Group → (ps : List Printed) (w : Walk) (ns ms : List DraftNode) → ReadsAt l t ps w ns ms
    → ReadsAt l s ps w ns ms
plain_step l n s t rule ps w ns ms sub a o = reads_last l a Group n s (Inner t ∷ []) ps (at w ns o) (at w ms o) rule (sub Group o)

step : (l : Language) (k : ℕ) → k ≤ 9 → (ps : List Printed) (w : Walk) (ns ms : List DraftNode) → ReadsAt l (29 + k) ps w ns ms → ReadsAt l (28 + k) ps w ns ms
step l zero le = plain_step l 49 28 29 (expression_rule l)
step l (suc zero) le = level_step l 1 (level_rules_1 l)
step l (suc (suc zero)) le = level_step l 2 (level_rules_2 l)
step l (suc (suc (suc zero))) le = level_step l 3 (level_rules_3 l)
step l (suc (suc (suc (suc zero)))) le = level_step l 4 (level_rules_4 l)
step l (suc (suc (suc (suc (suc zero))))) le = level_step l 5 (level_rules_5 l)
step l (suc (suc (suc (suc (suc (suc zero)))))) le = level_step l 6 (level_rules_6 l)
step l (suc (suc (suc (suc (suc (suc (suc zero))))))) le = level_step l 7 (level_rules_7 l)
step l (suc (suc (suc (suc (suc (suc (suc (suc zero)))))))) le = level_step l 8 (level_rules_8 l)
step l (suc (suc (suc (suc (suc (suc (suc (suc (suc zero))))))))) le = plain_step l 59 37 38 (unary_rule l)
step l (suc (suc (suc (suc (suc (suc (suc (suc (suc (suc k)))))))))) le = elim (none_such k le) [ ]
  where
    none_such : (k : ℕ) → (suc (suc (suc (suc (suc (suc (suc (suc (suc (suc k)))))))))) ≤ 9 → ⊥
    none_such k le = omega (arith, le)

climb : (l : Language) (n k : ℕ) → n + k ≤ 10 → (ps : List Printed) (w : Walk) (ns ms : List DraftNode) → ReadsAt l (28 + (n + k)) ps w ns ms
    → ReadsAt l (28 + k) ps w ns ms
climb l zero k le ps w ns ms r = subst (λ s. ReadsAt l s ps w ns ms) (omega arith) r
climb l (suc n) k le ps w ns ms r =
    step l k (omega (arith, le)) ps w ns ms (subst (λ s. ReadsAt l s ps w ns ms) (omega arith)
    (climb l n (suc k) (omega (arith, le)) ps w ns ms (subst (λ s. ReadsAt l s ps w ns ms) (omega arith) r)))

-- from a tighter level to a looser one
looser : (l : Language) (j k : ℕ) → k ≤ j → j ≤ 10 → (ps : List Printed) (w : Walk) (ns ms : List DraftNode) → ReadsAt l (28 + j) ps w ns ms
    → ReadsAt l (28 + k) ps w ns ms
looser l j k le small ps w ns ms r = climb l (j - k) k (omega (arith, le, small)) ps w ns ms (subst (λ s. ReadsAt l s ps w ns ms) (omega (arith, le)) r)

bracket_rule : (l : Language) → IsRule l 66 38 (Terminal 8 ∷ Inner 28 ∷ Terminal 9 ∷ []) Group
unfolding grammar_of kerml_table kerml_rules kerml.sign kerml.word sysml_table sysml_rules sysml.sign sysml.word signs words tables kerml_actions
    sysml_actions
bracket_rule Kerml = (refl, refl)
bracket_rule Sysml = (refl, refl)

open_token : (l : Language) → IsToken l (sign (codes "(")) 8 meaning.Nothing
unfolding signs words tables sign_meanings kerml_meanings sysml_meanings
open_token Kerml = (refl, refl)
open_token Sysml = (refl, refl)

close_token : (l : Language) → IsToken l (sign (codes ")")) 9 meaning.Nothing
unfolding signs words tables sign_meanings kerml_meanings sysml_meanings
close_token Kerml = (refl, refl)
close_token Sysml = (refl, refl)

-- a whole expression in brackets is a leaf
bracketed : (l : Language) (ps : List Printed) (w : Walk) (ns ms : List DraftNode) → ReadsAt l 28 ps w ns ms → ReadsAt l 38 (within true ps) w ns ms
bracketed l ps w ns ms r a o =
    reads_last l a Group 66 38 (Terminal 8 ∷ Inner 28 ∷ Terminal 9 ∷ []) (within true ps) (at w ns o) (at w ms o) (bracket_rule l)
    (reads_said l Group (sign (codes "(")) 8 meaning.Nothing (Inner 28 ∷ Terminal 9 ∷ []) (ps ++ sign (codes ")") ∷ []) (at w ns o) (at w ms o) (open_token l).0
    (open_token l).1
    (reads_then l Group (Inner 28 ∷ []) (Terminal 9 ∷ []) ps (sign (codes ")") ∷ []) (at w ns o) (at w ms o) (at w ms o) (r Group o)
    (reads_said l Group (sign (codes ")")) 9 meaning.Nothing [] [] (at w ms o) (at w ms o) (close_token l).0 (close_token l).1
    (reads_nothing l Group (at w ms o)))))

-- an expression at its own level
abbrev pub Own : Language → Tree → Type 0
Own l e = (w : Walk) (ns : List DraftNode) → ReadsAt l (28 + level e) (printed l e) w ns (onto ns e)

-- and at any level, in brackets where it is looser
placed : (l : Language) (e : Tree) (k : ℕ) → k ≤ 10 → Own l e → (w : Walk) (ns : List DraftNode)
    → ReadsAt l (28 + k) (within (ltb (level e) k) (printed l e)) w ns (onto ns e)
placed l e k le own w ns = elim (bool_cases (ltb (level e) k)) [
  | inl looser_than ↦ subst (λ b. ReadsAt l (28 + k) (within b (printed l e)) w ns (onto ns e)) (sym looser_than)
      (looser l 10 k le (omega arith) (within true (printed l e)) w ns (onto ns e) (bracketed l (printed l e) w ns (onto ns e)
      (looser l (level e) 0 (omega arith) (level_small e) (printed l e) w ns (onto ns e) (own w ns))))
  | inr tight ↦ subst (λ b. ReadsAt l (28 + k) (within b (printed l e)) w ns (onto ns e)) (sym tight)
      (looser l (level e) k (ltb-false (level e) k tight) (level_small e) (printed l e) w ns (onto ns e) (own w ns))
]

-- an expression as the first operand of a repetition, whose rest joins the operators that wait
abbrev pub Rest : Language → ℕ → List Printed → Walk → Walk → List DraftNode → Type 0
Rest l k qs w u ms = (a : Action) (ns : List DraftNode) (o : Option Waiting) → joined ns o ≡ ms → Reads l a (Inner (many l k) ∷ []) qs (at w ns o) u

-- read as the first operand of a repetition, whose rest is read where it stands
abbrev pub Front : Language → Tree → Type 0
Front l e = (k : ℕ) → 1 ≤ k → k ≤ 8 → (qs : List Printed) (w u : Walk) (ns : List DraftNode) → Rest l k qs w u (onto ns e)
    → Reads l Level (Inner (29 + k) ∷ Inner (many l k) ∷ []) (within (ltb (level e) k) (printed l e) ++ qs) (at w ns None) u

ltb_next : (j k : ℕ) → (j ≡ k → ⊥) → ltb j (suc k) ≡ ltb j k
ltb_next j k other = elim (bool_cases (ltb j k)) [
  | inl less ↦ lt-ltb j (suc k) (omega (arith, ltb-true j k less)) ∙ sym less
  | inr more ↦ le-ltb j (suc k) (above j k other (ltb-false j k more)) ∙ sym more
]
  where
    above : (j k : ℕ) → (j ≡ k → ⊥) → k ≤ j → suc k ≤ j
    above j k other le = omega (arith, other, le)

-- an expression of another level
pub front_other : (l : Language) (e : Tree) (own : Own l e) (k : ℕ) → k ≤ 8 → (level e ≡ k → ⊥) → (qs : List Printed) (w u : Walk) (ns : List DraftNode)
    → Rest l k qs w u (onto ns e)
    → Reads l Level (Inner (29 + k) ∷ Inner (many l k) ∷ []) (within (ltb (level e) k) (printed l e) ++ qs) (at w ns None) u
front_other l e own k le other qs w u ns rest =
    reads_then l Level (Inner (29 + k) ∷ []) (Inner (many l k) ∷ []) (within (ltb (level e) k) (printed l e)) qs (at w ns None) (at w (onto ns e) None) u
    (subst (λ b. Reads l Level (Inner (29 + k) ∷ []) (within b (printed l e)) (at w ns None) (at w (onto ns e) None)) (ltb_next (level e) k other)
    (subst (λ s. ReadsAt l s (within (ltb (level e) (suc k)) (printed l e)) w ns (onto ns e)) (omega arith)
    (placed l e (suc k) (omega (arith, le)) own w ns) Level None))
    (rest Level (onto ns e) None refl)

-- an operator of the level itself: its left operand is the first of the same repetition
same : (l : Language) (o : BinaryOp) (x y : Tree) → Front l x → Own l y → (qs : List Printed) (w u : Walk) (ns : List DraftNode)
    → Rest l (level_between o) qs w u (onto ns (Between o x y))
    → Reads l Level (Inner (29 + level_between o) ∷ Inner (many l (level_between o)) ∷ []) (printed l (Between o x y) ++ qs) (at w ns None) u
same l o x y front own qs w u ns rest =
    let k = level_between o in
    let ps = within (ltb (level y) (suc k)) (printed l y) in
    reads_as l Level (Inner (29 + k) ∷ Inner (many l k) ∷ []) (within (ltb (level x) k) (printed l x) ++ (token_between l o ∷ (ps ++ qs)))
    (printed l (Between o x y) ++ qs) (at w ns None) u
    (sym (append_assoc (within (ltb (level x) k) (printed l x)) (token_between l o ∷ ps) qs))
    (front k (is_between o).0 (is_between o).1 (token_between l o ∷ (ps ++ qs)) w u ns
    (λ a ms before e. more_reads l k (token_between l o) (operator.Binary o) (rule_between l o) a (ps ++ qs) w u ms before
    (subst (λ js. Reads l Tail (Inner (29 + k) ∷ Inner (many l k) ∷ []) (ps ++ qs) (at w js (waiting (operator.Binary o))) u) (sym e)
    (reads_then l Tail (Inner (29 + k) ∷ []) (Inner (many l k) ∷ []) ps qs (at w (onto ns x) (waiting (operator.Binary o)))
    (at w (onto (onto ns x) y) (waiting (operator.Binary o))) u
    (subst (λ s. ReadsAt l s ps w (onto ns x) (onto (onto ns x) y)) (omega arith)
    (placed l y (suc k) (omega (arith, (is_between o).1)) own w (onto ns x)) Tail (waiting (operator.Binary o)))
    (rest Tail (onto (onto ns x) y) (waiting (operator.Binary o)) refl)))))

-- two operands
pub own_between : (l : Language) (o : BinaryOp) (x y : Tree) → Front l x → Own l y → Own l (Between o x y)
own_between l o x y front own w ns a before =
    let k = level_between o in
    let rs = Inner (29 + k) ∷ Inner (many l k) ∷ [] in
    reads_last l a Level (49 + k) (28 + k) rs (printed l (Between o x y)) (at w ns before) (at w (onto ns (Between o x y)) None) (rules_of l o).rule
    (reads_as l Level rs (printed l (Between o x y) ++ []) (printed l (Between o x y)) (at w ns None) (at w (onto ns (Between o x y)) None)
    (append-nil (printed l (Between o x y)))
    (same l o x y front own [] w (at w (onto ns (Between o x y)) None) ns
    (λ b ms c e. reads_to l b (Inner (many l k) ∷ []) [] (at w ms c) (at w (joined ms c) None) (at w (onto ns (Between o x y)) None)
    (ap (λ js. at w js None) e) (none_reads l k (rules_of l o) b w ms c))))

-- two operands as the first of a repetition
pub front_between : (l : Language) (o : BinaryOp) (x y : Tree) → Front l x → Own l y → Front l (Between o x y)
front_between l o x y front own k low high qs w u ns rest = elim (eqb_tells (level_between o) k) [
  | inl e ↦ subst (λ j. Rest l j qs w u (onto ns (Between o x y))
      → Reads l Level (Inner (29 + j) ∷ Inner (many l j) ∷ []) (within (ltb (level_between o) j) (printed l (Between o x y)) ++ qs) (at w ns None) u) e.1
      (λ now. subst (λ b. Reads l Level (Inner (29 + level_between o) ∷ Inner (many l (level_between o)) ∷ []) (within b (printed l (Between o x y)) ++ qs)
      (at w ns None) u)
      (sym (le-ltb (level_between o) (level_between o) (omega arith))) (same l o x y front own qs w u ns now)) rest
  | inr other ↦ front_other l (Between o x y) (own_between l o x y front own) k high other.1 qs w u ns rest
]

before_rule : (l : Language) → IsRule l 58 37 (Inner (sign_before l) ∷ Inner 37 ∷ []) Level
unfolding grammar_of kerml_table kerml_rules kerml.sign kerml.word sysml_table sysml_rules sysml.sign sysml.word signs words tables kerml_actions
    sysml_actions
before_rule Kerml = (refl, refl)
before_rule Sysml = (refl, refl)

applied_sign : (ns : List DraftNode) (o : UnaryOp) → applied ns (waiting (sign_of o)) ≡ ns ++ node (what.Unary o) 0 ∷ []
applied_sign ns unary.Minus = refl
applied_sign ns unary.Plus = refl
applied_sign ns unary.Not = refl

-- an operator before its operand
pub own_before : (l : Language) (o : UnaryOp) (x : Tree) → Own l x → Own l (Before o x)
own_before l o x own w ns a before =
    let p = token_before l o in
    let ps = within (ltb (level x) 9) (printed l x) in
    let sign = rule_before l o in
    let wait = waiting (sign_of o) in
    reads_to l a (Inner 37 ∷ []) (p ∷ ps) (at w ns before) (at w (applied (onto ns x) wait) before) (at w (onto ns (Before o x)) before)
    (ap (λ js. at w js before) (applied_sign (onto ns x) o))
    (reads_last l a Level 58 37 (Inner (sign_before l) ∷ Inner 37 ∷ []) (p ∷ ps) (at w ns before) (at w (onto ns x) wait) (before_rule l)
    (reads_node l Level Group sign.n (sign_before l) (Terminal sign.t ∷ []) (Inner 37 ∷ []) (p ∷ []) ps (at w ns None) (at w ns wait)
    (at w (onto ns x) wait) sign.rule
    (reads_said l Group p sign.t (meaning.Operator (sign_of o)) [] [] (at w ns None) (at w ns wait) sign.kind sign.means
    (reads_nothing l Group (at w ns wait)))
    (placed l x 9 (omega arith) own w ns Level wait)))

-- the production of `if`
pub if_rule : (l : Language) → IsRule l 48 28 (Terminal (terminal (word l (codes "if")).kind) ∷ Inner 28 ∷ Terminal 42 ∷ Inner 28
    ∷ Terminal (terminal (word l (codes "else")).kind) ∷ Inner 28 ∷ []) Level
unfolding grammar_of kerml_table kerml_rules kerml.sign kerml.word sysml_table sysml_rules sysml.sign sysml.word signs words tables kerml_actions
    sysml_actions sign_meanings kerml_meanings sysml_meanings
if_rule Kerml = (refl, refl)
if_rule Sysml = (refl, refl)

if_means : (l : Language) → meaning_of (tables l) (word l (codes "if")).kind ≡ meaning.Operator operator.If
unfolding signs words tables sign_meanings kerml_meanings sysml_meanings
if_means Kerml = refl
if_means Sysml = refl

then_token : (l : Language) → IsToken l (sign (codes "?")) 42 meaning.Nothing
unfolding signs words tables sign_meanings kerml_meanings sysml_meanings
then_token Kerml = (refl, refl)
then_token Sysml = (refl, refl)

else_means : (l : Language) → meaning_of (tables l) (word l (codes "else")).kind ≡ meaning.Nothing
unfolding signs words tables sign_meanings kerml_meanings sysml_meanings
else_means Kerml = refl
else_means Sysml = refl

-- no part of it is in brackets
pub open_part : (l : Language) (e : Tree) → Own l e → (w : Walk) (ns : List DraftNode) → ReadsAt l 28 (printed l e) w ns (onto ns e)
open_part l e own w ns = looser l (level e) 0 (omega arith) (level_small e) (printed l e) w ns (onto ns e) (own w ns)

-- what stands below it
pub choice_inside : (l : Language) (x y z : Tree) → Own l x → Own l y → Own l z → (w : Walk) (ns : List DraftNode)
    → Reads l Level (Terminal (terminal (word l (codes "if")).kind) ∷ Inner 28 ∷ Terminal 42 ∷ Inner 28 ∷ Terminal (terminal (word l (codes "else")).kind)
    ∷ Inner 28 ∷ []) (printed l (Choice x y z))
    (at w ns None) (at w (onto (onto (onto ns x) y) z) (waiting operator.If))
choice_inside l x y z ox oy oz w ns =
    let i = word l (codes "if") in
    let t = sign (codes "?") in
    let e = word l (codes "else") in
    let wait = waiting operator.If in
    let ms = onto ns x in
    let js = onto ms y in
    reads_said l Level i (terminal i.kind) (meaning.Operator operator.If) (Inner 28 ∷ Terminal 42 ∷ Inner 28 ∷ Terminal (terminal e.kind) ∷ Inner 28 ∷ [])
    (printed l x ++ (t ∷ (printed l y ++ (e ∷ printed l z)))) (at w ns None) (at w (onto js z) wait) refl (if_means l)
    (reads_then l Level (Inner 28 ∷ []) (Terminal 42 ∷ Inner 28 ∷ Terminal (terminal e.kind) ∷ Inner 28 ∷ []) (printed l x)
    (t ∷ (printed l y ++ (e ∷ printed l z))) (at w ns wait) (at w ms wait) (at w (onto js z) wait)
    (open_part l x ox w ns Level wait)
    (reads_said l Level t 42 meaning.Nothing (Inner 28 ∷ Terminal (terminal e.kind) ∷ Inner 28 ∷ []) (printed l y ++ (e ∷ printed l z)) (at w ms wait)
    (at w (onto js z) wait) (then_token l).0 (then_token l).1
    (reads_then l Level (Inner 28 ∷ []) (Terminal (terminal e.kind) ∷ Inner 28 ∷ []) (printed l y) (e ∷ printed l z) (at w ms wait) (at w js wait)
    (at w (onto js z) wait)
    (open_part l y oy w ms Level wait)
    (reads_said l Level e (terminal e.kind) meaning.Nothing (Inner 28 ∷ []) (printed l z) (at w js wait) (at w (onto js z) wait) refl (else_means l)
    (open_part l z oz w js Level wait)))))

-- `if`
pub own_choice : (l : Language) (x y z : Tree) → Own l x → Own l y → Own l z → Own l (Choice x y z)
own_choice l x y z ox oy oz w ns a before =
    reads_last l a Level 48 28 (Terminal (terminal (word l (codes "if")).kind) ∷ Inner 28 ∷ Terminal 42 ∷ Inner 28
    ∷ Terminal (terminal (word l (codes "else")).kind) ∷ Inner 28 ∷ []) (printed l (Choice x y z)) (at w ns before)
    (at w (onto (onto (onto ns x) y) z) (waiting operator.If)) (if_rule l) (choice_inside l x y z ox oy oz w ns)
