-- Numbers, texts, words and names as expressions, and the theorem: every printed expression is read back at its own level.
use Rattle.std.proofs.Common.{◌≡◌, ℕ, ◌+◌, ◌-◌, ◌*◌, ◌/◌, ◌%◌, ◌^◌, ◌≤◌, ◌<◌, List, [], ◌∷◌, ◌++◌, refl, ap, sym, subst, ◌∙◌, arith, append-nil}
use Rattle.std.specs.Prelude.{Option, Some, Bool, true, false, pos, cond, codes}
use Rattle.std.specs.Fmt.{decimal}
use Rattle.std.proofs.lemmas.Fmt.{decimal_by_steps}
use Rattle.std.proofs.lemmas.Bool.{lt-leb}
use Rattle.element_store.specs.declared.outcome.Language.{Language}
use Rattle.element_store.specs.declared.outcome.Language.TheVariants.{Kerml, Sysml}
use Rattle.token_core.specs.Reading.{bytes_of, string_meaning, number_from}
use Rattle.token_core.specs.Spelling.{string_spelling}
use Rattle.token_core.specs.Words.{words, signs}
use Rattle.token_core.specs.Terminals.{terminal}
use Rattle.token_core.proofs.Spellings.{string_back}
use Rattle.token_core.specs.declared.token.TokenKind.TheVariants.{Integer as Digits}
use Rattle.ll_core.specs.declared.grammar.Symbol.TheVariants.{Terminal, Inner}
use Rattle.kerml_grammar.specs.Grammar.{kerml_table}
use Rattle.sysml_grammar.specs.Grammar.{sysml_table}
use Rattle.text_model.specs.declared.action.Action.{Action}
use Rattle.text_model.specs.declared.action.Action.TheVariants.{Group}
use Rattle.text_model.specs.declared.action.Leaf.TheVariants as leaf
use Rattle.text_model.specs.declared.action.Meaning.{Meaning}
use Rattle.text_model.specs.declared.action.Meaning.TheVariants as meaning
use Rattle.text_model.specs.declared.draft.What.TheVariants as what
use Rattle.text_model.specs.declared.draft.DraftNode.{DraftNode}
use Rattle.text_model.specs.declared.draft.Waiting.{Waiting}
use Rattle.text_model.specs.Tables.{tables, meaning_of}
use Rattle.text_model.specs.Drafts.{node}
use Rattle.text_model.specs.Walk.{Walk, pushed, meant_integer}
use Rattle.print_model.specs.Printed.{Printed, word, text}
use Rattle.print_model.specs.Trees.{Tree, Integer, Boolean, Text, Null, Named, Before, Between, Choice, level, boolean, printed, IsPrintable}
use Rattle.print_model.proofs.BareWalk.{token_of}
use Rattle.print_model.proofs.Readings.{Reads, IsRule, reads_nothing, reads_said, reads_last}
use Rattle.print_model.proofs.States.{at, onto, ReadsAt}
use Rattle.print_model.proofs.Names.{whole, chain_read}
use Rattle.print_model.proofs.Expressions.{Own, Front, front_other, own_before, own_between, front_between, own_choice, open_part}
use Rattle.text_model.specs.Languages.{grammar_of}
use Rattle.kerml_grammar.specs.Rules.{kerml_rules}
use Rattle.kerml_grammar.specs.Terms as kerml
use Rattle.sysml_grammar.specs.Rules.{sysml_rules}
use Rattle.sysml_grammar.specs.Terms as sysml
use Rattle.text_model.specs.KermlActions.{kerml_actions}
use Rattle.text_model.specs.SysmlActions.{sysml_actions}
use Rattle.text_model.specs.SignMeanings.{sign_meanings}
use Rattle.text_model.specs.KermlMeanings.{kerml_meanings}
use Rattle.text_model.specs.SysmlMeanings.{sysml_meanings}

number_behind : (n : ℕ) (bs : List ℕ) (b : ℕ) → number_from n (bs ++ b ∷ []) ≡ number_from n bs * 10 + (b - 48)
number_behind n [] b = refl
number_behind n (c ∷ bs) b = number_behind (n * 10 + (c - 48)) bs b

-- a number is read back from its digits
pub decimal_back : (n : ℕ) → n < 2 ^ 64 → number_from 0 (decimal n) ≡ n
decimal_back n small = decimal_by_steps (λ n bs. number_from 0 bs ≡ n) one more n small
  where
    one : (n : ℕ) → n < 10 → 0 * 10 + (48 + n - 48) ≡ n
    one n le = omega arith

    more : (n : ℕ) (ds : List ℕ) → 10 ≤ n → number_from 0 ds ≡ n / 10 → number_from 0 (ds ++ ((48 + n % 10) ∷ [])) ≡ n
    more n ds le e = number_behind 0 ds (48 + n % 10) ∙ (ap (λ m. m * 10 + (48 + n % 10 - 48)) e ∙ omega arith)

number_said : (n : ℕ) (w : Walk) (ns : List DraftNode) (o : Option Waiting) → n < 2 ^ 63
    → meant_integer (number_from 0 (bytes_of (decimal n) (token_of (record { kind = Digits; bytes = decimal n; tight = false })))) 0 (at w ns o)
    ≡ at w (ns ++ node (what.Integer (pos n)) 0 ∷ []) o
number_said n w ns o small =
    ap (λ bs. meant_integer (number_from 0 bs) 0 (at w ns o)) (whole (decimal n))
    ∙ (ap (λ m. meant_integer m 0 (at w ns o)) (decimal_back n (omega (arith, small)))
    ∙ (ap (λ b. pushed (what.Integer (pos (cond b 0 n))) 0 (record (at w ns o) { large = w.large ++ cond b (0 ∷ []) [] })) (lt-leb (2 ^ 63) n small)
    ∙ ap (λ xs. at (record w { large = xs }) (ns ++ node (what.Integer (pos n)) 0 ∷ []) o) (append-nil w.large)))

-- a leaf that is one token
leaf_read : (l : Language) (r t : ℕ) (p : Printed) (m : Meaning) (ms : List DraftNode) (a : Action) (w : Walk) (ns : List DraftNode) (o : Option Waiting)
    → IsRule l r 38 (Terminal t ∷ []) Group → Reads l Group (Terminal t ∷ []) (p ∷ []) (at w ns o) (at w ms o)
    → Reads l a (Inner 38 ∷ []) (p ∷ []) (at w ns o) (at w ms o)
leaf_read l r t p m ms a w ns o rule read = reads_last l a Group r 38 (Terminal t ∷ []) (p ∷ []) (at w ns o) (at w ms o) rule read

number_rule : (l : Language) → IsRule l 60 38 (Terminal 1 ∷ []) Group
unfolding grammar_of kerml_table kerml_rules kerml.sign kerml.word sysml_table sysml_rules sysml.sign sysml.word signs words tables kerml_actions
    sysml_actions
number_rule Kerml = (refl, refl)
number_rule Sysml = (refl, refl)

text_rule : (l : Language) → IsRule l 61 38 (Terminal 2 ∷ []) Group
unfolding grammar_of kerml_table kerml_rules kerml.sign kerml.word sysml_table sysml_rules sysml.sign sysml.word signs words tables kerml_actions
    sysml_actions
text_rule Kerml = (refl, refl)
text_rule Sysml = (refl, refl)

abbrev boolean_production : Bool → ℕ
boolean_production true = 62
boolean_production false = 63

boolean_rule : (l : Language) (b : Bool) → IsRule l (boolean_production b) 38 (Terminal (terminal (boolean l b).kind) ∷ []) Group
unfolding grammar_of kerml_table kerml_rules kerml.sign kerml.word sysml_table sysml_rules sysml.sign sysml.word signs words tables kerml_actions
    sysml_actions sign_meanings kerml_meanings sysml_meanings
boolean_rule Kerml true = (refl, refl)
boolean_rule Kerml false = (refl, refl)
boolean_rule Sysml true = (refl, refl)
boolean_rule Sysml false = (refl, refl)

boolean_means : (l : Language) (b : Bool) → meaning_of (tables l) (boolean l b).kind ≡ meaning.Leaf (leaf.Boolean b)
unfolding signs words tables sign_meanings kerml_meanings sysml_meanings
boolean_means Kerml true = refl
boolean_means Kerml false = refl
boolean_means Sysml true = refl
boolean_means Sysml false = refl

null_rule : (l : Language) → IsRule l 64 38 (Terminal (terminal (word l (codes "null")).kind) ∷ []) Group
unfolding grammar_of kerml_table kerml_rules kerml.sign kerml.word sysml_table sysml_rules sysml.sign sysml.word signs words tables kerml_actions
    sysml_actions sign_meanings kerml_meanings sysml_meanings
null_rule Kerml = (refl, refl)
null_rule Sysml = (refl, refl)

null_means : (l : Language) → meaning_of (tables l) (word l (codes "null")).kind ≡ meaning.Leaf leaf.Null
unfolding signs words tables sign_meanings kerml_meanings sysml_meanings
null_means Kerml = refl
null_means Sysml = refl

named_rule : (l : Language) → IsRule l 65 38 (Inner 13 ∷ []) Group
unfolding grammar_of kerml_table kerml_rules kerml.sign kerml.word sysml_table sysml_rules sysml.sign sysml.word signs words tables kerml_actions
    sysml_actions
named_rule Kerml = (refl, refl)
named_rule Sysml = (refl, refl)

own_number : (l : Language) (n : ℕ) → n < 2 ^ 63 → Own l (Integer n)
own_number l n small w ns a o =
    let p : Printed = record { kind = Digits; bytes = decimal n; tight = false } in
    let ms = ns ++ node (what.Integer (pos n)) 0 ∷ [] in
    reads_last l a Group 60 38 (Terminal 1 ∷ []) (p ∷ []) (at w ns o) (at w ms o) (number_rule l)
    (reads_said l Group p 1 meaning.Integer [] [] (at w ns o) (at w ms o) refl refl
    (subst (λ v. Reads l Group [] [] v (at w ms o)) (sym (number_said n w ns o small)) (reads_nothing l Group (at w ms o))))

own_text : (l : Language) (bytes : List ℕ) → Own l (Text bytes)
own_text l bytes w ns a o =
    let ms = ns ++ node (what.Text bytes) 0 ∷ [] in
    reads_last l a Group 61 38 (Terminal 2 ∷ []) (text bytes ∷ []) (at w ns o) (at w ms o) (text_rule l)
    (reads_said l Group (text bytes) 2 meaning.Text [] [] (at w ns o) (at w ms o) refl refl
    (subst (λ bs. Reads l Group [] [] (at w (ns ++ node (what.Text bs) 0 ∷ []) o) (at w ms o))
    (sym (ap string_meaning (whole (string_spelling bytes)) ∙ string_back bytes)) (reads_nothing l Group (at w ms o))))

own_boolean : (l : Language) (b : Bool) → Own l (Boolean b)
own_boolean l b w ns a o =
    let ms = ns ++ node (what.Boolean b) 0 ∷ [] in
    let p = boolean l b in
    reads_last l a Group (boolean_production b) 38 (Terminal (terminal p.kind) ∷ []) (p ∷ []) (at w ns o) (at w ms o) (boolean_rule l b)
    (reads_said l Group p (terminal p.kind) (meaning.Leaf (leaf.Boolean b)) [] [] (at w ns o) (at w ms o) refl (boolean_means l b)
    (reads_nothing l Group (at w ms o)))

own_null : (l : Language) → Own l Null
own_null l w ns a o =
    let ms = ns ++ node what.Null 0 ∷ [] in
    let p = word l (codes "null") in
    reads_last l a Group 64 38 (Terminal (terminal p.kind) ∷ []) (p ∷ []) (at w ns o) (at w ms o) (null_rule l)
    (reads_said l Group p (terminal p.kind) (meaning.Leaf leaf.Null) [] [] (at w ns o) (at w ms o) refl (null_means l) (reads_nothing l Group (at w ms o)))

own_named : (l : Language) (absolute : Bool) (path chain : List (List ℕ)) (place : ℕ) → (path ≡ [] → ⊥)
    → Own l (Named (record { place = place; absolute = absolute; path = path; chain = chain }))
own_named l absolute [] chain place has w ns a o = elim (has refl) [ ]
own_named l absolute (s ∷ ss) chain place has w ns a o =
    reads_last l a Group 65 38 (Inner 13 ∷ []) _ (at w ns o) _ (named_rule l) (chain_read l absolute s ss chain w ns Group
    (record w.reading { operator = o; start = Some 0 }))

-- an expression of a level that is none of an operator between operands
front_outside : (l : Language) (e : Tree) → Own l e → ((k : ℕ) → 1 ≤ k → k ≤ 8 → level e ≡ k → ⊥) → Front l e
front_outside l e own none k low high qs w u ns rest = front_other l e own k high (none k low high) qs w u ns rest

leaf_outside : (k : ℕ) → 1 ≤ k → k ≤ 8 → 10 ≡ k → ⊥
leaf_outside k low high e = omega (arith, low, high, e)

unary_outside : (k : ℕ) → 1 ≤ k → k ≤ 8 → 9 ≡ k → ⊥
unary_outside k low high e = omega (arith, low, high, e)

if_outside : (k : ℕ) → 1 ≤ k → k ≤ 8 → 0 ≡ k → ⊥
if_outside k low high e = omega (arith, low, high, e)

-- an expression is read at its own level, and as a first operand
pub both : (l : Language) (e : Tree) → IsPrintable e → Own l e × Front l e
both l (Integer n) small = let own = own_number l n small in (own, front_outside l (Integer n) own leaf_outside)
both l (Boolean b) h = let own = own_boolean l b in (own, front_outside l (Boolean b) own leaf_outside)
both l (Text bytes) h = let own = own_text l bytes in (own, front_outside l (Text bytes) own leaf_outside)
both l Null h = let own = own_null l in (own, front_outside l Null own leaf_outside)
both l (Named p) has = let own = own_named l p.absolute p.path p.chain p.place has in (own, front_outside l (Named p) own leaf_outside)
both l (Before o a) h = let own = own_before l o a (both l a h).0 in (own, front_outside l (Before o a) own unary_outside)
both l (Between o a b) h =
    (own_between l o a b (both l a h.0).1 (both l b h.1).0, front_between l o a b (both l a h.0).1 (both l b h.1).0)
both l (Choice a b c) h =
    let own = own_choice l a b c (both l a h.0).0 (both l b h.1).0 (both l c h.2).0 in (own, front_outside l (Choice a b c) own if_outside)

-- the symbol of expressions derives the tokens of each expression, and the walk puts its nodes behind those before
pub expression_read : (l : Language) (e : Tree) → IsPrintable e → (w : Walk) (ns : List DraftNode) → ReadsAt l 28 (printed l e) w ns (onto ns e)
expression_read l e h w ns = open_part l e (both l e h).0 w ns
