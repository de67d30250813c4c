-- A text has one outcome: one lexing, one tree, one place at which it goes wrong.
use Rattle.std.proofs.Common.{◌≡◌, ℕ, List, refl, sym, ap, subst, ◌∙◌}
use Rattle.std.specs.Prelude.{◌≢◌, Some, None, Ok, Err}
use Rattle.linker_base.proofs.Cases.{some_same}
use Rattle.element_store.specs.declared.outcome.Language.{Language}
use Rattle.element_store.specs.declared.outcome.Language.TheVariants.{Kerml, Sysml}
use Rattle.token_core.specs.declared.token.Token.{Token}
use Rattle.token_core.specs.declared.token.LexFault.{LexFault}
use Rattle.token_core.specs.declared.token.LexFault.TheVariants as lexer
use Rattle.token_core.specs.Lex.{Lexes}
use Rattle.token_core.specs.Words.{signs, words}
use Rattle.token_core.proofs.OneLexing.{one_lexing}
use Rattle.ll_core.specs.Derives.{Forest, IsTree, IsSyntaxPlace}
use Rattle.ll_core.specs.Checked.{IsChecked}
use Rattle.ll_core.proofs.CheckedExact.{checked_from_test}
use Rattle.ll_core.proofs.OneTree.{one_tree}
use Rattle.ll_core.proofs.Places.{one_place, derived_goes_on}
use Rattle.kerml_grammar.specs.Terms as kerml
use Rattle.kerml_grammar.specs.Rules.{kerml_rules}
use Rattle.kerml_grammar.specs.Grammar.{kerml_table}
use Rattle.sysml_grammar.specs.Terms as sysml
use Rattle.sysml_grammar.specs.Rules.{sysml_rules}
use Rattle.sysml_grammar.specs.Grammar.{sysml_table}
use Rattle.text_model.specs.declared.fault.FileFault.TheVariants.{Encoding, Token as BadToken, TooDeep, Syntax, Limit, NoMemory}
use Rattle.text_model.specs.Languages.{grammar_of}
use Rattle.text_model.specs.Numbering.{model_of, limits, least}
use Rattle.text_model.specs.Profile.{IsRead, kinds_of, drafts_of, token_place}
use Rattle.text_laws.specs.Outcomes.{OneModel, ModelOrFault, OneFault}

-- both grammars pass the parser's test, by evaluation
pub grammars_checked : (l : Language) → IsChecked (grammar_of l)
unfolding grammar_of kerml_table kerml_rules kerml.sign kerml.word sysml_table sysml_rules sysml.sign sysml.word signs words
grammars_checked Kerml = checked_from_test _ refl
grammars_checked Sysml = checked_from_test _ refl

-- two lexings with tokens have the same
pub same_tokens : (l : Language) (text : List ℕ) (ts us : List Token) → Lexes l text (Ok ts) → Lexes l text (Ok us) → ts ≡ us
same_tokens l text ts us a b = let e = one_lexing l text (Ok ts) (Ok us) a b (λ e. cc) (λ e. cc) in cc

-- two faults of the lexer are one
same_lexer_fault : (l : Language) (text : List ℕ) (x y : LexFault) → Lexes l text (Err x) → Lexes l text (Err y) → x ≢ lexer.NoMemory
    → y ≢ lexer.NoMemory → x ≡ y
same_lexer_fault l text x y a b p q = let e = one_lexing l text (Err x) (Err y) a b (λ e. p (cc)) (λ e. q (cc)) in cc

-- and none has both
no_lexer_fault : (l : Language) (text : List ℕ) (ts : List Token) (y : LexFault) → Lexes l text (Ok ts) → Lexes l text (Err y) → y ≢ lexer.NoMemory → ⊥
no_lexer_fault l text ts y a b q = let e = one_lexing l text (Ok ts) (Err y) a b (λ e. cc) (λ e. q (cc)) in cc

-- a text is read in one way: the same tokens and the same tree
pub same_reading : (l : Language) (text : List ℕ) (ts us : List Token) (f g : Forest) → IsRead l text ts f → IsRead l text us g → (ts ≡ us) × (f ≡ g)
same_reading l text ts us f g a b =
    let same = same_tokens l text ts us a.lexed b.lexed in
    let t : IsTree (grammar_of l) (kinds_of ts) g = subst (λ vs. IsTree (grammar_of l) (kinds_of vs) g) (sym same) b.derived in
    (same, one_tree (grammar_of l) (grammars_checked l) (kinds_of ts) f g a.derived t)

-- and so has one walk
pub same_drafts : (l : Language) (text : List ℕ) (ts us : List Token) (f g : Forest) → IsRead l text ts f → IsRead l text us g
    → drafts_of l text ts f ≡ drafts_of l text us g
same_drafts l text ts us f g a b =
    let s = same_reading l text ts us f g a b in
    ap (λ vs. drafts_of l text vs f) s.0 ∙ ap (drafts_of l text us) s.1

no_syntax_place : (l : Language) (text : List ℕ) (ts us : List Token) (f : Forest) (n : ℕ) → IsRead l text ts f → Lexes l text (Ok us)
    → IsSyntaxPlace (grammar_of l) (kinds_of us) n → ⊥
no_syntax_place l text ts us f n a b s =
    let same = same_tokens l text ts us a.lexed b in
    derived_goes_on (grammar_of l) (kinds_of us) n f (subst (λ vs. IsTree (grammar_of l) (kinds_of vs) f) same a.derived) s

pub one_model : OneModel
one_model file l text a b p q =
    p.model ∙ (ap (model_of file l) (same_drafts l text p.tokens q.tokens p.tree q.tree p.read q.read) ∙ sym q.model)

pub model_or_fault : ModelOrFault
model_or_fault file l text d (Encoding n) p f = absurd (no_lexer_fault l text p.tokens (lexer.Encoding n) p.read.lexed f (λ e. cc))
model_or_fault file l text d (BadToken n) p f = absurd (no_lexer_fault l text p.tokens (lexer.Token n) p.read.lexed f (λ e. cc))
model_or_fault file l text d (TooDeep n) p f = absurd (no_lexer_fault l text p.tokens (lexer.TooDeep n) p.read.lexed f (λ e. cc))
model_or_fault file l text d (Syntax n) p f = absurd (no_syntax_place l text p.tokens f.0 p.tree f.1 p.read f.2 f.3)
model_or_fault file l text d (Limit n) p f =
    let none : least (limits (drafts_of l text f.0 f.1)) ≡ None =
    ap (λ w. least (limits w)) (same_drafts l text f.0 p.tokens f.1 p.tree f.2 p.read) ∙ ap least p.within in
    let some : least (limits (drafts_of l text f.0 f.1)) ≡ Some n = f.3 in
    absurd (cc)
model_or_fault file l text d NoMemory p f = refl

pub one_fault : OneFault
one_fault l text (Encoding m) (Encoding n) a b p q = let e = same_lexer_fault l text (lexer.Encoding m) (lexer.Encoding n) a b (λ e. cc) (λ e. cc) in cc
one_fault l text (Encoding m) (BadToken n) a b p q = let e = same_lexer_fault l text (lexer.Encoding m) (lexer.Token n) a b (λ e. cc) (λ e. cc) in cc
one_fault l text (Encoding m) (TooDeep n) a b p q = let e = same_lexer_fault l text (lexer.Encoding m) (lexer.TooDeep n) a b (λ e. cc) (λ e. cc) in cc
one_fault l text (Encoding m) (Syntax n) a b p q = absurd (no_lexer_fault l text b.0 (lexer.Encoding m) b.2 a (λ e. cc))
one_fault l text (Encoding m) (Limit n) a b p q = absurd (no_lexer_fault l text b.0 (lexer.Encoding m) b.2.lexed a (λ e. cc))
one_fault l text (BadToken m) (Encoding n) a b p q = let e = same_lexer_fault l text (lexer.Token m) (lexer.Encoding n) a b (λ e. cc) (λ e. cc) in cc
one_fault l text (BadToken m) (BadToken n) a b p q = let e = same_lexer_fault l text (lexer.Token m) (lexer.Token n) a b (λ e. cc) (λ e. cc) in cc
one_fault l text (BadToken m) (TooDeep n) a b p q = let e = same_lexer_fault l text (lexer.Token m) (lexer.TooDeep n) a b (λ e. cc) (λ e. cc) in cc
one_fault l text (BadToken m) (Syntax n) a b p q = absurd (no_lexer_fault l text b.0 (lexer.Token m) b.2 a (λ e. cc))
one_fault l text (BadToken m) (Limit n) a b p q = absurd (no_lexer_fault l text b.0 (lexer.Token m) b.2.lexed a (λ e. cc))
one_fault l text (TooDeep m) (Encoding n) a b p q = let e = same_lexer_fault l text (lexer.TooDeep m) (lexer.Encoding n) a b (λ e. cc) (λ e. cc) in cc
one_fault l text (TooDeep m) (BadToken n) a b p q = let e = same_lexer_fault l text (lexer.TooDeep m) (lexer.Token n) a b (λ e. cc) (λ e. cc) in cc
one_fault l text (TooDeep m) (TooDeep n) a b p q = let e = same_lexer_fault l text (lexer.TooDeep m) (lexer.TooDeep n) a b (λ e. cc) (λ e. cc) in cc
one_fault l text (TooDeep m) (Syntax n) a b p q = absurd (no_lexer_fault l text b.0 (lexer.TooDeep m) b.2 a (λ e. cc))
one_fault l text (TooDeep m) (Limit n) a b p q = absurd (no_lexer_fault l text b.0 (lexer.TooDeep m) b.2.lexed a (λ e. cc))
one_fault l text (Syntax m) (Encoding n) a b p q = absurd (no_lexer_fault l text a.0 (lexer.Encoding n) a.2 b (λ e. cc))
one_fault l text (Syntax m) (BadToken n) a b p q = absurd (no_lexer_fault l text a.0 (lexer.Token n) a.2 b (λ e. cc))
one_fault l text (Syntax m) (TooDeep n) a b p q = absurd (no_lexer_fault l text a.0 (lexer.TooDeep n) a.2 b (λ e. cc))
one_fault l text (Syntax m) (Syntax n) a b p q =
    let same = same_tokens l text a.0 b.0 a.2 b.2 in
    let here : IsSyntaxPlace (grammar_of l) (kinds_of b.0) a.1 = subst (λ ts. IsSyntaxPlace (grammar_of l) (kinds_of ts) a.1) same a.3 in
    let number : a.1 ≡ b.1 = one_place (grammar_of l) (kinds_of b.0) a.1 b.1 here b.3 in
    ap Syntax (a.4 ∙ (ap (λ ts. token_place text ts a.1) same ∙ (ap (token_place text b.0) number ∙ sym b.4)))
one_fault l text (Syntax m) (Limit n) a b p q = absurd (no_syntax_place l text b.0 a.0 b.1 a.1 b.2 a.2 a.3)
one_fault l text (Limit m) (Encoding n) a b p q = absurd (no_lexer_fault l text a.0 (lexer.Encoding n) a.2.lexed b (λ e. cc))
one_fault l text (Limit m) (BadToken n) a b p q = absurd (no_lexer_fault l text a.0 (lexer.Token n) a.2.lexed b (λ e. cc))
one_fault l text (Limit m) (TooDeep n) a b p q = absurd (no_lexer_fault l text a.0 (lexer.TooDeep n) a.2.lexed b (λ e. cc))
one_fault l text (Limit m) (Syntax n) a b p q = absurd (no_syntax_place l text a.0 b.0 a.1 b.1 a.2 b.2 b.3)
one_fault l text (Limit m) (Limit n) a b p q =
    ap Limit (some_same m n (sym a.3 ∙ (ap (λ w. least (limits w)) (same_drafts l text a.0 b.0 a.1 b.1 a.2 b.2) ∙ b.3)))
one_fault l text NoMemory b x y p q = absurd (p refl)
one_fault l text (Encoding m) NoMemory x y p q = absurd (q refl)
one_fault l text (BadToken m) NoMemory x y p q = absurd (q refl)
one_fault l text (TooDeep m) NoMemory x y p q = absurd (q refl)
one_fault l text (Syntax m) NoMemory x y p q = absurd (q refl)
one_fault l text (Limit m) NoMemory x y p q = absurd (q refl)
