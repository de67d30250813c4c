-- A visibility word that waits at an item's beginning is the token directly before: a test of the tables, and what it
-- says of the walk over a tree.
use Rattle.std.proofs.Common.{◌≡◌, ℕ, zero, suc, ◌+◌, Bool, true, false, ◌&&◌, cond, List, [], ◌∷◌, ◌++◌, length, drop, refl, sym, ap, subst, ◌∙◌, arith, length-append, append_assoc}
use Rattle.std.specs.Prelude.{slice_get, Option, Some, None}
use Rattle.std.proofs.lemmas.List.{drop-drop}
use Rattle.linker_base.proofs.Cases.{both_true}
use Rattle.element_store.specs.declared.outcome.Language.{Language}
use Rattle.element_store.specs.declared.outcome.Language.TheVariants.{Kerml, Sysml}
use Rattle.token_core.specs.declared.token.Token.{Token}
use Rattle.token_core.specs.Words.{signs, words}
use Rattle.token_core.specs.Terminals.{terminal, HasNumber}
use Rattle.token_core.specs.Reading.{bytes_of, name_meaning}
use Rattle.ll_core.specs.declared.grammar.Symbol.{Symbol}
use Rattle.ll_core.specs.declared.grammar.Symbol.TheVariants.{Terminal, Inner}
use Rattle.ll_core.specs.Table.{Rule, Table}
use Rattle.ll_core.specs.Derives.{Forest, Nothing, Token as Leaf, Node as Branch, IsDerivation, tokens}
use Rattle.kerml_grammar.specs.Terms as kerml
use Rattle.kerml_grammar.specs.Rules as kerml_symbols
use Rattle.kerml_grammar.specs.Rules.{kerml_rules}
use Rattle.kerml_grammar.specs.Grammar.{kerml_table}
use Rattle.sysml_grammar.specs.Terms as sysml
use Rattle.sysml_grammar.specs.Rules as sysml_symbols
use Rattle.sysml_grammar.specs.Rules.{sysml_rules}
use Rattle.sysml_grammar.specs.Grammar.{sysml_table}
use Rattle.text_model.specs.KermlActions.{kerml_actions}
use Rattle.text_model.specs.SysmlActions.{sysml_actions}
use Rattle.text_model.specs.SignMeanings.{sign_meanings}
use Rattle.text_model.specs.KermlMeanings.{kerml_meanings}
use Rattle.text_model.specs.SysmlMeanings.{sysml_meanings}
use Rattle.text_model.specs.Languages.{grammar_of}
use Rattle.text_model.specs.Modes.{ModeClaim, mode_claim_at}
use Rattle.text_model.specs.KermlModes.{kerml_modes}
use Rattle.text_model.specs.SysmlModes.{sysml_modes}
use Rattle.text_model.specs.ClaimLists.{modes_of}
use Rattle.text_model.specs.declared.action.Action.{Action}
use Rattle.text_model.specs.declared.action.Action.TheVariants as action
use Rattle.text_model.specs.declared.action.Taking.{Taking}
use Rattle.text_model.specs.declared.action.Taking.TheVariants as taking
use Rattle.text_model.specs.declared.action.Operator.{Operator}
use Rattle.text_model.specs.declared.action.Meaning.{Meaning}
use Rattle.text_model.specs.declared.action.Meaning.TheVariants as meaning
use Rattle.text_model.specs.declared.draft.Reading.{Reading}
use Rattle.text_model.specs.declared.draft.Seen.{Seen}
use Rattle.text_model.specs.Tables.{Tables, tables as tables_of, action_at, meaning_of}
use Rattle.text_model.specs.Wholes.{meaning_at}
use Rattle.text_model.specs.Profile.{kinds_of}
use Rattle.text_model.specs.Walk.{Walk, Frame, saved, entered, given, left, meant_name, meant_operator, meant, taken_from, taken, walk}
use Rattle.text_laws.specs.Fits.{Every}
use Rattle.text_laws.specs.WrittenStarts.{last_in, seen_by, seen_before}
use Rattle.text_laws.proofs.FittingLaws.{rest_entered, rest_left}
use Rattle.text_laws.proofs.WholeLaws.{IsAt, meaning_same, at_taken, at_same, walk_at}
use Rattle.text_laws.proofs.ItemNames.{is_among}
use Rattle.text_laws.proofs.WrittenWalk.{taken_rest}

-- Clear: no word waits, and none stands directly before. Used: none waits. Fresh: the one that waits, if any, stands
-- directly before.
pub data Pending : Type 0 where
  Clear : Pending
  Used : Pending
  Fresh : Pending

abbrev pub PendingAt : Tables → Option Token → Pending → Option Seen → Type 0
PendingAt t before Clear o = (o ≡ None) × (seen_before t before ≡ None)
PendingAt t before Used o = o ≡ None
PendingAt t before Fresh o = o ≡ seen_before t before

-- symbols that leave a word waiting, and symbols that take it
pub record PendingClaims : Type 0 where
  pub modes : List ModeClaim
  pub outs : List ℕ
  pub ins : List ℕ

-- for what holds a visibility word, and for what may stand directly behind one
abbrev pub pending_claims : Language → PendingClaims
pending_claims Kerml = record {
  modes = modes_of Kerml;
  outs = kerml_symbols.Vis ∷ kerml_symbols.MaybeVis ∷ [];
  ins = kerml_symbols.Content ∷ kerml_symbols.OneImportAliasNote ∷ kerml_symbols.Import ∷ kerml_symbols.Alias ∷ kerml_symbols.Note
      ∷ kerml_symbols.Pack ∷ kerml_symbols.Thing ∷ [];
}
pending_claims Sysml = record {
  modes = modes_of Sysml;
  outs = sysml_symbols.Vis ∷ sysml_symbols.MaybeVis ∷ [];
  ins = sysml_symbols.Content ∷ sysml_symbols.OneImportAliasNote ∷ sysml_symbols.OneNoteEnumUseTail ∷ sysml_symbols.OneContentSubjectUseTail
      ∷ sysml_symbols.Import ∷ sysml_symbols.Alias ∷ sysml_symbols.Note ∷ sysml_symbols.Pack ∷ sysml_symbols.Thing ∷ [];
}

abbrev pub pend_token : Meaning → Pending → Option Pending
pend_token (meaning.Visibility v) s = Some Fresh
pend_token other Fresh = None
pend_token other s = Some Clear

abbrev pub pend_by : Bool → Bool → ModeClaim → Pending → Option Pending
pend_by true takes m Clear = Some Fresh
pend_by true takes m other = None
pend_by false takes m Clear = Some Clear
pend_by false true m Fresh = Some Clear
pend_by false false m Fresh = None
pend_by false takes m Used = cond m.begins None (Some (cond m.takes Clear Used))

abbrev pub pend_symbol : PendingClaims → ℕ → Pending → Option Pending
pend_symbol c b s = pend_by (is_among c.outs b) (is_among c.ins b) (mode_claim_at c.modes b) s

abbrev pub pend_run : Tables → PendingClaims → List Symbol → Option Pending → Option Pending
pend_run t c ss None = None
pend_run t c [] (Some s) = Some s
pend_run t c (Terminal k ∷ ss) (Some s) = pend_run t c ss (pend_token (meaning_at t k) s)
pend_run t c (Inner b ∷ ss) (Some s) = pend_run t c ss (pend_symbol c b s)

-- an item doesn't begin where one began
abbrev pub item_state : Pending → Option Pending → Option Pending
item_state Used o = None
item_state s o = o

abbrev pub production_state : Tables → PendingClaims → Action → List Symbol → Pending → Option Pending
production_state t c (action.Element k) ss s = item_state s (pend_run t c ss (Some Used))
production_state t c (action.Take taking.Alias) ss s = item_state s (pend_run t c ss (Some Used))
production_state t c (action.Take taking.Import) ss s = item_state s (pend_run t c ss (Some Used))
production_state t c (action.Take d) ss s = pend_run t c ss (Some Used)
production_state t c other ss s = pend_run t c ss (Some s)

-- what holds in the one state holds in the other
abbrev pub entails : Pending → Pending → Bool
entails Clear s = true
entails Used Used = true
entails Fresh Fresh = true
entails r s = false

abbrev pub entails_if : Option Pending → Option Pending → Bool
entails_if None r = true
entails_if (Some q) None = false
entails_if (Some q) (Some r) = entails r q

abbrev pub meets_pending : Tables → PendingClaims → ℕ → Action → List Symbol → Bool
meets_pending t c b a ss =
    entails_if (pend_symbol c b Clear) (production_state t c a ss Clear)
    && (entails_if (pend_symbol c b Used) (production_state t c a ss Used)
    && entails_if (pend_symbol c b Fresh) (production_state t c a ss Fresh))

abbrev pub all_pending : Tables → PendingClaims → ℕ → List Rule → Bool
all_pending t c p [] = true
all_pending t c p (r ∷ rs) = meets_pending t c r.left (action_at t p) r.right && all_pending t c (suc p) rs

-- the test holds of both grammars, by evaluation
pub pending_holds : (l : Language) → all_pending (tables_of l) (pending_claims l) 0 (grammar_of l).rules ≡ true
unfolding grammar_of kerml_table kerml_rules kerml.sign kerml.word sysml_table sysml_rules sysml.sign sysml.word signs words tables_of
    kerml_actions sysml_actions sign_meanings kerml_meanings sysml_meanings modes_of kerml_modes sysml_modes
pending_holds Kerml = refl
pending_holds Sysml = refl

-- and the start symbol may begin a text
pub starts_clear : (l : Language) → pend_run (tables_of l) (pending_claims l) (Inner (grammar_of l).start ∷ []) (Some Clear) ≡ Some Clear
unfolding grammar_of kerml_table kerml_rules kerml.sign kerml.word sysml_table sysml_rules sysml.sign sysml.word signs words
    modes_of kerml_modes sysml_modes
starts_clear Kerml = refl
starts_clear Sysml = refl

-- what the test says of one production
rule_pending : (t : Tables) (c : PendingClaims) (n p : ℕ) (rs : List Rule) (r : Rule) → all_pending t c n rs ≡ true → slice_get rs p ≡ Some r
    → meets_pending t c r.left (action_at t (n + p)) r.right ≡ true
rule_pending t c n p [] r ok at = absurd (cc)
rule_pending t c n zero (x ∷ rs) r ok at =
    let same : x ≡ r = cc in
    let b = both_true (meets_pending t c x.left (action_at t n) x.right) (all_pending t c (suc n) rs) ok in
    let z : n ≡ n + 0 = omega arith in
    subst (λ k. meets_pending t c r.left (action_at t k) r.right ≡ true) z
    (subst (λ (y : Rule). meets_pending t c y.left (action_at t n) y.right ≡ true) same b.0)
rule_pending t c n (suc p) (x ∷ rs) r ok at =
    let b = both_true (meets_pending t c x.left (action_at t n) x.right) (all_pending t c (suc n) rs) ok in
    let z : suc n + p ≡ n + suc p = omega arith in
    subst (λ k. meets_pending t c r.left (action_at t k) r.right ≡ true) z (rule_pending t c (suc n) p rs r b.1 at)

state_meets : (t : Tables) (c : PendingClaims) (b : ℕ) (a : Action) (ss : List Symbol) (s : Pending) → meets_pending t c b a ss ≡ true
    → entails_if (pend_symbol c b s) (production_state t c a ss s) ≡ true
state_meets t c b a ss s ok =
    let x = both_true (entails_if (pend_symbol c b Clear) (production_state t c a ss Clear)) _ ok in
    let y = both_true (entails_if (pend_symbol c b Used) (production_state t c a ss Used)) _ x.1 in
    by_state s x.0 y.0 y.1 where
      by_state : (s : Pending) → entails_if (pend_symbol c b Clear) (production_state t c a ss Clear) ≡ true
          → entails_if (pend_symbol c b Used) (production_state t c a ss Used) ≡ true
          → entails_if (pend_symbol c b Fresh) (production_state t c a ss Fresh) ≡ true
          → entails_if (pend_symbol c b s) (production_state t c a ss s) ≡ true
      by_state Clear x y z = x
      by_state Used x y z = y
      by_state Fresh x y z = z

weaker : (t : Tables) (before : Option Token) (r q : Pending) (o : Option Seen) → entails r q ≡ true → PendingAt t before r o → PendingAt t before q o
weaker t before Clear Clear o e h = h
weaker t before Clear Used o e h = h.0
weaker t before Clear Fresh o e h = h.0 ∙ sym h.1
weaker t before Used Used o e h = h
weaker t before Fresh Fresh o e h = h
weaker t before Used Clear o e h = absurd (cc)
weaker t before Used Fresh o e h = absurd (cc)
weaker t before Fresh Clear o e h = absurd (cc)
weaker t before Fresh Used o e h = absurd (cc)

-- a run that gives a state began in one
run_some : (t : Tables) (c : PendingClaims) (ss : List Symbol) (o : Option Pending) (s : Pending) → pend_run t c ss o ≡ Some s → (x : Pending) × (o ≡ Some x)
run_some t c ss None s e = absurd (cc)
run_some t c ss (Some x) s e = (x, refl)

-- A token.

waiting_name : (a : Action) (x : Token) (bytes : List ℕ) (w : Walk) → (meant_name a x bytes w).waiting ≡ w.waiting
waiting_name action.Name x bytes w = refl
waiting_name action.Short x bytes w = refl
waiting_name action.Segment x bytes w = refl
waiting_name action.Step x bytes w = refl
waiting_name other x bytes w = refl

waiting_operator : (a : Action) (o : Operator) (place : ℕ) (w : Walk) → (meant_operator a o place w).waiting ≡ w.waiting
waiting_operator action.Star o place w = refl
waiting_operator other o place w = refl

token_at : (t : Tables) (text : List ℕ) (a : Action) (m : Meaning) (x : Token) (w : Walk) (before : Option Token) (s r : Pending) → m ≡ meaning_of t x.kind
    → pend_token m s ≡ Some r → PendingAt t before s w.waiting → PendingAt t (Some x) r (meant text a m x w).waiting
token_at t text a (meaning.Visibility v) x w before s r is e h =
    let same : Fresh ≡ r = cc in
    subst (λ q. PendingAt t (Some x) q (meant text a (meaning.Visibility v) x w).waiting) same (ap (λ y. seen_by y x) is)
token_at t text a other x w before Fresh r is e h = absurd (cc)
token_at t text a meaning.Name x w before Clear r is e h =
    let same : Clear ≡ r = cc in
    subst (λ q. PendingAt t (Some x) q (meant text a meaning.Name x w).waiting) same
    (waiting_name a x (name_meaning (bytes_of text x)) w ∙ h.0, ap (λ y. seen_by y x) (sym is))
token_at t text a meaning.Name x w before Used r is e h =
    let same : Clear ≡ r = cc in
    subst (λ q. PendingAt t (Some x) q (meant text a meaning.Name x w).waiting) same
    (waiting_name a x (name_meaning (bytes_of text x)) w ∙ h, ap (λ y. seen_by y x) (sym is))
token_at t text a (meaning.Operator o) x w before Clear r is e h =
    let same : Clear ≡ r = cc in
    subst (λ q. PendingAt t (Some x) q (meant text a (meaning.Operator o) x w).waiting) same
    (waiting_operator a o x.from w ∙ h.0, ap (λ y. seen_by y x) (sym is))
token_at t text a (meaning.Operator o) x w before Used r is e h =
    let same : Clear ≡ r = cc in
    subst (λ q. PendingAt t (Some x) q (meant text a (meaning.Operator o) x w).waiting) same
    (waiting_operator a o x.from w ∙ h, ap (λ y. seen_by y x) (sym is))
token_at t text a other x w before Clear r is e h =
    let same : Clear ≡ r = cc in
    subst (λ q. PendingAt t (Some x) q (meant text a other x w).waiting) same (h.0, ap (λ y. seen_by y x) (sym is))
token_at t text a other x w before Used r is e h =
    let same : Clear ≡ r = cc in
    subst (λ q. PendingAt t (Some x) q (meant text a other x w).waiting) same (h, ap (λ y. seen_by y x) (sym is))

taken_pending : (t : Tables) (text : List ℕ) (a : Action) (k : ℕ) (ks : List ℕ) (w : Walk) (ts : List Token) (before : Option Token) (s r : Pending)
    → w.rest ≡ ts → IsAt (k ∷ ks) w → pend_token (meaning_at t k) s ≡ Some r → PendingAt t before s w.waiting
    → PendingAt t (last_in before (k ∷ []) ts) r (taken_from t text a ts w).waiting
taken_pending t text a k ks w [] before s r is at e h =
    let x : kinds_of w.rest ≡ [] = ap kinds_of is in let y : kinds_of w.rest ≡ k ∷ ks = at.kinds in absurd (cc)
taken_pending t text a k ks w (x ∷ ts) before s r is at e h =
    let f : kinds_of (x ∷ ts) ≡ k ∷ ks = ap kinds_of (sym is) ∙ at.kinds in
    let one : terminal x.kind ≡ k = cc in
    let n = subst (Every (λ (y : Token). HasNumber y.kind)) is at.numbers in
    let m : meaning_at t k ≡ meaning_of t x.kind = ap (meaning_at t) (sym one) ∙ meaning_same t x.kind n.0 in
    token_at t text a (meaning_of t x.kind) x (record w { rest = ts }) before s r refl (ap (λ y. pend_token y s) (sym m) ∙ e) h

-- A production, where the walk below is known.

-- an item that begins has the word directly before
abbrev pub ItemPending : Action → Option Seen → Option Seen → Type 0
ItemPending (action.Element k) o b = o ≡ b
ItemPending (action.Take taking.Alias) o b = o ≡ b
ItemPending (action.Take taking.Import) o b = o ≡ b
ItemPending other o b = Unit {0}

waiting_given : (d : Taking) (f : Frame) (r : Reading) (w : Walk) → (given d f r w).waiting ≡ w.waiting
waiting_given taking.Alias f r w = refl
waiting_given taking.Import f r w = refl
waiting_given other f r w = refl

item_begins : (t : Tables) (before : Option Token) (s r : Pending) (x : Option Pending) (o : Option Seen) → item_state s x ≡ Some r
    → PendingAt t before s o → (o ≡ seen_before t before) × (x ≡ Some r)
item_begins t before Clear r x o e h = (h.0 ∙ sym h.1, e)
item_begins t before Fresh r x o e h = (h, e)
item_begins t before Used r x o e h = absurd (cc)

production_pending : (t : Tables) (c : PendingClaims) (a : Action) (ss : List Symbol) (w v : Walk) (before after : Option Token) (s r : Pending) (X : Type 0)
    → production_state t c a ss s ≡ Some r → PendingAt t before s w.waiting
    → ((q q' : Pending) → pend_run t c ss (Some q) ≡ Some q' → PendingAt t before q (entered a w).waiting → PendingAt t after q' v.waiting × X)
    → PendingAt t after r (left a (saved a w) v).waiting × ItemPending a w.waiting (seen_before t before) × X
production_pending t c (action.Element k) ss w v before after s r X e h on =
    let i = item_begins t before s r (pend_run t c ss (Some Used)) w.waiting e h in
    let b = on Used r i.1 refl in
    (b.0, i.0, b.1)
production_pending t c (action.Take taking.Alias) ss w v before after s r X e h on =
    let i = item_begins t before s r (pend_run t c ss (Some Used)) w.waiting e h in
    let b = on Used r i.1 refl in
    (b.0, i.0, b.1)
production_pending t c (action.Take taking.Import) ss w v before after s r X e h on =
    let i = item_begins t before s r (pend_run t c ss (Some Used)) w.waiting e h in
    let b = on Used r i.1 refl in
    (b.0, i.0, b.1)
production_pending t c (action.Take d) ss w v before after s r X e h on =
    let b = on Used r e refl in
    (subst (λ o. PendingAt t after r o) (sym (waiting_given d (saved (action.Take d) w) v.reading (record v { reading = w.reading }))) b.0, tt, b.1)
production_pending t c action.NamedEnd ss w v before after s r X e h on = let b = on s r e h in (b.0, tt, b.1)
production_pending t c action.Level ss w v before after s r X e h on = let b = on s r e h in (b.0, tt, b.1)
production_pending t c action.Tail ss w v before after s r X e h on = let b = on s r e h in (b.0, tt, b.1)
production_pending t c other ss w v before after s r X e h on = let b = on s r e h in (b.0, tt, b.1)

symbol_pending : (t : Tables) (c : PendingClaims) (b : ℕ) (a : Action) (ss : List Symbol) (w v : Walk) (before after : Option Token)
    → (s r : Pending) (X : Type 0) → meets_pending t c b a ss ≡ true → pend_symbol c b s ≡ Some r → PendingAt t before s w.waiting
    → ((q q' : Pending) → pend_run t c ss (Some q) ≡ Some q' → PendingAt t before q (entered a w).waiting → PendingAt t after q' v.waiting × X)
    → PendingAt t after r (left a (saved a w) v).waiting × ItemPending a w.waiting (seen_before t before) × X
symbol_pending t c b a ss w v before after s r X ok is h on =
    by_result (production_state t c a ss s) refl (subst (λ o. entails_if o (production_state t c a ss s) ≡ true) is (state_meets t c b a ss s ok)) where
      by_result : (o : Option Pending) → production_state t c a ss s ≡ o → entails_if (Some r) o ≡ true
          → PendingAt t after r (left a (saved a w) v).waiting × ItemPending a w.waiting (seen_before t before) × X
      by_result None at e = absurd (cc)
      by_result (Some q) at e =
          let p = production_pending t c a ss w v before after s q X at h on in
          (weaker t after q r (left a (saved a w) v).waiting e p.0, p.1, p.2)

-- The walk.

-- so does each item of a forest
abbrev pub ItemsPending : Tables → List ℕ → Action → Option Token → Forest → Walk → Type 0
ItemsPending t text a before Nothing w = Unit {0}
ItemsPending t text a before (Leaf k f) w = ItemsPending t text a (last_in before (k ∷ []) w.rest) f (taken t text a w)
ItemsPending t text a before (Branch p below f) w =
    ItemPending (action_at t p) w.waiting (seen_before t before)
    × ItemsPending t text (action_at t p) before below (entered (action_at t p) w)
    × ItemsPending t text a (last_in before (tokens below) w.rest) f
    (left (action_at t p) (saved (action_at t p) w) (walk t text (action_at t p) below (entered (action_at t p) w)))

last_none : (before : Option Token) (ks : List ℕ) → last_in before ks [] ≡ before
last_none before [] = refl
last_none before (k ∷ ks) = refl

-- the last of more tokens
last-append : (before : Option Token) (js ks : List ℕ) (ts : List Token)
    → last_in before (js ++ ks) ts ≡ last_in (last_in before js ts) ks (drop (length js) ts)
last-append before [] ks ts = refl
last-append before (j ∷ js) ks [] = sym (last_none before ks)
last-append before (j ∷ js) ks (x ∷ ts) = last-append (Some x) js ks ts

-- a walk takes as many tokens as its forest has
pub walk_rest : (t : Tables) (text : List ℕ) (a : Action) (f : Forest) (w : Walk) → (walk t text a f w).rest ≡ drop (length (tokens f)) w.rest
walk_rest t text a Nothing w = refl
walk_rest t text a (Leaf k f) w =
    let one_more : 1 + length (tokens f) ≡ suc (length (tokens f)) = omega arith in
    walk_rest t text a f (taken t text a w) ∙ (ap (drop (length (tokens f))) (taken_rest t text a w.rest w refl)
    ∙ (drop-drop (length (tokens f)) 1 w.rest ∙ ap (λ n. drop n w.rest) one_more))
walk_rest t text a (Branch p below f) w =
    let b = action_at t p in
    let v = walk t text b below (entered b w) in
    let rest : (left b (saved b w) v).rest ≡ drop (length (tokens below)) w.rest =
    rest_left b (saved b w) v ∙ (walk_rest t text b below (entered b w) ∙ ap (drop (length (tokens below))) (rest_entered b w)) in
    walk_rest t text a f (left b (saved b w) v) ∙ (ap (drop (length (tokens f))) rest
    ∙ (drop-drop (length (tokens f)) (length (tokens below)) w.rest ∙ ap (λ n. drop n w.rest) (sym (length-append (tokens below) (tokens f)))))

-- each walk over a derivation does what the claims say, and at each item the word that waits stands directly before
pub walk_pending : (t : Tables) (c : PendingClaims) (text : List ℕ) (g : Table) → all_pending t c 0 g.rules ≡ true
    → (f : Forest) (ss : List Symbol) (a : Action) (ks : List ℕ) (w : Walk) (before : Option Token) (s r : Pending)
    → IsDerivation g ss f → IsAt (tokens f ++ ks) w → pend_run t c ss (Some s) ≡ Some r → PendingAt t before s w.waiting
    → PendingAt t (last_in before (tokens f) w.rest) r (walk t text a f w).waiting × ItemsPending t text a before f w
walk_pending t c text g ok Nothing [] a ks w before s r d at e h =
    let same : s ≡ r = cc in (subst (λ q. PendingAt t before q w.waiting) same h, tt)
walk_pending t c text g ok Nothing (Terminal k ∷ ss) a ks w before s r d at e h = absurd d
walk_pending t c text g ok Nothing (Inner b ∷ ss) a ks w before s r d at e h = absurd d
walk_pending t c text g ok (Leaf j f) [] a ks w before s r d at e h = absurd d
walk_pending t c text g ok (Leaf j f) (Inner b ∷ ss) a ks w before s r d at e h = absurd d
walk_pending t c text g ok (Leaf j f) (Terminal k ∷ ss) a ks w before s r d at e h =
    let x = run_some t c ss (pend_token (meaning_at t k) s) r e in
    let one = taken_pending t text a j (tokens f ++ ks) w w.rest before s x.0 refl at (ap (λ i. pend_token (meaning_at t i) s) d.0 ∙ x.1) h in
    let i = walk_pending t c text g ok f ss a ks (taken t text a w) (last_in before (j ∷ []) w.rest) x.0 r d.1
    (at_taken t text a j (tokens f ++ ks) w w.rest refl at) (ap (pend_run t c ss) (sym x.1) ∙ e) one in
    let last : last_in (last_in before (j ∷ []) w.rest) (tokens f) (taken t text a w).rest ≡ last_in before (j ∷ tokens f) w.rest =
    ap (last_in (last_in before (j ∷ []) w.rest) (tokens f)) (taken_rest t text a w.rest w refl) ∙ sym (last-append before (j ∷ []) (tokens f) w.rest) in
    (subst (λ z. PendingAt t z r (walk t text a f (taken t text a w)).waiting) last i.0, i.1)
walk_pending t c text g ok (Branch p below f) [] a ks w before s r d at e h = absurd d
walk_pending t c text g ok (Branch p below f) (Terminal k ∷ ss) a ks w before s r d at e h = absurd d
walk_pending t c text g ok (Branch p below f) (Inner i ∷ ss) a ks w before s r d at e h =
    let u : Rule = d.0.0 in
    let b = action_at t p in
    let v = walk t text b below (entered b w) in
    let l = left b (saved b w) v in
    let number : 0 + p ≡ p = omega arith in
    let meets = subst (λ q. meets_pending t c u.left (action_at t q) u.right ≡ true) number (rule_pending t c 0 p g.rules u ok d.0.1) in
    let mine : meets_pending t c i b u.right ≡ true = subst (λ y. meets_pending t c y b u.right ≡ true) d.0.2 meets in
    let x = run_some t c ss (pend_symbol c i s) r e in
    let here : IsAt (tokens below ++ (tokens f ++ ks)) w = record { kinds = at.kinds ∙ append_assoc (tokens below) (tokens f) ks; numbers = at.numbers } in
    let begun = at_same (tokens below ++ (tokens f ++ ks)) w (entered b w) (rest_entered b w) here in
    let after = last_in before (tokens below) w.rest in
    let one = symbol_pending t c i b u.right w v before after s x.0 (ItemsPending t text b before below (entered b w)) mine x.1 h
    (λ q q' run now. let j = walk_pending t c text g ok below u.right b (tokens f ++ ks) (entered b w) before q q' d.0.3 begun run now in
    (subst (λ ts. PendingAt t (last_in before (tokens below) ts) q' v.waiting) (rest_entered b w) j.0, j.1)) in
    let there = at_same (tokens f ++ ks) v l (rest_left b (saved b w) v) (walk_at t text b below (tokens f ++ ks) (entered b w) begun) in
    let n = walk_pending t c text g ok f ss a ks l after x.0 r d.1 there (ap (pend_run t c ss) (sym x.1) ∙ e) one.0 in
    let rest : l.rest ≡ drop (length (tokens below)) w.rest =
    rest_left b (saved b w) v ∙ (walk_rest t text b below (entered b w) ∙ ap (drop (length (tokens below))) (rest_entered b w)) in
    let last : last_in after (tokens f) l.rest ≡ last_in before (tokens below ++ tokens f) w.rest =
    ap (last_in after (tokens f)) rest ∙ sym (last-append before (tokens below) (tokens f) w.rest) in
    (subst (λ z. PendingAt t z r (walk t text a f l).waiting) last n.0, (one.1, one.2, n.1))
