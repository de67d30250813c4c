-- Each alias and each import reads a name: a test of the tables, and what it says of the walk over a tree.
use Rattle.std.proofs.Common.{◌≡◌, ℕ, zero, suc, ◌+◌, ◌≤◌, Bool, true, false, ◌&&◌, List, [], ◌∷◌, ◌++◌, length, refl, sym, ap, subst, ◌∙◌, arith, length-append, append_assoc}
use Rattle.std.specs.Prelude.{◌||◌, not, nat_eq, slice_get, Option, Some, None}
use Rattle.linker_base.proofs.Cases.{both_true}
use Rattle.element_store.specs.declared.outcome.Language.{Language}
use Rattle.element_store.specs.declared.outcome.Language.TheVariants.{Kerml, Sysml}
use Rattle.token_core.specs.declared.token.Token.{Token}
use Rattle.token_core.specs.Words.{signs, words}
use Rattle.token_core.specs.Terminals.{terminal, HasNumber}
use Rattle.token_core.specs.Reading.{bytes_of, name_meaning}
use Rattle.ll_core.specs.declared.grammar.Symbol.{Symbol}
use Rattle.ll_core.specs.declared.grammar.Symbol.TheVariants.{Terminal, Inner}
use Rattle.ll_core.specs.Table.{Rule, Table}
use Rattle.ll_core.specs.Derives.{Forest, Nothing, Token as Leaf, Node as Branch, IsDerivation, tokens}
use Rattle.kerml_grammar.specs.Terms as kerml
use Rattle.kerml_grammar.specs.Rules as kerml_symbols
use Rattle.kerml_grammar.specs.Rules.{kerml_rules}
use Rattle.kerml_grammar.specs.Grammar.{kerml_table}
use Rattle.sysml_grammar.specs.Terms as sysml
use Rattle.sysml_grammar.specs.Rules as sysml_symbols
use Rattle.sysml_grammar.specs.Rules.{sysml_rules}
use Rattle.sysml_grammar.specs.Grammar.{sysml_table}
use Rattle.text_model.specs.KermlActions.{kerml_actions}
use Rattle.text_model.specs.SysmlActions.{sysml_actions}
use Rattle.text_model.specs.SignMeanings.{sign_meanings}
use Rattle.text_model.specs.KermlMeanings.{kerml_meanings}
use Rattle.text_model.specs.SysmlMeanings.{sysml_meanings}
use Rattle.text_model.specs.Languages.{grammar_of}
use Rattle.text_model.specs.declared.action.Action.{Action}
use Rattle.text_model.specs.declared.action.Action.TheVariants as action
use Rattle.text_model.specs.declared.action.Taking.TheVariants as taking
use Rattle.text_model.specs.declared.action.Operator.{Operator}
use Rattle.text_model.specs.declared.action.Meaning.{Meaning}
use Rattle.text_model.specs.declared.action.Meaning.TheVariants as meaning
use Rattle.text_model.specs.declared.draft.Path.{Path}
use Rattle.text_model.specs.declared.draft.What.{What}
use Rattle.text_model.specs.declared.draft.What.TheVariants as what
use Rattle.text_model.specs.declared.draft.DraftNode.{DraftNode}
use Rattle.text_model.specs.declared.draft.Waiting.{Waiting}
use Rattle.text_model.specs.declared.draft.Reading.{Reading}
use Rattle.text_model.specs.Tables.{Tables, tables as tables_of, action_at, meaning_of}
use Rattle.text_model.specs.Wholes.{meaning_at}
use Rattle.text_model.specs.Profile.{kinds_of}
use Rattle.text_model.specs.Drafts.{name_in, names, named_changed, last_changed, with_segment, with_step, joining, joined, applying, applied}
use Rattle.text_model.specs.Walk.{Walk, saved, entered, left, meant_name, meant_operator, meant, taken_from, taken, walk}
use Rattle.text_laws.specs.Fits.{Every}
use Rattle.text_laws.proofs.ListLemmas.{names-append}
use Rattle.text_laws.proofs.FittingLaws.{rest_entered, rest_left}
use Rattle.text_laws.proofs.ReadingLaws.{reading_given}
use Rattle.text_laws.proofs.WholeLaws.{IsAt, meaning_same, at_taken, at_same, walk_at}

-- symbols that leave a name among what was read, and symbols that leave one where there was one
pub record NameClaims : Type 0 where
  pub brings : List ℕ
  pub keeps : List ℕ

-- for QName, and for what may stand behind the name of a QName or an import
abbrev pub name_claims : Language → NameClaims
name_claims Kerml = record {
  brings = kerml_symbols.QName ∷ [];
  keeps = kerml_symbols.ImpRest ∷ kerml_symbols.ImpNext ∷ kerml_symbols.ManyColonColonName ∷ kerml_symbols.MaybeColonColonImpNext
      ∷ kerml_symbols.MaybeColonColonStarStar ∷ [];
}
name_claims Sysml = record {
  brings = sysml_symbols.QName ∷ [];
  keeps = sysml_symbols.ImpRest ∷ sysml_symbols.ImpNext ∷ sysml_symbols.ManyColonColonName ∷ sysml_symbols.MaybeColonColonImpNext
      ∷ sysml_symbols.MaybeColonColonStarStar ∷ [];
}

-- whether the number is among these
abbrev pub is_among : List ℕ → ℕ → Bool
is_among [] b = false
is_among (x ∷ xs) b = nat_eq x b || is_among xs b

-- whether there is a name behind a name's token
abbrev pub name_names : Action → Bool → Bool
name_names action.Name s = s
name_names action.Short s = s
name_names action.Segment s = s
name_names action.Step s = s
name_names other s = true

abbrev pub token_names : Action → Meaning → Bool → Bool
token_names a meaning.Name s = name_names a s
token_names a other s = s

abbrev pub inner_names : NameClaims → ℕ → Bool → Bool
inner_names c b s = is_among c.brings b || (is_among c.keeps b && s)

-- and behind a right side
abbrev pub names_run : Tables → NameClaims → Action → List Symbol → Bool → Bool
names_run t c a [] s = s
names_run t c a (Terminal k ∷ ss) s = names_run t c a ss (token_names a (meaning_at t k) s)
names_run t c a (Inner b ∷ ss) s = names_run t c a ss (inner_names c b s)

abbrev pub production_names : Tables → NameClaims → Action → List Symbol → Bool → Bool
production_names t c (action.Element k) ss s = s
production_names t c (action.Take d) ss s = s
production_names t c action.NamedEnd ss s = names_run t c action.NamedEnd ss false
production_names t c other ss s = names_run t c other ss s

-- an alias or an import reads a name
abbrev pub item_names : Tables → NameClaims → Action → List Symbol → Bool
item_names t c (action.Take taking.Alias) ss = names_run t c (action.Take taking.Alias) ss false
item_names t c (action.Take taking.Import) ss = names_run t c (action.Take taking.Import) ss false
item_names t c other ss = true

abbrev pub meets_names : Tables → NameClaims → ℕ → Action → List Symbol → Bool
meets_names t c b a ss =
    (not (is_among c.brings b) || production_names t c a ss false)
    && ((not (is_among c.keeps b) || production_names t c a ss true) && item_names t c a ss)

abbrev pub all_names : Tables → NameClaims → ℕ → List Rule → Bool
all_names t c p [] = true
all_names t c p (r ∷ rs) = meets_names t c r.left (action_at t p) r.right && all_names t c (suc p) rs

-- the test holds of both grammars, by evaluation
pub names_hold : (l : Language) → all_names (tables_of l) (name_claims l) 0 (grammar_of l).rules ≡ true
unfolding grammar_of kerml_table kerml_rules kerml.sign kerml.word sysml_table sysml_rules sysml.sign sysml.word signs words tables_of
    kerml_actions sysml_actions sign_meanings kerml_meanings sysml_meanings
names_hold Kerml = refl
names_hold Sysml = refl

-- what the test says of one production
rule_names : (t : Tables) (c : NameClaims) (n p : ℕ) (rs : List Rule) (r : Rule) → all_names t c n rs ≡ true → slice_get rs p ≡ Some r
    → meets_names t c r.left (action_at t (n + p)) r.right ≡ true
rule_names t c n p [] r ok at = absurd (cc)
rule_names t c n zero (x ∷ rs) r ok at =
    let same : x ≡ r = cc in
    let b = both_true (meets_names t c x.left (action_at t n) x.right) (all_names t c (suc n) rs) ok in
    let z : n ≡ n + 0 = omega arith in
    subst (λ k. meets_names t c r.left (action_at t k) r.right ≡ true) z
    (subst (λ (y : Rule). meets_names t c y.left (action_at t n) y.right ≡ true) same b.0)
rule_names t c n (suc p) (x ∷ rs) r ok at =
    let b = both_true (meets_names t c x.left (action_at t n) x.right) (all_names t c (suc n) rs) ok in
    let z : suc n + p ≡ n + suc p = omega arith in
    subst (λ k. meets_names t c r.left (action_at t k) r.right ≡ true) z (rule_names t c (suc n) p rs r b.1 at)

-- Names among nodes.

abbrev pub HasName : List DraftNode → Type 0
HasName ns = 1 ≤ length (names ns)

-- where the state says so, there is one
abbrev pub NamedAt : Bool → List DraftNode → Type 0
NamedAt true ns = HasName ns
NamedAt false ns = Unit {0}

no_fewer : (s : Bool) (ns ms : List DraftNode) → length (names ns) ≤ length (names ms) → NamedAt s ns → NamedAt s ms
no_fewer true ns ms le h = omega (arith, le, h)
no_fewer false ns ms le h = tt

longer : (ns ms : List DraftNode) → length (names ns) ≤ length (names (ns ++ ms))
longer ns ms = omega (arith, ap length (names-append ns ms), length-append (names ns) (names ms))

last_as_long : (f : Path → Path) (ns : List DraftNode) → length (names (last_changed f ns)) ≡ length (names ns)
last_as_long f [] = refl
last_as_long f (x ∷ []) = one x.what where
  one : (w : What) → length (name_in (named_changed f w) ++ []) ≡ length (name_in w ++ [])
  one (what.Named p) = refl
  one other = refl
last_as_long f (x ∷ y ∷ ns) =
    omega (
      arith,
      length-append (name_in x.what) (names (last_changed f (y ∷ ns))),
      length-append (name_in x.what) (names (y ∷ ns)),
      last_as_long f (y ∷ ns),
    )

joined_longer : (ns : List DraftNode) (o : Option Waiting) → length (names ns) ≤ length (names (joined ns o))
joined_longer ns None = omega arith
joined_longer ns (Some w) = longer ns (joining w.operator w.place)

applied_longer : (ns : List DraftNode) (o : Option Waiting) → length (names ns) ≤ length (names (applied ns o))
applied_longer ns None = omega arith
applied_longer ns (Some w) = longer ns (applying w.operator w.place)

-- A token.

name_named : (a : Action) (x : Token) (bytes : List ℕ) (w : Walk) (s : Bool) → NamedAt s w.reading.nodes
    → NamedAt (name_names a s) (meant_name a x bytes w).reading.nodes
name_named action.Name x bytes w s h = h
name_named action.Short x bytes w s h = h
name_named action.Segment x bytes w s h = no_fewer s w.reading.nodes _ (omega (arith, last_as_long (with_segment bytes) w.reading.nodes)) h
name_named action.Step x bytes w s h = no_fewer s w.reading.nodes _ (omega (arith, last_as_long (with_step bytes) w.reading.nodes)) h
name_named other x bytes w s h = one w.reading.nodes _ _ where
  one : (ns : List DraftNode) (p : Path) (place : ℕ) → HasName (ns ++ record { what = what.Named p; place = place } ∷ [])
  one ns p place =
      omega (arith, ap length (names-append ns (record { what = what.Named p; place = place } ∷ [])), length-append (names ns) (p ∷ []))

operator_named : (a : Action) (o : Operator) (place : ℕ) (w : Walk) (s : Bool) → NamedAt s w.reading.nodes
    → NamedAt s (meant_operator a o place w).reading.nodes
operator_named action.Star o place w s h = no_fewer s w.reading.nodes _ (longer w.reading.nodes _) h
operator_named other o place w s h = h

meant_named : (text : List ℕ) (a : Action) (m : Meaning) (x : Token) (w : Walk) (s : Bool) → NamedAt s w.reading.nodes
    → NamedAt (token_names a m s) (meant text a m x w).reading.nodes
meant_named text a meaning.Text x w s h = no_fewer s w.reading.nodes _ (longer w.reading.nodes _) h
meant_named text a meaning.Integer x w s h = no_fewer s w.reading.nodes _ (longer w.reading.nodes _) h
meant_named text a (meaning.Leaf l) x w s h = no_fewer s w.reading.nodes _ (longer w.reading.nodes _) h
meant_named text a meaning.Name x w s h = name_named a x (name_meaning (bytes_of text x)) w s h
meant_named text a (meaning.Operator o) x w s h = operator_named a o x.from w s h
meant_named text a other x w s h = h

taken_named : (t : Tables) (text : List ℕ) (a : Action) (k : ℕ) (ks : List ℕ) (w : Walk) (ts : List Token) (s : Bool) → w.rest ≡ ts → IsAt (k ∷ ks) w
    → NamedAt s w.reading.nodes → NamedAt (token_names a (meaning_at t k) s) (taken_from t text a ts w).reading.nodes
taken_named t text a k ks w [] s is at h = let x : kinds_of w.rest ≡ [] = ap kinds_of is in let y : kinds_of w.rest ≡ k ∷ ks = at.kinds in absurd (cc)
taken_named t text a k ks w (x ∷ ts) s is at h =
    let e : kinds_of (x ∷ ts) ≡ k ∷ ks = ap kinds_of (sym is) ∙ at.kinds in
    let one : terminal x.kind ≡ k = cc in
    let n = subst (Every (λ (y : Token). HasNumber y.kind)) is at.numbers in
    let m : meaning_at t k ≡ meaning_of t x.kind = ap (meaning_at t) (sym one) ∙ meaning_same t x.kind n.0 in
    subst (λ y. NamedAt (token_names a y s) (meant text a (meaning_of t x.kind) x (record w { rest = ts })).reading.nodes) (sym m)
    (meant_named text a (meaning_of t x.kind) x (record w { rest = ts }) s h)

-- A production, where the walk below is known.

production_named : (t : Tables) (c : NameClaims) (a : Action) (ss : List Symbol) (w v : Walk) (s : Bool) → NamedAt s w.reading.nodes
    → ((q : Bool) → NamedAt q (entered a w).reading.nodes → NamedAt (names_run t c a ss q) v.reading.nodes)
    → NamedAt (production_names t c a ss s) (left a (saved a w) v).reading.nodes
production_named t c (action.Element k) ss w v s h on = h
production_named t c (action.Take d) ss w v s h on =
    subst (λ (r : Reading). NamedAt s r.nodes) (sym (reading_given d (saved (action.Take d) w) v.reading (record v { reading = w.reading }))) h
production_named t c action.NamedEnd ss w v s h on = on false tt
production_named t c action.Level ss w v s h on =
    no_fewer (names_run t c action.Level ss s) v.reading.nodes _ (applied_longer v.reading.nodes v.reading.operator) (on s h)
production_named t c action.Tail ss w v s h on =
    on s (no_fewer s w.reading.nodes _ (joined_longer w.reading.nodes w.reading.operator) h)
production_named t c other ss w v s h on = on s h

-- what the claims say of a production's symbol, from what the test says of the production
symbol_named : (t : Tables) (c : NameClaims) (b : ℕ) (a : Action) (ss : List Symbol) (w v : Walk) (s : Bool) → meets_names t c b a ss ≡ true
    → NamedAt s w.reading.nodes → ((q : Bool) → NamedAt q (entered a w).reading.nodes → NamedAt (names_run t c a ss q) v.reading.nodes)
    → NamedAt (inner_names c b s) (left a (saved a w) v).reading.nodes
symbol_named t c b a ss w v s ok h on =
    let x = both_true (not (is_among c.brings b) || production_names t c a ss false) _ ok in
    let y = both_true (not (is_among c.keeps b) || production_names t c a ss true) (item_names t c a ss) x.1 in
    by_claims (is_among c.brings b) (is_among c.keeps b) s x.0 y.0 h where
      by_claims : (brings keeps s : Bool) → (not brings || production_names t c a ss false) ≡ true → (not keeps || production_names t c a ss true) ≡ true
          → NamedAt s w.reading.nodes → NamedAt (brings || (keeps && s)) (left a (saved a w) v).reading.nodes
      by_claims true keeps s x y h =
          subst (λ q. NamedAt q (left a (saved a w) v).reading.nodes) x (production_named t c a ss w v false tt on)
      by_claims false true true x y h =
          subst (λ q. NamedAt q (left a (saved a w) v).reading.nodes) y (production_named t c a ss w v true h on)
      by_claims false true false x y h = tt
      by_claims false false s x y h = tt

-- the walk over a derivation of symbols leaves a name where their claims say
walk_named : (t : Tables) (c : NameClaims) (text : List ℕ) (g : Table) → all_names t c 0 g.rules ≡ true
    → (f : Forest) (ss : List Symbol) (a : Action) (ks : List ℕ) (w : Walk) (s : Bool) → IsDerivation g ss f → IsAt (tokens f ++ ks) w
    → NamedAt s w.reading.nodes → NamedAt (names_run t c a ss s) (walk t text a f w).reading.nodes
walk_named t c text g ok Nothing [] a ks w s d at h = h
walk_named t c text g ok Nothing (Terminal k ∷ ss) a ks w s d at h = absurd d
walk_named t c text g ok Nothing (Inner b ∷ ss) a ks w s d at h = absurd d
walk_named t c text g ok (Leaf j f) [] a ks w s d at h = absurd d
walk_named t c text g ok (Leaf j f) (Inner b ∷ ss) a ks w s d at h = absurd d
walk_named t c text g ok (Leaf j f) (Terminal k ∷ ss) a ks w s d at h =
    let one = taken_named t text a j (tokens f ++ ks) w w.rest s refl at h in
    let next : NamedAt (token_names a (meaning_at t k) s) (taken t text a w).reading.nodes =
    subst (λ i. NamedAt (token_names a (meaning_at t i) s) (taken t text a w).reading.nodes) d.0 one in
    walk_named t c text g ok f ss a ks (taken t text a w) (token_names a (meaning_at t k) s) d.1
    (at_taken t text a j (tokens f ++ ks) w w.rest refl at) next
walk_named t c text g ok (Branch p below f) [] a ks w s d at h = absurd d
walk_named t c text g ok (Branch p below f) (Terminal k ∷ ss) a ks w s d at h = absurd d
walk_named t c text g ok (Branch p below f) (Inner i ∷ ss) a ks w s d at h =
    let r : Rule = d.0.0 in
    let b = action_at t p in
    let v = walk t text b below (entered b w) in
    let number : 0 + p ≡ p = omega arith in
    let meets = subst (λ q. meets_names t c r.left (action_at t q) r.right ≡ true) number (rule_names t c 0 p g.rules r ok d.0.1) in
    let mine : meets_names t c i b r.right ≡ true = subst (λ y. meets_names t c y b r.right ≡ true) d.0.2 meets in
    let here : IsAt (tokens below ++ (tokens f ++ ks)) w = record { kinds = at.kinds ∙ append_assoc (tokens below) (tokens f) ks; numbers = at.numbers } in
    let begun = at_same (tokens below ++ (tokens f ++ ks)) w (entered b w) (rest_entered b w) here in
    let one = symbol_named t c i b r.right w v s mine h
    (λ q x. walk_named t c text g ok below r.right b (tokens f ++ ks) (entered b w) q d.0.3 begun x) in
    let after = at_same (tokens f ++ ks) v (left b (saved b w) v) (rest_left b (saved b w) v) (walk_at t text b below (tokens f ++ ks) (entered b w) begun) in
    walk_named t c text g ok f ss a ks (left b (saved b w) v) (inner_names c i s) d.1 after one

-- Each alias and each import of a forest reads a name.

-- an alias or an import leaves a name
abbrev pub ItemNamed : Action → List DraftNode → Type 0
ItemNamed (action.Take taking.Alias) ns = HasName ns
ItemNamed (action.Take taking.Import) ns = HasName ns
ItemNamed other ns = Unit {0}

-- and so does each of a forest
abbrev pub ItemsNamed : Tables → List ℕ → Action → Forest → Walk → Type 0
ItemsNamed t text a Nothing w = Unit {0}
ItemsNamed t text a (Leaf k f) w = ItemsNamed t text a f (taken t text a w)
ItemsNamed t text a (Branch p below f) w =
    ItemsNamed t text (action_at t p) below (entered (action_at t p) w)
    × ItemNamed (action_at t p) (walk t text (action_at t p) below (entered (action_at t p) w)).reading.nodes
    × ItemsNamed t text a f
    (left (action_at t p) (saved (action_at t p) w) (walk t text (action_at t p) below (entered (action_at t p) w)))

item_named : (t : Tables) (c : NameClaims) (a : Action) (ss : List Symbol) (w v : Walk) → item_names t c a ss ≡ true
    → ((q : Bool) → NamedAt q (entered a w).reading.nodes → NamedAt (names_run t c a ss q) v.reading.nodes) → ItemNamed a v.reading.nodes
item_named t c (action.Take taking.Alias) ss w v ok on = subst (λ q. NamedAt q v.reading.nodes) ok (on false tt)
item_named t c (action.Take taking.Import) ss w v ok on = subst (λ q. NamedAt q v.reading.nodes) ok (on false tt)
item_named t c other ss w v ok on = tt

-- each walk over a derivation does so
pub items_named : (t : Tables) (c : NameClaims) (text : List ℕ) (g : Table) → all_names t c 0 g.rules ≡ true
    → (f : Forest) (ss : List Symbol) (a : Action) (ks : List ℕ) (w : Walk) → IsDerivation g ss f → IsAt (tokens f ++ ks) w
    → ItemsNamed t text a f w
items_named t c text g ok Nothing ss a ks w d at = tt
items_named t c text g ok (Leaf j f) [] a ks w d at = absurd d
items_named t c text g ok (Leaf j f) (Inner b ∷ ss) a ks w d at = absurd d
items_named t c text g ok (Leaf j f) (Terminal k ∷ ss) a ks w d at =
    items_named t c text g ok f ss a ks (taken t text a w) d.1 (at_taken t text a j (tokens f ++ ks) w w.rest refl at)
items_named t c text g ok (Branch p below f) [] a ks w d at = absurd d
items_named t c text g ok (Branch p below f) (Terminal k ∷ ss) a ks w d at = absurd d
items_named t c text g ok (Branch p below f) (Inner i ∷ ss) a ks w d at =
    let r : Rule = d.0.0 in
    let b = action_at t p in
    let v = walk t text b below (entered b w) in
    let number : 0 + p ≡ p = omega arith in
    let meets = subst (λ q. meets_names t c r.left (action_at t q) r.right ≡ true) number (rule_names t c 0 p g.rules r ok d.0.1) in
    let x = both_true (not (is_among c.brings r.left) || production_names t c b r.right false) _ meets in
    let y = both_true (not (is_among c.keeps r.left) || production_names t c b r.right true) (item_names t c b r.right) x.1 in
    let here : IsAt (tokens below ++ (tokens f ++ ks)) w = record { kinds = at.kinds ∙ append_assoc (tokens below) (tokens f) ks; numbers = at.numbers } in
    let begun = at_same (tokens below ++ (tokens f ++ ks)) w (entered b w) (rest_entered b w) here in
    let after = at_same (tokens f ++ ks) v (left b (saved b w) v) (rest_left b (saved b w) v) (walk_at t text b below (tokens f ++ ks) (entered b w) begun) in (
      items_named t c text g ok below r.right b (tokens f ++ ks) (entered b w) d.0.3 begun,
      item_named t c b r.right w v y.1 (λ q z. walk_named t c text g ok below r.right b (tokens f ++ ks) (entered b w) q d.0.3 begun z),
      items_named t c text g ok f ss a ks (left b (saved b w) v) d.1 after,
    )
