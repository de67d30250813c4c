-- A text with items has fewer of them than bytes: a test of the tables beside that of the slacks.
use Rattle.std.proofs.Common.{◌≡◌, ◌⊎◌, inl, inr, ℕ, zero, suc, ◌+◌, ◌≤◌, Bool, true, false, ◌&&◌, List, [], ◌∷◌, ◌++◌, refl, ap, subst, ◌∙◌, arith, eq-eqb}
use Rattle.std.specs.Prelude.{slice_get, nat_le, nat_eq, Some}
use Rattle.std.proofs.lemmas.Bool.{leb-true}
use Rattle.linker_base.proofs.Cases.{both_true}
use Rattle.element_store.specs.declared.outcome.Language.{Language}
use Rattle.element_store.specs.declared.outcome.Language.TheVariants.{Kerml, Sysml}
use Rattle.token_core.specs.Words.{signs, words}
use Rattle.ll_core.specs.declared.grammar.Symbol.{Symbol}
use Rattle.ll_core.specs.declared.grammar.Symbol.TheVariants.{Terminal, Inner}
use Rattle.ll_core.specs.Table.{Rule, Table}
use Rattle.ll_core.specs.Derives.{Forest, Nothing, Token as Leaf, Node as Branch, IsDerivation, tokens}
use Rattle.kerml_grammar.specs.Terms as kerml
use Rattle.kerml_grammar.specs.Rules.{kerml_rules}
use Rattle.kerml_grammar.specs.Grammar.{kerml_table}
use Rattle.sysml_grammar.specs.Terms as sysml
use Rattle.sysml_grammar.specs.Rules.{sysml_rules}
use Rattle.sysml_grammar.specs.Grammar.{sysml_table}
use Rattle.text_model.specs.declared.action.Action.{Action}
use Rattle.text_model.specs.KermlActions.{kerml_actions}
use Rattle.text_model.specs.SysmlActions.{sysml_actions}
use Rattle.text_model.specs.KermlSlacks.{kerml_slacks}
use Rattle.text_model.specs.SysmlSlacks.{sysml_slacks}
use Rattle.text_model.specs.Languages.{grammar_of}
use Rattle.text_model.specs.ClaimLists.{slacks_of}
use Rattle.text_model.specs.Tables.{Tables, tables as tables_of, action_at}
use Rattle.text_model.specs.Walk.{Walk, saved, entered, left, walk}
use Rattle.text_model.specs.Slacks.{weights, slack_at, slack_of, makes, all_slack}
use Rattle.text_laws.proofs.FewItems.{items_of, weights-append, rule_slack, node_items_less, walk_items}

-- a right side with nothing in it, or with more tokens than items
abbrev pub is_tight : List ℕ → ℕ → List Symbol → Bool
is_tight claims more [] = true
is_tight claims more (s ∷ ss) = nat_le (suc more) (slack_of claims (s ∷ ss))

-- or it is another symbol's
abbrev pub tight_where : Bool → List ℕ → ℕ → List Symbol → Bool
tight_where true claims more ss = is_tight claims more ss
tight_where false claims more ss = true

-- each production of the symbol m is so
abbrev pub all_tight : Tables → List ℕ → ℕ → ℕ → List Rule → Bool
all_tight t claims m p [] = true
all_tight t claims m p (r ∷ rs) =
    tight_where (nat_eq r.left m) claims (makes (action_at t p)) r.right && all_tight t claims m (suc p) rs

-- a right side of one inner symbol, each of whose productions is so
abbrev pub is_top : Tables → List ℕ → Table → ℕ → List Symbol → Bool
is_top t claims g more (Inner m ∷ []) = nat_le more 0 && all_tight t claims m 0 g.rules
is_top t claims g more other = false

-- or it is another symbol's
abbrev pub top_where : Bool → Tables → List ℕ → Table → ℕ → List Symbol → Bool
top_where true t claims g more ss = is_top t claims g more ss
top_where false t claims g more ss = true

-- each production of the start symbol has such a right side
abbrev pub all_top : Tables → List ℕ → Table → ℕ → List Rule → Bool
all_top t claims g p [] = true
all_top t claims g p (r ∷ rs) =
    top_where (nat_eq r.left g.start) t claims g (makes (action_at t p)) r.right && all_top t claims g (suc p) rs

-- the test holds of both grammars, by evaluation
pub tops_hold : (l : Language) → all_top (tables_of l) (slacks_of l) (grammar_of l) 0 (grammar_of l).rules ≡ true
unfolding grammar_of kerml_table kerml_rules kerml.sign kerml.word sysml_table sysml_rules sysml.sign sysml.word signs words tables_of
    kerml_actions sysml_actions slacks_of kerml_slacks sysml_slacks
tops_hold Kerml = refl
tops_hold Sysml = refl

same_number : (m n : ℕ) → m ≡ n → nat_eq m n ≡ true
same_number m n e = eq-eqb m n e

tight_rule : (t : Tables) (claims : List ℕ) (m n p : ℕ) (rs : List Rule) (r : Rule) → all_tight t claims m n rs ≡ true → slice_get rs p ≡ Some r
    → r.left ≡ m → is_tight claims (makes (action_at t (n + p))) r.right ≡ true
tight_rule t claims m n p [] r ok at is = absurd (cc)
tight_rule t claims m n zero (x ∷ rs) r ok at is =
    let same : x ≡ r = cc in
    let b = both_true (tight_where (nat_eq x.left m) claims (makes (action_at t n)) x.right) (all_tight t claims m (suc n) rs) ok in
    let mine : nat_eq x.left m ≡ true = same_number x.left m (ap (λ (y : Rule). y.left) same ∙ is) in
    let z : n ≡ n + 0 = omega arith in
    subst (λ k. is_tight claims (makes (action_at t k)) r.right ≡ true) z
    (subst (λ (y : Rule). is_tight claims (makes (action_at t n)) y.right ≡ true) same
    (subst (λ c. tight_where c claims (makes (action_at t n)) x.right ≡ true) mine b.0))
tight_rule t claims m n (suc p) (x ∷ rs) r ok at is =
    let b = both_true (tight_where (nat_eq x.left m) claims (makes (action_at t n)) x.right) (all_tight t claims m (suc n) rs) ok in
    let z : suc n + p ≡ n + suc p = omega arith in
    subst (λ k. is_tight claims (makes (action_at t k)) r.right ≡ true) z (tight_rule t claims m (suc n) p rs r b.1 at is)

top_rule : (t : Tables) (claims : List ℕ) (g : Table) (n p : ℕ) (rs : List Rule) (r : Rule) → all_top t claims g n rs ≡ true → slice_get rs p ≡ Some r
    → r.left ≡ g.start → is_top t claims g (makes (action_at t (n + p))) r.right ≡ true
top_rule t claims g n p [] r ok at is = absurd (cc)
top_rule t claims g n zero (x ∷ rs) r ok at is =
    let same : x ≡ r = cc in
    let b = both_true (top_where (nat_eq x.left g.start) t claims g (makes (action_at t n)) x.right) (all_top t claims g (suc n) rs) ok in
    let mine : nat_eq x.left g.start ≡ true = same_number x.left g.start (ap (λ (y : Rule). y.left) same ∙ is) in
    let z : n ≡ n + 0 = omega arith in
    subst (λ k. is_top t claims g (makes (action_at t k)) r.right ≡ true) z
    (subst (λ (y : Rule). is_top t claims g (makes (action_at t n)) y.right ≡ true) same
    (subst (λ c. top_where c t claims g (makes (action_at t n)) x.right ≡ true) mine b.0))
top_rule t claims g n (suc p) (x ∷ rs) r ok at is =
    let b = both_true (top_where (nat_eq x.left g.start) t claims g (makes (action_at t n)) x.right) (all_top t claims g (suc n) rs) ok in
    let z : suc n + p ≡ n + suc p = omega arith in
    subst (λ k. is_top t claims g (makes (action_at t k)) r.right ≡ true) z (top_rule t claims g (suc n) p rs r b.1 at is)

-- none is made, or fewer than what tokens weigh
abbrev pub IsStrict : Walk → Walk → List ℕ → Type 0
IsStrict w v ks = (items_of v ≤ items_of w) ⊎ (items_of v + 1 ≤ items_of w + weights ks)

-- what the tight symbol derives
tight_below : (t : Tables) (claims : List ℕ) (text : List ℕ) (g : Table) → all_slack t claims 0 g.rules ≡ true
    → (b : Action) (r : Rule) (below : Forest) (w : Walk) → makes b ≤ slack_of claims r.right → is_tight claims (makes b) r.right ≡ true
    → IsDerivation g r.right below → IsStrict w (left b (saved b w) (walk t text b below (entered b w))) (tokens below)
tight_below t claims text g ok b r below w less tight d = by_right r.right less tight d where
  by_right : (ss : List Symbol) → makes b ≤ slack_of claims ss → is_tight claims (makes b) ss ≡ true → IsDerivation g ss below
      → IsStrict w (left b (saved b w) (walk t text b below (entered b w))) (tokens below)
  by_right [] none h e =
      let i = walk_items t claims text g ok below [] b (entered b w) e in
      let n = node_items_less b w (walk t text b below (entered b w)) (weights (tokens below)) 0 (omega (arith, i)) in
      inl (omega (arith, n, none, nothing below e)) where
        nothing : (f : Forest) → IsDerivation g [] f → weights (tokens f) ≡ 0
        nothing Nothing e = refl
        nothing (Leaf k f) e = absurd e
        nothing (Branch p f h) e = absurd e
  by_right (s ∷ ss) none h e =
      let i = walk_items t claims text g ok below (s ∷ ss) b (entered b w) e in
      let n = node_items_less b w (walk t text b below (entered b w)) (weights (tokens below)) (slack_of claims (s ∷ ss)) i in
      inr (omega (arith, n, leb-true (suc (makes b)) (slack_of claims (s ∷ ss)) h))

-- what the right side of the start symbol derives, under an action that makes none
top_below : (t : Tables) (claims : List ℕ) (text : List ℕ) (g : Table) → all_slack t claims 0 g.rules ≡ true
    → (a : Action) (ss : List Symbol) (below : Forest) (w : Walk) → is_top t claims g (makes a) ss ≡ true → IsDerivation g ss below
    → IsStrict w (left a (saved a w) (walk t text a below (entered a w))) (tokens below)
top_below t claims text g ok a [] below w top d = absurd (cc)
top_below t claims text g ok a (Terminal k ∷ ss) below w top d = absurd (cc)
top_below t claims text g ok a (Inner m ∷ s ∷ ss) below w top d = absurd (cc)
top_below t claims text g ok a (Inner m ∷ []) Nothing w top d = absurd d
top_below t claims text g ok a (Inner m ∷ []) (Leaf k f) w top d = absurd d
top_below t claims text g ok a (Inner m ∷ []) (Branch q f (Leaf k h)) w top d = absurd d.1
top_below t claims text g ok a (Inner m ∷ []) (Branch q f (Branch i h j)) w top d = absurd d.1
top_below t claims text g ok a (Inner m ∷ []) (Branch q f Nothing) w top d =
    let b = both_true (nat_le (makes a) 0) (all_tight t claims m 0 g.rules) top in
    let none = leb-true (makes a) 0 b.0 in
    let r : Rule = d.0.0 in
    let number : 0 + q ≡ q = omega arith in
    let tight = subst (λ k. is_tight claims (makes (action_at t k)) r.right ≡ true) number (tight_rule t claims m 0 q g.rules r b.1 d.0.1 d.0.2) in
    let slack = subst (λ k. slack_at claims r.left + makes (action_at t k) ≤ slack_of claims r.right) number (rule_slack t claims 0 q g.rules r ok d.0.1) in
    let c = action_at t q in
    let v = left c (saved c (entered a w)) (walk t text c f (entered c (entered a w))) in
    let s = tight_below t claims text g ok c r f (entered a w) (omega (arith, slack)) tight d.0.3 in
    elim s as (λ s. IsStrict w (left a (saved a w) v) (tokens f ++ [])) [
      | inl h ↦ let n = node_items_less a w v 0 0 (omega (arith, h)) in inl (omega (arith, n, none))
      | inr h ↦ let n = node_items_less a w v (weights (tokens f)) 1 h in inr (omega (arith, n, none, weights-append (tokens f) []))
    ]

-- the walk over a tree makes no item, or fewer than the tokens weigh
pub strict_items : (t : Tables) (claims : List ℕ) (text : List ℕ) (g : Table) → all_slack t claims 0 g.rules ≡ true
    → all_top t claims g 0 g.rules ≡ true
    → (f : Forest) (a : Action) (w : Walk) → IsDerivation g (Inner g.start ∷ []) f → IsStrict w (walk t text a f w) (tokens f)
strict_items t claims text g ok top Nothing a w d = absurd d
strict_items t claims text g ok top (Leaf k f) a w d = absurd d
strict_items t claims text g ok top (Branch p f (Leaf k h)) a w d = absurd d.1
strict_items t claims text g ok top (Branch p f (Branch i h j)) a w d = absurd d.1
strict_items t claims text g ok top (Branch p f Nothing) a w d =
    let r : Rule = d.0.0 in
    let number : 0 + p ≡ p = omega arith in
    let c = action_at t p in
    let here = subst (λ k. is_top t claims g (makes (action_at t k)) r.right ≡ true) number (top_rule t claims g 0 p g.rules r top d.0.1 d.0.2) in
    let s = top_below t claims text g ok c r.right f w here d.0.3 in
    elim s as (λ s. IsStrict w (left c (saved c w) (walk t text c f (entered c w))) (tokens f ++ [])) [
      | inl h ↦ inl h
      | inr h ↦ inr (omega (arith, h, weights-append (tokens f) []))
    ]
