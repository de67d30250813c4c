-- What the claims say holds of the walk over each derivation.
use Rattle.std.proofs.Common.{◌≡◌, ℕ, zero, suc, ◌+◌, ◌-◌, Bool, true, false, ◌&&◌, List, [], ◌∷◌, ◌++◌, refl, ap, sym, subst, ◌∙◌, arith, append_assoc}
use Rattle.std.specs.Prelude.{slice_get, nat_lt, not, Option, Some, None}
use Rattle.std.proofs.lemmas.Bool.Decides.{nat_tests}
use Rattle.std.proofs.lemmas.Bool.{eqb-true}
use Rattle.element_store.specs.declared.expression.BinaryOp.{BinaryOp}
use Rattle.element_store.specs.declared.expression.BinaryOp.TheVariants as binary
use Rattle.element_store.specs.Expressions.{stand_after, stand}
use Rattle.token_core.specs.declared.token.Token.{Token}
use Rattle.token_core.specs.declared.token.TokenKind.{TokenKind}
use Rattle.token_core.specs.declared.token.TokenKind.TheVariants as kind
use Rattle.token_core.specs.Terminals.{terminal, HasNumber}
use Rattle.token_core.specs.Reading.{bytes_of, name_meaning}
use Rattle.ll_core.specs.declared.grammar.Symbol.{Symbol}
use Rattle.ll_core.specs.declared.grammar.Symbol.TheVariants.{Terminal, Inner}
use Rattle.ll_core.specs.Table.{Rule, Table}
use Rattle.ll_core.specs.Derives.{Forest, Nothing, Token as Leaf, Node as Branch, IsDerivation, tokens}
use Rattle.text_model.specs.declared.action.Action.{Action}
use Rattle.text_model.specs.declared.action.Action.TheVariants as action
use Rattle.text_model.specs.declared.action.Operator.{Operator}
use Rattle.text_model.specs.declared.action.Operator.TheVariants as operator
use Rattle.text_model.specs.declared.action.Leaf.{Leaf as LeafWord}
use Rattle.text_model.specs.declared.action.Leaf.TheVariants as leaf
use Rattle.text_model.specs.declared.action.Meaning.{Meaning}
use Rattle.text_model.specs.declared.action.Meaning.TheVariants as meaning
use Rattle.text_model.specs.declared.draft.What.{What}
use Rattle.text_model.specs.declared.draft.What.TheVariants as what
use Rattle.text_model.specs.declared.draft.Path.{Path}
use Rattle.text_model.specs.declared.draft.DraftNode.{DraftNode}
use Rattle.text_model.specs.declared.draft.Reading.{Reading}
use Rattle.text_model.specs.declared.draft.Waiting.{Waiting}
use Rattle.text_model.specs.Tables.{Tables, action_at, meaning_of}
use Rattle.text_model.specs.Drafts.{joining, joined, applied, applying, last_changed, named_changed}
use Rattle.text_model.specs.Walk.{Walk, leaf_node, saved, entered, left, meant, meant_name, meant_operator, taken, taken_from, walk}
use Rattle.text_model.specs.Profile.{kinds_of}
use Rattle.text_model.specs.Numbering.{node_of, after_node, numbered}
use Rattle.text_laws.specs.Fits.{Every}
use Rattle.text_model.specs.Wholes.{Claim, Whole, Tail, Between, BeforeOne, Silent, Other, Waits, Kept, Free, ForTwo, ForOne, ForThree, Effect, effect, meaning_at, waits_for, one_more, waits_over, name_effect, operator_effect, token_effect, tail_effect, claim_effect, claim_at, effects, level_end, is_free, is_kept, frees, keeps, is_plain, is_star, is_between, is_sign, is_before_one, one_sign, is_whole_rule, meets_claim, takes_whole, all_meet, are_wholes}
use Rattle.text_laws.proofs.FittingLaws.{rest_meant, rest_entered, rest_left}
use Rattle.linker_base.proofs.Cases.{both_true}

-- How many values stand after nodes.

abbrev pub stand_in : List DraftNode → Option ℕ → Option ℕ
stand_in ns None = None
stand_in [] (Some n) = Some n
stand_in (x ∷ ns) (Some n) = stand_in ns (stand_after (node_of 0 x.what) n)

stand_none : (o : Option ℕ) → stand_in [] o ≡ o
stand_none None = refl
stand_none (Some n) = refl

stand_in-append : (ns ms : List DraftNode) (o : Option ℕ) → stand_in (ns ++ ms) o ≡ stand_in ms (stand_in ns o)
stand_in-append ns ms None = refl
stand_in-append [] ms (Some n) = refl
stand_in-append (x ∷ ns) ms (Some n) = stand_in-append ns ms (stand_after (node_of 0 x.what) n)

-- one node more
pushed_stands : (ns : List DraftNode) (x : DraftNode) (n : ℕ) → stand_in ns (Some 0) ≡ Some n
    → stand_in (ns ++ x ∷ []) (Some 0) ≡ stand_after (node_of 0 x.what) n
pushed_stands ns x n is = stand_in-append ns (x ∷ []) (Some 0) ∙ (ap (stand_in (x ∷ [])) is ∙ stand_none (stand_after (node_of 0 x.what) n))

same_after : (n k : ℕ) (w : What) → stand_after (node_of k w) n ≡ stand_after (node_of 0 w) n
same_after n k (what.Named p) = refl
same_after n k other = refl

-- numbered nodes leave as many values as their drafts
pub stand_numbered : (k : ℕ) (ns : List DraftNode) (o : Option ℕ) → stand (numbered k ns) o ≡ stand_in ns o
stand_numbered k ns None = refl
stand_numbered k [] (Some n) = refl
stand_numbered k (x ∷ ns) (Some n) = stand_numbered (after_node k x.what) ns (stand_after (node_of k x.what) n) ∙ ap (stand_in ns) (same_after n k x.what)

-- a name that is changed stays a name
last_stands : (f : Path → Path) (ns : List DraftNode) (o : Option ℕ) → stand_in (last_changed f ns) o ≡ stand_in ns o
last_stands f ns None = refl
last_stands f [] (Some n) = refl
last_stands f (x ∷ []) (Some n) = ap (stand_in []) (one x.what) where
  one : (w : What) → stand_after (node_of 0 (named_changed f w)) n ≡ stand_after (node_of 0 w) n
  one (what.Named p) = refl
  one other = refl
last_stands f (x ∷ y ∷ ns) (Some n) = last_stands f (y ∷ ns) (stand_after (node_of 0 x.what) n)

-- What waits.

abbrev pub HasWaits : Waits → Option Waiting → Option Waiting → Type 0
HasWaits Kept before now = now ≡ before
HasWaits Free before now = now ≡ None
HasWaits ForTwo before now = (x : Waiting) × (b : BinaryOp) × (now ≡ Some x) × (x.operator ≡ operator.Binary b)
HasWaits ForOne before now = (x : Waiting) × (now ≡ Some x) × (is_sign x.operator ≡ true)
HasWaits ForThree before now = (x : Waiting) × (now ≡ Some x) × (x.operator ≡ operator.If)

-- the nodes that were read leave what an effect says
pub record Stands (base : ℕ) (before : Option Waiting) (s : Effect) (r : Reading) : Type 0 where
  pub nodes : stand_in r.nodes (Some 0) ≡ Some (base + s.values)
  pub waiting : HasWaits s.waits before r.operator

-- a leaf more
leaf_stands : (base : ℕ) (before : Option Waiting) (s : Effect) (r q : Reading) (x : DraftNode) → q.nodes ≡ r.nodes ++ x ∷ [] → q.operator ≡ r.operator
    → ((n : ℕ) → stand_after (node_of 0 x.what) n ≡ Some (suc n)) → Stands base before s r → Stands base before (one_more s) q
leaf_stands base before s r q x pushed same leaf h = record {
  nodes = ap (λ ns. stand_in ns (Some 0)) pushed ∙ (pushed_stands r.nodes x (base + s.values) h.nodes ∙ (leaf (base + s.values) ∙ ap Some (omega arith)));
  waiting = subst (HasWaits s.waits before) (sym same) h.waiting;
}

-- Tokens.

-- a terminal means what its tokens do
pub meaning_same : (t : Tables) (k : TokenKind) → HasNumber k → meaning_at t (terminal k) ≡ meaning_of t k
meaning_same t kind.Name h = refl
meaning_same t kind.Integer h = refl
meaning_same t kind.Quote h = refl
meaning_same t kind.Comment h = refl
meaning_same t (kind.Sign n) h =
    let a : nat_lt (4 + n) 4 ≡ false = grind (arith, nat_tests) in
    let b : nat_lt (4 + n) 260 ≡ true = grind (arith, nat_tests) in
    let c : 4 + n - 4 ≡ n = omega arith in
    rw (a, b, c)
meaning_same t (kind.Word n) h =
    let a : nat_lt (260 + n) 4 ≡ false = grind (arith, nat_tests) in
    let b : nat_lt (260 + n) 260 ≡ false = grind (arith, nat_tests) in
    let c : 260 + n - 260 ≡ n = omega arith in
    rw (a, b, c)

name_stands : (a : Action) (t : Token) (bytes : List ℕ) (w : Walk) (base : ℕ) (before : Option Waiting) (s s' : Effect) → Some (name_effect a s) ≡ Some s'
    → Stands base before s w.reading
    → Stands base before s' (meant_name a t bytes w).reading
name_stands action.Name t bytes w base before s s' is h = let e : s ≡ s' = cc
    in subst (λ x. Stands base before x (meant_name action.Name t bytes w).reading) e (record { nodes = h.nodes; waiting = h.waiting })
name_stands action.Short t bytes w base before s s' is h = let e : s ≡ s' = cc
    in subst (λ x. Stands base before x (meant_name action.Short t bytes w).reading) e (record { nodes = h.nodes; waiting = h.waiting })
name_stands action.Segment t bytes w base before s s' is h =
    let e : s ≡ s' = cc in
    subst (λ x. Stands base before x (meant_name action.Segment t bytes w).reading) e
    (record { nodes = last_stands _ w.reading.nodes (Some 0) ∙ h.nodes; waiting = h.waiting })
name_stands action.Step t bytes w base before s s' is h =
    let e : s ≡ s' = cc in
    subst (λ x. Stands base before x (meant_name action.Step t bytes w).reading) e
    (record { nodes = last_stands _ w.reading.nodes (Some 0) ∙ h.nodes; waiting = h.waiting })
name_stands other t bytes w base before s s' is h =
    let e : one_more s ≡ s' = cc in
    subst (λ x. Stands base before x (meant_name other t bytes w).reading) e
    (leaf_stands base before s w.reading (meant_name other t bytes w).reading _ refl refl (λ n. refl) h)

waits_stands : (o : Operator) (place n : ℕ) (q : Waits) (w : Walk) (base : ℕ) (before : Option Waiting) (s' : Effect) → waits_over (waits_for o) n q ≡ Some s'
    → stand_in w.reading.nodes (Some 0) ≡ Some (base + n)
    → Stands base before s' (record w.reading { operator = Some (record { operator = o; place = place }) })
waits_stands o place n Kept w base before s' is nodes = cc
waits_stands operator.If place n q w base before s' is nodes = over q is where
  over : (q : Waits) → waits_over ForThree n q ≡ Some s'
      → Stands base before s' (record w.reading { operator = Some (record { operator = operator.If; place = place }) })
  over Kept is = cc
  over other is = let e : effect n ForThree ≡ s' = cc in subst
      (λ x. Stands base before x (record w.reading { operator = Some (record { operator = operator.If; place = place }) })) e
      (record { nodes = nodes; waiting = (_, refl, refl) })
waits_stands operator.Not place n q w base before s' is nodes = over q is where
  over : (q : Waits) → waits_over ForOne n q ≡ Some s' → Stands base before s'
      (record w.reading { operator = Some (record { operator = operator.Not; place = place }) })
  over Kept is = cc
  over other is = let e : effect n ForOne ≡ s' = cc in subst
      (λ x. Stands base before x (record w.reading { operator = Some (record { operator = operator.Not; place = place }) })) e
      (record { nodes = nodes; waiting = (_, refl, refl) })
waits_stands (operator.Binary b) place n q w base before s' is nodes = over q is where
  over : (q : Waits) → waits_over ForTwo n q ≡ Some s' → Stands base before s'
      (record w.reading { operator = Some (record { operator = operator.Binary b; place = place }) })
  over Kept is = cc
  over other is = let e : effect n ForTwo ≡ s' = cc in subst
      (λ x. Stands base before x (record w.reading { operator = Some (record { operator = operator.Binary b; place = place }) })) e
      (record { nodes = nodes; waiting = (_, b, refl, refl) })

operator_stands : (a : Action) (o : Operator) (place : ℕ) (w : Walk) (base : ℕ) (before : Option Waiting) (s s' : Effect) → operator_effect a o s ≡ Some s'
    → Stands base before s w.reading
    → Stands base before s' (meant_operator a o place w).reading
operator_stands action.Star o place w base before s s' is h =
    let e : one_more s ≡ s' = cc in
    subst (λ x. Stands base before x (meant_operator action.Star o place w).reading) e
    (leaf_stands base before s w.reading (meant_operator action.Star o place w).reading _ refl refl (λ n. refl) h)
operator_stands other o place w base before s s' is h = waits_stands o place s.values s.waits w base before s' is h.nodes

leaf_word : (l : LeafWord) (n : ℕ) → stand_after (node_of 0 (leaf_node l)) n ≡ Some (suc n)
leaf_word (leaf.Boolean b) n = refl
leaf_word leaf.Null n = refl
leaf_word other n = refl

meant_stands : (text : List ℕ) (a : Action) (m : Meaning) (t : Token) (w : Walk) (base : ℕ) (before : Option Waiting) (s s' : Effect)
    → token_effect a m s ≡ Some s' → Stands base before s w.reading
    → Stands base before s' (meant text a m t w).reading
meant_stands text a meaning.Text t w base before s s' is h =
    let e : one_more s ≡ s' = cc in subst (λ x. Stands base before x (meant text a meaning.Text t w).reading) e
    (leaf_stands base before s w.reading (meant text a meaning.Text t w).reading _ refl refl (λ n. refl) h)
meant_stands text a meaning.Integer t w base before s s' is h =
    let e : one_more s ≡ s' = cc in subst (λ x. Stands base before x (meant text a meaning.Integer t w).reading) e
    (leaf_stands base before s w.reading (meant text a meaning.Integer t w).reading _ refl refl (λ n. refl) h)
meant_stands text a (meaning.Leaf l) t w base before s s' is h =
    let e : one_more s ≡ s' = cc in subst (λ x. Stands base before x (meant text a (meaning.Leaf l) t w).reading) e
    (leaf_stands base before s w.reading (meant text a (meaning.Leaf l) t w).reading _ refl refl (leaf_word l) h)
meant_stands text a meaning.Name t w base before s s' is h = name_stands a t (name_meaning (bytes_of text t)) w base before s s' is h
meant_stands text a (meaning.Operator o) t w base before s s' is h = operator_stands a o t.from w base before s s' is h
meant_stands text a meaning.Absolute t w base before s s' is h =
    let e : s ≡ s' = cc in subst (λ x. Stands base before x (meant text a meaning.Absolute t w).reading) e (record { nodes = h.nodes; waiting = h.waiting })
meant_stands text a other t w base before s s' is h = let e : s ≡ s' = cc in subst (λ x. Stands base before x (meant text a other t w).reading) e h

-- The tokens that are left after a forest.

-- the tokens to come are of these kinds, and their numbers fit
pub record IsAt (ks : List ℕ) (w : Walk) : Type 0 where
  pub kinds : kinds_of w.rest ≡ ks
  pub numbers : Every (λ t. HasNumber t.kind) w.rest

-- one of them is taken
pub at_taken : (t : Tables) (text : List ℕ) (a : Action) (k : ℕ) (ks : List ℕ) (w : Walk) (ts : List Token) → w.rest ≡ ts → IsAt (k ∷ ks) w
    → IsAt ks (taken_from t text a ts w)
at_taken t text a k ks w [] is h = let e : kinds_of w.rest ≡ [] = ap kinds_of is in let f : kinds_of w.rest ≡ k ∷ ks = h.kinds in cc
at_taken t text a k ks w (x ∷ ts) is h =
    let e : kinds_of (x ∷ ts) ≡ k ∷ ks = ap kinds_of (sym is) ∙ h.kinds in
    let r : (meant text a (meaning_of t x.kind) x (record w { rest = ts })).rest ≡ ts = rest_meant text a (meaning_of t x.kind) x (record w { rest = ts }) in
    let n = subst (Every (λ (y : Token). HasNumber y.kind)) is h.numbers in
    record { kinds = ap kinds_of r ∙ (cc); numbers = subst (Every (λ (y : Token). HasNumber y.kind)) (sym r) n.1 }

-- and none
pub at_same : (ks : List ℕ) (w v : Walk) → v.rest ≡ w.rest → IsAt ks w → IsAt ks v
at_same ks w v is h = record { kinds = ap kinds_of is ∙ h.kinds; numbers = subst (Every (λ (y : Token). HasNumber y.kind)) (sym is) h.numbers }

-- a walk takes the tokens of its forest
pub walk_at : (t : Tables) (text : List ℕ) (a : Action) (f : Forest) (ks : List ℕ) (w : Walk) → IsAt (tokens f ++ ks) w → IsAt ks (walk t text a f w)
walk_at t text a Nothing ks w h = h
walk_at t text a (Leaf k rest) ks w h = walk_at t text a rest ks (taken t text a w) (at_taken t text a k (tokens rest ++ ks) w w.rest refl h)
walk_at t text a (Branch p below rest) ks w h =
    let b = action_at t p in
    let v = walk t text b below (entered b w) in
    let e : IsAt (tokens below ++ (tokens rest ++ ks)) (entered b w) = at_same (tokens below ++ (tokens rest ++ ks)) w (entered b w) (rest_entered b w)
    (record { kinds = h.kinds ∙ append_assoc (tokens below) (tokens rest) ks; numbers = h.numbers }) in
    let i = walk_at t text b below (tokens rest ++ ks) (entered b w) e in
    walk_at t text a rest ks (left b (saved b w) v) (at_same (tokens rest ++ ks) v (left b (saved b w) v) (rest_left b (saved b w) v) i)

-- a token that is taken, by its number
taken_stands : (t : Tables) (text : List ℕ) (a : Action) (k : ℕ) (ks : List ℕ) (w : Walk) (ts : List Token) (base : ℕ) (before : Option Waiting) (s s' : Effect)
    → w.rest ≡ ts → IsAt (k ∷ ks) w
    → token_effect a (meaning_at t k) s ≡ Some s' → Stands base before s w.reading → Stands base before s' (taken_from t text a ts w).reading
taken_stands t text a k ks w [] base before s s' is h e stands = let x : kinds_of w.rest ≡ [] = ap kinds_of is in let y : kinds_of w.rest ≡ k ∷ ks = h.kinds
    in cc
taken_stands t text a k ks w (x ∷ ts) base before s s' is h e stands =
    let all : kinds_of (x ∷ ts) ≡ k ∷ ks = ap kinds_of (sym is) ∙ h.kinds in
    let one : terminal x.kind ≡ k = cc in
    let n = subst (Every (λ (y : Token). HasNumber y.kind)) is h.numbers in
    let m : meaning_at t k ≡ meaning_of t x.kind = ap (meaning_at t) (sym one) ∙ meaning_same t x.kind n.0 in
    meant_stands text a (meaning_of t x.kind) x (record w { rest = ts }) base before s s' (ap (λ y. token_effect a y s) (sym m) ∙ e)
    (record { nodes = stands.nodes; waiting = stands.waiting })

-- Facts of the tests.

-- what the test says of one production
pub rule_meets : (t : Tables) (claims : List Claim) (n p : ℕ) (rs : List Rule) (r : Rule) → all_meet t claims n rs ≡ true → slice_get rs p ≡ Some r
    → (meets_claim t claims (claim_at claims r.left) (action_at t (n + p)) r.right ≡ true) × (takes_whole t claims (action_at t (n + p)) r.right ≡ true)
rule_meets t claims n p [] r ok at = cc
rule_meets t claims n zero (x ∷ rs) r ok at =
    let same : x ≡ r = cc in
    let b = both_true (meets_claim t claims (claim_at claims x.left) (action_at t n) x.right && takes_whole t claims (action_at t n) x.right)
    (all_meet t claims (suc n) rs) ok in
    let c = both_true (meets_claim t claims (claim_at claims x.left) (action_at t n) x.right) (takes_whole t claims (action_at t n) x.right) b.0 in
    let z : n ≡ n + 0 = omega arith in
    subst (λ k. (meets_claim t claims (claim_at claims r.left) (action_at t k) r.right ≡ true) × (takes_whole t claims (action_at t k) r.right ≡ true)) z
    (subst (λ (y : Rule). (meets_claim t claims (claim_at claims y.left) (action_at t n) y.right ≡ true)
    × (takes_whole t claims (action_at t n) y.right ≡ true)) same c)
rule_meets t claims n (suc p) (x ∷ rs) r ok at =
    let b = both_true (meets_claim t claims (claim_at claims x.left) (action_at t n) x.right && takes_whole t claims (action_at t n) x.right)
    (all_meet t claims (suc n) rs) ok in
    let z : suc n + p ≡ n + suc p = omega arith in
    subst (λ k. (meets_claim t claims (claim_at claims r.left) (action_at t k) r.right ≡ true)
    × (takes_whole t claims (action_at t k) r.right ≡ true)) z (rule_meets t claims (suc n) p rs r b.1 at)

some_effect : (t : Tables) (claims : List Claim) (a : Action) (ss : List Symbol) (o : Option Effect) (s : Effect) → effects t claims a ss o ≡ Some s
    → (x : Effect) × (o ≡ Some x)
some_effect t claims a ss None s is = cc
some_effect t claims a ss (Some x) s is = (x, refl)

-- an effect that is free
pub free_effect : (n : ℕ) (o : Option Effect) → is_free n o ≡ true → o ≡ Some (effect n Free)
free_effect n None is = cc
free_effect n (Some s) is = go s.waits refl is where
  go : (q : Waits) → s.waits ≡ q → frees n s.values q ≡ true → Some s ≡ Some (effect n Free)
  go Free w e = let v : s.values ≡ n = eqb-true s.values n e in ap (λ m. Some (effect m s.waits)) v ∙ ap (λ q. Some (effect n q)) w
  go other w e = cc

kept_effect : (n : ℕ) (o : Option Effect) → is_kept n o ≡ true → o ≡ Some (effect n Kept)
kept_effect n None is = cc
kept_effect n (Some s) is = go s.waits refl is where
  go : (q : Waits) → s.waits ≡ q → keeps n s.values q ≡ true → Some s ≡ Some (effect n Kept)
  go Kept w e = let v : s.values ≡ n = eqb-true s.values n e in ap (λ m. Some (effect m s.waits)) v ∙ ap (λ q. Some (effect n q)) w
  go other w e = cc

-- Operators that take their values.

sign_applied : (o : Operator) (place : ℕ) (ns : List DraftNode) (n : ℕ) → is_sign o ≡ true → stand_in ns (Some 0) ≡ Some (suc n)
    → stand_in (ns ++ applying o place) (Some 0) ≡ Some (suc n)
sign_applied operator.Not place ns n is h = pushed_stands ns _ (suc n) h
sign_applied (operator.Binary binary.Add) place ns n is h = pushed_stands ns _ (suc n) h
sign_applied (operator.Binary binary.Subtract) place ns n is h = pushed_stands ns _ (suc n) h
sign_applied other place ns n is h = cc

-- at the end of a Level
level_stands : (base n : ℕ) (q : Waits) (before : Option Waiting) (r : Reading) → level_end (Some (effect n q)) ≡ Some (effect 1 Free)
    → Stands base before (effect n q) r
    → stand_in (applied r.nodes r.operator) (Some 0) ≡ Some (base + 1)
level_stands base n Free before r is h =
    let v : n ≡ 1 = (let e : effect n Free ≡ effect 1 Free = cc in ap (λ (x : Effect). x.values) e) in
    ap (λ o. stand_in (applied r.nodes o) (Some 0)) h.waiting ∙ (h.nodes ∙ ap (λ m. Some (base + m)) v)
level_stands base (suc n) ForOne before r is h =
    let v : suc n ≡ 1 = (let e : effect (suc n) Free ≡ effect 1 Free = cc in ap (λ (x : Effect). x.values) e) in
    let x = h.waiting.0 in
    let c : base + suc n ≡ suc (base + n) = omega arith in
    ap (λ o. stand_in (applied r.nodes o) (Some 0)) h.waiting.1
    ∙ (sign_applied x.operator x.place r.nodes (base + n) h.waiting.2 (h.nodes ∙ ap Some c) ∙ ap Some (omega (arith, v)))
level_stands base (suc (suc (suc n))) ForThree before r is h =
    let v : suc n ≡ 1 = (let e : effect (suc n) Free ≡ effect 1 Free = cc in ap (λ (x : Effect). x.values) e) in
    let x = h.waiting.0 in
    let c : base + suc (suc (suc n)) ≡ suc (suc (suc (base + n))) = omega arith in
    ap (λ o. stand_in (applied r.nodes o) (Some 0)) h.waiting.1
    ∙ (ap (λ o. stand_in (r.nodes ++ applying o x.place) (Some 0)) h.waiting.2
    ∙ (pushed_stands r.nodes _ (suc (suc (suc (base + n)))) (h.nodes ∙ ap Some c) ∙ ap Some (omega (arith, v))))
level_stands base n other before r is h = cc

-- at the beginning of a Tail
tail_stands : (base n : ℕ) (q : Waits) (before : Option Waiting) (r : Reading) (s : Effect) → tail_effect n q ≡ Some s → Stands base before (effect n q) r
    → (m : ℕ) × (s ≡ effect (suc m) Free) × (stand_in (joined r.nodes r.operator) (Some 0) ≡ Some (base + m + 1))
tail_stands base (suc n) Free before r s is h =
    (n, cc, ap (λ o. stand_in (joined r.nodes o) (Some 0)) h.waiting ∙ (h.nodes ∙ ap Some (omega arith)))
tail_stands base (suc (suc n)) ForTwo before r s is h =
    let x = h.waiting.0 in
    let c : base + suc (suc n) ≡ suc (suc (base + n)) = omega arith in (
      n,
      cc,
      ap (λ o. stand_in (joined r.nodes o) (Some 0)) h.waiting.2
          ∙ (ap (λ o. stand_in (r.nodes ++ joining o x.place) (Some 0)) h.waiting.3
          ∙ (pushed_stands r.nodes _ (suc (suc (base + n))) (h.nodes ∙ ap Some c) ∙ ap Some (omega arith))),
    )
tail_stands base n other before r s is h = cc

-- A production, where what is said of the walk below it is known.

-- what stands before and after the walk below a production
abbrev Below : Tables → List Claim → Action → List Symbol → Walk → Walk → Type 0
Below t claims a ss e v = (base : ℕ) (before : Option Waiting) (s s' : Effect) → effects t claims a ss (Some s) ≡ Some s' → Stands base before s e.reading
    → Stands base before s' v.reading

plain_same : (a : Action) (w v : Walk) → is_plain a ≡ true → ((entered a w).reading ≡ w.reading) × ((left a (saved a w) v).reading ≡ v.reading)
plain_same action.Group w v is = (refl, refl)
plain_same action.Name w v is = (refl, refl)
plain_same action.Short w v is = (refl, refl)
plain_same action.Segment w v is = (refl, refl)
plain_same action.Step w v is = (refl, refl)
plain_same action.Star w v is = (refl, refl)
plain_same other w v is = cc

level_node : (t : Tables) (claims : List Claim) (ss : List Symbol) (w v : Walk) (base : ℕ) (before : Option Waiting) (s : Effect)
    → is_free 1 (level_end (effects t claims action.Level ss (Some (effect 0 Free)))) ≡ true → Below t claims action.Level ss (entered action.Level w) v
    → Stands base before s w.reading
    → Stands base before (one_more s) (left action.Level (saved action.Level w) v).reading
level_node t claims ss w v base before s ok on h = go (effects t claims action.Level ss (Some (effect 0 Free))) refl where
  go : (o : Option Effect) → effects t claims action.Level ss (Some (effect 0 Free)) ≡ o
      → Stands base before (one_more s) (left action.Level (saved action.Level w) v).reading
  go None is = let e : is_free 1 (level_end None) ≡ true = subst (λ x. is_free 1 (level_end x) ≡ true) is ok in cc
  go (Some x) is =
      let e : level_end (Some x) ≡ Some (effect 1 Free) = free_effect 1 (level_end (Some x)) (subst (λ y. is_free 1 (level_end y) ≡ true) is ok) in
      let inner = on (base + s.values) None (effect 0 Free) x is (record { nodes = h.nodes ∙ ap Some (omega arith); waiting = refl }) in
      record {
        nodes = level_stands (base + s.values) x.values x.waits None v.reading e inner ∙ ap Some (omega arith);
        waiting = h.waiting;
      }

plain_node : (t : Tables) (claims : List Claim) (a : Action) (ss : List Symbol) (w v : Walk) (base n : ℕ) (before : Option Waiting) (s s' : Effect)
    → is_plain a ≡ true
    → is_kept n (effects t claims a ss (Some (effect 0 Kept))) ≡ true → s'.values ≡ s.values + n → s'.waits ≡ s.waits → Below t claims a ss (entered a w) v
    → Stands base before s w.reading
    → Stands base before s' (left a (saved a w) v).reading
plain_node t claims a ss w v base n before s s' plain ok values waits on h =
    let p = plain_same a w v plain in
    let e : effects t claims a ss (Some (effect 0 Kept)) ≡ Some (effect n Kept) = kept_effect n (effects t claims a ss (Some (effect 0 Kept))) ok in
    let begun : Stands (base + s.values) w.reading.operator (effect 0 Kept) (entered a w).reading =
    subst (Stands (base + s.values) w.reading.operator (effect 0 Kept)) (sym p.0) (record { nodes = h.nodes ∙ ap Some (omega arith); waiting = refl }) in
    let i = on (base + s.values) w.reading.operator (effect 0 Kept) (effect n Kept) e begun in
    subst (Stands base before s') (sym p.1) (record {
      nodes = i.nodes ∙ ap Some (omega (arith, values));
      waiting = subst (HasWaits s'.waits before) (sym i.waiting) (subst (λ q. HasWaits q before w.reading.operator) (sym waits) h.waiting);
    })

tail_node : (t : Tables) (claims : List Claim) (ss : List Symbol) (w v : Walk) (base : ℕ) (before : Option Waiting) (s s' : Effect)
    → is_free 1 (effects t claims action.Tail ss (Some (effect 1 Free))) ≡ true → tail_effect s.values s.waits ≡ Some s'
    → Below t claims action.Tail ss (entered action.Tail w) v
    → Stands base before s w.reading → Stands base before s' v.reading
tail_node t claims ss w v base before s s' ok is on h =
    let x = tail_stands base s.values s.waits before w.reading s' is h in
    let e : effects t claims action.Tail ss (Some (effect 1 Free)) ≡ Some (effect 1 Free) =
    free_effect 1 (effects t claims action.Tail ss (Some (effect 1 Free))) ok in
    let i = on (base + x.0) before (effect 1 Free) (effect 1 Free) e (record { nodes = x.2; waiting = refl }) in
    subst (λ y. Stands base before y v.reading) (sym x.1) (record { nodes = i.nodes ∙ ap Some (omega arith); waiting = i.waiting })

-- a symbol for one sign
sign_node : (t : Tables) (claims : List Claim) (text : List ℕ) (g : Table) (a : Action) (ss : List Symbol) (below : Forest) (test : Meaning
    → Bool) (ks : List ℕ) (w : Walk) → is_plain a ≡ true → is_star a ≡ false
    → one_sign t test ss ≡ true → ((m : Meaning) → test m ≡ true → (o : Operator) × (m ≡ meaning.Operator o)) → IsDerivation g ss below
    → IsAt (tokens below ++ ks) w
    → (o : Operator) × (test (meaning.Operator o) ≡ true)
    × ((place : ℕ) × ((walk t text a below w).reading ≡ record w.reading { operator = Some (record { operator = o; place = place }) }))
sign_node t claims text g a [] below test ks w plain star one sort d at = cc
sign_node t claims text g a (Inner b ∷ ss) below test ks w plain star one sort d at = cc
sign_node t claims text g a (Terminal k ∷ s ∷ ss) below test ks w plain star one sort d at = cc
sign_node t claims text g a (Terminal k ∷ []) Nothing test ks w plain star one sort d at = absurd d
sign_node t claims text g a (Terminal k ∷ []) (Branch p x y) test ks w plain star one sort d at = absurd d
sign_node t claims text g a (Terminal k ∷ []) (Leaf j (Leaf i f)) test ks w plain star one sort d at = absurd d.1
sign_node t claims text g a (Terminal k ∷ []) (Leaf j (Branch p x y)) test ks w plain star one sort d at = absurd d.1
sign_node t claims text g a (Terminal k ∷ []) (Leaf j Nothing) test ks w plain star one sort d at =
    let m = sort (meaning_at t k) one in
    let j_is : j ≡ k = d.0 in
    (m.0, subst (λ x. test x ≡ true) m.1 one, taken_sign w.rest refl m.0 (ap (meaning_at t) j_is ∙ m.1)) where
      set_operator : (a : Action) (o : Operator) (place : ℕ) (w : Walk) → is_star a ≡ false
          → (meant_operator a o place w).reading ≡ record w.reading { operator = Some (record { operator = o; place = place }) }
      set_operator action.Star o place w is = cc
      set_operator other o place w is = refl

      taken_sign : (ts : List Token) → w.rest ≡ ts → (o : Operator) → meaning_at t j ≡ meaning.Operator o
          → (place : ℕ) × ((taken_from t text a ts w).reading ≡ record w.reading { operator = Some (record { operator = o; place = place }) })
      taken_sign [] is o m = let x : kinds_of w.rest ≡ [] = ap kinds_of is in let y : kinds_of w.rest ≡ j ∷ ks = at.kinds in cc
      taken_sign (x ∷ ts) is o m =
          let all : kinds_of (x ∷ ts) ≡ j ∷ ks = ap kinds_of (sym is) ∙ at.kinds in
          let one : terminal x.kind ≡ j = cc in
          let n = subst (Every (λ (y : Token). HasNumber y.kind)) is at.numbers in
          let means : meaning_of t x.kind ≡ meaning.Operator o = sym (meaning_same t x.kind n.0) ∙ (ap (meaning_at t) one ∙ m) in
          (x.from, ap (λ y. (meant text a y x (record w { rest = ts })).reading) means ∙ set_operator a o x.from (record w { rest = ts }) star)

between_is : (m : Meaning) → is_between m ≡ true → (b : BinaryOp) × (m ≡ meaning.Operator (operator.Binary b))
between_is (meaning.Operator (operator.Binary b)) is = (b, refl)
between_is other is = cc

before_one_is : (m : Meaning) → is_before_one m ≡ true → (o : Operator) × (m ≡ meaning.Operator o)
before_one_is (meaning.Operator o) is = (o, refl)
before_one_is other is = cc

not_true : (b : Bool) → not b ≡ true → b ≡ false
not_true true is = cc
not_true false is = refl

over_free : (q : Waits) (n : ℕ) (r : Waits) (s' : Effect) → waits_over q n r ≡ Some s' → effect n q ≡ s'
over_free q n Kept s' is = cc
over_free q n other s' is = cc

node_stands : (t : Tables) (claims : List Claim) (text : List ℕ) (g : Table) (c : Claim) (a : Action) (ss : List Symbol) (below : Forest) (ks : List ℕ)
    (w : Walk) (base : ℕ) (before : Option Waiting) (s s' : Effect)
    → meets_claim t claims c a ss ≡ true → claim_effect c s ≡ Some s' → IsDerivation g ss below → IsAt (tokens below ++ ks) w
    → Below t claims a ss (entered a w) (walk t text a below (entered a w)) → Stands base before s w.reading
    → Stands base before s' (left a (saved a w) (walk t text a below (entered a w))).reading
node_stands t claims text g Whole a ss below ks w base before s s' ok is d at on h = by_action a refl ok on where
  e : one_more s ≡ s'
  e = cc

  by_action : (b : Action) → a ≡ b → is_whole_rule t claims b ss ≡ true → Below t claims b ss (entered b w) (walk t text b below (entered b w))
      → Stands base before s' (left a (saved a w) (walk t text a below (entered a w))).reading
  by_action action.Level same ok on = subst (λ x. Stands base before s' (left x (saved x w) (walk t text x below (entered x w))).reading) (sym same)
      (subst (λ y. Stands base before y (left action.Level (saved action.Level w) (walk t text action.Level below (entered action.Level w))).reading) e
      (level_node t claims ss w (walk t text action.Level below (entered action.Level w)) base before s ok on h))
  by_action other same ok on = subst (λ x. Stands base before s' (left x (saved x w) (walk t text x below (entered x w))).reading) (sym same)
      (let b = both_true (is_plain other) (is_kept 1 (effects t claims other ss (Some (effect 0 Kept)))) ok in
      plain_node t claims other ss w (walk t text other below (entered other w)) base 1 before s s' b.0 b.1
      (ap (λ (y : Effect). y.values) (sym e) ∙ omega arith) (ap (λ (y : Effect). y.waits) (sym e)) on h)
node_stands t claims text g Tail action.Tail ss below ks w base before s s' ok is d at on h =
    tail_node t claims ss w (walk t text action.Tail below (entered action.Tail w)) base before s s' ok is on h
node_stands t claims text g Tail a ss below ks w base before s s' ok is d at on h = cc
node_stands t claims text g Between a ss below ks w base before s s' ok is d at on h =
    let b = both_true (is_plain a) (not (is_star a) && one_sign t is_between ss) ok in
    let c = both_true (not (is_star a)) (one_sign t is_between ss) b.1 in
    let p = plain_same a w (walk t text a below (entered a w)) b.0 in
    let same : (entered a w).rest ≡ w.rest = rest_entered a w in
    let x = sign_node t claims text g a ss below is_between ks (entered a w) b.0 (not_true (is_star a) c.0) c.1
    (λ m y. (operator.Binary (between_is m y).0, (between_is m y).1)) d (at_same (tokens below ++ ks) w (entered a w) same at) in
    let o = between_is (meaning.Operator x.0) x.1 in
    let e : effect s.values ForTwo ≡ s' = over_free ForTwo s.values s.waits s' is in
    let r : (left a (saved a w) (walk t text a below (entered a w))).reading ≡ record w.reading { operator = Some (record { operator = x.0; place = x.2.0 }) } =
    p.1 ∙ (x.2.1 ∙ ap (λ (y : Reading). record y { operator = Some (record { operator = x.0; place = x.2.0 }) }) p.0) in
    let inside : x.0 ≡ operator.Binary o.0 = (let z = o.1 in cc) in
    subst (Stands base before s') (sym r) (subst (λ y. Stands base before y (record w.reading { operator = Some (record { operator = x.0; place = x.2.0 }) })) e
    (record { nodes = h.nodes; waiting = (record { operator = x.0; place = x.2.0 }, o.0, refl, inside) }))
node_stands t claims text g BeforeOne a ss below ks w base before s s' ok is d at on h =
    let b = both_true (is_plain a) (not (is_star a) && one_sign t is_before_one ss) ok in
    let c = both_true (not (is_star a)) (one_sign t is_before_one ss) b.1 in
    let p = plain_same a w (walk t text a below (entered a w)) b.0 in
    let same : (entered a w).rest ≡ w.rest = rest_entered a w in
    let x = sign_node t claims text g a ss below is_before_one ks (entered a w) b.0 (not_true (is_star a) c.0) c.1 before_one_is d
    (at_same (tokens below ++ ks) w (entered a w) same at) in
    let e : effect s.values ForOne ≡ s' = over_free ForOne s.values s.waits s' is in
    let r : (left a (saved a w) (walk t text a below (entered a w))).reading ≡ record w.reading { operator = Some (record { operator = x.0; place = x.2.0 }) } =
    p.1 ∙ (x.2.1 ∙ ap (λ (y : Reading). record y { operator = Some (record { operator = x.0; place = x.2.0 }) }) p.0) in
    subst (Stands base before s') (sym r) (subst (λ y. Stands base before y (record w.reading { operator = Some (record { operator = x.0; place = x.2.0 }) })) e
    (record { nodes = h.nodes; waiting = (record { operator = x.0; place = x.2.0 }, refl, x.1) }))
node_stands t claims text g Silent a ss below ks w base before s s' ok is d at on h =
    let e : s ≡ s' = cc in
    let b = both_true (is_plain a) (is_kept 0 (effects t claims a ss (Some (effect 0 Kept)))) ok in
    plain_node t claims a ss w (walk t text a below (entered a w)) base 0 before s s' b.0 b.1 (ap (λ (y : Effect). y.values) (sym e) ∙ omega arith)
    (ap (λ (y : Effect). y.waits) (sym e)) on h
node_stands t claims text g Other a ss below ks w base before s s' ok is d at on h = cc

-- the walk over a derivation of symbols does what their claims say
pub walk_stands : (t : Tables) (claims : List Claim) (text : List ℕ) (g : Table) → are_wholes t claims g ≡ true
    → (f : Forest) (ss : List Symbol) (a : Action) (ks : List ℕ) (w : Walk) (base : ℕ) (before : Option Waiting) (s s' : Effect)
    → IsDerivation g ss f → IsAt (tokens f ++ ks) w → effects t claims a ss (Some s) ≡ Some s' → Stands base before s w.reading
    → Stands base before s' (walk t text a f w).reading
walk_stands t claims text g ok Nothing [] a ks w base before s s' d at e h = let same : s ≡ s' = cc in subst (λ x. Stands base before x w.reading) same h
walk_stands t claims text g ok Nothing (Terminal k ∷ ss) a ks w base before s s' d at e h = absurd d
walk_stands t claims text g ok Nothing (Inner b ∷ ss) a ks w base before s s' d at e h = absurd d
walk_stands t claims text g ok (Leaf j f) [] a ks w base before s s' d at e h = absurd d
walk_stands t claims text g ok (Leaf j f) (Inner b ∷ ss) a ks w base before s s' d at e h = absurd d
walk_stands t claims text g ok (Leaf j f) (Terminal k ∷ ss) a ks w base before s s' d at e h =
    let x = some_effect t claims a ss (token_effect a (meaning_at t k) s) s' e in
    let same : meaning_at t j ≡ meaning_at t k = ap (meaning_at t) d.0 in
    let one = taken_stands t text a j (tokens f ++ ks) w w.rest base before s x.0 refl at (ap (λ m. token_effect a m s) same ∙ x.1) h in
    walk_stands t claims text g ok f ss a ks (taken t text a w) base before x.0 s' d.1 (at_taken t text a j (tokens f ++ ks) w w.rest refl at)
    (ap (effects t claims a ss) (sym x.1) ∙ e) one
walk_stands t claims text g ok (Branch p below f) [] a ks w base before s s' d at e h = absurd d
walk_stands t claims text g ok (Branch p below f) (Terminal k ∷ ss) a ks w base before s s' d at e h = absurd d
walk_stands t claims text g ok (Branch p below f) (Inner c ∷ ss) a ks w base before s s' d at e h =
    let r : Rule = d.0.0 in
    let b = action_at t p in
    let v = walk t text b below (entered b w) in
    let x = some_effect t claims a ss (claim_effect (claim_at claims c) s) s' e in
    let meets = rule_meets t claims 0 p g.rules r ok d.0.1 in
    let zero_add : 0 + p ≡ p = omega arith in
    let meets_here : meets_claim t claims (claim_at claims c) b r.right ≡ true =
    subst (λ y. meets_claim t claims (claim_at claims y) b r.right ≡ true) d.0.2
    (subst (λ q. meets_claim t claims (claim_at claims r.left) (action_at t q) r.right ≡ true) zero_add meets.0) in
    let here : IsAt (tokens below ++ (tokens f ++ ks)) w = record { kinds = at.kinds ∙ append_assoc (tokens below) (tokens f) ks; numbers = at.numbers } in
    let begun : IsAt (tokens below ++ (tokens f ++ ks)) (entered b w) = at_same (tokens below ++ (tokens f ++ ks)) w (entered b w) (rest_entered b w) here in
    let one = node_stands t claims text g (claim_at claims c) b r.right below (tokens f ++ ks) w base before s x.0 meets_here x.1 d.0.3 here
    (λ base' before' q q' y z. walk_stands t claims text g ok below r.right b (tokens f ++ ks) (entered b w) base' before' q q' d.0.3 begun y z) h in
    let after : IsAt (tokens f ++ ks) (left b (saved b w) v) =
    at_same (tokens f ++ ks) v (left b (saved b w) v) (rest_left b (saved b w) v) (walk_at t text b below (tokens f ++ ks) (entered b w) begun) in
    walk_stands t claims text g ok f ss a ks (left b (saved b w) v) base before x.0 s' d.1 after (ap (effects t claims a ss) (sym x.1) ∙ e) one
