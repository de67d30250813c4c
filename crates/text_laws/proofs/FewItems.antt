-- A text has fewer items than bytes.
use Rattle.std.proofs.Common.{◌≡◌, ℕ, zero, suc, ◌+◌, ◌≤◌, true, List, [], ◌∷◌, ◌++◌, length, ap, subst, arith, length-append}
use Rattle.std.specs.Prelude.{slice_get, nat_le, Some}
use Rattle.std.proofs.lemmas.Bool.{leb-true}
use Rattle.ll_core.specs.declared.grammar.Symbol.{Symbol}
use Rattle.ll_core.specs.declared.grammar.Symbol.TheVariants.{Terminal, Inner}
use Rattle.ll_core.specs.Table.{Rule, Table}
use Rattle.ll_core.specs.Derives.{Forest, Nothing, Token as Leaf, Node as Branch, IsDerivation, tokens}
use Rattle.text_model.specs.declared.action.Action.{Action}
use Rattle.text_model.specs.declared.action.Action.TheVariants as action
use Rattle.text_model.specs.declared.action.Taking.{Taking}
use Rattle.text_model.specs.declared.action.Taking.TheVariants as taking
use Rattle.text_model.specs.declared.draft.Reading.{Reading}
use Rattle.text_model.specs.Tables.{Tables, action_at}
use Rattle.text_model.specs.Walk.{Walk, Frame, owned_member, alias_member, import_of, saved, entered, given, left, taken, walk}
use Rattle.text_model.specs.Slacks.{weight, weights, slack_at, slack_of, makes, all_slack}
use Rattle.text_laws.proofs.CoherenceLaws.{alike_from}
use Rattle.linker_base.proofs.Cases.{both_true}

-- how many members and imports there are
abbrev pub items_of : Walk → ℕ
items_of w = length w.members + length w.imports

-- weights add up
pub weights-append : (js ks : List ℕ) → weights (js ++ ks) ≡ weights js + weights ks
weights-append [] ks = omega arith
weights-append (j ∷ js) ks = omega (arith, weights-append js ks)

-- what the test says of one production
pub rule_slack : (t : Tables) (claims : List ℕ) (n p : ℕ) (rs : List Rule) (r : Rule) → all_slack t claims n rs ≡ true → slice_get rs p ≡ Some r
    → slack_at claims r.left + makes (action_at t (n + p)) ≤ slack_of claims r.right
rule_slack t claims n p [] r ok at = cc
rule_slack t claims n zero (x ∷ rs) r ok at =
    let same : x ≡ r = cc in
    let b = both_true (nat_le (slack_at claims x.left + makes (action_at t n)) (slack_of claims x.right)) (all_slack t claims (suc n) rs) ok in
    let z : n ≡ n + 0 = omega arith in
    subst (λ k. slack_at claims r.left + makes (action_at t k) ≤ slack_of claims r.right) z
    (subst (λ (y : Rule). slack_at claims y.left + makes (action_at t n) ≤ slack_of claims y.right) same
    (leb-true (slack_at claims x.left + makes (action_at t n)) (slack_of claims x.right) b.0))
rule_slack t claims n (suc p) (x ∷ rs) r ok at =
    let b = both_true (nat_le (slack_at claims x.left + makes (action_at t n)) (slack_of claims x.right)) (all_slack t claims (suc n) rs) ok in
    let z : suc n + p ≡ n + suc p = omega arith in
    subst (λ k. slack_at claims r.left + makes (action_at t k) ≤ slack_of claims r.right) z (rule_slack t claims (suc n) p rs r b.1 at)

given_items : (d : Taking) (f : Frame) (r : Reading) (w : Walk) → items_of (given d f r w) ≡ items_of w + makes (action.Take d)
given_items taking.Alias f r w = omega (arith, length-append w.members (alias_member f r w ∷ []))
given_items taking.Import f r w = omega (arith, length-append w.imports (import_of f r w ∷ []))
given_items taking.Subclass f r w = omega arith
given_items taking.Typing f r w = omega arith
given_items taking.Subsetting f r w = omega arith
given_items taking.Redefinition f r w = omega arith
given_items taking.ReferenceSubsetting f r w = omega arith
given_items taking.Bounds f r w = omega arith
given_items taking.Value f r w = omega arith
given_items taking.Result f r w = omega arith

-- an action at its beginning and its end makes so many items
pub node_items_less : (a : Action) (w v : Walk) (more less : ℕ) → items_of v + less ≤ items_of (entered a w) + more
    → items_of (left a (saved a w) v) + less ≤ items_of w + makes a + more
node_items_less (action.Element k) w v more less h = omega (arith, h, length-append w.members (owned_member w ∷ []))
node_items_less (action.Take d) w v more less h = omega (arith, h, given_items d (saved (action.Take d) w) v.reading (record v { reading = w.reading }))
node_items_less action.NamedEnd w v more less h = omega (arith, h)
node_items_less action.Level w v more less h = omega (arith, h)
node_items_less action.Tail w v more less h = omega (arith, h)
node_items_less other w v more less h = omega (arith, h)

-- a walk makes fewer items than its tokens weigh, by the slack
pub walk_items : (t : Tables) (claims : List ℕ) (text : List ℕ) (g : Table) → all_slack t claims 0 g.rules ≡ true
    → (f : Forest) (ss : List Symbol) (a : Action) (w : Walk) → IsDerivation g ss f
    → items_of (walk t text a f w) + slack_of claims ss ≤ items_of w + weights (tokens f)
walk_items t claims text g ok Nothing [] a w d = omega arith
walk_items t claims text g ok Nothing (Terminal k ∷ ss) a w d = absurd d
walk_items t claims text g ok Nothing (Inner b ∷ ss) a w d = absurd d
walk_items t claims text g ok (Leaf j f) [] a w d = absurd d
walk_items t claims text g ok (Leaf j f) (Inner b ∷ ss) a w d = absurd d
walk_items t claims text g ok (Leaf j f) (Terminal k ∷ ss) a w d =
    let s = alike_from t text a w.rest w in
    let i = walk_items t claims text g ok f ss a (taken t text a w) d.1 in
    let m : length (taken t text a w).members ≡ length w.members = ap length s.members in
    let n : length (taken t text a w).imports ≡ length w.imports = ap length s.imports in
    let k_is : weight j ≡ weight k = ap weight d.0 in
    omega (arith, i, m, n, k_is)
walk_items t claims text g ok (Branch p below f) [] a w d = absurd d
walk_items t claims text g ok (Branch p below f) (Terminal k ∷ ss) a w d = absurd d
walk_items t claims text g ok (Branch p below f) (Inner c ∷ ss) a w d =
    let r : Rule = d.0.0 in
    let b = action_at t p in
    let v = walk t text b below (entered b w) in
    let zero_add : 0 + p ≡ p = omega arith in
    let slack : slack_at claims c + makes b ≤ slack_of claims r.right =
    subst (λ y. slack_at claims y + makes b ≤ slack_of claims r.right) d.0.2
    (subst (λ q. slack_at claims r.left + makes (action_at t q) ≤ slack_of claims r.right) zero_add (rule_slack t claims 0 p g.rules r ok d.0.1)) in
    let i = walk_items t claims text g ok below r.right b (entered b w) d.0.3 in
    let n = node_items_less b w v (weights (tokens below)) (slack_of claims r.right) i in
    let after = walk_items t claims text g ok f ss a (left b (saved b w) v) d.1 in
    omega (arith, slack, n, after, weights-append (tokens below) (tokens f))
