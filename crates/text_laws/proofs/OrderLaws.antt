-- Of the walk over a derivation: what has a place stands in order, and before what comes.
use Rattle.std.proofs.Common.{◌≡◌, ℕ, zero, suc, ◌+◌, ◌<◌, ◌≤◌, Bool, true, false, ◌&&◌, cond, List, [], ◌∷◌, ◌++◌, length, refl, ap, sym, subst, ◌∙◌, arith, append_assoc}
use Rattle.std.specs.Prelude.{map, slice_get, not, ◌||◌, Option, Some, None}
use Rattle.std.specs.List.{flat_map}
use Rattle.element_store.specs.declared.kind.Kind.{Kind}
use Rattle.std.proofs.lemmas.List.{map-append, length-map}
use Rattle.element_store.specs.declared.outcome.Role.TheVariants as role
use Rattle.element_store.specs.declared.lists.Item.TheVariants as item
use Rattle.token_core.specs.declared.token.Token.{Token}
use Rattle.token_core.specs.Terminals.{terminal, HasNumber}
use Rattle.token_core.specs.Reading.{bytes_of, name_meaning}
use Rattle.ll_core.specs.declared.grammar.Symbol.{Symbol}
use Rattle.ll_core.specs.declared.grammar.Symbol.TheVariants.{Terminal, Inner}
use Rattle.ll_core.specs.Table.{Rule, Table}
use Rattle.ll_core.specs.Derives.{Forest, Nothing, Token as Leaf, Node as Branch, IsDerivation, tokens}
use Rattle.text_model.specs.declared.action.Action.{Action}
use Rattle.text_model.specs.declared.action.Action.TheVariants as action
use Rattle.text_model.specs.declared.action.Taking.{Taking}
use Rattle.text_model.specs.declared.action.Taking.TheVariants as taking
use Rattle.text_model.specs.declared.action.Operator.{Operator}
use Rattle.text_model.specs.declared.action.Meaning.{Meaning}
use Rattle.text_model.specs.declared.action.Meaning.TheVariants as meaning
use Rattle.text_model.specs.declared.draft.Seen.{Seen}
use Rattle.text_model.specs.declared.draft.Path.{Path}
use Rattle.text_model.specs.declared.draft.Reading.{Reading}
use Rattle.text_model.specs.Tables.{Tables, action_at, meaning_of}
use Rattle.text_model.specs.Drafts.{draft, names, first_name, path_or, adjusted}
use Rattle.text_model.specs.Walk.{Walk, Frame, begun_place, fresh, with_item, with_inner, owned_member, alias_member, import_of, saved, entered, given, left, named, meant, meant_name, meant_operator, taken, taken_from, walk}
use Rattle.text_model.specs.Profile.{kinds_of}
use Rattle.text_laws.specs.Coherent.{stock, IsCoherent}
use Rattle.text_laws.specs.Fits.{Every}
use Rattle.text_model.specs.Wholes.{meaning_at}
use Rattle.text_model.specs.Modes.{Mode, Clear, Used, ModeClaim, mode_claim_at, is_used, mode_after, is_visibility, token_mode, modes, are_quiet, is_clear, item_mode, held_mode, production_mode, makes_none, is_freer, meets_mode, all_modes}
use Rattle.text_laws.proofs.ListLemmas.{map-adjusted, map-adjusted_same}
use Rattle.text_laws.proofs.CoherenceSteps.{with_owned, with_held, bare}
use Rattle.text_laws.proofs.CoherenceLaws.{IsAlike, alike_coherent, alike_from, entered_on, walk_on, left_on, role_push}
use Rattle.text_laws.proofs.FittingLaws.{every_append, rest_meant, rest_entered, rest_left}
use Rattle.text_laws.proofs.WholeLaws.{IsAt, at_taken, at_same, walk_at, meaning_same}
use Rattle.text_laws.proofs.SpanLaws.{Rise, rise_lower, InSpan, Span, SpanOn, span_walk}
use Rattle.text_laws.proofs.OrderLemmas.{Sorted, InOrder, order_more, member_order, import_order, stands}
use Rattle.linker_base.proofs.Cases.{both_true}

-- Where the next item may begin.

abbrev pub AfterOne : ℕ → List Token → Type 0
AfterOne n [] = Unit {0}
AfterOne n (t ∷ ts) = Rise n ts

abbrev pub Placed : Mode → ℕ → Option Seen → List Token → Type 0
Placed Clear n None ts = Rise n ts
Placed Clear n (Some s) ts = (n ≤ s.place) × Rise (suc s.place) ts
Placed Used n None ts = AfterOne n ts
Placed Used n (Some s) ts = (n ≤ s.place) × Rise (suc s.place) ts

abbrev pub OrderOf : ℕ → Walk → Type 0
OrderOf k w = InOrder k (map stock w.elements) w.members w.imports

after_one : (n : ℕ) (ts : List Token) → Rise n ts → AfterOne n ts
after_one n [] r = tt
after_one n (t ∷ ts) r = rise_lower n (suc t.from) ts (omega (arith, r.0)) r.1

-- an item that begins
record Begun (n place : ℕ) (ts : List Token) : Type 0 where
  above : n ≤ place
  behind : AfterOne (suc place) ts
  from : Rise place ts

begun : (n : ℕ) (o : Option Seen) (ts : List Token) (k : ℕ) (ks : List ℕ) → kinds_of ts ≡ k ∷ ks → Placed Clear n o ts → Begun n (begun_place o ts) ts
begun n None [] k ks e p = cc
begun n None (t ∷ ts) k ks e p = record { above = p.0; behind = p.1; from = (omega arith, p.1) }
begun n (Some s) ts k ks e p = record { above = p.0; behind = after_one (suc s.place) ts p.1; from = rise_lower s.place (suc s.place) ts (omega arith) p.1 }

-- Tokens.

waiting_name : (a : Action) (t : Token) (bytes : List ℕ) (w : Walk) → (meant_name a t bytes w).waiting ≡ w.waiting
waiting_name action.Name t bytes w = refl
waiting_name action.Short t bytes w = refl
waiting_name action.Segment t bytes w = refl
waiting_name action.Step t bytes w = refl
waiting_name other t bytes w = refl

waiting_operator : (a : Action) (o : Operator) (place : ℕ) (w : Walk) → (meant_operator a o place w).waiting ≡ w.waiting
waiting_operator action.Star o place w = refl
waiting_operator other o place w = refl

waiting_meant : (text : List ℕ) (a : Action) (m : Meaning) (t : Token) (w : Walk) → is_visibility m ≡ false → (meant text a m t w).waiting ≡ w.waiting
waiting_meant text a (meaning.Visibility v) t w e = cc
waiting_meant text a meaning.Name t w e = waiting_name a t (name_meaning (bytes_of text t)) w
waiting_meant text a (meaning.Operator o) t w e = waiting_operator a o t.from w
waiting_meant text a other t w e = refl

visibility_is : (m : Meaning) → is_visibility m ≡ true → (text : List ℕ) (a : Action) (t : Token) (w : Walk) → (s : Seen)
    × ((meant text a m t w).waiting ≡ Some s) × (s.place ≡ t.from)
visibility_is (meaning.Visibility v) e text a t w = (_, refl, refl)
visibility_is other e text a t w = cc

-- one token taken
placed_on : (m : Mode) (n : ℕ) (o : Option Seen) (t : Token) (ts : List Token) → Placed m n o (t ∷ ts) → Placed Clear n o ts
placed_on Clear n None t ts p = rise_lower n (suc t.from) ts (omega (arith, p.0)) p.1
placed_on Clear n (Some s) t ts p = (p.0, rise_lower (suc s.place) (suc t.from) ts (omega (arith, p.1.0)) p.1.1)
placed_on Used n None t ts p = p
placed_on Used n (Some s) t ts p = (p.0, rise_lower (suc s.place) (suc t.from) ts (omega (arith, p.1.0)) p.1.1)

placed_seen : (n : ℕ) (o : Option Seen) (t : Token) (ts : List Token) (s : Seen) → s.place ≡ t.from → Placed Clear n o (t ∷ ts) → Placed Clear n (Some s) ts
placed_seen n None t ts s is p = (omega (arith, is, p.0), subst (λ k. Rise (suc k) ts) (sym is) p.1)
placed_seen n (Some x) t ts s is p = (omega (arith, is, p.0, p.1.0), subst (λ k. Rise (suc k) ts) (sym is) p.1.1)

order_alike : (k : ℕ) (w v : Walk) → IsAlike w v → OrderOf k w → OrderOf k v
order_alike k w v a o = subst (λ ss. InOrder k ss v.members v.imports) (sym a.stocks)
    (subst (λ ms. InOrder k (map stock w.elements) ms v.imports) (sym a.members)
    (subst (λ is. InOrder k (map stock w.elements) w.members is) (sym a.imports) o))

pub record Ordered (m : Mode) (n k : ℕ) (quiet : Bool) (w v : Walk) : Type 0 where
  pub end : ℕ
  pub later : n ≤ end
  pub placed : Placed m end v.waiting v.rest
  pub order : OrderOf end v
  pub calm : quiet ≡ true → OrderOf k v × (w.waiting ≡ None → v.waiting ≡ None)

token_order : (t : Tables) (text : List ℕ) (a : Action) (j : ℕ) (ks : List ℕ) (w : Walk) (ts : List Token) (m m' : Mode) (n k : ℕ) → w.rest ≡ ts
    → IsAt (j ∷ ks) w → k ≤ n
    → token_mode (meaning_at t j) m ≡ Some m' → Placed m n w.waiting w.rest → OrderOf k w
    → Ordered m' n k (not (is_visibility (meaning_at t j))) w (taken_from t text a ts w)
token_order t text a j ks w [] m m' n k is at le e p o = let x : kinds_of w.rest ≡ [] = ap kinds_of is in let y : kinds_of w.rest ≡ j ∷ ks = at.kinds in cc
token_order t text a j ks w (x ∷ ts) m m' n k is at le e p o =
    let all : kinds_of (x ∷ ts) ≡ j ∷ ks = ap kinds_of (sym is) ∙ at.kinds in
    let one : terminal x.kind ≡ j = cc in
    let num = subst (Every (λ (y : Token). HasNumber y.kind)) is at.numbers in
    let same : meaning_at t j ≡ meaning_of t x.kind = ap (meaning_at t) (sym one) ∙ meaning_same t x.kind num.0 in
    let here : Placed m n w.waiting (x ∷ ts) = subst (Placed m n w.waiting) is p in
    let v = meant text a (meaning_of t x.kind) x (record w { rest = ts }) in
    let rest : v.rest ≡ ts = rest_meant text a (meaning_of t x.kind) x (record w { rest = ts }) in
    let kept : OrderOf k v = order_alike k w v (let q = alike_from t text a (x ∷ ts) w in q) o in
    go (meaning_of t x.kind) refl (ap (λ y. token_mode y m) (sym same) ∙ e) here rest kept (ap (λ y. not (is_visibility y)) same) where
      go : (y : Meaning) → meaning_of t x.kind ≡ y → token_mode y m ≡ Some m' → Placed m n w.waiting (x ∷ ts)
          → (meant text a (meaning_of t x.kind) x (record w { rest = ts })).rest ≡ ts
          → OrderOf k (meant text a (meaning_of t x.kind) x (record w { rest = ts }))
          → not (is_visibility (meaning_at t j)) ≡ not (is_visibility (meaning_of t x.kind))
          → Ordered m' n k (not (is_visibility (meaning_at t j))) w (meant text a (meaning_of t x.kind) x (record w { rest = ts }))
      go y means mode here rest kept quiet = split (is_visibility y) refl m refl mode where
        split : (b : Bool) → is_visibility y ≡ b → (m1 : Mode) → m ≡ m1 → cond (b && is_used m1) None (Some Clear) ≡ Some m'
            → Ordered m' n k (not (is_visibility (meaning_at t j))) w (meant text a (meaning_of t x.kind) x (record w { rest = ts }))
        split true seen Used is_m mode = cc
        split true seen Clear is_m mode =
            let clear : Clear ≡ m' = cc in
            let s = visibility_is (meaning_of t x.kind) (ap is_visibility means ∙ seen) text a x (record w { rest = ts }) in
            subst (λ z. Ordered z n k (not (is_visibility (meaning_at t j))) w (meant text a (meaning_of t x.kind) x (record w { rest = ts }))) clear (record {
              end = n;
              later = omega arith;
              placed = subst (λ q. Placed Clear n q (meant text a (meaning_of t x.kind) x (record w { rest = ts })).rest) (sym s.1)
                  (subst (Placed Clear n (Some s.0)) (sym rest)
                  (placed_seen n w.waiting x ts s.0 s.2 (subst (λ z. Placed z n w.waiting (x ∷ ts)) is_m here)));
              order = order_more k n (map stock (meant text a (meaning_of t x.kind) x (record w { rest = ts })).elements) _ _ le kept;
              calm = λ f. let g : not (is_visibility (meaning_of t x.kind)) ≡ true = sym quiet ∙ f in let h : is_visibility (meaning_of t x.kind) ≡ true =
                  ap is_visibility means ∙ seen in let i : not true ≡ true = ap not (sym h) ∙ g in cc;
            })
        split false unseen m1 is_m mode =
            let clear : Clear ≡ m' = cc in
            let wait : (meant text a (meaning_of t x.kind) x (record w { rest = ts })).waiting ≡ w.waiting =
            waiting_meant text a (meaning_of t x.kind) x (record w { rest = ts }) (ap is_visibility means ∙ unseen) in
            subst (λ z. Ordered z n k (not (is_visibility (meaning_at t j))) w (meant text a (meaning_of t x.kind) x (record w { rest = ts }))) clear (record {
              end = n;
              later = omega arith;
              placed = subst (λ q. Placed Clear n q (meant text a (meaning_of t x.kind) x (record w { rest = ts })).rest) (sym wait)
                  (subst (Placed Clear n w.waiting) (sym rest) (placed_on m n w.waiting x ts here));
              order = order_more k n (map stock (meant text a (meaning_of t x.kind) x (record w { rest = ts })).elements) _ _ le kept;
              calm = λ f. (kept, λ none. wait ∙ none);
            })

-- Facts of the tests.

rule_modes : (t : Tables) (claims : List ModeClaim) (n p : ℕ) (rs : List Rule) (r : Rule) → all_modes t claims n rs ≡ true → slice_get rs p ≡ Some r
    → meets_mode t claims (mode_claim_at claims r.left) (action_at t (n + p)) r.right ≡ true
rule_modes t claims n p [] r ok at = cc
rule_modes t claims n zero (x ∷ rs) r ok at =
    let same : x ≡ r = cc in
    let b = both_true (meets_mode t claims (mode_claim_at claims x.left) (action_at t n) x.right) (all_modes t claims (suc n) rs) ok in
    let z : n ≡ n + 0 = omega arith in
    subst (λ k. meets_mode t claims (mode_claim_at claims r.left) (action_at t k) r.right ≡ true) z
    (subst (λ (y : Rule). meets_mode t claims (mode_claim_at claims y.left) (action_at t n) y.right ≡ true) same b.0)
rule_modes t claims n (suc p) (x ∷ rs) r ok at =
    let b = both_true (meets_mode t claims (mode_claim_at claims x.left) (action_at t n) x.right) (all_modes t claims (suc n) rs) ok in
    let z : suc n + p ≡ n + suc p = omega arith in
    subst (λ k. meets_mode t claims (mode_claim_at claims r.left) (action_at t k) r.right ≡ true) z (rule_modes t claims (suc n) p rs r b.1 at)

here_modes : (t : Tables) (claims : List ModeClaim) (g : Table) (p c : ℕ) (r : Rule) → all_modes t claims 0 g.rules ≡ true → slice_get g.rules p ≡ Some r
    → r.left ≡ c → meets_mode t claims (mode_claim_at claims c) (action_at t p) r.right ≡ true
here_modes t claims g p c r ok at left_is =
    let zero_add : 0 + p ≡ p = omega arith in
    subst (λ y. meets_mode t claims (mode_claim_at claims y) (action_at t p) r.right ≡ true) left_is
    (subst (λ q. meets_mode t claims (mode_claim_at claims r.left) (action_at t q) r.right ≡ true) zero_add (rule_modes t claims 0 p g.rules r ok at))

mode_meets : (t : Tables) (claims : List ModeClaim) (c : ModeClaim) (a : Action) (ss : List Symbol) (m : Mode) → meets_mode t claims c a ss ≡ true
    → is_freer (production_mode t claims a ss m) (mode_after c m) ≡ true
mode_meets t claims c a ss Clear ok = (both_true (is_freer (production_mode t claims a ss Clear) (mode_after c Clear))
    (is_freer (production_mode t claims a ss Used) (mode_after c Used) && (not c.quiet || (makes_none a && are_quiet t claims ss))) ok).0
mode_meets t claims c a ss Used ok =
    let b = both_true (is_freer (production_mode t claims a ss Clear) (mode_after c Clear))
    (is_freer (production_mode t claims a ss Used) (mode_after c Used) && (not c.quiet || (makes_none a && are_quiet t claims ss))) ok in
    (both_true (is_freer (production_mode t claims a ss Used) (mode_after c Used)) (not c.quiet || (makes_none a && are_quiet t claims ss)) b.1).0

quiet_meets : (t : Tables) (claims : List ModeClaim) (c : ModeClaim) (a : Action) (ss : List Symbol) → meets_mode t claims c a ss ≡ true → c.quiet ≡ true
    → (makes_none a ≡ true) × (are_quiet t claims ss ≡ true)
quiet_meets t claims c a ss ok q =
    let b = both_true (is_freer (production_mode t claims a ss Clear) (mode_after c Clear))
    (is_freer (production_mode t claims a ss Used) (mode_after c Used) && (not c.quiet || (makes_none a && are_quiet t claims ss))) ok in
    let d = both_true (is_freer (production_mode t claims a ss Used) (mode_after c Used)) (not c.quiet || (makes_none a && are_quiet t claims ss)) b.1 in
    both_true (makes_none a) (are_quiet t claims ss) (ap (λ x. not x || (makes_none a && are_quiet t claims ss)) (sym q) ∙ d.1)

some_mode : (t : Tables) (claims : List ModeClaim) (ss : List Symbol) (o : Option Mode) (m : Mode) → modes t claims ss o ≡ Some m → (x : Mode) × (o ≡ Some x)
some_mode t claims ss None m is = cc
some_mode t claims ss (Some x) m is = (x, refl)

freer_some : (o : Option Mode) (m : Mode) → is_freer o (Some m) ≡ true → (x : Mode) × (o ≡ Some x)
freer_some None m is = cc
freer_some (Some x) m is = (x, refl)

-- an answer that is as free serves for the other
placed_freer : (x m : Mode) (n : ℕ) (o : Option Seen) (ts : List Token) → is_freer (Some x) (Some m) ≡ true → Placed x n o ts → Placed m n o ts
placed_freer Clear Clear n o ts e p = p
placed_freer Clear Used n None ts e p = after_one n ts p
placed_freer Clear Used n (Some s) ts e p = p
placed_freer Used Clear n o ts e p = cc
placed_freer Used Used n o ts e p = p

-- a visibility word that is forgotten
placed_none : (m : Mode) (n : ℕ) (o : Option Seen) (ts : List Token) → Placed m n o ts → Placed m n None ts
placed_none Clear n None ts p = p
placed_none Clear n (Some s) ts p = rise_lower n (suc s.place) ts (omega (arith, p.0)) p.1
placed_none Used n None ts p = p
placed_none Used n (Some s) ts p = after_one n ts (rise_lower n (suc s.place) ts (omega (arith, p.0)) p.1)

-- A run from Used that ends Clear takes a token.

clear_is : (o : Option Mode) → is_clear o ≡ true → o ≡ Some Clear
clear_is None e = cc
clear_is (Some Clear) e = refl
clear_is (Some Used) e = cc

nonempty : (t : Tables) (claims : List ModeClaim) (g : Table) → all_modes t claims 0 g.rules ≡ true → (f : Forest) (ss : List Symbol) → IsDerivation g ss f
    → modes t claims ss (Some Used) ≡ Some Clear → (k : ℕ) × (ks : List ℕ) × (tokens f ≡ k ∷ ks)
nonempty t claims g ok Nothing [] d e = absurd (used_clear e) where
  used_clear : Some Used ≡ Some Clear → ⊥
  used_clear e = let u : Used ≡ Clear = cc in cc
nonempty t claims g ok Nothing (Terminal k ∷ ss) d e = absurd d
nonempty t claims g ok Nothing (Inner c ∷ ss) d e = absurd d
nonempty t claims g ok (Leaf j f) ss d e = (j, tokens f, refl)
nonempty t claims g ok (Branch p below f) [] d e = absurd d
nonempty t claims g ok (Branch p below f) (Terminal k ∷ ss) d e = absurd d
nonempty t claims g ok (Branch p below f) (Inner c ∷ ss) d e =
    let r : Rule = d.0.0 in
    let m = some_mode t claims ss (mode_after (mode_claim_at claims c) Used) Clear e in
    let meets = mode_meets t claims (mode_claim_at claims c) (action_at t p) r.right Used (here_modes t claims g p c r ok d.0.1 d.0.2) in
    by_mode m.0 (m.1) (ap (is_freer (production_mode t claims (action_at t p) r.right Used)) (sym m.1) ∙ meets) (ap (modes t claims ss) (sym m.1) ∙ e)
    (λ x. nonempty t claims g ok below r.right d.0.3 x) (λ x. nonempty t claims g ok f ss d.1 x) where
      front : (xs ys : List ℕ) → ((k : ℕ) × (ks : List ℕ) × (xs ≡ k ∷ ks)) → (k : ℕ) × (ks : List ℕ) × (xs ++ ys ≡ k ∷ ks)
      front xs ys h = (h.0, h.1 ++ ys, ap (λ z. z ++ ys) h.2)

      back : (xs ys : List ℕ) → ((k : ℕ) × (ks : List ℕ) × (ys ≡ k ∷ ks)) → (k : ℕ) × (ks : List ℕ) × (xs ++ ys ≡ k ∷ ks)
      back [] ys h = h
      back (x ∷ xs) ys h = (x, xs ++ ys, refl)

      from_used : (a : Action) → is_freer (production_mode t claims a d.0.0.right Used) (Some Clear) ≡ true
          → modes t claims d.0.0.right (Some Used) ≡ Some Clear
      from_used (action.Element k) e = cc
      from_used (action.Take taking.Alias) e = cc
      from_used (action.Take taking.Import) e = cc
      from_used other e = free (modes t claims d.0.0.right (Some Used)) e where
        free : (o : Option Mode) → is_freer o (Some Clear) ≡ true → o ≡ Some Clear
        free None e = cc
        free (Some Clear) e = refl
        free (Some Used) e = cc

      by_mode : (m : Mode) → mode_after (mode_claim_at claims c) Used ≡ Some m
          → is_freer (production_mode t claims (action_at t p) d.0.0.right Used) (Some m) ≡ true → modes t claims ss (Some m) ≡ Some Clear
          → (modes t claims d.0.0.right (Some Used) ≡ Some Clear → (k : ℕ) × (ks : List ℕ) × (tokens below ≡ k ∷ ks))
          → (modes t claims ss (Some Used) ≡ Some Clear → (k : ℕ) × (ks : List ℕ) × (tokens f ≡ k ∷ ks))
          → (k : ℕ) × (ks : List ℕ) × (tokens below ++ tokens f ≡ k ∷ ks)
      by_mode Clear is freer e first rest = front (tokens below) (tokens f) (first (from_used (action_at t p) freer))
      by_mode Used is freer e first rest = back (tokens below) (tokens f) (rest e)

-- Productions that make no item.

quiet_entered : (a : Action) (w : Walk) → makes_none a ≡ true → IsAlike w (entered a w)
quiet_entered (action.Element k) w e = cc
quiet_entered (action.Take d) w e = record { stocks = refl; members = refl; imports = refl; current = refl }
quiet_entered action.NamedEnd w e = record { stocks = refl; members = refl; imports = refl; current = refl }
quiet_entered action.Level w e = record { stocks = refl; members = refl; imports = refl; current = refl }
quiet_entered action.Tail w e = record { stocks = refl; members = refl; imports = refl; current = refl }
quiet_entered other w e = record { stocks = refl; members = refl; imports = refl; current = refl }

quiet_given : (d : Taking) (f : Frame) (v u : Walk) → makes_none (action.Take d) ≡ true → u.elements ≡ v.elements → u.members ≡ v.members
    → u.imports ≡ v.imports → u.current ≡ v.current
    → (map stock (given d f v.reading u).elements ≡ map stock v.elements) × ((given d f v.reading u).members ≡ v.members)
    × ((given d f v.reading u).imports ≡ v.imports)
quiet_given taking.Alias f v u e a b c x = cc
quiet_given taking.Import f v u e a b c x = cc
quiet_given other f v u e a b c x = (map-adjusted_same stock u.current _ u.elements (λ d. refl) ∙ ap (map stock) a, b, c)

record IsQuiet (v u : Walk) : Type 0 where
  stocks : map stock u.elements ≡ map stock v.elements
  members : u.members ≡ v.members
  imports : u.imports ≡ v.imports
  waiting : u.waiting ≡ v.waiting

waiting_given : (d : Taking) (f : Frame) (r : Reading) (w : Walk) → (given d f r w).waiting ≡ w.waiting
waiting_given taking.Alias f r w = refl
waiting_given taking.Import f r w = refl
waiting_given other f r w = refl

quiet_left : (a : Action) (w v : Walk) → makes_none a ≡ true → IsQuiet v (left a (saved a w) v)
quiet_left (action.Element k) w v e = cc
quiet_left (action.Take d) w v e =
    let g = quiet_given d (saved (action.Take d) w) v (record v { reading = w.reading }) e refl refl refl refl in
    record { stocks = g.0; members = g.1; imports = g.2; waiting = waiting_given d (saved (action.Take d) w) v.reading (record v { reading = w.reading }) }
quiet_left other w v e = record { stocks = refl; members = refl; imports = refl; waiting = refl }

order_quiet : (k : ℕ) (v u : Walk) → IsQuiet v u → OrderOf k v → OrderOf k u
order_quiet k v u q o = subst (λ ss. InOrder k ss u.members u.imports) (sym q.stocks)
    (subst (λ ms. InOrder k (map stock v.elements) ms u.imports) (sym q.members)
    (subst (λ is. InOrder k (map stock v.elements) v.members is) (sym q.imports) o))

placed_entered : (a : Action) (w : Walk) (m : Mode) (n : ℕ) → makes_none a ≡ true → Placed m n w.waiting w.rest
    → Placed m n (entered a w).waiting (entered a w).rest
placed_entered (action.Element k) w m n e p = cc
placed_entered (action.Take d) w m n e p = placed_none m n w.waiting w.rest p
placed_entered action.NamedEnd w m n e p = p
placed_entered action.Level w m n e p = p
placed_entered action.Tail w m n e p = p
placed_entered other w m n e p = p

waiting_entered : (a : Action) (w : Walk) → w.waiting ≡ None → (entered a w).waiting ≡ None
waiting_entered (action.Element k) w e = refl
waiting_entered (action.Take d) w e = refl
waiting_entered action.NamedEnd w e = e
waiting_entered action.Level w e = e
waiting_entered action.Tail w e = e
waiting_entered other w e = e

-- what is known of the walk below
abbrev OnBelow : Tables → List ModeClaim → List Symbol → Walk → Walk → Type 0
OnBelow t claims ss e v = (x y : Mode) (n k : ℕ) → modes t claims ss (Some x) ≡ Some y → k ≤ n → Placed x n e.waiting e.rest → OrderOf k e
    → Ordered y n k (are_quiet t claims ss) e v

quiet_node : (t : Tables) (claims : List ModeClaim) (a : Action) (ss : List Symbol) (w v : Walk) (m y : Mode) (n k : ℕ) → makes_none a ≡ true
    → modes t claims ss (Some m) ≡ Some y → k ≤ n → Placed m n w.waiting w.rest → OrderOf k w
    → OnBelow t claims ss (entered a w) v → Ordered y n k (makes_none a && are_quiet t claims ss) w (left a (saved a w) v)
quiet_node t claims a ss w v m y n k none run le p o on =
    let i = on m y n k run le (placed_entered a w m n none p) (order_alike k w (entered a w) (quiet_entered a w none) o) in
    let q = quiet_left a w v none in
    record {
      end = i.end;
      later = i.later;
      placed = subst (λ x. Placed y i.end x (left a (saved a w) v).rest) (sym q.waiting)
          (subst (Placed y i.end v.waiting) (sym (rest_left a (saved a w) v)) i.placed);
      order = order_quiet i.end v (left a (saved a w) v) q i.order;
      calm = λ e. let c = i.calm (both_true (makes_none a) (are_quiet t claims ss) e).1
          in (order_quiet k v (left a (saved a w) v) q c.0, λ z. q.waiting ∙ c.1 (waiting_entered a w z));
    }

-- Productions that make an item.

item_run : (m y : Mode) (o : Option Mode) → item_mode m o ≡ Some y → (m ≡ Clear) × (y ≡ Clear) × (o ≡ Some Clear)
item_run Used y o e = cc
item_run Clear y o e = go (is_clear o) refl e where
  go : (b : Bool) → is_clear o ≡ b → cond b (Some Clear) None ≡ Some y → (Clear ≡ Clear) × (y ≡ Clear) × (o ≡ Some Clear)
  go true is e = (refl, cc, clear_is o is)
  go false is e = cc

held_run : (q : Bool) (m y : Mode) (o : Option Mode) → held_mode q m o ≡ Some y → (m ≡ Clear) × (y ≡ Clear) × (o ≡ Some Clear) × (q ≡ true)
held_run q Used y o e = cc
held_run q Clear y o e = go q refl (is_clear o) refl e where
  go : (a : Bool) → q ≡ a → (b : Bool) → is_clear o ≡ b → cond (a && b) (Some Clear) None ≡ Some y → (Clear ≡ Clear) × (y ≡ Clear) × (o ≡ Some Clear)
      × (q ≡ true)
  go true qa true is e = (refl, cc, clear_is o is, qa)
  go true qa false is e = cc
  go false qa b is e = cc

element_node : (t : Tables) (claims : List ModeClaim) (k0 : Kind) (ss : List Symbol) (w v : Walk) (y : Mode) (n k : ℕ) (j : ℕ) (js : List ℕ) (q : Bool)
    → kinds_of w.rest ≡ j ∷ js → IsCoherent w → y ≡ Clear → modes t claims ss (Some Used) ≡ Some Clear
    → k ≤ n → Placed Clear n w.waiting w.rest → OrderOf k w → OnBelow t claims ss (entered (action.Element k0) w) v
    → Ordered y n k (false && q) w (left (action.Element k0) (saved (action.Element k0) w) v)
element_node t claims k0 ss w v y n k j js q kinds coh is run le p o on =
    let b = begun n w.waiting w.rest j js kinds p in
    let place = begun_place w.waiting w.rest in
    let ms = w.members ++ owned_member w ∷ [] in
    let one = member_order w.current (with_owned (length w.members)) (map stock w.elements) w.members w.imports (owned_member w) k (omega (arith, le, b.above))
    (λ s. refl) coh.each o in
    let es = adjusted w.current (with_item (item.Member (length w.members))) w.elements in
    let stocks : map stock (es ++ draft k0 (Some w.current) ∷ []) ≡ adjusted w.current (with_owned (length w.members)) (map stock w.elements)
    ++ bare w.current ∷ [] =
    map-append stock es (draft k0 (Some w.current) ∷ [])
    ∙ ap (λ ss. ss ++ bare w.current ∷ []) (map-adjusted stock (with_owned (length w.members)) w.current
    (with_item (item.Member (length w.members))) w.elements (λ d. refl)) in
    let two : InOrder (suc place) (map stock (es ++ draft k0 (Some w.current) ∷ [])) ms w.imports = record {
      members = one.members;
      imports = one.imports;
      items = subst (Every (λ s. Sorted (suc place) (flat_map (stands ms w.imports) s.items))) (sym stocks)
          (every_append (λ s. Sorted (suc place) (flat_map (stands ms w.imports) s.items))
          (adjusted w.current (with_owned (length w.members)) (map stock w.elements)) (bare w.current ∷ []) one.items
          (record { rising = refl; below = tt }, tt));
    } in
    let i = on Used Clear (suc place) (suc place) run (omega arith) b.behind two in
    let same = map-adjusted_same stock v.current (named v.reading) v.elements (λ d. refl) in
    record {
      end = i.end;
      later = omega (arith, i.later, b.above);
      placed = subst (λ z. Placed z i.end v.waiting v.rest) (sym is) i.placed;
      order = subst (λ ss. InOrder i.end ss v.members v.imports) (sym same) i.order;
      calm = λ e. cc;
    }

-- what an alias or import reads stands behind its beginning
record Behind (place : ℕ) (v : Walk) : Type 0 where
  end : ℕ
  above : place < end
  rise : Rise end v.rest

path_behind : (place last : ℕ) (v : Walk) (ps : List Path) → place < last → Rise last v.rest → (hi : ℕ) → Every (InSpan place hi) ps → Rise hi v.rest
    → (place ≤ (path_or place ps).place) × Behind (path_or place ps).place v
path_behind place last v [] above rise hi span r = (omega arith, record { end = last; above = above; rise = rise })
path_behind place last v (p ∷ ps) above rise hi span r = (span.0.0, record { end = hi; above = span.0.1; rise = r })

placed_rise : (n : ℕ) (o : Option Seen) (ts : List Token) → o ≡ None → Placed Clear n o ts → Rise n ts
placed_rise n None ts e p = p
placed_rise n (Some s) ts e p = cc

alias_node : (t : Tables) (claims : List ModeClaim) (ss : List Symbol) (w v : Walk) (y : Mode) (n k : ℕ) (j : ℕ) (js : List ℕ) (q : Bool)
    → kinds_of w.rest ≡ j ∷ js → IsCoherent v → y ≡ Clear → modes t claims ss (Some Used) ≡ Some Clear → are_quiet t claims ss ≡ true
    → k ≤ n → Placed Clear n w.waiting w.rest → OrderOf k w → OnBelow t claims ss (entered (action.Take taking.Alias) w) v
    → Ordered y n k (false && q) w (left (action.Take taking.Alias) (saved (action.Take taking.Alias) w) v)
alias_node t claims ss w v y n k j js q kinds coh is run quiet le p o on =
    let b = begun n w.waiting w.rest j js kinds p in
    let place = begun_place w.waiting w.rest in
    let i = on Used Clear (suc place) k run (omega (arith, le, b.above)) b.behind o in
    let c = i.calm quiet in
    let u : Walk = record v { reading = w.reading } in
    let f = saved (action.Take taking.Alias) w in
    let x = with_inner (item.Member (length v.members)) role.Alias (first_name (names v.reading.nodes)) in
    let one = member_order v.current (with_held (item.Member (length v.members)) role.Alias) (map stock v.elements) v.members v.imports
    (alias_member f v.reading u) k (omega (arith, le, b.above)) (λ s. refl) coh.each c.0 in
    let stocks = map-adjusted stock (with_held (item.Member (length v.members)) role.Alias) v.current x v.elements
    (λ d. role_push d (item.Member (length v.members)) role.Alias (first_name (names v.reading.nodes))) in
    let two : InOrder (suc place) (map stock (adjusted v.current x v.elements)) (v.members ++ alias_member f v.reading u ∷ []) v.imports =
    subst (λ z. InOrder (suc place) z (v.members ++ alias_member f v.reading u ∷ []) v.imports) (sym stocks) one in
    record {
      end = i.end;
      later = omega (arith, i.later, b.above);
      placed = subst (λ z. Placed z i.end v.waiting v.rest) (sym is) i.placed;
      order = order_more (suc place) i.end (map stock (adjusted v.current x v.elements)) (v.members ++ alias_member f v.reading u ∷ []) v.imports i.later two;
      calm = λ e. cc;
    }

import_node : (t : Tables) (claims : List ModeClaim) (ss : List Symbol) (w v : Walk) (y : Mode) (n k : ℕ) (j : ℕ) (js : List ℕ) (q : Bool)
    → kinds_of w.rest ≡ j ∷ js → IsCoherent v → y ≡ Clear → modes t claims ss (Some Used) ≡ Some Clear → are_quiet t claims ss ≡ true
    → k ≤ n → Placed Clear n w.waiting w.rest → OrderOf k w → OnBelow t claims ss (entered (action.Take taking.Import) w) v
    → ((l : ℕ) → Span l l fresh → Rise l w.rest → SpanOn l l v)
    → Ordered y n k (false && q) w (left (action.Take taking.Import) (saved (action.Take taking.Import) w) v)
import_node t claims ss w v y n k j js q kinds coh is run quiet le p o on spans =
    let b = begun n w.waiting w.rest j js kinds p in
    let place = begun_place w.waiting w.rest in
    let i = on Used Clear (suc place) k run (omega (arith, le, b.above)) b.behind o in
    let c = i.calm quiet in
    let s = spans place (record { names = tt; root = tt }) b.from in
    let none : v.waiting ≡ None = c.1 refl in
    let z = path_behind place i.end v (names v.reading.nodes) (omega (arith, i.later))
    (placed_rise i.end v.waiting v.rest none i.placed) s.end s.span.names s.rise in
    let u : Walk = record v { reading = w.reading } in
    let f = saved (action.Take taking.Import) w in
    let path = path_or place (names v.reading.nodes) in
    let x = with_inner (item.Import (length v.imports)) role.Import path in
    let one = import_order v.current (with_held (item.Import (length v.imports)) role.Import) (map stock v.elements) v.members v.imports
    (import_of f v.reading u) k (omega (arith, le, b.above, z.0)) (λ s. refl) coh.each c.0 in
    let stocks = map-adjusted stock (with_held (item.Import (length v.imports)) role.Import) v.current x v.elements
    (λ d. role_push d (item.Import (length v.imports)) role.Import path) in
    let two : InOrder (suc path.place) (map stock (adjusted v.current x v.elements)) v.members (v.imports ++ import_of f v.reading u ∷ []) =
    subst (λ z. InOrder (suc path.place) z v.members (v.imports ++ import_of f v.reading u ∷ [])) (sym stocks) one in
    record {
      end = z.1.end;
      later = omega (arith, b.above, z.0, z.1.above);
      placed = subst (λ m. Placed m z.1.end v.waiting v.rest) (sym is) (subst (λ q. Placed Clear z.1.end q v.rest) (sym none) z.1.rise);
      order = order_more (suc path.place) z.1.end (map stock (adjusted v.current x v.elements)) v.members (v.imports ++ import_of f v.reading u ∷ [])
          (omega (arith, z.1.above)) two;
      calm = λ e. cc;
    }

order_node : (t : Tables) (claims : List ModeClaim) (a : Action) (ss : List Symbol) (w v : Walk) (m y : Mode) (n k : ℕ)
    → production_mode t claims a ss m ≡ Some y → IsCoherent w → IsCoherent v
    → (modes t claims ss (Some Used) ≡ Some Clear → (j : ℕ) × (js : List ℕ) × (kinds_of w.rest ≡ j ∷ js)) → k ≤ n → Placed m n w.waiting w.rest → OrderOf k w
    → OnBelow t claims ss (entered a w) v
    → ((l : ℕ) → Span l l fresh → Rise l w.rest → a ≡ action.Take taking.Import → SpanOn l l v)
    → Ordered y n k (makes_none a && are_quiet t claims ss) w (left a (saved a w) v)
order_node t claims (action.Element k0) ss w v m y n k run cw cv some le p o on spans =
    let r = item_run m y (modes t claims ss (Some Used)) run in
    let x = some r.2 in
    element_node t claims k0 ss w v y n k x.0 x.1 (are_quiet t claims ss) x.2 cw r.1 r.2 le (subst (λ z. Placed z n w.waiting w.rest) r.0 p) o on
order_node t claims (action.Take taking.Alias) ss w v m y n k run cw cv some le p o on spans =
    let r = held_run (are_quiet t claims ss) m y (modes t claims ss (Some Used)) run in
    let x = some r.2 in
    alias_node t claims ss w v y n k x.0 x.1 (are_quiet t claims ss) x.2 cv r.1 r.2 r.3 le (subst (λ z. Placed z n w.waiting w.rest) r.0 p) o on
order_node t claims (action.Take taking.Import) ss w v m y n k run cw cv some le p o on spans =
    let r = held_run (are_quiet t claims ss) m y (modes t claims ss (Some Used)) run in
    let x = some r.2 in
    import_node t claims ss w v y n k x.0 x.1 (are_quiet t claims ss) x.2 cv r.1 r.2 r.3 le (subst (λ z. Placed z n w.waiting w.rest) r.0 p) o on
    (λ l s q. spans l s q refl)
order_node t claims other ss w v m y n k run cw cv some le p o on spans = quiet_node t claims other ss w v m y n k refl run le p o on

-- a walk keeps places in order
pub order_walk : (t : Tables) (claims : List ModeClaim) (text : List ℕ) (g : Table) → all_modes t claims 0 g.rules ≡ true
    → (f : Forest) (ss : List Symbol) (a : Action) (ks : List ℕ) (w : Walk) (m y : Mode) (n k : ℕ)
    → IsDerivation g ss f → IsAt (tokens f ++ ks) w → IsCoherent w → modes t claims ss (Some m) ≡ Some y → k ≤ n → Placed m n w.waiting w.rest → OrderOf k w
    → Ordered y n k (are_quiet t claims ss) w (walk t text a f w)
order_walk t claims text g ok Nothing [] a ks w m y n k d at coh e le p o =
    let same : m ≡ y = cc in
    record {
      end = n;
      later = omega arith;
      placed = subst (λ z. Placed z n w.waiting w.rest) same p;
      order =
          order_more k n (map stock w.elements) w.members w.imports le o;
      calm = λ q. (o, λ z. z);
    }
order_walk t claims text g ok Nothing (Terminal j ∷ ss) a ks w m y n k d at coh e le p o = absurd d
order_walk t claims text g ok Nothing (Inner c ∷ ss) a ks w m y n k d at coh e le p o = absurd d
order_walk t claims text g ok (Leaf j f) [] a ks w m y n k d at coh e le p o = absurd d
order_walk t claims text g ok (Leaf j f) (Inner c ∷ ss) a ks w m y n k d at coh e le p o = absurd d
order_walk t claims text g ok (Leaf j f) (Terminal i ∷ ss) a ks w m y n k d at coh e le p o =
    let x = some_mode t claims ss (token_mode (meaning_at t i) m) y e in
    let same : meaning_at t j ≡ meaning_at t i = ap (meaning_at t) d.0 in
    let one = token_order t text a j (tokens f ++ ks) w w.rest m x.0 n k refl at le (ap (λ z. token_mode z m) same ∙ x.1) p o in
    let rest = order_walk t claims text g ok f ss a ks (taken t text a w) x.0 y one.end one.end d.1 (at_taken t text a j (tokens f ++ ks) w w.rest refl at)
    (alike_coherent w (taken t text a w) (alike_from t text a w.rest w) coh) (ap (modes t claims ss) (sym x.1) ∙ e) (omega arith) one.placed one.order in
    record {
      end = rest.end;
      later = omega (arith, one.later, rest.later);
      placed = rest.placed;
      order = rest.order;
      calm = λ q.
          let b = both_true (not (is_visibility (meaning_at t i))) (are_quiet t claims ss) q in
          let c = one.calm (ap (λ z. not (is_visibility z)) same ∙ b.0) in
          let again = order_walk t claims text g ok f ss a ks (taken t text a w) x.0 y one.end k d.1 (at_taken t text a j (tokens f ++ ks) w w.rest refl at)
          (alike_coherent w (taken t text a w) (alike_from t text a w.rest w) coh) (ap (modes t claims ss) (sym x.1) ∙ e)
          (omega (arith, le, one.later)) one.placed c.0 in
          let r = again.calm b.1 in
          (r.0, λ z. r.1 (c.1 z));
    }
order_walk t claims text g ok (Branch p0 below f) [] a ks w m y n k d at coh e le p o = absurd d
order_walk t claims text g ok (Branch p0 below f) (Terminal j ∷ ss) a ks w m y n k d at coh e le p o = absurd d
order_walk t claims text g ok (Branch p0 below f) (Inner c ∷ ss) a ks w m y n k d at coh e le p o =
    let r : Rule = d.0.0 in
    let b = action_at t p0 in
    let v = walk t text b below (entered b w) in
    let u = left b (saved b w) v in
    let claim = mode_claim_at claims c in
    let x = some_mode t claims ss (mode_after claim m) y e in
    let meets = here_modes t claims g p0 c r ok d.0.1 d.0.2 in
    let freer = ap (is_freer (production_mode t claims b r.right m)) (sym x.1) ∙ mode_meets t claims claim b r.right m meets in
    let z = freer_some (production_mode t claims b r.right m) x.0 freer in
    let here : IsAt (tokens below ++ (tokens f ++ ks)) w = record { kinds = at.kinds ∙ append_assoc (tokens below) (tokens f) ks; numbers = at.numbers } in
    let begun_at : IsAt (tokens below ++ (tokens f ++ ks)) (entered b w) = at_same (tokens below ++ (tokens f ++ ks)) w (entered b w) (rest_entered b w) here in
    let ce = entered_on b w coh in
    let cv = walk_on t text b below (entered b w) ce.coherent in
    let cu = left_on b (saved b w) v (omega (arith, coh.current, length-map w.elements stock, ce.longer, cv.longer)) cv.coherent in
    let one = order_node t claims b r.right w v m z.0 n k z.1 coh cv.coherent
    (λ run. let q = nonempty t claims g ok below r.right d.0.3 run
    in (q.0, q.1 ++ (tokens f ++ ks), here.kinds ∙ ap (λ s. s ++ (tokens f ++ ks)) q.2)) le p o
    (λ m1 m2 n' k' run le' p' o'. order_walk t claims text g ok below r.right b (tokens f ++ ks)
    (entered b w) m1 m2 n' k' d.0.3 begun_at ce.coherent run le' p' o')
    (λ l s q same. span_walk t text b below (entered b w) l l (omega arith) (subst (λ z. Span l l (entered z w).reading) (sym same) s)
    (subst (Rise l) (sym (rest_entered b w)) q)) in
    let weak : Placed x.0 one.end u.waiting u.rest = placed_freer z.0 x.0 one.end u.waiting u.rest
    (ap (λ q. is_freer q (Some x.0)) (sym z.1) ∙ freer) one.placed in
    let after : IsAt (tokens f ++ ks) u = at_same (tokens f ++ ks) v u (rest_left b (saved b w) v)
    (walk_at t text b below (tokens f ++ ks) (entered b w) begun_at) in
    let rest = order_walk t claims text g ok f ss a ks u x.0 y one.end one.end d.1 after cu.coherent (ap (modes t claims ss) (sym x.1) ∙ e)
    (omega arith) weak one.order in
    record {
      end = rest.end;
      later = omega (arith, one.later, rest.later);
      placed = rest.placed;
      order = rest.order;
      calm = λ q.
          let s = both_true claim.quiet (are_quiet t claims ss) q in
          let n2 = quiet_meets t claims claim b r.right meets s.0 in
          let c1 = one.calm (ap (λ h. h && are_quiet t claims r.right) n2.0 ∙ n2.1) in
          let again = order_walk t claims text g ok f ss a ks u x.0 y one.end k d.1 after cu.coherent (ap (modes t claims ss) (sym x.1) ∙ e)
          (omega (arith, le, one.later)) weak c1.0 in
          let c2 = again.calm s.1 in
          (c2.0, λ h. c2.1 (c1.1 h));
    }
