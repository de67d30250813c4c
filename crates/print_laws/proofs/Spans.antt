-- Bounds, `ordered`, `nonunique` and values are read back.
use Rattle.std.proofs.Common.{◌≡◌, ℕ, ◌<◌, ◌^◌, List, [], ◌∷◌, ◌++◌, refl, ap, sym, ◌∙◌, arith, append_assoc, append-nil}
use Rattle.std.specs.Prelude.{Some, None, Bool, true, false, cond, pos, codes}
use Rattle.std.specs.Fmt.{decimal}
use Rattle.std.proofs.lemmas.Bool.{lt-leb}
use Rattle.element_store.specs.declared.outcome.Language.{Language}
use Rattle.element_store.specs.declared.expression.BinaryOp.TheVariants as binary
use Rattle.token_core.specs.Terminals.{terminal}
use Rattle.token_core.specs.Reading.{bytes_of, number_from}
use Rattle.ll_core.specs.declared.grammar.Symbol.TheVariants.{Terminal, Inner}
use Rattle.text_model.specs.declared.action.Action.{Action}
use Rattle.text_model.specs.declared.action.Action.TheVariants as action
use Rattle.text_model.specs.declared.action.Taking.TheVariants as taking
use Rattle.text_model.specs.declared.action.Mark.TheVariants as mark
use Rattle.text_model.specs.declared.action.Meaning.TheVariants as meaning
use Rattle.text_model.specs.declared.action.Operator.TheVariants as operator
use Rattle.text_model.specs.declared.draft.Draft.{Draft}
use Rattle.text_model.specs.declared.draft.DraftNode.{DraftNode}
use Rattle.text_model.specs.declared.draft.Reading.{Reading}
use Rattle.text_model.specs.declared.draft.What.TheVariants as what
use Rattle.text_model.specs.Drafts.{node}
use Rattle.text_model.specs.Walk.{fresh, pushed, meant_integer}
use Rattle.print_model.specs.Printed.{Printed, sign, word, number}
use Rattle.print_model.specs.Trees.{Tree, printed, IsPrintable}
use Rattle.print_model.specs.Heads.{word_if}
use Rattle.print_model.proofs.BareWalk.{token_of}
use Rattle.print_model.proofs.Readings.{Reads, reads_said}
use Rattle.print_model.proofs.Names.{whole}
use Rattle.print_model.proofs.Leaves.{decimal_back}
use Rattle.print_model.proofs.States.{onto}
use Rattle.print_model.proofs.Begun.{begun_read, pushed_postfix}
use Rattle.print_laws.specs.Items.{Bound, Number, Known, Upper, Star, Bounded, Extent, Free, Upto, Between, Value, Unvalued, Given}
use Rattle.print_laws.specs.ItemTokens.{bound, upper, extent, order, valued}
use Rattle.print_laws.specs.ItemWalk.{Grown, changed_self, bound_node, upper_node, extent_nodes, valued as with_value}
use Rattle.print_laws.specs.Fitting.{IsBound, IsUpper, IsExtent, IsValue}
use Rattle.print_laws.proofs.Symbols as symbol
use Rattle.print_laws.proofs.Productions as rule
use Rattle.print_laws.proofs.Meanings as means
use Rattle.print_laws.proofs.Steps.{inside, done, then, by_rule, grouped, as_tokens, to_end, from_start, silent, marking, changed_inside}
use Rattle.print_laws.proofs.Heads.{qualified_read, noded}

-- Bounds.

-- a number is pushed
number_said : (n : ℕ) (es : List Draft) (g : Grown) (ns : List DraftNode) → n < 2 ^ 63
    → meant_integer (number_from 0 (bytes_of (decimal n) (token_of (number (decimal n))))) 0 (inside es g (noded ns))
    ≡ inside es g (noded (ns ++ node (what.Integer (pos n)) 0 ∷ []))
number_said n es g ns small =
    ap (λ bs. meant_integer (number_from 0 bs) 0 (inside es g (noded ns))) (whole (decimal n))
    ∙ (ap (λ m. meant_integer m 0 (inside es g (noded ns))) (decimal_back n (omega (arith, small)))
    ∙ ap (λ b. pushed (what.Integer (pos (cond b 0 n))) 0 (record (inside es g (noded ns)) { large = cond b (0 ∷ []) [] })) (lt-leb (2 ^ 63) n small))

-- a bound
bound_read : (l : Language) (a : Action) (es : List Draft) (g : Grown) (ns : List DraftNode) (b : Bound) → IsBound b
    → Reads l a (Inner (symbol.bound l) ∷ []) (bound l b) (inside es g (noded ns)) (inside es g (noded (ns ++ bound_node b ∷ [])))
bound_read l a es g ns (Number n) small =
    grouped (rule.bound_0 l) (reads_said l action.Group (number (decimal n)) 1 meaning.Integer [] [] _ _ refl refl
    (from_start (number_said n es g ns small) done))
bound_read l a es g ns (Known q) h = grouped (rule.bound_1 l) (qualified_read l action.Group (inside es g fresh) ns fresh q)

-- `*` where it is no operator
star_read : (l : Language) (es : List Draft) (g : Grown) (ns : List DraftNode)
    → Reads l action.Star (Terminal (terminal (sign (codes "*")).kind) ∷ []) (sign (codes "*") ∷ []) (inside es g (noded ns))
    (inside es g (noded (ns ++ node what.Star 0 ∷ [])))
star_read l es g ns = reads_said l action.Star (sign (codes "*")) _ (meaning.Operator (operator.Binary binary.Multiply)) _ _ _ _ refl (means.sign_star l) done

-- an upper bound behind a lower one
upper_read : (l : Language) (a : Action) (es : List Draft) (g : Grown) (ns : List DraftNode) (u : Upper) → IsUpper u
    → Reads l a (Inner (symbol.one_star_bound l) ∷ []) (upper l u) (inside es g (noded ns)) (inside es g (noded (ns ++ upper_node u ∷ [])))
upper_read l a es g ns Star h = by_rule (rule.one_star_bound_0 l) (star_read l es g ns)
upper_read l a es g ns (Bounded b) h = grouped (rule.one_star_bound_1 l) (bound_read l action.Group es g ns b h)

-- an upper bound alone
pub upto_read : (l : Language) (a : Action) (es : List Draft) (g : Grown) (u : Upper) → IsUpper u
    → Reads l a (Inner (symbol.bounds l) ∷ []) (upper l u) (inside es g fresh) (inside es g (noded (upper_node u ∷ [])))
upto_read l a es g Star h = by_rule (rule.bounds_0 l) (star_read l es g [])
upto_read l a es g (Bounded b) h =
    grouped (rule.bounds_1 l) (as_tokens (append-nil (bound l b))
    (then (bound_read l action.Group es g [] b h) (grouped (rule.maybe_dot_dot_star_1 l) done)))

-- both bounds
pub between_read : (l : Language) (a : Action) (es : List Draft) (g : Grown) (b : Bound) (u : Upper) → IsBound b → IsUpper u
    → Reads l a (Inner (symbol.bounds l) ∷ []) (bound l b ++ (sign (codes "..") ∷ upper l u)) (inside es g fresh)
    (inside es g (noded (bound_node b ∷ upper_node u ∷ [])))
between_read l a es g b u h k =
    grouped (rule.bounds_1 l)
    (then (bound_read l action.Group es g [] b h)
    (grouped (rule.maybe_dot_dot_star_0 l) (silent (sign (codes "..")) (means.sign_dot_dot l)
    (upper_read l action.Group es g (bound_node b ∷ []) u k))))

-- Order.

-- with these marks of order
abbrev pub in_order : Bool → Bool → Draft → Draft
in_order o u d = record d { marks = record d.marks { ordered = o; nonunique = u } }

-- `nonunique` or nothing
nonunique_read : (l : Language) (a : Action) (es : List Draft) (g : Grown) (r : Reading) (u : Bool)
    → Reads l a (Inner (symbol.maybe_nonunique l) ∷ []) (word_if l u (codes "nonunique")) (inside es (changed_self (in_order true false) g) r)
    (inside es (changed_self (in_order true u) g) r)
nonunique_read l a es g r true =
    grouped (rule.maybe_nonunique_0 l)
    (marking es (changed_self (in_order true false) g) (word l (codes "nonunique")) mark.Nonunique (means.word_nonunique l) done)
nonunique_read l a es g r false = grouped (rule.maybe_nonunique_1 l) done

-- whether any of the two is written
abbrev IsOrder : Bool → Bool → Type 0
IsOrder false false = ⊥
IsOrder o u = Unit {0}

-- `ordered`, `nonunique`, or both
order_read : (l : Language) (a : Action) (es : List Draft) (g : Grown) (r : Reading) (o u : Bool) → IsOrder o u
    → Reads l a (Inner (symbol.order l) ∷ []) (order l o u) (inside es (changed_self (in_order false false) g) r)
    (inside es (changed_self (in_order o u) g) r)
order_read l a es g r true u h =
    grouped (rule.order_0 l) (marking es (changed_self (in_order false false) g) (word l (codes "ordered")) mark.Ordered (means.word_ordered l)
    (nonunique_read l action.Group es g r u))
order_read l a es g r false true h =
    grouped (rule.order_1 l) (marking es (changed_self (in_order false false) g) (word l (codes "nonunique")) mark.Nonunique (means.word_nonunique l)
    (grouped (rule.maybe_ordered_1 l) done))
order_read l a es g r false false h = absurd h

-- or neither
maybe_order_read : (l : Language) (a : Action) (es : List Draft) (g : Grown) (r : Reading) (o u : Bool)
    → Reads l a (Inner (symbol.maybe_order l) ∷ []) (order l o u) (inside es (changed_self (in_order false false) g) r)
    (inside es (changed_self (in_order o u) g) r)
maybe_order_read l a es g r true u = grouped (rule.maybe_order_0 l) (order_read l action.Group es g r true u tt)
maybe_order_read l a es g r false true = grouped (rule.maybe_order_0 l) (order_read l action.Group es g r false true tt)
maybe_order_read l a es g r false false = grouped (rule.maybe_order_1 l) done

-- Multiplicity.

-- with bounds and an order
abbrev pub with_extent : List DraftNode → Bool → Bool → Draft → Draft
with_extent ns o u d = record d { bounds = ns; marks = record d.marks { ordered = o; nonunique = u } }

-- bounds in square brackets, and an order
bracketed_read : (l : Language) (a : Action) (es : List Draft) (g : Grown) (r : Reading) (ps : List Printed) (ns : List DraftNode) (o u : Bool)
    → Reads l (action.Take taking.Bounds) (Inner (symbol.bounds l) ∷ []) ps (inside es (changed_self (in_order false false) g) fresh)
    (inside es (changed_self (in_order false false) g) (noded ns))
    → Reads l a (Inner (symbol.mult l) ∷ []) (sign (codes "[") ∷ (ps ++ (sign (codes "]") ∷ order l o u)))
    (inside es (changed_self (in_order false false) g) r) (inside es (changed_self (with_extent ns o u) g) r)
bracketed_read l a es g r ps ns o u q =
    to_end (changed_inside (λ d. record d { bounds = ns }) es (changed_self (in_order o u) g) r)
    (by_rule (rule.mult_0 l) (silent (sign (codes "[")) (means.sign_open_bracket l)
    (then q (silent (sign (codes "]")) (means.sign_close_bracket l)
    (maybe_order_read l (action.Take taking.Bounds) es g (noded ns) o u)))))

-- a multiplicity, if there is one, behind all specialisations
pub extent_read : (l : Language) (a : Action) (es : List Draft) (g : Grown) (r : Reading) (x : Extent) (o u : Bool) → IsExtent x
    → Reads l a (Inner (symbol.maybe_mult_spec l) ∷ []) (extent l x ++ order l o u) (inside es (changed_self (with_extent [] false false) g) r)
    (inside es (changed_self (with_extent (extent_nodes x) o u) g) r)
extent_read l a es g r Free false false h = grouped (rule.maybe_mult_spec_1 l) done
extent_read l a es g r Free false true h =
    grouped (rule.maybe_mult_spec_0 l) (as_tokens (append-nil (order l false true))
    (then (grouped (rule.mult_1 l) (order_read l action.Group es (changed_self (λ d. record d { bounds = [] }) g) r false true tt))
    (grouped (rule.many_spec_1 l) done)))
extent_read l a es g r Free true u h =
    grouped (rule.maybe_mult_spec_0 l) (as_tokens (append-nil (order l true u))
    (then (grouped (rule.mult_1 l) (order_read l action.Group es (changed_self (λ d. record d { bounds = [] }) g) r true u tt))
    (grouped (rule.many_spec_1 l) done)))
extent_read l a es g r (Upto x) o u h =
    grouped (rule.maybe_mult_spec_0 l)
    (as_tokens (append-nil _ ∙ sym (ap (λ ps. sign (codes "[") ∷ ps) (append_assoc (upper l x) (sign (codes "]") ∷ []) (order l o u))))
    (then (bracketed_read l action.Group es (changed_self (λ d. record d { bounds = [] }) g) r (upper l x) (upper_node x ∷ []) o u
    (upto_read l (action.Take taking.Bounds) es _ x h))
    (grouped (rule.many_spec_1 l) done)))
extent_read l a es g r (Between b x) o u h =
    grouped (rule.maybe_mult_spec_0 l)
    (as_tokens (append-nil _ ∙ sym (ap (λ ps. sign (codes "[") ∷ ps)
    (append_assoc (bound l b ++ (sign (codes "..") ∷ upper l x)) (sign (codes "]") ∷ []) (order l o u))))
    (then (bracketed_read l action.Group es (changed_self (λ d. record d { bounds = [] }) g) r (bound l b ++ (sign (codes "..") ∷ upper l x))
    (bound_node b ∷ upper_node x ∷ []) o u
    (between_read l (action.Take taking.Bounds) es _ b x h.0 h.1))
    (grouped (rule.many_spec_1 l) done)))

-- Values.

-- with no value, and no mark of a default
abbrev pub unvalued : Draft → Draft
unvalued d = record d { value = None; marks = record d.marks { default = false } }

-- with this mark of a default
abbrev with_default : Bool → Draft → Draft
with_default b d = record d { value = None; marks = record d.marks { default = b } }

-- its expression, behind its sign or `default`
given_read : (l : Language) (a : Action) (es : List Draft) (g : Grown) (r : Reading) (b : Bool) (e : Tree) → IsPrintable e
    → Reads l a (Inner (symbol.one_equals_expr_default l) ∷ []) (word_if l b (codes "default") ++ (sign (codes "=") ∷ printed l e))
    (inside es (changed_self unvalued g) r) (inside es (changed_self (with_value (Given b e)) g) r)
given_read l a es g r false e h =
    to_end (ap (λ ns. inside es (changed_self (λ d. record d {
      value = Some
          (record { start = 0; nodes = ns });
      marks = record d.marks { default = false };
    }) g) r)
    (pushed_postfix [] e))
    (to_end (changed_inside (λ d. record d { value = Some (record { start = 0; nodes = onto [] e }) }) es (changed_self unvalued g) r)
    (by_rule (rule.one_equals_expr_default_0 l) (silent (sign (codes "=")) (means.sign_equals l)
    (begun_read l e h (inside es (changed_self unvalued g) fresh) [] (action.Take taking.Value) None))))
given_read l a es g r true e h =
    to_end (ap (λ ns. inside es (changed_self (λ d. record d {
      value = Some
          (record { start = 0; nodes = ns });
      marks = record d.marks { default = true };
    }) g) r)
    (pushed_postfix [] e))
    (to_end (changed_inside (λ d. record d { value = Some (record { start = 0; nodes = onto [] e }) }) es (changed_self (with_default true) g) r)
    (by_rule (rule.one_equals_expr_default_1 l) (marking es (changed_self unvalued g) (word l (codes "default")) mark.Default (means.word_default l)
    (then (grouped (rule.maybe_equals_0 l) (silent (sign (codes "=")) (means.sign_equals l) done))
    (begun_read l e h (inside es (changed_self (with_default true) g) fresh) [] (action.Take taking.Value) None)))))

-- a value, if there is one
pub value_read : (l : Language) (a : Action) (es : List Draft) (g : Grown) (r : Reading) (v : Value) → IsValue v
    → Reads l a (Inner (symbol.value l) ∷ []) (valued l v) (inside es (changed_self unvalued g) r)
    (inside es (changed_self (λ d. with_value v (unvalued d)) g) r)
value_read l a es g r Unvalued h = grouped (rule.value l) (grouped (rule.maybe_equals_expr_default_1 l) done)
value_read l a es g r (Given b e) h = grouped (rule.value l) (grouped (rule.maybe_equals_expr_default_0 l) (given_read l action.Group es g r b e h))
