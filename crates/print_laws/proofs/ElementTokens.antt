-- The parts of an element's head are printed as those of its tree.
use Rattle.std.proofs.Common.{◌≡◌, ℕ, suc, ◌+◌, List, [], ◌∷◌, ◌++◌, length, refl, ap, sym, subst, ◌∙◌, arith, append_assoc, append-nil}
use Rattle.std.specs.Prelude.{Some, None, Bool, true, false, codes, map}
use Rattle.std.proofs.lemmas.List.{length-append}
use Rattle.element_store.specs.declared.outcome.Role.{Role}
use Rattle.element_store.specs.declared.outcome.Role.TheVariants as role
use Rattle.element_store.specs.Numbers.{chosen}
use Rattle.element_store.specs.Model.{Data}
use Rattle.text_model.specs.declared.draft.Path.{Path}
use Rattle.text_model.specs.declared.draft.Mention.{Mention}
use Rattle.text_model.specs.declared.draft.Draft.{Draft}
use Rattle.text_model.specs.Drafts.{names as paths_in, mention, mentions}
use Rattle.text_model.specs.Numbering.{numbered, nodes_of, ends, own_mentions, bound_mentions, mentions_of, bound_start, value_start, result_start, end_of, after_node, bounds_of, numbered_in}
use Rattle.print_model.specs.Printed.{sign}
use Rattle.print_model.specs.Trees.{Tree, named, printed}
use Rattle.print_model.specs.Heads.{is_specialisation, limit_tokens, bounds_tokens, value_tokens, word_if, expression}
use Rattle.print_laws.specs.Items.{Bound, Number, Known, Upper, Star, Bounded, Extent, Free, Upto, Between, Run, Typed, Subsetted, Redefined, Referred, Value, Unvalued, Given}
use Rattle.print_laws.specs.ItemTokens.{bound, upper, extent, valued}
use Rattle.print_laws.specs.ItemWalk.{path, chain_path, bound_node, upper_node, extent_nodes, run_mentions, all_mentions, value_of, default_of, result_of}
use Rattle.print_laws.proofs.Views.{mentions_in}
use Rattle.print_laws.proofs.Spelling.{AreNumbered, nodes_in}
use Rattle.print_laws.proofs.RunTokens.{Knows, placeless, qualified_is, mentions_numbered, expression_is}

-- Where the names of an element's parts have their numbers.

-- all mentions, part by part
pub split : (x : Draft) → mentions_of x ≡ own_mentions x ++ (bound_mentions x
    ++ (mentions role.Value (paths_in (nodes_of x.value)) ++ (mentions role.Value (paths_in (nodes_of x.result)) ++ x.inner)))
split x =
    let o = own_mentions x in
    let b = bound_mentions x in
    let v = mentions role.Value (paths_in (nodes_of x.value)) in
    let r = mentions role.Value (paths_in (nodes_of x.result)) in
    append_assoc o (b ++ (v ++ r)) x.inner
    ∙ ap (λ ms. o ++ ms) (append_assoc b (v ++ r) x.inner ∙ ap (λ ms. b ++ ms) (append_assoc v r x.inner))

-- as many mentions as names
mentions_long : (which : Role) (ps : List Path) → length (mentions which ps) ≡ length ps
mentions_long which [] = refl
mentions_long which (p ∷ ps) = ap suc (mentions_long which ps)

-- those of the bounds
bound_numbered : (d : Data) (c s : ℕ) (x : Draft) → Knows d c s x → AreNumbered d (bound_start s x) (map placeless (paths_in (ends x.bounds)))
bound_numbered d c s x k = mentions_numbered d c s x k role.Bound (own_mentions x) (paths_in (ends x.bounds)) _ (split x)

-- of the value
value_numbered : (d : Data) (c s : ℕ) (x : Draft) → Knows d c s x → AreNumbered d (value_start s x) (map placeless (paths_in (nodes_of x.value)))
value_numbered d c s x k =
    let o = own_mentions x in
    let b = bound_mentions x in
    subst (λ n. AreNumbered d n (map placeless (paths_in (nodes_of x.value)))) (sums s o b)
    (mentions_numbered d c s x k role.Value (o ++ b) (paths_in (nodes_of x.value)) _ (split x ∙ sym (append_assoc o b _)))
  where
    sums : (s : ℕ) (xs ys : List Mention) → s + length (xs ++ ys) ≡ (s + length xs) + length ys
    sums s xs ys = omega (arith, length-append xs ys)

-- of the result
result_numbered : (d : Data) (c s : ℕ) (x : Draft) → Knows d c s x → AreNumbered d (result_start s x) (map placeless (paths_in (nodes_of x.result)))
result_numbered d c s x k =
    let o = own_mentions x in
    let b = bound_mentions x in
    let v = mentions role.Value (paths_in (nodes_of x.value)) in
    subst (λ n. AreNumbered d n (map placeless (paths_in (nodes_of x.result)))) (sums s o b v ∙ ap (λ n. ((s + length o) + length b) + n)
    (mentions_long role.Value _))
    (mentions_numbered d c s x k role.Value (o ++ (b ++ v)) (paths_in (nodes_of x.result)) x.inner
    (split x ∙ (ap (λ ms. o ++ ms) (sym (append_assoc b v _)) ∙ sym (append_assoc o (b ++ v) _))))
  where
    sums : (s : ℕ) (xs ys zs : List Mention) → s + length (xs ++ (ys ++ zs)) ≡ ((s + length xs) + length ys) + length zs
    sums s xs ys zs = omega (arith, length-append xs (ys ++ zs), length-append ys zs)

-- Bounds.

-- a bound
bound_is : (d : Data) (n : ℕ) (b : Bound) → AreNumbered d n (map placeless (paths_in (bound_node b ∷ [])))
    → limit_tokens d (end_of n (bound_node b).what) ≡ bound d.language b
bound_is d n (Number i) h = refl
bound_is d n (Known q) h = ap (named d.language) h.0 ∙ qualified_is d.language q

-- an upper bound
upper_is : (d : Data) (n : ℕ) (u : Upper) → AreNumbered d n (map placeless (paths_in (upper_node u ∷ [])))
    → limit_tokens d (end_of n (upper_node u).what) ≡ upper d.language u
upper_is d n Star h = refl
upper_is d n (Bounded b) h = bound_is d n b h

-- the names of two bounds
second_numbered : (d : Data) (n : ℕ) (b : Bound) (u : Upper) → AreNumbered d n (map placeless (paths_in (bound_node b ∷ upper_node u ∷ [])))
    → AreNumbered d (after_node n (bound_node b).what) (map placeless (paths_in (upper_node u ∷ [])))
second_numbered d n (Number i) u h = h
second_numbered d n (Known q) u h = h.1

-- and of the first
first_numbered : (d : Data) (n : ℕ) (b : Bound) (u : Upper) → AreNumbered d n (map placeless (paths_in (bound_node b ∷ upper_node u ∷ [])))
    → AreNumbered d n (map placeless (paths_in (bound_node b ∷ [])))
first_numbered d n (Number i) u h = tt
first_numbered d n (Known q) u h = (h.0, tt)

-- both bounds
extent_is : (d : Data) (n : ℕ) (x : Extent) → AreNumbered d n (map placeless (paths_in (ends (extent_nodes x))))
    → bounds_tokens d (bounds_of n (extent_nodes x)) ≡ extent d.language x
extent_is d n Free h = refl
extent_is d n (Upto u) h = ap (λ ps. sign (codes "[") ∷ (ps ++ sign (codes "]") ∷ [])) (upper_is d n u h)
extent_is d n (Between b u) h =
    ap (λ ps. sign (codes "[") ∷ ((ps ++ (sign (codes "..") ∷ limit_tokens d (end_of (after_node n (bound_node b).what) (upper_node u).what))) ++ sign
    (codes "]") ∷ []))
    (bound_is d n b (first_numbered d n b u h))
    ∙ ap (λ ps. sign (codes "[") ∷ ((bound d.language b ++ (sign (codes "..") ∷ ps)) ++ sign (codes "]") ∷ []))
    (upper_is d (after_node n (bound_node b).what) u (second_numbered d n b u h))

-- the bounds of an element
pub bounds_are : (d : Data) (c s : ℕ) (x : Draft) → Knows d c s x → (y : Extent) → x.bounds ≡ extent_nodes y
    → bounds_tokens d (bounds_of (bound_start s x) x.bounds) ≡ extent d.language y
bounds_are d c s x k y e =
    ap (λ ns. bounds_tokens d (bounds_of (bound_start s x) ns)) e
    ∙ extent_is d (bound_start s x) y (subst (λ ns. AreNumbered d (bound_start s x) (map placeless (paths_in (ends ns)))) e (bound_numbered d c s x k))

-- Values and results.

-- a value
value_at : (d : Data) (n : ℕ) (v : Value) → AreNumbered d n (map placeless (paths_in (nodes_of (value_of v))))
    → value_tokens d (default_of v) (numbered_in n (value_of v)) ≡ valued d.language v
value_at d n Unvalued h = refl
value_at d n (Given b e) h = ap (λ ps. word_if d.language b (codes "default") ++ (sign (codes "=") ∷ ps)) (expression_is d n e h)

-- the value of an element
pub value_is : (d : Data) (c s : ℕ) (x : Draft) → Knows d c s x → (v : Value) → x.value ≡ value_of v
    → value_tokens d (default_of v) (numbered_in (value_start s x) x.value) ≡ valued d.language v
value_is d c s x k v e =
    ap (λ y. value_tokens d (default_of v) (numbered_in (value_start s x) y)) e
    ∙ value_at d (value_start s x) v (subst (λ y. AreNumbered d (value_start s x) (map placeless (paths_in (nodes_of y)))) e (value_numbered d c s x k))

-- its result as an expression
pub result_is : (d : Data) (c s : ℕ) (x : Draft) → Knows d c s x → (e : Tree) → x.result ≡ result_of (Some e) None
    → numbered_in (result_start s x) x.result ≡ Some (numbered (result_start s x) (nodes_in e))
    × (expression d (numbered (result_start s x) (nodes_in e)) ≡ printed d.language e)
result_is d c s x k e q = (
  ap (numbered_in (result_start s x)) q,
  expression_is d (result_start s x) e (subst (λ y. AreNumbered d (result_start s x) (map placeless (paths_in (nodes_of y)))) q (result_numbered d c s x k)),
)

-- Roles.

-- the mentions of two lists
pub in_append : (test : Role → Bool) (xs ys : List Mention) → mentions_in test (xs ++ ys) ≡ mentions_in test xs ++ mentions_in test ys
in_append test [] ys = refl
in_append test (m ∷ ms) ys = ap (chosen (test m.role) m) (in_append test ms ys) ∙ pick (test m.role) m (mentions_in test ms) (mentions_in test ys)
  where
    pick : (b : Bool) (m : Mention) (xs ys : List Mention) → chosen b m (xs ++ ys) ≡ chosen b m xs ++ ys
    pick true m xs ys = refl
    pick false m xs ys = refl

-- all of a role
pub all_of : (test : Role → Bool) (which : Role) (ps : List Path) → test which ≡ true → mentions_in test (mentions which ps) ≡ mentions which ps
all_of test which [] e = refl
all_of test which (p ∷ ps) e =
    ap (λ b. chosen b (mention which p) (mentions_in test (mentions which ps))) e ∙ ap (λ ms. mention which p ∷ ms) (all_of test which ps e)

-- none of another
pub none_of : (test : Role → Bool) (which : Role) (ps : List Path) → test which ≡ false → mentions_in test (mentions which ps) ≡ []
none_of test which [] e = refl
none_of test which (p ∷ ps) e = ap (λ b. chosen b (mention which p) (mentions_in test (mentions which ps))) e ∙ none_of test which ps e

-- only an element's own mentions are in these roles
pub own_alone : (test : Role → Bool) (x : Draft) → test role.Bound ≡ false → test role.Value ≡ false → mentions_in test x.inner ≡ []
    → mentions_in test (mentions_of x) ≡ mentions_in test (own_mentions x)
own_alone test x b v i =
    let o = own_mentions x in
    let bs = bound_mentions x in
    let vs = mentions role.Value (paths_in (nodes_of x.value)) in
    let rs = mentions role.Value (paths_in (nodes_of x.result)) in
    ap (mentions_in test) (split x)
    ∙ (in_append test o (bs ++ (vs ++ (rs ++ x.inner)))
    ∙ (ap (λ ms. mentions_in test o ++ ms)
    (in_append test bs (vs ++ (rs ++ x.inner)) ∙ (ap (λ ms. ms ++ mentions_in test (vs ++ (rs ++ x.inner))) (none_of test role.Bound _ b)
    ∙ (in_append test vs (rs ++ x.inner) ∙ (ap (λ ms. ms ++ mentions_in test (rs ++ x.inner)) (none_of test role.Value _ v)
    ∙ (in_append test rs x.inner ∙ (ap (λ ms. ms ++ mentions_in test x.inner) (none_of test role.Value _ v) ∙ i))))))
    ∙ append-nil (mentions_in test o)))

-- those of a run are specialisations
run_roles : (x : Run) → mentions_in is_specialisation (run_mentions x) ≡ run_mentions x
run_roles (Typed q qs) = all_of is_specialisation role.Typing (path q ∷ map path qs) refl
run_roles (Subsetted c cs) = all_of is_specialisation role.Subsetting (chain_path c ∷ map chain_path cs) refl
run_roles (Redefined q qs) = all_of is_specialisation role.Redefinition (path q ∷ map path qs) refl
run_roles (Referred c) = refl

-- all of runs are specialisations
pub runs_roles : (xs : List Run) → mentions_in is_specialisation (all_mentions xs) ≡ all_mentions xs
runs_roles [] = refl
runs_roles (x ∷ xs) =
    in_append is_specialisation (run_mentions x) (all_mentions xs)
    ∙ (ap (λ ms. ms ++ mentions_in is_specialisation (all_mentions xs)) (run_roles x) ∙ ap (λ ms. run_mentions x ++ ms) (runs_roles xs))
