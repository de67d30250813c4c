-- Whole nodes spell a tree.
use Rattle.std.proofs.Common.{◌≡◌, ℕ, zero, suc, ◌<◌, ◌^◌, List, [], ◌∷◌, ◌++◌, length, refl, ap, sym, subst, ◌∙◌, append_assoc, append-nil}
use Rattle.std.specs.Prelude.{true, Option, Some, None, pos}
use Rattle.element_store.specs.declared.expression.Node.{Node}
use Rattle.element_store.specs.declared.expression.Node.TheVariants as node
use Rattle.element_store.specs.Expressions.{stand, stand_after, is_one, is_whole}
use Rattle.element_store.specs.Model.{Data}
use Rattle.text_laws.specs.Fits.{Every}
use Rattle.print_model.specs.Trees.{Tree, Integer, Boolean, Text, Null, Named, Before, Between, Choice, IsPrintable}
use Rattle.print_model.specs.Heads.{path_at}
use Rattle.print_model.specs.Spelt.{IsSpelt, HasTree}

-- an integer is a value, and a name has a segment
abbrev pub IsGood : Data → Node → Type 0
IsGood d (node.Integer i) = (n : ℕ) × (i ≡ pos n) × (n < 2 ^ 63)
IsGood d (node.Named r) = (path_at d r).path ≡ [] → ⊥
IsGood d other = Unit {0}

-- the nodes are those of trees, of which the last stands first
abbrev AreSpelt : Data → List Node → List Tree → Type 0
AreSpelt d ns [] = ns ≡ []
AreSpelt d ns (t ∷ ts) = (xs : List Node) × (ys : List Node) × AreSpelt d xs ts × IsSpelt d ys t × IsPrintable t × (ns ≡ xs ++ ys)

-- so many trees stand after the nodes
abbrev Standing : Data → List Node → ℕ → Type 0
Standing d ns n = (ts : List Tree) × AreSpelt d ns ts × (length ts ≡ n)

abbrev OptionStands : Data → List Node → Option ℕ → Type 0
OptionStands d ns None = Unit {0}
OptionStands d ns (Some n) = Standing d ns n

leaf_stands : (d : Data) (ns ys : List Node) (ts : List Tree) (t : Tree) → AreSpelt d ns ts → IsSpelt d ys t → IsPrintable t
    → Standing d (ns ++ ys) (suc (length ts))
leaf_stands d ns ys ts t h s p = (t ∷ ts, (ns, ys, h, s, p, refl), refl)

node_stands : (d : Data) (ns : List Node) (x : Node) (ts : List Tree) (m : ℕ) → IsGood d x → AreSpelt d ns ts → stand_after x (length ts) ≡ Some m
    → Standing d (ns ++ x ∷ []) m
node_stands d ns (node.Integer i) ts m g h e =
    subst (λ o. OptionStands d (ns ++ node.Integer i ∷ []) o) e
    (leaf_stands d ns (node.Integer i ∷ []) ts (Integer g.0) h (ap (λ j. node.Integer j ∷ []) g.1) g.2)
node_stands d ns (node.Boolean b) ts m g h e = subst (λ o. OptionStands d (ns ++ node.Boolean b ∷ []) o) e
    (leaf_stands d ns (node.Boolean b ∷ []) ts (Boolean b) h refl tt)
node_stands d ns (node.Text bytes) ts m g h e = subst (λ o. OptionStands d (ns ++ node.Text bytes ∷ []) o) e
    (leaf_stands d ns (node.Text bytes ∷ []) ts (Text bytes) h refl tt)
node_stands d ns node.Null ts m g h e = subst (λ o. OptionStands d (ns ++ node.Null ∷ []) o) e (leaf_stands d ns (node.Null ∷ []) ts Null h refl tt)
node_stands d ns (node.Named r) ts m g h e = subst (λ o. OptionStands d (ns ++ node.Named r ∷ []) o) e
    (leaf_stands d ns (node.Named r ∷ []) ts (Named (path_at d r)) h (r, refl, refl) g)
node_stands d ns (node.Unary o) [] m g h e = cc
node_stands d ns (node.Unary o) (a ∷ ts) m g h e =
    subst (λ k. OptionStands d (ns ++ node.Unary o ∷ []) k) e (
      Before o a ∷ ts,
      (
        h.0,
        h.1 ++ node.Unary o ∷ [],
        h.2,
        (h.1, h.3, refl),
        h.4,
        ap (λ xs. xs ++ node.Unary o ∷ []) h.5
            ∙ append_assoc h.0 h.1 (node.Unary o ∷ []),
      ),
      refl,
    )
node_stands d ns (node.Binary o) [] m g h e = cc
node_stands d ns (node.Binary o) (b ∷ []) m g h e = cc
node_stands d ns (node.Binary o) (b ∷ a ∷ ts) m g h e =
    let k = h.2 in
    subst (λ z. OptionStands d (ns ++ node.Binary o ∷ []) z) e (
      Between o a b ∷ ts,
      (
        k.0,
        k.1 ++ (h.1 ++ node.Binary o ∷ []),
        k.2,
        (k.1, h.1, k.3, h.3, refl),
        (k.4, h.4),
        ap (λ xs. xs ++ node.Binary o ∷ []) (h.5 ∙ ap (λ xs. xs ++ h.1) k.5)
            ∙ (append_assoc (k.0 ++ k.1) h.1 (node.Binary o ∷ []) ∙ append_assoc k.0 k.1 (h.1 ++ node.Binary o ∷ [])),
      ),
      refl,
    )
node_stands d ns node.If [] m g h e = cc
node_stands d ns node.If (c ∷ []) m g h e = cc
node_stands d ns node.If (c ∷ b ∷ []) m g h e = cc
node_stands d ns node.If (c ∷ b ∷ a ∷ ts) m g h e =
    let k = h.2 in
    let j = k.2 in
    subst (λ z. OptionStands d (ns ++ node.If ∷ []) z) e (
      Choice a b c ∷ ts,
      (
        j.0,
        j.1 ++ (k.1 ++ (h.1 ++ node.If ∷ [])),
        j.2,
        (j.1, k.1, h.1, j.3, k.3, h.3, refl),
        (j.4, k.4, h.4),
        ap (λ xs. xs ++ node.If ∷ []) (h.5 ∙ ap (λ xs. xs ++ h.1) (k.5 ∙ ap (λ xs. xs ++ k.1) j.5))
            ∙ (append_assoc ((j.0 ++ j.1) ++ k.1) h.1 (node.If ∷ [])
            ∙ (append_assoc (j.0 ++ j.1) k.1 (h.1 ++ node.If ∷ []) ∙ append_assoc j.0 j.1 (k.1 ++ (h.1 ++ node.If ∷ [])))),
      ),
      refl,
    )

none_stands : (ns : List Node) (m : ℕ) → stand ns None ≡ Some m → ⊥
none_stands [] m e = cc
none_stands (x ∷ ns) m e = cc

-- one node, and the rest
go_on : (d : Data) (xs : List Node) (n : Node) (ns : List Node) (ts : List Tree) (m : ℕ)
    → ((v : ℕ) → stand_after n (length ts) ≡ Some v → Standing d (xs ++ n ∷ []) v)
    → ((us : List Tree) (v : ℕ) → AreSpelt d (xs ++ n ∷ []) us → Some v ≡ Some (length us) → stand ns (Some v) ≡ Some m
    → Standing d ((xs ++ n ∷ []) ++ ns) m)
    → (o : Option ℕ) → stand_after n (length ts) ≡ o → stand ns o ≡ Some m → Standing d (xs ++ n ∷ ns) m
go_on d xs n ns ts m on rest None q k = elim (none_stands ns m k) [ ]
go_on d xs n ns ts m on rest (Some v) q k =
    let s = on v q in
    subst (λ ys. Standing d ys m) (append_assoc xs (n ∷ []) ns) (rest s.0 v s.1 (ap (λ j. Some j) (sym s.2)) k)

nodes_stand : (d : Data) (xs ns : List Node) (ts : List Tree) (o : Option ℕ) (m : ℕ) → Every (IsGood d) ns → AreSpelt d xs ts → o ≡ Some (length ts)
    → stand ns o ≡ Some m
    → Standing d (xs ++ ns) m
nodes_stand d xs [] ts None m g h e k = cc
nodes_stand d xs [] ts (Some n) m g h e k = subst (λ ys. Standing d ys m) (sym (append-nil xs)) (ts, h, some_same (length ts) m (sym e ∙ k))
  where
    some_same : (a b : ℕ) → Some a ≡ Some b → a ≡ b
    some_same a b e = cc
nodes_stand d xs (n ∷ ns) ts None m g h e k = cc
nodes_stand d xs (n ∷ ns) ts (Some c) m g h e k =
    go_on d xs n ns ts m (λ v q. node_stands d xs n ts v g.0 h q) (λ us v h e k. nodes_stand d (xs ++ n ∷ []) ns us (Some v) m g.1 h e k)
    (stand_after n (length ts)) refl (ap (stand (n ∷ ns)) (sym e) ∙ k)

-- nodes that are whole, with integers that are values and names that have segments, spell one tree
pub whole_tree : (d : Data) (ns : List Node) → Every (IsGood d) ns → is_whole ns ≡ true → HasTree d ns
whole_tree d ns g e = one_stands d ns (nodes_stand d [] ns [] (Some 0) 1 g refl refl (one_is (stand ns (Some 0)) e))
  where
    one_is : (o : Option ℕ) → is_one o ≡ true → o ≡ Some 1
    one_is None e = cc
    one_is (Some zero) e = cc
    one_is (Some (suc zero)) e = refl
    one_is (Some (suc (suc n))) e = cc

    one_stands : (d : Data) (ns : List Node) → Standing d ns 1 → HasTree d ns
    one_stands d ns ([], h, e) = cc
    one_stands d ns (t ∷ [], h, e) = (t, subst (λ ys. IsSpelt d ys t) (sym (h.5 ∙ ap (λ xs. xs ++ h.1) h.2)) h.3, h.4)
    one_stands d ns (t ∷ u ∷ ts, h, e) = cc
