-- The printed text is its tokens with the space behind each, and a tree is the one that its nodes spell.
use Rattle.std.proofs.Common.{◌≡◌, ℕ, List, [], ◌∷◌, ◌++◌, refl, ap, sym, ◌∙◌, append_assoc, append-nil}
use Rattle.element_store.specs.declared.expression.Node.{Node}
use Rattle.element_store.specs.declared.expression.Node.TheVariants as node
use Rattle.element_store.specs.Model.{Data}
use Rattle.print_model.specs.Printed.{Printed}
use Rattle.print_model.specs.Trees.{Tree, Integer, Boolean, Text, Null, Named, Before, Between, Choice}
use Rattle.print_model.specs.Layout.{Line, gap, set, indent, line_bytes, text_of}
use Rattle.print_model.specs.Neighbours.{Put, bytes_in, puts_in, puts_of}
use Rattle.print_model.specs.Heads.{standing, spelt}
use Rattle.print_model.specs.Spelt.{IsSpelt}

-- each line has a token
abbrev pub HasTokens : List Printed → Type 0
HasTokens [] = ⊥
HasTokens (p ∷ ps) = Unit {0}

-- each of the lines has a token
abbrev pub AllHaveTokens : List Line → Type 0
AllHaveTokens [] = Unit {0}
AllHaveTokens (l ∷ ls) = HasTokens l.tokens × AllHaveTokens ls

set_puts : (ps : List Printed) (after : List ℕ) (rest : List Put) → HasTokens ps → bytes_in (puts_in ps after ++ rest) ≡ set ps ++ (after ++ bytes_in rest)
set_puts [] after rest h = elim h [ ]
set_puts (p ∷ []) after rest h = refl
set_puts (p ∷ q ∷ ps) after rest h =
    ap (λ xs. p.bytes ++ (gap p q ++ xs)) (set_puts (q ∷ ps) after rest tt)
    ∙ (ap (λ xs. p.bytes ++ xs) (sym (append_assoc (gap p q) (set (q ∷ ps)) (after ++ bytes_in rest)))
    ∙ sym (append_assoc p.bytes (gap p q ++ set (q ∷ ps)) (after ++ bytes_in rest)))

-- the level of the first line
abbrev pub first_level : List Line → ℕ
first_level [] = 0
first_level (l ∷ ls) = l.level

-- the text is the bytes of its tokens with their white space
pub text_puts : (ls : List Line) → AllHaveTokens ls → text_of ls ≡ indent (first_level ls) ++ bytes_in (puts_of ls)
text_puts [] h = refl
text_puts (l ∷ []) h =
    append-nil (line_bytes l)
    ∙ ap (λ xs. indent l.level ++ xs) (sym (set_puts l.tokens (10 ∷ []) [] h.0))
text_puts (l ∷ m ∷ ls) h =
    ap (λ xs. line_bytes l ++ xs) (text_puts (m ∷ ls) h.1)
    ∙ (append_assoc (indent l.level) (set l.tokens ++ 10 ∷ []) (indent m.level ++ bytes_in (puts_of (m ∷ ls)))
    ∙ ap (λ xs. indent l.level ++ xs) (append_assoc (set l.tokens) (10 ∷ []) (indent m.level ++ bytes_in (puts_of (m ∷ ls)))
    ∙ sym (set_puts l.tokens (10 ∷ indent m.level) (puts_of (m ∷ ls)) h.0)))

-- the nodes that are read first
spelt_on : (d : Data) (xs ys : List Node) (ts : List Tree) → spelt d (xs ++ ys) ts ≡ spelt d ys (spelt d xs ts)
spelt_on d [] ys ts = refl
spelt_on d (x ∷ xs) ys ts = spelt_on d xs ys (standing d x ts)

-- what printing reads from them is that tree
pub spelt_is : (d : Data) (ns : List Node) (t : Tree) (ts : List Tree) → IsSpelt d ns t → spelt d ns ts ≡ t ∷ ts
spelt_is d ns (Integer n) ts h = ap (λ xs. spelt d xs ts) h
spelt_is d ns (Boolean b) ts h = ap (λ xs. spelt d xs ts) h
spelt_is d ns (Text bytes) ts h = ap (λ xs. spelt d xs ts) h
spelt_is d ns Null ts h = ap (λ xs. spelt d xs ts) h
spelt_is d ns (Named p) ts h = ap (λ xs. spelt d xs ts) h.1 ∙ ap (λ q. Named q ∷ ts) h.2
spelt_is d ns (Before o a) ts h =
    ap (λ xs. spelt d xs ts) h.2 ∙ (spelt_on d h.0 (node.Unary o ∷ []) ts ∙ ap (standing d (node.Unary o)) (spelt_is d h.0 a ts h.1))
spelt_is d ns (Between o a b) ts h =
    ap (λ xs. spelt d xs ts) h.4 ∙ (spelt_on d h.0 (h.1 ++ node.Binary o ∷ []) ts
    ∙ (ap (λ us. spelt d (h.1 ++ node.Binary o ∷ []) us) (spelt_is d h.0 a ts h.2)
    ∙ (spelt_on d h.1 (node.Binary o ∷ []) (a ∷ ts) ∙ ap (standing d (node.Binary o)) (spelt_is d h.1 b (a ∷ ts) h.3))))
spelt_is d ns (Choice a b c) ts h =
    ap (λ xs. spelt d xs ts) h.6 ∙ (spelt_on d h.0 (h.1 ++ (h.2 ++ node.If ∷ [])) ts
    ∙ (ap (λ us. spelt d (h.1 ++ (h.2 ++ node.If ∷ [])) us) (spelt_is d h.0 a ts h.3)
    ∙ (spelt_on d h.1 (h.2 ++ node.If ∷ []) (a ∷ ts)
    ∙ (ap (λ us. spelt d (h.2 ++ node.If ∷ []) us) (spelt_is d h.1 b (a ∷ ts) h.4)
    ∙ (spelt_on d h.2 (node.If ∷ []) (b ∷ a ∷ ts) ∙ ap (standing d node.If) (spelt_is d h.2 c (b ∷ a ∷ ts) h.5))))))
