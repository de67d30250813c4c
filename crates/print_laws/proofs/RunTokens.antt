-- The references, the bounds and the value of an element are printed as those of its tree.
use Rattle.std.proofs.Common.{◌≡◌, ℕ, suc, ◌+◌, List, [], ◌∷◌, ◌++◌, length, refl, ap, sym, subst, ◌∙◌, arith, append_assoc, append-nil}
use Rattle.std.specs.Prelude.{Option, Some, None, Bool, false, cond, codes, map}
use Rattle.std.proofs.lemmas.List.{length-append, map-append}
use Rattle.element_store.specs.declared.outcome.Language.{Language}
use Rattle.element_store.specs.declared.outcome.Role.{Role}
use Rattle.element_store.specs.declared.outcome.Role.TheVariants as role
use Rattle.element_store.specs.declared.records.Reference.{Reference}
use Rattle.element_store.specs.Model.{Data}
use Rattle.text_model.specs.declared.draft.Path.{Path}
use Rattle.text_model.specs.declared.draft.Mention.{Mention}
use Rattle.text_model.specs.declared.draft.Draft.{Draft}
use Rattle.text_model.specs.declared.draft.DraftNode.{DraftNode}
use Rattle.text_model.specs.declared.draft.What.{What}
use Rattle.text_model.specs.declared.draft.What.TheVariants as what
use Rattle.text_model.specs.Drafts.{name_in, names as paths_in, mention, mentions}
use Rattle.text_model.specs.Numbering.{element, mentions_of, reference, numbered}
use Rattle.print_model.specs.Printed.{sign}
use Rattle.print_model.specs.Trees.{Tree, Integer, Boolean, Text, Null, Named, Before, Between, Choice, postfix, behind, headed, rooted, named, printed}
use Rattle.print_model.specs.Heads.{element_at, items_at, references_in, path_at, goes_on, specialisations, first_tree, expression}
use Rattle.print_model.specs.ReadBack.{unplaced_node}
use Rattle.print_laws.specs.Items.{Qualified, Chained, Run, Typed, Subsetted, Redefined, Referred}
use Rattle.print_laws.specs.ItemTokens.{qualified, chained, more_names, more_chains, run, runs}
use Rattle.print_laws.specs.ItemWalk.{path, chain_path, run_mentions, all_mentions}
use Rattle.print_laws.specs.Fitting.{are_alike, AreParted}
use Rattle.print_laws.proofs.Views.{mentions_in}
use Rattle.print_laws.proofs.Spelling.{printed_same, names_of, AreNumbered, nodes_in, tree_spelt}

-- what a model has of an element: its record, its items, its references in each role, and what each mention's number leads to
pub record Knows (d : Data) (c s : ℕ) (x : Draft) : Type 0 where
  pub element_is : element_at d c ≡ element s x
  pub items_are : items_at d c ≡ x.items
  pub references_are : (test : Role → Bool) → references_in d test c ≡ map (reference c) (mentions_in test (mentions_of x))
  pub path_is : (fs : List Mention) (m : Mention) (bs : List Mention) → mentions_of x ≡ fs ++ m ∷ bs
      → path_at d (s + length fs) ≡ record m.path { place = 0 }

-- Names.

-- a qualified name and a chain are printed alike
pub qualified_is : (l : Language) (q : Qualified) → named l (path q) ≡ qualified l q
qualified_is l q = ap (λ ps. rooted q.absolute ++ ps) (append-nil (headed l (q.first ∷ q.more)))

-- so is a chain
pub chained_is : (l : Language) (c : Chained) → named l (chain_path c) ≡ chained l c
chained_is l c = sym (append_assoc (rooted c.name.absolute) (headed l (c.name.first ∷ c.name.more)) (behind l (codes ".") c.steps))

-- a reference is printed as its path
abbrev of_path : ℕ → Role → Path → Reference
of_path c which p = reference c (mention which p)

-- Runs.

-- further names of a run, and what follows
more_typed : (l : Language) (c : ℕ) (qs : List Qualified) (rs : List Reference)
    → specialisations l (Some role.Typing) (map (reference c) (mentions role.Typing (map path qs)) ++ rs)
    ≡ more_names l qs ++ specialisations l (Some role.Typing) rs
more_typed l c [] rs = refl
more_typed l c (q ∷ qs) rs =
    ap (λ ps. sign (codes ",") ∷ (ps ++ specialisations l (Some role.Typing) (map (reference c) (mentions role.Typing (map path qs)) ++ rs))) (qualified_is l q)
    ∙ (ap (λ ps. sign (codes ",") ∷ (qualified l q ++ ps)) (more_typed l c qs rs)
    ∙ ap (λ ps. sign (codes ",") ∷ ps) (sym (append_assoc (qualified l q) (more_names l qs) (specialisations l (Some role.Typing) rs))))

-- of redefinitions
more_redefined : (l : Language) (c : ℕ) (qs : List Qualified) (rs : List Reference)
    → specialisations l (Some role.Redefinition) (map (reference c) (mentions role.Redefinition (map path qs)) ++ rs)
    ≡ more_names l qs ++ specialisations l (Some role.Redefinition) rs
more_redefined l c [] rs = refl
more_redefined l c (q ∷ qs) rs =
    ap (λ ps. sign (codes ",") ∷ (ps ++ specialisations l (Some role.Redefinition) (map (reference c) (mentions role.Redefinition (map path qs)) ++ rs)))
    (qualified_is l q)
    ∙ (ap (λ ps. sign (codes ",") ∷ (qualified l q ++ ps)) (more_redefined l c qs rs)
    ∙ ap (λ ps. sign (codes ",") ∷ ps) (sym (append_assoc (qualified l q) (more_names l qs) (specialisations l (Some role.Redefinition) rs))))

-- of generals
more_subclass : (l : Language) (c : ℕ) (qs : List Qualified)
    → specialisations l (Some role.Subclass) (map (reference c) (mentions role.Subclass (map path qs))) ≡ more_names l qs
more_subclass l c [] = refl
more_subclass l c (q ∷ qs) =
    ap (λ ps. sign (codes ",") ∷ (ps ++ specialisations l (Some role.Subclass) (map (reference c) (mentions role.Subclass (map path qs))))) (qualified_is l q)
    ∙ ap (λ ps. sign (codes ",") ∷ (qualified l q ++ ps)) (more_subclass l c qs)

-- of subsettings
more_subsetted : (l : Language) (c : ℕ) (qs : List Chained) (rs : List Reference)
    → specialisations l (Some role.Subsetting) (map (reference c) (mentions role.Subsetting (map chain_path qs)) ++ rs)
    ≡ more_chains l qs ++ specialisations l (Some role.Subsetting) rs
more_subsetted l c [] rs = refl
more_subsetted l c (q ∷ qs) rs =
    ap (λ ps. sign (codes ",") ∷ (ps ++ specialisations l (Some role.Subsetting) (map (reference c) (mentions role.Subsetting (map chain_path qs)) ++ rs)))
    (chained_is l q)
    ∙ (ap (λ ps. sign (codes ",") ∷ (chained l q ++ ps)) (more_subsetted l c qs rs)
    ∙ ap (λ ps. sign (codes ",") ∷ ps) (sym (append_assoc (chained l q) (more_chains l qs) (specialisations l (Some role.Subsetting) rs))))

-- the role of a run
abbrev role_of : Run → Role
role_of (Typed q qs) = role.Typing
role_of (Subsetted c cs) = role.Subsetting
role_of (Redefined q qs) = role.Redefinition
role_of (Referred c) = role.ReferenceSubsetting

-- one run behind a role that doesn't go on with it
run_is : (l : Language) (c : ℕ) (o : Option Role) (x : Run) (rs : List Reference) → goes_on o (role_of x) ≡ false
    → specialisations l o (map (reference c) (run_mentions x) ++ rs) ≡ run l x ++ specialisations l (Some (role_of x)) rs
run_is l c o (Typed q qs) rs e =
    ap (λ b. sign (cond b (codes ",") (codes ":")) ∷ (named l (path q)
    ++ specialisations l (Some role.Typing) (map (reference c) (mentions role.Typing (map path qs)) ++ rs))) e
    ∙ (ap (λ ps. sign (codes ":") ∷ (ps ++ specialisations l (Some role.Typing) (map (reference c) (mentions role.Typing (map path qs)) ++ rs)))
    (qualified_is l q)
    ∙ (ap (λ ps. sign (codes ":") ∷ (qualified l q ++ ps)) (more_typed l c qs rs)
    ∙ ap (λ ps. sign (codes ":") ∷ ps) (sym (append_assoc (qualified l q) (more_names l qs) (specialisations l (Some role.Typing) rs)))))
run_is l c o (Redefined q qs) rs e =
    ap (λ b. sign (cond b (codes ",") (codes ":>>")) ∷ (named l (path q)
    ++ specialisations l (Some role.Redefinition) (map (reference c) (mentions role.Redefinition (map path qs)) ++ rs))) e
    ∙ (ap (λ ps. sign (codes ":>>") ∷ (ps ++ specialisations l (Some role.Redefinition) (map (reference c) (mentions role.Redefinition (map path qs)) ++ rs)))
    (qualified_is l q)
    ∙ (ap (λ ps. sign (codes ":>>") ∷ (qualified l q ++ ps)) (more_redefined l c qs rs)
    ∙ ap (λ ps. sign (codes ":>>") ∷ ps) (sym (append_assoc (qualified l q) (more_names l qs) (specialisations l (Some role.Redefinition) rs)))))
run_is l c o (Subsetted q qs) rs e =
    ap (λ b. sign (cond b (codes ",") (codes ":>")) ∷ (named l (chain_path q)
    ++ specialisations l (Some role.Subsetting) (map (reference c) (mentions role.Subsetting (map chain_path qs)) ++ rs))) e
    ∙ (ap (λ ps. sign (codes ":>") ∷ (ps ++ specialisations l (Some role.Subsetting) (map (reference c) (mentions role.Subsetting (map chain_path qs)) ++ rs)))
    (chained_is l q)
    ∙ (ap (λ ps. sign (codes ":>") ∷ (chained l q ++ ps)) (more_subsetted l c qs rs)
    ∙ ap (λ ps. sign (codes ":>") ∷ ps) (sym (append_assoc (chained l q) (more_chains l qs) (specialisations l (Some role.Subsetting) rs)))))
run_is l c o (Referred q) rs e =
    ap (λ b. sign (cond b (codes ",") (codes "::>")) ∷ (named l (chain_path q) ++ specialisations l (Some role.ReferenceSubsetting) rs)) e
    ∙ ap (λ ps. sign (codes "::>") ∷ (ps ++ specialisations l (Some role.ReferenceSubsetting) rs)) (chained_is l q)

-- a run goes on with no run of another sign
parted_goes : (x y : Run) → are_alike x y ≡ false → goes_on (Some (role_of x)) (role_of y) ≡ false
parted_goes (Typed q qs) (Typed r rs) e = cc
parted_goes (Typed q qs) (Subsetted r rs) e = refl
parted_goes (Typed q qs) (Redefined r rs) e = refl
parted_goes (Typed q qs) (Referred r) e = refl
parted_goes (Subsetted q qs) (Typed r rs) e = refl
parted_goes (Subsetted q qs) (Subsetted r rs) e = cc
parted_goes (Subsetted q qs) (Redefined r rs) e = refl
parted_goes (Subsetted q qs) (Referred r) e = refl
parted_goes (Redefined q qs) (Typed r rs) e = refl
parted_goes (Redefined q qs) (Subsetted r rs) e = refl
parted_goes (Redefined q qs) (Redefined r rs) e = cc
parted_goes (Redefined q qs) (Referred r) e = refl
parted_goes (Referred q) (Typed r rs) e = refl
parted_goes (Referred q) (Subsetted r rs) e = refl
parted_goes (Referred q) (Redefined r rs) e = refl
parted_goes (Referred q) (Referred r) e = refl

-- all runs behind a role
runs_behind : (l : Language) (c : ℕ) (x : Run) (xs : List Run) → AreParted (x ∷ xs)
    → specialisations l (Some (role_of x)) (map (reference c) (all_mentions xs)) ≡ runs l xs
runs_behind l c x [] h = refl
runs_behind l c x (y ∷ xs) h =
    ap (specialisations l (Some (role_of x))) (map-append (reference c) (run_mentions y) (all_mentions xs))
    ∙ (run_is l c (Some (role_of x)) y (map (reference c) (all_mentions xs)) (parted_goes x y h.0)
    ∙ ap (λ ps. run l y ++ ps) (runs_behind l c y xs h.1))

-- the first run goes on with nothing
none_goes : (x : Run) → goes_on None (role_of x) ≡ false
none_goes (Typed q qs) = refl
none_goes (Subsetted q qs) = refl
none_goes (Redefined q qs) = refl
none_goes (Referred q) = refl

-- runs that are parted are printed as the mentions that they make
pub runs_are : (l : Language) (c : ℕ) (xs : List Run) → AreParted xs → specialisations l None (map (reference c) (all_mentions xs)) ≡ runs l xs
runs_are l c [] h = refl
runs_are l c (x ∷ xs) h =
    ap (specialisations l None) (map-append (reference c) (run_mentions x) (all_mentions xs))
    ∙ (run_is l c None x (map (reference c) (all_mentions xs)) (none_goes x) ∙ ap (λ ps. run l x ++ ps) (runs_behind l c x xs h))

-- so are a type's generals
pub generals_are : (l : Language) (c : ℕ) (q : Qualified) (qs : List Qualified)
    → specialisations l None (map (reference c) (mentions role.Subclass (map path (q ∷ qs)))) ≡ sign (codes ":>") ∷ (qualified l q ++ more_names l qs)
generals_are l c q qs =
    ap (λ ps. sign (codes ":>") ∷ (ps ++ specialisations l (Some role.Subclass) (map (reference c) (mentions role.Subclass (map path qs))))) (qualified_is l q)
    ∙ ap (λ ps. sign (codes ":>") ∷ (qualified l q ++ ps)) (more_subclass l c qs)

-- Numbers of mentions.

-- a path at no place
abbrev pub placeless : Path → Path
placeless p = record p { place = 0 }

-- mentions behind others have their numbers, one after another
pub mentions_numbered : (d : Data) (c s : ℕ) (x : Draft) → Knows d c s x → (which : Role) (fs : List Mention) (ps : List Path) (bs : List Mention)
    → mentions_of x ≡ fs ++ (mentions which ps ++ bs) → AreNumbered d (s + length fs) (map placeless ps)
mentions_numbered d c s x k which fs [] bs e = tt
mentions_numbered d c s x k which fs (p ∷ ps) bs e = (
  k.path_is fs (mention which p) (mentions which ps ++ bs) e,
  subst (λ n. AreNumbered d n (map placeless ps)) (one_more s fs (mention which p))
      (mentions_numbered d c s x k which (fs ++ mention which p ∷ []) ps bs (e ∙ sym (append_assoc fs (mention which p ∷ []) (mentions which ps ++ bs)))),
)
  where
    one_more : (s : ℕ) (fs : List Mention) (m : Mention) → s + length (fs ++ m ∷ []) ≡ suc (s + length fs)
    one_more s fs m = omega (arith, length-append fs (m ∷ []))

-- Values.

-- names of two lists of nodes
paths_append : (ns ms : List DraftNode) → paths_in (ns ++ ms) ≡ paths_in ns ++ paths_in ms
paths_append [] ms = refl
paths_append (n ∷ ns) ms = ap (λ xs. name_in n.what ++ xs) (paths_append ns ms) ∙ sym (append_assoc (name_in n.what) (paths_in ns) (paths_in ms))

-- of two postfix lists
paths_both : (xs ys : List What) → paths_in (map unplaced_node (xs ++ ys)) ≡ paths_in (map unplaced_node xs) ++ paths_in (map unplaced_node ys)
paths_both xs ys = ap paths_in (map-append unplaced_node xs ys) ∙ paths_append (map unplaced_node xs) (map unplaced_node ys)

-- the names of a tree are those of its nodes
pub tree_paths : (e : Tree) → paths_in (nodes_in e) ≡ names_of e
tree_paths (Integer n) = refl
tree_paths (Boolean b) = refl
tree_paths (Text bytes) = refl
tree_paths Null = refl
tree_paths (Named p) = refl
tree_paths (Before o a) = paths_both (postfix a) (what.Unary o ∷ []) ∙ (append-nil (paths_in (nodes_in a)) ∙ tree_paths a)
tree_paths (Between o a b) =
    paths_both (postfix a) (postfix b ++ what.Binary o ∷ [])
    ∙ (ap (λ ps. paths_in (nodes_in a) ++ ps) (paths_both (postfix b) (what.Binary o ∷ []) ∙ append-nil (paths_in (nodes_in b)))
    ∙ (ap (λ ps. ps ++ paths_in (nodes_in b)) (tree_paths a) ∙ ap (λ ps. names_of a ++ ps) (tree_paths b)))
tree_paths (Choice a b c) =
    paths_both (postfix a) (postfix b ++ (postfix c ++ what.If ∷ []))
    ∙ (ap (λ ps. paths_in (nodes_in a) ++ ps) (paths_both (postfix b) (postfix c ++ what.If ∷ []))
    ∙ (ap (λ ps. paths_in (nodes_in a) ++ (paths_in (nodes_in b) ++ ps)) (paths_both (postfix c) (what.If ∷ []) ∙ append-nil (paths_in (nodes_in c)))
    ∙ (ap (λ ps. ps ++ (paths_in (nodes_in b) ++ paths_in (nodes_in c))) (tree_paths a)
    ∙ (ap (λ ps. names_of a ++ (ps ++ paths_in (nodes_in c))) (tree_paths b) ∙ ap (λ ps. names_of a ++ (names_of b ++ ps)) (tree_paths c)))))

-- they are at no place
placeless_names : (e : Tree) → map placeless (names_of e) ≡ names_of e
placeless_names (Integer n) = refl
placeless_names (Boolean b) = refl
placeless_names (Text bytes) = refl
placeless_names Null = refl
placeless_names (Named p) = refl
placeless_names (Before o a) = placeless_names a
placeless_names (Between o a b) =
    map-append placeless (names_of a) (names_of b)
    ∙ (ap (λ ps. ps ++ map placeless (names_of b)) (placeless_names a) ∙ ap (λ ps. names_of a ++ ps) (placeless_names b))
placeless_names (Choice a b c) =
    map-append placeless (names_of a) (names_of b ++ names_of c)
    ∙ (ap (λ ps. map placeless (names_of a) ++ ps) (map-append placeless (names_of b) (names_of c))
    ∙ (ap (λ ps. ps ++ (map placeless (names_of b) ++ map placeless (names_of c))) (placeless_names a)
    ∙ (ap (λ ps. names_of a ++ (ps ++ map placeless (names_of c))) (placeless_names b)
    ∙ ap (λ ps. names_of a ++ (names_of b ++ ps)) (placeless_names c))))

-- an expression whose names have their numbers is printed as its tree
pub expression_is : (d : Data) (n : ℕ) (e : Tree) → AreNumbered d n (map placeless (paths_in (nodes_in e)))
    → expression d (numbered n (nodes_in e)) ≡ printed d.language e
expression_is d n e h =
    ap (λ ts. printed d.language (first_tree ts))
    (tree_spelt d n e [] (subst (AreNumbered d n) (ap (map placeless) (tree_paths e) ∙ placeless_names e) h))
    ∙ printed_same d.language e
