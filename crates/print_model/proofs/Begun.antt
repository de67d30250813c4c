-- An expression is read back where none is open yet, in a text with its places too; and its nodes are those that were printed.
use Rattle.std.proofs.Common.{◌≡◌, ◌≤◌, List, [], ◌∷◌, ◌++◌, refl, ap, sym, subst, ◌∙◌, arith, append_assoc, append-nil}
use Rattle.std.specs.Prelude.{Option, Some, None, codes, map}
use Rattle.std.specs.Option.{option_map}
use Rattle.element_store.specs.declared.outcome.Language.TheVariants.{Kerml, Sysml}
use Rattle.std.proofs.lemmas.Bool.{le-ltb}
use Rattle.std.proofs.lemmas.List.{map-append}
use Rattle.element_store.specs.declared.outcome.Language.{Language}
use Rattle.token_core.specs.Terminals.{terminal}
use Rattle.ll_core.specs.declared.grammar.Symbol.TheVariants.{Terminal, Inner}
use Rattle.ll_core.specs.Derives.{IsDerivation}
use Rattle.text_model.specs.declared.action.Action.{Action}
use Rattle.text_model.specs.declared.action.Action.TheVariants.{Group, Level}
use Rattle.text_model.specs.declared.action.Operator.TheVariants as operator
use Rattle.text_model.specs.declared.draft.What.{What}
use Rattle.text_model.specs.declared.draft.What.TheVariants as what
use Rattle.text_model.specs.declared.draft.DraftNode.{DraftNode}
use Rattle.text_model.specs.declared.draft.Waiting.{Waiting}
use Rattle.text_model.specs.Languages.{grammar_of}
use Rattle.text_model.specs.Tables.{tables}
use Rattle.text_model.specs.Drafts.{node, joined}
use Rattle.text_model.specs.Walk.{Walk, walk}
use Rattle.print_model.specs.Printed.{word}
use Rattle.print_model.specs.Trees.{Tree, Integer, Boolean, Text, Null, Named, Before, Between, Choice, postfix, level, within, printed, IsPrintable}
use Rattle.print_model.proofs.BareWalk.{Bare, bare_walk}
use Rattle.print_model.specs.Unplaced.{nowhere, bare, bare_node, bare_waiting, bare_reading, seen}
use Rattle.print_model.specs.ReadBack.{unplaced_node, expression_symbol, IsUnopened, ExpressionsReadBack}
use Rattle.print_model.proofs.Readings.{Reads, reads_last, reads_as, reads_to}
use Rattle.print_model.proofs.States.{waiting, at, onto}
use Rattle.print_model.proofs.Rules.{many, level_rules_1}
use Rattle.print_model.proofs.Expressions.{none_reads, is_between, expression_rule, if_rule, choice_inside}
use Rattle.print_model.proofs.Leaves.{both}
use Rattle.print_model.proofs.Erased.{erased, walk_bare}

-- no expression is open yet, and no token has a place
abbrev pub unstarted : Walk → List DraftNode → Option Waiting → Walk
unstarted w ns o = record w { reading = record w.reading { nodes = ns; operator = o; start = None; root = None }; rest = [] }

-- an expression is open, with these nodes
abbrev pub started : Walk → List DraftNode → Option Waiting → Walk
started w ns o = at (record w { rest = [] }) ns o

begun_other : (l : Language) (e : Tree) → IsPrintable e → 1 ≤ level e → (w : Walk) (ns : List DraftNode) (a : Action) (o : Option Waiting)
    → Reads l a (Inner 28 ∷ []) (printed l e) (unstarted w ns o) (started w (onto ns e) o)
begun_other l e h low w ns a o =
    let v = record w { rest = [] } in
    let rs = Inner 30 ∷ Inner (many l 1) ∷ [] in
    reads_last l a Group 49 28 (Inner 29 ∷ []) (printed l e) (unstarted w ns o) (started w (onto ns e) o) (expression_rule l)
    (reads_last l Group Level 50 29 rs (printed l e) (unstarted w ns o) (started w (onto ns e) None) (level_rules_1 l).rule
    (reads_as l Level rs (printed l e ++ []) (printed l e) (started w ns None) (started w (onto ns e) None) (append-nil (printed l e))
    (subst (λ b. Reads l Level rs (within b (printed l e) ++ []) (started w ns None) (started w (onto ns e) None)) (le-ltb (level e) 1 low)
    ((both l e h).1 1 (omega arith) (omega arith) [] v (started w (onto ns e) None) ns
    (λ b ms c j. reads_to l b (Inner (many l 1) ∷ []) [] (at v ms c) (at v (joined ms c) None) (started w (onto ns e) None) (ap (λ js. at v js None) j)
    (none_reads l 1 (level_rules_1 l) b v ms c))))))

-- where none is open, a printed expression is read, and opens
pub begun_read : (l : Language) (e : Tree) → IsPrintable e → (w : Walk) (ns : List DraftNode) (a : Action) (o : Option Waiting)
    → Reads l a (Inner 28 ∷ []) (printed l e) (unstarted w ns o) (started w (onto ns e) o)
begun_read l (Choice x y z) h w ns a o =
    reads_last l a Level 48 28 (Terminal (terminal (word l (codes "if")).kind) ∷ Inner 28 ∷ Terminal 42 ∷ Inner 28
    ∷ Terminal (terminal (word l (codes "else")).kind) ∷ Inner 28 ∷ []) (printed l (Choice x y z)) (unstarted w ns o)
    (started w (onto (onto (onto ns x) y) z) (waiting operator.If)) (if_rule l)
    (choice_inside l x y z (both l x h.0).0 (both l y h.1).0 (both l z h.2).0 (record w { rest = [] }) ns)
begun_read l (Between b x y) h w ns a o = begun_other l (Between b x y) h (is_between b).0 w ns a o
begun_read l (Before b x) h w ns a o = begun_other l (Before b x) h (omega arith) w ns a o
begun_read l (Integer n) h w ns a o = begun_other l (Integer n) h (omega arith) w ns a o
begun_read l (Boolean b) h w ns a o = begun_other l (Boolean b) h (omega arith) w ns a o
begun_read l (Text bytes) h w ns a o = begun_other l (Text bytes) h (omega arith) w ns a o
begun_read l Null h w ns a o = begun_other l Null h (omega arith) w ns a o
begun_read l (Named p) h w ns a o = begun_other l (Named p) h (omega arith) w ns a o

-- the nodes that are pushed are those of the postfix list, without places
pub pushed_postfix : (ns : List DraftNode) (e : Tree) → onto ns e ≡ ns ++ map unplaced_node (postfix e)
pushed_postfix ns (Integer n) = refl
pushed_postfix ns (Boolean b) = refl
pushed_postfix ns (Text bytes) = refl
pushed_postfix ns Null = refl
pushed_postfix ns (Named p) = refl
pushed_postfix ns (Before o a) =
    ap (λ ms. ms ++ node (what.Unary o) 0 ∷ []) (pushed_postfix ns a)
    ∙ (append_assoc ns (map unplaced_node (postfix a)) (node (what.Unary o) 0 ∷ [])
    ∙ ap (λ ms. ns ++ ms) (sym (map-append unplaced_node (postfix a) (what.Unary o ∷ []))))
pushed_postfix ns (Between o a b) = behind_two ns (postfix a) (postfix b) (what.Binary o ∷ []) (onto (onto ns a) b)
    (pushed_postfix (onto ns a) b ∙ ap (λ ms. ms ++ map unplaced_node (postfix b)) (pushed_postfix ns a))
  where
    behind_two : (ns : List DraftNode) (xs ys zs : List What) (ms : List DraftNode) → ms ≡ (ns ++ map unplaced_node xs) ++ map unplaced_node ys
        → ms ++ map unplaced_node zs ≡ ns ++ map unplaced_node (xs ++ (ys ++ zs))
    behind_two ns xs ys zs ms e =
        ap (λ js. js ++ map unplaced_node zs) e
        ∙ (append_assoc (ns ++ map unplaced_node xs) (map unplaced_node ys) (map unplaced_node zs)
        ∙ (ap (λ js. (ns ++ map unplaced_node xs) ++ js) (sym (map-append unplaced_node ys zs))
        ∙ (append_assoc ns (map unplaced_node xs) (map unplaced_node (ys ++ zs)) ∙ ap (λ js. ns ++ js) (sym (map-append unplaced_node xs (ys ++ zs))))))
pushed_postfix ns (Choice a b c) =
    ap (λ ms. ms ++ node what.If 0 ∷ []) (pushed_postfix (onto (onto ns a) b) c)
    ∙ (append_assoc (onto (onto ns a) b) (map unplaced_node (postfix c)) (node what.If 0 ∷ [])
    ∙ (ap (λ js. onto (onto ns a) b ++ js) (sym (map-append unplaced_node (postfix c) (what.If ∷ [])))
    ∙ (ap (λ ms. ms ++ map unplaced_node (postfix c ++ what.If ∷ []))
    (pushed_postfix (onto ns a) b ∙ ap (λ ms. ms ++ map unplaced_node (postfix b)) (pushed_postfix ns a))
    ∙ (append_assoc (ns ++ map unplaced_node (postfix a)) (map unplaced_node (postfix b)) (map unplaced_node (postfix c ++ what.If ∷ []))
    ∙ (ap (λ js. (ns ++ map unplaced_node (postfix a)) ++ js) (sym (map-append unplaced_node (postfix b) (postfix c ++ what.If ∷ [])))
    ∙ (append_assoc ns (map unplaced_node (postfix a)) (map unplaced_node (postfix b ++ (postfix c ++ what.If ∷ [])))
    ∙ ap (λ js. ns ++ js) (sym (map-append unplaced_node (postfix a) (postfix b ++ (postfix c ++ what.If ∷ []))))))))))

-- in a text with its places: what was read before stands, and nothing else changes
pub read_back : ExpressionsReadBack
read_back l e text a w more h unopened stands =
    let v = bare w in
    let ns = map bare_node w.reading.nodes in
    let o = option_map bare_waiting w.reading.operator in
    let r = begun_read l e h v ns a o in
    let open_ : v ≡ unstarted v ns o = closed_reading w unopened in
    let all : erased text (walk (tables l) text a r.forest w) ≡ record { now = started v (onto ns e) o; rest = more } =
    sym (walk_bare (tables l) text a r.forest w)
    ∙ (ap (λ x. bare_walk (tables l) a r.forest (record { now = x; rest = map (seen text) w.rest })) open_
    ∙ (ap (λ xs. bare_walk (tables l) a r.forest (record { now = unstarted v ns o; rest = xs })) stands ∙ r.walked more)) in
    record {
      forest = r.forest;
      derived = subst (λ s. IsDerivation (grammar_of l) (Inner s ∷ []) r.forest) (symbol_is l) r.derived;
      spelt = r.spelt;
      walked = ap (λ (b : Bare). b.now) all
          ∙ (ap (λ ms. started v ms o) (pushed_postfix ns e)
          ∙ ap (λ s. record v { reading = record v.reading { nodes = ns ++ map unplaced_node (postfix e); start = Some 0; root = s } })
          (sym (ap nowhere unopened.1)));
      rest = ap (λ (b : Bare). b.rest) all;
    }
  where
    symbol_is : (l : Language) → 28 ≡ expression_symbol l
    symbol_is Kerml = refl
    symbol_is Sysml = refl

    closed_reading : (w : Walk) → IsUnopened w → bare w ≡ unstarted (bare w) (map bare_node w.reading.nodes) (option_map bare_waiting w.reading.operator)
    closed_reading w u = ap (λ s. record (bare w) { reading = record (bare_reading w.reading) { start = nowhere s } }) u.0
        ∙ ap (λ s. record (bare w) { reading = record (bare_reading w.reading) { start = None; root = nowhere s } }) u.1
