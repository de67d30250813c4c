-- Turns of writing an expression: each leaves the tokens as they are, written or left.
use Rattle.std.proofs.Common.{◌≡◌, ◌∙◌, ℕ, zero, suc, ◌+◌, ◌<◌, ◌≤◌, Bool, true, false, List, [], ◌∷◌, ◌++◌, refl, sym, ap, subst, arith, length, append_assoc, append-nil, reverse}
use Rattle.std.specs.Prelude.{slice_get, Some, ltb, codes, ◌&&◌}
use Rattle.std.specs.List.{list_all}
use Rattle.std.proofs.lemmas.List.{reverse-append}
use Rattle.std.proofs.lemmas.Bool.Decides.{nat_tests}
use Rattle.linker_base.proofs.Cases.{both_true}
use Rattle.element_store.specs.declared.expression.Node.{Node}
use Rattle.element_store.specs.declared.expression.Node.TheVariants as node
use Rattle.element_store.specs.declared.expression.UnaryOp.{UnaryOp}
use Rattle.element_store.specs.declared.expression.BinaryOp.{BinaryOp}
use Rattle.element_store.specs.Expressions.{names_in}
use Rattle.element_store.specs.Model.{Data}
use Rattle.print_model.specs.Printed.{Printed, sign, word}
use Rattle.print_model.specs.Trees.{Tree, Integer, Boolean, Text, Null, Named, Before, Between, Choice, level, level_between, printed, token_before, token_between, within}
use Rattle.print_model.specs.Heads.{expression}
use Rattle.print_model.specs.Spelt.{HasTree}
use Rattle.model_printer.specs.declared.signs.Sign.TheVariants.{CloseParen, Question}
use Rattle.model_printer.specs.declared.expressions.Work.{Work}
use Rattle.model_printer.specs.declared.expressions.Work.TheVariants.{Part, Mark, Operator, Else}
use Rattle.model_printer.specs.Sheets.{Sheet, puts}
use Rattle.model_printer.specs.Parts.{tree_before, AreBegins, begin_before, level_of, leaf_tokens, turns_of, work_tokens, tokens_left, work_turns, AreWorks}
use Rattle.model_printer.specs.Turns.{IsOpened, IsEntered, IsTurned}
use Rattle.model_printer.proofs.SheetLaws.{puts_append}
use Rattle.print_model.proofs.Layouts.{spelt_is}
use Rattle.model_printer.proofs.PartLaws.{IsLeafAt, no_operator_at, IsOneAt, one_at, IsTwoAt, two_at, IsChoiceAt, choice_at, whole_before}

-- a work that is pushed comes next
pub pushed : (works : List Work) (w : Work) → reverse (works ++ w ∷ []) ≡ w ∷ reverse works
pushed works w = reverse-append works (w ∷ [])

-- a test that the names pass is passed by each
pub name_passes : (test : ℕ → Bool) (nodes : List Node) (n : ℕ) (x : Node) → list_all test (names_in nodes) ≡ true → slice_get nodes n ≡ Some x
    → list_all test (names_in (x ∷ [])) ≡ true
name_passes test [] n x all at = cc
name_passes test (y ∷ ys) zero x all at = let same : y ≡ x = cc in subst (λ z. list_all test (names_in (z ∷ [])) ≡ true) same (here y ys all)
  where
    here : (y : Node) (ys : List Node) → list_all test (names_in (y ∷ ys)) ≡ true → list_all test (names_in (y ∷ [])) ≡ true
    here (node.Named r) ys all = let both = both_true (test r) (list_all test (names_in ys)) all in ap (λ b. b && true) both.0
    here (node.Integer i) ys all = refl
    here (node.Boolean b) ys all = refl
    here (node.Text bytes) ys all = refl
    here node.Null ys all = refl
    here (node.Unary o) ys all = refl
    here (node.Binary o) ys all = refl
    here node.If ys all = refl
name_passes test (y ∷ ys) (suc n) x all at = name_passes test ys n x (later y ys all) at
  where
    later : (y : Node) (ys : List Node) → list_all test (names_in (y ∷ ys)) ≡ true → list_all test (names_in ys) ≡ true
    later (node.Named r) ys all = (both_true (test r) (list_all test (names_in ys)) all).1
    later (node.Integer i) ys all = all
    later (node.Boolean b) ys all = all
    later (node.Text bytes) ys all = all
    later node.Null ys all = all
    later (node.Unary o) ys all = all
    later (node.Binary o) ys all = all
    later node.If ys all = all

two_turns : (t : Tree) → 2 ≤ turns_of t
two_turns (Integer n) = omega arith
two_turns (Boolean b) = omega arith
two_turns (Text bytes) = omega arith
two_turns Null = omega arith
two_turns (Named p) = omega arith
two_turns (Before o a) = omega arith
two_turns (Between o a b) = omega arith
two_turns (Choice a b c) = omega arith

not_below : (n : ℕ) → ltb n 0 ≡ false
not_below n = grind (arith, nat_tests)

-- no brackets are asked for
loose : (n : ℕ) (ps : List Printed) → within (ltb n 0) ps ≡ ps
loose n ps = ap (λ b. within b ps) (not_below n)

module _ (d : Data) (nodes : List Node) where
  -- a literal or a name is written
  pub leaf_entered : (n : ℕ) (x : Node) (s t : Sheet) (works : List Work) → IsLeafAt d nodes n x → t ≡ puts s (leaf_tokens d x)
      → AreWorks d nodes works → IsEntered d nodes (suc n) s t works works
  leaf_entered n x s t works leaf is stand = record {
    same = ap (λ ps. puts s (ps ++ tokens_left d nodes works)) leaf.tokens ∙ puts_append s (leaf_tokens d x) (tokens_left d nodes works)
        ∙ ap (λ z. puts z (tokens_left d nodes works)) (sym is);
    less = let two = two_turns (tree_before d nodes (suc n)) in omega (arith, two);
    stand = stand;
  }

  -- the token before an operand is written, and the operand is left
  pub one_entered : (begins : List ℕ) (n : ℕ) (o : UnaryOp) (s t : Sheet) (works : List Work) → IsOneAt d nodes begins n o → n < length nodes
      → t ≡ puts s (token_before d.language o ∷ []) → AreWorks d nodes works → IsEntered d nodes (suc n) s t works (Part n 9 ∷ works)
  one_entered begins n o s t works one lt is stand = record {
    same = ap (λ a. puts s (printed d.language a ++ tokens_left d nodes works)) one.tree
        ∙ ap (λ z. puts z (tokens_left d nodes (Part n 9 ∷ works))) (sym is);
    less = let is : turns_of (tree_before d nodes (suc n)) ≡ 2 + turns_of (tree_before d nodes n) = ap turns_of one.tree in omega (arith, is);
    stand = ((one.some, omega (arith, lt)), stand);
  }

  -- the operands are left, and the operator between them
  pub two_entered : (begins : List ℕ) (n : ℕ) (o : BinaryOp) (s : Sheet) (works : List Work) → IsTwoAt d nodes begins n o → n < length nodes
      → AreWorks d nodes works
      → IsEntered d nodes (suc n) s s works (Part (begin_before begins n) (level_between o) ∷ Operator o ∷ Part n (suc (level_between o)) ∷ works)
  two_entered begins n o s works two lt stand = record {
    same = ap (λ a. puts s (printed d.language a ++ tokens_left d nodes works)) two.tree
        ∙ ap (puts s) (append_assoc
        (within (ltb (level (tree_before d nodes (begin_before begins n))) (level_between o))
        (printed d.language (tree_before d nodes (begin_before begins n))))
        (token_between d.language o ∷ within (ltb (level (tree_before d nodes n)) (suc (level_between o))) (printed d.language (tree_before d nodes n)))
        (tokens_left d nodes works));
    less =
        let is : turns_of (tree_before d nodes (suc n)) ≡ 3 + (turns_of (tree_before d nodes (begin_before begins n)) + turns_of (tree_before d nodes n))
        = ap turns_of two.tree in
        omega (arith, is);
    stand = ((two.first, (let w = two.within in omega (arith, w, lt))), (tt, ((two.some, omega (arith, lt)), stand)));
  }

  -- `if` is written, and the operands are left with what stands between them
  pub choice_entered : (begins : List ℕ) (n : ℕ) (s t : Sheet) (works : List Work) → IsChoiceAt d nodes begins n → n < length nodes
      → t ≡ puts s (word d.language (codes "if") ∷ []) → AreWorks d nodes works
      → IsEntered d nodes (suc n) s t works
      (Part (begin_before begins (begin_before begins n)) 0 ∷ Mark Question ∷ Part (begin_before begins n) 0 ∷ Else ∷ Part n 0 ∷ works)
  choice_entered begins n s t works choice lt is stand =
      let j = begin_before begins n in
      let i = begin_before begins j in
      let l = d.language in
      let a = tree_before d nodes i in
      let b = tree_before d nodes j in
      let c = tree_before d nodes n in
      let w = tokens_left d nodes works in
      record {
        same = ap (λ x. puts s (printed l x ++ w)) choice.tree
            ∙ ap (λ z. puts z ((printed l a ++ (sign (codes "?") ∷ (printed l b ++ (word l (codes "else") ∷ printed l c)))) ++ w)) (sym is)
            ∙ ap (puts t) (
            append_assoc (printed l a) (sign (codes "?") ∷ (printed l b ++ (word l (codes "else") ∷ printed l c))) w
            ∙ ap (λ ps. printed l a ++ (sign (codes "?") ∷ ps)) (append_assoc (printed l b) (word l (codes "else") ∷ printed l c) w)
            )
            ∙ ap (λ ps. puts t (ps ++ (sign (codes "?") ∷ (printed l b ++ (word l (codes "else") ∷ (printed l c ++ w)))))) (sym (loose (level a) (printed l a)))
            ∙ ap (λ ps. puts t (within (ltb (level a) 0) (printed l a) ++ (sign (codes "?") ∷ (ps ++ (word l (codes "else") ∷ (printed l c ++ w))))))
            (sym (loose (level b) (printed l b)))
            ∙ ap (λ ps. puts t (within (ltb (level a) 0) (printed l a) ++ (sign (codes "?") ∷ (within (ltb (level b) 0) (printed l b)
            ++ (word l (codes "else") ∷ (ps ++ w)))))) (sym (loose (level c) (printed l c)));
        less =
            let is : turns_of (tree_before d nodes (suc n)) ≡ 4 + (turns_of a + (turns_of b + turns_of c)) = ap turns_of choice.tree in
            omega (arith, is);
        stand = (
          (choice.first, (let u = choice.within in let v = choice.below in omega (arith, u, v, lt))),
          (tt, ((choice.second, (let u = choice.within in omega (arith, u, lt))), (tt, ((choice.some, omega (arith, lt)), stand)))),
        );
      }

  -- the level of a part is that of the node which it ends with
  pub level_at : (begins : List ℕ) (n : ℕ) (x : Node) → HasTree d nodes → AreBegins d nodes begins → n ≤ length begins → slice_get nodes n ≡ Some x
      → level (tree_before d nodes (suc n)) ≡ level_of x
  level_at begins n (node.Unary o) has are le at = ap level (one_at d nodes begins n o has are le at).tree
  level_at begins n (node.Binary o) has are le at = ap level (two_at d nodes begins n o has are le at).tree
  level_at begins n node.If has are le at = ap level (choice_at d nodes begins n has are le at).tree
  level_at begins n (node.Integer i) has are le at = (no_operator_at d nodes n (node.Integer i) has at (λ o e. cc) (λ o e. cc) (λ e. cc)).tight
  level_at begins n (node.Boolean b) has are le at = (no_operator_at d nodes n (node.Boolean b) has at (λ o e. cc) (λ o e. cc) (λ e. cc)).tight
  level_at begins n (node.Text x) has are le at = (no_operator_at d nodes n (node.Text x) has at (λ o e. cc) (λ o e. cc) (λ e. cc)).tight
  level_at begins n node.Null has are le at = (no_operator_at d nodes n node.Null has at (λ o e. cc) (λ o e. cc) (λ e. cc)).tight
  level_at begins n (node.Named r) has are le at = (no_operator_at d nodes n (node.Named r) has at (λ o e. cc) (λ o e. cc) (λ e. cc)).tight

  -- no bracket stands there
  pub not_opened : (s : Sheet) (works : List Work) → AreWorks d nodes works → IsOpened d nodes false s s works works
  not_opened s works stand = record { same = λ ps. refl; less = omega arith; stand = stand }

  -- the bracket is written, and the closing one is left
  pub is_opened : (s t : Sheet) (works : List Work) → t ≡ puts s (sign (codes "(") ∷ []) → AreWorks d nodes works
      → IsOpened d nodes true s t works (Mark CloseParen ∷ works)
  is_opened s t works is stand = record {
    same = λ ps. ap (λ z. puts z ((ps ++ sign (codes ")") ∷ []) ++ tokens_left d nodes works)) (sym is)
        ∙ ap (puts t) (append_assoc ps (sign (codes ")") ∷ []) (tokens_left d nodes works));
    less = omega arith;
    stand = (tt, stand);
  }

  -- a part's bracket, and the part
  pub part_turned : (n wanted : ℕ) (b : Bool) (s m t : Sheet) (works mid left : List Work) → b ≡ ltb (level (tree_before d nodes n)) wanted
      → IsOpened d nodes b s m works mid → IsEntered d nodes n m t mid left → IsTurned d nodes (Part n wanted) s t works left
  part_turned n wanted b s m t works mid left is first second = record {
    same = ap (λ b. puts s (within b (printed d.language (tree_before d nodes n)) ++ tokens_left d nodes works)) (sym is)
        ∙ first.same (printed d.language (tree_before d nodes n)) ∙ second.same;
    less = let u = first.less in let v = second.less in omega (arith, u, v);
    stand = second.stand;
  }

  -- a token that was left is written
  pub token_turned : (w : Work) (s t : Sheet) (works : List Work) → work_turns d nodes w ≡ 1 → t ≡ puts s (work_tokens d nodes w) → AreWorks d nodes works
      → IsTurned d nodes w s t works works
  token_turned w s t works one is stand = record {
    same = puts_append s (work_tokens d nodes w) (tokens_left d nodes works) ∙ ap (λ z. puts z (tokens_left d nodes works)) (sym is);
    less = omega (arith, one);
    stand = stand;
  }

  -- at first the whole expression is left
  pub whole_left : (s : Sheet) → puts s (tokens_left d nodes (Part (length nodes) 0 ∷ [])) ≡ puts s (expression d nodes)
  whole_left s =
      ap (puts s) (append-nil (within (ltb (level (tree_before d nodes (length nodes))) 0) (printed d.language (tree_before d nodes (length nodes))))
      ∙ loose (level (tree_before d nodes (length nodes))) (printed d.language (tree_before d nodes (length nodes))) ∙ whole_before d nodes)

-- an expression has a node
pub some_nodes : (d : Data) (ns : List Node) → HasTree d ns → 0 < length ns
some_nodes d [] has = let e : [] ≡ has.0 ∷ [] = spelt_is d [] has.0 [] has.1 in absurd (cc)
some_nodes d (n ∷ ns) has = omega arith
