-- Every token list is derived, or stops at a place: the parser's steps over its stack, to the end.
use Rattle.std.proofs.Common.{◌≡◌, ◌⊎◌, inl, inr, ℕ, zero, suc, ◌<◌, List, [], ◌∷◌, ◌++◌, length, refl, sym, ap, subst, ◌∙◌, arith, append_assoc, append-nil, eq-eqb}
use Rattle.std.specs.Prelude.{nat_eq, Option, Some, None}
use Rattle.std.proofs.lemmas.Bool.{eqb-true}
use Rattle.linker_base.proofs.Cases.{bool_cases}
use Rattle.ll_core.specs.declared.event.Event.{Event}
use Rattle.ll_core.specs.declared.event.Event.TheVariants.{Open, Shift, Close}
use Rattle.ll_core.specs.declared.stack.Task.{Task}
use Rattle.ll_core.specs.declared.stack.Task.TheVariants.{Match, Expand, Close as Close'}
use Rattle.ll_core.specs.Table.{Rule, Table}
use Rattle.ll_core.specs.Derives.{Forest, IsTree, IsSyntaxPlace, first}
use Rattle.ll_core.specs.Checked.{IsChecked, predictions_of}
use Rattle.ll_core.specs.Test.{told_for}
use Rattle.ll_core.specs.Stack.{tasks, look_code, effort, IsAt}
use Rattle.ll_core.specs.Step.{NoneGoesOn}
use Rattle.ll_core.proofs.Predictions.{told_is_for, none_is_for}
use Rattle.ll_core.proofs.Steps.{fault_done}
use Rattle.ll_core.proofs.StepExact.{more_of}
use Rattle.ll_core.proofs.Effort.{open_falls}
use Rattle.ll_core.proofs.AtStep.{at_look, at_shift, at_close, at_open, none_goes_on_expand, none_goes_on_match, at_end, at_start, begun_at}

-- a tree, or a place at which it stops
abbrev pub TreeOrPlace : Table → List ℕ → Type 0
TreeOrPlace t ks = ((f : Forest) × IsTree t ks f) ⊎ ((n : ℕ) × IsSyntaxPlace t ks n)

-- where none goes on, the list stops
stopped : (t : Table) → IsChecked t → (given : List Event) (shifted rest : List ℕ) (s : List Task) → IsAt t given shifted (Some (first rest)) s
    → NoneGoesOn t shifted (first rest) → TreeOrPlace t (shifted ++ rest)
stopped t ok given shifted rest s at none = inr (
  length shifted,
  record {
    before = shifted;
    after = rest;
    whole = refl;
    place_is = refl;
    stops = record {
      begun = begun_at t ok given shifted (Some (first rest)) s at;
      stopped = λ f g. let m = more_of t shifted (first rest) f g in none f m.0 m.1 m.2;
    };
  },
)

-- at the end of the stack
decide_end : (t : Table) → IsChecked t → (given : List Event) (shifted rest : List ℕ) → IsAt t given shifted (Some (first rest)) []
    → TreeOrPlace t (shifted ++ rest)
decide_end t ok given shifted [] at =
    let o = at_end t given shifted at.sound in
    inl (o.0, subst (λ ks. IsTree t ks o.0) (sym (append-nil shifted)) o.1)
decide_end t ok given shifted (k ∷ rest) at = stopped t ok given shifted (k ∷ rest) [] at (fault_done t given shifted k at.complete)

-- what is left once a token is shifted
After : Table → List ℕ → Type 0
After t rest = (k : ℕ) (more : List ℕ) → rest ≡ k ∷ more → (given : List Event) (shifted : List ℕ) (s : List Task) → IsAt t given shifted None s
    → TreeOrPlace t (shifted ++ more)

-- at a token
decide_match : (t : Table) → IsChecked t → (given : List Event) (shifted rest : List ℕ) (k : ℕ) (s : List Task) → After t rest
    → IsAt t given shifted (Some (first rest)) (Match k ∷ s) → TreeOrPlace t (shifted ++ rest)
unfolding After
decide_match t ok given shifted [] k s on at =
    stopped t ok given shifted [] (Match k ∷ s) at (none_goes_on_match t ok given shifted s k None (λ e. cc) at)
decide_match t ok given shifted (j ∷ rest) k s on at = elim (bool_cases (nat_eq j k)) [
  | inl e ↦
      let same : j ≡ k = eqb-true j k e in
      let here : IsAt t given shifted (Some (Some k)) (Match k ∷ s) = subst (λ i. IsAt t given shifted (Some (Some i)) (Match k ∷ s)) same at in
      let next = on j rest refl (given ++ Shift ∷ []) (shifted ++ k ∷ []) s (at_shift t ok given shifted s k here) in
      let all : (shifted ++ k ∷ []) ++ rest ≡ shifted ++ (j ∷ rest) =
      append_assoc shifted (k ∷ []) rest ∙ ap (λ i. shifted ++ (i ∷ rest)) (sym same) in
      subst (TreeOrPlace t) all next
  | inr e ↦ stopped t ok given shifted (j ∷ rest) (Match k ∷ s) at (none_goes_on_match t ok given shifted s k (Some j)
      (λ h. let same : j ≡ k = cc in let yes = eq-eqb j k same in cc) at)
]

-- at a symbol
decide_expand : (t : Table) → IsChecked t → (given : List Event) (shifted rest : List ℕ) (a : ℕ) (s : List Task) (o : Option ℕ)
    → o ≡ told_for (predictions_of t a) (look_code (first rest)) → IsAt t given shifted (Some (first rest)) (Expand a ∷ s)
    → ((p : ℕ) (r : Rule) → effort t (tasks r.right (Close' ∷ s)) < effort t (Expand a ∷ s)
    → IsAt t (given ++ Open p ∷ []) shifted (Some (first rest)) (tasks r.right (Close' ∷ s)) → TreeOrPlace t (shifted ++ rest))
    → TreeOrPlace t (shifted ++ rest)
decide_expand t ok given shifted rest a s None e at on =
    let none = none_is_for t ok.foretold a (look_code (first rest)) None e in
    stopped t ok given shifted rest (Expand a ∷ s) at
    (none_goes_on_expand t ok given shifted s a (first rest) (λ p r is left h. none p (r, is, left, h)) at)
decide_expand t ok given shifted rest a s (Some p) e at on =
    let i = told_is_for t ok.foretold a (look_code (first rest)) (Some p) e in
    let falls = subst (λ b. effort t (tasks i.0.right (Close' ∷ s)) < effort t (Expand b ∷ s)) i.2 (open_falls t ok p i.0 s i.1) in
    on p i.0 falls (at_open t ok given shifted s a p i.0 (first rest) i.1 i.2 i.3 at)

-- all steps up to the next token
decide_with : (t : Table) → IsChecked t → (rest : List ℕ) → After t rest → (n : ℕ) (given : List Event) (shifted : List ℕ) (s : List Task) → effort t s < n
    → IsAt t given shifted (Some (first rest)) s → TreeOrPlace t (shifted ++ rest)
decide_with t ok rest on zero given shifted s less at = absurd (omega (arith, less))
decide_with t ok rest on (suc n) given shifted [] less at = decide_end t ok given shifted rest at
decide_with t ok rest on (suc n) given shifted (Match k ∷ s) less at = decide_match t ok given shifted rest k s on at
decide_with t ok rest on (suc n) given shifted (Close' ∷ s) less at =
    decide_with t ok rest on n (given ++ Close ∷ []) shifted s (omega (arith, less)) (at_close t ok given shifted s (Some (first rest)) at)
decide_with t ok rest on (suc n) given shifted (Expand a ∷ s) less at =
    decide_expand t ok given shifted rest a s (told_for (predictions_of t a) (look_code (first rest))) refl at
    (λ p r falls here. decide_with t ok rest on n (given ++ Open p ∷ []) shifted (tasks r.right (Close' ∷ s)) (omega (arith, less, falls)) here)

decide : (t : Table) → IsChecked t → (rest : List ℕ) (given : List Event) (shifted : List ℕ) (s : List Task) → IsAt t given shifted None s
    → TreeOrPlace t (shifted ++ rest)
unfolding After
decide t ok [] given shifted s at =
    decide_with t ok [] (λ k more e. absurd (cc)) (suc (effort t s)) given shifted s (omega arith) (at_look t ok given shifted s None at)
decide t ok (k ∷ rest) given shifted s at =
    decide_with t ok (k ∷ rest)
    (λ j more e given' shifted' s' at'. let same : rest ≡ more = cc in
    subst (λ ms. TreeOrPlace t (shifted' ++ ms)) same (decide t ok rest given' shifted' s' at'))
    (suc (effort t s)) given shifted s (omega arith) (at_look t ok given shifted s (Some k) at)

-- each token list has a tree or a place
pub tree_or_place : (t : Table) → IsChecked t → (ks : List ℕ) → TreeOrPlace t ks
tree_or_place t ok ks = decide t ok ks [] [] (Expand t.start ∷ []) (at_start t ok)
