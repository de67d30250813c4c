-- What a step says in the words of its callers.
use Rattle.std.proofs.Common.{◌≡◌, ℕ, List, [], ◌∷◌, ◌++◌, refl, sym, ap, subst, ◌∙◌}
use Rattle.std.proofs.lemmas.List.{append-nil}
use Rattle.std.specs.Prelude.{Option, Some, None, Result, Ok, Err, reverse}
use Rattle.ll_core.specs.declared.event.Event.{Event}
use Rattle.ll_core.specs.declared.event.Event.TheVariants.{Open, Shift, Close, End}
use Rattle.ll_core.specs.declared.event.ParseFault.{ParseFault}
use Rattle.ll_core.specs.declared.event.ParseFault.TheVariants.{Syntax, NoMemory}
use Rattle.ll_core.specs.declared.stack.Task.{Task}
use Rattle.ll_core.specs.declared.stack.Task.TheVariants.{Match, Expand, Close as Close'}
use Rattle.ll_core.specs.declared.stack.Work.{Work}
use Rattle.ll_core.specs.Table.{Table}
use Rattle.ll_core.specs.Checked.{IsChecked}
use Rattle.ll_core.specs.Derives.{Forest, IsTree, preorder, GoesOn, StopsAt}
use Rattle.ll_core.specs.Parsing.{IsFrontOf}
use Rattle.ll_core.specs.Stack.{Agrees, IsAt, Rest, Done, Next, Below, Up, Completes, events_left}
use Rattle.ll_core.specs.Step.{Stepped, IsExact}
use Rattle.ll_core.proofs.AtStep.{front_look, shift_front, shift_taken, begun_at}

-- a tree that goes on so is one of tokens that agree with the look
pub more_of : (t : Table) (ks : List ℕ) (look : Option ℕ) (f : Forest) → GoesOn t ks look f
    → (more : List ℕ) × IsTree t (ks ++ more) f × Agrees (Some look) more
more_of t ks None f g = ([], (g.0, g.1 ∙ sym (append-nil ks)), refl)
more_of t ks (Some k) f g = (k ∷ g.0, g.1, refl)

pub goes_on : (t : Table) (ks : List ℕ) (look : Option ℕ) (f : Forest) (more : List ℕ) → IsTree t (ks ++ more) f → Agrees (Some look) more → GoesOn t ks look f
goes_on t ks None f more tree agrees = (tree.0, tree.1 ∙ (ap (λ l. ks ++ l) agrees ∙ append-nil ks))
goes_on t ks (Some k) f [] tree agrees = absurd agrees
goes_on t ks (Some k) f (j ∷ more) tree agrees = (more, (tree.0, tree.1 ∙ ap (λ i. ks ++ i ∷ more) agrees))

-- a stack that a whole tree completes with no more events is empty
done_stack : (t : Table) (s : List Task) (c : Rest) → Completes t s c → events_left c ≡ [] → s ≡ []
done_stack t [] Done h e = refl
done_stack t (Match k ∷ s) Done h e = absurd h
done_stack t (Expand a ∷ s) Done h e = absurd h
done_stack t (Close' ∷ s) Done h e = absurd h
done_stack t s (Next k c) h e = absurd (cc)
done_stack t s (Below p f c) h e = absurd (cc)
done_stack t s (Up c) h e = absurd (cc)

no_more : {A : Type 0} (xs ys : List A) → xs ≡ xs ++ ys → ys ≡ []
no_more [] ys e = sym e
no_more (x ∷ xs) ys e = let tail : xs ≡ xs ++ ys = cc in no_more xs ys tail

told_empty : (t : Table) (given : List Event) (shifted : List ℕ) (s : List Task) → IsAt t given shifted (Some None) s
    → (f : Forest) → IsTree t shifted f → preorder f ≡ given → s ≡ []
told_empty t given shifted s at f tree told =
    let c = at.complete f [] (tree.0, tree.1 ∙ sym (append-nil shifted)) refl in
    done_stack t s c.0 c.1 (no_more given (events_left c.0) (sym told ∙ c.3))

module _ (t : Table) (ok : IsChecked t) (look : Option ℕ) (stack : List Task) (old new : Work) where
  here : Type 0
  here = IsAt t old.trace.given old.trace.shifted (Some look) stack

  told : Type 0
  told = (f : Forest) × IsTree t old.trace.shifted f × (preorder f ≡ old.trace.given)

  kept_front : new.trace.shifted ≡ old.trace.shifted → IsAt t new.trace.given new.trace.shifted (Some look) (reverse new.stack.items)
      → (f : Forest) → GoesOn t old.trace.shifted look f → IsFrontOf new.trace.given (preorder f)
  kept_front e at f g =
      let m = more_of t old.trace.shifted look f g in
      front_look t new.trace.given new.trace.shifted look (reverse new.stack.items) at f m.0 (subst (λ ks. IsTree t (ks ++ m.0) f) (sym e) m.1) m.2

  exact_front : (e : Event) → Stepped t look stack old new (Ok e) → (f : Forest) → GoesOn t old.trace.shifted look f → IsFrontOf new.trace.given (preorder f)
  exact_front (Open p) h f g = kept_front h.1 h.2 f g
  exact_front Shift h f g = let m = more_of t old.trace.shifted look f g in shift_front t look stack old new h f (m.0, m.1, m.2)
  exact_front Close h f g = kept_front h.1 h.2 f g
  exact_front End h f g = kept_front h.2 h.3 f g

  exact_end : (result : Result Event ParseFault) → Stepped t look stack old new result → result ≡ Ok End → (look ≡ None) × told
  unfolding told
  exact_end (Ok (Open p)) h e = absurd (cc)
  exact_end (Ok Shift) h e = absurd (cc)
  exact_end (Ok Close) h e = absurd (cc)
  exact_end (Ok End) h e = (h.0, h.4)
  exact_end (Err f) h e = absurd (cc)

  exact_ends : here → (result : Result Event ParseFault) → Stepped t look stack old new result → look ≡ None → told → result ≡ Ok End
  unfolding here told
  exact_ends at result h none whole = ends result h where
    empty : stack ≡ []
    empty = told_empty t old.trace.given old.trace.shifted stack (subst (λ l. IsAt t old.trace.given old.trace.shifted
        (Some l) stack) none at) whole.0 whole.1 whole.2

    ends : (result : Result Event ParseFault) → Stepped t look stack old new result → result ≡ Ok End
    ends (Ok (Open p)) h = absurd (h.4 empty)
    ends (Ok Shift) h = absurd (h.5 empty)
    ends (Ok Close) h = absurd (h.4 empty)
    ends (Ok End) h = refl
    ends (Err Syntax) h =
        absurd (h.2 whole.0 [] (whole.1.0, whole.1.1 ∙ sym (append-nil old.trace.shifted)) (subst (λ l. Agrees (Some l) []) (sym none) refl))
    ends (Err NoMemory) h = absurd (h.2 empty)

  exact_syntax : here → (result : Result Event ParseFault) → Stepped t look stack old new result → result ≡ Err Syntax → StopsAt t old.trace.shifted look
  unfolding here
  exact_syntax at (Ok (Open p)) h e = absurd (cc)
  exact_syntax at (Ok Shift) h e = absurd (cc)
  exact_syntax at (Ok Close) h e = absurd (cc)
  exact_syntax at (Ok End) h e = absurd (cc)
  exact_syntax at (Err Syntax) h e = record {
    begun = begun_at t ok old.trace.given old.trace.shifted (Some look) stack at;
    stopped = λ f g. let m = more_of t old.trace.shifted look f g in h.2 f m.0 m.1 m.2;
  }
  exact_syntax at (Err NoMemory) h e = absurd (cc)

  exact_stops : (result : Result Event ParseFault) → Stepped t look stack old new result → StopsAt t old.trace.shifted look
      → (result ≡ Ok Shift → ⊥) × (result ≡ Ok End → ⊥)
  exact_stops (Ok (Open p)) h s = (λ e. cc, λ e. cc)
  exact_stops (Ok Shift) h s =
      let g = shift_taken t ok look stack old new h in
      (λ e. s.stopped g.0 (goes_on t old.trace.shifted look g.0 g.1.0 g.1.1 g.1.2), λ e. cc)
  exact_stops (Ok Close) h s = (λ e. cc, λ e. cc)
  exact_stops (Ok End) h s = (λ e. cc, λ e. s.stopped h.4.0 (subst (λ l. GoesOn t old.trace.shifted l h.4.0) (sym h.0) h.4.1))
  exact_stops (Err f) h s = (λ e. cc, λ e. cc)

  pub exact_step : (result : Result Event ParseFault) → IsAt t old.trace.given old.trace.shifted (Some look) stack → Stepped t look stack old new result
      → IsExact t old.trace.given old.trace.shifted look new.trace.given result
  unfolding here told
  exact_step result at h = record {
    front = λ e is. exact_front e (subst (Stepped t look stack old new) is h);
    end = exact_end result h;
    ends = exact_ends at result h;
    syntax = exact_syntax at result h;
    stops = exact_stops result h;
  }
