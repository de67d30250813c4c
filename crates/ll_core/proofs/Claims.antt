-- The claims of a checked table are sound, so what comes next predicts the production that completes a symbol.
use Rattle.std.proofs.Common.{◌≡◌, ℕ, true, List, [], ◌∷◌, ◌++◌, refl, sym, ap, subst, ◌∙◌, inl, inr, append_assoc, ◌⊎◌}
use Rattle.std.specs.Prelude.{Some, slice_get}
use Rattle.ll_core.specs.declared.grammar.Symbol.{Symbol}
use Rattle.ll_core.specs.declared.grammar.Symbol.TheVariants.{Terminal, Inner}
use Rattle.ll_core.specs.declared.event.Event.TheVariants.{Open, Shift, Close}
use Rattle.ll_core.specs.declared.stack.Task.{Task}
use Rattle.ll_core.specs.declared.stack.Task.TheVariants.{Match, Expand, Close as Close'}
use Rattle.ll_core.specs.Table.{Rule, Table}
use Rattle.ll_core.specs.Derives.{Forest, Nothing, Token, Node, IsDerivation, tokens, preorder}
use Rattle.linker_base.specs.Members.{IsMember}
use Rattle.ll_core.specs.Checked.{empty_of, first_of, follow_of, AllEmpty, Begins, Predicts, FollowsClosed, IsChecked}
use Rattle.ll_core.proofs.TestFacts.{begins-mono}
use Rattle.ll_core.specs.Stack.{tasks, Rest, Done, Next, Below, Up, Completes, tokens_left, events_left, MayCome, IsFollowed, next_of}

none_left : (xs ys : List ℕ) → xs ++ ys ≡ [] → xs ≡ []
none_left [] ys e = refl
none_left (x ∷ xs) ys e = absurd (cc)

none_right : (xs ys : List ℕ) → xs ++ ys ≡ [] → ys ≡ []
none_right [] ys e = e
none_right (x ∷ xs) ys e = absurd (cc)

front_of : (xs ys : List ℕ) (k : ℕ) (ks : List ℕ) → xs ++ ys ≡ k ∷ ks
    → ((zs : List ℕ) × (xs ≡ k ∷ zs)) ⊎ ((xs ≡ []) × (ys ≡ k ∷ ks))
front_of [] ys k ks e = inr (refl, e)
front_of (x ∷ xs) ys k ks e = inl (xs, cc)

is_cons : (xs : List ℕ) → (xs ≡ []) ⊎ ((k : ℕ) × (ks : List ℕ) × (xs ≡ k ∷ ks))
is_cons [] = inl refl
is_cons (x ∷ xs) = inr (x, xs, refl)

-- a forest before what is to come
unfoldable pub graft : Forest → Rest → Rest
graft Nothing c = c
graft (Token k f) c = Next k (graft f c)
graft (Node p below rest) c = Below p below (graft rest c)

pub tokens-graft : (f : Forest) (c : Rest) → tokens_left (graft f c) ≡ tokens f ++ tokens_left c
unfolding graft
tokens-graft Nothing c = refl
tokens-graft (Token k f) c = ap (λ ks. k ∷ ks) (tokens-graft f c)
tokens-graft (Node p below rest) c =
    ap (λ ks. tokens below ++ ks) (tokens-graft rest c) ∙ sym (append_assoc (tokens below) (tokens rest) (tokens_left c))

pub events-graft : (f : Forest) (c : Rest) → events_left (graft f c) ≡ preorder f ++ events_left c
unfolding graft
events-graft Nothing c = refl
events-graft (Token k f) c = ap (λ es. Shift ∷ es) (events-graft f c)
events-graft (Node p below rest) c =
    ap (λ es. Open p ∷ preorder below ++ (Close ∷ es)) (events-graft rest c)
    ∙ sym (append_assoc (Open p ∷ preorder below) (Close ∷ preorder rest) (events_left c))

may_come_tasks : (t : Table) (ss : List Symbol) (s : List Task) (k : ℕ) → MayCome t (tasks ss s) k → Begins t ss (MayCome t s) k
may_come_tasks t [] s k m = m
may_come_tasks t (Terminal j ∷ ss) s k m = m
may_come_tasks t (Inner a ∷ ss) s k (inl h) = inl h
may_come_tasks t (Inner a ∷ ss) s k (inr h) = inr (h.0, may_come_tasks t ss s k h.1)

pub followed_tasks : (t : Table) (left : ℕ) (ss : List Symbol) (s : List Task) → FollowsClosed t left ss
    → ((k : ℕ) → MayCome t s k → IsMember (follow_of t left) k) → IsFollowed t s → IsFollowed t (tasks ss s)
followed_tasks t left [] s fc h fs = fs
followed_tasks t left (Terminal j ∷ ss) s fc h fs = followed_tasks t left ss s fc h fs
followed_tasks t left (Inner a ∷ ss) s fc h fs = (
  λ k m. fc.0 k (begins-mono t ss (MayCome t s) (IsMember (follow_of t left)) k (h k) (may_come_tasks t ss s k m)),
  followed_tasks t left ss s fc.1 h fs,
)

pub completes_graft : (t : Table) (f : Forest) (ss : List Symbol) (s : List Task) (c : Rest) → IsDerivation t ss f → Completes t s c
    → Completes t (tasks ss s) (graft f c)
unfolding graft
completes_graft t Nothing [] s c d h = h
completes_graft t Nothing (Terminal k ∷ ss) s c d h = absurd d
completes_graft t Nothing (Inner a ∷ ss) s c d h = absurd d
completes_graft t (Token k f) [] s c d h = absurd d
completes_graft t (Token k f) (Terminal j ∷ ss) s c d h = (d.0, completes_graft t f ss s c d.1 h)
completes_graft t (Token k f) (Inner a ∷ ss) s c d h = absurd d
completes_graft t (Node p below rest) [] s c d h = absurd d
completes_graft t (Node p below rest) (Terminal j ∷ ss) s c d h = absurd d
completes_graft t (Node p below rest) (Inner a ∷ ss) s c d h = (d.0, completes_graft t rest ss s c d.1 h)

-- what completes the tasks of a right side begins with a derivation of it
pub record Parted (t : Table) (ss : List Symbol) (s : List Task) (c : Rest) : Type 0 where
  pub front : Forest
  pub behind : Rest
  pub derived : IsDerivation t ss front
  pub completes : Completes t s behind
  pub tokens_are : tokens_left c ≡ tokens front ++ tokens_left behind
  pub events_are : events_left c ≡ preorder front ++ events_left behind

pub parted : (t : Table) (ss : List Symbol) (s : List Task) (c : Rest) → Completes t (tasks ss s) c → Parted t ss s c
parted t [] s c h = record { front = Nothing; behind = c; derived = tt; completes = h; tokens_are = refl; events_are = refl }
parted t (Terminal k ∷ ss) s Done h = absurd h
parted t (Terminal k ∷ ss) s (Next j c) h =
    let q = parted t ss s c h.1 in
    record {
      front = Token j q.front;
      behind = q.behind;
      derived = (h.0, q.derived);
      completes = q.completes;
      tokens_are = ap (λ ks. j ∷ ks) q.tokens_are;
      events_are = ap (λ es. Shift ∷ es) q.events_are;
    }
parted t (Terminal k ∷ ss) s (Below p f c) h = absurd h
parted t (Terminal k ∷ ss) s (Up c) h = absurd h
parted t (Inner a ∷ ss) s Done h = absurd h
parted t (Inner a ∷ ss) s (Next j c) h = absurd h
parted t (Inner a ∷ ss) s (Below p f c) h =
    let q = parted t ss s c h.1 in
    record {
      front = Node p f q.front;
      behind = q.behind;
      derived = (h.0, q.derived);
      completes = q.completes;
      tokens_are = ap (λ ks. tokens f ++ ks) q.tokens_are ∙ sym (append_assoc (tokens f) (tokens q.front) (tokens_left q.behind));
      events_are = ap (λ es. Open p ∷ preorder f ++ (Close ∷ es)) q.events_are
          ∙ sym (append_assoc (Open p ∷ preorder f) (Close ∷ preorder q.front) (events_left q.behind));
    }
parted t (Inner a ∷ ss) s (Up c) h = absurd h

pub up_of : (t : Table) (s : List Task) (c : Rest) → Completes t (Close' ∷ s) c → (d : Rest) × Completes t s d × (c ≡ Up d)
up_of t s Done h = absurd h
up_of t s (Next k c) h = absurd h
up_of t s (Below p f c) h = absurd h
up_of t s (Up c) h = (c, h, refl)

-- the ways to complete a symbol to expand
pub record Expanded (t : Table) (a : ℕ) (s : List Task) (c : Rest) : Type 0 where
  pub number : ℕ
  pub rule : Rule
  pub below : Forest
  pub behind : Rest
  pub is_rule : slice_get t.rules number ≡ Some rule
  pub left : rule.left ≡ a
  pub derived : IsDerivation t rule.right below
  pub completes : Completes t s behind
  pub is : c ≡ Below number below behind

unfoldable pub expanded : (t : Table) (a : ℕ) (s : List Task) (c : Rest) → Completes t (Expand a ∷ s) c → Expanded t a s c
expanded t a s Done h = absurd h
expanded t a s (Next k c) h = absurd h
expanded t a s (Below p f c) h =
    record { number = p; rule = h.0.0; below = f; behind = c; is_rule = h.0.1; left = h.0.2; derived = h.0.3; completes = h.1; is = refl }
expanded t a s (Up c) h = absurd h

module _ (t : Table) (ok : IsChecked t) where
  -- symbols that derive the empty list are claimed empty
  pub empty_sound : (f : Forest) (ss : List Symbol) → IsDerivation t ss f → tokens f ≡ [] → AllEmpty t ss
  empty_sound Nothing [] d e = tt
  empty_sound Nothing (Terminal k ∷ ss) d e = absurd d
  empty_sound Nothing (Inner a ∷ ss) d e = absurd d
  empty_sound (Token k f) ss d e = absurd (cc)
  empty_sound (Node p below rest) [] d e = absurd d
  empty_sound (Node p below rest) (Terminal k ∷ ss) d e = absurd d
  empty_sound (Node p below rest) (Inner a ∷ ss) d e = (
    subst (λ x. empty_of t x ≡ true) d.0.2 (ok.closed.empty p d.0.0 d.0.1 (empty_sound below d.0.0.right d.0.3 (none_left (tokens below) (tokens rest) e))),
    empty_sound rest ss d.1 (none_right (tokens below) (tokens rest) e),
  )

  -- the first token of what symbols derive is claimed to begin them
  pub first_sound : (f : Forest) (ss : List Symbol) (k : ℕ) (ks : List ℕ) → IsDerivation t ss f → tokens f ≡ k ∷ ks → Begins t ss (λ _. ⊥) k
  first_sound Nothing ss k ks d e = absurd (cc)
  first_sound (Token j f) [] k ks d e = absurd d
  first_sound (Token j f) (Terminal i ∷ ss) k ks d e = let h : j ≡ i = d.0 in cc
  first_sound (Token j f) (Inner a ∷ ss) k ks d e = absurd d
  first_sound (Node p below rest) [] k ks d e = absurd d
  first_sound (Node p below rest) (Terminal i ∷ ss) k ks d e = absurd d
  first_sound (Node p below rest) (Inner a ∷ ss) k ks d e =
      elim (front_of (tokens below) (tokens rest) k ks e) [
        | inl h ↦ inl (subst (λ x. IsMember (first_of t x) k) d.0.2 (ok.closed.first p d.0.0 d.0.1 k (first_sound below d.0.0.right k h.0 d.0.3 h.1)))
        | inr h ↦ inr (
          subst (λ x. empty_of t x ≡ true) d.0.2 (ok.closed.empty p d.0.0 d.0.1 (empty_sound below d.0.0.right d.0.3 h.0)),
          first_sound rest ss k ks d.1 h.1,
        )
      ]

  -- the same with what stands behind
  pub begins : (f : Forest) (ss : List Symbol) (P : ℕ → Type 0) (w : List ℕ) → IsDerivation t ss f → P (next_of w) → Begins t ss P (next_of (tokens f ++ w))
  begins Nothing [] P w d h = h
  begins Nothing (Terminal i ∷ ss) P w d h = absurd d
  begins Nothing (Inner a ∷ ss) P w d h = absurd d
  begins (Token j f) [] P w d h = absurd d
  begins (Token j f) (Terminal i ∷ ss) P w d h = d.0
  begins (Token j f) (Inner a ∷ ss) P w d h = absurd d
  begins (Node p below rest) [] P w d h = absurd d
  begins (Node p below rest) (Terminal i ∷ ss) P w d h = absurd d
  begins (Node p below rest) (Inner a ∷ ss) P w d h =
      elim (is_cons (tokens below)) [
        | inl e ↦ inr (
          subst (λ x. empty_of t x ≡ true) d.0.2 (ok.closed.empty p d.0.0 d.0.1 (empty_sound below d.0.0.right d.0.3 e)),
          subst (λ ks. Begins t ss P (next_of ((ks ++ tokens rest) ++ w))) (sym e) (begins rest ss P w d.1 h),
        )
        | inr e ↦ inl (subst (λ ks. IsMember (first_of t a) (next_of ((ks ++ tokens rest) ++ w))) (sym e.2)
            (subst (λ x. IsMember (first_of t x) e.0) d.0.2 (ok.closed.first p d.0.0 d.0.1 e.0 (first_sound below d.0.0.right e.0 e.1 d.0.3 e.2))))
      ]

  pub may_come : (s : List Task) (c : Rest) → Completes t s c → MayCome t s (next_of (tokens_left c))
  may_come [] Done h = refl
  may_come [] (Next k c) h = absurd h
  may_come [] (Below p f c) h = absurd h
  may_come [] (Up c) h = absurd h
  may_come (Match k ∷ s) Done h = absurd h
  may_come (Match k ∷ s) (Next j c) h = h.0
  may_come (Match k ∷ s) (Below p f c) h = absurd h
  may_come (Match k ∷ s) (Up c) h = absurd h
  may_come (Expand a ∷ s) Done h = absurd h
  may_come (Expand a ∷ s) (Next j c) h = absurd h
  may_come (Expand a ∷ s) (Below p f c) h =
      elim (is_cons (tokens f)) [
        | inl e ↦ inr (
          subst (λ x. empty_of t x ≡ true) h.0.2 (ok.closed.empty p h.0.0 h.0.1 (empty_sound f h.0.0.right h.0.3 e)),
          subst (λ ks. MayCome t s (next_of (ks ++ tokens_left c))) (sym e) (may_come s c h.1),
        )
        | inr e ↦ inl (subst (λ ks. IsMember (first_of t a) (next_of (ks ++ tokens_left c))) (sym e.2)
            (subst (λ x. IsMember (first_of t x) e.0) h.0.2 (ok.closed.first p h.0.0 h.0.1 e.0 (first_sound f h.0.0.right e.0 e.1 h.0.3 e.2))))
      ]
  may_come (Expand a ∷ s) (Up c) h = absurd h
  may_come (Close' ∷ s) Done h = absurd h
  may_come (Close' ∷ s) (Next j c) h = absurd h
  may_come (Close' ∷ s) (Below p f c) h = absurd h
  may_come (Close' ∷ s) (Up c) h = may_come s c h

  pub followed_open : (a p : ℕ) (r : Rule) (s : List Task) → slice_get t.rules p ≡ Some r → r.left ≡ a → IsFollowed t (Expand a ∷ s)
      → IsFollowed t (tasks r.right (Close' ∷ s))
  followed_open a p r s g e h =
      followed_tasks t r.left r.right (Close' ∷ s) (ok.closed.follow p r g) (λ k m. subst (λ x. IsMember (follow_of t x) k) (sym e) (h.0 k m)) h.1

  -- the production that completes a symbol is the one that what comes predicts
  pub predicted : (a : ℕ) (s : List Task) (c : Rest) → IsFollowed t (Expand a ∷ s) → (x : Expanded t a s c) → Predicts t x.rule (next_of (tokens_left c))
  predicted a s c h x =
      subst (λ y. Predicts t x.rule (next_of (tokens_left y))) (sym x.is)
      (begins x.below x.rule.right (IsMember (follow_of t x.rule.left)) (tokens_left x.behind) x.derived
      (subst (λ y. IsMember (follow_of t y) (next_of (tokens_left x.behind))) (sym x.left) (h.0 (next_of (tokens_left x.behind))
      (may_come s x.behind x.completes))))
