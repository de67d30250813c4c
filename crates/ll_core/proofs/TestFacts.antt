-- The tests on symbols and numbers say what the facts say, both ways.
use Rattle.std.proofs.Common.{◌≡◌, ℕ, Bool, true, false, List, [], ◌∷◌, refl, sym, ap, ◌∙◌, inl, inr, eq-eqb}
use Rattle.std.proofs.lemmas.Bool.{eqb-true, ltb-true, lt-ltb}
use Rattle.std.specs.Prelude.{◌==◌, ◌||◌, ◌&&◌, not, nat_lt}
use Rattle.std.specs.List.{list_all}
use Rattle.linker_base.specs.Members.{IsMember, IsExact}
use Rattle.linker_base.proofs.MemberLaws.{member_test, test_member}
use Rattle.ll_core.specs.declared.grammar.Symbol.{Symbol}
use Rattle.ll_core.specs.declared.grammar.Symbol.TheVariants.{Terminal, Inner}
use Rattle.ll_core.specs.Table.{Rule, Table}
use Rattle.ll_core.specs.Checked.{empty_of, first_of, follow_of, height_of, rank_of, AllEmpty, Begins, Predicts, FollowsClosed, AllLower, RankedBelow, AreNumbered}
use Rattle.ll_core.specs.Test.{has, begins_with, is_predicted, all_begin, is_numbered, may_be_empty, follows_closed, is_lower, ranked_below}
use Rattle.linker_base.proofs.Cases.{both_true, and_true}
use Rattle.ll_core.proofs.Lists.{or_true, or_left, or_right, where_true, true_where}

-- equality of numbers is exact
nat_exact : IsExact (λ (x y : ℕ). x == y)
nat_exact = record { exact = λ x y e. eqb-true x y e; itself = λ x. eq-eqb x x refl }

pub member-from_has : (xs : List ℕ) (k : ℕ) → has xs k ≡ true → IsMember xs k
member-from_has xs k e = test_member (λ (x y : ℕ). x == y) nat_exact xs k e

pub has-from_member : (xs : List ℕ) (k : ℕ) → IsMember xs k → has xs k ≡ true
has-from_member xs k m = member_test (λ (x y : ℕ). x == y) nat_exact xs k m

-- a test that all pass holds of each member
pub each_member : {A : Type 0} (test : A → Bool) (xs : List A) (k : A) → list_all test xs ≡ true → IsMember xs k → test k ≡ true
each_member test [] k e m = absurd m
each_member test (x ∷ xs) k e (inl h) = ap test (sym h) ∙ (both_true (test x) (list_all test xs) e).0
each_member test (x ∷ xs) k e (inr m) = each_member test xs k (both_true (test x) (list_all test xs) e).1 m

pub member_each : {A : Type 0} (test : A → Bool) (xs : List A) → ((k : A) → IsMember xs k → test k ≡ true) → list_all test xs ≡ true
member_each test [] f = refl
member_each test (x ∷ xs) f = and_true (test x) (list_all test xs) (f x (inl refl)) (member_each test xs (λ k m. f k (inr m)))

-- what may begin symbols may begin them however more may stand behind them
pub begins-mono : (t : Table) (ss : List Symbol) (P Q : ℕ → Type 0) (k : ℕ) → (P k → Q k) → Begins t ss P k → Begins t ss Q k
begins-mono t [] P Q k f b = f b
begins-mono t (Terminal j ∷ ss) P Q k f b = b
begins-mono t (Inner a ∷ ss) P Q k f (inl h) = inl h
begins-mono t (Inner a ∷ ss) P Q k f (inr h) = inr (h.0, begins-mono t ss P Q k f h.1)

begins-from_test : (t : Table) (ss : List Symbol) (b : Bool) (k : ℕ) → begins_with t ss b k ≡ true → Begins t ss (λ _. b ≡ true) k
begins-from_test t [] b k e = e
begins-from_test t (Terminal j ∷ ss) b k e = eqb-true k j e
begins-from_test t (Inner a ∷ ss) b k e =
    elim (or_true (has (first_of t a) k) (empty_of t a && begins_with t ss b k) e) [
      | inl h ↦ inl (member-from_has (first_of t a) k h)
      | inr h ↦ let both = both_true (empty_of t a) (begins_with t ss b k) h in inr (both.0, begins-from_test t ss b k both.1)
    ]

test-from_begins : (t : Table) (ss : List Symbol) (b : Bool) (k : ℕ) (P : ℕ → Type 0) → (P k → b ≡ true) → Begins t ss P k → begins_with t ss b k ≡ true
test-from_begins t [] b k P f h = f h
test-from_begins t (Terminal j ∷ ss) b k P f h = eq-eqb k j h
test-from_begins t (Inner a ∷ ss) b k P f (inl h) =
    or_left (has (first_of t a) k) (empty_of t a && begins_with t ss b k) (has-from_member (first_of t a) k h)
test-from_begins t (Inner a ∷ ss) b k P f (inr h) =
    or_right (has (first_of t a) k) (empty_of t a && begins_with t ss b k) (and_true (empty_of t a) (begins_with t ss b k) h.0
    (test-from_begins t ss b k P f h.1))

pub predicts-from_test : (t : Table) (r : Rule) (k : ℕ) → is_predicted t r k ≡ true → Predicts t r k
predicts-from_test t r k e =
    begins-mono t r.right (λ _. has (follow_of t r.left) k ≡ true) (IsMember (follow_of t r.left)) k (member-from_has (follow_of t r.left) k)
    (begins-from_test t r.right (has (follow_of t r.left) k) k e)

pub test-from_predicts : (t : Table) (r : Rule) (k : ℕ) → Predicts t r k → is_predicted t r k ≡ true
test-from_predicts t r k h =
    test-from_begins t r.right (has (follow_of t r.left) k) k (IsMember (follow_of t r.left)) (has-from_member (follow_of t r.left) k) h

-- all that may begin the symbols passes the test
pub all_begin-passes : (t : Table) (ss : List Symbol) (behind : List ℕ) (test : ℕ → Bool) → all_begin t ss behind test ≡ true
    → (k : ℕ) → Begins t ss (IsMember behind) k → test k ≡ true
all_begin-passes t [] behind test e k b = each_member test behind k e b
all_begin-passes t (Terminal j ∷ ss) behind test e k b = ap test b ∙ e
all_begin-passes t (Inner a ∷ ss) behind test e k (inl m) =
    each_member test (first_of t a) k (both_true (list_all test (first_of t a)) (not (empty_of t a) || all_begin t ss behind test) e).0 m
all_begin-passes t (Inner a ∷ ss) behind test e k (inr h) =
    all_begin-passes t ss behind test
    (where_true (empty_of t a) (all_begin t ss behind test) (both_true (list_all test (first_of t a)) (not
    (empty_of t a) || all_begin t ss behind test) e).1 h.0) k h.1

pub passes-all_begin : (t : Table) (ss : List Symbol) (behind : List ℕ) (test : ℕ → Bool)
    → ((k : ℕ) → Begins t ss (IsMember behind) k → test k ≡ true) → all_begin t ss behind test ≡ true
passes-all_begin t [] behind test f = member_each test behind f
passes-all_begin t (Terminal j ∷ ss) behind test f = f j refl
passes-all_begin t (Inner a ∷ ss) behind test f =
    and_true (list_all test (first_of t a)) (not (empty_of t a) || all_begin t ss behind test) (member_each test (first_of t a) (λ k m. f k (inl m)))
    (true_where (empty_of t a) (all_begin t ss behind test) (λ e. passes-all_begin t ss behind test (λ k b. f k (inr (e, b)))))

pub numbered-from_test : (count : ℕ) (ss : List Symbol) → list_all (is_numbered count) ss ≡ true → AreNumbered count ss
numbered-from_test count [] e = tt
numbered-from_test count (Terminal k ∷ ss) e =
    let b = both_true (nat_lt k 65535) (list_all (is_numbered count) ss) e in (ltb-true k 65535 b.0, numbered-from_test count ss b.1)
numbered-from_test count (Inner a ∷ ss) e =
    let b = both_true (nat_lt a count) (list_all (is_numbered count) ss) e in (ltb-true a count b.0, numbered-from_test count ss b.1)

pub test-from_numbered : (count : ℕ) (ss : List Symbol) → AreNumbered count ss → list_all (is_numbered count) ss ≡ true
test-from_numbered count [] h = refl
test-from_numbered count (Terminal k ∷ ss) h =
    and_true (nat_lt k 65535) (list_all (is_numbered count) ss) (lt-ltb k 65535 h.0) (test-from_numbered count ss h.1)
test-from_numbered count (Inner a ∷ ss) h =
    and_true (nat_lt a count) (list_all (is_numbered count) ss) (lt-ltb a count h.0) (test-from_numbered count ss h.1)

pub empty-from_test : (t : Table) (ss : List Symbol) → list_all (may_be_empty t) ss ≡ true → AllEmpty t ss
empty-from_test t [] e = tt
empty-from_test t (Terminal k ∷ ss) e = let f : false ≡ true = e in absurd (cc)
empty-from_test t (Inner a ∷ ss) e = let b = both_true (empty_of t a) (list_all (may_be_empty t) ss) e in (b.0, empty-from_test t ss b.1)

pub test-from_empty : (t : Table) (ss : List Symbol) → AllEmpty t ss → list_all (may_be_empty t) ss ≡ true
test-from_empty t [] h = refl
test-from_empty t (Terminal k ∷ ss) h = absurd h
test-from_empty t (Inner a ∷ ss) h = and_true (empty_of t a) (list_all (may_be_empty t) ss) h.0 (test-from_empty t ss h.1)

pub follows-from_test : (t : Table) (left : ℕ) (ss : List Symbol) → follows_closed t left ss ≡ true → FollowsClosed t left ss
follows-from_test t left [] e = tt
follows-from_test t left (Terminal k ∷ ss) e = follows-from_test t left ss e
follows-from_test t left (Inner a ∷ ss) e =
    let b = both_true (all_begin t ss (follow_of t left) (has (follow_of t a))) (follows_closed t left ss) e in (
      λ k h. member-from_has (follow_of t a) k (all_begin-passes t ss (follow_of t left) (has (follow_of t a)) b.0 k h),
      follows-from_test t left ss b.1,
    )

pub test-from_follows : (t : Table) (left : ℕ) (ss : List Symbol) → FollowsClosed t left ss → follows_closed t left ss ≡ true
test-from_follows t left [] h = refl
test-from_follows t left (Terminal k ∷ ss) h = test-from_follows t left ss h
test-from_follows t left (Inner a ∷ ss) h =
    and_true (all_begin t ss (follow_of t left) (has (follow_of t a))) (follows_closed t left ss)
    (passes-all_begin t ss (follow_of t left) (has (follow_of t a)) (λ k b. has-from_member (follow_of t a) k (h.0 k b))) (test-from_follows t left ss h.1)

pub lower-from_test : (t : Table) (height : ℕ) (ss : List Symbol) → list_all (is_lower t height) ss ≡ true → AllLower t height ss
lower-from_test t height [] e = tt
lower-from_test t height (Terminal k ∷ ss) e = lower-from_test t height ss e
lower-from_test t height (Inner a ∷ ss) e =
    let b = both_true (nat_lt (height_of t a) height) (list_all (is_lower t height) ss) e in
    (ltb-true (height_of t a) height b.0, lower-from_test t height ss b.1)

pub test-from_lower : (t : Table) (height : ℕ) (ss : List Symbol) → AllLower t height ss → list_all (is_lower t height) ss ≡ true
test-from_lower t height [] h = refl
test-from_lower t height (Terminal k ∷ ss) h = test-from_lower t height ss h
test-from_lower t height (Inner a ∷ ss) h =
    and_true (nat_lt (height_of t a) height) (list_all (is_lower t height) ss) (lt-ltb (height_of t a) height h.0) (test-from_lower t height ss h.1)

pub ranked-from_test : (t : Table) (rank : ℕ) (ss : List Symbol) → ranked_below t rank ss ≡ true → RankedBelow t rank ss
ranked-from_test t rank [] e = tt
ranked-from_test t rank (Terminal k ∷ ss) e = tt
ranked-from_test t rank (Inner a ∷ ss) e =
    let b = both_true (nat_lt (rank_of t a) rank) (not (empty_of t a) || ranked_below t rank ss) e in
    (ltb-true (rank_of t a) rank b.0, λ h. ranked-from_test t rank ss (where_true (empty_of t a) (ranked_below t rank ss) b.1 h))

pub test-from_ranked : (t : Table) (rank : ℕ) (ss : List Symbol) → RankedBelow t rank ss → ranked_below t rank ss ≡ true
test-from_ranked t rank [] h = refl
test-from_ranked t rank (Terminal k ∷ ss) h = refl
test-from_ranked t rank (Inner a ∷ ss) h =
    and_true (nat_lt (rank_of t a) rank) (not (empty_of t a) || ranked_below t rank ss) (lt-ltb (rank_of t a) rank h.0)
    (true_where (empty_of t a) (ranked_below t rank ss) (λ e. test-from_ranked t rank ss (h.1 e)))
