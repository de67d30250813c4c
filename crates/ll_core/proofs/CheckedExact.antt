-- A table passes the test exactly where it is checked.
use Rattle.std.proofs.Common.{◌≡◌, ℕ, zero, suc, ◌<◌, Bool, true, false, List, [], ◌∷◌, length, refl, sym, ap, subst, ◌∙◌, inl, inr, arith, ◌⊎◌, eq-eqb}
use Rattle.std.proofs.lemmas.Bool.{eqb-true, ltb-true, lt-ltb, leb-true, le-leb}
use Rattle.std.specs.Prelude.{Some, slice_get, ◌==◌, ◌||◌, not, nat_lt, nat_le, IsTrue, ◌↔◌}
use Rattle.std.specs.List.{list_all, list_any}
use Rattle.linker_base.specs.Members.{IsMember}
use Rattle.ll_core.specs.Table.{Rule, Table}
use Rattle.ll_core.specs.Checked.{empty_of, first_of, follow_of, height_of, rank_of, AllEmpty, Begins, FollowsClosed, AllLower, IsInRange, IsClosed, IsProductive, IsRanked, IsChecked}
use Rattle.ll_core.specs.Test.{has, all_begin, is_numbered, is_numbered_rule, is_in_range, may_be_empty, follows_closed, is_closed_rule, is_closed, is_foretold, is_lower, is_lowering, are_productive, is_productive, is_ranked_rule, is_ranked, is_checked}
use Rattle.linker_base.proofs.Cases.{both_true, and_true}
use Rattle.ll_core.proofs.Predictions.{predictive, foretold-from_test, test-from_foretold}
use Rattle.ll_core.proofs.Lists.{or_true, or_left, or_right, where_true, true_where, all_places, places_all}
use Rattle.ll_core.proofs.TestFacts.{member-from_has, has-from_member, all_begin-passes, passes-all_begin, numbered-from_test, test-from_numbered, empty-from_test, test-from_empty, follows-from_test, test-from_follows, lower-from_test, test-from_lower, ranked-from_test, test-from_ranked}

-- the first condition
in_range-from_test : (t : Table) → is_in_range t ≡ true → IsInRange t
in_range-from_test t e0 =
    let e1 = both_true (length t.first == length t.empty) _ e0 in
    let e2 = both_true (length t.follow == length t.empty) _ e1.1 in
    let e3 = both_true (length t.height == length t.empty) _ e2.1 in
    let e4 = both_true (length t.rank == length t.empty) _ e3.1 in
    let e7 = both_true (length t.predictions == length t.empty) _ e4.1 in
    let e5 = both_true (nat_lt t.start (length t.empty)) _ e7.1 in
    let e6 = both_true (nat_le (length t.rules) 65536) (list_all (is_numbered_rule t) t.rules) e5.1 in
    let both = λ (r : Rule) (e : is_numbered_rule t r ≡ true). both_true (nat_lt r.left (length t.empty)) (list_all (is_numbered (length t.empty)) r.right) e in
    record {
      first_length = eqb-true (length t.first) (length t.empty) e1.0;
      follow_length = eqb-true (length t.follow) (length t.empty) e2.0;
      height_length = eqb-true (length t.height) (length t.empty) e3.0;
      rank_length = eqb-true (length t.rank) (length t.empty) e4.0;
      predictions_length = eqb-true (length t.predictions) (length t.empty) e7.0;
      start = ltb-true t.start (length t.empty) e5.0;
      few = leb-true (length t.rules) 65536 e6.0;
      left = all_places (is_numbered_rule t) _ (λ r e. ltb-true r.left (length t.empty) (both r e).0) t.rules e6.1;
      right = all_places (is_numbered_rule t) _ (λ r e. numbered-from_test (length t.empty) r.right (both r e).1) t.rules e6.1;
    }

test-from_in_range : (t : Table) → IsInRange t → is_in_range t ≡ true
test-from_in_range t h =
    and_true (length t.first == length t.empty) _ (eq-eqb (length t.first) (length t.empty) h.first_length)
    (and_true (length t.follow == length t.empty) _ (eq-eqb (length t.follow) (length t.empty) h.follow_length)
    (and_true (length t.height == length t.empty) _ (eq-eqb (length t.height) (length t.empty) h.height_length)
    (and_true (length t.rank == length t.empty) _ (eq-eqb (length t.rank) (length t.empty) h.rank_length)
    (and_true (length t.predictions == length t.empty) _ (eq-eqb (length t.predictions) (length t.empty) h.predictions_length)
    (and_true (nat_lt t.start (length t.empty)) _ (lt-ltb t.start (length t.empty) h.start)
    (and_true (nat_le (length t.rules) 65536) (list_all (is_numbered_rule t) t.rules) (le-leb (length t.rules) 65536 h.few)
    (places_all (is_numbered_rule t) t.rules (λ p r g.
    and_true (nat_lt r.left (length t.empty)) (list_all (is_numbered (length t.empty)) r.right) (lt-ltb r.left (length t.empty) (h.left p r g))
    (test-from_numbered (length t.empty) r.right (h.right p r g))))))))))

-- what the second condition says of one production
record IsClosedRule (t : Table) (r : Rule) : Type 0 where
  pub empty : AllEmpty t r.right → empty_of t r.left ≡ true
  pub first : (k : ℕ) → Begins t r.right (λ _. ⊥) k → IsMember (first_of t r.left) k
  pub follow : FollowsClosed t r.left r.right

closed_rule-from_test : (t : Table) (r : Rule) → is_closed_rule t r ≡ true → IsClosedRule t r
closed_rule-from_test t r e =
    let a = both_true (not (list_all (may_be_empty t) r.right) || empty_of t r.left) _ e in
    let b = both_true (all_begin t r.right [] (has (first_of t r.left))) (follows_closed t r.left r.right) a.1 in
    record {
      empty = λ h. where_true (list_all (may_be_empty t) r.right) (empty_of t r.left) a.0 (test-from_empty t r.right h);
      first = λ k h. member-from_has (first_of t r.left) k (all_begin-passes t r.right [] (has (first_of t r.left)) b.0 k h);
      follow = follows-from_test t r.left r.right b.1;
    }

test-from_closed_rule : (t : Table) (r : Rule) → IsClosedRule t r → is_closed_rule t r ≡ true
test-from_closed_rule t r h =
    and_true (not (list_all (may_be_empty t) r.right) || empty_of t r.left) _
    (true_where (list_all (may_be_empty t) r.right) (empty_of t r.left) (λ e. h.empty (empty-from_test t r.right e)))
    (and_true (all_begin t r.right [] (has (first_of t r.left))) (follows_closed t r.left r.right)
    (passes-all_begin t r.right [] (has (first_of t r.left)) (λ k b. has-from_member (first_of t r.left) k (h.first k b)))
    (test-from_follows t r.left r.right h.follow))

-- the second condition
closed-from_test : (t : Table) → is_closed t ≡ true → IsClosed t
closed-from_test t e =
    let b = both_true (has (follow_of t t.start) 65535) (list_all (is_closed_rule t) t.rules) e in
    let each = all_places (is_closed_rule t) (IsClosedRule t) (closed_rule-from_test t) t.rules b.1 in
    record {
      end = member-from_has (follow_of t t.start) 65535 b.0;
      empty = λ p r g. (each p r g).empty;
      first = λ p r g. (each p r g).first;
      follow = λ p r g. (each p r g).follow;
    }

test-from_closed : (t : Table) → IsClosed t → is_closed t ≡ true
test-from_closed t h =
    and_true (has (follow_of t t.start) 65535) (list_all (is_closed_rule t) t.rules) (has-from_member (follow_of t t.start) 65535 h.end)
    (places_all (is_closed_rule t) t.rules
    (λ p r g. test-from_closed_rule t r (record { empty = h.empty p r g; first = h.first p r g; follow = h.follow p r g })))

-- a production among these shows that the symbol derives some list
IsLowered : Table → ℕ → List Rule → Type 0
IsLowered t a rs = (p : ℕ) × (r : Rule) × (slice_get rs p ≡ Some r) × (r.left ≡ a) × AllLower t (height_of t a) r.right

lowered-from_test : (t : Table) (a : ℕ) (rs : List Rule) → list_any (is_lowering t a) rs ≡ true → IsLowered t a rs
unfolding IsLowered
lowered-from_test t a [] e = absurd (cc)
lowered-from_test t a (r ∷ rs) e =
    elim (or_true (is_lowering t a r) (list_any (is_lowering t a) rs) e) [
      | inl h ↦ let b = both_true (r.left == a) (list_all (is_lower t (height_of t a)) r.right) h in
          (0, r, refl, eqb-true r.left a b.0, lower-from_test t (height_of t a) r.right b.1)
      | inr h ↦ let m = lowered-from_test t a rs h in (suc m.0, m.1, m.2, m.3, m.4)
    ]

test-from_lowered : (t : Table) (a : ℕ) (rs : List Rule) (p : ℕ) (r : Rule) → slice_get rs p ≡ Some r → r.left ≡ a → AllLower t (height_of t a) r.right
    → list_any (is_lowering t a) rs ≡ true
test-from_lowered t a [] p r g e l = absurd (cc)
test-from_lowered t a (x ∷ rs) zero r g e l =
    let same : x ≡ r = cc in
    or_left (is_lowering t a x) (list_any (is_lowering t a) rs)
    (and_true (x.left == a) (list_all (is_lower t (height_of t a)) x.right) (eq-eqb x.left a (ap (λ (y : Rule). y.left) same ∙ e))
    (test-from_lower t (height_of t a) x.right (subst (λ (y : Rule). AllLower t (height_of t a) y.right) (sym same) l)))
test-from_lowered t a (x ∷ rs) (suc p) r g e l =
    or_right (is_lowering t a x) (list_any (is_lowering t a) rs) (test-from_lowered t a rs p r g e l)

productive_below : (t : Table) (n : ℕ) → are_productive t n ≡ true → (a : ℕ) → a < n → IsLowered t a t.rules
productive_below t zero e a h = absurd (omega arith)
productive_below t (suc n) e a h =
    let b = both_true (list_any (is_lowering t n) t.rules) (are_productive t n) e in
    elim (last_or_below a n h) [
      | inl same ↦ lowered-from_test t a t.rules (subst (λ m. list_any (is_lowering t m) t.rules ≡ true) (sym same) b.0)
      | inr below ↦ productive_below t n b.1 a below
    ] where
      last_or_below : (a n : ℕ) → a < suc n → (a ≡ n) ⊎ (a < n)
      last_or_below a n h = grind arith

below_productive : (t : Table) (n : ℕ) → ((a : ℕ) → a < n → IsLowered t a t.rules) → are_productive t n ≡ true
unfolding IsLowered
below_productive t zero f = refl
below_productive t (suc n) f =
    let h = f n (omega arith) in
    and_true (list_any (is_lowering t n) t.rules) (are_productive t n) (test-from_lowered t n t.rules h.0 h.1 h.2 h.3 h.4)
    (below_productive t n (λ a l. f a (omega arith)))

-- the fourth condition
productive-from_test : (t : Table) → is_productive t ≡ true → IsProductive t
unfolding IsLowered
productive-from_test t e = productive_below t (length t.empty) e

test-from_productive : (t : Table) → IsProductive t → is_productive t ≡ true
unfolding IsLowered
test-from_productive t h = below_productive t (length t.empty) h

-- the fifth condition
ranked_all-from_test : (t : Table) → is_ranked t ≡ true → IsRanked t
ranked_all-from_test t e = all_places (is_ranked_rule t) _ (λ r h. ranked-from_test t (rank_of t r.left) r.right h) t.rules e

test-from_ranked_all : (t : Table) → IsRanked t → is_ranked t ≡ true
test-from_ranked_all t h = places_all (is_ranked_rule t) t.rules (λ p r g. test-from_ranked t (rank_of t r.left) r.right (h p r g))

-- a table that passes the test is checked; a fixed table is shown checked by `checked_from_test _ refl`
pub checked_from_test : (t : Table) → is_checked t ≡ true → IsChecked t
checked_from_test t e0 =
    let e1 = both_true (is_in_range t) _ e0 in
    let e2 = both_true (is_closed t) _ e1.1 in
    let e3 = both_true (is_foretold t) _ e2.1 in
    let e4 = both_true (is_productive t) (is_ranked t) e3.1 in
    record {
      in_range = in_range-from_test t e1.0;
      closed = closed-from_test t e2.0;
      predictive = predictive t (foretold-from_test t e3.0);
      productive = productive-from_test t e4.0;
      ranked = ranked_all-from_test t e4.1;
      foretold = foretold-from_test t e3.0;
    }

-- a checked table passes the test
pub test_from_checked : (t : Table) → IsChecked t → is_checked t ≡ true
test_from_checked t h =
    and_true (is_in_range t) _ (test-from_in_range t h.in_range)
    (and_true (is_closed t) _ (test-from_closed t h.closed)
    (and_true (is_foretold t) _ (test-from_foretold t h.foretold)
    (and_true (is_productive t) (is_ranked t) (test-from_productive t h.productive) (test-from_ranked_all t h.ranked))))

-- what a test answers that computes this
pub checked_exact : (t : Table) (b : Bool) → b ≡ is_checked t → IsTrue b ↔ IsChecked t
checked_exact t true e = (λ h. checked_from_test t (sym e), λ h. refl)
checked_exact t false e = (λ h. let f : false ≡ true = h in absurd (cc), λ h. let f : false ≡ true = e ∙ test_from_checked t h in cc)
