-- What predictions tell, and that a table's are exact where its test passes.
use Rattle.std.proofs.Common.{◌≡◌, ℕ, zero, suc, ◌+◌, ◌≤◌, Bool, true, false, List, [], ◌∷◌, refl, sym, ap, subst, ◌∙◌, inl, inr, arith, eq-eqb, zero-add}
use Rattle.std.proofs.lemmas.Bool.{eqb-true, leb-true, le-leb}
use Rattle.std.specs.Prelude.{Option, Some, None, IfSome, IfNone, slice_get, slice_index_or, ◌==◌, ◌&&◌, nat_le, cond}
use Rattle.std.specs.List.{list_all}
use Rattle.linker_base.specs.Members.{IsMember}
use Rattle.linker_base.proofs.Cases.{both_true, and_true, some_same}
use Rattle.ll_core.specs.declared.grammar.Prediction.{Prediction}
use Rattle.ll_core.specs.Table.{Rule, Table}
use Rattle.ll_core.specs.Checked.{follow_of, predictions_of, IsFor, RisesFrom, IsForetold, IsPredictive}
use Rattle.ll_core.specs.Test.{is_predicted, told_for, tells, rises_from, is_told, are_told, is_for, is_right, are_right, is_foretold}
use Rattle.ll_core.proofs.Lists.{or_true, or_left, or_right}
use Rattle.ll_core.proofs.TestFacts.{each_member, member_each, all_begin-passes, passes-all_begin, predicts-from_test, test-from_predicts}

-- a prediction by its parts
abbrev of_parts : ℕ → ℕ → Prediction
of_parts k p = record { look = k; production = p }

same_prediction : (x : Prediction) (k p : ℕ) → x.look ≡ k → x.production ≡ p → x ≡ of_parts k p
same_prediction x k p e h = ap (λ n. of_parts n x.production) e ∙ ap (λ n. of_parts k n) h

look_same : (x y : Prediction) → x ≡ y → x.look ≡ y.look
look_same x y e = ap (λ (z : Prediction). z.look) e

production_same : (x y : Prediction) → x ≡ y → x.production ≡ y.production
production_same x y e = ap (λ (z : Prediction). z.production) e

-- what the predictions tell is among them
told_member : (xs : List Prediction) (k p : ℕ) → told_for xs k ≡ Some p → IsMember xs (of_parts k p)
told_member [] k p e = absurd (cc)
told_member (x ∷ xs) k p e = split (x.look == k) refl (told_member xs k p) where
  split : (b : Bool) → (x.look == k) ≡ b → (told_for xs k ≡ Some p → IsMember xs (of_parts k p)) → IsMember (x ∷ xs) (of_parts k p)
  split true h rest =
      let here : Some x.production ≡ Some p = sym (ap (λ b. cond b (Some x.production) (told_for xs k)) h) ∙ e in
      inl (same_prediction x k p (eqb-true x.look k h) (some_same x.production p here))
  split false h rest = inr (rest (sym (ap (λ b. cond b (Some x.production) (told_for xs k)) h) ∙ e))

-- where they tell nothing, none of them has the look-ahead
none_member : (xs : List Prediction) (k p : ℕ) → told_for xs k ≡ None → IsMember xs (of_parts k p) → ⊥
none_member [] k p e m = m
none_member (x ∷ xs) k p e m = split (x.look == k) refl (none_member xs k p) where
  split : (b : Bool) → (x.look == k) ≡ b → (told_for xs k ≡ None → IsMember xs (of_parts k p) → ⊥) → ⊥
  split true h rest =
      let here : Some x.production ≡ None = sym (ap (λ b. cond b (Some x.production) (told_for xs k)) h) ∙ e in cc
  split false h rest =
      let there : told_for xs k ≡ None = sym (ap (λ b. cond b (Some x.production) (told_for xs k)) h) ∙ e in
      elim m [
        | inl same ↦ let yes : (x.look == k) ≡ true = eq-eqb x.look k (look_same x (of_parts k p) same) in
            let both : false ≡ true = sym h ∙ yes in cc
        | inr more ↦ rest there more
      ]

above : (low : ℕ) (xs : List Prediction) → RisesFrom low xs → (x : Prediction) → IsMember xs x → low ≤ x.look
above low [] h x m = absurd m
above low (y ∷ ys) h x (inl same) = subst (λ (z : Prediction). low ≤ z.look) same h.0
above low (y ∷ ys) h x (inr m) = let more = above (y.look + 1) ys h.1 x m in let here = h.0 in omega arith

-- predictions that rise have one production for a look-ahead
member_once : (low : ℕ) (xs : List Prediction) → RisesFrom low xs → (k p q : ℕ) → IsMember xs (of_parts k p) → IsMember xs (of_parts k q) → p ≡ q
member_once low [] h k p q m n = absurd m
member_once low (x ∷ xs) h k p q (inl e) (inl i) = sym (production_same x (of_parts k p) e) ∙ production_same x (of_parts k q) i
member_once low (x ∷ xs) h k p q (inl e) (inr n) =
    let more = above (x.look + 1) xs h.1 (of_parts k q) n in let here = look_same x (of_parts k p) e in absurd (omega arith)
member_once low (x ∷ xs) h k p q (inr m) (inl i) =
    let more = above (x.look + 1) xs h.1 (of_parts k p) m in let here = look_same x (of_parts k q) i in absurd (omega arith)
member_once low (x ∷ xs) h k p q (inr m) (inr n) = member_once (x.look + 1) xs h.1 k p q m n

-- no inner symbol has two productions for one look-ahead
pub predictive : (t : Table) → IsForetold t → IsPredictive t
predictive t h p q r s k is_r is_s left i j =
    member_once 0 (predictions_of t r.left) (h.rising r.left) k p q (h.whole r.left k p (r, is_r, refl, i)) (h.whole r.left k q (s, is_s, sym left, j))

-- what the predictions of a symbol tell is one of its productions, with this look-ahead
pub told_is_for : (t : Table) → IsForetold t → (a k : ℕ) (o : Option ℕ) → o ≡ told_for (predictions_of t a) k → IfSome o (IsFor t a k)
told_is_for t h a k None e = tt
told_is_for t h a k (Some p) e = h.right a (of_parts k p) (told_member (predictions_of t a) k p (sym e))

-- and where they tell nothing there is none
pub none_is_for : (t : Table) → IsForetold t → (a k : ℕ) (o : Option ℕ) → o ≡ told_for (predictions_of t a) k → IfNone o ((p : ℕ) → IsFor t a k p → ⊥)
none_is_for t h a k None e = λ p i. none_member (predictions_of t a) k p (sym e) (h.whole a k p i)
none_is_for t h a k (Some p) e = tt

-- the tests

tells-from_member : (xs : List Prediction) (p k : ℕ) → IsMember xs (of_parts k p) → tells xs p k ≡ true
tells-from_member [] p k m = absurd m
tells-from_member (x ∷ xs) p k (inl e) =
    or_left ((x.look == k) && (x.production == p)) (tells xs p k)
    (and_true (x.look == k) (x.production == p) (eq-eqb x.look k (look_same x (of_parts k p) e)) (eq-eqb x.production p (production_same x (of_parts k p) e)))
tells-from_member (x ∷ xs) p k (inr m) = or_right ((x.look == k) && (x.production == p)) (tells xs p k) (tells-from_member xs p k m)

member-from_tells : (xs : List Prediction) (p k : ℕ) → tells xs p k ≡ true → IsMember xs (of_parts k p)
member-from_tells [] p k e = absurd (cc)
member-from_tells (x ∷ xs) p k e =
    elim (or_true ((x.look == k) && (x.production == p)) (tells xs p k) e) [
      | inl h ↦ let b = both_true (x.look == k) (x.production == p) h in inl (same_prediction x k p (eqb-true x.look k b.0) (eqb-true x.production p b.1))
      | inr h ↦ inr (member-from_tells xs p k h)
    ]

rises-from_test : (low : ℕ) (xs : List Prediction) → rises_from low xs ≡ true → RisesFrom low xs
rises-from_test low [] e = tt
rises-from_test low (x ∷ xs) e =
    let b = both_true (nat_le low x.look) (rises_from (x.look + 1) xs) e in (leb-true low x.look b.0, rises-from_test (x.look + 1) xs b.1)

test-from_rises : (low : ℕ) (xs : List Prediction) → RisesFrom low xs → rises_from low xs ≡ true
test-from_rises low [] h = refl
test-from_rises low (x ∷ xs) h = and_true (nat_le low x.look) (rises_from (x.look + 1) xs) (le-leb low x.look h.0) (test-from_rises (x.look + 1) xs h.1)

for-from_test : (t : Table) (a k p : ℕ) → is_for t a k (slice_get t.rules p) ≡ true → IsFor t a k p
for-from_test t a k p e = split (slice_get t.rules p) refl e where
  split : (o : Option Rule) → slice_get t.rules p ≡ o → is_for t a k o ≡ true → IsFor t a k p
  split None g e = absurd (cc)
  split (Some r) g e = let b = both_true (r.left == a) (is_predicted t r k) e in (r, g, eqb-true r.left a b.0, predicts-from_test t r k b.1)

test-from_for : (t : Table) (a k p : ℕ) → IsFor t a k p → is_for t a k (slice_get t.rules p) ≡ true
test-from_for t a k p h =
    ap (is_for t a k) h.1 ∙ and_true (h.0.left == a) (is_predicted t h.0 k) (eq-eqb h.0.left a h.2) (test-from_predicts t h.0 k h.3)

-- the predictions of one symbol pass
PassAt : Table → ℕ → List Prediction → Type 0
PassAt t a xs = (rises_from 0 xs ≡ true) × (list_all (is_right t a) xs ≡ true)

next_number : (a i : ℕ) → a + 1 + i ≡ a + suc i
next_number a i = omega arith

right-from_test : (t : Table) (a : ℕ) (xss : List (List Prediction)) → are_right t a xss ≡ true → (i : ℕ) → PassAt t (a + i) (slice_index_or xss i [])
unfolding PassAt
right-from_test t a [] e i = (refl, refl)
right-from_test t a (xs ∷ xss) e zero =
    let b = both_true (rises_from 0 xs) (list_all (is_right t a) xs && are_right t (a + 1) xss) e in
    let same : a ≡ a + 0 = omega arith in
    (b.0, subst (λ n. list_all (is_right t n) xs ≡ true) same (both_true (list_all (is_right t a) xs) (are_right t (a + 1) xss) b.1).0)
right-from_test t a (xs ∷ xss) e (suc i) =
    let b = both_true (rises_from 0 xs) (list_all (is_right t a) xs && are_right t (a + 1) xss) e in
    subst (λ n. PassAt t n (slice_index_or xss i [])) (next_number a i)
    (right-from_test t (a + 1) xss (both_true (list_all (is_right t a) xs) (are_right t (a + 1) xss) b.1).1 i)

test-from_right : (t : Table) (a : ℕ) (xss : List (List Prediction)) → ((i : ℕ) → PassAt t (a + i) (slice_index_or xss i [])) → are_right t a xss ≡ true
unfolding PassAt
test-from_right t a [] f = refl
test-from_right t a (xs ∷ xss) f =
    let same : a + 0 ≡ a = omega arith in
    and_true (rises_from 0 xs) (list_all (is_right t a) xs && are_right t (a + 1) xss) (f 0).0
    (and_true (list_all (is_right t a) xs) (are_right t (a + 1) xss) (subst (λ n. list_all (is_right t n) xs ≡ true) same (f 0).1)
    (test-from_right t (a + 1) xss (λ i. subst (λ n. PassAt t n (slice_index_or xss i [])) (sym (next_number a i)) (f (suc i)))))

told-from_test : (t : Table) (p : ℕ) (rs : List Rule) → are_told t p rs ≡ true → (i : ℕ) (r : Rule) → slice_get rs i ≡ Some r → is_told t (p + i) r ≡ true
told-from_test t p [] e i r g = absurd (cc)
told-from_test t p (s ∷ rs) e zero r g =
    let same : s ≡ r = some_same s r g in let here : p ≡ p + 0 = omega arith in
    subst (λ n. is_told t n r ≡ true) here (subst (λ x. is_told t p x ≡ true) same (both_true (is_told t p s) (are_told t (p + 1) rs) e).0)
told-from_test t p (s ∷ rs) e (suc i) r g =
    subst (λ n. is_told t n r ≡ true) (next_number p i) (told-from_test t (p + 1) rs (both_true (is_told t p s) (are_told t (p + 1) rs) e).1 i r g)

test-from_told : (t : Table) (p : ℕ) (rs : List Rule) → ((i : ℕ) (r : Rule) → slice_get rs i ≡ Some r → is_told t (p + i) r ≡ true) → are_told t p rs ≡ true
test-from_told t p [] f = refl
test-from_told t p (s ∷ rs) f =
    let here : p + 0 ≡ p = omega arith in
    and_true (is_told t p s) (are_told t (p + 1) rs) (subst (λ n. is_told t n s ≡ true) here (f 0 s refl))
    (test-from_told t (p + 1) rs (λ i r g. subst (λ n. is_told t n r ≡ true) (sym (next_number p i)) (f (suc i) r g)))

-- the sixth condition
pub foretold-from_test : (t : Table) → is_foretold t ≡ true → IsForetold t
unfolding PassAt
foretold-from_test t e = record {
  rising = λ a. rises-from_test 0 (predictions_of t a) (right-from_test t 0 t.predictions both.0 a).0;
  right = λ a x m. for-from_test t a x.look x.production
      (each_member (is_right t a) (predictions_of t a) x (subst (λ n. list_all (is_right t n) (predictions_of t a) ≡ true) (zero-add a)
      (right-from_test t 0 t.predictions both.0 a).1) m);
  whole = λ a k p h. subst (λ n. IsMember (predictions_of t n) (of_parts k p)) h.2 (member-from_tells (predictions_of t h.0.left) p k
      (all_begin-passes t h.0.right (follow_of t h.0.left) (tells (predictions_of t h.0.left) p)
      (subst (λ n. is_told t n h.0 ≡ true) (zero-add p) (told-from_test t 0 t.rules both.1 p h.0 h.1)) k h.3));
} where
  both : (are_right t 0 t.predictions ≡ true) × (are_told t 0 t.rules ≡ true)
  both = both_true (are_right t 0 t.predictions) (are_told t 0 t.rules) e

pub test-from_foretold : (t : Table) → IsForetold t → is_foretold t ≡ true
unfolding PassAt
test-from_foretold t h = and_true (are_right t 0 t.predictions) (are_told t 0 t.rules) right told where
  passes : (i : ℕ) → PassAt t i (predictions_of t i)
  passes i = (
    test-from_rises 0 (predictions_of t i) (h.rising i),
    member_each (is_right t i) (predictions_of t i) (λ x m. test-from_for t i x.look x.production (h.right i x m)),
  )

  right : are_right t 0 t.predictions ≡ true
  right = test-from_right t 0 t.predictions (λ i. subst (λ n. PassAt t n (predictions_of t i)) (sym (zero-add i)) (passes i))

  told : are_told t 0 t.rules ≡ true
  told = test-from_told t 0 t.rules (λ i r g. subst (λ n. is_told t n r ≡ true) (sym (zero-add i))
      (passes-all_begin t r.right (follow_of t r.left) (tells (predictions_of t r.left) i)
      (λ k b. tells-from_member (predictions_of t r.left) i k (h.whole r.left k i (r, g, refl, b)))))
