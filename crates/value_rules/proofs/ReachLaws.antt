-- Marking what keys may read, until nothing is left.
use Rattle.std.proofs.Common.{◌≡◌, ◌∙◌, ℕ, zero, suc, ◌+◌, ◌<◌, ◌≤◌, List, [], ◌∷◌, ◌++◌, ◌⊎◌, refl, sym, ap, subst, inl, inr, arith, length, get_or, drop, drop-cons, add-one}
use Rattle.std.specs.Prelude.{Option, None, Some, slice_get}
use Rattle.std.specs.List.{flat_map}
use Rattle.std.proofs.lemmas.Option.{slice_get-get_or, slice_get_within}
use Rattle.linker_base.specs.Members.{IsMember}
use Rattle.linker_base.proofs.Cases.{some_same}
use Rattle.element_store.specs.declared.numbers.ElementNo.{ElementNo}
use Rattle.element_store.specs.declared.numbers.FileNo.{FileNo}
use Rattle.element_store.specs.declared.expression.Node.{Node}
use Rattle.element_store.specs.declared.expression.Node.TheVariants as node
use Rattle.element_store.specs.Expressions.{names_in}
use Rattle.link_model.specs.Outside.{Library}
use Rattle.link_model.specs.Readers.{LinkWorld}
use Rattle.link_walk.specs.Marks.{marked_all}
use Rattle.link_walk.proofs.MarkLaws.{all_kept, all_now, all_new, all_grown, all_once}
use Rattle.value_model.specs.declared.values.ValueKey.{ValueKey}
use Rattle.value_model.specs.Keys.{same_value_key, value_key_is_exact}
use Rattle.value_model.specs.Reading.{lead}
use Rattle.value_model.specs.Meant.{meant, decider}
use Rattle.value_model.specs.Valuing.{IsKey, IsReachable, may_read, read_by, read_with, needed}
use Rattle.value_features.specs.declared.own.Decider.{Decider}
use Rattle.value_features.specs.Deciders.{as_decider}
use Rattle.value_model.proofs.ReadingLaws.{may_read_keys}
use Rattle.value_rules.specs.Reach.{IsReached, led_by}

-- the nodes lead where the names do
pub led_names : (w : LinkWorld) (lib : Library) (f : FileNo) (t : Option ElementNo) (nodes : List Node)
    → flat_map (led_by w lib f t) nodes ≡ flat_map (λ r. needed (lead w lib f t r)) (names_in nodes)
led_names w lib f t [] = refl
led_names w lib f t (node.Named r ∷ nodes) = ap (λ ks. needed (lead w lib f t r) ++ ks) (led_names w lib f t nodes)
led_names w lib f t (node.Integer z ∷ nodes) = led_names w lib f t nodes
led_names w lib f t (node.Boolean b ∷ nodes) = led_names w lib f t nodes
led_names w lib f t (node.Text x ∷ nodes) = led_names w lib f t nodes
led_names w lib f t (node.Null ∷ nodes) = led_names w lib f t nodes
led_names w lib f t (node.Unary op ∷ nodes) = led_names w lib f t nodes
led_names w lib f t (node.Binary op ∷ nodes) = led_names w lib f t nodes
led_names w lib f t (node.If ∷ nodes) = led_names w lib f t nodes

-- what a key may read
pub read_is : (w : LinkWorld) (lib : Library) (key : ValueKey) (g : ElementNo) (d : Decider) → Some g ≡ meant w lib key.feature key.target
    → Some (as_decider d) ≡ decider w g → flat_map (led_by w lib d.feature.file key.target) d.nodes.now ≡ may_read w lib key
read_is w lib key g d e h =
    led_names w lib d.feature.file key.target d.nodes.now
    ∙ ap (λ o. read_by w lib key.target o) h
    ∙ ap (λ o. read_with w lib key.target o) e

get_front : {A : Type 0} (xs ys : List A) (i : ℕ) → i < length xs → slice_get (xs ++ ys) i ≡ slice_get xs i
get_front [] ys i lt = absurd (omega arith)
get_front (x ∷ xs) ys zero lt = refl
get_front (x ∷ xs) ys (suc i) lt = get_front xs ys i (omega arith)

place_of : {A : Type 0} (xs : List A) (x : A) → IsMember xs x → (i : ℕ) × (i < length xs) × (slice_get xs i ≡ Some x)
place_of [] x m = absurd m
place_of (y ∷ xs) x (inl is) = (0, omega arith, ap Some is)
place_of (y ∷ xs) x (inr m) = let at = place_of xs x m in let lt = at.1 in (suc at.0, omega (arith, lt), at.2)

member_at : {A : Type 0} (xs : List A) (i : ℕ) (x : A) → slice_get xs i ≡ Some x → IsMember xs x
member_at [] i x e = cc
member_at (y ∷ xs) zero x e = inl (cc)
member_at (y ∷ xs) (suc i) x e = inr (member_at xs i x e)

split_at : (n i : ℕ) → n < i + 1 → (n < i) ⊎ (n ≡ i)
split_at zero zero h = inr refl
split_at zero (suc i) h = inl (omega arith)
split_at (suc n) zero h = absurd (omega arith)
split_at (suc n) (suc i) h = elim (split_at n i (omega arith)) [ inl lt ↦ inl (omega (arith, lt)) | inr e ↦ inr (ap suc e) ]

module _ (w : LinkWorld) (lib : Library) where
  pub reached_one : (key : ValueKey) → IsKey w key → (marks : List ValueKey) → marks ≡ key ∷ [] → IsReached w lib marks 0 marks
  reached_one key is marks e = subst (λ ms. IsReached w lib ms 0 ms) (sym e) (record {
    once = ((λ m. m), tt);
    each = λ k m. elim m [ inl same ↦ subst (IsKey w) same is | inr none ↦ absurd none ];
    before = λ n k q lt at m. absurd (omega (arith, lt));
    kept = λ k m. m;
  })

  pub reached_more : (first marks now : List ValueKey) (i : ℕ) (d : ValueKey) → IsReached w lib first i marks → i < length marks
      → now ≡ marked_all same_value_key marks (may_read w lib (get_or marks i d)) → IsReached w lib first (i + 1) now
  reached_more first marks now i d are lt is = subst (IsReached w lib first (i + 1)) (sym is) (record {
    once = all_once same_value_key value_key_is_exact (may_read w lib key) marks are.once;
    each = λ k m. elim (all_new same_value_key value_key_is_exact (may_read w lib key) marks k m) [
      | inl old ↦ are.each k old
      | inr new ↦ may_read_keys w lib key k (are.each key (member_at marks i key at)) new
    ];
    before = λ n k q below there m. elim (split_at n i below) [
      | inl less ↦ all_kept same_value_key value_key_is_exact (may_read w lib key) marks q
          (are.before n k q less (sym (old_at n (omega (arith, less, lt))) ∙ there) m)
      | inr same ↦ all_now same_value_key value_key_is_exact (may_read w lib key) marks q
          (subst (λ x. IsMember (may_read w lib x) q)
          (some_same k key (sym there ∙ (old_at n (omega (arith, same, lt)) ∙ (ap (slice_get marks) same ∙ at)))) m)
    ];
    kept = λ k m. all_kept same_value_key value_key_is_exact (may_read w lib key) marks k (are.kept k m);
  })
    where
      key : ValueKey
      key = get_or marks i d

      at : slice_get marks i ≡ Some (get_or marks i d)
      at = slice_get-get_or marks i d lt

      old_at : (n : ℕ) → n < length marks → slice_get (marked_all same_value_key marks (may_read w lib (get_or marks i d))) n ≡ slice_get marks n
      old_at n within =
          let grown = all_grown same_value_key value_key_is_exact (may_read w lib (get_or marks i d)) marks in
          ap (λ ms. slice_get ms n) grown.1 ∙ get_front marks grown.0 n within

  pub reached_all : (first marks : List ValueKey) (i : ℕ) → IsReached w lib first i marks → length marks ≤ i → IsReachable w lib marks
  reached_all first marks i are all = record {
    once = are.once;
    each = are.each;
    closed = λ k q m n. let at = place_of marks k m in let lt = at.1 in are.before at.0 k q (omega (arith, lt, all)) at.2 n;
  }
