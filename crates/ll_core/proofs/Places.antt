-- The place at which a token list stops beginning any derived list.
use Rattle.std.proofs.Common.{◌≡◌, ℕ, zero, suc, ◌<◌, ◌≤◌, List, [], ◌∷◌, length, take, drop, get_or, refl, sym, ap, subst, arith, ◌++◌, ◌∙◌, inl, inr, ◌⊎◌, append_assoc}
use Rattle.std.proofs.lemmas.List.{append-nil, drop_more, take-append-drop, length-take-le}
use Rattle.std.specs.Prelude.{None, Some}
use Rattle.ll_core.specs.Table.{Table}
use Rattle.ll_core.specs.Derives.{Forest, IsTree, GoesOn, StopsAt, first, IsSyntaxPlace}

-- all is taken
all_taken : (n : ℕ) (ks : List ℕ) → length ks ≤ n → take n ks ≡ ks
all_taken zero [] h = refl
all_taken zero (k ∷ ks) h = absurd (omega arith)
all_taken (suc n) [] h = refl
all_taken (suc n) (k ∷ ks) h = ap (λ l. k ∷ l) (all_taken n ks (omega arith))

-- where derived lists stop at a token
pub place_at : (t : Table) (ks : List ℕ) (n d : ℕ) → n < length ks → StopsAt t (take n ks) (Some (get_or ks n d)) → IsSyntaxPlace t ks n
place_at t ks n d h stops = record {
  before = take n ks;
  after = drop n ks;
  whole = sym (take-append-drop n ks);
  place_is = let le : n ≤ length ks = omega arith in sym (length-take-le n ks le);
  stops = subst (λ o. StopsAt t (take n ks) o) (sym (ap first (drop_more ks n d h))) stops;
}

-- where derived lists stop at the end
pub place_end : (t : Table) (ks : List ℕ) (n : ℕ) → length ks ≤ n → StopsAt t (take n ks) None → IsSyntaxPlace t ks (length ks)
place_end t ks n h stops = record {
  before = ks;
  after = [];
  whole = sym (append-nil ks);
  place_is = refl;
  stops = subst (λ l. StopsAt t l None) (all_taken n ks h) stops;
}

-- of two partings of one list, the longer first part goes on with the next item of the shorter one
longer : (b a c d : List ℕ) → b ++ a ≡ c ++ d → length b < length c → (k : ℕ) × (rest : List ℕ) × (c ≡ b ++ k ∷ rest) × (first a ≡ Some k)
longer [] a [] d e l = absurd (omega arith)
longer [] a (k ∷ c) d e l = (k, c, refl, ap first e)
longer (x ∷ b) a [] d e l = absurd (omega arith)
longer (x ∷ b) a (y ∷ c) d e l =
    let tail : b ++ a ≡ c ++ d = cc in
    let head : x ≡ y = cc in
    let h = longer b a c d tail (omega arith) in
    (h.0, h.1, ap (λ l. y ∷ l) h.2 ∙ ap (λ i. i ∷ (b ++ h.0 ∷ h.1)) (sym head), h.3)

not_before : (t : Table) (ks : List ℕ) (m n : ℕ) → IsSyntaxPlace t ks m → IsSyntaxPlace t ks n → m < n → ⊥
not_before t ks m n p q l =
    let shorter : length p.before < length q.before = omega (arith, p.place_is, q.place_is) in
    let h = longer p.before p.after q.before q.after (sym p.whole ∙ q.whole) shorter in
    let b = q.stops.begun in
    let whole = b.2.1 ∙ (ap (λ l. l ++ b.1) h.2 ∙ append_assoc p.before (h.0 ∷ h.1) b.1) in
    p.stops.stopped b.0 (subst (λ o. GoesOn t p.before o b.0) (sym h.3) (h.1 ++ b.1, (b.2.0, whole)))

-- a token list stops at one place
pub one_place : (t : Table) (ks : List ℕ) (m n : ℕ) → IsSyntaxPlace t ks m → IsSyntaxPlace t ks n → m ≡ n
one_place t ks m n p q =
    elim (order m n) [
      | inl l ↦ absurd (not_before t ks m n p q l)
      | inr (inl g) ↦ absurd (not_before t ks n m q p g)
      | inr (inr e) ↦ e
    ] where
      order : (m n : ℕ) → (m < n) ⊎ ((n < m) ⊎ (m ≡ n))
      order m n = grind arith

goes_through : (t : Table) (before after : List ℕ) (f : Forest) → IsTree t (before ++ after) f → GoesOn t before (first after) f
goes_through t before [] f tree = (tree.0, tree.1 ∙ append-nil before)
goes_through t before (k ∷ more) f tree = (more, tree)

-- a derived list stops at no place
pub derived_goes_on : (t : Table) (ks : List ℕ) (n : ℕ) (f : Forest) → IsTree t ks f → IsSyntaxPlace t ks n → ⊥
derived_goes_on t ks n f tree p =
    p.stops.stopped f (goes_through t p.before p.after f (subst (λ l. IsTree t l f) p.whole tree))
