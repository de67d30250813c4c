-- The ranks of files by their numbers.
use Rattle.std.proofs.Common.{◌≡◌, ◌∙◌, ◌+◌, ◌<◌, ◌≤◌, ℕ, zero, suc, Bool, true, false, List, [], ◌∷◌, length, map, get_or, set, refl, sym, ap, subst, inl, inr, arith}
use Rattle.std.specs.Prelude.{◌⊎◌, nat_lt, slice_get, Option, None, Some}
use Rattle.std.proofs.lemmas.Bool.Decides.{nat_tests}
use Rattle.std.proofs.lemmas.List.{get_or-set_same, get_or-set_other}
use Rattle.linker_base.specs.Members.{IsEachOnce}
use Rattle.linker_base.proofs.Cases.{bool_cases, some_same}
use Rattle.element_store.specs.declared.models.StoredFile.{StoredFile}
use Rattle.element_store.specs.Numbers.{those_where}
use Rattle.element_store.specs.Stored.{stands_before, rank_of, HasRank}
use Rattle.element_store.proofs.RankLaws.{where_few, where_lt, before_itself, before_other, rank_lt, rank_once, name_once}
use Rattle.link_waits.specs.Ranks.{AreRanksOf}

-- the ranks below this one are written
pub record AreBelow (files : List StoredFile) (ranks : List ℕ) (rank : ℕ) : Type 0 where
  pub each : length ranks ≡ length files
  pub below : (f : ℕ) (x : StoredFile) → slice_get files f ≡ Some x → rank_of files x < rank → get_or ranks f 0 ≡ rank_of files x

within : (files : List StoredFile) (f : ℕ) (x : StoredFile) → slice_get files f ≡ Some x → f < length files
within [] f x e = cc
within (y ∷ files) zero x e = omega arith
within (y ∷ files) (suc f) x e = let lt = within files f x e in omega (arith, lt)

number_cases : (f g : ℕ) → (f ≡ g) ⊎ (f ≡ g → ⊥)
number_cases zero zero = inl refl
number_cases zero (suc g) = inr (λ e. absurd (omega (arith, e)))
number_cases (suc f) zero = inr (λ e. absurd (omega (arith, e)))
number_cases (suc f) (suc g) = elim (number_cases f g) [ inl e ↦ inl (ap suc e) | inr n ↦ inr (λ e. n (omega (arith, e))) ]

-- one rank more is written
pub below_more : (files : List StoredFile) (ranks : List ℕ) (r g : ℕ) → IsEachOnce (map (λ x. x.name) files) → HasRank files r g
    → AreBelow files ranks r → AreBelow files (set ranks g r) (r + 1)
below_more files ranks r g once has b = record {
  each = length_set ranks g r ∙ b.each;
  below = λ f x at lt. elim (number_cases f g) [
    | inl same ↦
        let is : x ≡ has.0 = some_same x has.0 (sym at ∙ (ap (slice_get files) same ∙ has.1)) in
        let in_ranks : g < length ranks = subst (λ n. g < n) (sym b.each) (within files g has.0 has.1) in
        ap (λ i. get_or (set ranks g r) i 0) same ∙ (get_or-set_same ranks g r 0 in_ranks ∙ (sym has.2 ∙ ap (rank_of files) (sym is)))
    | inr other ↦
        get_or-set_other ranks g f r 0 other ∙ b.below f x at (by f x at lt other (number_cases (rank_of files x) r))
  ];
}
  where
    length_set : (xs : List ℕ) (i y : ℕ) → length (set xs i y) ≡ length xs
    length_set [] i y = refl
    length_set (x ∷ xs) zero y = refl
    length_set (x ∷ xs) (suc i) y = ap suc (length_set xs i y)

    by : (f : ℕ) (x : StoredFile) → slice_get files f ≡ Some x → rank_of files x < r + 1 → (f ≡ g → ⊥)
        → (rank_of files x ≡ r) ⊎ (rank_of files x ≡ r → ⊥) → rank_of files x < r
    by f x at lt other (inl e) = absurd (other (rank_once files r f g once (x, at, e) has))
    by f x at lt other (inr n) = omega (arith, lt, n)

-- a file has fewer files before it than there are
few_before : (files : List StoredFile) (f : ℕ) (x : StoredFile) → slice_get files f ≡ Some x → rank_of files x < length files
few_before files f x at =
    let lt = where_lt (λ y. stands_before y x) (λ y. true) files f x (λ y h. refl) at (before_itself x.library x.name) refl in
    let le = where_few (λ y. true) files in omega (arith, lt, le)

-- all are written
pub below_all : (files : List StoredFile) (ranks : List ℕ) (r : ℕ) → length files ≤ r → AreBelow files ranks r → AreRanksOf files ranks
below_all files ranks r all b = record {
  each = b.each;
  rank = λ f x at. b.below f x at (let lt = few_before files f x at in omega (arith, all, lt));
}

-- none is
pub below_none : (files : List StoredFile) (ranks : List ℕ) → length ranks ≡ length files → AreBelow files ranks 0
below_none files ranks each = record { each = each; below = λ f x at lt. absurd (omega (arith, lt)) }

-- RANKS TELL which of two files stands before the other
pub rank_tells : (files : List StoredFile) (f g : ℕ) (x y : StoredFile) → IsEachOnce (map (λ z. z.name) files) → slice_get files f ≡ Some x
    → slice_get files g ≡ Some y → (f ≡ g → ⊥) → stands_before x y ≡ nat_lt (rank_of files x) (rank_of files y)
rank_tells files f g x y once at there apart = elim (bool_cases (stands_before x y)) [
  | inl t ↦ let lt = rank_lt files x y f at t in t ∙ is_less (rank_of files x) (rank_of files y) lt
  | inr n ↦
      let names : x.name ≡ y.name → ⊥ = λ e. apart (name_once files f g x y once at there e) in
      let lt = rank_lt files y x g there (before_other x.library y.library x.name y.name names n) in
      n ∙ isnt_less (rank_of files x) (rank_of files y) lt
]
  where
    is_less : (a b : ℕ) → a < b → true ≡ nat_lt a b
    is_less a b lt = grind (arith, nat_tests, lt)

    isnt_less : (a b : ℕ) → b < a → false ≡ nat_lt a b
    isnt_less a b lt = grind (arith, nat_tests, lt)

-- and where the first has the lesser rank it stands before the other
pub less_before : (files : List StoredFile) (f g : ℕ) (x y : StoredFile) → IsEachOnce (map (λ z. z.name) files) → slice_get files f ≡ Some x
    → slice_get files g ≡ Some y → rank_of files x < rank_of files y → stands_before x y ≡ true
less_before files f g x y once at there lt = elim (number_cases f g) [
  | inl same ↦
      let is : x ≡ y = some_same x y (sym at ∙ (ap (slice_get files) same ∙ there)) in
      let equal : rank_of files x ≡ rank_of files y = ap (rank_of files) is in absurd (omega (arith, lt, equal))
  | inr apart ↦ rank_tells files f g x y once at there apart ∙ is_less (rank_of files x) (rank_of files y) lt
]
  where
    is_less : (a b : ℕ) → a < b → nat_lt a b ≡ true
    is_less a b lt = grind (arith, nat_tests, lt)
