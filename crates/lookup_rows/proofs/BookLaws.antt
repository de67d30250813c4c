-- Names of files that are met, and outcomes that are put.
use Rattle.std.proofs.Common.{◌≡◌, ℕ, ◌+◌, ◌<◌, ◌≤◌, Bool, true, false, cond, List, [], ◌∷◌, length, refl, sym, ◌∙◌, subst, inl, inr, arith}
use Rattle.std.proofs.lemmas.Bool.Decides.{nat_tests}
use Rattle.std.specs.Prelude.{suc, map, nat_eq, nat_lt, slice_get, Some}
use Rattle.std.specs.Cmp.Lexicographic.{pointwise}
use Rattle.linker_base.specs.Members.{IsMember}
use Rattle.linker_base.proofs.Cases.{bool_cases}
use Rattle.demand_core.specs.Tables.{Sets, entry_of}
use Rattle.element_store.specs.declared.models.StoredFile.{StoredFile}
use Rattle.element_store.specs.declared.outcome.Outcome.{Outcome}
use Rattle.link_model.specs.declared.keys.LinkKey.{LinkKey}
use Rattle.link_model.specs.Keys.{same_key}
use Rattle.link_model.specs.Linking.{Fits}
use Rattle.link_walk.specs.Calls.{AreLinks}

-- none of the first so many files has the name
abbrev pub IsNoneOf : List StoredFile → ℕ → List ℕ → Type 0
IsNoneOf files n name = (k : ℕ) → k < n → (s : StoredFile) → slice_get files k ≡ Some s → s.name ≡ name → ⊥

at_name : (files : List StoredFile) (name : List ℕ) → IsMember (map (λ x. x.name) files) name
    → (k : ℕ) × (k < length files) × ((s : StoredFile) × (slice_get files k ≡ Some s) × (s.name ≡ name))
at_name [] name m = absurd m
at_name (f ∷ fs) name (inl is) = (0, omega arith, (f, refl, is))
at_name (f ∷ fs) name (inr m) = let more = at_name fs name m in (suc more.0, (let lt = more.1 in omega arith), more.2)

-- where none of all files has the name, it is none of theirs
pub none_named : (files : List StoredFile) (n : ℕ) (name : List ℕ) → length files ≤ n → IsNoneOf files n name
    → IsMember (map (λ x. x.name) files) name → ⊥
none_named files n name all none m = let met = at_name files name m in none met.0 (let lt = met.1 in omega arith) met.2.0 met.2.1 met.2.2

same_number : (a : ℕ) → nat_eq a a ≡ true
same_number a = grind (arith, nat_tests)

itself : (x : List ℕ) → pointwise nat_eq x x ≡ true
itself [] = refl
itself (a ∷ x) = rw (same_number a) (itself x)

never : (x : List ℕ) → pointwise nat_eq x x ≡ false → ⊥
never x e = let t = itself x in let none : true ≡ false = sym t ∙ e in (let no_case : ⊥ = cc in no_case)

-- one file more doesn't have it
pub next_none : (files : List StoredFile) (n : ℕ) (name other : List ℕ) → IsNoneOf files n name
    → ((s : StoredFile) → slice_get files n ≡ Some s → other ≡ s.name) → pointwise nat_eq other name ≡ false → IsNoneOf files (n + 1) name
next_none files n name other none is differs k lt s at same = elim (bool_cases (nat_lt k n)) [
  | inl before ↦ none k (below k n before) s at same
  | inr not_before ↦
      let here : k ≡ n = (let late = above k n not_before in omega arith) in
      let named : other ≡ name = is s (subst (λ i. slice_get files i ≡ Some s) here at) ∙ same in
      never name (subst (λ z. pointwise nat_eq z name ≡ false) named differs)
]
  where
    below : (a b : ℕ) → nat_lt a b ≡ true → a < b
    below a b h = grind (arith, nat_tests)

    above : (a b : ℕ) → nat_lt a b ≡ false → b ≤ a
    above a b h = grind (arith, nat_tests)

some_same : (a b : Outcome) → Some a ≡ Some b → a ≡ b
some_same a b e = cc

-- an outcome that fits is put
pub put_links : (files : List StoredFile) (old new : List (LinkKey × Outcome)) (key : LinkKey) (o : Outcome) → Sets same_key old new key o
    → Fits files o → AreLinks files old → AreLinks files new
put_links files old new key o sets fits links q v e = by (same_key key q) (sym (sets q) ∙ e)
  where
    by : (b : Bool) → cond b (Some o) (entry_of same_key old q) ≡ Some v → Fits files v
    by true h = subst (Fits files) (some_same o v h) fits
    by false h = links q v h
