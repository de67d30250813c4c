-- The member that owns an element is found: no earlier one owns it.
use Rattle.std.proofs.Common.{◌≡◌, ◌∙◌, ℕ, ◌+◌, ◌≤◌, true, false, List, [], ◌∷◌, ◌++◌, refl, sym, ap, arith}
use Rattle.std.proofs.lemmas.Bool.Decides.{nat_tests}
use Rattle.std.specs.Prelude.{zero, suc, nat_eq, get_or, drop, slice_get, None, Some}
use Rattle.std.specs.List.{flat_map}
use Rattle.element_store.specs.declared.records.Element.{Element}
use Rattle.element_store.specs.declared.records.Member.{Member}
use Rattle.element_store.specs.declared.records.Target.{Target}
use Rattle.element_store.specs.declared.records.Target.TheVariants.{Owned, Alias}
use Rattle.element_store.specs.Condition.{IsOwnedOnce, Owning, owning, owned_from}
use Rattle.element_store.specs.Model.{Data}
use Rattle.element_store.specs.Numbers.{chosen, numbers_from}
use Rattle.element_store.specs.Readings.{Owns}
use Rattle.link_model.specs.Imports.{owns}
use Rattle.implied_model.specs.Implied.{owner_of}

-- what members own, in their order
abbrev owned : List Member → List Owning
owned ms = flat_map (λ m. owning m.target m) ms

-- the numbers of those that own e, where the first member has the number k
abbrev owners : ℕ → ℕ → List Member → List ℕ
owners e k ms = numbers_from k (λ m. owns e m.target) ms

-- what the first of these members owns, and what the others do
abbrev here_of : Member → Target → Owning
here_of x (Owned c) = record { element = c; owner = Some x.owner; short = x.short; name = x.name }
here_of x (Alias r) = record { element = 0; owner = None; short = None; name = None }

-- the first that is owned has the first number, and the rest have the later ones
next_of : (o : Owning) (os : List Owning) (n : ℕ) (es : List Element) → o ∷ os ≡ owned_from n es
    → (o.element ≡ n) × ((fs : List Element) × (os ≡ owned_from (suc n) fs))
next_of o os n [] e = cc
next_of o os n (x ∷ xs) e = (heads o os e, (xs, tails o os e))
  where
    heads : (o : Owning) (os : List Owning) → o ∷ os ≡ owned_from n (x ∷ xs) → o.element ≡ n
    heads o os e = let same : o ≡ record { element = n; owner = x.owner; short = x.short; name = x.name } = cc in ap (λ z. z.element) same

    tails : (o : Owning) (os : List Owning) → o ∷ os ≡ owned_from n (x ∷ xs) → os ≡ owned_from (suc n) xs
    tails o os e = cc

-- what a member owns has no number below the first
owns_above : (e : ℕ) (ms : List Member) (n : ℕ) (es : List Element) → owned ms ≡ owned_from n es → (j : ℕ) (m : Member) → slice_get ms j ≡ Some m
    → m.target ≡ Owned e → n ≤ e
owns_above e [] n es is j m at t = cc
owns_above e (x ∷ ms) n es is j m at t = by x.target refl (owns_above e ms) j at
  where
    by : (u : Target) → x.target ≡ u → ((n : ℕ) (es : List Element) → owned ms ≡ owned_from n es → (j : ℕ) (m : Member) → slice_get ms j ≡ Some m
        → m.target ≡ Owned e → n ≤ e) → (j : ℕ) → slice_get (x ∷ ms) j ≡ Some m → n ≤ e
    by (Alias r) is_alias rest zero at =
        let same : x ≡ m = cc in let both : Owned e ≡ Alias r = sym t ∙ (ap (λ (y : Member). y.target) (sym same) ∙ is_alias) in cc
    by (Alias r) is_alias rest (suc i) at = rest n es (sym (ap (λ t. owning t x ++ owned ms) is_alias) ∙ is) i m at t
    by (Owned c) is_owned rest zero at =
        let here = next_of (here_of x (Owned c)) (owned ms) n es (sym (ap (λ t. owning t x ++ owned ms) is_owned) ∙ is) in
        let same : x ≡ m = cc in
        let both : Owned e ≡ Owned c = sym t ∙ (ap (λ (y : Member). y.target) (sym same) ∙ is_owned) in
        let one : e ≡ c = cc in
        let first = here.0 in omega arith
    by (Owned c) is_owned rest (suc i) at =
        let here = next_of (here_of x (Owned c)) (owned ms) n es (sym (ap (λ t. owning t x ++ owned ms) is_owned) ∙ is) in
        let more = rest (suc n) here.1.0 here.1.1 i m at t in omega arith

equals : (a b : ℕ) → a ≡ b → nat_eq a b ≡ true
equals a b h = grind (arith, nat_tests)

-- the first that owns an element is the member that does
first_owner : (e : ℕ) (ms : List Member) (k n : ℕ) (es : List Element) → owned ms ≡ owned_from n es → (j : ℕ) (m : Member) → slice_get ms j ≡ Some m
    → m.target ≡ Owned e → get_or (owners e k ms) 0 0 ≡ k + j
first_owner e [] k n es is j m at t = cc
first_owner e (x ∷ ms) k n es is j m at t = by x.target refl (first_owner e ms (suc k)) j at
  where
    by : (u : Target) → x.target ≡ u → ((n : ℕ) (es : List Element) → owned ms ≡ owned_from n es → (j : ℕ) (m : Member) → slice_get ms j ≡ Some m
        → m.target ≡ Owned e → get_or (owners e (suc k) ms) 0 0 ≡ suc k + j) → (j : ℕ) → slice_get (x ∷ ms) j ≡ Some m
        → get_or (owners e k (x ∷ ms)) 0 0 ≡ k + j
    by (Alias r) is_alias rest zero at =
        let same : x ≡ m = cc in let both : Owned e ≡ Alias r = sym t ∙ (ap (λ (y : Member). y.target) (sym same) ∙ is_alias) in cc
    by (Alias r) is_alias rest (suc i) at =
        let moved : suc k + i ≡ k + suc i = omega arith in
        ap (λ t. get_or (chosen (owns e t) k (owners e (suc k) ms)) 0 0) is_alias
        ∙ (rest n es (sym (ap (λ t. owning t x ++ owned ms) is_alias) ∙ is) i m at t ∙ moved)
    by (Owned c) is_owned rest zero at =
        let same : x ≡ m = cc in
        let both : Owned e ≡ Owned c = sym t ∙ (ap (λ (y : Member). y.target) (sym same) ∙ is_owned) in
        let one : c ≡ e = cc in
        let moved : k ≡ k + 0 = omega arith in
        ap (λ t. get_or (chosen (owns e t) k (owners e (suc k) ms)) 0 0) is_owned
        ∙ (ap (λ b. get_or (chosen b k (owners e (suc k) ms)) 0 0) (equals c e one) ∙ moved)
    by (Owned c) is_owned rest (suc i) at =
        let here = next_of (here_of x (Owned c)) (owned ms) n es (sym (ap (λ t. owning t x ++ owned ms) is_owned) ∙ is) in
        let above = owns_above e ms (suc n) here.1.0 here.1.1 i m at t in
        let first = here.0 in
        let other : nat_eq c e ≡ false = grind (arith, nat_tests) in
        let moved : suc k + i ≡ k + suc i = omega arith in
        ap (λ t. get_or (chosen (owns e t) k (owners e (suc k) ms)) 0 0) is_owned
        ∙ (ap (λ b. get_or (chosen b k (owners e (suc k) ms)) 0 0) other ∙ (rest (suc n) here.1.0 here.1.1 i m at t ∙ moved))

-- THE OWNING MEMBER of an element is found
pub owner_is : (d : Data) (e m : ℕ) → IsOwnedOnce d → Owns d e m → m ≡ owner_of d e
owner_is d e m once h =
    let found = first_owner e d.members 0 1 (drop 1 d.elements) once m h.0 h.1 h.2 in
    let none : 0 + m ≡ m = omega arith in sym (found ∙ none)
