-- Each element but the root is owned by one member.
use Rattle.std.proofs.Common.{◌≡◌, ◌∙◌, ℕ, ◌+◌, ◌<◌, ◌≤◌, Bool, true, false, List, [], ◌∷◌, ◌++◌, refl, sym, ap, subst, arith}
use Rattle.std.proofs.lemmas.Bool.Decides.{nat_tests}
use Rattle.std.specs.Prelude.{zero, suc, nat_eq, map, length, drop, slice_get, Option, None, Some, IfSome, ◌↔◌}
use Rattle.std.specs.List.{flat_map}
use Rattle.element_store.specs.declared.records.Element.{Element}
use Rattle.element_store.specs.declared.records.Member.{Member}
use Rattle.element_store.specs.declared.records.Target.{Target}
use Rattle.element_store.specs.declared.records.Target.TheVariants.{Owned, Alias}
use Rattle.element_store.specs.Condition.{IsOwnedOnce, Owning, owning, owned_from}
use Rattle.element_store.specs.Model.{Data}
use Rattle.element_store.specs.Numbers.{chosen, numbers_from}
use Rattle.element_store.specs.Readings.{Owns}
use Rattle.link_model.specs.Imports.{owns}
use Rattle.link_model.specs.Readers.{listed}

-- what members own, in their order
abbrev owned : List Member → List Owning
owned ms = flat_map (λ m. owning m.target m) ms

abbrev owners : ℕ → ℕ → List Member → List ℕ
owners e k ms = numbers_from k (λ m. owns e m.target) ms

number_of : Owning → ℕ
number_of o = o.element

-- the first that is owned has the first number, and the rest have the later ones
next_of : (o : Owning) (os : List Owning) (n : ℕ) (es : List Element) → o ∷ os ≡ owned_from n es
    → (o.element ≡ n) × ((fs : List Element) × (os ≡ owned_from (suc n) fs))
next_of o os n [] e = cc
next_of o os n (x ∷ xs) e = (heads o os e, (xs, tails o os e))
  where
    heads : (o : Owning) (os : List Owning) → o ∷ os ≡ owned_from n (x ∷ xs) → o.element ≡ n
    heads o os e = let same : o ≡ record { element = n; owner = x.owner; short = x.short; name = x.name } = cc in ap (λ z. z.element) same

    tails : (o : Owning) (os : List Owning) → o ∷ os ≡ owned_from n (x ∷ xs) → os ≡ owned_from (suc n) xs
    tails o os e = cc

differs : (a b : ℕ) → b < a → nat_eq a b ≡ false
differs a b h = grind (arith, nat_tests)

equals : (a b : ℕ) → a ≡ b → nat_eq a b ≡ true
equals a b h = grind (arith, nat_tests)

-- no later one owns an element of a lesser number
none_below : (e : ℕ) (ms : List Member) (k n : ℕ) (es : List Element) → owned ms ≡ owned_from n es → e < n → owners e k ms ≡ []
none_below e [] k n es is lt = refl
none_below e (m ∷ ms) k n es is lt = by m.target refl (none_below e ms (suc k))
  where
    by : (t : Target) → m.target ≡ t → ((n : ℕ) (es : List Element) → owned ms ≡ owned_from n es → e < n → owners e (suc k) ms ≡ [])
        → owners e k (m ∷ ms) ≡ []
    by (Alias r) at rest = ap (λ t. chosen (owns e t) k (owners e (suc k) ms)) at ∙ rest n es (sym (ap (λ t. owning t m ++ owned ms) at) ∙ is) lt
    by (Owned c) at rest =
        let here = next_of (record { element = c; owner = Some m.owner; short = m.short; name = m.name }) (owned ms) n es
        (sym (ap (λ t. owning t m ++ owned ms) at) ∙ is) in
        let above : e < c = subst (λ z. e < z) (sym here.0) lt in
        ap (λ t. chosen (owns e t) k (owners e (suc k) ms)) at ∙ (ap (λ b. chosen b k (owners e (suc k) ms)) (differs c e above)
        ∙ rest (suc n) here.1.0 here.1.1 (omega arith))

-- what a member owns has no number below the first
owns_above : (e : ℕ) (ms : List Member) (n : ℕ) (es : List Element) → owned ms ≡ owned_from n es → (j : ℕ) (m : Member) → slice_get ms j ≡ Some m
    → m.target ≡ Owned e → n ≤ e
owns_above e [] n es is j m at t = cc
owns_above e (x ∷ ms) n es is j m at t = by x.target refl (owns_above e ms) j at
  where
    by : (u : Target) → x.target ≡ u → ((n : ℕ) (es : List Element) → owned ms ≡ owned_from n es → (j : ℕ) (m : Member) → slice_get ms j ≡ Some m
        → m.target ≡ Owned e → n ≤ e) → (j : ℕ) → slice_get (x ∷ ms) j ≡ Some m → n ≤ e
    by (Alias r) is_alias rest zero at =
        let same : x ≡ m = cc in let both : Owned e ≡ Alias r = sym t ∙ (ap (λ (y : Member). y.target) (sym same) ∙ is_alias) in cc
    by (Alias r) is_alias rest (suc i) at = rest n es (sym (ap (λ t. owning t x ++ owned ms) is_alias) ∙ is) i m at t
    by (Owned c) is_owned rest zero at =
        let here = next_of (record { element = c; owner = Some x.owner; short = x.short; name = x.name }) (owned ms) n es
        (sym (ap (λ t. owning t x ++ owned ms) is_owned) ∙ is) in
        let same : x ≡ m = cc in
        let both : Owned e ≡ Owned c = sym t ∙ (ap (λ (y : Member). y.target) (sym same) ∙ is_owned) in
        let one : e ≡ c = cc in
        let first = here.0 in omega arith
    by (Owned c) is_owned rest (suc i) at =
        let here = next_of (record { element = c; owner = Some x.owner; short = x.short; name = x.name }) (owned ms) n es
        (sym (ap (λ t. owning t x ++ owned ms) is_owned) ∙ is) in
        let more = rest (suc n) here.1.0 here.1.1 i m at t in omega arith

-- the member that owns an element is the only one
only_owner : (e : ℕ) (ms : List Member) (k n : ℕ) (es : List Element) → owned ms ≡ owned_from n es → (j : ℕ) (m : Member) → slice_get ms j ≡ Some m
    → m.target ≡ Owned e → owners e k ms ≡ (k + j) ∷ []
only_owner e [] k n es is j m at t = cc
only_owner e (x ∷ ms) k n es is j m at t = by x.target refl (only_owner e ms (suc k)) j at
  where
    by : (u : Target) → x.target ≡ u → ((n : ℕ) (es : List Element) → owned ms ≡ owned_from n es → (j : ℕ) (m : Member) → slice_get ms j ≡ Some m
        → m.target ≡ Owned e → owners e (suc k) ms ≡ (suc k + j) ∷ []) → (j : ℕ) → slice_get (x ∷ ms) j ≡ Some m
        → owners e k (x ∷ ms) ≡ (k + j) ∷ []
    by (Alias r) is_alias rest zero at =
        let same : x ≡ m = cc in let both : Owned e ≡ Alias r = sym t ∙ (ap (λ (y : Member). y.target) (sym same) ∙ is_alias) in cc
    by (Alias r) is_alias rest (suc i) at =
        let moved : suc k + i ≡ k + suc i = omega arith in
        ap (λ t. chosen (owns e t) k (owners e (suc k) ms)) is_alias
        ∙ (rest n es (sym (ap (λ t. owning t x ++ owned ms) is_alias) ∙ is) i m at t ∙ ap (λ z. z ∷ []) moved)
    by (Owned c) is_owned rest zero at =
        let here = next_of (record { element = c; owner = Some x.owner; short = x.short; name = x.name }) (owned ms) n es
        (sym (ap (λ t. owning t x ++ owned ms) is_owned) ∙ is) in
        let same : x ≡ m = cc in
        let both : Owned e ≡ Owned c = sym t ∙ (ap (λ (y : Member). y.target) (sym same) ∙ is_owned) in
        let one : c ≡ e = cc in
        let first = here.0 in
        let less : e < suc n = omega arith in
        let moved : k ≡ k + 0 = omega arith in
        ap (λ t. chosen (owns e t) k (owners e (suc k) ms)) is_owned ∙ (ap (λ b. chosen b k (owners e (suc k) ms)) (equals c e one)
        ∙ (ap (λ z. k ∷ z) (none_below e ms (suc k) (suc n) here.1.0 here.1.1 less) ∙ ap (λ z. z ∷ []) moved))
    by (Owned c) is_owned rest (suc i) at =
        let here = next_of (record { element = c; owner = Some x.owner; short = x.short; name = x.name }) (owned ms) n es
        (sym (ap (λ t. owning t x ++ owned ms) is_owned) ∙ is) in
        let above = owns_above e ms (suc n) here.1.0 here.1.1 i m at t in
        let first = here.0 in
        let other : nat_eq c e ≡ false = grind (arith, nat_tests) in
        let moved : suc k + i ≡ k + suc i = omega arith in
        ap (λ t. chosen (owns e t) k (owners e (suc k) ms)) is_owned ∙ (ap (λ b. chosen b k (owners e (suc k) ms)) other
        ∙ (rest (suc n) here.1.0 here.1.1 i m at t ∙ ap (λ z. z ∷ []) moved))

-- THE OWNING MEMBER of an element is the one that owns it, and a root has none
pub owning_is : (d : Data) → IsOwnedOnce d → (e : ℕ) (o : Option ℕ) → IfSome o (Owns d e) → ((o ≡ None) ↔ (e ≡ 0))
    → numbers_from 0 (λ m. owns e m.target) d.members ≡ listed o
owning_is d once e None h root = none_below e d.members 0 1 (drop 1 d.elements) once (let none = root.0 refl in omega arith)
owning_is d once e (Some k) h root =
    only_owner e d.members 0 1 (drop 1 d.elements) once k h.0 h.1 h.2 ∙ ap (λ z. z ∷ []) (zero_more k)
  where
    zero_more : (k : ℕ) → 0 + k ≡ k
    zero_more k = omega arith
