-- The owning member of each element.
use Rattle.std.proofs.Common.{◌≡◌, ◌∙◌, ℕ, zero, suc, ◌+◌, ◌<◌, Some, List, [], ◌∷◌, ◌++◌, length, drop, slice_get, get_or, refl, sym, ap, subst, arith}
use Rattle.std.specs.List.{flat_map}
use Rattle.std.proofs.lemmas.Option.{slice_get_read}
use Rattle.element_store.specs.declared.records.Element.{Element}
use Rattle.element_store.specs.declared.records.Member.{Member}
use Rattle.element_store.specs.declared.records.Target.{Target}
use Rattle.element_store.specs.declared.records.Target.TheVariants.{Owned, Alias}
use Rattle.element_store.specs.Numbers.{chosen, numbers_from}
use Rattle.element_store.specs.Model.{Data, is_owned, is_owning}
use Rattle.element_store.specs.Condition.{Owning, owning, owned_from, IsOwnedOnce}
use Rattle.element_store.specs.Readings.{Owns}

-- what the members tell of the elements that they own
owning_in : List Member → List Owning
owning_in ms = flat_map (λ m. owning m.target m) ms

-- as many owning members as they tell of elements
owning_more : (n : ℕ) (x : Member) (ms : List Member) (t : Target) → length (numbers_from (suc n) is_owning ms) ≡ length (owning_in ms)
    → length (chosen (is_owned t) n (numbers_from (suc n) is_owning ms)) ≡ length (owning t x ++ owning_in ms)
owning_more n x ms (Owned e) same = ap suc same
owning_more n x ms (Alias r) same = same

owning_long : (n : ℕ) (ms : List Member) → length (numbers_from n is_owning ms) ≡ length (owning_in ms)
unfolding owning_in
owning_long n [] = refl
owning_long n (x ∷ ms) = owning_more n x ms x.target (owning_long (suc n) ms)

owned_long : (n : ℕ) (es : List Element) → length (owned_from n es) ≡ length es
owned_long n [] = refl
owned_long n (e ∷ es) = ap suc (owned_long (suc n) es)

-- the elements are told of in the order of their numbers
owned_at : (n k : ℕ) (es : List Element) (o : Owning) → slice_get (owned_from n es) k ≡ Some o → o.element ≡ n + k
owned_at n k [] o at = cc
owned_at n zero (e ∷ es) o at = let same : o.element ≡ n = cc in omega (arith, same)
owned_at n (suc k) (e ∷ es) o at = let later = owned_at (suc n) k es o at in omega (arith, later)

-- the member of that number, of those that begin with the number n, owns the element of which the list tells at the place k
IsOwner : ℕ → List Member → List Owning → ℕ → ℕ → Type 0
IsOwner n ms told k m = (j : ℕ) × (x : Member) × (o : Owning) × (m ≡ n + j) × (slice_get ms j ≡ Some x) × (x.target ≡ Owned o.element) × (slice_get told k ≡ Some o)

owner_more : (n : ℕ) (x : Member) (ms : List Member) (t : Target) → x.target ≡ t
    → ((k m : ℕ) → slice_get (numbers_from (suc n) is_owning ms) k ≡ Some m → IsOwner (suc n) ms (owning_in ms) k m)
    → (k m : ℕ) → slice_get (chosen (is_owned t) n (numbers_from (suc n) is_owning ms)) k ≡ Some m → IsOwner n (x ∷ ms) (owning t x ++ owning_in ms) k m
unfolding IsOwner
owner_more n x ms (Owned e) same rest zero m at =
    (0, x, record { element = e; owner = Some x.owner; short = x.short; name = x.name }, (let here : n ≡ m = cc in omega (arith, here)), refl, same, refl)
owner_more n x ms (Owned e) same rest (suc k) m at =
    let r = rest k m at in (suc r.0, r.1, r.2, omega (arith, r.3), r.4, r.5, r.6)
owner_more n x ms (Alias a) same rest k m at =
    let r = rest k m at in (suc r.0, r.1, r.2, omega (arith, r.3), r.4, r.5, r.6)

owner_at : (n : ℕ) (ms : List Member) (k m : ℕ) → slice_get (numbers_from n is_owning ms) k ≡ Some m → IsOwner n ms (owning_in ms) k m
unfolding owning_in
owner_at n [] k m at = cc
owner_at n (x ∷ ms) k m at = owner_more n x ms x.target refl (λ j l. owner_at (suc n) ms j l) k m at

-- as many owning members as elements but the root
pub owners_long : (d : Data) → IsOwnedOnce d → length (numbers_from 0 is_owning d.members) ≡ length (drop 1 d.elements)
unfolding owning_in
owners_long d once = owning_long 0 d.members ∙ (ap length once ∙ owned_long 1 (drop 1 d.elements))

-- the owning member that stands at a place is that of the element after it
pub owner_read : (d : Data) → IsOwnedOnce d → (k m : ℕ) → k < length (drop 1 d.elements) → m ≡ get_or (numbers_from 0 is_owning d.members) k m → Owns d (suc k) m
unfolding owning_in IsOwner
owner_read d once k m lt read =
    let numbers = numbers_from 0 is_owning d.members in
    let at = slice_get_read numbers (length (drop 1 d.elements)) k m (sym (owners_long d once)) lt read in
    let found = owner_at 0 d.members k m at in
    let told : slice_get (owned_from 1 (drop 1 d.elements)) k ≡ Some found.2 = subst (λ os. slice_get os k ≡ Some found.2) once found.6 in
    let number = owned_at 1 k (drop 1 d.elements) found.2 told in
    (found.1, subst (λ j. slice_get d.members j ≡ Some found.1) (omega (arith, found.3)) found.4, found.5 ∙ ap Owned (omega (arith, number)))
