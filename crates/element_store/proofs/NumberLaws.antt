-- The numbers of items that pass a test rise, and the first above a number is found by a count.
use Rattle.std.proofs.Common.{◌≡◌, ℕ, zero, suc, ◌+◌, ◌<◌, ◌≤◌, Bool, true, false, Option, Some, None, List, [], ◌∷◌, length, slice_get, get_or, leb, refl, ap, subst, arith, inl, inr, le-leb, leb-true, zero-le, zero-add, le_refl, Bor, option_copied, IfSome}
use Rattle.std.specs.List.Sorted.{IsNonDecreasingBy, IsPartitionPoint}
use Rattle.std.proofs.lemmas.Bool.{cases_lt}
use Rattle.std.proofs.lemmas.Option.{slice_get_within, get_or_from_slice_get, slice_get_cases, slice_get-get_or, slice_get_past, slice_get_read}
use Rattle.std.proofs.lemmas.List.Elements.{All-from_get_or}
use Rattle.std.specs.List.{All}
use Rattle.std.specs.Slice.{IsItemAt}
use Rattle.linker_base.specs.Members.{IsMember}
use Rattle.element_store.specs.Numbers.{chosen, numbers_from, IsLeastAbove, ArePassed}

-- where the first so many numbers pass, those pass
pub passed : (ns : List ℕ) (last k : ℕ) → IsPartitionPoint (λ n. leb n last ≡ true) (λ n. leb n last ≡ false) ns k → ArePassed ns last k
passed ns last k parts i n at =
    let here : get_or ns i n ≡ n = get_or_from_slice_get ns i n n at in (
      (λ le. elim (cases_lt i k) [
        | inl lt ↦ lt
        | inr ge ↦ let no_more : leb n last ≡ false = subst (λ m. leb m last ≡ false) here (parts.1 i n ge (slice_get_within ns i n at)) in let one = le-leb n last le in cc
      ]),
      (λ lt. leb-true n last (subst (λ m. leb m last ≡ true) here (parts.0 i n zero-le lt))),
    )

-- a member stands at some place
pub place_of : (ns : List ℕ) (n : ℕ) → IsMember ns n → (i : ℕ) × (slice_get ns i ≡ Some n)
place_of [] n m = absurd m
place_of (x ∷ ns) n (inl e) = (0, ap Some e)
place_of (x ∷ ns) n (inr m) = let rest = place_of ns n m in (suc rest.0, rest.1)

-- what stands at a place is a member
pub member_at : (ns : List ℕ) (i n : ℕ) → slice_get ns i ≡ Some n → IsMember ns n
member_at [] i n at = cc
member_at (x ∷ ns) zero n at = inl cc
member_at (x ∷ ns) (suc i) n at = inr (member_at ns i n at)

-- of two places of rising numbers, the earlier has the lesser
in_order : (ns : List ℕ) (i j n m : ℕ) → IsNonDecreasingBy (λ k. k) ns → i ≤ j → slice_get ns i ≡ Some n → slice_get ns j ≡ Some m → n ≤ m
in_order ns i j n m up le at after =
    omega (arith, up i j n le (slice_get_within ns j m after), get_or_from_slice_get ns i n n at, get_or_from_slice_get ns j m n after)

-- nothing stands where nothing follows
past_end : (ns : List ℕ) (k i n : ℕ) → slice_get ns k ≡ None → slice_get ns i ≡ Some n → k ≤ i → ⊥
past_end ns k i n none at le = elim (slice_get_cases ns k).1 [
  | inl found ↦ let h = found.2 in cc
  | inr past ↦ let inside = slice_get_within ns i n at in absurd (omega (arith, past.0, le, inside))
]

-- none is above the last where all passed
none_above : (ns : List ℕ) (last k : ℕ) → ArePassed ns last k → slice_get ns k ≡ None → (n : ℕ) → IsMember ns n → last < n → ⊥
none_above ns last k pass none n m above =
    let place = place_of ns n m in
    elim (cases_lt place.0 k) [
      | inl lt ↦ let le = (pass place.0 n place.1).1 lt in absurd (omega (arith, le, above))
      | inr ge ↦ past_end ns k place.0 n none place.1 ge
    ]

-- the number that stands behind those that passed is above the last
one_above : (ns : List ℕ) (last k m : ℕ) → ArePassed ns last k → slice_get ns k ≡ Some m → last < m
one_above ns last k m pass at = elim (cases_lt last m) [
  | inl lt ↦ lt
  | inr le ↦ let lt = (pass k m at).0 le in absurd (omega (arith, lt))
]

-- and no greater than any that is
none_between : (ns : List ℕ) (last k m : ℕ) → IsNonDecreasingBy (λ n. n) ns → ArePassed ns last k → slice_get ns k ≡ Some m → (n : ℕ) → IsMember ns n → last < n → m ≤ n
none_between ns last k m up pass at n member above =
    let place = place_of ns n member in
    elim (cases_lt place.0 k) [
      | inl lt ↦ let le = (pass place.0 n place.1).1 lt in absurd (omega (arith, le, above))
      | inr ge ↦ in_order ns k place.0 m n up ge at place.1
    ]

-- the number that stands behind those that passed is the least above the last
pub least_above : (ns : List ℕ) (last k : ℕ) (o : Option ℕ) → IsNonDecreasingBy (λ n. n) ns → ArePassed ns last k → slice_get ns k ≡ o → IsLeastAbove (Some last) ns o
least_above ns last k None up pass at = none_above ns last k pass at
least_above ns last k (Some m) up pass at = (member_at ns k m at, one_above ns last k m pass at, none_between ns last k m up pass at)

-- the first of rising numbers is the least
pub least_first : (ns : List ℕ) (o : Option ℕ) → IsNonDecreasingBy (λ n. n) ns → slice_get ns 0 ≡ o → IsLeastAbove None ns o
least_first ns None up at = λ n m above. let place = place_of ns n m in past_end ns 0 place.0 n at place.1 zero-le
least_first ns (Some m) up at = (member_at ns 0 m at, tt, λ n member above. let place = place_of ns n member in in_order ns 0 place.0 m n up zero-le at place.1)

chosen_least : (b : Bool) (n : ℕ) (ns : List ℕ) (m : ℕ) → (IsMember ns m → suc n ≤ m) → IsMember (chosen b n ns) m → n ≤ m
chosen_least true n ns m later (inl e) = omega (arith, e)
chosen_least true n ns m later (inr is) = omega (arith, later is)
chosen_least false n ns m later is = omega (arith, later is)

chosen_below : (b : Bool) (n bound : ℕ) (ns : List ℕ) (m : ℕ) → (IsMember ns m → m < bound) → n < bound → IsMember (chosen b n ns) m → m < bound
chosen_below true n bound ns m later lt (inl e) = omega (arith, e, lt)
chosen_below true n bound ns m later lt (inr is) = later is
chosen_below false n bound ns m later lt is = later is

chosen_rise : (b : Bool) (n : ℕ) (ns : List ℕ) → IsNonDecreasingBy (λ k. k) ns → ((m : ℕ) → IsMember ns m → n ≤ m) → IsNonDecreasingBy (λ k. k) (chosen b n ns)
chosen_rise true n ns up least zero zero d le lt = le_refl n
chosen_rise true n ns up least zero (suc j) d le lt = least (get_or ns j d) (member_at ns j (get_or ns j d) (slice_get-get_or ns j d (omega (arith, lt))))
chosen_rise true n ns up least (suc i) zero d le lt = absurd (omega (arith, le))
chosen_rise true n ns up least (suc i) (suc j) d le lt = up i j d (omega (arith, le)) (omega (arith, lt))
chosen_rise false n ns up least i j d le lt = up i j d le lt

-- each number of an item is at least the first one's
numbers_least : {A : Type 0} (test : A → Bool) (n : ℕ) (xs : List A) (m : ℕ) → IsMember (numbers_from n test xs) m → n ≤ m
numbers_least test n [] m is = absurd is
numbers_least test n (x ∷ xs) m is = chosen_least (test x) n (numbers_from (suc n) test xs) m (λ later. numbers_least test (suc n) xs m later) is

-- and below the number after the last one's
pub numbers_below : {A : Type 0} (test : A → Bool) (n bound : ℕ) (xs : List A) (m : ℕ) → n + length xs ≡ bound → IsMember (numbers_from n test xs) m → m < bound
numbers_below test n bound [] m e is = absurd is
numbers_below test n bound (x ∷ xs) m e is = chosen_below (test x) n bound (numbers_from (suc n) test xs) m
    (λ later. numbers_below test (suc n) bound xs m (omega (arith, e)) later) (omega (arith, e)) is

-- the numbers of items rise
pub numbers_rise : {A : Type 0} (test : A → Bool) (n : ℕ) (xs : List A) → IsNonDecreasingBy (λ k. k) (numbers_from n test xs)
numbers_rise test n [] = λ i j d le lt. absurd (omega (arith, lt))
numbers_rise test n (x ∷ xs) = chosen_rise (test x) n (numbers_from (suc n) test xs) (numbers_rise test (suc n) xs)
    (λ m is. let le = numbers_least test (suc n) xs m is in omega (arith, le))

-- all of them stand among the items
pub numbers_all : {A : Type 0} (test : A → Bool) (xs : List A) → All (λ n. n < length xs) (numbers_from 0 test xs)
numbers_all test xs = All-from_get_or (λ n. n < length xs) (numbers_from 0 test xs) 0 (λ i lt.
    let n = get_or (numbers_from 0 test xs) i 0 in
    let at = slice_get-get_or (numbers_from 0 test xs) i 0 lt in
    numbers_below test 0 (length xs) xs n (zero-add (length xs)) (member_at (numbers_from 0 test xs) i n at))

-- a number that is looked up is the one at its place
pub item_copied : (ns : List ℕ) (i : ℕ) (o : Option (Bor ℕ)) → IsItemAt ns i o → slice_get ns i ≡ option_copied o
item_copied ns i None h = slice_get_past ns i h.3
item_copied ns i (Some x) h = slice_get_read ns (length ns) i x.now refl h.3.0 h.1

-- the least above a number is among them, and so below each bound of theirs
pub least_within : (after : Option ℕ) (ns : List ℕ) (o : Option ℕ) (bound : ℕ) → IsLeastAbove after ns o → ((m : ℕ) → IsMember ns m → m < bound) → IfSome o (λ m. m < bound)
least_within after ns None bound least below = tt
least_within after ns (Some m) bound least below = below m least.0
