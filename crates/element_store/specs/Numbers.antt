-- Lists and their places: numbering from 0, the places at which a test is passed, rising lists, the least number above
-- another.
use Rattle.std.specs.Prelude.{◌≡◌, ℕ, ◌<◌, ◌≤◌, suc, Bool, true, false, ◌&&◌, nat_lt, Option, Some, None, List, [], ◌∷◌, ◌↔◌, slice_get}
use Rattle.linker_base.specs.Members.{IsMember}

-- an item before these, if it is chosen
abbrev pub chosen : {A : Type 0} → Bool → A → List A → List A
chosen true x xs = x ∷ xs
chosen false x xs = xs

-- the items that pass the test
abbrev pub those_where : {A : Type 0} → (A → Bool) → List A → List A
those_where test [] = []
those_where test (x ∷ xs) = chosen (test x) x (those_where test xs)

-- the places of the items, where the first item has the number n
abbrev pub places_from : {A : Type 0} → ℕ → List A → List ℕ
places_from n [] = []
places_from n (x ∷ xs) = n ∷ places_from (suc n) xs

-- the places of the items that pass the test, where the first item has the number n
abbrev pub numbers_from : {A : Type 0} → ℕ → (A → Bool) → List A → List ℕ
numbers_from n test [] = []
numbers_from n test (x ∷ xs) = chosen (test x) n (numbers_from (suc n) test xs)

-- each number is above the one before it
abbrev pub rises : List ℕ → Bool
rises [] = true
rises (n ∷ []) = true
rises (n ∷ m ∷ ms) = nat_lt n m && rises (m ∷ ms)

-- the number is above the other, if there is one
abbrev pub IsAbove : Option ℕ → ℕ → Type 0
IsAbove None n = Unit {0}
IsAbove (Some m) n = m < n

-- the answer is the least of the numbers that is above the given one, or there is none
abbrev pub IsLeastAbove : Option ℕ → List ℕ → Option ℕ → Type 0
IsLeastAbove after ns None = (n : ℕ) → IsMember ns n → IsAbove after n → ⊥
IsLeastAbove after ns (Some m) = IsMember ns m × IsAbove after m × ((n : ℕ) → IsMember ns n → IsAbove after n → m ≤ n)

-- so many of the numbers stand first, and they are those that are at most the last
abbrev pub ArePassed : List ℕ → ℕ → ℕ → Type 0
ArePassed ns last k = (i n : ℕ) → slice_get ns i ≡ Some n → (n ≤ last) ↔ (i < k)
