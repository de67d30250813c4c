-- The members that bear a name, taken one after another by the table of names, give what all members give.
use Rattle.std.proofs.Common.{◌≡◌, ℕ, ◌+◌, ◌-◌, ◌<◌, ◌≤◌, Bool, true, false, List, [], ◌∷◌, ◌++◌, refl, sym, ◌∙◌, ap, subst, inl, inr, arith, append_assoc, append-nil}
use Rattle.std.proofs.lemmas.Bool.Decides.{nat_tests}
use Rattle.std.specs.Prelude.{suc, nat_eq, nat_lt, ◌&&◌, slice_get, Option, None, Some}
use Rattle.linker_base.specs.Members.{IsMember}
use Rattle.linker_base.proofs.Cases.{bool_cases}
use Rattle.demand_core.specs.Computation.{Asked, done, join_step, join, joined}
use Rattle.demand_core.specs.Search.{Trail}
use Rattle.demand_core.proofs.LoopLaws.{join_assoc, join_first, join_last}
use Rattle.element_store.specs.declared.numbers.FileNo.{FileNo}
use Rattle.element_store.specs.declared.numbers.ElementNo.{ElementNo}
use Rattle.element_store.specs.declared.records.Member.{Member}
use Rattle.element_store.specs.Numbers.{chosen, numbers_from, those_where, IsAbove, IsLeastAbove}
use Rattle.element_store.specs.Model.{Data, bears, bearers}
use Rattle.element_store.specs.Condition.{members_of}
use Rattle.link_model.specs.declared.keys.LinkKey.{LinkKey}
use Rattle.link_model.specs.declared.keys.LinkFact.{LinkFact}
use Rattle.link_model.specs.declared.keys.Hit.{Hit}
use Rattle.link_model.specs.Readers.{LinkWorld, Lookup, told}
use Rattle.link_model.specs.Names.{declared_hit, hit}
use Rattle.link_walk.specs.Gained.{Gained}
use Rattle.link_walk.proofs.GainLaws.{gained_none, gained_join}

-- ---- rising numbers, and those of them that are above one

abbrev pub above : Option ℕ → ℕ → Bool
above None n = true
above (Some a) n = nat_lt a n

-- all of the list are at least so great
abbrev pub AreFrom : ℕ → List ℕ → Type 0
AreFrom n ms = (m : ℕ) → IsMember ms m → n ≤ m

-- each is less than all after it
abbrev pub Rise : List ℕ → Type 0
Rise [] = Unit {0}
Rise (n ∷ ns) = AreFrom (suc n) ns × Rise ns

from_chosen : (b : Bool) (n : ℕ) (ns : List ℕ) → AreFrom (suc n) ns → AreFrom n (chosen b n ns)
from_chosen true n ns h m (inl e) = omega (arith, e)
from_chosen true n ns h m (inr is) = omega (arith, h m is)
from_chosen false n ns h m is = omega (arith, h m is)

numbers_from_first : {A : Type 0} (n : ℕ) (test : A → Bool) (xs : List A) → AreFrom n (numbers_from n test xs)
numbers_from_first n test [] = λ m is. absurd is
numbers_from_first n test (x ∷ xs) = from_chosen (test x) n (numbers_from (suc n) test xs) (numbers_from_first (suc n) test xs)

rise_chosen : (b : Bool) (n : ℕ) (ns : List ℕ) → AreFrom (suc n) ns → Rise ns → Rise (chosen b n ns)
rise_chosen true n ns h r = (h, r)
rise_chosen false n ns h r = r

pub numbers_rise : {A : Type 0} (n : ℕ) (test : A → Bool) (xs : List A) → Rise (numbers_from n test xs)
numbers_rise n test [] = tt
numbers_rise n test (x ∷ xs) = rise_chosen (test x) n (numbers_from (suc n) test xs) (numbers_from_first (suc n) test xs) (numbers_rise (suc n) test xs)

is_above : (after : Option ℕ) (n : ℕ) → IsAbove after n → above after n ≡ true
is_above None n h = refl
is_above (Some a) n h = grind (arith, nat_tests)

above_is : (after : Option ℕ) (n : ℕ) → above after n ≡ true → IsAbove after n
above_is None n h = tt
above_is (Some a) n h = grind (arith, nat_tests)

-- all of them are above
all_above : (after : Option ℕ) (ns : List ℕ) → ((m : ℕ) → IsMember ns m → IsAbove after m) → those_where (above after) ns ≡ ns
all_above after [] h = refl
all_above after (n ∷ ns) h = rw (is_above after n (h n (inl refl)), all_above after ns (λ m is. h m (inr is))) refl

not_above : (after : Option ℕ) (n : ℕ) → above after n ≡ false → IsAbove after n → ⊥
not_above after n e h = let no : true ≡ false = sym (is_above after n h) ∙ e in cc

-- none is above where there is no least one
pub none_left : (after : Option ℕ) (ns : List ℕ) → IsLeastAbove after ns None → those_where (above after) ns ≡ []
none_left after [] h = refl
none_left after (n ∷ ns) h = elim (bool_cases (above after n)) [
  | inl a ↦ absurd (h n (inl refl) (above_is after n a))
  | inr b ↦ rw b (none_left after ns (λ m is above. h m (inr is) above))
]

-- those above are the least one, and then those above it
pub one_left : (after : Option ℕ) (ns : List ℕ) (m : ℕ) → Rise ns → IsLeastAbove after ns (Some m)
    → those_where (above after) ns ≡ m ∷ those_where (above (Some m)) ns
one_left after [] m r h = absurd h.0
one_left after (n ∷ ns) m r h = elim (bool_cases (above after n)) [
  | inl a ↦
      let first : m ≡ n = elim h.0 [
        | inl e ↦ sym e
        | inr later ↦ let below = h.2 n (inl refl) (above_is after n a) in let beyond = r.0 m later in absurd (omega arith)
      ] in
      let itself : nat_lt m n ≡ false = grind (arith, nat_tests, first) in
      rw (a, itself) (ap (λ k. k ∷ those_where (above after) ns) (sym first)
      ∙ ap (λ ks. m ∷ ks) (all_above after ns (λ k is. let beyond = r.0 k is in above_all k beyond first a) ∙ sym (all_above (Some m) ns
      (λ k is. let beyond = r.0 k is in omega (arith, beyond, first)))))
  | inr b ↦
      let behind : nat_lt m n ≡ false = elim (bool_cases (nat_lt m n)) [
        | inl lt ↦ absurd (not_above after n b (lifted lt))
        | inr ge ↦ ge
      ] in
      let later : IsMember ns m = elim h.0 [
        | inl e ↦ absurd (not_above after n b (subst (IsAbove after) (sym e) h.1))
        | inr is ↦ is
      ] in
      rw (b, behind) (one_left after ns m r.1 (later, h.1, λ k is up. h.2 k (inr is) up))
]
  where
    above_all : (k : ℕ) → suc n ≤ k → m ≡ n → above after n ≡ true → IsAbove after k
    above_all k beyond first a = wider after (above_is after n a)
      where
        wider : (o : Option ℕ) → IsAbove o n → IsAbove o k
        wider None h = tt
        wider (Some p) h = omega (arith, h, beyond)

    lifted : nat_lt m n ≡ true → IsAbove after n
    lifted lt = wider after h.1
      where
        lt_is : m < n
        lt_is = grind (arith, nat_tests)

        wider : (o : Option ℕ) → IsAbove o m → IsAbove o n
        wider None h = tt
        wider (Some p) h = omega (arith, h, lt_is)

-- ---- members that don't bear the name give nothing

-- what a member of that number gives for the name, and whatever its names are
abbrev pub declared_part : Data → FileNo → List ℕ → ℕ → Lookup (List Hit)
declared_part d f x k = told (slice_get d.members k) (declared_hit x f k)

abbrev pub hit_part : Data → FileNo → ℕ → Lookup (List Hit)
hit_part d f k = told (slice_get d.members k) (hit f k)

module _ (d : Data) (f : FileNo) (x : List ℕ) (e : ℕ) (w : LinkWorld) where
  abbrev both : Asked LinkKey LinkFact (List Hit) → Asked LinkKey LinkFact (List Hit) → Asked LinkKey LinkFact (List Hit)
  both a b = record { step = join_step a.step b.step; looks = a.looks ++ b.looks }

  nothing_first : (a : Asked LinkKey LinkFact (List Hit)) → both (done [] w) a ≡ a
  nothing_first a = λ i. record { step = join_first a.step i; looks = a.looks }

  part_bears : (n : ℕ) (m : Member) → slice_get d.members n ≡ Some m → bears x m ≡ true → declared_part d f x n w ≡ hit_part d f n w
  part_bears n m at b = rw (at, b) refl

  part_bears_not : (n : ℕ) (m : Member) → slice_get d.members n ≡ Some m → bears x m ≡ false → declared_part d f x n w ≡ done [] w
  part_bears_not n m at b = rw (at, b) refl

  parts_from : (n : ℕ) (ms : List Member) → ((i : ℕ) (m : Member) → slice_get ms i ≡ Some m → slice_get d.members (n + i) ≡ Some m)
      → joined (declared_part d f x) (numbers_from n (λ m. nat_eq m.owner e) ms) w ≡ joined (hit_part d f) (numbers_from n
      (λ m. nat_eq m.owner e && bears x m) ms) w
  parts_from n [] at = refl
  parts_from n (m ∷ ms) at =
      let here : slice_get d.members n ≡ Some m = subst (λ k. slice_get d.members k ≡ Some m) (omega arith) (at 0 m refl) in
      let more = parts_from (suc n) ms (λ i k is. subst (λ j. slice_get d.members j ≡ Some k) (omega arith) (at (suc i) k is)) in
      elim (bool_cases (nat_eq m.owner e)) [
        | inr other ↦ rw other more
        | inl own ↦ elim (bool_cases (bears x m)) [
          | inl b ↦ rw (own, b) (λ i. both (part_bears n m here b i) (more i))
          | inr b ↦ rw (own, b) ((λ i. both (part_bears_not n m here b i) (more i)) ∙ nothing_first _)
        ]
      ]

  pub parts_of_bearers : joined (declared_part d f x) (members_of d e) w ≡ joined (hit_part d f) (bearers d.members e x) w
  parts_of_bearers = parts_from 0 d.members (λ i m at. subst (λ k. slice_get d.members k ≡ Some m) (omega arith) at)

-- ---- one after another

abbrev Start : Type 0
Start = Trail LinkKey LinkFact ElementNo Hit

-- the union of all but the last, and the last
pub joined_last : {A B : Type 0} (w : LinkWorld) (f : A → Lookup (List B)) (xs : List A) (x : A) → joined f (xs ++ x ∷ []) w ≡ join (joined f xs) (f x) w
joined_last w f [] x = λ i. record { step = (join_last (f x w).step ∙ sym (join_first (f x w).step)) i; looks = append-nil (f x w).looks i }
joined_last w f (y ∷ xs) x =
    let more = joined_last w f xs x in
    λ i. record {
      step = (ap (λ a. join_step (f y w).step a.step) more ∙ sym (join_assoc (f y w).step (joined f xs w).step (f x w).step)) i;
      looks = (ap (λ a. (f y w).looks ++ a.looks) more ∙ sym (append_assoc (f y w).looks (joined f xs w).looks (f x w).looks)) i;
    }

-- the bearers up to one are taken, and those above it are left
pub record AreTaken (d : Data) (f : FileNo) (x : List ℕ) (e : ℕ) (w : LinkWorld) (start now : Start) (after : Option ℕ) : Type 0 where
  pub taken : List ℕ
  pub whole : bearers d.members e x ≡ taken ++ those_where (above after) (bearers d.members e x)
  pub gained : Gained (joined (hit_part d f) taken w) start now

pub taken_none : (d : Data) (f : FileNo) (x : List ℕ) (e : ℕ) (w : LinkWorld) (start : Start) → AreTaken d f x e w start start None
taken_none d f x e w start = record { taken = []; whole = sym (all_above None (bearers d.members e x) (λ m is. tt)); gained = gained_none w start }

pub taken_next : (d : Data) (f : FileNo) (x : List ℕ) (e : ℕ) (w : LinkWorld) (start now new : Start) (after : Option ℕ) (m : ℕ)
    → IsLeastAbove after (bearers d.members e x) (Some m) → AreTaken d f x e w start now after → Gained (hit_part d f m w) now new
    → AreTaken d f x e w start new (Some m)
taken_next d f x e w start now new after m least t g =
    let left = one_left after (bearers d.members e x) m (numbers_rise 0 (λ k. nat_eq k.owner e && bears x k) d.members) least in
    record {
      taken = t.taken ++ m ∷ [];
      whole = t.whole ∙ (ap (λ ks. t.taken ++ ks) left ∙ sym (append_assoc t.taken (m ∷ []) (those_where (above (Some m)) (bearers d.members e x))));
      gained = subst (λ a. Gained a start new) (sym (joined_last w (hit_part d f) t.taken m)) (gained_join w (joined (hit_part d f) t.taken)
          (hit_part d f m) start now new t.gained g);
    }

pub taken_all : (d : Data) (f : FileNo) (x : List ℕ) (e : ℕ) (w : LinkWorld) (start now : Start) (after : Option ℕ)
    → IsLeastAbove after (bearers d.members e x) None → AreTaken d f x e w start now after → Gained (joined (declared_part d f x) (members_of d e) w) start now
taken_all d f x e w start now after least t =
    let all : bearers d.members e x ≡ t.taken = t.whole ∙ (ap (λ ks. t.taken ++ ks) (none_left after (bearers d.members e x) least) ∙ append-nil t.taken) in
    subst (λ a. Gained a start now) (sym (parts_of_bearers d f x e w)) (subst (λ ks. Gained (joined (hit_part d f) ks w) start now) (sym all) t.gained)

-- how many numbers may still be above
abbrev pub left_above : ℕ → Option ℕ → ℕ
left_above n None = n + 1
left_above n (Some a) = n - a

-- what is told of the member that stands there
pub told_there : (d : Data) (f : FileNo) (k : ℕ) (m : Member) (w : LinkWorld) (old new : Start) → slice_get d.members k ≡ Some m → Gained
    (hit f k m w) old new → Gained (hit_part d f k w) old new
told_there d f k m w old new at g = subst (λ (o : Option Member). Gained (told o (hit f k) w) old new) (sym at) g
