-- The references of an element stand side by side, so a loop over them finds all that are wanted.
use Rattle.linker_base.specs.Members.{IsMember}
use Rattle.element_store.specs.BaseRules.{model_of}
use Rattle.element_store.specs.declared.numbers.FileNo.{FileNo}
use Rattle.element_store.specs.declared.models.StoredFile.{StoredFile}
use Rattle.link_walk.specs.Calls.{ReferenceStands}
use Rattle.std.proofs.Common.{◌≡◌, inl, inr, ℕ, ◌+◌, ◌<◌, ◌≤◌, Bool, true, false, List, [], ◌∷◌, ◌++◌, take, length, refl, sym, ◌∙◌, ap, subst, arith}
use Rattle.std.specs.Prelude.{zero, suc, Some, slice_get, nat_eq, ◌&&◌, map}
use Rattle.std.proofs.lemmas.Bool.Decides.{nat_tests}
use Rattle.std.proofs.lemmas.List.{map-append}
use Rattle.linker_base.proofs.Cases.{bool_cases}
use Rattle.element_store.specs.declared.numbers.ElementNo.{ElementNo}
use Rattle.element_store.specs.declared.outcome.Role.{Role}
use Rattle.element_store.specs.declared.records.Reference.{Reference}
use Rattle.element_store.specs.Model.{Data}
use Rattle.element_store.specs.Numbers.{chosen, numbers_from}
use Rattle.element_store.specs.Readings.{AreReferencesOf}
use Rattle.link_model.specs.declared.keys.LinkKey.{LinkKey}
use Rattle.link_model.specs.Readers.{key, only_if}
use Rattle.link_walk.specs.Wanted.{references_in}

module _ {A : Type 0} (test : A → Bool) where
  chosen_false : (b : Bool) (n : ℕ) (ns : List ℕ) → b ≡ false → chosen b n ns ≡ ns
  chosen_false true n ns e = cc
  chosen_false false n ns e = refl

  chosen_more : (b : Bool) (n : ℕ) (ns ms : List ℕ) → chosen b n (ns ++ ms) ≡ chosen b n ns ++ ms
  chosen_more true n ns ms = refl
  chosen_more false n ns ms = refl

  -- the items from a place on fail
  rest_fails : (n i : ℕ) (xs : List A) → ((k : ℕ) (x : A) → slice_get xs k ≡ Some x → i ≤ k → test x ≡ false)
      → numbers_from n test xs ≡ numbers_from n test (take i xs)
  rest_fails n zero [] h = refl
  rest_fails n (suc i) [] h = refl
  rest_fails n zero (x ∷ xs) h =
      chosen_false (test x) n (numbers_from (suc n) test xs) (h 0 x refl (omega arith))
      ∙ rest_fails (suc n) zero xs (λ k y at le. h (suc k) y at (omega arith))
  rest_fails n (suc i) (x ∷ xs) h = ap (chosen (test x) n) (rest_fails (suc n) i xs (λ k y at le. h (suc k) y at (omega arith)))

  -- the items before a place fail
  front_fails : (n i : ℕ) (xs : List A) → ((k : ℕ) (x : A) → slice_get xs k ≡ Some x → k < i → test x ≡ false) → numbers_from n test (take i xs) ≡ []
  front_fails n zero xs h = refl
  front_fails n (suc i) [] h = refl
  front_fails n (suc i) (x ∷ xs) h =
      chosen_false (test x) n (numbers_from (suc n) test (take i xs)) (h 0 x refl (omega arith))
      ∙ front_fails (suc n) i xs (λ k y at le. h (suc k) y at (omega arith))

  -- one item more
  one_more : (n i : ℕ) (xs : List A) (x : A) → slice_get xs i ≡ Some x → numbers_from n test (take (suc i) xs)
      ≡ numbers_from n test (take i xs) ++ chosen (test x) (n + i) []
  one_more n i [] x at = cc
  one_more n zero (y ∷ xs) x at = let same : y ≡ x = cc in λ j. chosen (test (same j)) (here j) []
    where
      here : n ≡ n + 0
      here = omega arith
  one_more n (suc i) (y ∷ xs) x at =
      ap (chosen (test y) n) (one_more (suc n) i xs x at ∙ ap (λ m. numbers_from (suc n) test (take i xs) ++ chosen (test x) m []) (omega arith))
      ∙ chosen_more (test y) n (numbers_from (suc n) test (take i xs)) (chosen (test x) (n + suc i) [])

own_wrong : (a b : ℕ) (fit : Bool) → (a ≡ b → ⊥) → (nat_eq a b && fit) ≡ false
own_wrong a b fit h = elim (bool_cases (nat_eq a b)) [ inl yes_it_is ↦ absurd (h (grind (arith, nat_tests))) | inr no_it_is_not ↦ rw no_it_is_not refl ]

own_right : (a b : ℕ) (fit : Bool) → a ≡ b → (nat_eq a b && fit) ≡ fit
own_right a b fit h = let it_is : nat_eq a b ≡ true = grind (arith, nat_tests) in rw it_is refl

chosen_key : (f : ElementNo) (b : Bool) (n : ℕ) → map (key f.file) (chosen b n []) ≡ only_if b (key f.file n)
chosen_key f true n = refl
chosen_key f false n = refl

-- an item that stands there
pub get_there : {A : Type 0} (xs : List A) (i : ℕ) → i < length xs → (x : A) × (slice_get xs i ≡ Some x)
get_there [] i lt = absurd (omega arith)
get_there (x ∷ xs) zero lt = (x, refl)
get_there (x ∷ xs) (suc i) lt = get_there xs i (omega arith)

module _ (fits : Role → Bool) (d : Data) (e : ElementNo) where
  abbrev test_of : Reference → Bool
  test_of r = nat_eq r.context e.index && fits r.role

  -- those that are wanted among the first references
  abbrev pub wanted_before : ℕ → List LinkKey
  wanted_before n = map (key e.file) (numbers_from 0 (λ r. nat_eq r.context e.index && fits r.role) (take n d.references))

  module _ (first after : ℕ) (are : AreReferencesOf d.references e.index first after) where
    pub wanted_none : [] ≡ wanted_before first
    wanted_none = sym (ap (map (key e.file)) (front_fails test_of 0 first d.references
        (λ k r at lt. own_wrong r.context e.index (fits r.role) (λ is. let own = ((are.own k r at).0 is).0 in omega arith))))

    pub wanted_more : (n : ℕ) (before now : List LinkKey) → first ≤ n → n < after
        → ((r : Reference) → slice_get d.references n ≡ Some r → now ≡ before ++ only_if (fits r.role) (key e.file n))
        → before ≡ wanted_before n → now ≡ wanted_before (n + 1)
    wanted_more n before now from upto is h =
        let within = are.order.1 in
        let there = get_there d.references n (omega arith) in
        let r = there.0 in
        let own : r.context ≡ e.index = (are.own n r there.1).1 (from, upto) in
        let one : n + 1 ≡ suc n = omega arith in
        is r there.1 ∙ (ap (λ ks. ks ++ only_if (fits r.role) (key e.file n)) h ∙ sym (ap (λ m. wanted_before m) one
        ∙ (ap (map (key e.file)) (one_more test_of 0 n d.references r there.1)
        ∙ (map-append (key e.file) (numbers_from 0 test_of (take n d.references)) (chosen (test_of r) (0 + n) [])
        ∙ ap (λ ks. wanted_before n ++ ks) (chosen_key e (test_of r) (0 + n) ∙ λ j. only_if (own_right r.context e.index (fits r.role) own j) (key e.file
        (plain j)))))))
      where
        plain : 0 + n ≡ n
        plain = omega arith

    pub wanted_all : (n : ℕ) (keys : List LinkKey) → after ≤ n → n ≤ after → keys ≡ wanted_before n → keys ≡ references_in fits d e
    wanted_all n keys above below h =
        let same : n ≡ after = omega arith in
        h ∙ (ap (λ m. wanted_before m) same ∙ sym (ap (map (key e.file)) (rest_fails test_of 0 after d.references
        (λ k r at le. own_wrong r.context e.index (fits r.role) (λ is. let own = ((are.own k r at).0 is).1 in omega arith)))))

stand_by : (b : Bool) (n k above : ℕ) (ns : List ℕ) → n < above → ((i : ℕ) → IsMember ns i → i < above) → IsMember (chosen b n ns) k → k < above
stand_by true n k above ns lt h (inl e) = omega (arith, e)
stand_by true n k above ns lt h (inr more) = h k more
stand_by false n k above ns lt h more = h k more

numbers_stand : {A : Type 0} (test : A → Bool) (n : ℕ) (xs : List A) (k : ℕ) → IsMember (numbers_from n test xs) k → k < n + length xs
numbers_stand test n [] k m = absurd m
numbers_stand test n (x ∷ xs) k m =
    stand_by (test x) n k (n + length (x ∷ xs)) (numbers_from (suc n) test xs) (omega arith)
    (λ i more. let lt = numbers_stand test (suc n) xs i more in omega arith) m

keys_stand : (f : FileNo) (ns : List ℕ) (upto : ℕ) → ((n : ℕ) → IsMember ns n → n < upto) → (k : LinkKey) → IsMember (map (key f) ns) k
    → (k.0.file ≡ f) × (k.0.index < upto)
keys_stand f [] upto h k m = absurd m
keys_stand f (n ∷ ns) upto h k (inl e) = subst (λ (z : LinkKey). (z.0.file ≡ f) × (z.0.index < upto)) e (refl, h n (inl refl))
keys_stand f (n ∷ ns) upto h k (inr m) = keys_stand f ns upto (λ i more. h i (inr more)) k m

-- each of them stands in the model
pub references_stand : (fits : Role → Bool) (files : List StoredFile) (d : Data) (e : ElementNo) → model_of files e.file.0 ≡ Some d → (k : LinkKey)
    → IsMember (references_in fits d e) k → ReferenceStands files k.0
references_stand fits files d e of k m =
    let at = keys_stand e.file (numbers_from 0 (λ (r : Reference). nat_eq r.context e.index && fits r.role) d.references) (length d.references)
    (λ n more. let lt = numbers_stand (λ (r : Reference). nat_eq r.context e.index && fits r.role) 0 d.references n more in omega arith) k m in
    (d, subst (λ (f : FileNo). model_of files f.0 ≡ Some d) (sym at.0) of, at.1)
