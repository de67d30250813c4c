-- The elements of files as a list.
use Rattle.std.proofs.Common.{◌≡◌, ℕ, ◌+◌, ◌*◌, ◌^◌, ◌<◌, ◌≤◌, true, List, [], ◌∷◌, length, map, refl, sym, ap, subst, inl, inr, arith, length-append}
use Rattle.std.proofs.lemmas.List.{length-map}
use Rattle.std.specs.Prelude.{zero, suc, Option, None, Some, slice_get, nat_lt}
use Rattle.std.specs.List.{flat_map}
use Rattle.std.specs.Option.{option_map_or}
use Rattle.std.proofs.lemmas.Bool.Decides.{nat_tests}
use Rattle.linker_base.specs.Members.{IsMember}
use Rattle.linker_base.proofs.MemberLaws.{member_left, member_right, member_cases, member_map}
use Rattle.element_store.specs.declared.numbers.ElementNo.{ElementNo}
use Rattle.element_store.specs.declared.numbers.FileNo.{FileNo}
use Rattle.element_store.specs.declared.models.StoredFile.{StoredFile}
use Rattle.element_store.specs.Model.{Data}
use Rattle.element_store.specs.Numbers.{places_from}
use Rattle.element_store.specs.Stored.{AreFiles}
use Rattle.element_store.specs.BaseRules.{StandsIn, model_of}
use Rattle.link_model.specs.Outside.{numbered_from}
use Rattle.link_model.specs.Readers.{most}
use Rattle.link_walk.specs.Calls.{elements_in, elements_of}

places_long : {A : Type 0} (n : ℕ) (xs : List A) → length (places_from n xs) ≡ length xs
places_long n [] = refl
places_long n (x ∷ xs) = ap suc (places_long (suc n) xs)

place_in : {A : Type 0} (n i : ℕ) (xs : List A) → i < length xs → IsMember (places_from n xs) (n + i)
place_in n i [] lt = absurd (omega arith)
place_in n zero (x ∷ xs) lt = inl (omega arith)
place_in n (suc i) (x ∷ xs) lt = inr (subst (IsMember (places_from (suc n) xs)) (omega arith) (place_in (suc n) i xs (omega arith)))

in_place : {A : Type 0} (n i : ℕ) (xs : List A) → IsMember (places_from n xs) i → (k : ℕ) × (k < length xs) × (i ≡ n + k)
in_place n i [] m = absurd m
in_place n i (x ∷ xs) (inl e) = (0, omega arith, omega (arith, e))
in_place n i (x ∷ xs) (inr m) = let more = in_place (suc n) i xs m in (suc more.0, (let lt = more.1 in omega arith), (let e = more.2 in omega arith))

member_of_map : {A B : Type 0} (f : A → B) (xs : List A) (y : B) → IsMember (map f xs) y → (x : A) × IsMember xs x × (f x ≡ y)
member_of_map f [] y m = absurd m
member_of_map f (x ∷ xs) y (inl e) = (x, inl refl, e)
member_of_map f (x ∷ xs) y (inr m) = let more = member_of_map f xs y m in (more.0, inr more.1, more.2)

plain : (i : ℕ) → 0 + i ≡ i
plain i = omega arith

-- the elements of one file, which may have a model
abbrev listed_in : FileNo → Option Data → List ElementNo
listed_in f o = option_map_or (λ d. map (λ k. record { file = f; index = k }) (places_from 0 d.elements)) o []

there_in : (f : FileNo) (o : Option Data) (d : Data) (i : ℕ) → o ≡ Some d → i < length d.elements → IsMember (listed_in f o) (record { file = f; index = i })
there_in f None d i is lt = cc
there_in f (Some c) d i is lt =
    let same : c ≡ d = cc in
    member_map (λ k. record { file = f; index = k }) (places_from 0 c.elements) i
    (subst (IsMember (places_from 0 c.elements)) (plain i) (place_in 0 i c.elements (subst (λ (z : Data). i < length z.elements) (sym same) lt)))

stands_in : (f : FileNo) (o : Option Data) (e : ElementNo) → IsMember (listed_in f o) e → (d : Data) × (o ≡ Some d) × (e.file
    ≡ f) × (e.index < length d.elements)
stands_in f None e m = absurd m
stands_in f (Some d) e m =
    let at = member_of_map (λ k. record { file = f; index = k }) (places_from 0 d.elements) e m in
    let place = in_place 0 at.0 d.elements at.1 in
    let file : e.file ≡ f = sym (ap (λ x. x.file) at.2) in
    let index : at.0 ≡ e.index = ap (λ x. x.index) at.2 in
    (d, refl, file, (let lt = place.1 in let is = place.2 in omega arith))

module _ (e : ElementNo) where
  there_from : (n i : ℕ) (files : List StoredFile) (d : Data) → model_of files i ≡ Some d → e.file.0 ≡ n + i → e.index < length d.elements
      → IsMember (flat_map elements_in (numbered_from n files)) e
  there_from n i [] d of at lt = cc
  there_from n zero (s ∷ files) d of at lt =
      let same : n ≡ e.file.0 = omega (arith, at) in
      member_left (listed_in (record { 0 = n }) s.model) (flat_map elements_in (numbered_from (suc n) files)) e
      (subst (IsMember (listed_in (record { 0 = n }) s.model)) (λ j. record { file = record { 0 = same j }; index = e.index })
      (there_in (record { 0 = n }) s.model d e.index of lt))
  there_from n (suc i) (s ∷ files) d of at lt =
      member_right (listed_in (record { 0 = n }) s.model) (flat_map elements_in (numbered_from (suc n) files)) e
      (there_from (suc n) i files d of (omega (arith, at)) lt)

  stands_from : (n : ℕ) (files : List StoredFile) → IsMember (flat_map elements_in (numbered_from n files)) e
      → (d : Data) × (i : ℕ) × (model_of files i ≡ Some d) × (e.file.0 ≡ n + i) × (e.index < length d.elements)
  stands_from n [] m = absurd m
  stands_from n (s ∷ files) m = elim (member_cases (listed_in (record { 0 = n }) s.model) (flat_map elements_in (numbered_from (suc n) files)) e m) [
    | inl a ↦
        let at = stands_in (record { 0 = n }) s.model e a in
        let file : e.file.0 ≡ n = ap (λ f. f.0) at.2 in
        (at.0, 0, at.1, omega (arith, file), at.3)
    | inr b ↦ let more = stands_from (suc n) files b in (more.0, suc more.1, more.2, (let at = more.3 in omega arith), more.4)
  ]

-- an element that stands in the models is among them
pub element_among : (files : List StoredFile) (e : ElementNo) → StandsIn files e → IsMember (elements_of files) e
element_among files e h = there_from e 0 e.file.0 files h.0 h.1 (sym (plain e.file.0)) h.2

-- and what is among them stands there
pub element_stands : (files : List StoredFile) (e : ElementNo) → IsMember (elements_of files) e → StandsIn files e
element_stands files e m =
    let h = stands_from e 0 files m in
    let at : h.1 ≡ e.file.0 = (let is = h.3 in omega arith) in
    (h.0, subst (λ i. model_of files i ≡ Some h.0) at h.2, h.4)

below : (a b : ℕ) → nat_lt a b ≡ true → a < b
below a b h = grind (arith, nat_tests)

few_in : (n : ℕ) (files : List StoredFile) → ((i : ℕ) (s : StoredFile) (d : Data) → slice_get files i ≡ Some s → s.model ≡ Some d → length d.elements < 2 ^ 32)
    → length (flat_map elements_in (numbered_from n files)) ≤ (2 ^ 32) * length files
few_in n [] h = omega arith
few_in n (s ∷ files) h =
    let one : length (listed_in (record { 0 = n }) s.model) ≤ 2 ^ 32 = of s.model (λ d is. h 0 s d refl is) in
    let more = few_in (suc n) files (λ i. h (suc i)) in
    let long = length-append (listed_in (record { 0 = n }) s.model) (flat_map elements_in (numbered_from (suc n) files)) in
    omega (arith, long)
  where
    of : (o : Option Data) → ((d : Data) → o ≡ Some d → length d.elements < 2 ^ 32) → length (listed_in (record { 0 = n }) o) ≤ 2 ^ 32
    of None h = omega arith
    of (Some d) h =
        let lt = h d refl in
        let long = length-map {B = ElementNo} (places_from 0 d.elements) (λ k. record { file = record { 0 = n }; index = k }) in
        let places = places_long 0 d.elements in
        omega (arith, long, places)

-- there are fewer than a walk has steps
pub elements_few : (files : List StoredFile) → AreFiles files → length (elements_of files) < most
elements_few files are =
    let few = few_in 0 files (λ i s d at is. below (length d.elements) (2 ^ 32) ((are.models i s d at is).1.few.elements)) in
    let files_few = are.few in
    omega arith
