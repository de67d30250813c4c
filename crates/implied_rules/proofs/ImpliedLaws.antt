-- Where the code's implied base is the defined one, and what the rows say together.
use Rattle.std.proofs.Common.{◌≡◌, ◌∙◌, ℕ, zero, suc, ◌+◌, ◌<◌, ◌≤◌, Bool, true, false, cond, List, [], ◌∷◌, ◌++◌, length, get_or, map, drop, sym, ap, subst, refl, ◌⊎◌, inl, inr, arith, add-one, append_assoc, append-nil}
use Rattle.std.specs.Prelude.{Option, None, Some, not, slice_get}
use Rattle.std.specs.List.{flat_map}
use Rattle.linker_base.proofs.MemberLaws.{member_cases}
use Rattle.element_store.specs.declared.numbers.ElementNo.{ElementNo}
use Rattle.element_store.specs.declared.outcome.Outcome.{Outcome}
use Rattle.element_store.specs.declared.models.StoredFile.{StoredFile}
use Rattle.element_store.specs.BaseRules.{StandsIn, base_of, model_of}
use Rattle.element_store.specs.Readings.{Owns}
use Rattle.element_store.specs.Kinds.{is_type}
use Rattle.element_store.specs.Model.{Data, root_element}
use Rattle.element_store.specs.Numbers.{chosen, places_from, those_where}
use Rattle.element_store.specs.Stored.{AreFiles, HasRank}
use Rattle.element_store.specs.declared.numbers.FileNo.{FileNo}
use Rattle.link_model.specs.declared.keys.LinkKey.{LinkKey}
use Rattle.link_model.specs.Inheritance.{base}
use Rattle.link_model.specs.Keys.{same_element}
use Rattle.link_model.specs.Linking.{MemberStands}
use Rattle.link_model.specs.Outside.{library_of}
use Rattle.link_model.specs.Readers.{LinkWorld}
use Rattle.link_model.specs.Settled.{implied, implied_from, specialises}
use Rattle.link_walk.specs.Calls.{reading}
use Rattle.link_walk.proofs.ReferenceLists.{get_there}
use Rattle.inheritance.specs.BaseStands.{same_base}
use Rattle.inheritance.proofs.ExpandLaws.{model_same}
use Rattle.implied_rules.specs.declared.rows.ImpliedRow.{ImpliedRow}
use Rattle.implied_model.specs.Implied.{Implication, implication, implied_at, implied_in, owner_of}
use Rattle.implied_model.proofs.RankOrder.{order_of_ranks}
use Rattle.implied_rules.specs.Implied.{AreImplied, AreListed, AreStanding, IsAt, said_by}

-- it stands
pub stands : (files : List StoredFile) (t : ElementNo) → (d : Data) × IsAt files t d → StandsIn files t
stands files t (d, there) = (d, there.model, there.within)

-- what stands at a place is what is read there
pub get_is : {A : Type 0} (xs : List A) (i : ℕ) (r x : A) → slice_get xs i ≡ Some x → get_or xs i r ≡ x
get_is [] i r x at = cc
get_is (y ∷ ys) zero r x at = cc
get_is (y ∷ ys) (suc i) r x at = get_is ys i r x at

module _ (files : List StoredFile) (entries : List (LinkKey × Outcome)) (t : ElementNo) (d : Data) (there : IsAt files t d) where
  abbrev read : LinkWorld
  read = reading files entries

  -- the base of the type in the model of its file is its base among the files
  base_is : base_of files t ≡ base (library_of files) d t (get_or d.elements t.index root_element)
  base_is =
      let found = get_there d.elements t.index there.within in
      same_base files d t found.0 there.model there.own found.1
      ∙ ap (base (library_of files) d t) (sym (get_is d.elements t.index root_element found.0 found.1))

  -- what is implied by the base that was found
  pub implied_by : (b : Option ElementNo) → b ≡ base_of files t
      → implied_from (library_of files) t read b ≡ implied (library_of files) t read
  implied_by b is =
      ap (implied_from (library_of files) t read) (is ∙ base_is)
      ∙ ap (λ (m : Data). implied_from (library_of files) t read (base (library_of files) m t (get_or m.elements t.index root_element)))
      (sym (model_same files t.file.0 d there.model))

  -- without a base, or where it is the type itself, nothing is
  pub none_implied : None ≡ base_of files t → [] ≡ implied (library_of files) t read
  none_implied is = implied_by None is

  pub itself_implied : (b : ElementNo) → Some b ≡ base_of files t → same_element b t ≡ true → [] ≡ implied (library_of files) t read
  itself_implied b is same =
      sym (ap (λ y. cond y [] (cond (specialises t b read) [] (b ∷ []))) same) ∙ implied_by (Some b) is

  -- and nothing where explicit generals lead there; else the base
  pub other_implied : (b : ElementNo) (reached : Bool) → Some b ≡ base_of files t → same_element b t ≡ false → reached ≡ specialises t b read
      → cond reached [] (b ∷ []) ≡ implied (library_of files) t read
  other_implied b reached is apart says =
      ap (λ y. cond y [] (b ∷ [])) says
      ∙ (sym (ap (λ y. cond y [] (cond (specialises t b read) [] (b ∷ []))) apart) ∙ implied_by (Some b) is)

-- ---- the rows of one element

-- rows are as before where nothing is implied
pub as_before : (said more : List Implication) → more ≡ [] → said ≡ said ++ more
as_before said more none = sym (append-nil said) ∙ ap (λ xs. said ++ xs) (sym none)

module _ (files : List StoredFile) (w : LinkWorld) (f : FileNo) (d : Data) where
  -- what is no type has no implication
  pub untyped : (i : ℕ) → is_type (get_or d.elements i root_element).kind ≡ false → implied_at files w f d i ≡ []
  untyped i other = ap (λ b. cond b (map (implication f d i) (implied (library_of files) (record { file = f; index = i }) w)) []) other

  -- a type has that of its base, with the member that owns it
  pub typed : (i m : ℕ) (bs : List ElementNo) → is_type (get_or d.elements i root_element).kind ≡ true → m ≡ owner_of d i
      → bs ≡ implied (library_of files) (record { file = f; index = i }) w
      → implied_at files w f d i
      ≡ map (λ x. record { of = record { file = f; index = i }; member = record { file = f; index = m }; base = x }) bs
  typed i m bs is owner are =
      ap (λ b. cond b (map (implication f d i) (implied (library_of files) (record { file = f; index = i }) w)) []) is
      ∙ (ap (map (implication f d i)) (sym are)
      ∙ ap (λ k. map (λ x. record { of = record { file = f; index = i }; member = record { file = f; index = k }; base = x }) bs) (sym owner))

-- a row more says its implication behind the others
pub said_more : (rows : List ImpliedRow) (row : ImpliedRow) → map said_by (rows ++ row ∷ []) ≡ map said_by rows ++ said_by row ∷ []
said_more [] row = refl
said_more (r ∷ rows) row = ap (λ xs. said_by r ∷ xs) (said_more rows row)

-- what stands at a place stands below the length
below : {A : Type 0} (xs : List A) (i : ℕ) (x : A) → slice_get xs i ≡ Some x → i < length xs
below [] i x at = cc
below (y ∷ ys) zero x at = omega arith
below (y ∷ ys) (suc i) x at = let lt = below ys i x at in omega (arith, lt)

-- a member that owns stands
pub member_stands : (files : List StoredFile) (f : FileNo) (d : Data) (e m : ℕ) → model_of files f.0 ≡ Some d → Owns d e m
    → MemberStands files (record { file = f; index = m })
member_stands files f d e m model owns = (d, model, below d.members m owns.0 owns.1)

-- a row more that stands, among rows that do
pub standing_more : (files : List StoredFile) (rows : List ImpliedRow) (row : ImpliedRow) → StandsIn files row.of → MemberStands files row.member
    → StandsIn files row.base → AreStanding files rows → AreStanding files (rows ++ row ∷ [])
standing_more files rows row of member base others r m = elim (member_cases rows (row ∷ []) r m) [
  | inl before ↦ others r before
  | inr (inl is) ↦
      subst (λ (x : ImpliedRow). StandsIn files x.of × MemberStands files x.member × StandsIn files x.base) is (of, member, base)
  | inr (inr none) ↦ absurd none
]

-- ---- the rows of one file

places_next : {A : Type 0} (n : ℕ) (xs : List A) (i : ℕ) → i < length xs → places_from n (drop i xs) ≡ n ∷ places_from (suc n) (drop (suc i) xs)
places_next n [] i lt = absurd (omega (arith, lt))
places_next n (x ∷ xs) zero lt = refl
places_next n (x ∷ xs) (suc i) lt = places_next n xs i (omega (arith, lt))

places_end : {A : Type 0} (n : ℕ) (xs : List A) (i : ℕ) → length xs ≤ i → places_from n (drop i xs) ≡ []
places_end n [] zero le = refl
places_end n [] (suc i) le = refl
places_end n (x ∷ xs) zero le = absurd (omega (arith, le))
places_end n (x ∷ xs) (suc i) le = places_end n xs i (omega (arith, le))

module _ {A B : Type 0} (g : ℕ → List B) (xs : List A) where
  -- one element more
  pub one_more : (i : ℕ) (now new whole : List B) → i < length xs → new ≡ now ++ g i → now ++ flat_map g (places_from i (drop i xs)) ≡ whole
      → new ++ flat_map g (places_from (i + 1) (drop (i + 1) xs)) ≡ whole
  one_more i now new whole lt is before =
      let rest = flat_map g (places_from (suc i) (drop (suc i) xs)) in
      ap (λ n. new ++ flat_map g (places_from n (drop n xs))) (add-one i)
      ∙ (ap (λ ys. ys ++ rest) is ∙ (append_assoc now (g i) rest ∙ (ap (λ ns. now ++ flat_map g ns) (sym (places_next i xs i lt)) ∙ before)))

  -- and all of them
  pub all_are : (i : ℕ) (now whole : List B) → length xs ≤ i → now ++ flat_map g (places_from i (drop i xs)) ≡ whole → now ≡ whole
  all_are i now whole le before = sym (append-nil now) ∙ (ap (λ ns. now ++ flat_map g ns) (sym (places_end i xs i le)) ∙ before)

-- ---- the rows of all files

-- no more items pass a test than there are
pub fewer : {A : Type 0} (test : A → Bool) (xs : List A) → length (those_where test xs) ≤ length xs
fewer test [] = omega arith
fewer test (x ∷ xs) = by (test x) (fewer test xs)
  where
    by : (b : Bool) → length (those_where test xs) ≤ length xs → length (chosen b x (those_where test xs)) ≤ suc (length xs)
    by true le = omega (arith, le)
    by false le = omega (arith, le)

-- what stands at a place of a list with one item more
placed_last : {A : Type 0} (xs : List A) (x : A) (i : ℕ) (y : A) → slice_get (xs ++ x ∷ []) i ≡ Some y
    → (slice_get xs i ≡ Some y) ⊎ ((i ≡ length xs) × (y ≡ x))
placed_last [] x zero y at = let same : x ≡ y = cc in inr (refl, sym same)
placed_last [] x (suc i) y at = cc
placed_last (z ∷ xs) x zero y at = inl at
placed_last (z ∷ xs) x (suc i) y at = elim (placed_last xs x i y at) [
  | inl before ↦ inl before
  | inr (last, is) ↦ inr (ap suc last, is)
]

flat_last : {A B : Type 0} (g : A → List B) (xs : List A) (x : A) → flat_map g (xs ++ x ∷ []) ≡ flat_map g xs ++ g x
flat_last g [] x = append-nil (g x)
flat_last g (z ∷ xs) x = ap (λ ys. g z ++ ys) (flat_last g xs x) ∙ sym (append_assoc (g z) (flat_map g xs) (g x))

length_last : {A : Type 0} (xs : List A) (x : A) → length (xs ++ x ∷ []) ≡ suc (length xs)
length_last [] x = refl
length_last (y ∷ xs) x = ap suc (length_last xs x)

module _ (files : List StoredFile) (w : LinkWorld) where
  -- at first none are listed
  pub none_listed : AreListed files w 0 []
  none_listed = record { order = []; long = refl; ranked = λ r f at. cc; said = refl; stand = λ row m. absurd m }

  -- then the file of the next rank
  pub listed_more : (count : ℕ) (f : FileNo) (old new : List ImpliedRow) → AreListed files w count old → HasRank files count f.0
      → map said_by new ≡ map said_by old ++ implied_in files w f → (AreStanding files old → AreStanding files new)
      → AreListed files w (count + 1) new
  listed_more count f old new before has is stand = record {
    order = before.order ++ f ∷ [];
    long = length_last before.order f ∙ (ap suc before.long ∙ sym (add-one count));
    ranked = λ r g at. by r g (placed_last before.order f r g at);
    said = is ∙ (ap (λ xs. xs ++ implied_in files w f) before.said ∙ sym (flat_last (implied_in files w) before.order f));
    stand = stand before.stand;
  }
    where
      by : (r : ℕ) (g : FileNo) → (slice_get before.order r ≡ Some g) ⊎ ((r ≡ length before.order) × (g ≡ f)) → HasRank files r g.0
      by r g (inl at) = before.ranked r g at
      by r g (inr (last, is)) =
          subst (λ n. HasRank files n g.0) (sym (last ∙ before.long)) (subst (λ (x : FileNo). HasRank files count x.0) (sym is) has)

  -- and in the end all project files are
  pub listed_all : (count : ℕ) (rows : List ImpliedRow) → AreFiles files → AreListed files w count rows
      → count ≡ length (those_where (λ s. not s.library) files) → AreImplied files w rows
  listed_all count rows are listed is =
      listed.said ∙ ap (flat_map (implied_in files w))
      (order_of_ranks files listed.order are (record { all = listed.long ∙ is; ranked = listed.ranked }))
