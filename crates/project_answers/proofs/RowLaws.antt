-- The rows of references that stand, and of files whose texts are present.
use Rattle.std.proofs.Common.{◌≡◌, ◌∙◌, ℕ, zero, suc, ◌+◌, ◌<◌, Bool, true, false, not, cond, List, [], ◌∷◌, ◌++◌, length, map, get_or, refl, sym, ap, subst, inl, inr, arith, zero-add}
use Rattle.std.specs.Prelude.{All, codes, nat_lt, Option, Some, None, slice_get}
use Rattle.std.specs.List.{flat_map}
use Rattle.std.specs.Option.{option_and_then, option_map, option_map_or}
use Rattle.std.proofs.lemmas.Bool.Decides.{nat_tests}
use Rattle.linker_base.specs.Members.{IsMember}
use Rattle.linker_base.proofs.Cases.{some_same}
use Rattle.element_store.specs.declared.numbers.FileNo.{FileNo}
use Rattle.element_store.specs.declared.numbers.RefNo.{RefNo}
use Rattle.element_store.specs.declared.records.Reference.{Reference}
use Rattle.element_store.specs.declared.models.StoredFile.{StoredFile}
use Rattle.element_store.specs.declared.outcome.Outcome.{Outcome}
use Rattle.element_store.specs.declared.outcome.Role.{Role}
use Rattle.element_store.specs.declared.outcome.Role.TheVariants.{Subclass}
use Rattle.element_store.specs.Model.{Data, bare_model}
use Rattle.element_store.specs.Numbers.{chosen, those_where}
use Rattle.element_store.specs.Stored.{AreFiles}
use Rattle.text_model.specs.declared.fault.FileFault.{FileFault}
use Rattle.link_model.specs.Outside.{keys_of}
use Rattle.link_model.proofs.RuleLaws.{stands_among}
use Rattle.book_model.specs.declared.rows.LinkRow.{LinkRow}
use Rattle.book_model.specs.declared.rows.Place.{Place}
use Rattle.book_model.specs.declared.rows.FaultRow.TheVariants.{Link}
use Rattle.book_model.specs.Files.{Content, ProjectFile, model_at, name_at, stored, stored_file, stored_from, text_at, text_of}
use Rattle.book_model.specs.Live.{HasModel, IsLiveReference, NamesLive}
use Rattle.book_model.specs.Outcomes.{outcome_of}
use Rattle.book_model.specs.Places.{place_of}
use Rattle.book_model.specs.Printed.{row_text}
use Rattle.book_model.specs.Queries.{links_over, reference_place}
use Rattle.book_model.specs.Readings.{Reading, language_of, model_by}
use Rattle.book_model.specs.Rows.{Standing, standing_from, standing, stands_earlier, rising, link_row, rows_in, rows_by, rows_of, is_linked, faults_by}
use Rattle.book_model.proofs.LiveLaws.{outcome_live}
use Rattle.book_model.proofs.SortingLaws.{sorted_same}
use Rattle.project_files.specs.Kept.{content_at}
use Rattle.project_files.proofs.KeptLaws.{live_model, live_within}
use Rattle.project_book.proofs.PrintLaws.{content_file, content_model}
use Rattle.project_answers.specs.declared.rows.Listing.{Listing}
use Rattle.project_answers.specs.declared.rows.Listing.TheVariants.{All as Everything, Faults}
use Rattle.project_answers.specs.declared.spots.Spot.{Spot}
use Rattle.project_answers.specs.Spots.{spot_of, rising_spots}
use Rattle.project_answers.specs.RowLines.{role_at, row_at, before_row, line_of, count_of, reference_at, lines_of, counts_of, file_lines, file_counts}
use Rattle.project_answers.specs.Wrong.{wrong_lines}

-- a reference that stands is a key of links
pub live_key : (files : List ProjectFile) (r : RefNo) → IsLiveReference files r → IsMember (keys_of (stored files)) (record { 0 = r })
live_key files r (d, has, lt) =
    let model = live_model files r.file d has in
    let below : nat_lt r.index (length (model_at files r.file).references) ≡ true =
    subst (λ m. nat_lt r.index (length m.references) ≡ true) (sym model) (grind (arith, nat_tests, lt)) in
    stands_among (stored files) (λ k. None) (record { 0 = r }) below

-- what its outcome names stands
pub names_live : (files : List ProjectFile) (r : RefNo) → AreFiles (stored files) → IsLiveReference files r → NamesLive files (outcome_of (stored files) r)
names_live files r are live = outcome_live files r are (live_key files r live)

-- its file stands
pub file_live : (files : List ProjectFile) (r : RefNo) → IsLiveReference files r → r.file.0 < length files
file_live files r (d, has, lt) = live_within files r.file d has

-- and it is one of the references of the model there
pub index_live : (files : List ProjectFile) (r : RefNo) → IsLiveReference files r → r.index < length (model_at files r.file).references
index_live files r (d, has, lt) = subst (λ m. r.index < length m.references) (sym (live_model files r.file d has)) lt

-- the role of a reference that was read
pub role_read : (files : List ProjectFile) (r : RefNo) (x : Reference) → slice_get (model_at files r.file).references r.index ≡ Some x
    → x.role ≡ role_at files r
role_read files r x at = sym (ap (λ o. option_map_or (λ (y : Reference). y.role) o Subclass) at)

-- ---- a file whose text is present

-- its text is that of its content
content_text : (files : List ProjectFile) (n : FileNo) (c : Content) → content_at files n ≡ Some c → text_at files n ≡ c.text
content_text files n c at =
    let f = content_file files n c at in
    ap (λ o. option_map_or text_of o []) f.1 ∙ ap (λ o. option_map_or (λ (x : Content). x.text) o []) f.2

-- ---- the rows of a file that is read

-- a reference that stands in a list stands in the model, at its place
standing_at : (n : ℕ) (rs : List Reference) (ps : List ℕ) (s : Standing) → IsMember (standing_from n rs ps) s
    → (i : ℕ) × (s.number ≡ n + i) × (slice_get rs i ≡ Some s.reference) × (slice_get ps i ≡ Some s.place)
standing_at n [] ps s m = absurd m
standing_at n (r ∷ rs) [] s m = absurd m
standing_at n (r ∷ rs) (p ∷ ps) s (inl e) =
    let number = ap (λ (x : Standing). x.number) e in
    (zero, omega (arith, number), ap (λ (x : Standing). Some x.reference) e, ap (λ (x : Standing). Some x.place) e)
standing_at n (r ∷ rs) (p ∷ ps) s (inr m) =
    let t = standing_at (suc n) rs ps s m in let number = t.1 in (suc t.0, omega (arith, number), t.2, t.3)

-- what stands at a place is read there
read_or : (xs : List ℕ) (i x y : ℕ) → slice_get xs i ≡ Some x → get_or xs i y ≡ x
read_or [] i x y e = cc
read_or (z ∷ xs) zero x y e = some_same z x e
read_or (z ∷ xs) (suc i) x y e = read_or xs i x y e

within_get : {A : Type 0} (xs : List A) (i : ℕ) (x : A) → slice_get xs i ≡ Some x → i < length xs
within_get [] i x e = cc
within_get (y ∷ xs) zero x e = omega arith
within_get (y ∷ xs) (suc i) x e = let lt = within_get xs i x e in omega (arith, lt)

-- the spots of a model are of references that stand
pub spots_live : (files : List ProjectFile) (n : FileNo) (d : Data) → HasModel files n d → (ss : List Standing)
    → ((s : Standing) → IsMember ss s → IsMember (standing d) s) → All (λ s. IsLiveReference files (reference_at n s)) (map spot_of ss)
spots_live files n d has ss are = by_members (map spot_of ss) (λ s m. live_spot s (spot_from ss s m)) where
  spot_from : (ss : List Standing) (s : Spot) → IsMember (map spot_of ss) s → (t : Standing) × IsMember ss t × (spot_of t ≡ s)
  spot_from [] s m = absurd m
  spot_from (t ∷ ss) s (inl e) = (t, inl refl, e)
  spot_from (t ∷ ss) s (inr m) = let u = spot_from ss s m in (u.0, inr u.1, u.2)

  live_spot : (s : Spot) → ((t : Standing) × IsMember ss t × (spot_of t ≡ s)) → IsLiveReference files (reference_at n s)
  live_spot s (t, m, e) =
      let at = standing_at 0 d.references d.reference_places t (are t m) in
      let lt = within_get d.references at.0 t.reference at.2 in
      let number = at.1 in
      let below : t.number < length d.references = omega (arith, lt, number) in
      (d, has, subst (λ (u : Spot). u.number < length d.references) e below)

  by_members : {A : Type 0} {P : A → Type 0} (xs : List A) → ((x : A) → IsMember xs x → P x) → All P xs
  by_members [] h k e lt = absurd (omega (arith, lt))
  by_members (x ∷ xs) h zero e lt = h x (inl refl)
  by_members (x ∷ xs) h (suc k) e lt = by_members xs (λ y m. h y (inr m)) k e (omega (arith, lt))

-- the spots of a file that has a model are of references that stand
pub rising_live : (files : List ProjectFile) (n : FileNo) (d : Data) → HasModel files n d
    → All (λ s. IsLiveReference files (reference_at n s)) (rising_spots (model_at files n))
rising_live files n d has =
    subst (λ e. All (λ s. IsLiveReference files (reference_at n s)) (rising_spots e)) (sym (live_model files n d has))
    (spots_live files n d has (rising d) (λ s m. (sorted_same stands_earlier (standing d)).left s m))

module _ (files : List ProjectFile) (n : FileNo) (c : Content) (d : Data) (at : content_at files n ≡ Some c) (reading : c.reading ≡ Reading.Model d)
    (kept : AreFiles (stored files)) where
  has_model : HasModel files n d
  has_model = content_model files n c at ∙ ap (λ r. Some (model_by n (language_of (name_at files n)) r)) reading

  pub model_is : model_at files n ≡ d
  model_is = live_model files n d has_model

  pub own_number : d.file ≡ n
  own_number = by (slice_get (stored files) n.0) refl where
    by : (o : Option StoredFile) → slice_get (stored files) n.0 ≡ o → d.file ≡ n
    by None e = let nothing = sym has_model ∙ ap (option_and_then (λ (x : StoredFile). x.model)) e in absurd (cc)
    by (Some x) e =
        let model : x.model ≡ Some d = sym (ap (option_and_then (λ (y : StoredFile). y.model)) e) ∙ has_model in
        ap (λ k. let number : FileNo = record { 0 = k } in number) (kept.models n.0 x d e model).0

  -- THE ROW of a reference that is read is that of where it stands
  pub row_standing : (s : Standing) → IsMember (standing d) s
      → row_at files (reference_at n (spot_of s)) ≡ link_row (links_over files) c.text d.file s
  row_standing s m =
      let t = standing_at 0 d.references d.reference_places s m in
      let number : s.number ≡ t.0 = t.1 ∙ zero-add t.0 in
      let reference : slice_get d.references s.number ≡ Some s.reference = ap (slice_get d.references) number ∙ t.2 in
      let place : get_or d.reference_places s.number 0 ≡ s.place = ap (λ i. get_or d.reference_places i 0) number
      ∙ read_or d.reference_places t.0 s.place 0 t.3 in
      let role : role_at files (reference_at n (spot_of s)) ≡ s.reference.role =
      ap (λ (e : Data). option_map_or (λ (x : Reference). x.role) (slice_get e.references s.number) Subclass) model_is
      ∙ ap (λ o. option_map_or (λ (x : Reference). x.role) o Subclass) reference in
      let where_at : reference_place files (reference_at n (spot_of s)) ≡ place_of c.text s.place =
      ap (λ (e : Data). place_of (text_at files n) (get_or e.reference_places s.number 0)) model_is
      ∙ (ap (λ text. place_of text (get_or d.reference_places s.number 0)) (content_text files n c at) ∙ ap (place_of c.text) place) in
      ap (λ r. row n r (reference_place files (reference_at n (spot_of s)))) role
      ∙ (ap (λ p. row n s.reference.role p) where_at ∙ ap (λ f. row f s.reference.role (place_of c.text s.place)) (sym own_number))
    where
      row : FileNo → Role → Place → LinkRow
      row f role place = record {
        reference = record { file = f; index = s.number };
        role = role;
        place = place;
        outcome = outcome_of (stored files) (record { file = f; index = s.number });
      }

  -- all rows, one line after the other
  all_lines : (ss : List Standing) → ((s : Standing) → IsMember ss s → IsMember (standing d) s)
      → lines_of Everything files n (map spot_of ss)
      ≡ flat_map (λ row. row_text files row ++ codes "\n") (map (link_row (links_over files) c.text d.file) ss)
  all_lines [] are = refl
  all_lines (s ∷ ss) are =
      ap (λ row. (row_text files row ++ codes "\n") ++ lines_of Everything files n (map spot_of ss)) (row_standing s (are s (inl refl)))
      ∙ ap (λ bs. (row_text files (link_row (links_over files) c.text d.file s) ++ codes "\n") ++ bs) (all_lines ss (λ t m. are t (inr m)))

  all_counts : (ss : List Standing) → counts_of Everything files n (map spot_of ss) ≡ length (map (link_row (links_over files) c.text d.file) ss)
  all_counts [] = refl
  all_counts (s ∷ ss) = let more = all_counts ss in omega (arith, more)

  -- what is wrong with the file of this name, one line after the other
  wrong_rows : (name : List ℕ) → name_at files d.file ≡ name → (ss : List Standing)
      → ((s : Standing) → IsMember ss s → IsMember (standing d) s)
      → let rows = map (Link name) (those_where (λ row. not (is_linked row.outcome)) (map (link_row (links_over files) c.text d.file) ss)) in
      (lines_of Faults files n (map spot_of ss) ≡ wrong_lines files rows) × (counts_of Faults files n (map spot_of ss) ≡ length rows)
  wrong_rows name named [] are = (refl, refl)
  wrong_rows name named (s ∷ ss) are =
      let rest = wrong_rows name named ss (λ t m. are t (inr m)) in
      let more = those_where (λ row. not (is_linked row.outcome)) (map (link_row (links_over files) c.text d.file) ss) in
      let row = link_row (links_over files) c.text d.file s in
      let is = row_standing s (are s (inl refl)) in (
        ap (λ r. line_of Faults files r ++ lines_of Faults files n (map spot_of ss)) is
            ∙ (ap (λ bs. line_of Faults files row ++ bs) rest.0 ∙ line_by row more named (not (is_linked row.outcome))),
        ap (λ r. count_of Faults r + counts_of Faults files n (map spot_of ss)) is
            ∙ (ap (λ k. count_of Faults row + k) rest.1 ∙ count_by row more (not (is_linked row.outcome))),
      )
    where
      line_by : (row : LinkRow) (more : List LinkRow) → name_at files row.reference.file ≡ name → (b : Bool)
          → cond b (before_row Faults files row ++ row_text files row ++ codes "\n") [] ++ wrong_lines files (map (Link name) more)
          ≡ wrong_lines files (map (Link name) (chosen b row more))
      line_by row more here true =
          ap (λ (front : List ℕ). front ++ codes ":" ++ row_text files row ++ codes "\n" ++ wrong_lines files (map (Link name) more)) here
      line_by row more here false = refl

      count_by : (row : LinkRow) (more : List LinkRow) (b : Bool) → cond b 1 0 + length (map (Link name) more) ≡ length (map (Link name) (chosen b row more))
      count_by row more true = omega arith
      count_by row more false = omega arith

  -- ALL ROWS of the file
  pub rows_all : (file_lines Everything files n ≡ flat_map (λ row. row_text files row ++ codes "\n") (rows_of (links_over files) c))
      × (file_counts Everything files n ≡ length (rows_of (links_over files) c))
  rows_all =
      let rows : rows_of (links_over files) c ≡ rows_in (links_over files) c.text d = ap (rows_by (links_over files) c.text) reading in
      let among = λ (s : Standing) (m : IsMember (rising d) s). (sorted_same stands_earlier (standing d)).left s m in (
        ap (λ (e : Data). lines_of Everything files n (rising_spots e)) model_is
            ∙ (all_lines (rising d) among ∙ ap (flat_map (λ row. row_text files row ++ codes "\n")) (sym rows)),
        ap (λ (e : Data). counts_of Everything files n (rising_spots e)) model_is ∙ (all_counts (rising d) ∙ ap length (sym rows)),
      )

  -- WHAT IS WRONG with the rows of the file
  pub rows_wrong : (name : List ℕ) → name_at files n ≡ name
      → let rows = faults_by (links_over files) name c.text c.reading in
      (file_lines Faults files n ≡ wrong_lines files rows) × (file_counts Faults files n ≡ length rows)
  rows_wrong name named =
      let rows : faults_by (links_over files) name c.text c.reading ≡ faults_by (links_over files) name c.text (Reading.Model d) =
      ap (faults_by (links_over files) name c.text) reading in
      let among = λ (s : Standing) (m : IsMember (rising d) s). (sorted_same stands_earlier (standing d)).left s m in
      let wrong = wrong_rows name (ap (name_at files) own_number ∙ named) (rising d) among in (
        ap (λ (e : Data). lines_of Faults files n (rising_spots e)) model_is ∙ (wrong.0 ∙ ap (wrong_lines files) (sym rows)),
        ap (λ (e : Data). counts_of Faults files n (rising_spots e)) model_is ∙ (wrong.1 ∙ ap length (sym rows)),
      )

-- a file with a fault has no rows
pub no_rows : (listing : Listing) (files : List ProjectFile) (n : FileNo) (c : Content) (fault : FileFault) → content_at files n ≡ Some c
    → c.reading ≡ Reading.Fault fault → (file_lines listing files n ≡ []) × (file_counts listing files n ≡ 0)
no_rows listing files n c fault at reading =
    let bare : model_at files n ≡ bare_model n (language_of (name_at files n)) =
    live_model files n (bare_model n (language_of (name_at files n)))
    (content_model files n c at ∙ ap (λ r. Some (model_by n (language_of (name_at files n)) r)) reading) in (
      ap (λ (e : Data). lines_of listing files n (rising_spots e)) bare,
      ap (λ (e : Data). counts_of listing files n (rising_spots e)) bare,
    )

-- a row that was made of its parts
pub row_made : (files : List ProjectFile) (r : RefNo) (role : Role) (place : Place) (outcome : Outcome) → role ≡ role_at files r
    → place ≡ reference_place files r → outcome ≡ outcome_of (stored files) r
    → record { reference = r; role = role; place = place; outcome = outcome } ≡ row_at files r
row_made files r role place outcome a b c = λ i. record { reference = r; role = a i; place = b i; outcome = c i }
