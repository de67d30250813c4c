-- Rows, faults and names of the files of a book, listed one after the other.
use Rattle.std.proofs.Common.{◌≡◌, ◌∙◌, ℕ, ◌+◌, ◌<◌, Bool, true, false, not, cond, List, [], ◌∷◌, ◌++◌, length, map, take, get_or, refl, sym, ap, subst, inl, inr, append-nil}
use Rattle.std.proofs.lemmas.List.Elements.{All-append, All-cons, All-head, All-nil, All-tail}
use Rattle.std.specs.Prelude.{All, IfOk, Option, Some, None, Result, Ok, Err}
use Rattle.std.specs.List.{flat_map}
use Rattle.std.specs.Option.{option_map}
use Rattle.linker_base.specs.Members.{IsMember}
use Rattle.element_store.specs.declared.numbers.FileNo.{FileNo}
use Rattle.element_store.specs.Model.{Data, bare_model}
use Rattle.element_store.specs.Numbers.{chosen, those_where}
use Rattle.element_store.specs.Stored.{AreFiles}
use Rattle.text_model.specs.declared.fault.FileFault.{FileFault}
use Rattle.book_model.specs.declared.rows.FaultRow.{FaultRow}
use Rattle.book_model.specs.declared.rows.FaultRow.TheVariants.{File, Link}
use Rattle.book_model.specs.declared.rows.FileReport.TheVariants.{In, Refused}
use Rattle.book_model.specs.declared.rows.LinkRow.{LinkRow}
use Rattle.book_model.specs.declared.rows.Place.{Place}
use Rattle.book_model.specs.Files.{Content, Present, ProjectFile, content_under, model_at, name_at, ranked, stored}
use Rattle.book_model.specs.Live.{HasModel, IsLiveReference}
use Rattle.book_model.specs.Places.{place_of}
use Rattle.book_model.specs.Queries.{faults_query, links_over, names_query}
use Rattle.book_model.specs.Readings.{Reading, fault_place, language_of, model_by}
use Rattle.book_model.specs.Rows.{Standing, faults_by, is_linked, link_row, report_of, rising, rows_by, rows_of, standing, stands_earlier}
use Rattle.book_model.proofs.SortingLaws.{sorted_same}
use Rattle.project_files.specs.Kept.{content_at}
use Rattle.project_files.proofs.KeptLaws.{live_model}
use Rattle.project_book.specs.Named.{IsOwn}
use Rattle.project_answers.specs.Holds.{IsPresentAt}
use Rattle.project_answers.specs.declared.spots.Spot.{Spot}
use Rattle.project_answers.specs.RowLines.{reference_at}
use Rattle.project_answers.specs.Spots.{rising_spots, spot_of}
use Rattle.project_answers.specs.Wrong.{present_at, presents, wrong_at, wrong_with}
use Rattle.project_answers.proofs.PartLaws.{more_at, told_both}
use Rattle.project_book.proofs.PrintLaws.{content_model}
use Rattle.project_answers.proofs.RowLaws.{model_is, names_live, rising_live, row_standing}
use Rattle.project_answers.proofs.WrongLaws.{no_content, present_is, present_isnt, read_content, refused_content, wrong_all, wrong_is}
use Rattle.linked_project.specs.Listed.{IsLiveFault, IsLiveRow, present_names, rows_at, spot_row, wrong_row, wrong_rows_at, wrong_spot}

-- ---- one item after the other

map_last : {X Y : Type 0} (f : X → Y) (ys : List X) (y : X) → map f (ys ++ y ∷ []) ≡ map f ys ++ f y ∷ []
map_last f [] y = refl
map_last f (z ∷ ys) y = ap (λ zs. f z ∷ zs) (map_last f ys y)

-- the first items, and one more
pub mapped_more : {X Y : Type 0} (f : X → Y) (xs : List X) (i : ℕ) (d : X) → i < length xs
    → map f (take (i + 1) xs) ≡ map f (take i xs) ++ f (get_or xs i d) ∷ []
mapped_more f xs i d lt = ap (map f) (more_at xs i d lt) ∙ map_last f (take i xs) (get_or xs i d)

-- what they tell
pub told_more : {X A : Type 0} (f : X → List A) (xs : List X) (i : ℕ) (d : X) → i < length xs
    → flat_map f (take (i + 1) xs) ≡ flat_map f (take i xs) ++ f (get_or xs i d)
told_more f xs i d lt =
    ap (flat_map f) (more_at xs i d lt) ∙ (told_both f (take i xs) (get_or xs i d ∷ []) ∙ ap (λ ys. flat_map f (take i xs) ++ ys) (append-nil _))

-- ---- the file under a name

-- what the book holds under the name is the content of its file
pub content_same : (files : List ProjectFile) (name : List ℕ) (n : FileNo) → IsPresentAt files name (Some n) → content_under files name ≡ content_at files n
content_same files name n (c, under, at) = under ∙ sym at

-- ---- the rows of a file

module _ (files : List ProjectFile) (n : FileNo) (c : Content) (at : content_at files n ≡ Some c) where
  -- of one that is read
  module _ (d : Data) (reading : c.reading ≡ Reading.Model d) (kept : AreFiles (stored files)) where
    among : (s : Standing) → IsMember (rising d) s → IsMember (standing d) s
    among s m = (sorted_same stands_earlier (standing d)).left s m

    standing_rows : (ss : List Standing) → ((s : Standing) → IsMember ss s → IsMember (standing d) s)
        → map (spot_row files n) (map spot_of ss) ≡ map (link_row (links_over files) c.text d.file) ss
    standing_rows [] are = refl
    standing_rows (s ∷ ss) are =
        ap (λ row. row ∷ map (spot_row files n) (map spot_of ss)) (row_standing files n c d at reading kept s (are s (inl refl)))
        ∙ ap (λ rows. link_row (links_over files) c.text d.file s ∷ rows) (standing_rows ss (λ t m. are t (inr m)))

    pub read_rows : rows_at files n ≡ rows_of (links_over files) c
    read_rows =
        ap (λ (e : Data). map (spot_row files n) (rising_spots e)) (model_is files n c d at reading kept)
        ∙ (standing_rows (rising d) among ∙ sym (ap (rows_by (links_over files) c.text) reading))

    -- what is wrong with it
    wrong_standing : (ss : List Standing) → ((s : Standing) → IsMember ss s → IsMember (standing d) s)
        → flat_map (wrong_spot files n) (map spot_of ss)
        ≡ map (Link (name_at files n)) (those_where (λ row. not (is_linked row.outcome)) (map (link_row (links_over files) c.text d.file) ss))
    wrong_standing [] are = refl
    wrong_standing (s ∷ ss) are =
        ap (λ row. wrong_row (name_at files n) row ++ flat_map (wrong_spot files n) (map spot_of ss))
        (row_standing files n c d at reading kept s (are s (inl refl)))
        ∙ (ap (λ rows. wrong_row (name_at files n) (link_row (links_over files) c.text d.file s) ++ rows) (wrong_standing ss (λ t m. are t (inr m)))
        ∙ by (link_row (links_over files) c.text d.file s) (is_linked (link_row (links_over files) c.text d.file s).outcome)
        (those_where (λ row. not (is_linked row.outcome)) (map (link_row (links_over files) c.text d.file) ss)))
      where
        by : (row : LinkRow) (linked : Bool) (more : List LinkRow) → cond linked [] (Link (name_at files n) row ∷ []) ++ map (Link (name_at files n)) more
            ≡ map (Link (name_at files n)) (chosen (not linked) row more)
        by row true more = refl
        by row false more = refl

    pub read_wrong : wrong_rows_at files n ≡ faults_by (links_over files) (name_at files n) c.text c.reading
    read_wrong =
        ap (λ (e : Data). flat_map (wrong_spot files n) (rising_spots e)) (model_is files n c d at reading kept)
        ∙ (wrong_standing (rising d) among ∙ sym (ap (faults_by (links_over files) (name_at files n) c.text) reading))

  -- one with a fault has none
  pub refused_rows : (fault : FileFault) → c.reading ≡ Reading.Fault fault → rows_at files n ≡ rows_of (links_over files) c
  refused_rows fault reading =
      let bare : model_at files n ≡ bare_model n (language_of (name_at files n)) =
      live_model files n (bare_model n (language_of (name_at files n)))
      (content_model files n c at ∙ ap (λ r. Some (model_by n (language_of (name_at files n)) r)) reading) in
      ap (λ (e : Data). map (spot_row files n) (rising_spots e)) bare ∙ sym (ap (rows_by (links_over files) c.text) reading)

-- LINKS: the rows of the references at the spots of a file are those of its content
pub rows_listed : {E : Type 0} (files : List ProjectFile) (n : FileNo) (r : Result (List LinkRow) E) → AreFiles (stored files)
    → ((c : Content) × (content_at files n ≡ Some c)) → IfOk r (λ rows. rows ≡ rows_at files n)
    → IfOk r (λ rows. Some rows ≡ option_map (rows_of (links_over files)) (content_at files n))
rows_listed files n (Err e) kept (c, at) is = tt
rows_listed files n (Ok rows) kept (c, at) is =
    ap (λ rs. Some rs) (is ∙ by c.reading refl) ∙ sym (ap (option_map (rows_of (links_over files))) at) where
      by : (r : Reading) → c.reading ≡ r → rows_at files n ≡ rows_of (links_over files) c
      by (Reading.Model d) e = read_rows files n c at d e kept
      by (Reading.Fault fault) e = refused_rows files n c at fault e

-- such a file has a model
pub content_has : (files : List ProjectFile) (n : FileNo) → ((c : Content) × (content_at files n ≡ Some c)) → (d : Data) × HasModel files n d
content_has files n (c, at) = (model_by n (language_of (name_at files n)) c.reading, content_model files n c at)

-- ---- what is wrong with a file

-- nothing where its text is gone
pub gone_wrong : (files : List ProjectFile) (n : FileNo) → None ≡ option_map report_of (content_at files n) → wrong_at files n ≡ []
gone_wrong files n none = ap (flat_map (wrong_with files)) (present_isnt files n (no_content (content_at files n) none))

-- its fault
pub fault_wrong : (files : List ProjectFile) (n : FileNo) (fault : FileFault) (place : Place) → IsOwn files n
    → Some (Refused fault place) ≡ option_map report_of (content_at files n) → File (name_at files n) fault place ∷ [] ≡ wrong_at files n
fault_wrong files n fault place own report =
    let c = refused_content (content_at files n) fault place report in
    sym (wrong_is files n c.0 own c.1
    ∙ (ap (faults_by (links_over files) (name_at files n) c.0.text) c.2 ∙ ap (λ p. File (name_at files n) fault p ∷ []) (sym c.3)))

-- or its rows that aren't linked
pub rows_wrong : (files : List ProjectFile) (n : FileNo) (elements references : ℕ) → IsOwn files n → AreFiles (stored files)
    → Some (In elements references) ≡ option_map report_of (content_at files n) → wrong_rows_at files n ≡ wrong_at files n
rows_wrong files n elements references own kept report =
    let c = read_content (content_at files n) elements references report in
    read_wrong files n c.0 c.1 c.2 c.3 kept ∙ sym (wrong_is files n c.0 own c.1)

-- FAULTS: what is wrong with files in their order
pub faults_listed : {E : Type 0} (files : List ProjectFile) (order : List FileNo) (r : Result (List FaultRow) E) → presents files order ≡ ranked files
    → IfOk r (λ rows. rows ≡ flat_map (wrong_at files) order) → IfOk r (λ rows. rows ≡ faults_query files)
faults_listed files order (Ok rows) ranks is = is ∙ (sym (wrong_all files order) ∙ ap (flat_map (wrong_with files)) ranks)
faults_listed files order (Err e) ranks is = tt

-- ---- names

-- a file that is present has a name
pub named_one : (files : List ProjectFile) (n : FileNo) (size : ℕ) → IsOwn files n
    → Some size ≡ option_map (λ c. length c.text) (content_at files n) → name_at files n ∷ [] ≡ present_names files n
named_one files n size own is = by (content_at files n) refl is where
  by : (o : Option Content) → content_at files n ≡ o → Some size ≡ option_map (λ (c : Content). length c.text) o
      → name_at files n ∷ [] ≡ present_names files n
  by None e some = absurd (cc)
  by (Some c) e some = sym (ap (map (λ (p : Present). p.name)) (present_is files n c own e))

-- and one that isn't has none
pub named_none : (files : List ProjectFile) (n : FileNo) → None ≡ option_map (λ c. length c.text) (content_at files n) → present_names files n ≡ []
named_none files n is = by (content_at files n) refl is where
  by : (o : Option Content) → content_at files n ≡ o → None ≡ option_map (λ (c : Content). length c.text) o → present_names files n ≡ []
  by None e none = ap (map (λ (p : Present). p.name)) (present_isnt files n e)
  by (Some c) e none = absurd (cc)

-- NAMES of files in their order
presents_names : (files : List ProjectFile) (ns : List FileNo) → map (λ (p : Present). p.name) (presents files ns) ≡ flat_map (present_names files) ns
presents_names files [] = refl
presents_names files (n ∷ ns) =
    both (present_at files n) (presents files ns) ∙ ap (λ zs. present_names files n ++ zs) (presents_names files ns) where
      both : (xs ys : List Present) → map (λ (p : Present). p.name) (xs ++ ys) ≡ map (λ (p : Present). p.name) xs ++ map (λ (p : Present). p.name) ys
      both [] ys = refl
      both (x ∷ xs) ys = ap (λ zs. x.name ∷ zs) (both xs ys)

pub names_listed : {E : Type 0} (files : List ProjectFile) (order : List FileNo) (r : Result (List (List ℕ)) E) → presents files order ≡ ranked files
    → IfOk r (λ names. names ≡ flat_map (present_names files) order) → IfOk r (λ names. names ≡ names_query files)
names_listed files order (Ok names) ranks is = is ∙ (sym (presents_names files order) ∙ ap (map (λ (p : Present). p.name)) ranks)
names_listed files order (Err e) ranks is = tt

-- ---- what rows name stands

-- a row of a reference that stands
row_live : (files : List ProjectFile) (n : FileNo) (s : Spot) → AreFiles (stored files) → IsLiveReference files (reference_at n s)
    → IsLiveRow files (spot_row files n s)
row_live files n s kept live = (live, names_live files (reference_at n s) kept live)

spots_rows_live : (files : List ProjectFile) (n : FileNo) (ss : List Spot) → AreFiles (stored files) → All (λ s. IsLiveReference files (reference_at n s)) ss
    → All (IsLiveRow files) (map (spot_row files n) ss)
spots_rows_live files n [] kept all = All-nil (IsLiveRow files)
spots_rows_live files n (s ∷ ss) kept all =
    All-cons (IsLiveRow files) (spot_row files n s) (map (spot_row files n) ss)
    (row_live files n s kept (All-head (λ x. IsLiveReference files (reference_at n x)) s ss all))
    (spots_rows_live files n ss kept (All-tail (λ x. IsLiveReference files (reference_at n x)) s ss all))

-- the rows of a file that has a model
pub rows_live : {E : Type 0} (files : List ProjectFile) (n : FileNo) (r : Result (List LinkRow) E) → AreFiles (stored files)
    → ((d : Data) × HasModel files n d) → IfOk r (λ rows. rows ≡ rows_at files n) → IfOk r (λ rows. All (IsLiveRow files) rows)
rows_live files n (Err e) kept has is = tt
rows_live files n (Ok rows) kept (d, has) is =
    subst (All (IsLiveRow files)) (sym is) (spots_rows_live files n (rising_spots (model_at files n)) kept (rising_live files n d has))

spots_wrong_live : (files : List ProjectFile) (n : FileNo) (ss : List Spot) → AreFiles (stored files) → All (λ s. IsLiveReference files (reference_at n s)) ss
    → All (IsLiveFault files) (flat_map (wrong_spot files n) ss)
spots_wrong_live files n [] kept all = All-nil (IsLiveFault files)
spots_wrong_live files n (s ∷ ss) kept all =
    All-append (IsLiveFault files) (wrong_spot files n s) (flat_map (wrong_spot files n) ss)
    (one (spot_row files n s) (row_live files n s kept (All-head (λ x. IsLiveReference files (reference_at n x)) s ss all))
    (is_linked (spot_row files n s).outcome))
    (spots_wrong_live files n ss kept (All-tail (λ x. IsLiveReference files (reference_at n x)) s ss all))
  where
    one : (row : LinkRow) → IsLiveRow files row → (linked : Bool) → All (IsLiveFault files) (cond linked [] (Link (name_at files n) row ∷ []))
    one row live true = All-nil (IsLiveFault files)
    one row live false = All-cons (IsLiveFault files) (Link (name_at files n) row) [] live (All-nil (IsLiveFault files))

-- what is wrong with a file
wrong_live : (files : List ProjectFile) (n : FileNo) → IsOwn files n → AreFiles (stored files)
    → All (IsLiveFault files) (wrong_at files n)
wrong_live files n own kept = by (content_at files n) refl where
  by : (o : Option Content) → content_at files n ≡ o → All (IsLiveFault files) (wrong_at files n)
  by None e =
      subst (All (IsLiveFault files)) (sym (gone_wrong files n (sym (ap (option_map report_of) e)))) (All-nil (IsLiveFault files))
  by (Some c) e = read c.reading refl where
    read : (r : Reading) → c.reading ≡ r → All (IsLiveFault files) (wrong_at files n)
    read (Reading.Model d) is =
        subst (All (IsLiveFault files)) (read_wrong files n c e d is kept ∙ sym (wrong_is files n c own e))
        (spots_wrong_live files n (rising_spots (model_at files n)) kept
        (rising_live files n (model_by n (language_of (name_at files n)) c.reading) (content_model files n c e)))
    read (Reading.Fault fault) is =
        subst (All (IsLiveFault files)) (sym (wrong_is files n c own e ∙ ap (faults_by (links_over files) (name_at files n) c.text) is))
        (All-cons (IsLiveFault files) (File (name_at files n) fault (place_of c.text (fault_place fault))) [] tt (All-nil (IsLiveFault files)))

-- what is wrong with files in their order
pub faults_live : {E : Type 0} (files : List ProjectFile) (order : List FileNo) (r : Result (List FaultRow) E) → All (IsOwn files) order
    → AreFiles (stored files) → IfOk r (λ rows. rows ≡ flat_map (wrong_at files) order) → IfOk r (λ rows. All (IsLiveFault files) rows)
faults_live files order (Err e) own kept is = tt
faults_live files order (Ok rows) own kept is = subst (All (IsLiveFault files)) (sym is) (all order own) where
  all : (ns : List FileNo) → All (IsOwn files) ns → All (IsLiveFault files) (flat_map (wrong_at files) ns)
  all [] own = All-nil (IsLiveFault files)
  all (n ∷ ns) own =
      All-append (IsLiveFault files) (wrong_at files n) (flat_map (wrong_at files) ns) (wrong_live files n (All-head (IsOwn files) n ns own) kept)
      (all ns (All-tail (IsOwn files) n ns own))
