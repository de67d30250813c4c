-- What is wrong with the files of a book, one file after the other.
use Rattle.std.proofs.Common.{◌≡◌, ◌∙◌, ℕ, ◌+◌, ◌*◌, ◌<◌, ◌≤◌, Bool, true, false, List, [], ◌∷◌, ◌++◌, length, map, take, get_or, refl, sym, ap, arith, append-nil}
use Rattle.std.proofs.Math.Seq.{take-length}
use Rattle.std.specs.Prelude.{codes, IfSome, Option, Some, None, slice_get}
use Rattle.std.specs.List.{flat_map}
use Rattle.std.specs.Option.{option_and_then, option_map, option_map_or}
use Rattle.element_store.specs.declared.numbers.FileNo.{FileNo}
use Rattle.element_store.specs.Stored.{AreFiles}
use Rattle.text_model.specs.declared.fault.FileFault.{FileFault}
use Rattle.book_model.specs.declared.rows.FaultRow.TheVariants.{File}
use Rattle.book_model.specs.declared.rows.FileReport.{FileReport}
use Rattle.book_model.specs.declared.rows.FileReport.TheVariants.{In, Refused}
use Rattle.book_model.specs.declared.rows.Place.{Place}
use Rattle.book_model.specs.Answers.{references_in}
use Rattle.book_model.specs.Files.{Content, Present, ProjectFile, name_at, present_by, stored}
use Rattle.book_model.specs.Live.{HasModel}
use Rattle.book_model.specs.Places.{place_of}
use Rattle.book_model.specs.Printed.{fault_row_text}
use Rattle.book_model.specs.Queries.{links_over}
use Rattle.book_model.specs.Readings.{Reading, fault_place, language_of, model_by}
use Rattle.book_model.specs.Rows.{faults_by, report_by, report_of}
use Rattle.element_store.specs.Model.{Data}
use Rattle.project_files.specs.Kept.{content_at}
use Rattle.project_book.specs.Named.{IsOwn}
use Rattle.project_answers.specs.declared.rows.Listing.TheVariants.{Faults}
use Rattle.project_answers.specs.declared.lines.Counts.{Counts}
use Rattle.project_answers.specs.Lines.{counts_with}
use Rattle.project_answers.specs.Parts.{sum_of}
use Rattle.project_answers.specs.RowLines.{file_lines, file_counts}
use Rattle.project_answers.specs.Wrong.{present_at, presents, wrong_with, wrong_lines, wrong_at, wrong_lines_at, wrong_count_at, lines_at}
use Rattle.project_answers.proofs.PartLaws.{told_both, more_at}
use Rattle.project_book.proofs.PrintLaws.{content_file, content_model}
use Rattle.project_answers.proofs.RowLaws.{rows_wrong}

-- ---- the present file at a number

-- the file of a content is present
pub present_is : (files : List ProjectFile) (n : FileNo) (c : Content) → IsOwn files n → content_at files n ≡ Some c
    → present_at files n ≡ record { name = name_at files n; content = c } ∷ []
present_is files n c own at =
    let f = content_file files n c at in
    let name : f.0.name ≡ name_at files n = sym (ap (λ o. option_map_or (λ (g : ProjectFile). g.name) o []) f.1) in
    ap (λ o. option_map_or (λ (g : ProjectFile). present_by g.name g.library g.content) o []) f.1
    ∙ (ap (λ b. present_by f.0.name b f.0.content) (own f.0 f.1)
    ∙ (ap (present_by f.0.name false) f.2 ∙ ap (λ name. record { name = name; content = c } ∷ []) name))

-- one without a content isn't
pub present_isnt : (files : List ProjectFile) (n : FileNo) → content_at files n ≡ None → present_at files n ≡ []
present_isnt files n none = by (slice_get files n.0) refl where
  gone : (name : List ℕ) (library : Bool) (c : Option Content) → c ≡ None → present_by name library c ≡ []
  gone name true c e = refl
  gone name false None e = refl
  gone name false (Some c) e = absurd (cc)

  by : (o : Option ProjectFile) → slice_get files n.0 ≡ o → present_at files n ≡ []
  by None e = ap (λ o. option_map_or (λ (g : ProjectFile). present_by g.name g.library g.content) o []) e
  by (Some f) e =
      let content : f.content ≡ None = sym (ap (option_and_then (λ (g : ProjectFile). g.content)) e) ∙ none in
      ap (λ o. option_map_or (λ (g : ProjectFile). present_by g.name g.library g.content) o []) e ∙ gone f.name f.library f.content content

-- ---- what a report tells

-- a file without a report has no content
pub no_content : (o : Option Content) → None ≡ option_map report_of o → o ≡ None
no_content None e = refl
no_content (Some c) e = absurd (cc)

-- a report that tells numbers is of a text that is read
pub read_content : (o : Option Content) (elements references : ℕ) → Some (In elements references) ≡ option_map report_of o
    → (c : Content) × (o ≡ Some c) × (d : Data) × (c.reading ≡ Reading.Model d)
read_content None elements references e = absurd (cc)
read_content (Some c) elements references e = by c.reading refl where
  by : (r : Reading) → c.reading ≡ r → (x : Content) × (Some c ≡ Some x) × (d : Data) × (x.reading ≡ Reading.Model d)
  by (Reading.Model d) is = (c, refl, d, is)
  by (Reading.Fault fault) is = let both = e ∙ ap (λ r. Some (report_by c.text r)) is in absurd (cc)

-- one that tells a fault is of a text with this fault there
pub refused_content : (o : Option Content) (fault : FileFault) (place : Place) → Some (Refused fault place) ≡ option_map report_of o
    → (c : Content) × (o ≡ Some c) × (c.reading ≡ Reading.Fault fault) × (place ≡ place_of c.text (fault_place fault))
refused_content None fault place e = absurd (cc)
refused_content (Some c) fault place e = by c.reading refl where
  by : (r : Reading) → c.reading ≡ r
      → (x : Content) × (Some c ≡ Some x) × (x.reading ≡ Reading.Fault fault) × (place ≡ place_of x.text (fault_place fault))
  by (Reading.Model d) is = let both = e ∙ ap (λ r. Some (report_by c.text r)) is in absurd (cc)
  by (Reading.Fault other) is =
      let both : Some (Refused fault place) ≡ Some (Refused other (place_of c.text (fault_place other))) = e ∙ ap (λ r. Some (report_by c.text r)) is in
      let same : fault ≡ other = cc in
      let there : place ≡ place_of c.text (fault_place other) = cc in
      (c, refl, is ∙ ap Reading.Fault (sym same), there ∙ ap (λ f. place_of c.text (fault_place f)) (sym same))

-- ---- what is wrong with a file

-- what is wrong with the file of a content
pub wrong_is : (files : List ProjectFile) (n : FileNo) (c : Content) → IsOwn files n → content_at files n ≡ Some c
    → wrong_at files n ≡ faults_by (links_over files) (name_at files n) c.text c.reading
wrong_is files n c own at = ap (flat_map (wrong_with files)) (present_is files n c own at) ∙ append-nil _

-- nothing where its text is gone
pub wrong_none : (files : List ProjectFile) (n : FileNo) → None ≡ option_map report_of (content_at files n)
    → (wrong_lines_at files n ≡ []) × (wrong_count_at files n ≡ 0)
wrong_none files n none =
    let wrong : wrong_at files n ≡ [] = ap (flat_map (wrong_with files)) (present_isnt files n (no_content (content_at files n) none)) in
    (ap (wrong_lines files) wrong, ap length wrong)

-- its refusal
pub wrong_refused : (files : List ProjectFile) (n : FileNo) (fault : FileFault) (place : Place) → IsOwn files n
    → Some (Refused fault place) ≡ option_map report_of (content_at files n)
    → (fault_row_text files (File (name_at files n) fault place) ++ codes "\n" ≡ wrong_lines_at files n) × (1 ≡ wrong_count_at files n)
wrong_refused files n fault place own report =
    let c = refused_content (content_at files n) fault place report in
    let wrong : wrong_at files n ≡ File (name_at files n) fault place ∷ [] =
    wrong_is files n c.0 own c.1
    ∙ (ap (faults_by (links_over files) (name_at files n) c.0.text) c.2 ∙ ap (λ p. File (name_at files n) fault p ∷ []) (sym c.3)) in
    (sym (ap (wrong_lines files) wrong ∙ append-nil _), sym (ap length wrong))

-- or its rows
pub wrong_read : (files : List ProjectFile) (n : FileNo) (elements references : ℕ) → IsOwn files n → AreFiles (stored files)
    → Some (In elements references) ≡ option_map report_of (content_at files n)
    → (file_lines Faults files n ≡ wrong_lines_at files n) × (file_counts Faults files n ≡ wrong_count_at files n)
wrong_read files n elements references own kept report =
    let c = read_content (content_at files n) elements references report in
    let wrong = wrong_is files n c.0 own c.1 in
    let rows = rows_wrong files n c.0 c.2 c.1 c.3 kept (name_at files n) refl in
    (rows.0 ∙ ap (wrong_lines files) (sym wrong), rows.1 ∙ ap length (sym wrong))

-- a file with such a report has a model
pub report_model : (files : List ProjectFile) (n : FileNo) (elements references : ℕ)
    → Some (In elements references) ≡ option_map report_of (content_at files n) → (d : Data) × HasModel files n d
report_model files n elements references report =
    let c = read_content (content_at files n) elements references report in
    (model_by n (language_of (name_at files n)) c.0.reading, content_model files n c.0 c.1)

-- ---- all files

-- what is wrong with files, file after file
pub wrong_all : (files : List ProjectFile) (ns : List FileNo) → flat_map (wrong_with files) (presents files ns) ≡ flat_map (wrong_at files) ns
wrong_all files [] = refl
wrong_all files (n ∷ ns) =
    told_both (wrong_with files) (present_at files n) (presents files ns) ∙ ap (λ rows. wrong_at files n ++ rows) (wrong_all files ns)

lines_all : (files : List ProjectFile) (ns : List FileNo) → wrong_lines files (flat_map (wrong_at files) ns) ≡ lines_at files ns
lines_all files [] = refl
lines_all files (n ∷ ns) =
    told_both (λ row. fault_row_text files row ++ codes "\n") (wrong_at files n) (flat_map (wrong_at files) ns)
    ∙ ap (λ bs. wrong_lines_at files n ++ bs) (lines_all files ns)

long_all : (files : List ProjectFile) (ns : List FileNo) → length (flat_map (wrong_at files) ns) ≡ sum_of (wrong_count_at files) ns
long_all files [] = refl
long_all files (n ∷ ns) = longer (wrong_at files n) (flat_map (wrong_at files) ns) ∙ ap (λ k. wrong_count_at files n + k) (long_all files ns) where
  longer : {A : Type 0} (xs ys : List A) → length (xs ++ ys) ≡ length xs + length ys
  longer [] ys = omega arith
  longer (x ∷ xs) ys = let more = longer xs ys in omega (arith, more)

-- WHAT IS WRONG with the present files, in their lines and in how many they are
pub wrong_lines_all : (files : List ProjectFile) (ns : List FileNo) → wrong_lines files (flat_map (wrong_with files) (presents files ns)) ≡ lines_at files ns
wrong_lines_all files ns = ap (wrong_lines files) (wrong_all files ns) ∙ lines_all files ns

pub wrong_count_all : (files : List ProjectFile) (ns : List FileNo)
    → length (flat_map (wrong_with files) (presents files ns)) ≡ sum_of (wrong_count_at files) ns
wrong_count_all files ns = ap length (wrong_all files ns) ∙ long_all files ns

-- ---- how many files and references there are

-- so many files were gone through, and counted
pub record AreCounted (files : List ProjectFile) (ns : List FileNo) (i count references : ℕ) : Type 0 where
  pub files_are : count ≡ length (presents files (take i ns))
  pub references_are : references ≡ references_in (map (λ p. report_of p.content) (presents files (take i ns)))
  pub few : count ≤ i
  pub most : references ≤ i * 4294967296

pub counted_none : (files : List ProjectFile) (ns : List FileNo) → AreCounted files ns 0 0 0
counted_none files ns = record { files_are = refl; references_are = refl; few = omega arith; most = omega arith }

references_both : (xs ys : List FileReport) → references_in (xs ++ ys) ≡ references_in xs + references_in ys
references_both [] ys = omega arith
references_both (In elements references ∷ xs) ys = let more = references_both xs ys in omega (arith, more)
references_both (Refused fault place ∷ xs) ys = references_both xs ys

-- the present files of one number more
counted_next : (files : List ProjectFile) (ns : List FileNo) (i : ℕ) (d : FileNo) → i < length ns
    → presents files (take (i + 1) ns) ≡ presents files (take i ns) ++ present_at files (get_or ns i d)
counted_next files ns i d lt =
    ap (presents files) (more_at ns i d lt)
    ∙ (told_both (present_at files) (take i ns) (get_or ns i d ∷ []) ∙ ap (λ ps. presents files (take i ns) ++ ps) (append-nil _))

-- one file more that isn't present
pub counted_gone : (files : List ProjectFile) (ns : List FileNo) (i count references : ℕ) (d : FileNo) → i < length ns
    → None ≡ option_map report_of (content_at files (get_or ns i d)) → AreCounted files ns i count references → AreCounted files ns (i + 1) count references
counted_gone files ns i count references d lt report h =
    let n = get_or ns i d in
    let same : presents files (take (i + 1) ns) ≡ presents files (take i ns) =
    counted_next files ns i d lt
    ∙ (ap (λ ps. presents files (take i ns) ++ ps) (present_isnt files n (no_content (content_at files n) report)) ∙ append-nil _) in
    record {
      files_are = h.files_are ∙ ap length (sym same);
      references_are = h.references_are ∙ ap (λ ps. references_in (map (λ (p : Present). report_of p.content) ps)) (sym same);
      few = let few = h.few in omega (arith, few);
      most = let most = h.most in omega (arith, most);
    }

-- one that is
pub counted_more : (files : List ProjectFile) (ns : List FileNo) (i count references : ℕ) (d : FileNo) (r : FileReport) (more : ℕ) → i < length ns
    → IsOwn files (get_or ns i d) → Some r ≡ option_map report_of (content_at files (get_or ns i d))
    → more ≡ references_in (r ∷ []) → more < 4294967296 → AreCounted files ns i count references
    → AreCounted files ns (i + 1) (count + 1) (references + more)
counted_more files ns i count references d r more lt own report told below h =
    let n = get_or ns i d in
    let c = found n (content_at files n) refl report in
    let p : Present = record { name = name_at files n; content = c.0 } in
    let next : presents files (take (i + 1) ns) ≡ presents files (take i ns) ++ p ∷ [] =
    counted_next files ns i d lt ∙ ap (λ ps. presents files (take i ns) ++ ps) (present_is files n c.0 own c.1) in
    let files_were = h.files_are in
    let references_were = h.references_are in
    let few = h.few in
    let most = h.most in
    let long = longer (presents files (take i ns)) p in
    let one : references_in (report_of c.0 ∷ []) ≡ references_in (r ∷ []) = ap (λ x. references_in (x ∷ [])) (sym c.2) in
    let both : references_in (map (λ (q : Present). report_of q.content) (presents files (take i ns) ++ p ∷ []))
    ≡ references_in (map (λ (q : Present). report_of q.content) (presents files (take i ns))) + references_in (report_of c.0 ∷ []) =
    ap references_in (mapped (presents files (take i ns)) p)
    ∙ references_both (map (λ (q : Present). report_of q.content) (presents files (take i ns))) (report_of c.0 ∷ []) in
    record {
      files_are = let same = ap length next in omega (arith, files_were, long, same);
      references_are =
          let same = ap (λ ps. references_in (map (λ (q : Present). report_of q.content) ps)) next in omega (arith, references_were, told, one, both, same);
      few = omega (arith, few);
      most = omega (arith, most, below);
    }
  where
    found : (n : FileNo) (o : Option Content) → content_at files n ≡ o → Some r ≡ option_map report_of o
        → (c : Content) × (content_at files n ≡ Some c) × (r ≡ report_of c)
    found n None e report = absurd (cc)
    found n (Some c) e report = let same : r ≡ report_of c = cc in (c, e, same)

    longer : (xs : List Present) (p : Present) → length (xs ++ p ∷ []) ≡ length xs + 1
    longer [] p = refl
    longer (x ∷ xs) p = let more = longer xs p in omega (arith, more)

    mapped : (xs : List Present) (p : Present)
        → map (λ (q : Present). report_of q.content) (xs ++ p ∷ []) ≡ map (λ (q : Present). report_of q.content) xs ++ report_of p.content ∷ []
    mapped [] p = refl
    mapped (x ∷ xs) p = ap (λ rs. report_of x.content ∷ rs) (mapped xs p)

-- one file more, whatever is told of it
pub counted_with : (files : List ProjectFile) (ns : List FileNo) (i : ℕ) (counts : Counts) (d : FileNo) (o : Option FileReport) → i < length ns
    → IsOwn files (get_or ns i d) → o ≡ option_map report_of (content_at files (get_or ns i d))
    → IfSome o (λ r. references_in (r ∷ []) < 4294967296) → AreCounted files ns i counts.files counts.references
    → AreCounted files ns (i + 1) (counts_with counts o).files (counts_with counts o).references
counted_with files ns i counts d None lt own told below h = counted_gone files ns i counts.files counts.references d lt told h
counted_with files ns i counts d (Some r) lt own told below h =
    counted_more files ns i counts.files counts.references d r (references_in (r ∷ [])) lt own told refl below h

-- the faults stay
pub faults_stay : (counts : Counts) (o : Option FileReport) → (counts_with counts o).faults ≡ counts.faults
faults_stay counts None = refl
faults_stay counts (Some r) = refl

-- all were counted
pub counted_all : (files : List ProjectFile) (ns : List FileNo) (i count references : ℕ) → i ≡ length ns → AreCounted files ns i count references
    → (count ≡ length (presents files ns)) × (references ≡ references_in (map (λ p. report_of p.content) (presents files ns)))
counted_all files ns i count references all h =
    let whole : take i ns ≡ ns = ap (λ k. take k ns) all ∙ take-length ns in (
      h.files_are ∙ ap (λ ms. length (presents files ms)) whole,
      h.references_are ∙ ap (λ ms. references_in (map (λ (p : Present). report_of p.content) (presents files ms))) whole,
    )
