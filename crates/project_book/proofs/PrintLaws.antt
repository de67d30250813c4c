-- What printing gives of a file, by what is known of its text.
use Rattle.std.proofs.Common.{◌≡◌, ◌∙◌, ℕ, zero, suc, ◌+◌, ◌<◌, ◌≤◌, ◌^◌, List, [], ◌∷◌, length, refl, sym, ap, subst, arith, zero-add}
use Rattle.std.specs.Prelude.{Option, Some, None, slice_get, option_and_then}
use Rattle.std.specs.Option.{option_map, option_map_or}
use Rattle.linker_base.proofs.Cases.{some_same}
use Rattle.element_store.specs.declared.numbers.FileNo.{FileNo}
use Rattle.element_store.specs.declared.models.StoredFile.{StoredFile}
use Rattle.element_store.specs.Model.{Data}
use Rattle.text_model.specs.declared.fault.FileFault.{FileFault}
use Rattle.model_printer.specs.Conditions.{HasExpressions}
use Rattle.model_printer.proofs.ProfileLaws.{profile_has_expressions}
use Rattle.print_model.specs.Heads.{printed_text}
use Rattle.book_model.specs.declared.rows.FileReport.TheVariants.{In, Refused}
use Rattle.book_model.specs.declared.rows.Place.{Place}
use Rattle.book_model.specs.declared.rows.Printed.TheVariants as printed
use Rattle.book_model.specs.Files.{Content, ProjectFile, IsContentOf, content_under, model_at, name_at, number_under, stored, stored_file, stored_from}
use Rattle.book_model.specs.Live.{HasModel}
use Rattle.book_model.specs.Queries.{print_query}
use Rattle.book_model.specs.Readings.{Reading, IsReading, language_of, model_by}
use Rattle.book_model.specs.Rows.{printed_by, printed_of, report_by, report_of}
use Rattle.project_files.specs.Kept.{content_at}
use Rattle.project_files.proofs.KeptLaws.{live_model}
use Rattle.project_book.specs.Held.{IsSized}
use Rattle.project_book.specs.Named.{AreRead, AreReadFrom, IsNumberUnder, text_in_content}
use Rattle.project_book.proofs.HeldLaws.{drop_fits, none_behind, text_there}
use Rattle.project_book.proofs.NamedLaws.{content_found}

-- ---- a file whose text is present

-- the file of a content
pub content_file : (files : List ProjectFile) (n : FileNo) (c : Content) → content_at files n ≡ Some c
    → (f : ProjectFile) × (slice_get files n.0 ≡ Some f) × (f.content ≡ Some c)
content_file files n c at = by (slice_get files n.0) refl where
  by : (o : Option ProjectFile) → slice_get files n.0 ≡ o → (f : ProjectFile) × (slice_get files n.0 ≡ Some f) × (f.content ≡ Some c)
  by None e = let nothing = sym at ∙ ap (option_and_then (λ (f : ProjectFile). f.content)) e in absurd (cc)
  by (Some f) e = (f, e, sym (ap (option_and_then (λ (g : ProjectFile). g.content)) e) ∙ at)

-- what is stored of a file
stored_get : (n : ℕ) (files : List ProjectFile) (i : ℕ) (f : ProjectFile) → slice_get files i ≡ Some f
    → slice_get (stored_from n files) i ≡ Some (stored_file (record { 0 = n + i }) f)
stored_get n [] i f e = cc
stored_get n (g ∷ files) zero f e =
    let number : n ≡ n + 0 = omega arith in
    ap (λ h. Some (stored_file (record { 0 = n }) h)) (some_same g f e) ∙ ap (λ k. Some (stored_file (record { 0 = k }) f)) number
stored_get n (g ∷ files) (suc i) f e =
    let number : suc n + i ≡ n + suc i = omega arith in
    stored_get (suc n) files i f e ∙ ap (λ k. Some (stored_file (record { 0 = k }) f)) number

-- its model is that of its reading
pub content_model : (files : List ProjectFile) (n : FileNo) (c : Content) → content_at files n ≡ Some c
    → HasModel files n (model_by n (language_of (name_at files n)) c.reading)
content_model files n c at =
    let f = content_file files n c at in
    let number : 0 + n.0 ≡ n.0 = zero-add n.0 in
    let name : f.0.name ≡ name_at files n = sym (ap (λ o. option_map_or (λ (g : ProjectFile). g.name) o []) f.1) in
    ap (option_and_then (λ (x : StoredFile). x.model)) (stored_get 0 files n.0 f.0 f.1)
    ∙ (ap (option_map (λ (x : Content). model_by (record { 0 = 0 + n.0 }) (language_of f.0.name) x.reading)) f.2
    ∙ (ap (λ k. Some (model_by (record { 0 = k }) (language_of f.0.name) c.reading)) number
    ∙ ap (λ name. Some (model_by n (language_of name) c.reading)) name))

-- each file is read from its text
read_at : (k : ℕ) (files : List ProjectFile) (i : ℕ) (f : ProjectFile) → AreReadFrom k files → slice_get files i ≡ Some f
    → (n : FileNo) × IsContentOf n (language_of f.name) (text_in_content f.content) f.content
read_at k [] i f h at = absurd (cc)
read_at k (g ∷ files) zero f h at = (
  record { 0 = k },
  subst (λ (x : ProjectFile). IsContentOf (record { 0 = k }) (language_of x.name) (text_in_content x.content) x.content) (some_same g f at) h.0.content,
)
read_at k (g ∷ files) (suc i) f h at = read_at (suc k) files i f h.1 at

-- and so is a content
content_read : (files : List ProjectFile) (n : FileNo) (c : Content) → AreRead files → content_at files n ≡ Some c
    → (m : FileNo) × IsReading m (language_of (name_at files n)) c.text c.reading
content_read files n c h at =
    let f = content_file files n c at in
    let name : f.0.name ≡ name_at files n = sym (ap (λ o. option_map_or (λ (g : ProjectFile). g.name) o []) f.1) in
    let read = read_at 0 files n.0 f.0 h f.1 in
    let has = subst (λ (o : Option Content). IsContentOf read.0 (language_of f.0.name) (text_in_content o) o) f.2 read.1 in
    (read.0, subst (λ name. IsReading read.0 (language_of name) c.text c.reading) name has.1)

-- ---- printing

-- under a new name nothing is printed
pub print_new : (files : List ProjectFile) (name : List ℕ) → IsNumberUnder files name None → None ≡ print_query files name
print_new files name new =
    sym (ap (option_map printed_of)
    (content_found files name ∙ (ap (λ k. content_at files (record { 0 = k })) new ∙ none_behind files)))

-- under a name that is there, what printing its content gives
print_by : (files : List ProjectFile) (name : List ℕ) (n : FileNo) → IsNumberUnder files name (Some n)
    → print_query files name ≡ option_map printed_of (content_at files n)
print_by files name n under =
    ap (option_map printed_of) (content_found files name ∙ ap (λ k. content_at files (record { 0 = k })) under.0)

-- nothing where no text is present
pub print_gone : (files : List ProjectFile) (name : List ℕ) (n : FileNo) → IsNumberUnder files name (Some n)
    → None ≡ option_map report_of (content_at files n) → None ≡ print_query files name
print_gone files name n under gone = by (content_at files n) gone ∙ sym (print_by files name n under) where
  by : (o : Option Content) → None ≡ option_map report_of o → None ≡ option_map printed_of o
  by None e = refl
  by (Some c) e = absurd (cc)

-- the fault of a text that is refused
pub print_refused : (files : List ProjectFile) (name : List ℕ) (n : FileNo) (fault : FileFault) (place : Place) → IsNumberUnder files name (Some n)
    → Some (Refused fault place) ≡ option_map report_of (content_at files n) → Some (printed.Refused fault place) ≡ print_query files name
print_refused files name n fault place under is = by (content_at files n) is ∙ sym (print_by files name n under) where
  by_reading : (text : List ℕ) (r : Reading) → Refused fault place ≡ report_by text r → printed.Refused fault place ≡ printed_by text r
  by_reading text (Reading.Model d) e = absurd (cc)
  by_reading text (Reading.Fault other) e = cc

  by : (o : Option Content) → Some (Refused fault place) ≡ option_map report_of o → Some (printed.Refused fault place) ≡ option_map printed_of o
  by None e = absurd (cc)
  by (Some c) e = ap Some (by_reading c.text c.reading (some_same (Refused fault place) (report_of c) e))

-- a file within the profile
pub record IsWithinProfile (files : List ProjectFile) (n : FileNo) : Type 0 where
  pub content : Content
  pub model : Data
  pub at : content_at files n ≡ Some content
  pub reading : content.reading ≡ Reading.Model model

-- a report tells it
pub within_profile : (files : List ProjectFile) (n : FileNo) (elements references : ℕ)
    → Some (In elements references) ≡ option_map report_of (content_at files n) → IsWithinProfile files n
within_profile files n elements references is = by (content_at files n) refl is where
  by_reading : (c : Content) (r : Reading) → content_at files n ≡ Some c → c.reading ≡ r → In elements references ≡ report_by c.text r → IsWithinProfile files n
  by_reading c (Reading.Model d) at reading e = record { content = c; model = d; at = at; reading = reading }
  by_reading c (Reading.Fault fault) at reading e = absurd (cc)

  by : (o : Option Content) → content_at files n ≡ o → Some (In elements references) ≡ option_map report_of o → IsWithinProfile files n
  by None at e = absurd (cc)
  by (Some c) at e = by_reading c c.reading at refl (some_same (In elements references) (report_of c) e)

module _ (files : List ProjectFile) (n : FileNo) (h : IsWithinProfile files n) where
  -- its file has the model
  pub profile_model : HasModel files n h.model
  profile_model =
      content_model files n h.content h.at ∙ ap (λ r. Some (model_by n (language_of (name_at files n)) r)) h.reading

  -- which is the model there
  pub profile_is : model_at files n ≡ h.model
  profile_is = live_model files n h.model profile_model

  -- its canonical text is printed
  pub print_text : (name : List ℕ) → IsNumberUnder files name (Some n) → Some (printed.Text (printed_text (model_at files n))) ≡ print_query files name
  print_text name under =
      ap (λ (d : Data). Some (printed.Text (printed_text d))) profile_is
      ∙ sym (print_by files name n under ∙ (ap (option_map printed_of) h.at ∙ ap (λ r. Some (printed_by h.content.text r)) h.reading))

  -- and printing finds what it asks for
  pub print_asks : (name : List ℕ) (bytes : ℕ) → AreRead files → IsSized files bytes → IsNumberUnder files name (Some n) → HasExpressions (model_at files n)
  print_asks name bytes read sized under =
      let text = text_there files name n read under.0 ∙ ap text_in_content h.at in
      let fits = drop_fits files bytes name h.content.text sized text in
      let few : length h.content.text < 2 ^ 32 = omega (arith, fits, sized.bytes_are, sized.within.bytes) in
      let has = content_read files n h.content read h.at in
      let within = subst (λ r. IsReading has.0 (language_of (name_at files n)) h.content.text r) h.reading has.1 in
      subst HasExpressions (sym profile_is) (profile_has_expressions has.0 (language_of (name_at files n)) h.content.text h.model few within)
