-- The files of a book are files as links want them: few, with names that stand once, and with models.
use Rattle.std.proofs.Common.{◌≡◌, ◌∙◌, ℕ, ◌+◌, ◌<◌, ◌^◌, zero, suc, List, [], ◌∷◌, length, refl, sym, ap, subst, arith, inl, inr}
use Rattle.std.specs.Prelude.{Option, Some, None, IfSome, map, slice_get}
use Rattle.std.specs.Option.{option_map}
use Rattle.linker_base.specs.Members.{IsMember, IsEachOnce}
use Rattle.linker_base.proofs.Cases.{some_same}
use Rattle.element_store.specs.declared.numbers.FileNo.{FileNo}
use Rattle.element_store.specs.declared.outcome.Language.{Language}
use Rattle.element_store.specs.declared.models.StoredFile.{StoredFile}
use Rattle.element_store.specs.Model.{Data}
use Rattle.element_store.specs.Condition.{IsModel}
use Rattle.element_store.specs.Stored.{AreFiles}
use Rattle.element_store.proofs.BareLaws.{bare_is_model}
use Rattle.book_model.specs.Book.{Book}
use Rattle.book_model.specs.Readings.{Reading, IsReading, language_of, model_by}
use Rattle.book_model.specs.Files.{LibraryTexts, Entry, entries_of, Content, ProjectFile, IsContentOf, AreFilesFrom, AreFilesOf, stored_file, stored_from, stored}
use Rattle.book_model.specs.Laws.{TextsHaveModels, IsSmall}

-- as many, and with their names
stored_long : (n : ℕ) (es : List Entry) (fs : List ProjectFile) → AreFilesFrom n es fs → length (stored_from n fs) ≡ length es
stored_long n [] [] are = refl
stored_long n [] (f ∷ fs) are = absurd are
stored_long n (e ∷ es) [] are = absurd are
stored_long n (e ∷ es) (f ∷ fs) are = ap suc (stored_long (suc n) es fs are.1)

-- in the same order
stored_names : (n : ℕ) (es : List Entry) (fs : List ProjectFile) → AreFilesFrom n es fs
    → map (λ (e : Entry). e.name) es ≡ map (λ (x : StoredFile). x.name) (stored_from n fs)
stored_names n [] [] are = refl
stored_names n [] (f ∷ fs) are = absurd are
stored_names n (e ∷ es) [] are = absurd are
stored_names n (e ∷ es) (f ∷ fs) are =
    let own = are.0.name in
    let more = stored_names (suc n) es fs are.1 in
    λ j. (sym own) j ∷ more j

-- the model of a reading is a model, of its file
reading_model : TextsHaveModels → (file : FileNo) (language : Language) (text : List ℕ) (r : Reading) → length text < 2 ^ 32 → IsReading file language text r
    → ((model_by file language r).file ≡ file) × IsModel (model_by file language r)
reading_model h file language text (Reading.Model d) short is = (ap (λ (x : Data). x.file) is.model, h file language text d short is)
reading_model h file language text (Reading.Fault fault) short is = (refl, bare_is_model file language)

-- and so is that of a content
content_model : TextsHaveModels → (file : FileNo) (language : Language) (text : Option (List ℕ)) (c : Option Content) (d : Data)
    → IfSome text (λ t. length t < 2 ^ 32) → IsContentOf file language text c → option_map (λ (x : Content). model_by file language x.reading) c ≡ Some d
    → (d.file.0 ≡ file.0) × IsModel d
content_model h file language None None d short is at = absurd (cc)
content_model h file language None (Some c) d short is at = absurd is
content_model h file language (Some text) None d short is at = absurd is
content_model h file language (Some text) (Some c) d short is at =
    let same : model_by file language c.reading ≡ d = some_same _ _ at in
    let own = reading_model h file language text c.reading short is.1 in
    (ap (λ (x : FileNo). x.0) (sym (ap (λ (x : Data). x.file) same) ∙ own.0), subst IsModel same own.1)

-- what is said of texts that stand among entries is said of those of the others
models_from : TextsHaveModels → (n : ℕ) (es : List Entry) (fs : List ProjectFile) → AreFilesFrom n es fs
    → ((e : Entry) → IsMember es e → IfSome e.text (λ t. length t < 2 ^ 32)) → (k : ℕ) (x : StoredFile) (d : Data)
    → slice_get (stored_from n fs) k ≡ Some x → x.model ≡ Some d → (d.file.0 ≡ n + k) × IsModel d
models_from h n [] [] are short k x d at model = absurd (cc)
models_from h n [] (f ∷ fs) are short k x d at model = absurd are
models_from h n (e ∷ es) [] are short k x d at model = absurd are
models_from h n (e ∷ es) (f ∷ fs) are short zero x d at model =
    let same : stored_file (record { 0 = n }) f ≡ x = some_same _ _ at in
    let is : (stored_file (record { 0 = n }) f).model ≡ Some d = ap (λ (y : StoredFile). y.model) same ∙ model in
    let read = subst (λ name. IsContentOf (record { 0 = n }) (language_of name) e.text f.content) (sym are.0.name) are.0.content in
    let own = content_model h (record { 0 = n }) (language_of f.name) e.text f.content d (short e (inl refl)) read is in
    (own.0 ∙ omega arith, own.1)
models_from h n (e ∷ es) (f ∷ fs) are short (suc k) x d at model =
    let own = models_from h (suc n) es fs are.1 (λ o m. short o (inr m)) k x d at model in
    (own.0 ∙ omega arith, own.1)

-- the files as links see them
pub stored_are_files : TextsHaveModels → (book : Book) (library : LibraryTexts) (files : List ProjectFile) → IsSmall book library
    → AreFilesOf book library files
    → AreFiles (stored files)
stored_are_files h book library files small are = record {
  few = subst (λ n. n < 2 ^ 32) (sym (stored_long 0 (entries_of book library) files are)) small.few;
  names = subst IsEachOnce (stored_names 0 (entries_of book library) files are) small.once;
  models = λ f x d at model.
      let own = models_from h 0 (entries_of book library) files are small.short f x d at model in
      (own.0 ∙ omega arith, own.1);
}
