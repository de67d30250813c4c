-- A book has one list of files at most, in which its texts are found.
use Rattle.std.proofs.Common.{◌≡◌, ◌∙◌, ℕ, suc, Bool, true, false, cond, not, ◌&&◌, List, [], ◌∷◌, ◌++◌, refl, sym, ap, subst}
use Rattle.std.specs.Prelude.{Option, Some, None, nat_eq, map}
use Rattle.std.specs.Option.{option_map, option_map_or}
use Rattle.std.specs.Map.{lookup}
use Rattle.std.specs.Cmp.Lexicographic.{pointwise}
use Rattle.element_store.specs.declared.numbers.FileNo.{FileNo}
use Rattle.element_store.specs.declared.outcome.Language.{Language}
use Rattle.book_model.specs.Book.{Book, text_in}
use Rattle.book_model.specs.Readings.{Reading}
use Rattle.book_model.specs.Files.{LibraryTexts, Entry, entries_of, Content, ProjectFile, IsContentOf, IsFileOf, AreFilesFrom, AreFilesOf, content_under}
use Rattle.book_model.specs.Answers.{Command, book_after, Answers, IsAnswer, AreAnswers, find_answer}
use Rattle.book_model.specs.Laws.{OneReading, HasOneOutcome}
use Rattle.book_model.proofs.AskedLaws.{one_asked}

-- what is known of texts, as one fact of readings
pub one_reading : HasOneOutcome → OneReading
one_reading h file language text (Reading.Model a) (Reading.Model b) p q = ap Reading.Model (h.model file language text a b p q)
one_reading h file language text (Reading.Model a) (Reading.Fault b) p q = absurd (q.0 (h.either file language text a b p q.1))
one_reading h file language text (Reading.Fault a) (Reading.Model b) p q = absurd (p.0 (h.either file language text b a q p.1))
one_reading h file language text (Reading.Fault a) (Reading.Fault b) p q = ap Reading.Fault (h.fault language text a b p.1 q.1 p.0 q.0)

-- an entry has one content
one_content : OneReading → (file : FileNo) (language : Language) (text : Option (List ℕ)) (a b : Option Content) → IsContentOf file language text a
    → IsContentOf file language text b → a ≡ b
one_content h file language None None None p q = refl
one_content h file language None None (Some b) p q = absurd q
one_content h file language None (Some a) b p q = absurd p
one_content h file language (Some text) None b p q = absurd p
one_content h file language (Some text) (Some a) None p q = absurd q
one_content h file language (Some text) (Some a) (Some b) p q =
    let t : a.text ≡ b.text = p.0 ∙ sym q.0 in
    let r : a.reading ≡ b.reading = h file language text a.reading b.reading p.1 q.1 in
    λ j. Some (record { text = t j; reading = r j })

-- and one file
one_file : OneReading → (number : FileNo) (e : Entry) (f g : ProjectFile) → IsFileOf number e f → IsFileOf number e g → f ≡ g
one_file h number e f g p q =
    let n : f.name ≡ g.name = p.name ∙ sym q.name in
    let l : f.library ≡ g.library = p.library ∙ sym q.library in
    let c : f.content ≡ g.content = one_content h number _ e.text f.content g.content p.content q.content in
    λ j. record { name = n j; library = l j; content = c j }

-- so entries have one list of files
one_list : OneReading → (n : ℕ) (es : List Entry) (fs gs : List ProjectFile) → AreFilesFrom n es fs → AreFilesFrom n es gs → fs ≡ gs
one_list h n [] [] [] p q = refl
one_list h n [] [] (g ∷ gs) p q = absurd q
one_list h n [] (f ∷ fs) gs p q = absurd p
one_list h n (e ∷ es) [] gs p q = absurd p
one_list h n (e ∷ es) (f ∷ fs) [] p q = absurd q
one_list h n (e ∷ es) (f ∷ fs) (g ∷ gs) p q =
    let a : f ≡ g = one_file h (record { 0 = n }) e f g p.0 q.0 in
    let b : fs ≡ gs = one_list h (suc n) es fs gs p.1 q.1 in
    λ j. a j ∷ b j

-- a book over a library has one list of files
pub one_files : OneReading → (book : Book) (library : LibraryTexts) (fs gs : List ProjectFile) → AreFilesOf book library fs → AreFilesOf book library gs
    → fs ≡ gs
one_files h book library fs gs p q = one_list h 0 (entries_of book library) fs gs p q

-- over the same files a command has one answer
one_answer_by : (book : Book) (files : List ProjectFile) (c : Command) (a b : List ℕ) → Answers book files c a → Answers book files c b → a ≡ b
one_answer_by book files (Command.Put name text) a b p q = p ∙ sym q
one_answer_by book files (Command.Drop name) a b p q = p ∙ sym q
one_answer_by book files (Command.Links name) a b p q = p ∙ sym q
one_answer_by book files Command.Check a b p q = p ∙ sym q
one_answer_by book files (Command.Find words) a b (n, asked, is) (m, asked', is') =
    is ∙ (ap (find_answer files) (one_asked words n m asked asked') ∙ sym is')
one_answer_by book files Command.Implied a b p q = p ∙ sym q
one_answer_by book files (Command.Print name) a b p q = p ∙ sym q

-- so it has one answer, and commands have one list of answers
pub one_answer : OneReading → (library : LibraryTexts) (book : Book) (c : Command) (a b : List ℕ) → IsAnswer library book c a → IsAnswer library book c b
    → a ≡ b
one_answer h library book c a b p q =
    one_answer_by book q.files c a b
    (subst (λ (files : List ProjectFile). Answers book files c a) (one_files h (book_after book c) library p.files q.files p.are q.are) p.stands) q.stands

-- and commands one list of answers
pub one_answers : OneReading → (library : LibraryTexts) (book : Book) (cs : List Command) (a b : List ℕ) → AreAnswers library book cs a
    → AreAnswers library book cs b → a ≡ b
one_answers h library book [] a b p q = p ∙ sym q
one_answers h library book (c ∷ cs) a b (f, m, is, are, whole) (g, n, is', are', whole') =
    let first : f ≡ g = one_answer h library book c f g is is' in
    let more : m ≡ n = one_answers h library (book_after book c) cs m n are are' in
    whole ∙ ((λ j. first j ++ more j) ∙ sym whole')

-- ---- texts are found

-- the text of a content is the entry's
content_text : (file : FileNo) (language : Language) (text : Option (List ℕ)) (c : Option Content) → IsContentOf file language text c
    → option_map (λ (x : Content). x.text) c ≡ text
content_text file language None None p = refl
content_text file language None (Some c) p = absurd p
content_text file language (Some text) None p = absurd p
content_text file language (Some text) (Some c) p = ap Some p.0

-- the entries of a library, and of a book
abbrev pub library_entry : List ℕ × List ℕ → Entry
library_entry e = record { name = e.0; library = true; text = Some e.1 }

-- an entry of a book
abbrev pub book_entry : List ℕ × Option (List ℕ) → Entry
book_entry e = record { name = e.0; library = false; text = e.1 }

-- the text of what is found
abbrev texts_of : Option Content → Option (List ℕ)
texts_of c = option_map (λ (x : Content). x.text) c

-- among the entries of a book its texts are found
book_found : (n : ℕ) (book : Book) (files : List ProjectFile) (name : List ℕ) → AreFilesFrom n (map book_entry book) files
    → texts_of (content_under files name) ≡ text_in book name
book_found n [] [] name are = refl
book_found n [] (f ∷ fs) name are = absurd are
book_found n (e ∷ es) [] name are = absurd are
book_found n (e ∷ es) (f ∷ fs) name are =
    let own = ap (λ b. texts_of (cond (not b && pointwise nat_eq name f.name) f.content (content_under fs name))) are.0.library in
    let named = ap (λ x. texts_of (cond (pointwise nat_eq name x) f.content (content_under fs name))) are.0.name in
    own ∙ (named ∙ here (pointwise nat_eq name e.0) (content_text (record { 0 = n }) _ e.1 f.content are.0.content) (book_found (suc n) es fs name are.1))
  where
    here : (b : Bool) → texts_of f.content ≡ e.1 → texts_of (content_under fs name) ≡ text_in es name
        → texts_of (cond b f.content (content_under fs name)) ≡ option_map_or (λ text. text) (cond b (Some e.1) (lookup (pointwise nat_eq name) es)) None
    here true p q = p
    here false p q = q

-- and no entry of the library is in their way
library_found : (n : ℕ) (library : LibraryTexts) (book : Book) (files : List ProjectFile) (name : List ℕ)
    → AreFilesFrom n (map library_entry library ++ map book_entry book) files
    → texts_of (content_under files name) ≡ text_in book name
library_found n [] book files name are = book_found n book files name are
library_found n (e ∷ es) book [] name are = absurd are
library_found n (e ∷ es) book (f ∷ fs) name are =
    let other = ap (λ b. texts_of (cond (not b && pointwise nat_eq name f.name) f.content (content_under fs name))) are.0.library in
    other ∙ library_found (suc n) es book fs name are.1

-- the files of a book hold under each name the text of the book
pub texts_found : (book : Book) (library : LibraryTexts) (files : List ProjectFile) (name : List ℕ) → AreFilesOf book library files
    → option_map (λ (c : Content). c.text) (content_under files name) ≡ text_in book name
texts_found book library files name are = library_found 0 library book files name are
