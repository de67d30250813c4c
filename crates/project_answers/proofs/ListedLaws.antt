-- Answers of a list: its parts, and then its last line.
use Rattle.std.proofs.Common.{◌≡◌, ◌∙◌, ℕ, suc, List, [], ◌∷◌, ◌++◌, length, map, refl, sym, ap, subst, inr, append-nil, append_assoc}
use Rattle.std.proofs.Math.Seq.{take-length}
use Rattle.std.specs.Prelude.{false, codes, slice_get, Option, Some, None, Result, Ok, Err}
use Rattle.std.specs.Fmt.{decimal}
use Rattle.std.specs.List.{flat_map}
use Rattle.std.specs.Option.{option_and_then, option_map}
use Rattle.element_store.specs.declared.numbers.FileNo.{FileNo}
use Rattle.element_store.specs.Model.{Data}
use Rattle.element_store.specs.Stored.{AreFiles}
use Rattle.book_model.specs.Answers.{Command as Asked, check_answer, line, links_answer, no_file, references_in}
use Rattle.book_model.specs.Files.{Content, ProjectFile, content_under, name_at, ranked, stored}
use Rattle.book_model.specs.Printed.{row_text}
use Rattle.book_model.specs.Queries.{faults_query, links_over, links_query, reports}
use Rattle.book_model.specs.Readings.{Reading, language_of, model_by}
use Rattle.book_model.specs.Live.{HasModel}
use Rattle.book_model.specs.Rows.{report_of, rows_of, rows_by}
use Rattle.session_streams.specs.Moves.{Stream, Move, moved, Gave, GaveFront, IsSound}
use Rattle.session_streams.proofs.Giving.{gave_none, gave_then, gave_same, front_then}
use Rattle.sysml_session.specs.Answered.{Holding, IsAnswered, IsDone, IsGiven}
use Rattle.sysml_session.specs.declared.answering.AnswerFault.{AnswerFault}
use Rattle.sysml_session.specs.declared.answering.AnswerFault.TheVariants.{Limit, WriteFault, NoMemory}
use Rattle.project_files.specs.Kept.{content_at}
use Rattle.project_book.specs.Held.{Held}
use Rattle.project_book.specs.Named.{AreOfBook, IsNumberUnder}
use Rattle.project_book.proofs.NamedLaws.{content_found}
use Rattle.project_answers.specs.declared.lines.Counts.{Counts}
use Rattle.project_answers.specs.declared.rows.Listing.TheVariants.{All as Everything}
use Rattle.project_answers.specs.Holds.{holding_of, IsPresentAt}
use Rattle.project_answers.specs.Lines.{counts_text}
use Rattle.project_answers.specs.Parts.{IsPart, sum_of}
use Rattle.project_answers.specs.RowLines.{file_lines, file_counts}
use Rattle.project_answers.specs.Wrong.{presents, wrong_with, wrong_lines, wrong_count_at, lines_at}
use Rattle.project_answers.proofs.PartLaws.{fails_then}
use Rattle.project_book.proofs.PrintLaws.{content_model}
use Rattle.project_answers.proofs.RowLaws.{no_rows, rows_all}
use Rattle.project_answers.proofs.WrongLaws.{wrong_lines_all, wrong_count_all}

-- ---- a command that changes nothing, whose answer was given in parts

module _ (h : Holding) (c : Asked) (done : IsDone h h c) where
  -- a part failed
  pub part_failed : (a b : Stream) (first more : List ℕ) (count : ℕ) (e : AnswerFault) → first ++ more ≡ done.has.answer
      → IsPart (moved a b) first count (Err e) → IsAnswered h h c (moved a b) (Err e)
  part_failed a b first more count WriteFault is part =
      (done, subst (GaveFront (moved a b)) is (front_then a a b [] first more (gave_none a) part.0), part.1)
  part_failed a b first more count NoMemory is part =
      (inr (done.has, subst (GaveFront (moved a b)) is (front_then a a b [] first more (gave_none a) part.0)), part.1)
  part_failed a b first more count (Limit number) is part = absurd part

  -- the parts were given, and then memory was wanting
  pub line_wanted : (a b : Stream) (first more : List ℕ) → first ++ more ≡ done.has.answer → Gave (moved a b) first → IsSound (moved a b)
      → IsAnswered h h c (moved a b) (Err NoMemory)
  line_wanted a b first more is gave sound = (
    inr (
      done.has,
      subst (GaveFront (moved a b)) is
          (front_then a a b [] first more (gave_none a) (length first, gave_same a b first _ (sym (take-length first)) gave)),
    ),
    sound,
  )

  -- or the last line was given, or a front of it
  pub line_given : (a b d : Stream) (first last : List ℕ) (r : Result (Unit {0}) AnswerFault) → first ++ last ≡ done.has.answer
      → Gave (moved a b) first → IsSound (moved a b) → IsGiven (moved b d) last r → IsAnswered h h c (moved a d) r
  line_given a b d first last (Ok u) is gave sound given =
      (done, gave_same a d _ _ is (gave_then a b d first last gave given.0), given.1 ∙ sound)
  line_given a b d first last (Err WriteFault) is gave sound given = (
    done,
    subst (GaveFront (moved a d)) (ap (λ bs. bs) (append-nil (first ++ last)) ∙ is) (front_then a b d first last [] gave given.0),
    fails_then a b d sound given.1,
  )
  line_given a b d first last (Err NoMemory) is gave sound given = absurd given
  line_given a b d first last (Err (Limit number)) is gave sound given = absurd given

  -- or one line alone
  pub line_alone : (a d : Stream) (last : List ℕ) (r : Result (Unit {0}) AnswerFault) → last ≡ done.has.answer → IsGiven (moved a d) last r
      → IsAnswered h h c (moved a d) r
  line_alone a d last r is given = line_given a a d [] last r is (gave_none a) refl given

-- ---- the links of a file

-- the links of a file are asked
abbrev pub links_asked : (held : Held) (name answer : List ℕ) → held.broken ≡ false → AreOfBook held.files
    → answer ≡ links_answer held.files name (links_query held.files name)
    → IsDone (holding_of held) (holding_of held) (Asked.Links name)
links_asked held name answer whole are is = record {
  has = record { room = refl; answer = answer; is = record { files = held.files; are = are; stands = is } };
  book = refl;
  library = refl;
  whole = whole;
}

-- a file without a text has no links
pub links_none : (files : List ProjectFile) (name : List ℕ) → IsPresentAt files name None
    → line (codes "links") name no_file ≡ links_answer files name (links_query files name)
links_none files name none = sym (ap (λ o. links_answer files name (option_map (rows_of (links_over files)) o)) none)

-- the rows of a file, and then their number
pub links_listed : (files : List ProjectFile) (name : List ℕ) (n : FileNo) → AreFiles (stored files) → IsPresentAt files name (Some n)
    → file_lines Everything files n ++ line (codes "links") name (decimal (file_counts Everything files n))
    ≡ links_answer files name (links_query files name)
links_listed files name n kept (c, under, at) =
    let rows = by c.reading refl in
    ap (λ k. file_lines Everything files n ++ line (codes "links") name (decimal k)) rows.1
    ∙ (ap (λ bs. bs ++ line (codes "links") name (decimal (length (rows_of (links_over files) c)))) rows.0
    ∙ sym (ap (λ o. links_answer files name (option_map (rows_of (links_over files)) o)) under))
  where
    by : (r : Reading) → c.reading ≡ r
        → (file_lines Everything files n ≡ flat_map (λ row. row_text files row ++ codes "\n") (rows_of (links_over files) c))
        × (file_counts Everything files n ≡ length (rows_of (links_over files) c))
    by (Reading.Model d) is = rows_all files n c d at is kept
    by (Reading.Fault fault) is =
        let none : rows_of (links_over files) c ≡ [] = ap (rows_by (links_over files) c.text) is in
        let lines = no_rows Everything files n c fault at is in
        (lines.0 ∙ ap (flat_map (λ row. row_text files row ++ codes "\n")) (sym none), lines.1 ∙ ap length (sym none))

-- the answer that no text is present was given
pub links_gone : (held : Held) (name : List ℕ) → held.broken ≡ false → AreOfBook held.files
    → IsPresentAt held.files name None → (a d : Stream) (last : List ℕ) (r : Result (Unit {0}) AnswerFault)
    → last ≡ line (codes "links") name no_file → IsGiven (moved a d) last r
    → IsAnswered (holding_of held) (holding_of held) (Asked.Links name) (moved a d) r
links_gone held name whole are none a d last r is given =
    line_alone (holding_of held) (Asked.Links name)
    (links_asked held name (links_answer held.files name (links_query held.files name)) whole are refl) a d last r
    (is ∙ links_none held.files name none) given

module _ (held : Held) (name : List ℕ) (n : FileNo) (whole : held.broken ≡ false) (are : AreOfBook held.files)
    (kept : AreFiles (stored held.files)) (there : IsPresentAt held.files name (Some n)) where
  done_links : IsDone (holding_of held) (holding_of held) (Asked.Links name)
  done_links = links_asked held name
      (file_lines Everything held.files n ++ line (codes "links") name (decimal (file_counts Everything held.files n))) whole are
      (links_listed held.files name n kept there)

  -- the rows failed
  pub links_failed : (a b : Stream) (e : AnswerFault)
      → IsPart (moved a b) (file_lines Everything held.files n) (file_counts Everything held.files n) (Err e)
      → IsAnswered (holding_of held) (holding_of held) (Asked.Links name) (moved a b) (Err e)
  unfolding done_links
  links_failed a b e part = part_failed (holding_of held) (Asked.Links name) done_links a b (file_lines Everything held.files n)
      (line (codes "links") name (decimal (file_counts Everything held.files n))) (file_counts Everything held.files n) e refl part

  -- or memory was wanting behind them
  pub links_wanted : (a b : Stream) (k : ℕ)
      → IsPart (moved a b) (file_lines Everything held.files n) (file_counts Everything held.files n) (Ok k)
      → IsAnswered (holding_of held) (holding_of held) (Asked.Links name) (moved a b) (Err NoMemory)
  unfolding done_links
  links_wanted a b k part = line_wanted (holding_of held) (Asked.Links name) done_links a b (file_lines Everything held.files n)
      (line (codes "links") name (decimal (file_counts Everything held.files n))) refl part.1 part.2

  -- or their number was given
  pub links_given : (a b d : Stream) (k : ℕ) (last : List ℕ) (r : Result (Unit {0}) AnswerFault)
      → IsPart (moved a b) (file_lines Everything held.files n) (file_counts Everything held.files n) (Ok k)
      → last ≡ line (codes "links") name (decimal k) → IsGiven (moved b d) last r
      → IsAnswered (holding_of held) (holding_of held) (Asked.Links name) (moved a d) r
  unfolding done_links
  links_given a b d k last r part is given = line_given (holding_of held) (Asked.Links name) done_links a b d (file_lines Everything held.files n)
      last r (ap (λ bs. file_lines Everything held.files n ++ bs) (is ∙ ap (λ m. line (codes "links") name (decimal m)) part.0))
      part.1 part.2 given

-- ---- what is wrong with all files

-- it is asked
abbrev pub check_asked : (held : Held) (answer : List ℕ) → held.broken ≡ false → AreOfBook held.files
    → answer ≡ check_answer held.files (reports held.files) (faults_query held.files)
    → IsDone (holding_of held) (holding_of held) Asked.Check
check_asked held answer whole are is = record {
  has = record { room = refl; answer = answer; is = record { files = held.files; are = are; stands = is } };
  book = refl;
  library = refl;
  whole = whole;
}

-- the lines of all files in their order, and then the counts
pub check_listed : (files : List ProjectFile) (ns : List FileNo) (counts : Counts) → presents files ns ≡ ranked files
    → counts.files ≡ length (presents files ns) → counts.references ≡ references_in (map (λ p. report_of p.content) (presents files ns))
    → counts.faults ≡ sum_of (wrong_count_at files) ns
    → lines_at files ns ++ counts_text counts ≡ check_answer files (reports files) (faults_query files)
check_listed files ns counts order files_are references_are faults_are =
    let rows : flat_map (wrong_with files) (presents files ns) ≡ faults_query files = ap (flat_map (wrong_with files)) order in
    let lines : lines_at files ns ≡ wrong_lines files (faults_query files) = sym (wrong_lines_all files ns) ∙ ap (wrong_lines files) rows in
    let faults : counts.faults ≡ length (faults_query files) = faults_are ∙ (sym (wrong_count_all files ns) ∙ ap length rows) in
    let present : counts.files ≡ length (reports files) = files_are ∙ (ap length order ∙ sym (long (λ p. report_of p.content) (ranked files))) in
    let references : counts.references ≡ references_in (reports files) =
    references_are ∙ ap (λ ps. references_in (map (λ p. report_of p.content) ps)) order in
    ap (λ bs. bs ++ counts_text counts) lines
    ∙ (ap (λ (k : Counts). wrong_lines files (faults_query files) ++ counts_text k) (counts_same counts present references faults)
    ∙ seven (wrong_lines files (faults_query files)) (codes "check files ") (decimal (length (reports files))) (codes " references ")
    (decimal (references_in (reports files))) (codes " faults ") (decimal (length (faults_query files))) (codes "\n"))
  where
    two : (w a b : List ℕ) → w ++ (a ++ b) ≡ w ++ a ++ b
    two w a b = sym (append_assoc w a b)

    four : (w a b c d : List ℕ) → w ++ (a ++ b ++ c ++ d) ≡ w ++ a ++ b ++ c ++ d
    four w a b c d =
        sym (append_assoc w (a ++ b ++ c) d) ∙ ap (λ z. z ++ d) (sym (append_assoc w (a ++ b) c) ∙ ap (λ z. z ++ c) (two w a b))

    seven : (w a b c d e f g : List ℕ) → w ++ (a ++ b ++ c ++ d ++ e ++ f ++ g) ≡ w ++ a ++ b ++ c ++ d ++ e ++ f ++ g
    seven w a b c d e f g =
        sym (append_assoc w (a ++ b ++ c ++ d ++ e ++ f) g) ∙ ap (λ z. z ++ g)
        (sym (append_assoc w (a ++ b ++ c ++ d ++ e) f) ∙ ap (λ z. z ++ f)
        (sym (append_assoc w (a ++ b ++ c ++ d) e) ∙ ap (λ z. z ++ e) (four w a b c d)))

    long : {A B : Type 0} (f : A → B) (xs : List A) → length (map f xs) ≡ length xs
    long f [] = refl
    long f (x ∷ xs) = ap suc (long f xs)

    counts_same : (k : Counts) → k.files ≡ length (reports files) → k.references ≡ references_in (reports files) → k.faults ≡ length (faults_query files)
        → k ≡ record { files = length (reports files); references = references_in (reports files); faults = length (faults_query files) }
    counts_same k a b c = λ i. record { files = a i; references = b i; faults = c i }

-- the lines of files that are those of the project, by numbers that are these
pub part_moved : (output : Move) (fs files : List ProjectFile) (ms ns : List FileNo) (r : Result ℕ AnswerFault) → fs ≡ files → ms ≡ ns
    → IsPart output (lines_at fs ms) (sum_of (wrong_count_at fs) ms) r → IsPart output (lines_at files ns) (sum_of (wrong_count_at files) ns) r
part_moved output fs files ms ns r e q part =
    subst (λ gs. IsPart output (lines_at gs ns) (sum_of (wrong_count_at gs) ns) r) e
    (subst (λ ks. IsPart output (lines_at fs ks) (sum_of (wrong_count_at fs) ks) r) q part)

module _ (held : Held) (ns : List FileNo) (whole : held.broken ≡ false) (are : AreOfBook held.files)
    (order : presents held.files ns ≡ ranked held.files) where
  -- the counts of all files
  all_counts : Counts
  all_counts = record {
    files = length (presents held.files ns);
    references = references_in (map (λ p. report_of p.content) (presents held.files ns));
    faults = sum_of (wrong_count_at held.files) ns;
  }

  done_check : IsDone (holding_of held) (holding_of held) Asked.Check
  unfolding all_counts
  done_check = check_asked held (lines_at held.files ns ++ counts_text all_counts) whole are
      (check_listed held.files ns all_counts order refl refl refl)

  -- what is wrong failed to be given
  pub check_failed : (a b : Stream) (e : AnswerFault) → IsPart (moved a b) (lines_at held.files ns) (sum_of (wrong_count_at held.files) ns) (Err e)
      → IsAnswered (holding_of held) (holding_of held) Asked.Check (moved a b) (Err e)
  unfolding done_check all_counts
  check_failed a b e part = part_failed (holding_of held) Asked.Check done_check a b (lines_at held.files ns) (counts_text all_counts)
      (sum_of (wrong_count_at held.files) ns) e refl part

  -- or memory was wanting behind it
  pub check_wanted : (a b : Stream) (k : ℕ) → IsPart (moved a b) (lines_at held.files ns) (sum_of (wrong_count_at held.files) ns) (Ok k)
      → IsAnswered (holding_of held) (holding_of held) Asked.Check (moved a b) (Err NoMemory)
  unfolding done_check all_counts
  check_wanted a b k part = line_wanted (holding_of held) Asked.Check done_check a b (lines_at held.files ns) (counts_text all_counts) refl part.1 part.2

  -- or the counts were given
  pub check_given : (a b d : Stream) (k : ℕ) (counts : Counts) (last : List ℕ) (r : Result (Unit {0}) AnswerFault)
      → IsPart (moved a b) (lines_at held.files ns) (sum_of (wrong_count_at held.files) ns) (Ok k)
      → counts.files ≡ length (presents held.files ns)
      → counts.references ≡ references_in (map (λ p. report_of p.content) (presents held.files ns)) → counts.faults ≡ k
      → last ≡ counts_text counts → IsGiven (moved b d) last r
      → IsAnswered (holding_of held) (holding_of held) Asked.Check (moved a d) r
  unfolding done_check all_counts
  check_given a b d k counts last r part files references faults is given =
      line_given (holding_of held) Asked.Check done_check a b d (lines_at held.files ns) last r
      (ap (λ bs. lines_at held.files ns ++ bs) (is ∙ ap counts_text (same counts files references (faults ∙ part.0)))) part.1 part.2 given
    where
      same : (k : Counts) → k.files ≡ length (presents held.files ns)
          → k.references ≡ references_in (map (λ p. report_of p.content) (presents held.files ns)) → k.faults ≡ sum_of (wrong_count_at held.files) ns
          → k ≡ record {
            files = length (presents held.files ns);
            references = references_in (map (λ p. report_of p.content) (presents held.files ns));
            faults = sum_of (wrong_count_at held.files) ns;
          }
      same k a b c = λ i. record { files = a i; references = b i; faults = c i }

-- ---- the file under a name

-- behind the last file there is none
none_behind : {A : Type 0} (xs : List A) → slice_get xs (length xs) ≡ None
none_behind [] = refl
none_behind (x ∷ xs) = none_behind xs

-- a name that is new has no text
pub present_new : (files : List ProjectFile) (name : List ℕ) → IsNumberUnder files name None → IsPresentAt files name None
present_new files name under =
    content_found files name
    ∙ (ap (λ k. content_at files (record { 0 = k })) under ∙ ap (option_and_then (λ (f : ProjectFile). f.content)) (none_behind files))

-- one that is there has that of its file
under_file : (files : List ProjectFile) (name : List ℕ) (n : FileNo) → IsNumberUnder files name (Some n) → content_under files name ≡ content_at files n
under_file files name n under = content_found files name ∙ ap (λ k. content_at files (record { 0 = k })) under.0

pub present_gone : (files : List ProjectFile) (name : List ℕ) (n : FileNo) → IsNumberUnder files name (Some n)
    → None ≡ option_map (λ (c : Content). length c.text) (content_at files n) → IsPresentAt files name None
present_gone files name n under size = under_file files name n under ∙ by (content_at files n) size where
  by : (o : Option Content) → None ≡ option_map (λ (c : Content). length c.text) o → o ≡ None
  by None e = refl
  by (Some c) e = absurd (cc)

pub present_there : (files : List ProjectFile) (name : List ℕ) (n : FileNo) (size : ℕ) → IsNumberUnder files name (Some n)
    → Some size ≡ option_map (λ (c : Content). length c.text) (content_at files n) → IsPresentAt files name (Some n)
present_there files name n size under told = by (content_at files n) refl told where
  by : (o : Option Content) → content_at files n ≡ o → Some size ≡ option_map (λ (c : Content). length c.text) o → IsPresentAt files name (Some n)
  by None e t = absurd (cc)
  by (Some c) e t = (c, under_file files name n under ∙ e, e)

-- it has a model
pub present_model : (files : List ProjectFile) (name : List ℕ) (n : FileNo) → IsPresentAt files name (Some n) → (d : Data) × HasModel files n d
present_model files name n (c, under, at) = (model_by n (language_of (name_at files n)) c.reading, content_model files n c at)
