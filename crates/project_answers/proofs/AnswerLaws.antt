-- What an edit of a project answers is what a session asks.
use Rattle.std.proofs.Common.{◌≡◌, ◌∙◌, ℕ, false, List, [], refl, sym, ap, subst, inl}
use Rattle.std.specs.Prelude.{codes, IfOk, Option, Some, None, Result, Ok, Err}
use Rattle.std.specs.Option.{option_map}
use Rattle.element_store.specs.declared.numbers.FileNo.{FileNo}
use Rattle.book_model.specs.declared.edit.Edit.TheVariants as edit
use Rattle.book_model.specs.declared.rows.FileReport.{FileReport}
use Rattle.book_model.specs.Answers.{Command as Asked, Answers, book_after, drop_answer, line, put_answer, refusal_of, IsAnswer}
use Rattle.book_model.specs.Book.{Book, Edited, dropped, edited, left_by, number_of, text_in}
use Rattle.book_model.specs.Files.{AreFilesOf, LibraryTexts, number_under}
use Rattle.book_model.specs.Queries.{file_query}
use Rattle.book_model.specs.Rows.{report_of}
use Rattle.session_streams.specs.Moves.{Stream, Move, moved}
use Rattle.session_streams.proofs.Giving.{gave_none}
use Rattle.sysml_session.specs.Answered.{Holding, IsAnswered}
use Rattle.sysml_session.specs.declared.answering.AnswerFault.{AnswerFault}
use Rattle.sysml_session.specs.declared.answering.AnswerFault.TheVariants.{Limit, WriteFault, NoMemory}
use Rattle.project_files.specs.Kept.{content_at}
use Rattle.project_book.specs.Held.{Held, IsApplied, IsOpenedOver}
use Rattle.project_book.specs.Named.{book_of, library_in, AreOfBook}
use Rattle.project_book.specs.declared.faults.Applied.{Applied}
use Rattle.project_book.specs.declared.faults.Applied.TheVariants.{Changed, NotThere}
use Rattle.project_book.proofs.NamedLaws.{content_found}
use Rattle.project_answers.specs.Holds.{Desked, holding_of, IsTold}
use Rattle.project_answers.specs.Lines.{drop_rest, put_rest}

-- what an opened desk holds
pub opened_over : {E : Type 0} (library : LibraryTexts) (r : Result Desked E) → IfOk r (λ d. IsOpenedOver library d.held)
    → IfOk r (λ d. holding_of d.held ≡ record { library = library; book = []; broken = false })
opened_over library (Ok d) h = λ i. record { library = h.library_is i; book = h.empty i; broken = h.whole i }
opened_over library (Err e) h = tt

-- a command that is done and whose answer was given
pub answered_as : (before after : Held) (c : Asked) (answer : List ℕ) (output : Move) (r : Result (Unit {0}) AnswerFault)
    → refusal_of (book_of before.files) c ≡ None → book_of after.files ≡ book_after (book_of before.files) c
    → library_in after.files ≡ library_in before.files → after.broken ≡ false → AreOfBook after.files
    → Answers (book_of before.files) after.files c answer → IsTold output answer r → IsAnswered (holding_of before) (holding_of after) c output r
answered_as before after c answer output r room book fixed whole are is given = by r given where
  is_answer : IsAnswer (library_in before.files) (book_of before.files) c answer
  is_answer = record {
    files = after.files;
    are = subst (λ library. AreFilesOf (book_after (book_of before.files) c) library after.files) fixed
        (subst (λ (b : Book). AreFilesOf b (library_in after.files) after.files) book are);
    stands = is;
  }

  by : (r : Result (Unit {0}) AnswerFault) → IsTold output answer r → IsAnswered (holding_of before) (holding_of after) c output r
  by (Ok u) g =
      (record { has = record { room = room; answer = answer; is = is_answer }; book = book; library = fixed; whole = whole }, g.0, g.1)
  by (Err WriteFault) g =
      (record { has = record { room = room; answer = answer; is = is_answer }; book = book; library = fixed; whole = whole }, g.0, g.1)
  by (Err (Limit number)) g = absurd g
  by (Err NoMemory) g = (inl g.0, g.1)

-- want of memory before anything was given
pub wanted : (before after : Holding) (c : Asked) (a : Stream) → IsAnswered before after c (moved a a) (Err NoMemory)
wanted before after c a = (inl (gave_none a), refl)

-- ---- puts

-- what a put says is by the report
put_line : (name : List ℕ) (o : Option FileReport) → line (codes "put") name (put_rest o) ≡ put_answer name o
put_line name None = refl
put_line name (Some report) = refl

-- a put is answered
pub put_answered : (before after : Held) (name text : List ℕ) (file : FileNo) (answer : List ℕ) (o : Option FileReport) (output : Move)
    (r : Result (Unit {0}) AnswerFault) → IsApplied before after (edit.Put name text) (Ok Changed) → number_under after.files name ≡ file.0
    → AreOfBook after.files → o ≡ option_map report_of (content_at after.files file)
    → answer ≡ line (codes "put") name (put_rest o) → IsTold output answer r
    → IsAnswered (holding_of before) (holding_of after) (Asked.Put name text) output r
put_answered before after name text file answer o output r (whole, is, still, fixed) number are report said given =
    let query : o ≡ file_query after.files name =
    report ∙ ap (option_map report_of) (ap (λ k. content_at after.files (record { 0 = k })) (sym number) ∙ sym (content_found after.files name)) in
    answered_as before after (Asked.Put name text) answer output r (ap number_of is) (sym (ap (left_by (book_of before.files)) is)) fixed still are
    (said ∙ (put_line name o ∙ ap (put_answer name) query)) given

-- an edit is refused
pub put_refused : (before after : Held) (name text : List ℕ) (number : ℕ) (a : Stream)
    → (before.broken ≡ false) × (edited (book_of before.files) (edit.Put name text) ≡ Edited.Limit number) × (after ≡ before)
    → IsAnswered (holding_of before) (holding_of after) (Asked.Put name text) (moved a a) (Err (Limit number))
put_refused before after name text number a (whole, is, same) = (ap number_of is, ap holding_of same, gave_none a, refl)

-- ---- drops

drop_done : (book : Book) (name : List ℕ) (o : Option (List ℕ)) (b : Book) → dropped book name o ≡ Edited.Changed b
    → line (codes "drop") name (drop_rest Changed) ≡ drop_answer name o
drop_done book name None b is = absurd (cc)
drop_done book name (Some text) b is = refl

drop_missing : (book : Book) (name : List ℕ) (o : Option (List ℕ)) → dropped book name o ≡ Edited.NotThere
    → line (codes "drop") name (drop_rest NotThere) ≡ drop_answer name o
drop_missing book name None is = refl
drop_missing book name (Some text) is = absurd (cc)

-- a drop is answered
pub drop_answered : (before after : Held) (name answer : List ℕ) (applied : Applied) (output : Move) (r : Result (Unit {0}) AnswerFault)
    → IsApplied before after (edit.Drop name) (Ok applied) → AreOfBook after.files
    → answer ≡ line (codes "drop") name (drop_rest applied) → IsTold output answer r
    → IsAnswered (holding_of before) (holding_of after) (Asked.Drop name) output r
drop_answered before after name answer Changed output r (whole, is, still, fixed) are said given =
    answered_as before after (Asked.Drop name) answer output r (ap number_of is) (sym (ap (left_by (book_of before.files)) is)) fixed still are
    (said ∙ drop_done (book_of before.files) name (text_in (book_of before.files) name) (book_of after.files) is) given
drop_answered before after name answer NotThere output r (whole, is, same) are said given =
    answered_as before after (Asked.Drop name) answer output r (ap number_of is)
    (ap (λ held. book_of held.files) same ∙ sym (ap (left_by (book_of before.files)) is)) (ap (λ held. library_in held.files) same)
    (ap (λ held. held.broken) same ∙ whole) are
    (said ∙ drop_missing (book_of before.files) name (text_in (book_of before.files) name) is) given
