-- The answer of `implied`: the lines of its rows, and then their number.
use Rattle.std.proofs.Common.{◌≡◌, ◌∙◌, ℕ, zero, suc, ◌+◌, List, [], ◌∷◌, ◌++◌, length, map, refl, sym, ap, subst, inl, inr, append_assoc, arith}
use Rattle.std.specs.Prelude.{All, false, codes, Result, Ok, Err}
use Rattle.std.specs.Fmt.{decimal}
use Rattle.std.specs.List.{flat_map}
use Rattle.std.proofs.lemmas.List.Elements.{All-nil, All-cons}
use Rattle.linker_base.specs.Members.{IsMember}
use Rattle.element_store.specs.declared.models.StoredFile.{StoredFile}
use Rattle.implied_model.specs.Implied.{Implication}
use Rattle.implied_rules.specs.declared.rows.ImpliedRow.{ImpliedRow}
use Rattle.implied_rules.specs.Implied.{AreStanding, said_by}
use Rattle.book_model.specs.Answers.{Command as Asked, implied_answer}
use Rattle.book_model.specs.Files.{ProjectFile, stored}
use Rattle.book_model.specs.Printed.{implication_text}
use Rattle.book_model.specs.Queries.{implied_query}
use Rattle.session_streams.specs.Moves.{Stream, Move, moved}
use Rattle.sysml_session.specs.Answered.{IsAnswered, IsDone, IsGiven}
use Rattle.sysml_session.specs.declared.answering.AnswerFault.{AnswerFault}
use Rattle.sysml_session.specs.declared.answering.AnswerFault.TheVariants.{NoMemory}
use Rattle.project_book.specs.Held.{Held}
use Rattle.project_book.specs.Named.{AreOfBook}
use Rattle.project_answers.specs.Holds.{holding_of}
use Rattle.project_answers.specs.ImpliedLines.{IsLiveImplied, implied_counts, implied_end, implied_line, implied_lines}
use Rattle.project_answers.specs.Parts.{IsPart}
use Rattle.project_answers.proofs.ListedLaws.{line_given, line_wanted, part_failed}

-- rows that stand among what is stored are live
pub rows_live : (files : List ProjectFile) (models : List StoredFile) (rows : List ImpliedRow) → models ≡ stored files → AreStanding models rows
    → All (IsLiveImplied files) rows
rows_live files models rows is stand = each rows (subst (λ all. AreStanding all rows) is stand) where
  each : (rows : List ImpliedRow) → AreStanding (stored files) rows → All (IsLiveImplied files) rows
  each [] stand = All-nil (IsLiveImplied files)
  each (r ∷ rs) stand = All-cons (IsLiveImplied files) r rs (stand r (inl refl)) (each rs (λ x m. stand x (inr m)))

-- the lines of rows are those of what they say
lines_said : (files : List ProjectFile) (rows : List ImpliedRow)
    → implied_lines files rows ≡ flat_map (λ i. implication_text files i ++ codes "\n") (map said_by rows)
lines_said files [] = refl
lines_said files (r ∷ rs) = ap (λ bs. implied_line files r ++ bs) (lines_said files rs)

-- and as many
counts_said : (rows : List ImpliedRow) → implied_counts rows ≡ length (map said_by rows)
counts_said [] = refl
counts_said (r ∷ rs) = let more = counts_said rs in omega (arith, more)

-- the lines and then their number are the answer
pub implied_listed : (files : List ProjectFile) (rows : List ImpliedRow) → map said_by rows ≡ implied_query files
    → implied_lines files rows ++ implied_end (implied_counts rows) ≡ implied_answer files (implied_query files)
implied_listed files rows is =
    ap (λ bs. bs ++ implied_end (implied_counts rows)) (lines_said files rows ∙ ap (flat_map (λ i. implication_text files i ++ codes "\n")) is)
    ∙ (ap (λ n. all ++ implied_end n) (counts_said rows ∙ ap length is) ∙ three all (codes "implied ") (decimal (length (implied_query files))) (codes "\n"))
  where
    all : List ℕ
    all = flat_map (λ i. implication_text files i ++ codes "\n") (implied_query files)

    three : (w a b c : List ℕ) → w ++ (a ++ b ++ c) ≡ w ++ a ++ b ++ c
    three w a b c = sym (append_assoc w (a ++ b) c) ∙ ap (λ z. z ++ c) (sym (append_assoc w a b))

-- it is asked
abbrev pub implied_asked : (held : Held) (answer : List ℕ) → held.broken ≡ false → AreOfBook held.files
    → answer ≡ implied_answer held.files (implied_query held.files) → IsDone (holding_of held) (holding_of held) Asked.Implied
implied_asked held answer whole are is = record {
  has = record { room = refl; answer = answer; is = record { files = held.files; are = are; stands = is } };
  book = refl;
  library = refl;
  whole = whole;
}

module _ (held : Held) (rows : List ImpliedRow) (whole : held.broken ≡ false) (are : AreOfBook held.files)
    (is : map said_by rows ≡ implied_query held.files) where
  done_implied : IsDone (holding_of held) (holding_of held) Asked.Implied
  done_implied =
      implied_asked held (implied_lines held.files rows ++ implied_end (implied_counts rows)) whole are (implied_listed held.files rows is)

  -- the rows failed
  pub implied_failed : (a b : Stream) (e : AnswerFault) → IsPart (moved a b) (implied_lines held.files rows) (implied_counts rows) (Err e)
      → IsAnswered (holding_of held) (holding_of held) Asked.Implied (moved a b) (Err e)
  unfolding done_implied
  implied_failed a b e part = part_failed (holding_of held) Asked.Implied done_implied a b (implied_lines held.files rows)
      (implied_end (implied_counts rows)) (implied_counts rows) e refl part

  -- or memory was wanting behind them
  pub implied_wanted : (a b : Stream) (k : ℕ) → IsPart (moved a b) (implied_lines held.files rows) (implied_counts rows) (Ok k)
      → IsAnswered (holding_of held) (holding_of held) Asked.Implied (moved a b) (Err NoMemory)
  unfolding done_implied
  implied_wanted a b k part = line_wanted (holding_of held) Asked.Implied done_implied a b (implied_lines held.files rows)
      (implied_end (implied_counts rows)) refl part.1 part.2

  -- or their number was given
  pub implied_given : (a b d : Stream) (k : ℕ) (last : List ℕ) (r : Result (Unit {0}) AnswerFault)
      → IsPart (moved a b) (implied_lines held.files rows) (implied_counts rows) (Ok k) → last ≡ implied_end k → IsGiven (moved b d) last r
      → IsAnswered (holding_of held) (holding_of held) Asked.Implied (moved a d) r
  unfolding done_implied
  implied_given a b d k last r part is_last given = line_given (holding_of held) Asked.Implied done_implied a b d (implied_lines held.files rows)
      last r (ap (λ bs. implied_lines held.files rows ++ bs) (is_last ∙ ap implied_end part.0)) part.1 part.2 given

-- the lines of rows over files that are these
pub implied_moved : (output : Move) (fs files : List ProjectFile) (these those : List ImpliedRow) (r : Result ℕ AnswerFault) → fs ≡ files → these ≡ those
    → IsPart output (implied_lines fs these) (implied_counts these) r → IsPart output (implied_lines files those) (implied_counts those) r
implied_moved output fs files these those r e q part =
    subst (λ gs. IsPart output (implied_lines gs those) (implied_counts those) r) e
    (subst (λ rows. IsPart output (implied_lines fs rows) (implied_counts rows) r) q part)
