-- A row that holds of bytes holds of those that go on so: a reader sees bytes, and the table speaks of all that come next.
use Rattle.std.proofs.Common.{◌≡◌, ◌∙◌, ℕ, ◌+◌, ◌-◌, ◌≤◌, List, ◌∷◌, ◌++◌, length, take, ap, arith, append_assoc}
use Rattle.std.proofs.Math.Seq.{take-append-add}
use Rattle.linker_base.specs.declared.limits.TheConstants.{INPUT_BYTES}
use Rattle.book_model.specs.Book.{Book}
use Rattle.session_course.specs.Commands.{Command, put, line_of, spelling_of}
use Rattle.session_course.specs.Refusals.{IsEndless, IsFormless, IsOversized, IsUnclosed, IsRefused}
use Rattle.session_course.specs.Stops.{place_of, next_bytes}

module _ (seen more : List ℕ) where
  -- what begins so begins so with more behind it
  longer : (line back : List ℕ) → seen ≡ line ++ 10 ∷ back → seen ++ more ≡ line ++ 10 ∷ (back ++ more)
  longer line back e = ap (λ bs. bs ++ more) e ∙ append_assoc line (10 ∷ back) more

  pub endless_more : IsEndless seen → IsEndless (seen ++ more)
  endless_more h = record {
    front = h.front;
    back = h.back ++ more;
    size = h.size;
    free = h.free;
    stands = ap (λ bs. bs ++ more) h.stands ∙ append_assoc h.front h.back more;
  }

  pub formless_more : IsFormless seen → IsFormless (seen ++ more)
  formless_more h = record {
    line = h.line;
    back = h.back ++ more;
    free = h.free;
    none = h.none;
    stands = longer h.line h.back h.stands;
  }

  pub oversized_more : (l : ℕ) → IsOversized l seen → IsOversized l (seen ++ more)
  oversized_more l h = record {
    command = h.command;
    back = h.back ++ more;
    form = h.form;
    passed = h.passed;
    stands = longer (line_of h.command) h.back h.stands;
  }

  pub unclosed_more : (i : ℕ) → IsUnclosed i seen → IsUnclosed i (seen ++ more)
  unclosed_more i h = record {
    name = h.name;
    text = h.text;
    next = h.next;
    back = h.back ++ more;
    form = h.form;
    size = h.size;
    other = h.other;
    stands = longer (line_of (put h.name h.text)) (h.text ++ h.next ∷ h.back) h.stands
        ∙ ap (λ bs. line_of (put h.name h.text) ++ 10 ∷ bs) (append_assoc h.text (h.next ∷ h.back) more);
    place = h.place;
  }

  pub refused_more : (book : Book) (n : ℕ) (cs : List Command) → IsRefused book n cs seen → IsRefused book n cs (seen ++ more)
  refused_more book n cs h = record {
    command = h.command;
    back = h.back ++ more;
    form = h.form;
    size = h.size;
    refused = h.refused;
    before = h.before;
    stands = ap (λ bs. bs ++ more) h.stands ∙ append_assoc (spelling_of h.command) h.back more;
  }

-- bytes that were seen within the limit come next
pub next_seen : (bytes seen rest : List ℕ) → place_of bytes (seen ++ rest) + length seen ≤ INPUT_BYTES
    → (more : List ℕ) × (next_bytes bytes (seen ++ rest) ≡ seen ++ more)
next_seen bytes seen rest le =
    let size = INPUT_BYTES - place_of bytes (seen ++ rest) in
    let n = size - length seen in
    let whole : size ≡ length seen + n = omega (arith, le) in
    (take n rest, ap (λ k. take k (seen ++ rest)) whole ∙ take-append-add seen rest n)
