-- The beginning of a session and its end.
use Rattle.std.proofs.Common.{◌≡◌, ℕ, List, [], refl, sym, subst, arith}
use Rattle.std.specs.Prelude.{Option, Some}
use Rattle.book_model.specs.Book.{Book}
use Rattle.book_model.specs.Files.{LibraryTexts}
use Rattle.session_course.specs.Stops.{Ending}
use Rattle.session_streams.specs.Moves.{Stream, moved}
use Rattle.session_streams.specs.Serving.{IsWhole, IsBroken, IsPart, Served}
use Rattle.session_streams.proofs.Giving.{gave_none}
use Rattle.session_streams.proofs.ServeLemmas.{Progress, part_here}
use Rattle.script_commands.specs.Reading.{Window}
use Rattle.sysml_session.specs.Answered.{Holding}
use Rattle.sysml_session.specs.Turns.{sight, telling, OnWay}

-- nothing was read yet
abbrev pub fresh : (library : LibraryTexts) (book : Book) (output : Stream) → Progress library book book [] (moved output output)
fresh library book output = record {
  commands = [];
  taken = [];
  none_ends = tt;
  reads = refl;
  left = refl;
  answers = [];
  are = refl;
  given = gave_none output;
  within = omega arith;
}

-- a session begins
pub way_begun : (held : Holding) (w : Window) (left given : Option (List ℕ)) → w ≡ record { used = 0; pending = [] }
    → (bytes : List ℕ) → left ≡ Some bytes → OnWay (sight held w left given) (sight held w left given) bytes
way_begun held w left given is bytes told =
    subst (λ (x : Window). OnWay (sight held x left given) (sight held x left given) bytes) (sym is) (record {
      library = refl;
      progress = fresh held.library held.book (record { told = given; faults = 0 });
      place = refl;
      rest = bytes;
      left = told;
      stands = refl;
    })

-- no memory for a reader
pub nothing_served : (held : Holding) (output : Stream) (bytes : List ℕ) → IsPart held.library held.book bytes (moved output output)
nothing_served held output bytes = part_here (fresh held.library held.book output) bytes bytes refl

module _ (library : LibraryTexts) (from left : Book) (bytes : List ℕ) (a b c d : Option (List ℕ)) (m n k l : ℕ) where
  whole_so : (e : Ending) → IsWhole library from left bytes (telling c d) e
      → IsWhole library from left bytes (moved (record { told = c; faults = k }) (record { told = d; faults = l })) e
  whole_so e h = record { course = h.course; ends = h.ends; answers = h.answers; are = h.are; given = h.given; book = h.book }

  abbrev pub part_so : IsPart library from bytes (telling c d)
      → IsPart library from bytes (moved (record { told = c; faults = k }) (record { told = d; faults = l }))
  part_so h = record {
    done = h.done;
    next = h.next;
    one = h.one;
    first = h.first;
    answers = h.answers;
    are = h.are;
    coming = h.coming;
    come = h.come;
    size = h.size;
    given = h.given;
  }

  broken_so : IsBroken library from left bytes (telling a b) (telling c d)
      → IsBroken library from left bytes (moved (record { told = a; faults = m }) (record { told = b; faults = n }))
      (moved (record { told = c; faults = k }) (record { told = d; faults = l }))
  broken_so h = record {
    taken = h.taken;
    rest = h.rest;
    whole = h.whole;
    told = h.told;
    course = h.course;
    stop = h.stop;
    answers = h.answers;
    are = h.are;
    given = h.given;
    book = h.book;
  }

  -- what streams tell says what was served, whatever their faults
  pub served_so : (e : Ending) → Served library from left bytes (telling a b) (telling c d) e
      → Served library from left bytes (moved (record { told = a; faults = m }) (record { told = b; faults = n }))
      (moved (record { told = c; faults = k }) (record { told = d; faults = l })) e
  served_so Ending.Done h = whole_so Ending.Done h
  served_so (Ending.Script at) h = whole_so (Ending.Script at) h
  served_so (Ending.Limit number) h = whole_so (Ending.Limit number) h
  served_so Ending.ReadFault h = broken_so h
  served_so Ending.WriteFault h = (part_so h.0, h.1)
  served_so Ending.NoMemory h = part_so h
