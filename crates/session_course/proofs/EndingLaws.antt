-- What the stop of a course says.
use Rattle.std.proofs.Common.{◌≡◌, ℕ, Bool, List, refl, arith}
use Rattle.book_model.specs.Book.{Book}
use Rattle.session_course.specs.Commands.{Command}
use Rattle.session_course.specs.Cut.{EndsWithEnd, IsCut}
use Rattle.session_course.specs.Stops.{Stop, IsStop, Course, Ending, ending_at, IsOpen, IsForGood, IsDoneByEnd}
use Rattle.session_course.proofs.CutLaws.{cut_stops}
use Rattle.session_course.proofs.RowLaws.{row_none}

module _ (from : Book) (commands : List Command) (bytes rest : List ℕ) where
  -- a session that is done has read `end`
  end_of : (place size : ℕ) (s : Stop) → IsStop from commands bytes rest s → ending_at place size s ≡ Ending.Done → EndsWithEnd commands
  end_of place size Stop.Ended i e = i.holds
  end_of place size Stop.LongLine i e = absurd (cc)
  end_of place size Stop.NoForm i e = absurd (cc)
  end_of place size (Stop.LongText l) i e = absurd (cc)
  end_of place size (Stop.NoLineFeed k) i e = absurd (cc)
  end_of place size (Stop.NoRoom n cs) i e = absurd (cc)
  end_of place size Stop.LongInput i e = absurd (cc)
  end_of place size Stop.CutShort i e = absurd (cc)

  -- and one that has read it is done
  done_by : (place size : ℕ) (s : Stop) → IsStop from commands bytes rest s → EndsWithEnd commands → ending_at place size s ≡ Ending.Done
  done_by place size Stop.Ended i e = refl
  done_by place size Stop.LongLine i e = absurd (i.first Stop.Ended (omega arith) e)
  done_by place size Stop.NoForm i e = absurd (i.first Stop.Ended (omega arith) e)
  done_by place size (Stop.LongText l) i e = absurd (i.first Stop.Ended (omega arith) e)
  done_by place size (Stop.NoLineFeed k) i e = absurd (i.first Stop.Ended (omega arith) e)
  done_by place size (Stop.NoRoom n cs) i e = absurd (i.first Stop.Ended (omega arith) e)
  done_by place size Stop.LongInput i e = absurd (i.first Stop.Ended (omega arith) e)
  done_by place size Stop.CutShort i e = absurd (i.first Stop.Ended (omega arith) e)

-- a session is done exactly where its commands end with `end`
pub done_exactly : (ended : Bool) (from : Book) (bytes : List ℕ) (c : Course ended from bytes) → IsDoneByEnd c
done_exactly ended from bytes c = record {
  read = λ e. end_of from c.commands bytes c.rest _ _ c.stop c.stops e;
  done = λ e. done_by from c.commands bytes c.rest _ _ c.stop c.stops e;
}

-- after commands of which none is `end`, a row that holds for good ends the cut
pub cut_here : (ended : Bool) (from : Book) (cs : List Command) (bytes rest : List ℕ) (s : Stop) → IsOpen ended from cs bytes rest
    → IsForGood from cs bytes rest s → IsCut ended from cs bytes rest
cut_here ended from cs bytes rest s o g =
    cut_stops ended from cs bytes rest o.reading
    (λ c more ok begins le. row_none from cs bytes rest o.open_ ended s g.after g.before g.holds c more ok begins)
