-- What `run` did, from what the session did and what was said.
use Rattle.std.proofs.Common.{◌≡◌, ◌∙◌, ℕ, true, false, List, [], ◌∷◌, ◌++◌, refl, sym, ap, subst, arith, inl, inr, append_assoc, append-nil}
use Rattle.std.specs.Prelude.{codes, ◌⊎◌}
use Rattle.std.specs.Fmt.{decimal}
use Rattle.linker_base.specs.Counts.{Rose}
use Rattle.book_model.specs.Book.{Book}
use Rattle.book_model.specs.Files.{LibraryTexts}
use Rattle.session_course.specs.Stops.{course_ending, Ending}
use Rattle.session_streams.specs.Moves.{Stream, Move, moved, Gave, GaveFront, IsSound, Fails, IsLater}
use Rattle.session_streams.specs.Serving.{Served, ServedFor, IsWhole}
use Rattle.session_streams.specs.Running.{is_session, usage_line, line_of, status_of, Streams, NoFault, RanQuietly, Said, Ran, HasCause}
use Rattle.session_streams.specs.declared.status.Status.{Status}
use Rattle.session_streams.specs.declared.status.Status.TheVariants.{Usage, WriteFault}
use Rattle.session_streams.proofs.Giving.{gave_none, gave_then, front_then}

-- a line ends with LF, so it isn't empty
some_line : (xs : List ℕ) (x : ℕ) → xs ++ x ∷ [] ≡ [] → ⊥
some_line [] x e = cc
some_line (y ∷ ys) x e = cc

-- the text of a line with a number couldn't be given
pub text_failed : (a b : Stream) (text : List ℕ) (number : ℕ) (status : Status) → GaveFront (moved a b) text × Fails (moved a b)
    → Said (moved a b) ((text ++ decimal number) ++ codes "\n") status WriteFault
text_failed a b text number status g =
    inr (
      refl,
      g.1,
      some_line (text ++ decimal number) 10,
      subst (λ bs. GaveFront (moved a b) bs) (sym (append_assoc text (decimal number) (codes "\n")))
          (front_then a a b [] text (decimal number ++ codes "\n") (gave_none a) g.0),
    )

-- its digits couldn't
pub digits_failed : (a b c : Stream) (text digits : List ℕ) (number : ℕ) (status : Status) → digits ≡ decimal number
    → Gave (moved a b) text × IsSound (moved a b) → GaveFront (moved b c) digits × Fails (moved b c)
    → Said (moved a c) ((text ++ decimal number) ++ codes "\n") status WriteFault
digits_failed a b c text digits number status is g h =
    inr (
      refl,
      (omega (arith, g.1, h.1), subst (λ n. Rose n c.faults) g.1 h.1.1),
      some_line (text ++ decimal number) 10,
      subst (λ bs. GaveFront (moved a c) ((text ++ bs) ++ codes "\n")) is (front_then a b c text digits (codes "\n") g.0 h.0),
    )

-- its LF couldn't
pub feed_failed : (a b c d : Stream) (text digits : List ℕ) (number : ℕ) (status : Status) → digits ≡ decimal number
    → Gave (moved a b) text × IsSound (moved a b) → Gave (moved b c) digits × IsSound (moved b c) → GaveFront (moved c d) (codes "\n") × Fails (moved c d)
    → Said (moved a d) ((text ++ decimal number) ++ codes "\n") status WriteFault
feed_failed a b c d text digits number status is g h k =
    inr (
      refl,
      (omega (arith, g.1, h.1, k.1), subst (λ n. Rose n d.faults) (h.1 ∙ g.1) k.1.1),
      some_line (text ++ decimal number) 10,
      subst (λ bs. GaveFront (moved a d) bs) (append-nil ((text ++ decimal number) ++ codes "\n"))
          (subst (λ bs. GaveFront (moved a d) (((text ++ bs) ++ codes "\n") ++ [])) is
          (front_then a c d (text ++ digits) (codes "\n") [] (gave_then a b c text digits g.0 h.0) k.0)),
    )

-- the whole line was given
pub number_said : (a b c d : Stream) (text digits : List ℕ) (number : ℕ) (status : Status) → digits ≡ decimal number
    → Gave (moved a b) text × IsSound (moved a b) → Gave (moved b c) digits × IsSound (moved b c) → Gave (moved c d) (codes "\n") × IsSound (moved c d)
    → Said (moved a d) ((text ++ decimal number) ++ codes "\n") status status
number_said a b c d text digits number status is g h k =
    inl (
      refl,
      k.1 ∙ (h.1 ∙ g.1),
      subst (λ bs. Gave (moved a d) ((text ++ bs) ++ codes "\n")) is
          (gave_then a c d (text ++ digits) (codes "\n") (gave_then a b c text digits g.0 h.0) k.0),
    )

-- where no sink and no source failed, the outcome of a whole session is that of its course
quiet_whole : (library : LibraryTexts) (words : List (List ℕ)) (bytes : List ℕ) (left : Book) (io : Streams) (e : Ending) (status : Status)
    → is_session words ≡ true
    → IsWhole library [] left bytes io.output e → status ≡ status_of e → Gave io.errors (line_of e) → RanQuietly library words bytes io status
quiet_whole library words bytes left io e status is s at g = inr (
  record { output = s.answers; errors = line_of (course_ending s.course); status = status_of (course_ending s.course) },
  inl (is, record { course = s.course; output = s.are; errors = refl; status = refl }),
  at ∙ ap status_of s.ends,
  s.given,
  subst (λ (x : Ending). Gave io.errors (line_of x)) s.ends g,
)

quiet_session : (library : LibraryTexts) (words : List (List ℕ)) (bytes : List ℕ) (left : Book) (io : Streams) (e : Ending) (status : Status)
    → is_session words ≡ true
    → Served library [] left bytes io.input io.output e → ServedFor io.input io.output e → NoFault io → status ≡ status_of e → Gave io.errors (line_of e)
    → RanQuietly library words bytes io status
quiet_session library words bytes left io Ending.Done status is s why none at g = quiet_whole library words bytes left io Ending.Done status is s at g
quiet_session library words bytes left io (Ending.Script n) status is s why none at g =
    quiet_whole library words bytes left io (Ending.Script n) status is s at g
quiet_session library words bytes left io (Ending.Limit n) status is s why none at g = quiet_whole library words bytes left io (Ending.Limit n) status is s at g
quiet_session library words bytes left io Ending.ReadFault status is s why none at g = absurd (none.input why.0)
quiet_session library words bytes left io Ending.WriteFault status is s why none at g = absurd (none.output why.1)
quiet_session library words bytes left io Ending.NoMemory status is s why none at g = inl at

-- the words are refused, and the session's clauses hold
pub quiet_said : (library : LibraryTexts) (words : List (List ℕ)) (bytes : List ℕ) (from left : Book) (io : Streams) (e : Ending) (status : Status)
    → is_session words ≡ true → from ≡ []
    → Served library from left bytes io.input io.output e → ServedFor io.input io.output e → Said io.errors (line_of e) (status_of e) status → NoFault io
    → RanQuietly library words bytes io status
quiet_said library words bytes from left io e status is empty s why (inl r) none =
    quiet_session library words bytes left io e status is (subst (λ (b : Book). Served library b left bytes io.input io.output e) empty s) why none r.0 r.2
quiet_said library words bytes from left io e status is empty s why (inr r) none = absurd (none.errors r.1)

pub quiet_usage : (library : LibraryTexts) (words : List (List ℕ)) (bytes : List ℕ) (io : Streams) (status : Status) → is_session words ≡ false
    → Gave io.output []
    → Said io.errors usage_line Usage status → NoFault io → RanQuietly library words bytes io status
quiet_usage library words bytes io status is out (inl r) none = inr (record { output = []; errors = usage_line; status = Usage }, inr (is, refl), r.0, out, r.2)
quiet_usage library words bytes io status is out (inr r) none = absurd (none.errors r.1)

-- the causes
causes_whole : (io : Streams) (e : Ending) → ServedFor io.input io.output e → IsSound io.errors → HasCause io (status_of e)
causes_whole io Ending.Done w h = record { input = w.0; output = w.1; errors = h }
causes_whole io (Ending.Script n) w h = record { input = w.0; output = w.1; errors = h }
causes_whole io (Ending.Limit n) w h = record { input = w.0; output = w.1; errors = h }
causes_whole io Ending.ReadFault w h = record { input = w.0; output = w.1; errors = h }
causes_whole io Ending.WriteFault w h = inl (w.0, w.1, h)
causes_whole io Ending.NoMemory w h = record { input = w.0; output = w.1; errors = h }

-- where a line was to be said, the output didn't fail
causes_said : (io : Streams) (e : Ending) → ServedFor io.input io.output e → (line_of e ≡ [] → ⊥) → IsLater io.input × IsSound io.output
causes_said io Ending.Done w some = absurd (some refl)
causes_said io (Ending.Script n) w some = (omega (arith, w.0), w.1)
causes_said io (Ending.Limit n) w some = (omega (arith, w.0), w.1)
causes_said io Ending.ReadFault w some = (w.0.0, w.1)
causes_said io Ending.WriteFault w some = absurd (some refl)
causes_said io Ending.NoMemory w some = (omega (arith, w.0), w.1)

pub causes_session : (io : Streams) (e : Ending) (status : Status) → ServedFor io.input io.output e → Said io.errors (line_of e) (status_of e) status
    → HasCause io status
causes_session io e status w (inl r) = subst (λ (x : Status). HasCause io x) (sym r.0) (causes_whole io e w r.1)
causes_session io e status w (inr r) = let both = causes_said io e w r.2 in subst (λ (x : Status). HasCause io x) (sym r.0) (inr (both.0, both.1, r.1))

pub causes_usage : (io : Streams) (status : Status) → IsSound io.input → IsSound io.output → Said io.errors usage_line Usage status → HasCause io status
causes_usage io status i o (inl r) = subst (λ (x : Status). HasCause io x) (sym r.0) (record { input = i; output = o; errors = r.1 })
causes_usage io status i o (inr r) = subst (λ (x : Status). HasCause io x) (sym r.0) (inr (omega (arith, i), o, r.1))

-- the session over no files
pub ran_session : (library : LibraryTexts) (words : List (List ℕ)) (bytes : List ℕ) (from left : Book) (io : Streams) (e : Ending) (status : Status)
    → is_session words ≡ true → from ≡ []
    → Served library from left bytes io.input io.output e → Said io.errors (line_of e) (status_of e) status → Ran library words bytes io status
ran_session library words bytes from left io e status is none s said =
    inl (is, left, e, subst (λ (b : Book). Served library b left bytes io.input io.output e) none s, said)

-- no ending of a session has the status Usage
never_usage : (e : Ending) → status_of e ≡ Usage → ⊥
never_usage Ending.Done is = cc
never_usage (Ending.Script n) is = cc
never_usage (Ending.Limit n) is = cc
never_usage Ending.ReadFault is = cc
never_usage Ending.WriteFault is = cc
never_usage Ending.NoMemory is = cc

pub said_no_usage : (errors : Move) (e : Ending) (status : Status) → Said errors (line_of e) (status_of e) status → status ≡ Usage → ⊥
said_no_usage errors e status (inl r) is = never_usage e (sym r.0 ∙ is)
said_no_usage errors e status (inr r) is = let h : WriteFault ≡ Usage = sym r.0 ∙ is in cc

pub said_usage : (errors : Move) (status : Status) → Said errors usage_line Usage status → (status ≡ Usage) ⊎ (status ≡ WriteFault)
said_usage errors status (inl r) = inl r.0
said_usage errors status (inr r) = inr r.0
