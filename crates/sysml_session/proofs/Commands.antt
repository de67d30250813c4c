-- What a project did for a command, as a session sees it.
use Rattle.std.proofs.Common.{◌≡◌, ℕ, ◌<◌, ◌^◌, ◌++◌, List, length, refl, sym, subst, arith, inl, inr, length-append}
use Rattle.std.specs.Prelude.{codes, false, Option, Some, None, Result, Ok, Err}
use Rattle.book_model.specs.Answers.{Command as Asked}
use Rattle.outside_core.specs.Streams.{GivesAll}
use Rattle.session_course.specs.Commands.{Command as Meant}
use Rattle.script_commands.specs.Reading.{IsGood}
use Rattle.session_streams.specs.Moves.{Move, moved, Gave, GaveFront}
use Rattle.sysml_session.specs.Answered as asked
use Rattle.sysml_session.specs.Answered.{Holding}
use Rattle.sysml_session.specs.Turns.{HasAnswer, IsDone, IsAnswered, IsWritten, flow_after}
use Rattle.sysml_session.specs.declared.answering.AnswerFault.{AnswerFault}
use Rattle.sysml_session.specs.declared.answering.AnswerFault.TheVariants as answer
use Rattle.sysml_session.specs.declared.fault.ServeFault.{ServeFault}
use Rattle.sysml_session.specs.declared.fault.ServeFault.TheVariants.{ReadFault, WriteFault, Script, Limit, NoMemory}
use Rattle.sysml_session.specs.declared.serving.Flow.{Flow}
use Rattle.sysml_session.specs.declared.serving.Flow.TheVariants.{GoesOn, Ended}

module _ (before after : Holding) (c : Asked) where
  abbrev pub has_so : asked.HasAnswer before c → HasAnswer before (Meant.Do c)
  has_so h = record { room = h.room; answer = h.answer; is = h.is }

  abbrev pub done_so : asked.IsDone before after c → IsDone before after (Meant.Do c)
  done_so d = record { has = has_so d.has; book = d.book; library = d.library; whole = d.whole }

  -- a command that isn't `end` was answered
  pub answered_do : (output : Move) (r : Result (Unit {0}) AnswerFault) → asked.IsAnswered before after c output r
      → IsAnswered before after (Meant.Do c) output (flow_after r)
  answered_do output (Ok u) (d, gave, sound) = (done_so d, gave, sound, λ e. cc)
  answered_do output (Err (answer.Limit number)) h = h
  answered_do output (Err answer.WriteFault) (d, gave, fails) = (done_so d, gave, fails)
  answered_do output (Err answer.NoMemory) (inl none, sound) = (inl none, sound)
  answered_do output (Err answer.NoMemory) (inr (h, gave), sound) = (inr (has_so h, gave), sound)

-- the same, of the command that was read
pub answered_as : (before after : Holding) (c : Asked) (output : Move) (r : Result (Unit {0}) AnswerFault) (meant : Meant) (s : Result Flow ServeFault)
    → meant ≡ Meant.Do c → s ≡ flow_after r → asked.IsAnswered before after c output r → IsAnswered before after meant output s
answered_as before after c output r meant s is same h =
    subst (λ (m : Meant). IsAnswered before after m output s) (sym is)
    (subst (λ (x : Result Flow ServeFault). IsAnswered before after (Meant.Do c) output x) (sym same) (answered_do before after c output r h))

-- the words of a finding are short
pub find_short : (words : List ℕ) (meant : Meant) → meant ≡ Meant.Do (Asked.Find words) → IsGood meant → length words < 2 ^ 32
find_short words meant is good =
    let short = (subst IsGood is good).short in omega (arith, short, length-append (codes "find ") words)

-- `end` was answered
pub end_answered : (held : Holding) (output : Move) (meant : Meant) (r : Result Flow ServeFault) → meant ≡ Meant.End → held.broken ≡ false
    → IsWritten output r → IsAnswered held held meant output r
end_answered held output meant r is whole h = subst (λ (m : Meant). IsAnswered held held m output r) (sym is) (by r h)
  where
    done : IsDone held held Meant.End
    done = record { has = record { room = refl; answer = codes "end\n"; is = refl }; book = refl; library = refl; whole = whole }

    by : (r : Result Flow ServeFault) → IsWritten output r → IsAnswered held held Meant.End output r
    by (Ok Ended) k = (done, k.0, k.1, refl)
    by (Ok GoesOn) k = absurd k
    by (Err WriteFault) k = (done, k.0, k.1)
    by (Err ReadFault) k = k
    by (Err (Script at)) k = k
    by (Err (Limit number)) k = absurd k
    by (Err NoMemory) k = absurd k

-- a whole piece was given
pub gave_all : (E : Type 0) (told now : Option (List ℕ)) (m n : ℕ) (u : Unit {0}) (piece : List ℕ) → GivesAll {T = Unit {0}} {E = E} told now (Ok u) piece
    → Gave (moved (record { told = told; faults = m }) (record { told = now; faults = n })) piece
gave_all E None now m n u piece g = g
gave_all E (Some bytes) now m n u piece g = g

-- or a front of it
pub gave_front : (E : Type 0) (told now : Option (List ℕ)) (m n : ℕ) (e : E) (piece : List ℕ) → GivesAll {T = Unit {0}} {E = E} told now (Err e) piece
    → GaveFront (moved (record { told = told; faults = m }) (record { told = now; faults = n })) piece
gave_front E None now m n e piece g = (0, g)
gave_front E (Some bytes) now m n e piece g = (g.0, g.2)
