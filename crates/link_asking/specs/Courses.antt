-- A search along the segments and steps of a name, one after another.
use Rattle.std.specs.Prelude.{◌≡◌, ℕ, suc, List, [], ◌∷◌, ◌++◌, Option, None, Some}
use Rattle.std.specs.Option.{option_map}
use Rattle.element_store.specs.declared.numbers.ElementNo.{ElementNo}
use Rattle.element_store.specs.declared.outcome.Outcome.{Outcome}
use Rattle.element_store.specs.declared.outcome.Outcome.TheVariants.{Absent, Ambiguous}
use Rattle.element_store.specs.declared.models.StoredFile.{StoredFile}
use Rattle.element_store.specs.BaseRules.{StandsIn}
use Rattle.link_model.specs.Asking.{Course}
use Rattle.link_model.specs.Asking.Course.{Reached, Ended}
use Rattle.link_model.specs.Asking.{behind, later, met, nothing_visible, along, outcome_of}
use Rattle.link_model.specs.declared.keys.Hit.{Hit}
use Rattle.link_model.specs.declared.view.View.{View}
use Rattle.link_model.specs.Lexical.{Picked as Choice}
use Rattle.link_model.specs.Outside.{Library, library_of}
use Rattle.link_model.specs.Readers.{Lookup, LinkWorld, first_of}
use Rattle.link_walk.specs.Calls.{files_of, read_by}
use Rattle.link_walk.specs.Noted.{Asks, Noted, LinkTrail}
use Rattle.demand_core.specs.Search.{IsAsked}
use Rattle.link_tiers.specs.Answered.{Answered}
use Rattle.link_tiers.specs.declared.picking.Picked.{Picked}
use Rattle.link_tiers.specs.declared.picking.Picked.TheVariants as picked
use Rattle.link_asking.specs.declared.course.Course.{Course as CodeCourse}
use Rattle.link_asking.specs.declared.course.Course.TheVariants as code
use Rattle.link_asking.specs.declared.turns.Turn.{Turn}
use Rattle.link_asking.specs.declared.turns.Turn.TheVariants as turn

-- what code found, in the definition's words
abbrev pub course_of : CodeCourse → Course
course_of (code.Reached es) = Reached es
course_of (code.Ended o) = Ended o

-- the outcome of a course, if there is one, for a path of so many segments
abbrev pub outcome_if : ℕ → Option CodeCourse → Option Outcome
outcome_if n None = None
outcome_if n (Some k) = Some (outcome_of n (course_of k))

-- the segments of a path, and then the steps of a chain
abbrev pub names_of : List (List ℕ) → List (List ℕ) → List (List ℕ)
names_of path chain = path ++ chain

-- what follows what was picked for the first segment
abbrev pub first_turn : Picked → Turn
first_turn picked.Nothing = turn.Ended (Absent 1)
first_turn (picked.One e) = turn.On e
first_turn (picked.Several first second) = turn.Ended (Ambiguous 1 first second)

-- the end of a search, if it ended
abbrev pub ended_turn : Option Outcome → Option Turn
ended_turn None = None
ended_turn (Some o) = Some (turn.Ended o)

-- the elements found before, and a course from there
abbrev pub ahead : List ElementNo → Course → Course
ahead es (Reached fs) = Reached (es ++ fs)
ahead es (Ended o) = Ended o

-- One segment is decided, whatever names follow: the search waits, or it ends, or it goes on from one element, which
-- then stands before all that is found further on.
abbrev pub Turned : (List (List ℕ) → Lookup Course) → (List (List ℕ) → ElementNo → Lookup Course) → LinkWorld
    → Option Turn → Noted → Noted → Type 0
Turned whole again w None old new = (more : List (List ℕ)) → Answered (whole more w) None old new
Turned whole again w (Some (turn.Ended o)) old new =
    (more : List (List ℕ)) → Answered (whole more w) (Some (Ended o)) old new
Turned whole again w (Some (turn.On e)) old new = (more : List (List ℕ)) (y : Option Course) (end : Noted)
    → Answered (again more e w) y new end → Answered (whole more w) (option_map (behind e) y) old end

-- where the search goes on stands
abbrev pub StandsOn : List StoredFile → Option Turn → Type 0
StandsOn files None = Unit {0}
StandsOn files (Some (turn.On e)) = StandsIn files e
StandsOn files (Some (turn.Ended o)) = Unit {0}

-- the one element that was picked stands
abbrev pub PickStands : List StoredFile → Picked → Type 0
PickStands files (picked.One e) = StandsIn files e
PickStands files other = Unit {0}

-- OF A WHOLE SEARCH these elements are found, and these names are left to find from here
abbrev pub Leaves : Library → LinkWorld → ℕ → List (List ℕ) → ElementNo → List ElementNo → Asks Course → Noted → Noted
    → Type 0
Leaves lib w number names at found whole start here = (y : Option Course) (end : Noted)
    → Answered (later lib number names at w) y here end → Answered whole (option_map (ahead found) y) start end

-- what was picked for the segment of that number, whose name is x, is followed
abbrev pub Follows : View → ℕ → List ℕ → ElementNo → Choice → Option Turn → Noted → Noted → Type 0
Follows v number x at p turn old new = Turned
    (λ more. met (later (library_of (files_of v)) (suc number) more)
    (nothing_visible (library_of (files_of v)) number x at) number p)
    (later (library_of (files_of v)) (suc number)) (read_by v) turn old new

-- the segment of that number, whose name is x, is decided
abbrev pub Steps : View → ℕ → List ℕ → ElementNo → Option Turn → Noted → Noted → Type 0
Steps v number x at turn old new = Turned (λ more. later (library_of (files_of v)) number (x ∷ more) at)
    (later (library_of (files_of v)) (suc number)) (read_by v) turn old new

-- the first segment is decided, of any tiers the first of which that isn't empty gave this
abbrev pub Begins : View → LinkTrail Hit → Option Turn → Noted → Noted → Type 0
Begins v tier turn old new = (ts : List (Lookup (List Hit))) → IsAsked tier (first_of ts (read_by v))
    → Turned (along (library_of (files_of v)) ts) (later (library_of (files_of v)) 2) (read_by v) turn old new

-- the element from which a search goes on, if it does
abbrev pub onward : Option Turn → Option ElementNo
onward None = None
onward (Some (turn.On e)) = Some e
onward (Some (turn.Ended o)) = None

-- the course of a search whose last turn this is, and that found these elements
abbrev pub course_with : Turn → List ElementNo → CodeCourse
course_with (turn.On e) found = code.Reached found
course_with (turn.Ended o) found = code.Ended o

abbrev pub course_at : Option Turn → List ElementNo → Option CodeCourse
course_at None found = None
course_at (Some t) found = Some (course_with t found)

-- These names behind the first are found, from the element that it found, of any search that leaves them and has found
-- these elements.
abbrev pub GoesOn : View → List (List ℕ) → ElementNo → List ElementNo → Option CodeCourse → Noted → Noted → Type 0
GoesOn v names from found course old new = (whole : Asks Course) (start : Noted)
    → Leaves (library_of (files_of v)) (read_by v) 2 names from found whole start old
    → Answered whole (option_map course_of course) start new

-- a whole name is found, of any tiers the first of which that isn't empty gave this
abbrev pub RunsAlong : View → LinkTrail Hit → List (List ℕ) → Option CodeCourse → Noted → Noted → Type 0
RunsAlong v tier names course old new = (ts : List (Lookup (List Hit))) → IsAsked tier (first_of ts (read_by v))
    → Answered (along (library_of (files_of v)) ts names (read_by v)) (option_map course_of course) old new
