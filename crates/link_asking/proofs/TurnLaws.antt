-- One segment after another.
use Rattle.std.proofs.Common.{
  ◌≡◌,
  ◌∙◌,
  ℕ,
  ◌<◌,
  Bool,
  true,
  false,
  cond,
  not,
  List,
  [],
  ◌∷◌,
  ◌++◌,
  ◌+◌,
  ◌≤◌,
  map,
  length,
  drop,
  get_or,
  refl,
  sym,
  ap,
  subst,
  inl,
  inr,
  append-nil,
  append_assoc,
  arith,
}
use Rattle.std.specs.Prelude.{◌⊎◌, zero, suc, slice_get, Option, None, Some}
use Rattle.std.specs.Option.{option_map}
use Rattle.linker_base.specs.Members.{IsMember, SameMembers}
use Rattle.linker_base.proofs.Cases.{bool_cases, some_same}
use Rattle.demand_core.specs.Computation.{done, ◌>>=◌}
use Rattle.demand_core.specs.Search.{IsAsked}
use Rattle.demand_core.specs.declared.step.Step.{Step}
use Rattle.element_store.specs.declared.numbers.ElementNo.{ElementNo}
use Rattle.element_store.specs.declared.numbers.MemberNo.{MemberNo}
use Rattle.element_store.specs.declared.outcome.Outcome.{Outcome}
use Rattle.element_store.specs.declared.outcome.Outcome.TheVariants.{Absent, Ambiguous}
use Rattle.element_store.specs.declared.models.StoredFile.{StoredFile}
use Rattle.element_store.specs.BaseRules.{StandsIn}
use Rattle.element_store.specs.Numbers.{those_where}
use Rattle.element_store.specs.Stored.{AreFiles}
use Rattle.link_model.specs.declared.keys.LinkKey.{LinkKey}
use Rattle.link_model.specs.declared.keys.Hit.{Hit}
use Rattle.link_model.specs.declared.view.View.{View}
use Rattle.link_model.specs.Keys.{same_element}
use Rattle.link_model.specs.Outside.{Library, library_of}
use Rattle.link_model.specs.Imports.{visible}
use Rattle.link_model.specs.Lexical.{Ranked, is_before, lesser, least_of, pick, picked_with, picked_from, Picked as Choice}
use Rattle.link_model.specs.Lexical.Picked.{Nothing, One, Several}
use Rattle.link_model.specs.Readers.{Lookup, LinkWorld, first_of}
use Rattle.link_model.specs.Asking.{Course, behind, met, nothing_visible, later, along}
use Rattle.link_model.specs.Asking.Course.{Reached, Ended}
use Rattle.link_walk.specs.Calls.{files_of, read_by, reading}
use Rattle.link_walk.specs.Noted.{Noted, Asks, LinkTrail, noted}
use Rattle.link_tiers.specs.Answered.{IsAnswer, Answered}
use Rattle.link_tiers.specs.Picks.{ranked, picked_of}
use Rattle.link_tiers.specs.Tiers.{AreHits}
use Rattle.link_tiers.specs.declared.picking.Picked.{Picked}
use Rattle.link_tiers.specs.declared.picking.Picked.TheVariants as picked
use Rattle.link_tiers.proofs.AnsweredLaws.{answered_then, answered_stop, answered_done, answered_on, answered_wait}
use Rattle.link_tiers.proofs.PickLaws.{pick_same, pick_is, chosen_of, ranked_item}
use Rattle.link_asking.specs.Courses.{
  course_of,
  course_at,
  onward,
  ahead,
  Turned,
  PickStands,
  Leaves,
  Follows,
  Steps,
  Begins,
  GoesOn,
  RunsAlong,
  first_turn,
  ended_turn,
  StandsOn,
}
use Rattle.link_asking.specs.declared.course.Course.{Course as CodeCourse}
use Rattle.link_asking.specs.declared.course.Course.TheVariants as code
use Rattle.link_asking.specs.declared.turns.Turn.{Turn}
use Rattle.link_asking.specs.declared.turns.Turn.TheVariants as turn
use Rattle.link_asking.proofs.OutcomeLaws.{drop_here, drop_past}

-- the names that are left
abbrev Names : Type 0
Names = List (List ℕ)

-- what follows one element
pub met_one : (w : LinkWorld) (again : ElementNo → Lookup Course) (nothing : Lookup Course) (n : ℕ) (e : ElementNo) (y : Option Course) (old end : Noted)
    → Answered (again e w) y old end → Answered (met again nothing n (One e) w) (option_map (behind e) y) old end
met_one w again nothing n e None old end a = answered_stop w (again e) (λ c. done (behind e c)) old end a
met_one w again nothing n e (Some c) old end a =
    answered_then w (again e) (λ c. done (behind e c)) c (Some (behind e c)) old end end a (answered_done w (behind e c) end)

-- a first thing is answered, and then a segment is decided
turned_after : {A : Type 0} (w : LinkWorld) (c : Lookup A) (f : Names → A → Lookup Course) (again : Names → ElementNo → Lookup Course) (p : A) (t : Option Turn)
    (old mid new : Noted) → Answered (c w) (Some p) old mid → Turned (λ more. f more p) again w t mid new → Turned (λ more. c >>= f more) again w t old new
turned_after w c f again p None old mid new a t = λ more. answered_then w c (f more) p None old mid new a (t more)
turned_after w c f again p (Some (turn.Ended o)) old mid new a t = λ more. answered_then w c (f more) p (Some (Ended o)) old mid new a (t more)
turned_after w c f again p (Some (turn.On e)) old mid new a t =
    λ more y end b. answered_then w c (f more) p (option_map (behind e) y) old mid end a (t more y end b)

module _ (v : View) where
  -- NOTHING was picked for a later segment
  pub follows_hidden : (n : ℕ) (x : List ℕ) (at : ElementNo) (o : Option Outcome) (old new : Noted)
      → Answered (nothing_visible (library_of (files_of v)) n x at (read_by v)) (option_map Ended o) old new → Follows v n x at Nothing (ended_turn o) old new
  follows_hidden n x at None old new a = λ more. a
  follows_hidden n x at (Some o) old new a = λ more. a

  -- one element was
  pub follows_one : (n : ℕ) (x : List ℕ) (at e : ElementNo) (old : Noted) → Follows v n x at (One e) (Some (turn.On e)) old old
  follows_one n x at e old = λ more y end a.
      met_one (read_by v) (later (library_of (files_of v)) (suc n) more) (nothing_visible (library_of (files_of v)) n x at) n e y old end a

  -- several were
  pub follows_several : (n : ℕ) (x : List ℕ) (at : ElementNo) (a b : MemberNo) (old : Noted)
      → Follows v n x at (Several a b) (Some (turn.Ended (Ambiguous n a b))) old old
  follows_several n x at a b old = λ more. answered_done (read_by v) (Ended (Ambiguous n a b)) old

  -- the first segment
  pub first_follows : (p : Picked) (old : Noted) → Turned
      (λ more. met (later (library_of (files_of v)) 2 more) (done (Ended (Absent 1))) 1 (picked_of p)) (later (library_of (files_of v)) 2) (read_by v)
      (Some (first_turn p)) old old
  first_follows picked.Nothing old = λ more. answered_done (read_by v) (Ended (Absent 1)) old
  first_follows (picked.One e) old = λ more y end a. met_one (read_by v) (later (library_of (files_of v)) 2 more) (done (Ended (Absent 1))) 1 e y old end a
  first_follows (picked.Several a b) old = λ more. answered_done (read_by v) (Ended (Ambiguous 1 a b)) old

  abbrev look_in : List ℕ → ElementNo → Lookup (List Hit)
  look_in x at = visible (library_of (files_of v)) x [] false false at

  -- A LATER SEGMENT waits on what is visible, or goes on with what is picked of it
  pub steps_wait : (n : ℕ) (x : List ℕ) (at : ElementNo) (g : LinkTrail Hit) (old new : Noted) → IsAsked g (look_in x at (read_by v)) → (g.waits ≡ [] → ⊥)
      → new ≡ noted g.waits g.looks old → Steps v n x at None old new
  steps_wait n x at g old new a some is = λ more.
      answered_stop (read_by v) (look_in x at >>= pick)
      (met (later (library_of (files_of v)) (suc n) more) (nothing_visible (library_of (files_of v)) n x at) n) old new
      (answered_wait (read_by v) g (look_in x at) pick old new a some is)

  pub steps_on : (n : ℕ) (x : List ℕ) (at : ElementNo) (g : LinkTrail Hit) (p : Choice) (t : Option Turn) (old mid chosen new : Noted) → AreFiles (files_of v)
      → AreHits (files_of v) g.found → IsAsked g (look_in x at (read_by v)) → g.waits ≡ [] → mid ≡ noted g.waits g.looks old
      → Answered (pick g.found (read_by v)) (Some p) mid chosen → Follows v n x at p t chosen new → Steps v n x at t old new
  steps_on n x at g p t old mid chosen new are hits a none is picks f =
      turned_after (read_by v) (look_in x at >>= pick)
      (λ more. met (later (library_of (files_of v)) (suc n) more) (nothing_visible (library_of (files_of v)) n x at) n)
      (later (library_of (files_of v)) (suc n)) p t old chosen new
      (answered_on (read_by v) g (look_in x at) pick (Some p) old mid chosen a none is
      (λ ys s. pick_same v.models.now v.table.now are g.found ys s hits) picks) f

  -- THE FIRST SEGMENT waits on its tiers, or goes on with what is picked of them
  pub begins_wait : (g : LinkTrail Hit) (old new : Noted) → (g.waits ≡ [] → ⊥) → new ≡ noted g.waits g.looks old → Begins v g None old new
  begins_wait g old new some is = λ ts a more.
      answered_stop (read_by v) (first_of ts >>= pick) (met (later (library_of (files_of v)) 2 more) (done (Ended (Absent 1))) 1) old new
      (answered_wait (read_by v) g (first_of ts) pick old new a some is)

  pub begins_on : (g : LinkTrail Hit) (p : Picked) (old mid new : Noted) → AreFiles (files_of v) → AreHits (files_of v) g.found → g.waits ≡ []
      → mid ≡ noted g.waits g.looks old → Answered (pick g.found (read_by v)) (Some (picked_of p)) mid new → Begins v g (Some (first_turn p)) old new
  begins_on g p old mid new are hits none is picks = λ ts a.
      turned_after (read_by v) (first_of ts >>= pick) (λ more. met (later (library_of (files_of v)) 2 more) (done (Ended (Absent 1))) 1)
      (later (library_of (files_of v)) 2) (picked_of p) (Some (first_turn p)) old new new
      (answered_on (read_by v) g (first_of ts) pick (Some (picked_of p)) old mid new a none is
      (λ ys s. pick_same v.models.now v.table.now are g.found ys s hits) picks) (first_follows p new)

-- WHAT IS PICKED is an element of a hit
least_among : {A : Type 0} (rs : List (Ranked A)) (a : Ranked A) → least_of rs ≡ Some a → IsMember rs a
least_among {A = A} [] a e = cc
least_among {A = A} (r ∷ rs) a e = by (least_of rs) refl (least_among rs) e
  where
    by : (o : Option (Ranked A)) → least_of rs ≡ o → ((b : Ranked A) → least_of rs ≡ Some b → IsMember rs b) → lesser r o ≡ Some a → IsMember (r ∷ rs) a
    by None none more e = inl (some_same r a e)
    by (Some b) some more e = elim (bool_cases (is_before b r)) [
      | inl t ↦ let is : Some b ≡ Some a = rw t at e in inr (subst (IsMember rs) (some_same b a is) (more b some))
      | inr t ↦ let is : Some r ≡ Some a = rw t at e in inl (some_same r a is)
    ]

ranked_from : (files : List StoredFile) (hs : List Hit) (a : Ranked Hit) → IsMember (map (ranked files) hs) a → IsMember hs a.item
ranked_from files [] a m = absurd m
ranked_from files (h ∷ hs) a (inl e) = inl (sym (ranked_item (slice_get files h.member.file.0) h.member.index h) ∙ ap (λ (r : Ranked Hit). r.item) e)
ranked_from files (h ∷ hs) a (inr m) = inr (ranked_from files hs a m)

one_same : (a b : ElementNo) → One a ≡ One b → a ≡ b
one_same a b e = cc

chosen_one : (files : List StoredFile) (hs : List Hit) (e : ElementNo) → One e ≡ chosen_of files hs
    → (h : Hit) × IsMember hs h × (h.element ≡ e)
chosen_one files hs e is = by (least_of (map (ranked files) hs)) refl is
  where
    by : (o : Option (Ranked Hit)) → least_of (map (ranked files) hs) ≡ o → One e ≡ picked_from (map (ranked files) hs) o
        → (h : Hit) × IsMember hs h × (h.element ≡ e)
    by None none is = cc
    by (Some a) some is =
        by_second (least_of (those_where (λ b. not (same_element b.item.element a.item.element)) (map (ranked files) hs))) is
      where
        by_second : (o : Option (Ranked Hit)) → One e ≡ picked_with a.item o → (h : Hit) × IsMember hs h × (h.element ≡ e)
        by_second None is = (a.item, ranked_from files hs a (least_among (map (ranked files) hs) a some), sym (one_same e a.item.element is))
        by_second (Some b) is = cc

-- so it stands
pub pick_stands : (v : View) (hs : List Hit) (p : Picked) (old new : Noted) → AreHits (files_of v) hs
    → Answered (pick hs (read_by v)) (Some (picked_of p)) old new → PickStands (files_of v) p
pick_stands v hs picked.Nothing old new hits a = tt
pick_stands v hs (picked.Several first second) old new hits a = tt
pick_stands v hs (picked.One e) old new hits a =
    let told = subst (λ z. IsAnswer z (Some (One e)) old.waits new.waits) (pick_is v.models.now v.table.now hs) a.step in
    let there = chosen_one v.models.now hs e (some_same _ _ told.0) in
    subst (StandsIn (files_of v)) there.2 (hits there.0 there.1).1

-- what the first segment found stands
pub first_stands : (files : List StoredFile) (p : Picked) → PickStands files p → StandsOn files (Some (first_turn p))
first_stands files picked.Nothing h = tt
first_stands files (picked.One e) h = h
first_stands files (picked.Several first second) h = tt

-- where it ended nothing goes on
pub ended_stands : (files : List StoredFile) (o : Option Outcome) → StandsOn files (ended_turn o)
ended_stands files None = tt
ended_stands files (Some o) = tt

-- THE SEARCH ALONG THE NAMES
ahead_behind : (found : List ElementNo) (e : ElementNo) (y : Option Course) → option_map (ahead found) (option_map (behind e) y)
    ≡ option_map (ahead (found ++ e ∷ [])) y
ahead_behind found e None = refl
ahead_behind found e (Some (Reached es)) = ap (λ zs. Some (Reached zs)) (sym (append_assoc found (e ∷ []) es))
ahead_behind found e (Some (Ended o)) = refl

module _ (v : View) (whole : Asks Course) (start : Noted) where
  abbrev pub IsLeft : ℕ → Names → ElementNo → List ElementNo → Noted → Type 0
  IsLeft n names at found here = Leaves (library_of (files_of v)) (read_by v) n names at found whole start here

  -- the search waits
  pub left_waits : (n : ℕ) (x : List ℕ) (more : Names) (at : ElementNo) (found : List ElementNo) (here new : Noted) → IsLeft n (x ∷ more) at found here
      → Steps v n x at None here new → Answered whole None start new
  left_waits n x more at found here new left step = left None new (step more)

  -- it ends
  pub left_ends : (n : ℕ) (x : List ℕ) (more : Names) (at : ElementNo) (found : List ElementNo) (o : Outcome) (here new : Noted)
      → IsLeft n (x ∷ more) at found here → Steps v n x at (Some (turn.Ended o)) here new → Answered whole (Some (Ended o)) start new
  left_ends n x more at found o here new left step = left (Some (Ended o)) new (step more)

  -- it goes on
  pub left_on : (n : ℕ) (x : List ℕ) (more : Names) (at e : ElementNo) (found : List ElementNo) (here new : Noted)
      → IsLeft n (x ∷ more) at found here → Steps v n x at (Some (turn.On e)) here new → IsLeft (suc n) more e (found ++ e ∷ []) new
  left_on n x more at e found here new left step = λ y end a.
      subst (λ z. Answered whole z start end) (ahead_behind found e y) (left (option_map (behind e) y) end (step more y end a))

  -- no name is left
  pub left_all : (n : ℕ) (at : ElementNo) (found : List ElementNo) (here : Noted) → IsLeft n [] at found here → Answered whole (Some (Reached found)) start here
  left_all n at found here left =
      subst (λ zs. Answered whole (Some (Reached zs)) start here) (append-nil found)
      (left (Some (Reached [])) here (answered_done (read_by v) (Reached []) here))

-- OF THE NAMES behind the first as many are found as that number says: of any search that left them all, the rest is left
abbrev pub AreLeft : View → Names → ElementNo → List ElementNo → Noted → ℕ → ElementNo → List ElementNo → Noted → Type 0
AreLeft v names from begun old n at found here = (whole : Asks Course) (start : Noted)
    → Leaves (library_of (files_of v)) (read_by v) 2 (drop 1 names) from begun whole start old
    → Leaves (library_of (files_of v)) (read_by v) (n + 1) (drop n names) at found whole start here

module _ (v : View) (names : Names) (from : ElementNo) (begun : List ElementNo) (old : Noted) where
  pub left_first : AreLeft v names from begun old 1 from begun old
  left_first = λ whole start h. h

  -- one name more is left, where it isn't the last
  left_name : (n : ℕ) (x : List ℕ) (at : ElementNo) (found : List ElementNo) (here : Noted) → n < length names → x ≡ get_or names n []
      → AreLeft v names from begun old n at found here → (whole : Asks Course) (start : Noted)
      → Leaves (library_of (files_of v)) (read_by v) 2 (drop 1 names) from begun whole start old
      → IsLeft v whole start (n + 1) (x ∷ drop (n + 1) names) at found here
  left_name n x at found here lt is left whole start h =
      subst (λ xs. IsLeft v whole start (n + 1) xs at found here) (drop_here names n x [] lt is) (left whole start h)

  pub left_next : (n : ℕ) (x : List ℕ) (at e : ElementNo) (found : List ElementNo) (t : Option Turn) (here new : Noted) → n < length names
      → x ≡ get_or names n [] → onward t ≡ Some e → AreLeft v names from begun old n at found here → Steps v (n + 1) x at t here new
      → AreLeft v names from begun old (n + 1) e (found ++ e ∷ []) new
  left_next n x at e found None here new lt is on left step = cc
  left_next n x at e found (Some (turn.Ended o)) here new lt is on left step = cc
  left_next n x at e found (Some (turn.On f)) here new lt is on left step = λ whole start h.
      let up : suc (n + 1) ≡ n + 1 + 1 = omega arith in
      let same : f ≡ e = some_same f e on in
      subst (λ k. IsLeft v whole start k (drop (n + 1) names) e (found ++ e ∷ []) new) up
      (subst (λ z. IsLeft v whole start (suc (n + 1)) (drop (n + 1) names) z (found ++ z ∷ []) new) same
      (left_on v whole start (n + 1) x (drop (n + 1) names) at f found here new (left_name n x at found here lt is left whole start h) step))

  -- where it waits or ends
  pub left_stops : (n : ℕ) (x : List ℕ) (at : ElementNo) (found : List ElementNo) (t : Option Turn) (here new : Noted) → n < length names
      → x ≡ get_or names n [] → onward t ≡ None → AreLeft v names from begun old n at found here → Steps v (n + 1) x at t here new
      → GoesOn v (drop 1 names) from begun (course_at t found) old new
  left_stops n x at found None here new lt is stops left step = λ whole start h.
      left_waits v whole start (n + 1) x (drop (n + 1) names) at found here new (left_name n x at found here lt is left whole start h) step
  left_stops n x at found (Some (turn.Ended o)) here new lt is stops left step = λ whole start h.
      left_ends v whole start (n + 1) x (drop (n + 1) names) at found o here new (left_name n x at found here lt is left whole start h) step
  left_stops n x at found (Some (turn.On e)) here new lt is stops left step = cc

  -- all are found
  pub left_none : (n : ℕ) (at : ElementNo) (found : List ElementNo) (here : Noted) → length names ≤ n → AreLeft v names from begun old n at found here
      → GoesOn v (drop 1 names) from begun (Some (code.Reached found)) old here
  left_none n at found here le left = λ whole start h.
      left_all v whole start (n + 1) at found here
      (subst (λ xs. IsLeft v whole start (n + 1) xs at found here) (drop_past names n le) (left whole start h))

-- A WHOLE NAME: its first segment is decided, and then the others
behind_one : (e : ElementNo) (y : Option Course) → option_map (ahead (e ∷ [])) y ≡ option_map (behind e) y
behind_one e None = refl
behind_one e (Some (Reached es)) = refl
behind_one e (Some (Ended o)) = refl

module _ (v : View) (g : LinkTrail Hit) (names : Names) (old mid : Noted) where
  pub runs_stop : (t : Option Turn) (found : List ElementNo) → onward t ≡ None → Begins v g t old mid → RunsAlong v g names (course_at t found) old mid
  runs_stop None found stops b = λ ts a. b ts a names
  runs_stop (Some (turn.Ended o)) found stops b = λ ts a. b ts a names
  runs_stop (Some (turn.On e)) found stops b = cc

  pub runs_on : (t : Option Turn) (e : ElementNo) (course : Option CodeCourse) (new : Noted) → onward t ≡ Some e → Begins v g t old mid
      → GoesOn v names e (e ∷ []) course mid new → RunsAlong v g names course old new
  runs_on None e course new goes b on = cc
  runs_on (Some (turn.Ended o)) e course new goes b on = cc
  runs_on (Some (turn.On f)) e course new goes b on = λ ts a.
      let w = read_by v in
      let whole = along (library_of (files_of v)) ts names w in
      let same : e ≡ f = sym (some_same f e goes) in
      on whole old (λ y end h. subst (λ z. Answered whole z old end) (sym (behind_one e y))
      (subst (λ z. Answered whole (option_map (behind z) y) old end) (sym same)
      (b ts a names y end (subst (λ z. Answered (later (library_of (files_of v)) 2 names z w) y mid end) same h))))

-- the element from which a search goes on stands
pub onward_stands : (files : List StoredFile) (t : Option Turn) (e : ElementNo) → onward t ≡ Some e → StandsOn files t → StandsIn files e
onward_stands files None e on h = cc
onward_stands files (Some (turn.Ended o)) e on h = cc
onward_stands files (Some (turn.On f)) e on h = subst (StandsIn files) (some_same f e on) h
