-- From what code found and noted to the answer of a call.
use Rattle.std.proofs.Common.{◌≡◌, true, false, List, [], ◌∷◌, ◌++◌, refl, sym, subst, inl, inr}
use Rattle.std.specs.Prelude.{◌⊎◌, None, Some, not}
use Rattle.linker_base.specs.Members.{IsMember, SameMembers}
use Rattle.linker_base.proofs.MemberLaws.{member_left, member_right, member_cases, same_through}
use Rattle.demand_core.specs.Rules.{WaitsOn}
use Rattle.demand_core.specs.Computation.{done, then_step, ◌>>=◌, joined, IsSound, IsRegular}
use Rattle.demand_core.specs.Gather.{Led}
use Rattle.demand_core.specs.Search.{Part, Finds, Awaits, LooksAt, Shows, Admits, Aside, LedShows, IsKnown, IsStep, IsAsked, Expands}
use Rattle.demand_core.specs.declared.looks.Fact.{Fact}
use Rattle.demand_core.specs.declared.step.Step.{Step}
use Rattle.demand_core.specs.declared.step.Step.TheVariants.{Done, Waits}
use Rattle.demand_core.proofs.PartLaws.{shows_then, shows_joined, admits_first, admits_then, admits_joined}
use Rattle.demand_core.proofs.SearchLaws.{is_asked}
use Rattle.element_store.specs.declared.numbers.ElementNo.{ElementNo}
use Rattle.link_model.specs.declared.keys.LinkKey.{LinkKey}
use Rattle.link_model.specs.declared.keys.LinkFact.{LinkFact}
use Rattle.link_model.specs.Keys.{same_element, element_is_exact}
use Rattle.link_model.specs.Readers.{Lookup, LinkWorld, is_nil}
use Rattle.link_model.specs.Settled.{settled, in_settled}
use Rattle.link_walk.specs.declared.answering.Found.TheVariants as found
use Rattle.link_walk.specs.Calls.{Answers, AddsLooks, keys_for, ends}
use Rattle.link_walk.specs.Marks.{marked_all}
use Rattle.link_walk.specs.Noted.{Asks, LinkTrail, each_once}
use Rattle.link_walk.specs.Took.{expanded}
use Rattle.link_walk.proofs.MarkLaws.{marks_same}
use Rattle.link_walk.proofs.TookLaws.{expands_by}
use Rattle.element_store.specs.declared.numbers.RefNo.{RefNo}

step_over : {B : Type 0} (xs ys : List B) (waits : List LinkKey) (step : Step LinkKey (List B)) → SameMembers ys xs → IsStep xs waits step
    → IsStep ys waits step
step_over xs ys [] (Done zs) s h = same_through s h
step_over xs ys [] (Waits ks) s h = absurd h
step_over xs ys (v ∷ vs) (Done zs) s h = absurd h
step_over xs ys (v ∷ vs) (Waits ks) s h = h

-- what is found may be listed each once
pub asked_once : (trail : LinkTrail ElementNo) (a : Asks (List ElementNo)) → IsAsked trail a → IsAsked (each_once trail) a
asked_once trail a h = record {
  step = step_over trail.found (marked_all same_element [] trail.found) trail.waits a.step (marks_same same_element element_is_exact trail.found) h.step;
  looks = h.looks;
}

-- the answer of a call that waits on nothing
pub answers_done : {B : Type 0} (xs : List B) (waits : List LinkKey) (step : Step LinkKey (List B)) → not (is_nil waits) ≡ false → IsStep xs waits step
    → Answers (found.Done xs) step
answers_done xs [] (Done ys) e h = h
answers_done xs [] (Waits ks) e h = h
answers_done xs (v ∷ vs) step e h = cc

-- and of one that waits
pub answers_waits : {B : Type 0} (xs : List B) (refs : List RefNo) (waits : List LinkKey) (step : Step LinkKey (List B)) → not (is_nil waits) ≡ true
    → keys_for refs ≡ waits → IsStep xs waits step → Answers (found.Waits refs) step
answers_waits xs refs [] step e is h = cc
answers_waits xs refs (v ∷ vs) (Done ys) e is h = h
answers_waits xs refs (v ∷ vs) (Waits ks) e is h = subst (λ z. SameMembers z ks) (sym is) h

-- its looks
pub adds_told : {B : Type 0} (old new looks : List (Fact LinkKey LinkFact)) (a : Asks (List B)) → new ≡ old ++ looks → SameMembers looks a.looks
    → AddsLooks old new a
adds_told old new looks a is same = record { added = looks; whole = is; same = same }

-- where no link is to come any more, nothing is waited on
pub settled_found : {B : Type 0} (c : Lookup (List B)) → IsRegular c → (w : LinkWorld) (trail : LinkTrail B) → IsAsked trail (c (settled w))
    → SameMembers trail.found (in_settled c w)
settled_found {B} c r w trail h = by (c (settled w)).step (c (settled w)).looks trail.waits (r.sound (settled w)) h.step
  where
    some_none : {V : Type 0} {v : V} → Some v ≡ None → ⊥
    some_none e = cc

    by : (step : Step LinkKey (List B)) (looks : List (Fact LinkKey LinkFact)) (waits : List LinkKey) → IsSound (settled w).table step looks
        → IsStep trail.found waits step → SameMembers trail.found (in_settled {A = B} (λ v. record { step = step; looks = looks }) w)
    by (Done xs) looks [] s h = h
    by (Done xs) looks (v ∷ vs) s h = absurd h
    by (Waits []) looks waits s h = absurd (s.0 refl)
    by (Waits (k ∷ ks)) looks waits s h = let open_there : (settled w).table k ≡ None = (s.1 k (inl refl)).0 in absurd (some_none open_there)

-- A SEARCH OF ONE STEP: a node that is expanded gives what its links give.
module _ {L : Type 0} (links : ElementNo → Lookup (List L)) (c : L → Lookup (List ElementNo)) (w : LinkWorld) where
  led_by : (a : Asks (List ElementNo)) (step : Step LinkKey (List ElementNo)) (x : Part LinkKey LinkFact ElementNo)
      → Shows (record { step = step; looks = a.looks }) x → LedShows (then_step {B = Led ElementNo ElementNo} a (λ ts. done
      (record { found = ts; onward = ts }) w) step) x
  led_by a (Done ts) (Finds y) h = h
  led_by a (Done ts) (Awaits k) h = h
  led_by a (Done ts) (LooksAt f) h = member_left a.looks [] f h
  led_by a (Waits ks) (Finds y) h = h
  led_by a (Waits ks) (Awaits k) h = h
  led_by a (Waits ks) (LooksAt f) h = h

  by_led : (a : Asks (List ElementNo)) (step : Step LinkKey (List ElementNo)) (x : Part LinkKey LinkFact ElementNo)
      → LedShows (then_step {B = Led ElementNo ElementNo} a (λ ts. done (record { found = ts; onward = ts }) w) step) x
      → Admits (record { step = step; looks = a.looks }) x
  by_led a (Done ts) (Finds y) h = h
  by_led a (Done ts) (Awaits k) h = h
  by_led a (Done ts) (LooksAt f) h = elim (member_cases a.looks [] f h) [ inl m ↦ m | inr none ↦ absurd none ]
  by_led a (Waits ks) (Finds y) h = tt
  by_led a (Waits ks) (Awaits k) h = h
  by_led a (Waits ks) (LooksAt f) h = h

  pub expanded_asked : (e : ElementNo) (start new : LinkTrail ElementNo) → start ≡ record { nodes = start.nodes; found = []; waits = []; looks = [] }
      → IsRegular (links e >>= joined c) → new ≡ expanded (ends c) w links e start → IsAsked new ((links e >>= joined c) w)
  expanded_asked e start new empty r is = is_asked w.table new ((links e >>= joined c) w) (r.sound w) to from
    where
      grown : Expands links (ends c) w same_element [] e start new
      grown = expands_by links (ends c) w e start new is

      nothing : (x : Part LinkKey LinkFact ElementNo) → IsKnown start x → ⊥
      nothing x k = none x (subst (λ t. IsKnown t x) empty k)
        where
          none : (x : Part LinkKey LinkFact ElementNo) → IsKnown {A = ElementNo} (record { nodes = start.nodes; found = []; waits = []; looks = [] }) x → ⊥
          none (Finds y) k = k
          none (Awaits q) k = k
          none (LooksAt f) k = k

      two : {P : Type 0} (ls : List L) (ks : List LinkKey) (step : Step LinkKey (List L)) → step ≡ Done ls → step ≡ Waits ks → P
      two ls ks step d e = absurd (let bad : ⊥ = cc in bad)

      same_done : (xs ys : List L) (step : Step LinkKey (List L)) → step ≡ Done xs → step ≡ Done ys → xs ≡ ys
      same_done xs ys step d e = cc

      looked : (ls : List L) → (links e w).step ≡ Done ls → (x : Part LinkKey LinkFact ElementNo) → Aside (links e w) x
          → IsKnown (record start { looks = start.looks ++ (links e w).looks }) x
      looked ls read (Finds y) a = absurd a
      looked ls read (Awaits k) a = absurd (subst (λ z. WaitsOn z k) read a)
      looked ls read (LooksAt f) a = member_right start.looks (links e w).looks f a

      looked_back : (x : Part LinkKey LinkFact ElementNo) → IsKnown (record start { looks = start.looks ++ (links e w).looks }) x
          → IsKnown start x ⊎ Aside (links e w) x
      looked_back (Finds y) k = inl k
      looked_back (Awaits q) k = inl k
      looked_back (LooksAt f) k = member_cases start.looks (links e w).looks f k

      to : (x : Part LinkKey LinkFact ElementNo) → Shows ((links e >>= joined c) w) x → IsKnown new x
      to x s = elim (shows_then w (links e) (joined c) x s) [
        | inl a ↦ elim grown.read [ inl took ↦ took.2.known x (looked took.0 took.1 x a) | inr waited ↦ waited.2.aside x a ]
        | inr d ↦ elim grown.read [
          | inl took ↦
              let j = shows_joined w c d.0 x d.2 in
              took.2.own j.0 x (subst (λ z. IsMember z j.0) (same_done d.0 took.0 (links e w).step d.1 took.1) j.1) (led_by (c j.0 w) (c j.0 w).step x j.2)
          | inr waited ↦ two d.0 waited.0 (links e w).step d.1 waited.1
        ]
      ]

      from : (x : Part LinkKey LinkFact ElementNo) → IsKnown new x → Admits ((links e >>= joined c) w) x
      from x k = elim grown.read [
        | inl took ↦ elim (took.2.only x k) [
          | inl mid ↦ elim (looked_back x mid) [ inl old ↦ absurd (nothing x old) | inr a ↦ admits_first w (links e) (joined c) x a ]
          | inr l ↦ admits_then w (links e) (joined c) took.0 x took.1 (admits_joined w c took.0 l.0 x l.1 (by_led (c l.0 w) (c l.0 w).step x l.2))
        ]
        | inr waited ↦ elim (waited.2.only x k) [ inl old ↦ absurd (nothing x old) | inr a ↦ admits_first w (links e) (joined c) x a ]
      ]
