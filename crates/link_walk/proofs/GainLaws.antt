-- Parts of a stage that code adds, one after another.
use Rattle.std.proofs.Common.{◌≡◌, ℕ, ◌+◌, ◌<◌, ◌≤◌, Bool, true, false, cond, List, [], ◌∷◌, ◌++◌, length, get_or, take, refl, sym, ◌∙◌, ap, subst, inl, inr, append_assoc, append-nil, take-suc, add-one}
use Rattle.std.specs.Prelude.{◌⊎◌, map, not, Option}
use Rattle.std.proofs.lemmas.List.{take_all}
use Rattle.linker_base.specs.Members.{IsMember, SameMembers}
use Rattle.linker_base.proofs.MemberLaws.{member_left, member_right, member_cases, member_map}
use Rattle.demand_core.specs.Alike.{AlikeStep, Alike}
use Rattle.demand_core.specs.Rules.{WaitsOn}
use Rattle.demand_core.specs.Computation.{Asked, IsSound, done, then_step, ◌>>=◌, join_step, join, both_step, both, joined}
use Rattle.demand_core.specs.Search.{Part, Finds, Awaits, LooksAt, Shows, Admits, Aside, Trail, IsKnown, IsStep, IsAsked}
use Rattle.demand_core.specs.declared.looks.Fact.{Fact}
use Rattle.demand_core.specs.declared.step.Step.{Step}
use Rattle.demand_core.specs.declared.step.Step.TheVariants.{Done, Waits}
use Rattle.demand_core.proofs.LoopLaws.{join_assoc, join_first, join_last}
use Rattle.demand_core.proofs.PartLaws.{shows_nothing, shows_join, shows_then, admits_left, admits_right, admits_first, admits_then}
use Rattle.demand_core.proofs.SearchLaws.{is_asked}
use Rattle.element_store.specs.declared.numbers.ElementNo.{ElementNo}
use Rattle.link_model.specs.declared.keys.LinkKey.{LinkKey}
use Rattle.link_model.specs.declared.keys.LinkFact.{LinkFact}
use Rattle.link_model.specs.Keys.{same_key, key_is_exact}
use Rattle.link_model.specs.Readers.{Lookup, LinkWorld, is_nil, only_if, listed}
use Rattle.link_walk.specs.Gained.{Gained}
use Rattle.link_walk.specs.Marks.{marked_all, same_fact}
use Rattle.link_walk.specs.Noted.{Noted, noted, waits_of, Reads, Tells, TellsStep}
use Rattle.link_walk.proofs.MarkLaws.{all_kept, all_now, all_new, fact_is_exact}

-- waits and looks that are noted, each once
abbrev keys : List LinkKey → List LinkKey → List LinkKey
keys old more = marked_all same_key old more

abbrev facts : List (Fact LinkKey LinkFact) → List (Fact LinkKey LinkFact) → List (Fact LinkKey LinkFact)
facts old more = marked_all same_fact old more

key_left : (old more : List LinkKey) (k : LinkKey) → IsMember old k → IsMember (keys old more) k
key_left old more k m = all_kept same_key key_is_exact more old k m

key_right : (old more : List LinkKey) (k : LinkKey) → IsMember more k → IsMember (keys old more) k
key_right old more k m = all_now same_key key_is_exact more old k m

key_cases : (old more : List LinkKey) (k : LinkKey) → IsMember (keys old more) k → IsMember old k ⊎ IsMember more k
key_cases old more k m = all_new same_key key_is_exact more old k m

fact_left : (old more : List (Fact LinkKey LinkFact)) (f : Fact LinkKey LinkFact) → IsMember old f → IsMember (facts old more) f
fact_left old more f m = all_kept same_fact fact_is_exact more old f m

fact_right : (old more : List (Fact LinkKey LinkFact)) (f : Fact LinkKey LinkFact) → IsMember more f → IsMember (facts old more) f
fact_right old more f m = all_now same_fact fact_is_exact more old f m

fact_cases : (old more : List (Fact LinkKey LinkFact)) (f : Fact LinkKey LinkFact) → IsMember (facts old more) f → IsMember old f ⊎ IsMember more f
fact_cases old more f m = all_new same_fact fact_is_exact more old f m

-- the union of all but the last, and the last
joined_last : {A B : Type 0} (w : LinkWorld) (f : A → Lookup (List B)) (xs : List A) (x : A) → joined f (xs ++ x ∷ []) w ≡ join (joined f xs) (f x) w
joined_last w f [] x = λ i. record { step = (join_last (f x w).step ∙ sym (join_first (f x w).step)) i; looks = append-nil (f x w).looks i }
joined_last w f (y ∷ xs) x =
    let more = joined_last w f xs x in
    λ i. record {
      step = (ap (λ a. join_step (f y w).step a.step) more ∙ sym (join_assoc (f y w).step (joined f xs w).step (f x w).step)) i;
      looks = (ap (λ a. (f y w).looks ++ a.looks) more ∙ sym (append_assoc (f y w).looks (joined f xs w).looks (f x w).looks)) i;
    }

-- with this more on it
abbrev pub plus : {A B : Type 0} → Trail LinkKey LinkFact A B → List B → List LinkKey → List (Fact LinkKey LinkFact) → Trail LinkKey LinkFact A B
plus t fs ws gs = record { nodes = t.nodes; found = t.found ++ fs; waits = keys t.waits ws; looks = facts t.looks gs }

abbrev Brings : {B : Type 0} → List B → List LinkKey → List (Fact LinkKey LinkFact) → Part LinkKey LinkFact B → Type 0
Brings fs ws gs (Finds y) = IsMember fs y
Brings fs ws gs (Awaits k) = IsMember ws k
Brings fs ws gs (LooksAt f) = IsMember gs f

plus_kept : {A B : Type 0} (t : Trail LinkKey LinkFact A B) (fs : List B) (ws : List LinkKey) (gs : List (Fact LinkKey LinkFact))
    (y : Part LinkKey LinkFact B) → IsKnown t y → IsKnown (plus t fs ws gs) y
plus_kept t fs ws gs (Finds y) k = member_left t.found fs y k
plus_kept t fs ws gs (Awaits q) k = key_left t.waits ws q k
plus_kept t fs ws gs (LooksAt f) k = fact_left t.looks gs f k

plus_has : {A B : Type 0} (t : Trail LinkKey LinkFact A B) (fs : List B) (ws : List LinkKey) (gs : List (Fact LinkKey LinkFact))
    (y : Part LinkKey LinkFact B) → Brings fs ws gs y → IsKnown (plus t fs ws gs) y
plus_has t fs ws gs (Finds y) k = member_right t.found fs y k
plus_has t fs ws gs (Awaits q) k = key_right t.waits ws q k
plus_has t fs ws gs (LooksAt f) k = fact_right t.looks gs f k

plus_cases : {A B : Type 0} (t : Trail LinkKey LinkFact A B) (fs : List B) (ws : List LinkKey) (gs : List (Fact LinkKey LinkFact))
    (y : Part LinkKey LinkFact B) → IsKnown (plus t fs ws gs) y → IsKnown t y ⊎ Brings fs ws gs y
plus_cases t fs ws gs (Finds y) k = member_cases t.found fs y k
plus_cases t fs ws gs (Awaits q) k = key_cases t.waits ws q k
plus_cases t fs ws gs (LooksAt f) k = fact_cases t.looks gs f k

shows_brings : {B : Type 0} (found : List B) (step : Step LinkKey (List B)) (waits : List LinkKey) (seen looks : List (Fact LinkKey LinkFact))
    → IsStep found waits step → SameMembers seen looks → (y : Part LinkKey LinkFact B) → Shows (record { step = step; looks = looks }) y
    → Brings found waits seen y
shows_brings found (Done ys) [] seen looks s l (Finds y) h = s.right y h
shows_brings found (Done ys) [] seen looks s l (Awaits k) h = absurd h
shows_brings found (Done ys) [] seen looks s l (LooksAt f) h = l.right f h
shows_brings found (Done ys) (v ∷ vs) seen looks s l y h = absurd s
shows_brings found (Waits ks) [] seen looks s l y h = absurd s
shows_brings found (Waits ks) (v ∷ vs) seen looks s l (Finds y) h = absurd h
shows_brings found (Waits ks) (v ∷ vs) seen looks s l (Awaits k) h = s.right k h
shows_brings found (Waits ks) (v ∷ vs) seen looks s l (LooksAt f) h = l.right f h

brings_admits : {B : Type 0} (found : List B) (step : Step LinkKey (List B)) (waits : List LinkKey) (seen looks : List (Fact LinkKey LinkFact))
    → IsStep found waits step → SameMembers seen looks → (y : Part LinkKey LinkFact B) → Brings found waits seen y
    → Admits (record { step = step; looks = looks }) y
brings_admits found (Done ys) [] seen looks s l (Finds y) h = s.left y h
brings_admits found (Done ys) [] seen looks s l (Awaits k) h = absurd h
brings_admits found (Done ys) [] seen looks s l (LooksAt f) h = l.left f h
brings_admits found (Done ys) (v ∷ vs) seen looks s l y h = absurd s
brings_admits found (Waits ks) [] seen looks s l y h = absurd s
brings_admits found (Waits ks) (v ∷ vs) seen looks s l (Finds y) h = tt
brings_admits found (Waits ks) (v ∷ vs) seen looks s l (Awaits k) h = s.left k h
brings_admits found (Waits ks) (v ∷ vs) seen looks s l (LooksAt f) h = l.left f h

abbrev ready : {C : Type 0} → C → Step LinkKey C
ready v = Done v

abbrev at_notes : {A B : Type 0} → List A → List B → Noted → Trail LinkKey LinkFact A B
at_notes nodes found n = record { nodes = nodes; found = found; waits = n.waits; looks = n.looks }

module _ {A B : Type 0} where
  -- an asking of its own is added
  pub gained_asked : {C : Type 0} (g : Trail LinkKey LinkFact C B) (a : Asked LinkKey LinkFact (List B)) (old : Trail LinkKey LinkFact A B) → IsAsked g a
      → Gained a old (plus old g.found g.waits g.looks)
  gained_asked g a old h = record {
    kept = plus_kept old g.found g.waits g.looks;
    shown = λ y s. plus_has old g.found g.waits g.looks y (shows_brings g.found a.step g.waits g.looks a.looks h.step h.looks y s);
    only = λ y k. elim (plus_cases old g.found g.waits g.looks y k) [
      | inl o ↦ inl o
      | inr b ↦ inr
          (brings_admits g.found a.step g.waits g.looks a.looks h.step h.looks y b)
    ];
  }

  -- what was added to nothing is the asking
  pub asked_gained : (w : LinkWorld) (a : Asked LinkKey LinkFact (List B)) (start new : Trail LinkKey LinkFact A B)
      → start ≡ record { nodes = start.nodes; found = []; waits = []; looks = [] } → IsSound w.table a.step a.looks → Gained a start new → IsAsked new a
  asked_gained w a start new empty sound h = is_asked w.table new a sound h.shown (λ y k. elim (h.only y k) [
    | inl o ↦ absurd (nothing y (subst
        (λ z. IsKnown z y) empty o))
    | inr b ↦ b
  ])
    where
      nothing : (y : Part LinkKey LinkFact B) → IsKnown {A = A} (record { nodes = start.nodes; found = []; waits = []; looks = [] }) y → ⊥
      nothing (Finds z) k = k
      nothing (Awaits q) k = k
      nothing (LooksAt f) k = k

  pub gained_none : (w : LinkWorld) (t : Trail LinkKey LinkFact A B) → Gained (done [] w) t t
  gained_none w t = record { kept = λ y k. k; shown = λ y h. absurd (shows_nothing w y h); only = λ y k. inl k }

  pub gained_join : (w : LinkWorld) (c d : Lookup (List B)) (old mid new : Trail LinkKey LinkFact A B) → Gained (c w) old mid → Gained (d w) mid new
      → Gained (join c d w) old new
  gained_join w c d old mid new g h = record {
    kept = λ y k. h.kept y (g.kept y k);
    shown = λ y s. elim (shows_join w c d y s) [ inl a ↦ h.kept y (g.shown y a) | inr b ↦ h.shown y b ];
    only = λ y k. elim (h.only y k) [
      | inl there ↦ elim (g.only y there) [ inl o ↦ inl o | inr a ↦ inr (admits_left w c d y a) ]
      | inr b ↦ inr (admits_right w c d y b)
    ];
  }

  -- one part more
  pub gained_next : {C : Type 0} (w : LinkWorld) (f : C → Lookup (List B)) (xs : List C) (i : ℕ) (d e : C) (old mid new : Trail LinkKey LinkFact A B)
      → i < length xs → d ≡ get_or xs i e → Gained (joined f (take i xs) w) old mid → Gained (f d w) mid new
      → Gained (joined f (take (i + 1) xs) w) old new
  gained_next w f xs i d e old mid new lt is g h =
      let more : take (i + 1) xs ≡ take i xs ++ d ∷ [] = rw add-one (take-suc xs i e lt) ∙ ap (λ z. take i xs ++ z ∷ []) (sym is) in
      subst (λ ys. Gained (joined f ys w) old new) (sym more) (subst (λ a. Gained a old new) (sym (joined_last w f (take i xs) d)) (gained_join w (joined f
      (take i xs)) (f d) old mid new g h))

  -- after the last part
  pub gained_all : {C : Type 0} (w : LinkWorld) (f : C → Lookup (List B)) (xs : List C) (i : ℕ) (old new : Trail LinkKey LinkFact A B) → length xs ≤ i
      → Gained (joined f (take i xs) w) old new → Gained (joined f xs w) old new
  gained_all w f xs i old new done_all h = subst (λ ys. Gained (joined f ys w) old new) (take_all i xs done_all) h

  -- by a test
  pub gained_true : (w : LinkWorld) (b : Bool) (c d : Lookup (List B)) (old new : Trail LinkKey LinkFact A B) → b ≡ true → Gained (c w) old new
      → Gained (cond b c d w) old new
  gained_true w b c d old new e h = subst (λ z. Gained (cond z c d w) old new) (sym e) h

  pub gained_false : (w : LinkWorld) (b : Bool) (c d : Lookup (List B)) (old new : Trail LinkKey LinkFact A B) → b ≡ false → Gained (d w) old new
      → Gained (cond b c d w) old new
  gained_false w b c d old new e h = subst (λ z. Gained (cond z c d w) old new) (sym e) h

  -- an element is read, and then
  pub gained_read : {C : Type 0} (w : LinkWorld) (c : Lookup C) (f : C → Lookup (List B)) (v : C) (nodes : List A) (found : List B) (old mid : Noted)
      (new : Trail LinkKey LinkFact A B) → Reads (c w) v old mid
      → Gained (f v w) (record { nodes = nodes; found = found; waits = mid.waits; looks = mid.looks }) new
      → Gained ((c >>= f) w) (record { nodes = nodes; found = found; waits = old.waits; looks = old.looks }) new
  gained_read w c f v nodes found old mid new r h = record {
    kept = λ y k. h.kept y (subst (λ (n : Noted). IsKnown (at_notes nodes found n) y) (sym r.noted) (kept_by y k));
    shown = λ y s. elim (shows_then w c f y s) [
      | inl aside ↦ h.kept y (subst (λ (n : Noted). IsKnown (at_notes nodes found n) y) (sym r.noted) (has_by y aside))
      | inr d ↦ h.shown y (subst (λ z. Shows (f z w) y) (same_done d.0 v (sym d.1 ∙ r.step)) d.2)
    ];
    only = λ y k. elim (h.only y k) [
      | inl there ↦ elim (only_by y (subst (λ (n : Noted). IsKnown (at_notes nodes found n) y) r.noted there)) [
        | inl o ↦ inl o
        | inr aside ↦ inr
            (admits_first w c f y aside)
      ]
      | inr b ↦ inr (admits_then w c f v y r.step b)
    ];
  }
    where
      same_done : {C : Type 0} (u v : C) → ready u ≡ ready v → u ≡ v
      same_done u v e = cc

      kept_by : (y : Part LinkKey LinkFact B) → IsKnown (at_notes nodes found old) y → IsKnown (at_notes nodes found
          (record { waits = old.waits; looks = facts old.looks (c w).looks })) y
      kept_by (Finds y) k = k
      kept_by (Awaits q) k = k
      kept_by (LooksAt f) k = fact_left old.looks (c w).looks f k

      has_by : (y : Part LinkKey LinkFact B) → Aside (c w) y → IsKnown (at_notes nodes found (record {
        waits = old.waits;
        looks = facts old.looks
            (c w).looks;
      })) y
      has_by (Finds y) k = absurd k
      has_by (Awaits q) k = absurd (subst (λ z. WaitsOn z q) r.step k)
      has_by (LooksAt f) k = fact_right old.looks (c w).looks f k

      only_by : (y : Part LinkKey LinkFact B) → IsKnown (at_notes nodes found (record { waits = old.waits; looks = facts old.looks (c w).looks })) y
          → IsKnown (at_notes nodes found old) y ⊎ Aside (c w) y
      only_by (Finds y) k = inl k
      only_by (Awaits q) k = inl k
      only_by (LooksAt f) k = fact_cases old.looks (c w).looks f k

-- askings that are alike
alike_shows : {B : Type 0} (a b : Step LinkKey (List B)) (us vs : List (Fact LinkKey LinkFact)) → AlikeStep a b → SameMembers us vs
    → (y : Part LinkKey LinkFact B) → Shows (record { step = a; looks = us }) y → Shows (record { step = b; looks = vs }) y
alike_shows (Done xs) (Done ys) us vs s l (Finds y) h = s.left y h
alike_shows (Done xs) (Done ys) us vs s l (Awaits k) h = absurd h
alike_shows (Done xs) (Waits ks) us vs s l y h = absurd s
alike_shows (Waits ks) (Done ys) us vs s l y h = absurd s
alike_shows (Waits ks) (Waits ls) us vs s l (Finds y) h = absurd h
alike_shows (Waits ks) (Waits ls) us vs s l (Awaits k) h = s.left k h
alike_shows (Done xs) (Done ys) us vs s l (LooksAt f) h = l.left f h
alike_shows (Waits ks) (Waits ls) us vs s l (LooksAt f) h = l.left f h

alike_admits : {B : Type 0} (a b : Step LinkKey (List B)) (us vs : List (Fact LinkKey LinkFact)) → AlikeStep a b → SameMembers us vs
    → (y : Part LinkKey LinkFact B) → Admits (record { step = a; looks = us }) y → Admits (record { step = b; looks = vs }) y
alike_admits (Done xs) (Done ys) us vs s l (Finds y) h = s.left y h
alike_admits (Done xs) (Done ys) us vs s l (Awaits k) h = absurd h
alike_admits (Done xs) (Waits ks) us vs s l y h = absurd s
alike_admits (Waits ks) (Done ys) us vs s l y h = absurd s
alike_admits (Waits ks) (Waits ls) us vs s l (Finds y) h = tt
alike_admits (Waits ks) (Waits ls) us vs s l (Awaits k) h = s.left k h
alike_admits (Done xs) (Done ys) us vs s l (LooksAt f) h = l.left f h
alike_admits (Waits ks) (Waits ls) us vs s l (LooksAt f) h = l.left f h

alike_back : {B : Type 0} (a b : Step LinkKey (List B)) → AlikeStep a b → AlikeStep b a
alike_back (Done xs) (Done ys) s = record { left = s.right; right = s.left }
alike_back (Done xs) (Waits ks) s = absurd s
alike_back (Waits ks) (Done ys) s = absurd s
alike_back (Waits ks) (Waits ls) s = record { left = s.right; right = s.left }

-- the same, for an asking that is alike
pub gained_alike : {A B : Type 0} (a b : Asked LinkKey LinkFact (List B)) (old new : Trail LinkKey LinkFact A B) → Alike a b → Gained a old new
    → Gained b old new
gained_alike a b old new e h = record {
  kept = h.kept;
  shown = λ y s. h.shown y (alike_shows b.step a.step b.looks a.looks (alike_back a.step b.step e.step)
      (record { left = e.looks.right; right = e.looks.left }) y s);
  only = λ y k. elim (h.only y k) [ inl o ↦ inl o | inr m ↦ inr (alike_admits a.step b.step a.looks b.looks e.step e.looks y m) ];
}

member_back : {A B : Type 0} (f : A → B) (xs : List A) (y : B) → IsMember (map f xs) y → (x : A) × IsMember xs x × (f x ≡ y)
member_back f [] y m = absurd m
member_back f (x ∷ xs) y (inl e) = (x, inl refl, e)
member_back f (x ∷ xs) y (inr m) = let more = member_back f xs y m in (more.0, inr more.1, more.2)

same_map : {A B : Type 0} (f : A → B) (xs ys : List A) → SameMembers xs ys → SameMembers (map f xs) (map f ys)
same_map f xs ys h = record {
  left = λ y m. let b = member_back f xs y m in subst (IsMember (map f ys)) b.2 (member_map f ys b.0 (h.left b.0 b.1));
  right = λ y m. let b = member_back f ys y m in subst (IsMember (map f xs)) b.2 (member_map f xs b.0 (h.right b.0 b.1));
}

-- an asking of its own, under names, is added
pub gained_mapped : {A B C D : Type 0} (w : LinkWorld) (g : Trail LinkKey LinkFact D C) (c : Lookup (List C)) (f : C → B) (old : Trail LinkKey LinkFact A B)
    → IsAsked g (c w) → Gained ((c >>= λ xs. done (map f xs)) w) old (plus old (map f g.found) g.waits g.looks)
gained_mapped {A} {B} {C} {D} w g c f old h =
    let e = mapped (c w).step (c w).looks g.waits h.step in
    gained_asked (record { nodes = g.nodes; found = map f g.found; waits = g.waits; looks = g.looks }) ((c >>= λ xs. done (map f xs)) w) old
    (record { step = e.0; looks = subst (SameMembers g.looks) (sym e.1) h.looks })
  where
    mapped : (step : Step LinkKey (List C)) (looks : List (Fact LinkKey LinkFact)) (waits : List LinkKey) → IsStep g.found waits step
        → IsStep (map f g.found) waits (then_step {B = List B} (record { step = step; looks = looks }) (λ xs. done (map f xs) w) step).step
        × ((then_step {B = List B} (record { step = step; looks = looks }) (λ xs. done (map f xs) w) step).looks ≡ looks)
    mapped (Done ys) looks [] s = (same_map f g.found ys s, append-nil looks)
    mapped (Done ys) looks (v ∷ vs) s = absurd s
    mapped (Waits ks) looks [] s = absurd s
    mapped (Waits ks) looks (v ∷ vs) s = (s, refl)

-- a first stage that waits
pub gained_stop : {A B C D : Type 0} (w : LinkWorld) (g : Trail LinkKey LinkFact D C) (c : Lookup (List C)) (f : List C
    → Lookup (List B)) (old : Trail LinkKey LinkFact A B) → IsAsked g (c w) → (g.waits ≡ [] → ⊥) → Gained ((c >>= f) w) old (plus old [] g.waits g.looks)
gained_stop {A} {B} {C} {D} w g c f old h some =
    let e = stopped (c w).step (c w).looks g.waits h.step some in
    gained_asked (record { nodes = g.nodes; found = []; waits = g.waits; looks = g.looks }) ((c >>= f) w) old (record {
      step = e.0;
      looks = subst
          (SameMembers g.looks) (sym e.1) h.looks;
    })
  where
    stopped : (step : Step LinkKey (List C)) (looks : List (Fact LinkKey LinkFact)) (waits : List LinkKey) → IsStep g.found waits step → (waits ≡ [] → ⊥)
        → IsStep {B = B} [] waits (then_step (record { step = step; looks = looks }) (λ xs. f xs w) step).step
        × ((then_step (record { step = step; looks = looks }) (λ xs. f xs w) step).looks ≡ looks)
    stopped (Done ys) looks [] s some = absurd (some refl)
    stopped (Done ys) looks (v ∷ vs) s some = absurd s
    stopped (Waits ks) looks [] s some = absurd s
    stopped (Waits ks) looks (v ∷ vs) s some = (s, refl)

-- a first stage that is done, and the second over the code's own list
pub gained_goes_on : {A B C D : Type 0} (w : LinkWorld) (g : Trail LinkKey LinkFact D C) (c : Lookup (List C)) (f : List C
    → Lookup (List B)) (old new : Trail LinkKey LinkFact A B) → IsAsked g (c w) → g.waits ≡ [] → ((xs ys : List C) → SameMembers xs ys
    → Alike (f xs w) (f ys w))
    → Gained (f g.found w) (plus old [] g.waits g.looks) new → Gained ((c >>= f) w) old new
gained_goes_on {A} {B} {C} {D} w g c f old new h none same d =
    let e = finished (c w).step g.waits h.step none in
    let d' = gained_alike (f g.found w) (f e.0 w) (plus old [] g.waits g.looks) new (same g.found e.0 e.2) d in
    record {
      kept = λ y k. d'.kept y (plus_kept old [] g.waits g.looks y k);
      shown = λ y s. elim (shows_then w c f y s) [
        | inl aside ↦ d'.kept y (plus_has old [] g.waits g.looks y (aside_brings e.0 e.1 y aside))
        | inr x ↦ d'.shown y (subst (λ z. Shows (f z w) y) (same_done x.0 e.0 (sym x.1 ∙ e.1)) x.2)
      ];
      only = λ y k. elim (d'.only y k) [
        | inl there ↦ elim (plus_cases old [] g.waits g.looks y there) [ inl o ↦ inl o | inr b ↦ inr (admits_first w c f y (brings_aside y b)) ]
        | inr b ↦ inr (admits_then w c f e.0 y e.1 b)
      ];
    }
  where
    finished : (step : Step LinkKey (List C)) (waits : List LinkKey) → IsStep g.found waits step → waits ≡ []
        → (ys : List C) × (step ≡ Done ys) × SameMembers g.found ys
    finished (Done ys) [] s e = (ys, refl, s)
    finished (Done ys) (v ∷ vs) s e = absurd s
    finished (Waits ks) [] s e = absurd s
    finished (Waits ks) (v ∷ vs) s e = cc

    same_done : (u v : List C) → ready u ≡ ready v → u ≡ v
    same_done u v e = cc

    aside_brings : (ys : List C) → (c w).step ≡ Done ys → (y : Part LinkKey LinkFact B) → Aside (c w) y → Brings [] g.waits g.looks y
    aside_brings ys e (Finds y) a = absurd a
    aside_brings ys e (Awaits k) a = absurd (subst (λ z. WaitsOn z k) e a)
    aside_brings ys e (LooksAt f) a = h.looks.right f a

    brings_aside : (y : Part LinkKey LinkFact B) → Brings [] g.waits g.looks y → Aside (c w) y
    brings_aside (Finds y) b = absurd b
    brings_aside (Awaits k) b = absurd (subst (λ z. IsMember z k) none b)
    brings_aside (LooksAt f) b = h.looks.left f b

-- a reference is a part of a stage
pub gained_target : {A B : Type 0} (w : LinkWorld) (a : Asked LinkKey LinkFact (List B)) (o : Option B) (nodes : List A) (found : List B) (old mid : Noted)
    → IsSound w.table a.step a.looks → Tells a o old mid
    → Gained a (at_notes nodes found old) (at_notes nodes (found ++ listed o) mid)
gained_target {A} {B} w a o nodes found old mid sound h =
    subst (λ n. Gained a (at_notes nodes found old) (at_notes nodes (found ++ listed o) n)) (sym h.noted)
    (gained_asked (record { nodes = nodes; found = listed o; waits = waits_of a.step; looks = a.looks }) a (at_notes nodes found old)
    (record { step = told a.step a.looks sound h.step; looks = record { left = λ x m. m; right = λ x m. m } }))
  where
    told : (step : Step LinkKey (List B)) (looks : List (Fact LinkKey LinkFact)) → IsSound w.table step looks → TellsStep step o
        → IsStep (listed o) (waits_of step) step
    told (Done xs) looks sound s = subst (SameMembers (listed o)) (sym s) (record { left = λ x m. m; right = λ x m. m })
    told (Waits []) looks sound s = absurd (sound.0 refl)
    told (Waits (k ∷ ks)) looks sound s = record { left = λ x m. m; right = λ x m. m }

module _ {A B C D : Type 0} (w : LinkWorld) (g : Trail LinkKey LinkFact A C) (h : Trail LinkKey LinkFact A D) (c : Lookup (List C)) (d : Lookup (List D))
    (f : List C × List D → Lookup (List B)) (old : Trail LinkKey LinkFact A B) (a : IsAsked g (c w)) (b : IsAsked h (d w)) where
  abbrev both_notes : Trail LinkKey LinkFact A B
  both_notes = plus (plus old [] g.waits g.looks) [] h.waits h.looks

  both_sound : (y : Part LinkKey LinkFact B) → Aside (both c d w) y → IsKnown both_notes y
  both_sound (Finds y) x = absurd x
  both_sound (Awaits k) x = both_waits (c w).step (d w).step g.waits h.waits a.step b.step x
    where
      both_waits : (m : Step LinkKey (List C)) (n : Step LinkKey (List D)) (us vs : List LinkKey) → IsStep g.found us m → IsStep h.found vs n
          → WaitsOn (both_step m n) k → IsMember (keys (keys old.waits us) vs) k
      both_waits (Done xs) (Done ys) us vs p q x = absurd x
      both_waits (Done xs) (Waits ls) us [] p q x = absurd q
      both_waits (Done xs) (Waits ls) us (v ∷ vs) p q x = key_right (keys old.waits us) (v ∷ vs) k (q.right k x)
      both_waits (Waits ks) (Done ys) [] vs p q x = absurd p
      both_waits (Waits ks) (Done ys) (u ∷ us) vs p q x = key_left (keys old.waits (u ∷ us)) vs k (key_right old.waits (u ∷ us) k (p.right k x))
      both_waits (Waits ks) (Waits ls) [] vs p q x = absurd p
      both_waits (Waits ks) (Waits ls) us [] p q x = absurd q
      both_waits (Waits ks) (Waits ls) (u ∷ us) (v ∷ vs) p q x = elim (member_cases ks ls k x) [
        | inl l ↦ key_left (keys old.waits (u ∷ us)) (v ∷ vs) k (key_right old.waits (u ∷ us) k (p.right k l))
        | inr r ↦ key_right (keys old.waits (u ∷ us)) (v ∷ vs) k (q.right k r)
      ]
  both_sound (LooksAt f) x = elim (member_cases (c w).looks (d w).looks f x) [
    | inl l ↦ fact_left (facts old.looks g.looks) h.looks f (fact_right old.looks g.looks f (a.looks.right f l))
    | inr r ↦ fact_right (facts old.looks g.looks) h.looks f (b.looks.right f r)
  ]

  both_back : (y : Part LinkKey LinkFact B) → IsKnown both_notes y → IsKnown old y ⊎ Aside (both c d w) y
  both_back (Finds y) k = inl (subst (λ z. IsMember z y) (append-nil (old.found ++ []) ∙ append-nil old.found) k)
  both_back (Awaits q) k = elim (key_cases (keys old.waits g.waits) h.waits q k) [
    | inl l ↦ elim (key_cases old.waits g.waits q l) [ inl o ↦ inl o | inr m ↦ inr (left_waits (c w).step (d w).step g.waits h.waits a.step b.step m) ]
    | inr r ↦ inr (right_waits (c w).step (d w).step g.waits h.waits a.step b.step r)
  ]
    where
      left_waits : (m : Step LinkKey (List C)) (n : Step LinkKey (List D)) (us vs : List LinkKey) → IsStep g.found us m → IsStep h.found vs n → IsMember us q
          → WaitsOn (both_step m n) q
      left_waits (Done xs) n [] vs p e x = absurd x
      left_waits (Done xs) n (u ∷ us) vs p e x = absurd p
      left_waits (Waits ks) n [] vs p e x = absurd p
      left_waits (Waits ks) (Done ys) (u ∷ us) vs p e x = p.left q x
      left_waits (Waits ks) (Waits ls) (u ∷ us) vs p e x = member_left ks ls q (p.left q x)

      right_waits : (m : Step LinkKey (List C)) (n : Step LinkKey (List D)) (us vs : List LinkKey) → IsStep g.found us m → IsStep h.found vs n
          → IsMember vs q → WaitsOn (both_step m n) q
      right_waits m (Done ys) us [] p e x = absurd x
      right_waits m (Done ys) us (v ∷ vs) p e x = absurd e
      right_waits m (Waits ls) us [] p e x = absurd e
      right_waits (Done xs) (Waits ls) us (v ∷ vs) p e x = e.left q x
      right_waits (Waits ks) (Waits ls) us (v ∷ vs) p e x = member_right ks ls q (e.left q x)
  both_back (LooksAt f) k = elim (fact_cases (facts old.looks g.looks) h.looks f k) [
    | inl l ↦ elim (fact_cases old.looks g.looks f l) [ inl o ↦ inl o | inr m ↦ inr (member_left (c w).looks (d w).looks f (a.looks.left f m)) ]
    | inr r ↦ inr (member_right (c w).looks (d w).looks f (b.looks.left f r))
  ]

  both_kept : (y : Part LinkKey LinkFact B) → IsKnown old y → IsKnown both_notes y
  both_kept y k = plus_kept (plus old [] g.waits g.looks) [] h.waits h.looks y (plus_kept old [] g.waits g.looks y k)

  abbrev ready_pair : List C → List D → Step LinkKey (List C × List D)
  ready_pair us vs = Done (us, vs)

  -- a stage of two parts, of which one waits
  pub gained_both_stop : (g.waits ≡ [] → h.waits ≡ [] → ⊥) → Gained ((both c d >>= f) w) old both_notes
  gained_both_stop some = record {
    kept = both_kept;
    shown = λ y s. elim (shows_then w (both c d) f y s) [
      | inl aside ↦ both_sound y aside
      | inr x ↦ absurd (never (c w).step
          (d w).step g.waits h.waits a.step b.step some x.0 x.1)
    ];
    only = λ y k. elim (both_back y k) [ inl o ↦ inl o | inr aside ↦ inr (admits_first w (both c d) f y aside) ];
  }
    where
      never : (m : Step LinkKey (List C)) (n : Step LinkKey (List D)) (us vs : List LinkKey) → IsStep g.found us m → IsStep h.found vs n → (us ≡ [] → vs ≡ []
          → ⊥) → (p : List C × List D) → both_step m n ≡ Done p → ⊥
      never (Done xs) (Done ys) [] [] p q some x e = some refl refl
      never (Done xs) (Done ys) [] (v ∷ vs) p q some x e = q
      never (Done xs) (Done ys) (u ∷ us) vs p q some x e = p
      never (Done xs) (Waits ls) us vs p q some x e = (let none : ⊥ = cc in none)
      never (Waits ks) (Done ys) us vs p q some x e = (let none : ⊥ = cc in none)
      never (Waits ks) (Waits ls) us vs p q some x e = (let none : ⊥ = cc in none)

  -- a stage of two parts that are done
  pub gained_both_on : (new : Trail LinkKey LinkFact A B) → g.waits ≡ [] → h.waits ≡ [] → ((xs ys : List C) (us vs : List D) → SameMembers xs ys
      → SameMembers us vs → Alike (f (xs, us) w) (f (ys, vs) w))
      → Gained (f (g.found, h.found) w) both_notes new → Gained ((both c d >>= f) w) old new
  gained_both_on new n1 n2 same e =
      let p = finished g.found (c w).step g.waits a.step n1 in
      let q = finished h.found (d w).step h.waits b.step n2 in
      let is : both_step (c w).step (d w).step ≡ ready_pair p.0 q.0 = λ i. both_step (p.1 i) (q.1 i) in
      let d' = gained_alike (f (g.found, h.found) w) (f (p.0, q.0) w) both_notes new (same g.found p.0 h.found q.0 p.2 q.2) e in
      record {
        kept = λ y k. d'.kept y (both_kept y k);
        shown = λ y s. elim (shows_then w (both c d) f y s) [
          | inl aside ↦ d'.kept y (both_sound y aside)
          | inr x ↦ d'.shown y (subst (λ z. Shows (f z w) y) (same_done x.0 (p.0, q.0) (sym x.1 ∙ is)) x.2)
        ];
        only = λ y k. elim (d'.only y k) [
          | inl there ↦ elim (both_back y there) [ inl o ↦ inl o | inr aside ↦ inr (admits_first w (both c d) f y aside) ]
          | inr m ↦ inr (admits_then w (both c d) f (p.0, q.0) y is m)
        ];
      }
    where
      finished : {X : Type 0} (found : List X) (step : Step LinkKey (List X)) (waits : List LinkKey) → IsStep found waits step → waits ≡ []
          → (ys : List X) × (step ≡ Done ys) × SameMembers found ys
      finished found (Done ys) [] s e = (ys, refl, s)
      finished found (Done ys) (v ∷ vs) s e = absurd s
      finished found (Waits ks) [] s e = absurd s
      finished found (Waits ks) (v ∷ vs) s e = cc

      same_done : (u v : List C × List D) → ready u ≡ ready v → u ≡ v
      same_done u v e = cc

-- THE SAME FOR CODE, which keeps what it found apart from its notes
abbrev pub gains_of : {B : Type 0} → List B → Noted → Trail LinkKey LinkFact ElementNo B
gains_of found notes = record { nodes = []; found = found; waits = notes.waits; looks = notes.looks }

pub mapped_by : {B C D : Type 0} (w : LinkWorld) (g : Trail LinkKey LinkFact D C) (c : Lookup (List C)) (f : C → B) (found more : List B) (old mid : Noted)
    → IsAsked g (c w) → more ≡ found ++ map f g.found → mid ≡ noted g.waits g.looks old
    → Gained ((c >>= λ xs. done (map f xs)) w) (gains_of found old) (gains_of more mid)
mapped_by w g c f found more old mid h e is = subst (Gained ((c >>= λ xs. done (map f xs)) w) (gains_of found old)) (λ i. gains_of (sym e i) (sym is i))
    (gained_mapped w g c f (gains_of found old) h)

pub begins_empty : {B : Type 0} (start : Trail LinkKey LinkFact ElementNo B) → start ≡ record { nodes = []; found = []; waits = []; looks = [] }
    → start ≡ record { nodes = start.nodes; found = []; waits = []; looks = [] }
begins_empty {B} start e = e ∙ ap (λ ns. record { nodes = ns; found = []; waits = []; looks = [] }) (sym (ap (λ
    (t : Trail LinkKey LinkFact ElementNo B). t.nodes) e))

module _ {B C D : Type 0} (w : LinkWorld) (g : Trail LinkKey LinkFact D C) (c : Lookup (List C)) (f : List C
    → Lookup (List B)) (found : List B) (old mid : Noted) (h : IsAsked g (c w)) (is : mid ≡ noted g.waits g.looks old) where
  after_notes : plus (gains_of found old) [] g.waits g.looks ≡ gains_of found mid
  after_notes = λ i. gains_of (append-nil found i) (sym is i)

  pub stop_by : (g.waits ≡ [] → ⊥) → Gained ((c >>= f) w) (gains_of found old) (gains_of found mid)
  stop_by some = subst (Gained ((c >>= f) w) (gains_of found old)) after_notes (gained_stop w g c f (gains_of found old) h some)

  pub goes_on_by : (new : Trail LinkKey LinkFact ElementNo B) → g.waits ≡ [] → ((xs ys : List C) → SameMembers xs ys → Alike (f xs w) (f ys w))
      → Gained (f g.found w) (gains_of found mid) new → Gained ((c >>= f) w) (gains_of found old) new
  goes_on_by new none same d = gained_goes_on w g c f (gains_of found old) new h none same (subst (λ z. Gained (f g.found w) z new) (sym after_notes) d)

module _ {B C D : Type 0} (w : LinkWorld) (g : Trail LinkKey LinkFact ElementNo C) (h : Trail LinkKey LinkFact ElementNo D) (c : Lookup (List C)) (d : Lookup
    (List D)) (f : List C × List D → Lookup (List B)) (found : List B) (old mid last : Noted) (a : IsAsked g (c w)) (b : IsAsked h (d w))
    (is : mid ≡ noted g.waits g.looks old) (too : last ≡ noted h.waits h.looks mid) where
  after_both : plus (plus (gains_of found old) [] g.waits g.looks) [] h.waits h.looks ≡ gains_of found last
  after_both = ap (λ z. plus z [] h.waits h.looks) (λ i. gains_of (append-nil found i) (sym is i)) ∙ λ i. gains_of (append-nil found i) (sym too i)

  pub both_stop_by : (g.waits ≡ [] → h.waits ≡ [] → ⊥) → Gained ((both c d >>= f) w) (gains_of found old) (gains_of found last)
  both_stop_by some = subst (Gained ((both c d >>= f) w) (gains_of found old)) after_both (gained_both_stop w g h c d f (gains_of found old) a b some)

  pub both_on_by : (new : Trail LinkKey LinkFact ElementNo B) → g.waits ≡ [] → h.waits ≡ [] → ((xs ys : List C) (us vs : List D) → SameMembers xs ys
      → SameMembers us vs → Alike (f (xs, us) w) (f (ys, vs) w)) → Gained (f (g.found, h.found) w) (gains_of found last) new
      → Gained ((both c d >>= f) w) (gains_of found old) new
  both_on_by new n1 n2 same e = gained_both_on w g h c d f (gains_of found old) a b new n1 n2 same (subst (λ z. Gained (f (g.found, h.found) w) z new)
      (sym after_both) e)

-- whether an asking waits
pub waits_some : {A : Type 0} (ws : List A) → not (is_nil ws) ≡ true → ws ≡ [] → ⊥
waits_some [] e a = (let none : ⊥ = cc in none)
waits_some (v ∷ ws) e a = (let none : ⊥ = cc in none)

pub waits_none : {A : Type 0} (ws : List A) → not (is_nil ws) ≡ false → ws ≡ []
waits_none [] e = refl
waits_none (v ∷ ws) e = cc

-- a member is added, where the test says so
pub gained_if : {B : Type 0} (w : LinkWorld) (b : Bool) (x : B) (found : List B) (notes : Noted)
    → Gained (done (only_if b x) w) (gains_of found notes) (gains_of (found ++ only_if b x) notes)
gained_if w b x found notes =
    gained_asked (record { nodes = the_none; found = only_if b x; waits = []; looks = [] }) (done (only_if b x) w) (gains_of found notes)
    (record { step = record { left = λ y m. m; right = λ y m. m }; looks = record { left = λ y m. m; right = λ y m. m } })
  where
    the_none : List ElementNo
    the_none = []
