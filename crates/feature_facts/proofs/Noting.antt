-- Stages that never wait, and askings whose waits and looks were noted.
use Rattle.std.proofs.Common.{◌≡◌, List, [], ◌∷◌, ◌++◌, refl, inl, inr}
use Rattle.std.specs.Prelude.{◌⊎◌}
use Rattle.linker_base.specs.Members.{IsMember}
use Rattle.demand_core.specs.Rules.{WaitsOn}
use Rattle.demand_core.specs.Computation.{Asked, join_step, joined, IsRegular}
use Rattle.demand_core.specs.Search.{Part, Finds, Awaits, LooksAt, Has, MayHave, Shows, Admits, Aside, Trail, IsStep, IsAsked, IsKnown}
use Rattle.demand_core.specs.declared.step.Step.{Step}
use Rattle.demand_core.specs.declared.step.Step.TheVariants.{Done, Waits}
use Rattle.demand_core.proofs.SearchLaws.{is_asked}
use Rattle.link_model.specs.declared.keys.LinkKey.{LinkKey}
use Rattle.link_model.specs.declared.keys.LinkFact.{LinkFact}
use Rattle.link_model.specs.Readers.{Lookup, LinkWorld}
use Rattle.link_model.specs.Settled.{answers_of}
use Rattle.link_walk.specs.Noted.{Noted, noted}
use Rattle.link_walk.specs.Marks.{same_fact}
use Rattle.link_model.specs.Keys.{same_key, key_is_exact}
use Rattle.link_walk.proofs.MarkLaws.{all_kept, all_now, all_new, fact_is_exact}
use Rattle.feature_facts.specs.Known.{answered, HasAnswer}

-- A STAGE THAT NEVER WAITS
pub both_done : {C : Type 0} (a b : Step LinkKey (List C)) → ((xs : List C) × (a ≡ Done xs)) → ((ys : List C) × (b ≡ Done ys))
    → (zs : List C) × (join_step a b ≡ Done zs)
both_done a b x y = (x.0 ++ y.0, λ i. join_step (x.1 i) (y.1 i))

pub joined_done : {A C : Type 0} (w : LinkWorld) (f : A → Lookup (List C)) → ((x : A) → (ys : List C) × ((f x w).step ≡ Done ys)) → (xs : List A)
    → (zs : List C) × ((joined f xs w).step ≡ Done zs)
joined_done w f d [] = ([], refl)
joined_done w f d (x ∷ xs) = both_done (f x w).step (joined f xs w).step (d x) (joined_done w f d xs)

pub done_quiet : {A B : Type 0} (g : Trail LinkKey LinkFact A B) (a : Asked LinkKey LinkFact (List B)) (ys : List B) → IsAsked g a → a.step ≡ Done ys
    → g.waits ≡ []
done_quiet {A} {B} g a ys h e = by g.waits a.step h.step e
  where
    by : (ws : List LinkKey) (step : Step LinkKey (List B)) → IsStep g.found ws step → step ≡ Done ys → ws ≡ []
    by [] step s e = refl
    by (v ∷ vs) (Done zs) s e = absurd s
    by (v ∷ vs) (Waits ks) s e = cc

pub none_waits : (ws : List LinkKey) → ((k : LinkKey) → IsMember ws k → ⊥) → ws ≡ []
none_waits [] h = refl
none_waits (k ∷ ks) h = absurd (h k (inl refl))

pub in_answers : {B : Type 0} (step : Step LinkKey (List B)) (y : B) → Has step y → IsMember (answers_of step) y
in_answers (Done ys) y h = h
in_answers (Waits ks) y h = absurd h

pub answers_may : {B : Type 0} (step : Step LinkKey (List B)) (y : B) → IsMember (answers_of step) y → MayHave step y
answers_may (Done ys) y h = h
answers_may (Waits ks) y h = tt

pub answers_has : {B : Type 0} (step : Step LinkKey (List B)) (ys : List B) (y : B) → step ≡ Done ys → MayHave step y → IsMember (answers_of step) y
answers_has (Done xs) ys y e h = h
answers_has (Waits ks) ys y e h = cc

pub answers_in : {B : Type 0} (step : Step LinkKey (List B)) (y : B) → IsMember (answers_of step) y → Has step y
answers_in (Done ys) y h = h
answers_in (Waits ks) y h = absurd h

-- it was noted
abbrev pub IsNoted : {B : Type 0} → Noted → Part LinkKey LinkFact B → Type 0
IsNoted n (Finds y) = ⊥
IsNoted n (Awaits k) = IsMember n.waits k
IsNoted n (LooksAt f) = IsMember n.looks f

pub noted_old : {B : Type 0} (old : Noted) (g : Noted) (x : Part LinkKey LinkFact B) → IsNoted old x → IsNoted (noted g.waits g.looks old) x
noted_old old g (Finds y) h = h
noted_old old g (Awaits k) h = all_kept same_key key_is_exact g.waits old.waits k h
noted_old old g (LooksAt f) h = all_kept same_fact fact_is_exact g.looks old.looks f h

pub noted_now : {B : Type 0} (old : Noted) (g : Noted) (x : Part LinkKey LinkFact B) → IsNoted g x → IsNoted (noted g.waits g.looks old) x
noted_now old g (Finds y) h = h
noted_now old g (Awaits k) h = all_now same_key key_is_exact g.waits old.waits k h
noted_now old g (LooksAt f) h = all_now same_fact fact_is_exact g.looks old.looks f h

pub noted_cases : {B : Type 0} (old : Noted) (g : Noted) (x : Part LinkKey LinkFact B) → IsNoted (noted g.waits g.looks old) x
    → IsNoted old x ⊎ IsNoted g x
noted_cases old g (Finds y) h = inl h
noted_cases old g (Awaits k) h = all_new same_key key_is_exact g.waits old.waits k h
noted_cases old g (LooksAt f) h = all_new same_fact fact_is_exact g.looks old.looks f h

-- what an asking noted is what it shows beside its answer
abbrev pub notes_of : {A B : Type 0} → Trail LinkKey LinkFact A B → Noted
notes_of g = record { waits = g.waits; looks = g.looks }

pub aside_noted : {A C B : Type 0} (g : Trail LinkKey LinkFact A C) (a : Asked LinkKey LinkFact (List C)) (x : Part LinkKey LinkFact B)
    → IsAsked g a → Aside a x → IsNoted (notes_of g) x
aside_noted g a (Finds y) h s = s
aside_noted {C = C} g a (Awaits k) h s = by g.waits a.step h.step s
  where
    by : (ws : List LinkKey) (step : Step LinkKey (List C)) → IsStep g.found ws step → WaitsOn step k → IsMember ws k
    by [] (Done ys) s m = absurd m
    by [] (Waits ks) s m = absurd s
    by (v ∷ vs) (Done ys) s m = absurd m
    by (v ∷ vs) (Waits ks) s m = s.right k m
aside_noted g a (LooksAt f) h s = h.looks.right f s

pub noted_aside : {A C B : Type 0} (g : Trail LinkKey LinkFact A C) (a : Asked LinkKey LinkFact (List C)) (x : Part LinkKey LinkFact B)
    → IsAsked g a → IsNoted (notes_of g) x → Aside a x
noted_aside g a (Finds y) h s = s
noted_aside {C = C} g a (Awaits k) h s = by g.waits a.step h.step s
  where
    by : (ws : List LinkKey) (step : Step LinkKey (List C)) → IsStep g.found ws step → IsMember ws k → WaitsOn step k
    by [] step s m = absurd m
    by (v ∷ vs) (Done ys) s m = absurd s
    by (v ∷ vs) (Waits ks) s m = s.left k m
noted_aside g a (LooksAt f) h s = h.looks.left f s

-- an asking whose waits and looks were noted has its own answer
pub has_answer : {B : Type 0} (w : LinkWorld) (c : Lookup (List B)) (n : Noted) → IsRegular c
    → ((x : Part LinkKey LinkFact B) → Aside (c w) x → IsNoted n x) → ((x : Part LinkKey LinkFact B) → IsNoted n x → Aside (c w) x) → HasAnswer c w n
has_answer {B} w c n r to from = is_asked w.table (answered c w n) (c w) (r.sound w) shown admitted
  where
    shown : (x : Part LinkKey LinkFact B) → Shows (c w) x → IsKnown (answered c w n) x
    shown (Finds y) h = in_answers (c w).step y h
    shown (Awaits k) h = to (Awaits k) h
    shown (LooksAt f) h = to (LooksAt f) h

    admitted : (x : Part LinkKey LinkFact B) → IsKnown (answered c w n) x → Admits (c w) x
    admitted (Finds y) h = answers_may (c w).step y h
    admitted (Awaits k) h = from (Awaits k) h
    admitted (LooksAt f) h = from (LooksAt f) h
