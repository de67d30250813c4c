-- Tasks that are left: the parts of an asking, one after another.
use Rattle.std.proofs.Common.{◌≡◌, ℕ, ◌+◌, ◌*◌, ◌-◌, ◌^◌, ◌<◌, ◌≤◌, Bool, true, false, cond, List, [], ◌∷◌, ◌++◌, length, get_or, take, refl, sym, ◌∙◌, ap, subst, inl, inr, arith, append_assoc, append-nil, length-append, take-suc, add-one}
use Rattle.std.specs.Prelude.{◌⊎◌, ◌||◌, not, Option, None, Some, suc}
use Rattle.std.proofs.lemmas.List.{take_all}
use Rattle.std.proofs.Math.Nat.{suc-mul, one-le-pow, pow-succ', pow-le-pow_right, mul-lt-mul_of_pos_right}
use Rattle.linker_base.proofs.Cases.{bool_cases}
use Rattle.linker_base.specs.Members.{IsMember, SameMembers}
use Rattle.linker_base.proofs.MemberLaws.{member_left, member_right, member_cases}
use Rattle.demand_core.specs.Rules.{WaitsOn}
use Rattle.demand_core.specs.Computation.{Asked, IsSound, done, then_step, ◌>>=◌, join_step, join, joined}
use Rattle.demand_core.specs.Search.{MayHave, Finds, Awaits, LooksAt, Shows, Admits, Aside, Trail, IsKnown, IsStep, IsAsked, off_count}
use Rattle.demand_core.specs.declared.looks.Fact.{Fact}
use Rattle.demand_core.specs.declared.step.Step.{Step}
use Rattle.demand_core.specs.declared.step.Step.TheVariants.{Done, Waits}
use Rattle.demand_core.proofs.GatherLaws.{off_less}
use Rattle.demand_core.proofs.LoopLaws.{join_assoc, join_first, join_last}
use Rattle.demand_core.proofs.PartLaws.{shows_nothing, shows_join, shows_then, admits_left, admits_right, admits_first, admits_then}
use Rattle.demand_core.proofs.SearchLaws.{is_asked}
use Rattle.element_store.specs.declared.numbers.ElementNo.{ElementNo}
use Rattle.element_store.specs.declared.models.StoredFile.{StoredFile}
use Rattle.element_store.specs.BaseRules.{StandsIn}
use Rattle.link_model.specs.declared.keys.LinkKey.{LinkKey}
use Rattle.link_model.specs.declared.keys.LinkFact.{LinkFact}
use Rattle.link_model.specs.declared.keys.Hit.{Hit}
use Rattle.link_model.specs.Keys.{same_element, same_key, key_is_exact, element_is_exact, is_in}
use Rattle.link_model.specs.Outside.{Library}
use Rattle.link_model.specs.Readers.{Lookup, LinkWorld, most, is_nil}
use Rattle.link_model.specs.Imports.{visible_from, visible, inside}
use Rattle.link_walk.specs.Gained.{Gained}
use Rattle.link_walk.specs.Marks.{same_fact}
use Rattle.link_walk.specs.Noted.{Noted, noted, waits_of, Reads, Tells, TellsStep}
use Rattle.link_walk.proofs.GainLaws.{plus, gained_asked}
use Rattle.link_walk.proofs.MarkLaws.{fact_is_exact, all_kept, all_now, all_new}
use Rattle.import_walk.specs.Deferred.{HuntTrail, HitPart, HitAsked, asks_task, again_from, tiers_then, inside_if, shows, imports_at, members_at, width, Defers, IsHunt, AllTasksStand, Asking, weight}
use Rattle.import_walk.specs.declared.hunt.Task.{Task}

-- the union of all but the last, and the last
joined_last : {A : Type 0} (w : LinkWorld) (f : A → Lookup (List Hit)) (xs : List A) (x : A) → joined f (xs ++ x ∷ []) w ≡ join (joined f xs) (f x) w
joined_last w f [] x = λ i. record { step = (join_last (f x w).step ∙ sym (join_first (f x w).step)) i; looks = append-nil (f x w).looks i }
joined_last w f (y ∷ xs) x =
    let more = joined_last w f xs x in
    λ i. record {
      step = (ap (λ a. join_step (f y w).step a.step) more ∙ sym (join_assoc (f y w).step (joined f xs w).step (f x w).step)) i;
      looks = (ap (λ a. (f y w).looks ++ a.looks) more ∙ sym (append_assoc (f y w).looks (joined f xs w).looks (f x w).looks)) i;
    }

abbrev pub ready : {C : Type 0} → C → Step LinkKey C
ready v = Done v

-- the notes of an asking are added, and no more
pub record Looked {C : Type 0} (a : Asked LinkKey LinkFact C) (old mid : HuntTrail) : Type 0 where
  pub nodes : mid.nodes ≡ old.nodes
  pub kept : (y : HitPart) → IsKnown old y → IsKnown mid y
  pub has : (y : HitPart) → Aside a y → IsKnown mid y
  pub only : (y : HitPart) → IsKnown mid y → IsKnown old y ⊎ Aside a y

module _ (ask : Asking) (files : List StoredFile) (w : LinkWorld) (inner : List ElementNo) where
  abbrev Here : ℕ → HitAsked → HuntTrail → HuntTrail → Type 0
  Here n a old new = Defers ask files w inner n a old new

  pub defers_none : (n : ℕ) (t : HuntTrail) → Here n (done [] w) t t
  defers_none n t = record {
    added = [];
    grown = sym (append-nil t.nodes);
    kept = λ y k. k;
    shown = λ y h. absurd (shows_nothing w y h);
    only = λ y k. inl k;
    pending = λ u y m. absurd m;
    inside = λ u m. absurd m;
    count = omega arith;
  }

  pub defers_equal : (n : ℕ) (a b : HitAsked) (old new : HuntTrail) → a ≡ b → Here n a old new → Here n b old new
  defers_equal n a b old new e h = subst (λ z. Here n z old new) e h

  pub defers_wider : (m n : ℕ) (a : HitAsked) (old new : HuntTrail) → m ≤ n → Here m a old new → Here n a old new
  defers_wider m n a old new le h =
      record {
        added = h.added;
        grown = h.grown;
        kept = h.kept;
        shown = h.shown;
        only = h.only;
        pending = h.pending;
        inside = h.inside;
        count =
            (let c = h.count in omega arith);
      }

  pub defers_join : (m n : ℕ) (c d : Lookup (List Hit)) (old mid new : HuntTrail) → Here m (c w) old mid → Here n (d w) mid new → Here (m + n)
      (join c d w) old new
  defers_join m n c d old mid new g h = record {
    added = g.added ++ h.added;
    grown = h.grown ∙ (ap (λ z. z ++ h.added) g.grown ∙ append_assoc old.nodes g.added h.added);
    kept = λ y k. h.kept y (g.kept y k);
    shown = λ y s. elim (shows_join w c d y s) [
      | inl a ↦ elim (g.shown y a) [ inl k ↦ inl (h.kept y k) | inr t ↦ inr (t.0, member_left g.added h.added t.0 t.1, t.2) ]
      | inr b ↦ elim (h.shown y b) [ inl k ↦ inl k | inr t ↦ inr (t.0, member_right g.added h.added t.0 t.1, t.2) ]
    ];
    only = λ y k. elim (h.only y k) [
      | inl there ↦ elim (g.only y there) [ inl o ↦ inl o | inr a ↦ inr (admits_left w c d y a) ]
      | inr b ↦ inr (admits_right w c d y b)
    ];
    pending = λ t y m a. elim (member_cases g.added h.added t m) [
      | inl left ↦ admits_left w c d y (g.pending t y left a)
      | inr right ↦ admits_right w c d y (h.pending t y right a)
    ];
    inside = λ t m. elim (member_cases g.added h.added t m) [ inl left ↦ g.inside t left | inr right ↦ h.inside t right ];
    count = (let long : length (g.added ++ h.added)
        ≡ length g.added + length h.added = length-append g.added h.added in let a = g.count in let b = h.count in omega arith);
  }

  -- one part more
  pub defers_next : {A : Type 0} (f : A → Lookup (List Hit)) (xs : List A) (i : ℕ) (d e : A) (old mid new : HuntTrail) → i < length xs → d ≡ get_or xs i e
      → Here (length (take i xs)) (joined f (take i xs) w) old mid → Here 1 (f d w) mid new
      → Here (length (take (i + 1) xs)) (joined f (take (i + 1) xs) w) old new
  defers_next f xs i d e old mid new lt is g h =
      let more : take (i + 1) xs ≡ take i xs ++ d ∷ [] = rw add-one (take-suc xs i e lt) ∙ ap (λ z. take i xs ++ z ∷ []) (sym is) in
      let long : length (take i xs ++ d ∷ []) ≡ length (take i xs) + 1 = length-append (take i xs) (d ∷ []) in
      subst (λ ys. Here (length ys) (joined f ys w) old new) (sym more)
      (defers_equal (length (take i xs ++ d ∷ [])) (join (joined f (take i xs)) (f d) w) (joined f (take i xs ++ d ∷ []) w) old new (sym (joined_last w f
      (take i xs) d))
      (subst (λ n. Here n (join (joined f (take i xs)) (f d) w) old new) (sym long) (defers_join (length (take i xs)) 1 (joined f (take i xs))
      (f d) old mid new g h)))

  -- after the last part
  pub defers_all : {A : Type 0} (f : A → Lookup (List Hit)) (xs : List A) (i : ℕ) (old new : HuntTrail) → length xs ≤ i → Here (length (take i xs))
      (joined f (take i xs) w) old new → Here (length xs) (joined f xs w) old new
  defers_all f xs i old new done h = subst (λ ys. Here (length ys) (joined f ys w) old new) (take_all i xs done) h

  -- a stage that is done, and what follows
  pub defers_after : {C : Type 0} (n : ℕ) (c : Lookup C) (f : C → Lookup (List Hit)) (v : C) (old mid new : HuntTrail) → (c w).step ≡ Done v → Looked
      (c w) old mid → Here n (f v w) mid new → Here n ((c >>= f) w) old new
  defers_after n c f v old mid new is l h = record {
    added = h.added;
    grown = h.grown ∙ ap (λ z. z ++ h.added) l.nodes;
    kept = λ y k. h.kept y (l.kept y k);
    shown = λ y s. elim (shows_then w c f y s) [
      | inl aside ↦ inl (h.kept y (l.has y aside))
      | inr d ↦ h.shown y (subst (λ z. Shows (f z w) y) (same_done d.0 v (sym d.1 ∙ is)) d.2)
    ];
    only = λ y k. elim (h.only y k) [
      | inl there ↦ elim (l.only y there) [ inl o ↦ inl o | inr aside ↦ inr (admits_first w c f y aside) ]
      | inr a ↦ inr (admits_then w c f v y is a)
    ];
    pending = λ t y m a. admits_then w c f v y is (h.pending t y m a);
    inside = h.inside;
    count = h.count;
  }
    where
      same_done : {C : Type 0} (u v : C) → ready u ≡ ready v → u ≡ v
      same_done u v e = cc

  -- a stage that waits
  pub defers_waits : {C : Type 0} (n : ℕ) (c : Lookup C) (f : C → Lookup (List Hit)) (ks : List LinkKey) (old mid : HuntTrail) → (c w).step ≡ Waits ks
      → Looked (c w) old mid → Here n ((c >>= f) w) old mid
  defers_waits n c f ks old mid is l = record {
    added = [];
    grown = l.nodes ∙ sym (append-nil old.nodes);
    kept = l.kept;
    shown = λ y s. elim (shows_then w c f y s) [ inl aside ↦ inl (l.has y aside) | inr d ↦ never d.0 (sym d.1 ∙ is) ];
    only = λ y k. elim (l.only y k) [ inl o ↦ inl o | inr aside ↦ inr (admits_first w c f y aside) ];
    pending = λ t y m. absurd m;
    inside = λ t m. absurd m;
    count = omega arith;
  }
    where
      never : {C : Type 0} {P : Type 0} (v : C) → ready v ≡ Waits ks → P
      never v e = absurd (let none : ⊥ = cc in none)

  -- a task is added
  pub defers_task : (recursive all_members : Bool) (e : ElementNo) (old : HuntTrail) → StandsIn files e
      → Here 1 (ask (record { excluded = inner; recursive = recursive; all = all_members; namespace = e }) w) old
      (record {
        nodes = old.nodes ++ record { excluded = inner; recursive = recursive; all = all_members; namespace = e } ∷ [];
        found = old.found;
        waits = old.waits;
        looks = old.looks;
      })
  defers_task recursive all_members e old m =
      let t : Task = record { excluded = inner; recursive = recursive; all = all_members; namespace = e } in
      record {
        added = t ∷ [];
        grown = refl;
        kept = λ y k. same_known y k;
        shown = λ y s. inr (t, inl refl, s);
        only = λ y k. inl (known_same y k);
        pending = λ u y. elim [ inl is ↦ λ a. subst (λ z. Admits (ask z w) y) (sym is) a | inr none ↦ absurd none ];
        inside = λ u. elim [ inl is ↦ subst (λ (z : Task). (z.excluded ≡ inner) × StandsIn files z.namespace) is (refl, m) | inr none ↦ absurd none ];
        count = omega arith;
      }
    where
      same_known : (y : HitPart) → IsKnown old y → IsKnown
          (record {
            nodes = old.nodes ++ record { excluded = inner; recursive = recursive; all = all_members; namespace = e } ∷ [];
            found = old.found;
            waits = old.waits;
            looks = old.looks;
          }) y
      same_known (Finds h) k = k
      same_known (Awaits q) k = k
      same_known (LooksAt f) k = k

      known_same : (y : HitPart) → IsKnown
          (record {
            nodes = old.nodes ++ record { excluded = inner; recursive = recursive; all = all_members; namespace = e } ∷ [];
            found = old.found;
            waits = old.waits;
            looks = old.looks;
          }) y → IsKnown old y
      known_same (Finds h) k = k
      known_same (Awaits q) k = k
      known_same (LooksAt f) k = k

-- a hunt with these notes
abbrev pub hunt_of : List Task → List Hit → Noted → HuntTrail
hunt_of tasks found notes = record { nodes = tasks; found = found; waits = notes.waits; looks = notes.looks }

-- what an asking waits on and looks at is noted
looked_noted : {C : Type 0} (a : Asked LinkKey LinkFact C) (tasks : List Task) (found : List Hit) (old : Noted)
    → Looked a (hunt_of tasks found old) (hunt_of tasks found (noted (waits_of a.step) a.looks old))
looked_noted {C} a tasks found old = record { nodes = refl; kept = kept_by; has = has_by; only = only_by }
  where
    kept_by : (y : HitPart) → IsKnown (hunt_of tasks found old) y → IsKnown (hunt_of tasks found (noted (waits_of a.step) a.looks old)) y
    kept_by (Finds y) k = k
    kept_by (Awaits q) k = all_kept same_key key_is_exact (waits_of a.step) old.waits q k
    kept_by (LooksAt f) k = all_kept same_fact fact_is_exact a.looks old.looks f k

    waits_in : (step : Step LinkKey C) (q : LinkKey) → WaitsOn step q → IsMember (waits_of step) q
    waits_in (Done v) q k = absurd k
    waits_in (Waits ks) q k = k

    in_waits : (step : Step LinkKey C) (q : LinkKey) → IsMember (waits_of step) q → WaitsOn step q
    in_waits (Done v) q k = absurd k
    in_waits (Waits ks) q k = k

    has_by : (y : HitPart) → Aside a y → IsKnown (hunt_of tasks found (noted (waits_of a.step) a.looks old)) y
    has_by (Finds y) k = absurd k
    has_by (Awaits q) k = all_now same_key key_is_exact (waits_of a.step) old.waits q (waits_in a.step q k)
    has_by (LooksAt f) k = all_now same_fact fact_is_exact a.looks old.looks f k

    only_by : (y : HitPart) → IsKnown (hunt_of tasks found (noted (waits_of a.step) a.looks old)) y → IsKnown (hunt_of tasks found old) y ⊎ Aside a y
    only_by (Finds y) k = inl k
    only_by (Awaits q) k = elim (all_new same_key key_is_exact (waits_of a.step) old.waits q k) [ inl o ↦ inl o | inr now ↦ inr (in_waits a.step q now) ]
    only_by (LooksAt f) k = all_new same_fact fact_is_exact a.looks old.looks f k

module _ (ask : Asking) (files : List StoredFile) (w : LinkWorld) (inner : List ElementNo) where
  -- what is gained without a task
  pub defers_gained : (n : ℕ) (a : HitAsked) (old new : HuntTrail) → new.nodes ≡ old.nodes → Gained a old new → Defers ask files w inner n a old new
  defers_gained n a old new same g = record {
    added = [];
    grown = same ∙ sym (append-nil old.nodes);
    kept = g.kept;
    shown = λ y s. inl (g.shown y s);
    only = g.only;
    pending = λ t y m. absurd m;
    inside = λ t m. absurd m;
    count = omega arith;
  }

  -- an asking of its own is added
  pub defers_gains : {A : Type 0} (n : ℕ) (g : Trail LinkKey LinkFact A Hit) (a : HitAsked) (old : HuntTrail) → IsAsked g a
      → Defers ask files w inner n a old (plus old g.found g.waits g.looks)
  defers_gains n g a old h = defers_gained n a old (plus old g.found g.waits g.looks) refl (gained_asked g a old h)

  -- where the first stage of its own waits or found something, the second adds nothing
  pub defers_first : {A : Type 0} (n : ℕ) (g : Trail LinkKey LinkFact A Hit) (c : Lookup (List Hit)) (f : List Hit → Lookup (List Hit)) (old : HuntTrail)
      → IsAsked g (c w) → (g.waits ≡ [] → g.found ≡ [] → ⊥) → ((h : Hit) (hs : List Hit) → f (h ∷ hs) w ≡ done (h ∷ hs) w)
      → Defers ask files w inner n ((c >>= f) w) old (plus old g.found g.waits g.looks)
  defers_first n g c f old h some same = let e = first_same (c w).step (c w).looks g.waits g.found h.step some in defers_gains n g ((c >>= f) w) old
      (record { step = e.0; looks = subst (SameMembers g.looks) (sym e.1) h.looks })
    where
      first_same : (step : Step LinkKey (List Hit)) (looks : List (Fact LinkKey LinkFact)) (waits : List LinkKey) (found : List Hit)
          → IsStep found waits step → (waits ≡ [] → found ≡ [] → ⊥)
          → IsStep found waits (then_step (record { step = step; looks = looks }) (λ hs. f hs w) step).step × ((then_step
          (record { step = step; looks = looks }) (λ hs. f hs w) step).looks ≡ looks)
      first_same (Done []) looks [] [] s some = absurd (some refl refl)
      first_same (Done []) looks [] (h ∷ hs) s some = absurd (s.left h (inl refl))
      first_same (Done (y ∷ ys)) looks [] found s some =
          (subst (λ z. IsStep found [] z.step) (sym (same y ys)) s, ap (λ z. looks ++ z.looks) (same y ys) ∙ append-nil looks)
      first_same (Done ys) looks (v ∷ vs) found s some = absurd s
      first_same (Waits ks) looks [] found s some = absurd s
      first_same (Waits ks) looks (v ∷ vs) found s some = (s, refl)

  -- where it waits on nothing and found nothing, the second stage has nothing to go by
  pub defers_second : {A : Type 0} (n : ℕ) (g : Trail LinkKey LinkFact A Hit) (c : Lookup (List Hit)) (f : List Hit → Lookup (List Hit))
      (old new : HuntTrail) → IsAsked g (c w) → g.waits ≡ [] → g.found ≡ []
      → Defers ask files w inner n (f [] w) (plus old g.found g.waits g.looks) new → Defers ask files w inner n ((c >>= f) w) old new
  defers_second n g c f old new h no_waits no_found d =
      let is = empty_step (c w).step g.waits g.found no_waits no_found h.step in
      let own = gained_asked g (c w) old h in
      defers_after ask files w inner n c f [] old (plus old g.found g.waits g.looks) new is (record {
        nodes = refl;
        kept = own.kept;
        has = aside_has is own.shown;
        only = λ y k. elim (own.only y k) [ inl o ↦ inl o | inr b ↦ inr (admits_aside is y b) ];
      }) d
    where
      empty_step : (step : Step LinkKey (List Hit)) (waits : List LinkKey) (found : List Hit) → waits ≡ [] → found ≡ [] → IsStep found waits step
          → step ≡ Done []
      empty_step (Done []) waits found a b s = refl
      empty_step (Done (y ∷ ys)) [] [] a b s = absurd (s.right y (inl refl))
      empty_step (Done (y ∷ ys)) [] (h ∷ hs) a b s = cc
      empty_step (Done (y ∷ ys)) (v ∷ vs) found a b s = cc
      empty_step (Waits ks) [] found a b s = absurd s
      empty_step (Waits ks) (v ∷ vs) found a b s = cc

      aside_has : (c w).step ≡ ready [] → ((y : HitPart) → Shows (c w) y → IsKnown (plus old g.found g.waits g.looks) y) → (y : HitPart) → Aside (c w) y
          → IsKnown (plus old g.found g.waits g.looks) y
      aside_has is shown (Finds y) a = absurd a
      aside_has is shown (Awaits k) a = shown (Awaits k) a
      aside_has is shown (LooksAt f) a = shown (LooksAt f) a

      admits_aside : (c w).step ≡ ready [] → (y : HitPart) → Admits (c w) y → Aside (c w) y
      admits_aside is (Finds y) b = absurd (subst (λ z. MayHave z y) is b)
      admits_aside is (Awaits k) b = b
      admits_aside is (LooksAt f) b = b

  -- something is read, and then
  pub defers_read : {C : Type 0} (n : ℕ) (c : Lookup C) (f : C → Lookup (List Hit)) (v : C) (tasks : List Task) (found : List Hit) (old mid : Noted)
      (new : HuntTrail) → Reads (c w) v old mid
      → Defers ask files w inner n (f v w) (hunt_of tasks found mid) new → Defers ask files w inner n ((c >>= f) w) (hunt_of tasks found old) new
  defers_read n c f v tasks found old mid new h d =
      let waits : noted (waits_of (c w).step) (c w).looks old ≡ mid = ap (λ z. noted (waits_of z) (c w).looks old) h.step ∙ sym h.noted in
      defers_after ask files w inner n c f v (hunt_of tasks found old) (hunt_of tasks found mid) new h.step
      (subst (λ m. Looked (c w) (hunt_of tasks found old) (hunt_of tasks found m)) waits (looked_noted (c w) tasks found old)) d

  looked_tells : {C : Type 0} (a : Asked LinkKey LinkFact (List C)) (o : Option C) (tasks : List Task) (found : List Hit) (old mid : Noted)
      → Tells a o old mid → Looked a (hunt_of tasks found old) (hunt_of tasks found mid)
  looked_tells a o tasks found old mid h = subst (λ m. Looked a (hunt_of tasks found old) (hunt_of tasks found m)) (sym h.noted)
      (looked_noted a tasks found old)

  -- a reference leads nowhere, or is open
  pub defers_nowhere : {C : Type 0} (n : ℕ) (c : Lookup (List C)) (f : C → Lookup (List Hit)) (tasks : List Task) (found : List Hit) (old mid : Noted)
      → Tells (c w) None old mid → Defers ask files w inner n ((c >>= joined f) w) (hunt_of tasks found old) (hunt_of tasks found mid)
  defers_nowhere {C = C} n c f tasks found old mid h = by_step (c w).step refl h.step
    where
      by_step : (step : Step LinkKey (List C)) → (c w).step ≡ step → TellsStep step None → Defers ask files w inner n ((c >>= joined f) w)
          (hunt_of tasks found old) (hunt_of tasks found mid)
      by_step (Done xs) is s =
          defers_after ask files w inner n c (joined f) [] (hunt_of tasks found old) (hunt_of tasks found mid) (hunt_of tasks found mid) (is
          ∙ ap Done s) (looked_tells (c w) None tasks found old mid h)
          (defers_none ask files w inner n (hunt_of tasks found mid))
      by_step (Waits ks) is s = defers_waits ask files w inner n c (joined f) ks (hunt_of tasks found old) (hunt_of tasks found mid) is (looked_tells
          (c w) None tasks found old mid h)

  joined_one : {C : Type 0} (f : C → Lookup (List Hit)) (e : C) → joined f (e ∷ []) w ≡ f e w
  joined_one f e = λ i. record { step = join_last (f e w).step i; looks = append-nil (f e w).looks i }

  -- a reference leads to an element
  pub defers_somewhere : {C : Type 0} (n : ℕ) (c : Lookup (List C)) (f : C → Lookup (List Hit)) (e : C) (tasks : List Task) (found : List Hit)
      (old mid : Noted) (new : HuntTrail) → Tells (c w) (Some e) old mid
      → Defers ask files w inner n (f e w) (hunt_of tasks found mid) new → Defers ask files w inner n ((c >>= joined f) w)
      (hunt_of tasks found old) new
  defers_somewhere {C = C} n c f e tasks found old mid new h d = by_step (c w).step refl h.step
    where
      by_step : (step : Step LinkKey (List C)) → (c w).step ≡ step → TellsStep step (Some e) → Defers ask files w inner n ((c >>= joined f) w)
          (hunt_of tasks found old) new
      by_step (Done xs) is s =
          defers_after ask files w inner n c (joined f) (e ∷ []) (hunt_of tasks found old) (hunt_of tasks found mid) new (is ∙ ap Done s)
          (looked_tells (c w) (Some e) tasks found old mid h)
          (defers_equal ask files w inner n (f e w) (joined f (e ∷ []) w) (hunt_of tasks found mid) new (sym (joined_one f e)) d)
      by_step (Waits ks) is s = absurd (let none : ⊥ = cc in none)

  -- by a test
  pub defers_true : (n : ℕ) (b : Bool) (c d : Lookup (List Hit)) (old new : HuntTrail) → b ≡ true → Defers ask files w inner n (c w) old new
      → Defers ask files w inner n (cond b c d w) old new
  defers_true n b c d old new e h = subst (λ z. Defers ask files w inner n (cond z c d w) old new) (sym e) h

  pub defers_false : (n : ℕ) (b : Bool) (c d : Lookup (List Hit)) (old new : HuntTrail) → b ≡ false → Defers ask files w inner n (d w) old new
      → Defers ask files w inner n (cond b c d w) old new
  defers_false n b c d old new e h = subst (λ z. Defers ask files w inner n (cond z c d w) old new) (sym e) h

-- the conditions of a decision
pub decided_some : {A B : Type 0} (ws : List A) (fs : List B) → (not (is_nil ws) || not (is_nil fs)) ≡ true → ws ≡ [] → fs ≡ [] → ⊥
decided_some [] [] e a b = (let none : ⊥ = cc in none)
decided_some [] (f ∷ fs) e a b = (let none : ⊥ = cc in none)
decided_some (v ∷ ws) fs e a b = (let none : ⊥ = cc in none)

pub decided_none : {A B : Type 0} (ws : List A) (fs : List B) → (not (is_nil ws) || not (is_nil fs)) ≡ false → (ws ≡ []) × (fs ≡ [])
decided_none [] [] e = (refl, refl)
decided_none [] (f ∷ fs) e = cc
decided_none (v ∷ ws) fs e = cc

-- a task, a step down
pub task_is : (lib : Library) (x : List ℕ) (base : ℕ) (t : Task) → length t.excluded < base → asks_task lib x base t ≡ cond (is_in t.namespace t.excluded)
    (done [])
    (join (tiers_then lib x (asks_task lib x base) (t.namespace ∷ t.excluded) t.all t.namespace) (cond t.recursive (inside (again_from (asks_task lib x base)
    (t.namespace ∷ t.excluded)) t.all t.namespace) (done [])))
unfolding visible_from
task_is lib x base t lt = ap (λ k. visible_from lib k x t.excluded t.recursive t.all t.namespace) (one_less base (length t.excluded) lt)
  where
    one_less : (b l : ℕ) → l < b → b - l ≡ suc (b - suc l)
    one_less b l lt = omega arith

-- THE LOOP
pub hunt_next : (ask : Asking) (files : List StoredFile) (w : LinkWorld) (inner : List ElementNo) (n : ℕ) (a : HitAsked) (t : Task)
    (rest : List Task) (old new : HuntTrail) → old.nodes ≡ rest ++ t ∷ [] → IsHunt ask w a old
    → Defers ask files w inner n (ask t w) (record { nodes = rest; found = old.found; waits = old.waits; looks = old.looks }) new
    → IsHunt ask w a new
hunt_next ask files w inner n a t rest old new is h d =
    let mine : IsMember old.nodes t = subst (λ z. IsMember z t) (sym is) (member_right rest (t ∷ []) t (inl refl)) in
    let theirs : (u : Task) → IsMember rest u → IsMember old.nodes u = λ u m. subst (λ z. IsMember z u) (sym is) (member_left rest (t ∷ []) u m) in
    record {
      shown = λ y s. elim (h.shown y s) [
        | inl k ↦ inl (d.kept y (same_known y k))
        | inr u ↦ elim (member_cases rest (t ∷ []) u.0 (subst (λ z. IsMember z u.0) is u.1)) [
          | inl left ↦ inr (u.0, subst (λ z. IsMember z u.0) (sym d.grown) (member_left rest d.added u.0 left), u.2)
          | inr last ↦ elim last [
            | inl here ↦ elim (d.shown y (subst (λ z. Shows (ask z w) y) (sym here) u.2)) [
              | inl k ↦ inl k
              | inr v ↦ inr (v.0, subst (λ z. IsMember z v.0) (sym d.grown) (member_right rest d.added v.0 v.1), v.2)
            ]
            | inr none ↦ absurd none
          ]
        ]
      ];
      only = λ y k. elim (d.only y k) [ inl o ↦ h.only y (known_same y o) | inr b ↦ h.pending t y mine b ];
      pending = λ u y m b. elim (member_cases rest d.added u (subst (λ z. IsMember z u) d.grown m)) [
        | inl left ↦ h.pending u y (theirs u left) b
        | inr right ↦ h.pending t y mine (d.pending u y right b)
      ];
    }
  where
    same_known : (y : HitPart) → IsKnown old y → IsKnown (record { nodes = rest; found = old.found; waits = old.waits; looks = old.looks }) y
    same_known (Finds z) k = k
    same_known (Awaits q) k = k
    same_known (LooksAt f) k = k

    known_same : (y : HitPart) → IsKnown (record { nodes = rest; found = old.found; waits = old.waits; looks = old.looks }) y → IsKnown old y
    known_same (Finds z) k = k
    known_same (Awaits q) k = k
    known_same (LooksAt f) k = k

-- where no task is left, all is known
pub hunt_ends : (ask : Asking) (w : LinkWorld) (a : HitAsked) (hunt : HuntTrail) → hunt.nodes ≡ [] → IsSound w.table a.step a.looks
    → IsHunt ask w a hunt → IsAsked hunt a
hunt_ends ask w a hunt none sound h = is_asked w.table hunt a sound
    (λ y s. elim (h.shown y s) [ inl k ↦ k | inr t ↦ absurd (subst (λ z. IsMember z t.0) none t.1) ])
    (λ y k. h.only y k)

-- what a first asking leaves
pub hunt_begins : (ask : Asking) (files : List StoredFile) (w : LinkWorld) (inner : List ElementNo) (n : ℕ) (a : HitAsked)
    (new : HuntTrail) → Defers ask files w inner n a (record { nodes = []; found = []; waits = []; looks = [] }) new → IsHunt ask w a new
hunt_begins ask files w inner n a new d = record {
  shown = λ y s. elim (d.shown y s) [ inl k ↦ inl k | inr t ↦ inr (t.0, subst (λ z. IsMember z t.0) (sym d.grown) t.1, t.2) ];
  only = λ y k. elim (d.only y k) [ inl o ↦ absurd (nothing y o) | inr b ↦ b ];
  pending = λ t y m b. d.pending t y (subst (λ z. IsMember z t) d.grown m) b;
}
  where
    nothing : (y : HitPart) → IsKnown {A = Task} (record { nodes = []; found = []; waits = []; looks = [] }) y → ⊥
    nothing (Finds y) h = h
    nothing (Awaits k) h = h
    nothing (LooksAt f) h = h

-- THE MEASURE
weight_append : (all : List ElementNo) (ts us : List Task) → weight all (ts ++ us) ≡ weight all ts + weight all us
weight_append all [] us = omega arith
weight_append all (t ∷ ts) us = let more = weight_append all ts us in omega arith

power_grows : (b n m k : ℕ) → 0 < b → n < b → m < k → n * b ^ m < b ^ k
power_grows b n m k pos h lt =
    let one : n * b ^ m < b * b ^ m = mul-lt-mul_of_pos_right h (one-le-pow m b pos) in
    let same : b ^ suc m ≡ b * b ^ m = pow-succ' b m in
    let up : b ^ suc m ≤ b ^ k = pow-le-pow_right pos lt in
    omega arith

weight_alike : (all inner : List ElementNo) (ts : List Task) → ((t : Task) → IsMember ts t → t.excluded ≡ inner) → weight all ts ≡ length ts *
    (2 ^ 66) ^ off_count same_element inner all
weight_alike all inner [] h = omega arith
weight_alike all inner (t ∷ ts) h =
    let more = weight_alike all inner ts (λ u m. h u (inr m)) in
    let one = ap (λ e. (2 ^ 66) ^ off_count same_element e all) (h t (inl refl)) in
    sum_is ((2 ^ 66) ^ off_count same_element t.excluded all) ((2 ^ 66) ^ off_count same_element inner all) (weight all ts) (length ts) one more
  where
    sum_is : (a b c l : ℕ) → a ≡ b → c ≡ l * b → a + c ≡ suc l * b
    sum_is a b c l e f = let more : suc l * b ≡ l * b + b = suc-mul l b in omega arith

-- each task gives tasks of less weight
pub hunt_less : (ask : Asking) (files : List StoredFile) (w : LinkWorld) (all : List ElementNo) (n : ℕ) (a : HitAsked) (t : Task)
    (rest : List Task) (old mid new : HuntTrail) → old.nodes ≡ rest ++ t ∷ [] → mid.nodes ≡ rest → IsMember all t.namespace → n < 2 ^ 66
    → (is_in t.namespace t.excluded ≡ true → new ≡ mid) → Defers ask files w (t.namespace ∷ t.excluded) n a mid new
    → weight all new.nodes < weight all old.nodes
hunt_less ask files w all n a t rest old mid new is rests member narrow same d =
    let whole : weight all old.nodes ≡ weight all rest + weight all (t ∷ []) = ap (weight all) is ∙ weight_append all rest (t ∷ []) in
    let some : 1 ≤ (2 ^ 66) ^ off_count same_element t.excluded all = one-le-pow (off_count same_element t.excluded all) (2 ^ 66) (omega arith) in
    elim (bool_cases (is_in t.namespace t.excluded)) [
      | inl there ↦
          let none : weight all new.nodes ≡ weight all rest = ap (λ h. weight all h.nodes) (same there) ∙ ap (weight all) rests in
          less_all (weight all new.nodes) (weight all old.nodes) (weight all rest) ((2 ^ 66) ^ off_count same_element t.excluded all) none whole some
      | inr off ↦
          let fewer = off_less same_element element_is_exact t.excluded t.namespace all member off in
          let added : weight all new.nodes ≡ weight all rest + weight all d.added = ap (weight all) (d.grown ∙ ap (λ z. z ++ d.added) rests)
          ∙ weight_append all rest d.added in
          let alike = weight_alike all (t.namespace ∷ t.excluded) d.added (λ u m. (d.inside u m).0) in
          let few : length d.added < 2 ^ 66 = (let count = d.count in omega arith) in
          let power = power_grows (2 ^ 66) (length d.added) (off_count same_element (t.namespace ∷ t.excluded) all) (off_count same_element t.excluded all)
          (omega arith) few fewer in
          less_some (weight all new.nodes) (weight all old.nodes) (weight all rest) (weight all d.added) (length d.added * (2 ^ 66) ^ off_count same_element
          (t.namespace ∷ t.excluded) all) ((2 ^ 66) ^ off_count same_element t.excluded all) added whole alike power
    ]
  where
    less_all : (new old rest one : ℕ) → new ≡ rest → old ≡ rest + (one + 0) → 1 ≤ one → new < old
    less_all new old rest one e f h = omega arith

    less_some : (new old rest added many one : ℕ) → new ≡ rest + added → old ≡ rest + (one + 0) → added ≡ many → many < one → new < old
    less_some new old rest added many one e f g h = omega arith

-- the tasks after one more
pub tasks_in : (ask : Asking) (files : List StoredFile) (w : LinkWorld) (inner : List ElementNo) (n : ℕ) (a : HitAsked) (t : Task)
    (rest : List Task) (old mid new : HuntTrail) → old.nodes ≡ rest ++ t ∷ [] → mid.nodes ≡ rest → AllTasksStand files old.nodes
    → Defers ask files w inner n a mid new → AllTasksStand files new.nodes
tasks_in ask files w inner n a t rest old mid new is rests fits d u m = elim (member_cases rest d.added u (subst (λ z. IsMember z u) (d.grown ∙ ap
    (λ z. z ++ d.added) rests) m)) [
      | inl left ↦ fits u (subst (λ z. IsMember z u) (sym is) (member_left rest (t ∷ []) u left))
      | inr right ↦ (d.inside u right).1
    ]

pub task_in : (files : List StoredFile) (t : Task) (rest ts : List Task) → ts ≡ rest ++ t ∷ [] → AllTasksStand files ts → StandsIn files t.namespace
task_in files t rest ts is fits = fits t (subst (λ z. IsMember z t) (sym is) (member_right rest (t ∷ []) t (inl refl)))

-- a task that is excluded gives nothing
pub defers_excluded : (lib : Library) (x : List ℕ) (base : ℕ) (files : List StoredFile) (w : LinkWorld) (n : ℕ) (t : Task) (h : HuntTrail)
    → length t.excluded < base → is_in t.namespace t.excluded ≡ true
    → Defers (asks_task lib x base) files w (t.namespace ∷ t.excluded) n (asks_task lib x base t w) h h
defers_excluded lib x base files w n t h lt there =
    let ask = asks_task lib x base in
    let whole = shows lib x ask (t.namespace ∷ t.excluded) t in
    defers_equal ask files w (t.namespace ∷ t.excluded) n (cond (is_in t.namespace t.excluded) (done []) whole w) (ask t w) h h
    (ap (λ (c : Lookup (List Hit)). c w) (sym (task_is lib x base t lt)))
    (defers_true ask files w (t.namespace ∷ t.excluded) n (is_in t.namespace t.excluded) (done []) whole h h there
    (defers_none ask files w (t.namespace ∷ t.excluded) n h))

-- a namespace shows its tiers and what is inside
pub defers_shown : (lib : Library) (x : List ℕ) (ask : Asking) (files : List StoredFile) (w : LinkWorld) (inner : List ElementNo) (t : Task)
    (old mid new : HuntTrail)
    → Defers ask files w inner (length (imports_at files t.namespace)) (tiers_then lib x ask inner t.all t.namespace w) old mid
    → Defers ask files w inner (length (members_at files t.namespace)) (inside_if ask inner t.recursive t.all t.namespace w) mid new
    → Defers ask files w inner (width files t) (shows lib x ask inner t w) old new
defers_shown lib x ask files w inner t old mid new g h = defers_join ask files w inner (length (imports_at files t.namespace)) (length
    (members_at files t.namespace)) (tiers_then lib x ask inner t.all t.namespace) (inside_if ask inner t.recursive t.all t.namespace) old mid new g h

-- a task that isn't excluded gives what its namespace shows
pub defers_expanded : (lib : Library) (x : List ℕ) (base : ℕ) (files : List StoredFile) (w : LinkWorld) (t : Task) (old new : HuntTrail)
    → length t.excluded < base → is_in t.namespace t.excluded ≡ false
    → Defers (asks_task lib x base) files w (t.namespace ∷ t.excluded) (width files t) (shows lib x (asks_task lib x base)
    (t.namespace ∷ t.excluded) t w) old new
    → Defers (asks_task lib x base) files w (t.namespace ∷ t.excluded) (width files t) (asks_task lib x base t w) old new
defers_expanded lib x base files w t old new lt off h =
    let whole = shows lib x (asks_task lib x base) (t.namespace ∷ t.excluded) t in
    defers_equal (asks_task lib x base) files w (t.namespace ∷ t.excluded) (width files t) (cond (is_in t.namespace t.excluded) (done []) whole w)
    (asks_task lib x base t w) old new
    (ap (λ (c : Lookup (List Hit)). c w) (sym (task_is lib x base t lt)))
    (defers_false (asks_task lib x base) files w (t.namespace ∷ t.excluded) (width files t) (is_in t.namespace t.excluded) (done []) whole old new off h)

-- THE CALLS
steps_are : (l : ℕ) → (most + l) - l ≡ most
steps_are l = omega arith

abbrev pub IsEmpty : HuntTrail → Type 0
IsEmpty h = h ≡ record { nodes = []; found = []; waits = []; looks = [] }

module _ (lib : Library) (x : List ℕ) (files : List StoredFile) (w : LinkWorld) (excluded : List ElementNo) (start new : HuntTrail)
    (empty : IsEmpty start) where
  -- one task is a whole lookup
  single : (recursive every : Bool) (n : ElementNo) → StandsIn files n
      → new ≡ record {
        nodes = start.nodes ++
            record { excluded = excluded; recursive = recursive; all = every; namespace = n } ∷ [];
        found = start.found;
        waits = start.waits;
        looks =
            start.looks;
      }
      → Defers (asks_task lib x (most + length excluded)) files w excluded 1 (asks_task lib x (most + length excluded)
      (record { excluded = excluded; recursive = recursive; all = every; namespace = n }) w) start new
  single recursive every n m is =
      subst (λ z. Defers (asks_task lib x (most + length excluded)) files w excluded 1 (asks_task lib x (most + length excluded)
      (record { excluded = excluded; recursive = recursive; all = every; namespace = n }) w) start z) (sym is)
      (defers_task (asks_task lib x (most + length excluded)) files w excluded recursive every n start m)

  pub hunt_visible : (recursive every : Bool) (n : ElementNo) → StandsIn files n
      → new ≡ record {
        nodes = start.nodes ++
            record { excluded = excluded; recursive = recursive; all = every; namespace = n } ∷ [];
        found = start.found;
        waits = start.waits;
        looks =
            start.looks;
      }
      → IsHunt (asks_task lib x (most + length excluded)) w (visible lib x excluded recursive every n w) new
  hunt_visible recursive every n m is =
      subst (λ k. IsHunt (asks_task lib x (most + length excluded)) w (visible_from lib k x excluded recursive every n w) new) (steps_are (length excluded))
      (hunt_begins (asks_task lib x (most + length excluded)) files w excluded 1 (asks_task lib x (most + length excluded)
      (record { excluded = excluded; recursive = recursive; all = every; namespace = n }) w) new
      (subst (λ z. Defers (asks_task lib x (most + length excluded)) files w excluded 1 (asks_task lib x (most + length excluded)
      (record { excluded = excluded; recursive = recursive; all = every; namespace = n }) w) z new) empty (single recursive every n m is)))

  tasks_begin : (base n : ℕ) (a : HitAsked) → Defers (asks_task lib x base) files w excluded n a start new → AllTasksStand files new.nodes
  tasks_begin base n a d t m = (d.inside t (subst (λ z. IsMember z t) (d.grown ∙ ap (λ (h : HuntTrail). h.nodes ++ d.added) empty) m)).1

  pub tasks_visible : (recursive every : Bool) (n : ElementNo) → StandsIn files n
      → new ≡ record {
        nodes = start.nodes ++
            record { excluded = excluded; recursive = recursive; all = every; namespace = n } ∷ [];
        found = start.found;
        waits = start.waits;
        looks =
            start.looks;
      }
      → AllTasksStand files new.nodes
  tasks_visible recursive every n m is = tasks_begin (most + length excluded) 1 (asks_task lib x (most + length excluded)
      (record { excluded = excluded; recursive = recursive; all = every; namespace = n }) w) (single recursive every n m is)

  pub tasks_imported : (brings : (Bool → Bool → ElementNo → Lookup (List Hit)) → Lookup (List Hit))
      → ((base : ℕ) → Defers (asks_task lib x base) files w excluded 1
      (brings (again_from (asks_task lib x base) excluded) w) start new) → AllTasksStand files new.nodes
  tasks_imported brings d = tasks_begin most 1 (brings (again_from (asks_task lib x most) excluded) w) (d most)

  pub hunt_imported : (brings : (Bool → Bool → ElementNo → Lookup (List Hit)) → Lookup (List Hit))
      → ((base : ℕ) → Defers (asks_task lib x base) files w excluded 1
      (brings (again_from (asks_task lib x base) excluded) w) start new)
      → IsHunt (asks_task lib x (most + length excluded)) w (brings (visible lib x excluded) w) new
  hunt_imported brings d =
      let ask = asks_task lib x (most + length excluded) in
      subst (λ k. IsHunt ask w (brings (λ recursive every e. visible_from lib k x excluded recursive every e) w) new) (steps_are (length excluded))
      (hunt_begins ask files w excluded 1 (brings (again_from ask excluded) w) new
      (subst (λ z. Defers ask files w excluded 1 (brings (again_from ask excluded) w) z new) empty (d (most + length excluded))))
