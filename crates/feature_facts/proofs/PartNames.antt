-- Parts of askings under names and conditions.
use Rattle.std.proofs.Common.{◌≡◌, ℕ, ◌+◌, Bool, true, false, cond, List, [], ◌∷◌, ◌++◌, refl, sym, ◌∙◌, ap, subst, inl, inr, arith, zero-add}
use Rattle.std.proofs.lemmas.Bool.Decides.{nat_tests}
use Rattle.std.specs.Prelude.{◌⊎◌, ◌&&◌, nat_eq, map, slice_get, Option, None, Some}
use Rattle.linker_base.specs.Members.{IsMember, SameMembers}
use Rattle.linker_base.proofs.Cases.{bool_cases, both_true, and_true}
use Rattle.linker_base.proofs.MemberLaws.{member_map}
use Rattle.demand_core.specs.Alike.{Alike}
use Rattle.demand_core.specs.Rules.{WaitsOn}
use Rattle.demand_core.specs.Computation.{Asked, done, then_step, ◌>>=◌, join, joined, IsSound}
use Rattle.demand_core.specs.Search.{Part, Finds, Awaits, LooksAt, Has, MayHave, Shows, Admits, Aside}
use Rattle.demand_core.specs.declared.looks.Fact.{Fact}
use Rattle.demand_core.specs.declared.looks.Fact.TheVariants.{Outer}
use Rattle.demand_core.specs.declared.step.Step.{Step}
use Rattle.demand_core.specs.declared.step.Step.TheVariants.{Done, Waits}
use Rattle.demand_core.proofs.AlikeLaws.{alike_parts}
use Rattle.demand_core.proofs.ComputationLaws.{regular_done, regular_then}
use Rattle.demand_core.proofs.PartLaws.{shows_nothing, shows_join, shows_joined, shows_then, admits_left, admits_right, admits_joined, admits_first, admits_then}
use Rattle.element_store.specs.declared.numbers.FileNo.{FileNo}
use Rattle.element_store.specs.declared.numbers.ElementNo.{ElementNo}
use Rattle.element_store.specs.declared.outcome.Outcome.{Outcome}
use Rattle.element_store.specs.declared.records.Member.{Member}
use Rattle.element_store.specs.declared.models.StoredFile.{StoredFile}
use Rattle.element_store.specs.Condition.{IsModel, members_of}
use Rattle.element_store.specs.Model.{Data, bears, bearers}
use Rattle.element_store.specs.Readings.{is_redefining, redefining_of}
use Rattle.link_model.specs.declared.keys.LinkKey.{LinkKey}
use Rattle.link_model.specs.declared.keys.LinkFact.{LinkFact}
use Rattle.link_model.specs.declared.keys.LinkFact.TheVariants.{File}
use Rattle.link_model.specs.declared.keys.Hit.{Hit}
use Rattle.link_model.specs.Keys.{same_element}
use Rattle.link_model.specs.Outside.{model_in, is_private}
use Rattle.link_model.specs.Readers.{LinkWorld, Lookup, told, model, of_members}
use Rattle.link_model.specs.Names.{hit, declared_hit, effective_hit}
use Rattle.link_model.specs.Inheritance as inheritance
use Rattle.link_model.specs.Inheritance.{candidate}
use Rattle.link_model.proofs.TameLaws.{candidate_stage_tame}
use Rattle.link_walk.specs.Calls.{reading}
use Rattle.owned_names.proofs.SkipLaws.{nothing_part}

-- what is shown is admitted
pub shows_admits : {B : Type 0} (a : Asked LinkKey LinkFact (List B)) (x : Part LinkKey LinkFact B) → Shows a x → Admits a x
shows_admits {B} a (Finds y) h = has_may a.step y h
  where
    has_may : (step : Step LinkKey (List B)) (y : B) → Has step y → MayHave step y
    has_may (Done ys) y h = h
    has_may (Waits ks) y h = absurd h
shows_admits a (Awaits k) h = h
shows_admits a (LooksAt f) h = h

abbrev pub Maps : {B C : Type 0} → (C → B) → Part LinkKey LinkFact C → Part LinkKey LinkFact B → Type 0
Maps f (Finds c) (Finds b) = f c ≡ b
Maps f (Awaits k) (Awaits q) = k ≡ q
Maps f (LooksAt g) (LooksAt h) = g ≡ h
Maps f x y = ⊥

pub member_back : {A B : Type 0} (f : A → B) (xs : List A) (y : B) → IsMember (map f xs) y → (x : A) × IsMember xs x × (f x ≡ y)
member_back f [] y m = absurd m
member_back f (x ∷ xs) y (inl e) = (x, inl refl, e)
member_back f (x ∷ xs) y (inr m) = let more = member_back f xs y m in (more.0, inr more.1, more.2)

module _ {B C : Type 0} (w : LinkWorld) (f : C → B) where
  abbrev named : Lookup (List C) → Lookup (List B)
  named c = c >>= λ xs. done (map f xs)

  pub shows_map : (c : Lookup (List C)) (y : Part LinkKey LinkFact B) → Shows (named c w) y → (z : Part LinkKey LinkFact C) × Shows (c w) z × Maps f z y
  shows_map c y h = elim (shows_then w c (λ xs. done (map f xs)) y h) [
    | inl aside ↦ beside y aside
    | inr d ↦ found y d.0 d.1 d.2
  ]
    where
      beside : (y : Part LinkKey LinkFact B) → Aside (c w) y → (z : Part LinkKey LinkFact C) × Shows (c w) z × Maps f z y
      beside (Finds b) a = absurd a
      beside (Awaits k) a = (Awaits k, a, refl)
      beside (LooksAt g) a = (LooksAt g, a, refl)

      found : (y : Part LinkKey LinkFact B) (xs : List C) → (c w).step ≡ Done xs → Shows (done (map f xs) w) y
          → (z : Part LinkKey LinkFact C) × Shows (c w) z × Maps f z y
      found (Finds b) xs e m = let back = member_back f xs b m in (Finds back.0, subst (λ z. Has z back.0) (sym e) back.1, back.2)
      found (Awaits k) xs e m = absurd m
      found (LooksAt g) xs e m = absurd m

  pub admits_map : (c : Lookup (List C)) (z : Part LinkKey LinkFact C) (y : Part LinkKey LinkFact B) → Maps f z y → Admits (c w) z → Admits (named c w) y
  admits_map c (Finds x) (Finds b) is h = by (c w) (c w).step h
    where
      by : (a : Asked LinkKey LinkFact (List C)) (step : Step LinkKey (List C)) → MayHave step x
          → MayHave (then_step {B = List B} a (λ xs. done (map f xs) w) step).step b
      by a (Done xs) m = subst (IsMember (map f xs)) is (member_map f xs x m)
      by a (Waits ks) m = tt
  admits_map c (Awaits k) (Awaits q) is h = admits_first w c (λ xs. done (map f xs)) (Awaits q) (subst (WaitsOn (c w).step) is h)
  admits_map c (LooksAt g) (LooksAt l) is h = admits_first w c (λ xs. done (map f xs)) (LooksAt l) (subst (IsMember (c w).looks) is h)
  admits_map c (Finds x) (Awaits q) is h = absurd is
  admits_map c (Finds x) (LooksAt l) is h = absurd is
  admits_map c (Awaits k) (Finds b) is h = absurd is
  admits_map c (Awaits k) (LooksAt l) is h = absurd is
  admits_map c (LooksAt g) (Finds b) is h = absurd is
  admits_map c (LooksAt g) (Awaits q) is h = absurd is

-- a condition
pub cond_true : {B : Type 0} (w : LinkWorld) (b : Bool) (c d : Lookup (List B)) (x : Part LinkKey LinkFact B) → b ≡ true
    → Admits (c w) x → Admits (cond b c d w) x
cond_true w b c d x e h = subst (λ z. Admits (cond z c d w) x) (sym e) h

pub cond_false : {B : Type 0} (w : LinkWorld) (b : Bool) (c d : Lookup (List B)) (x : Part LinkKey LinkFact B) → b ≡ false
    → Admits (d w) x → Admits (cond b c d w) x
cond_false w b c d x e h = subst (λ z. Admits (cond z c d w) x) (sym e) h

pub shows_if : {B : Type 0} (w : LinkWorld) (b : Bool) (c : Lookup (List B)) (x : Part LinkKey LinkFact B) → Shows (cond b c (done []) w) x
    → (b ≡ true) × Shows (c w) x
shows_if w true c x h = (refl, h)
shows_if w false c x h = absurd (shows_nothing w x h)

pub shows_unless : {B : Type 0} (w : LinkWorld) (b : Bool) (c : Lookup (List B)) (x : Part LinkKey LinkFact B) → Shows (cond b (done []) c w) x
    → (b ≡ false) × Shows (c w) x
shows_unless w true c x h = absurd (shows_nothing w x h)
shows_unless w false c x h = (refl, h)
