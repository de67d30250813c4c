-- The search along generals: where it goes.
use Rattle.std.proofs.Common.{◌≡◌, Bool, true, false, cond, List, [], ◌∷◌, ◌++◌, map, get_or, length, refl, sym, ◌∙◌, ap, subst, inl, inr}
use Rattle.std.specs.Prelude.{Option, None, Some, slice_get, nat_eq, nat_lt, ◌&&◌}
use Rattle.linker_base.specs.Members.{IsMember}
use Rattle.demand_core.specs.Computation.{Asked, done, then_step, ◌>>=◌, look, read, read_step, IsRegular}
use Rattle.demand_core.specs.Gather.{Led}
use Rattle.demand_core.specs.Search.{Finds, Has, LedOn, Goes}
use Rattle.demand_core.specs.declared.step.Step.{Step}
use Rattle.demand_core.specs.declared.step.Step.TheVariants.{Done, Waits}
use Rattle.demand_core.proofs.ComputationLaws.{regular_done, regular_then, regular_look, regular_joined}
use Rattle.demand_core.proofs.PartLaws.{shows_then, shows_joined}
use Rattle.element_store.specs.declared.numbers.ElementNo.{ElementNo}
use Rattle.element_store.specs.declared.numbers.FileNo.{FileNo}
use Rattle.element_store.specs.declared.outcome.Outcome.{Outcome}
use Rattle.element_store.specs.declared.outcome.Outcome.TheVariants.{Linked, Absent, Ambiguous, Hidden, Cyclic}
use Rattle.element_store.specs.declared.outcome.Role.{Role}
use Rattle.element_store.specs.declared.models.StoredFile.{StoredFile}
use Rattle.element_store.specs.Kinds.{is_type}
use Rattle.element_store.specs.Model.{Data, root_element}
use Rattle.element_store.specs.Numbers.{numbers_from}
use Rattle.element_store.specs.BaseRules.{StandsIn, model_of}
use Rattle.link_model.specs.declared.keys.LinkKey.{LinkKey}
use Rattle.link_model.specs.declared.keys.LinkFact.{LinkFact}
use Rattle.link_model.specs.declared.keys.LinkFact.TheVariants.{File}
use Rattle.link_model.specs.Inheritance.{is_specialisation, Link, types_among, general, base, base_link, general_links}
use Rattle.link_model.specs.Inheritance.Link.{ByReference, ToBase}
use Rattle.link_model.specs.Keys.{same_element}
use Rattle.link_model.specs.Linking.{Fits}
use Rattle.link_model.specs.Settled.{explicit_links}
use Rattle.link_model.specs.Outside.{Library, library_of, model_in}
use Rattle.link_model.specs.Readers.{Lookup, LinkWorld, only_if, key, model, element, references_as, led_to, target}
use Rattle.link_model.proofs.TameLaws.{element_tame, target_tame}
use Rattle.link_walk.specs.Calls.{reading, ends, elements_of}
use Rattle.link_walk.proofs.ElementLaws.{element_among, element_stands}
use Rattle.inheritance.specs.declared.sight.Sight.{Sight}
use Rattle.inheritance.specs.Sights.{seen_as, sees, IsClear}
use Rattle.inheritance.specs.BaseStands.{base_stands}

-- regularity

model_regular : (f : FileNo) → IsRegular (model f)
model_regular f = regular_then (look (File f)) (λ s. done (model_in s)) (regular_look (File f)) (λ s. regular_done
    (model_in s))

pub references_regular : (fits : Role → Bool) (e : ElementNo) → IsRegular (references_as fits e)
references_regular fits e = regular_then (model e.file)
    (λ d. done (map (key e.file) (numbers_from 0 (λ r. nat_eq r.context e.index && fits r.role) d.references)))
    (model_regular e.file)
    (λ d. regular_done (map (key e.file) (numbers_from 0 (λ r. nat_eq r.context e.index && fits r.role) d.references)))

pub general_links_regular : (lib : Library) (a : ElementNo) → IsRegular (general_links lib a)
general_links_regular lib a = regular_then (references_as is_specialisation a)
    (λ rs. model a.file >>= λ d. done (map ByReference rs ++ base_link a (base lib d a
    (get_or d.elements a.index root_element))))
    (references_regular is_specialisation a)
    (λ rs. regular_then (model a.file) (λ d. done (map ByReference rs ++ base_link a (base lib d a
    (get_or d.elements a.index root_element))))
    (model_regular a.file) (λ d. regular_done (map ByReference rs ++ base_link a (base lib d a
    (get_or d.elements a.index root_element)))))

types_regular : (es : List ElementNo) → IsRegular (types_among es)
types_regular es = regular_joined (λ e. element e >>= λ x. done (only_if (is_type x.kind) e))
    (λ e. regular_then (element e) (λ x. done (only_if (is_type x.kind) e)) (element_tame e).regular
    (λ x. regular_done (only_if (is_type x.kind) e))) es

pub general_regular : (l : Link) → IsRegular (general l)
general_regular (ByReference r) = regular_then (target r) types_among (target_tame r).regular types_regular
general_regular (ToBase b) = regular_then (element b) (λ x. done (b ∷ [])) (element_tame b).regular (λ x. regular_done
    (b ∷ []))

pub ends_regular : {L : Type 0} (c : L → Lookup (List ElementNo)) → ((l : L) → IsRegular (c l)) → (l : L)
    → IsRegular (ends c l)
ends_regular c r l = regular_then (c l) (λ ts. done (record { found = ts; onward = ts })) (r l) (λ ts. regular_done
    (record { found = ts; onward = ts }))

pub general_ends_regular : (l : Link) → IsRegular (ends general l)
general_ends_regular = ends_regular general general_regular

pub explicit_regular : (a : ElementNo) → IsRegular (explicit_links a)
explicit_regular a = regular_then (references_as is_specialisation a) (λ rs. done (map ByReference rs))
    (references_regular is_specialisation a)
    (λ rs. regular_done (map ByReference rs))

-- what is linked stands

some_same : {V : Type 0} (v w : V) → Some v ≡ Some w → v ≡ w
some_same v w e = cc

linked_as : (settled : Bool) (o : Option Outcome) (steps : List ElementNo) (e : ElementNo)
    → seen_as settled o ≡ Some (Linked steps e) → o ≡ Some (Linked steps e)
linked_as false o steps e is = is
linked_as true None steps e is = let bad : Absent 1 ≡ Linked steps e = some_same (Absent 1) (Linked steps e) is in cc
linked_as true (Some o) steps e is = is

linked_stands : (s : Sight) → IsClear s → (r : LinkKey) (steps : List ElementNo) (e : ElementNo)
    → (sees s).table r ≡ Some (Linked steps e) → StandsIn s.view.now.models.now e
linked_stands s clear r steps e is =
    let fits : Fits s.view.now.models.now (Linked steps e) =
    clear.links r (Linked steps e) (linked_as s.settled
    ((reading s.view.now.models.now s.view.now.table.now).table r) steps e is) in
    (fits.1.0, fits.1.1, fits.1.2)

module _ (w : LinkWorld) where
  ends_step : (a : Asked LinkKey LinkFact (List ElementNo)) (step : Step LinkKey (List ElementNo)) (t : ElementNo)
      → LedOn (then_step {B = Led ElementNo ElementNo} a (λ ts. done
      (record { found = ts; onward = ts }) w) step).step t → Has step t
  ends_step a (Done ts) t h = h
  ends_step a (Waits ks) t h = h

  -- a search goes on at what is found
  pub ends_on : {L : Type 0} (c : L → Lookup (List ElementNo)) (l : L) (t : ElementNo) → LedOn (ends c l w).step t
      → Has (c l w).step t
  ends_on c l t h = ends_step (c l w) (c l w).step t h

  read_some : (r : LinkKey) (o : Option Outcome) (v : Outcome) → read_step r o ≡ Done v → o ≡ Some v
  read_some r None v e = cc
  read_some r (Some u) v e = cc

  led_has : (o : Outcome) (t : ElementNo) → Has (led_to o w).step t → (steps : List ElementNo) × (o ≡ Linked steps t)
  led_has (Linked steps e) t (inl is) = (steps, ap (Linked steps) is)
  led_has (Linked steps e) t (inr none) = absurd none
  led_has (Absent n) t h = absurd h
  led_has (Ambiguous n a b) t h = absurd h
  led_has (Hidden n a) t h = absurd h
  led_has (Cyclic on) t h = absurd h

  cond_has : (b : Bool) (c : Lookup (List ElementNo)) (t : ElementNo) → Has (cond b c (done []) w).step t
      → Has (c w).step t
  cond_has true c t h = h
  cond_has false c t h = absurd h

  -- what a reference leads to is its outcome
  pub target_has : (r : LinkKey) (t : ElementNo) → Has (target r w).step t
      → (steps : List ElementNo) × (w.table r ≡ Some (Linked steps t))
  target_has r t h = elim (shows_then w (model r.0.file) (λ d. cond (nat_lt r.0.index (length d.references))
      (read r >>= led_to) (done [])) (Finds t) h) [
        | inl none ↦ absurd none
        | inr d ↦ elim (shows_then w (read r) led_to (Finds t) (cond_has (nat_lt r.0.index (length d.0.references))
            (read r >>= led_to) t d.2)) [
              | inl none ↦ absurd none
              | inr o ↦ let led = led_has o.0 t o.2 in (led.0, read_some r (w.table r) o.0 o.1 ∙ ap Some led.1)
            ]
      ]

  only_member : {A : Type 0} (b : Bool) (x t : A) → IsMember (only_if b x) t → x ≡ t
  only_member true x t (inl is) = is
  only_member true x t (inr none) = absurd none
  only_member false x t m = absurd m

  types_has : (es : List ElementNo) (t : ElementNo) → Has (types_among es w).step t → IsMember es t
  types_has es t h =
      let j = shows_joined w (λ e. element e >>= λ x. done (only_if (is_type x.kind) e)) es (Finds t) h in
      subst (IsMember es) (only_member _ j.0 t j.2) j.1

  pub done_same : {A : Type 0} (x y : A) (step : Step LinkKey A) → step ≡ Done x → step ≡ Done y → x ≡ y
  done_same x y step e f = cc

base_in : (a : ElementNo) (rs : List LinkKey) (o : Option ElementNo) (b : ElementNo)
    → IsMember (map ByReference rs ++ base_link a o) (ToBase b) → o ≡ Some b
base_in a [] None b m = absurd m
base_in a [] (Some c) b m = by (same_element c a) m
  where
    same_base : (c b : ElementNo) → ToBase c ≡ ToBase b → c ≡ b
    same_base c b e = cc

    by : (t : Bool) → IsMember (cond t [] (ToBase c ∷ [])) (ToBase b) → Some c ≡ Some b
    by true m = absurd m
    by false (inl is) = ap Some (same_base c b is)
    by false (inr none) = absurd none
base_in a (r ∷ rs) o b (inl is) = let bad : ⊥ = cc in absurd bad
base_in a (r ∷ rs) o b (inr m) = base_in a rs o b m

module _ (s : Sight) (clear : IsClear s) where
  abbrev files : List StoredFile
  files = s.view.now.models.now

  -- the target of a reference stands
  pub target_stands : (r : LinkKey) (t : ElementNo) → Has (target r (sees s)).step t → StandsIn files t
  target_stands r t h = let at = target_has (sees s) r t h in linked_stands s clear r at.0 t at.1

  model_same : (a : ElementNo) (d : Data) → model_of files a.file.0 ≡ Some d → model_in (slice_get files a.file.0) ≡ d
  model_same a d of = by (slice_get files a.file.0) refl
    where
      by : (o : Option StoredFile) → slice_get files a.file.0 ≡ o → model_in o ≡ d
      by None is = let bad : None ≡ Some d = rw is at of in cc
      by (Some f) is = let has : f.model ≡ Some d = rw is at of in rw has refl

  general_on : (a : ElementNo) (ls : List Link) → StandsIn files a → (general_links (library_of files) a
      (sees s)).step ≡ Done ls → (l : Link) (t : ElementNo)
      → IsMember ls l → Has (general l (sees s)).step t → StandsIn files t
  general_on a ls stands read (ByReference r) t m on = elim (shows_then (sees s) (target r) types_among (Finds t) on) [
    | inl none ↦ absurd none
    | inr d ↦ target_stands r t (subst (λ z. Has {K = LinkKey} z t) (sym d.1) (types_has (sees s) d.0 t d.2))
  ]
  general_on a ls stands read (ToBase b) t m (inl is) = subst (StandsIn files) is
      (let d = model_in (slice_get files a.file.0) in
      let x = get_or d.elements a.index root_element in
      let rs = map (key a.file) (numbers_from 0
      (λ r. nat_eq r.context a.index && is_specialisation r.role) d.references) in
      let same : map ByReference rs ++ base_link a (base (library_of files) d a x)
      ≡ ls = done_same (sees s) _ ls _ refl read in
      let whole : d ≡ stands.0 = model_same a stands.0 stands.1 in
      base_stands files clear.files d a x b (subst (λ z. model_of files a.file.0 ≡ Some z) (sym whole) stands.1)
      (base_in a rs (base (library_of files) d a x) b (subst (λ z. IsMember z (ToBase b)) (sym same) m)))
  general_on a ls stands read (ToBase b) t m (inr none) = absurd none

  pub generals_closed : (a t : ElementNo) → IsMember (elements_of files) a
      → Goes (general_links (library_of files)) (ends general) (sees s) same_element a t
      → IsMember (elements_of files) t
  generals_closed a t m go = element_among files t
      (general_on a go.1.0 (element_stands files a m) go.1.1 go.0 t go.1.2 (ends_on (sees s) general go.0 t go.2))

  only_references : (rs : List LinkKey) (b : ElementNo) → IsMember (map ByReference rs) (ToBase b) → ⊥
  only_references [] b m = m
  only_references (r ∷ rs) b (inl is) = let bad : ⊥ = cc in bad
  only_references (r ∷ rs) b (inr m) = only_references rs b m

  explicit_on : (a : ElementNo) (ls : List Link) → (explicit_links a (sees s)).step ≡ Done ls
      → (l : Link) (t : ElementNo)
      → IsMember ls l → Has (general l (sees s)).step t → StandsIn files t
  explicit_on a ls read (ByReference r) t m on = elim (shows_then (sees s) (target r) types_among (Finds t) on) [
    | inl none ↦ absurd none
    | inr d ↦ target_stands r t (subst (λ z. Has {K = LinkKey} z t) (sym d.1) (types_has (sees s) d.0 t d.2))
  ]
  explicit_on a ls read (ToBase b) t m on =
      let d = model_in (slice_get files a.file.0) in
      let rs = map (key a.file) (numbers_from 0
      (λ r. nat_eq r.context a.index && is_specialisation r.role) d.references) in
      let same : map ByReference rs ≡ ls = done_same (sees s) _ ls _ refl read in
      absurd (only_references rs b (subst (λ z. IsMember z (ToBase b)) (sym same) m))

  pub explicit_closed : (a t : ElementNo) → IsMember (elements_of files) a
      → Goes explicit_links (ends general) (sees s) same_element a t
      → IsMember (elements_of files) t
  explicit_closed a t m go = element_among files t (explicit_on a go.1.0 go.1.1 go.0 t go.1.2 (ends_on
      (sees s) general go.0 t go.2))
