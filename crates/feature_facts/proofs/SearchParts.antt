-- What a search shows, by the ways that lead there; and what a done asking found.
use Rattle.std.proofs.Common.{◌≡◌, ℕ, ◌<◌, ◌≤◌, false, List, [], ◌∷◌, length, refl, sym, subst, inl, inr, arith}
use Rattle.linker_base.specs.Members.{IsMember, SameMembers}
use Rattle.demand_core.specs.Computation.{Asked, done, then_step, ◌>>=◌}
use Rattle.demand_core.specs.Gather.{Led, gather}
use Rattle.demand_core.specs.Rules.{WaitsOn}
use Rattle.demand_core.specs.Search.{Part, Finds, Awaits, LooksAt, Has, Shows, Admits, LedHas, LedOn, LedShows, Goes, Gathers, Own, Onward, Trail, IsStep, IsAsked, off_count}
use Rattle.demand_core.specs.declared.looks.Fact.{Fact}
use Rattle.demand_core.specs.declared.looks.Fact.TheVariants.{Outer}
use Rattle.demand_core.specs.declared.step.Step.{Step}
use Rattle.demand_core.specs.declared.step.Step.TheVariants.{Done, Waits}
use Rattle.demand_core.proofs.GatherLaws.{off_most, off_start, gather_sound, gather_complete}
use Rattle.element_store.specs.BaseRules.{StandsIn}
use Rattle.element_store.specs.Stored.{AreFiles}
use Rattle.element_store.specs.declared.numbers.ElementNo.{ElementNo}
use Rattle.element_store.specs.declared.outcome.Outcome.{Outcome}
use Rattle.element_store.specs.declared.outcome.Outcome.TheVariants.{Linked}
use Rattle.element_store.specs.declared.models.StoredFile.{StoredFile}
use Rattle.link_model.specs.declared.keys.LinkKey.{LinkKey}
use Rattle.link_model.specs.declared.keys.LinkFact.{LinkFact}
use Rattle.link_model.specs.declared.keys.LinkFact.TheVariants.{File}
use Rattle.link_model.specs.Inheritance.{all_redefined, general, general_links, reached}
use Rattle.link_model.specs.Keys.{same_element, element_is_exact}
use Rattle.link_model.specs.Linking.{Fits}
use Rattle.link_model.specs.Names.{redefinitions}
use Rattle.link_model.specs.Readers.{Lookup, LinkWorld, most, target}
use Rattle.link_walk.specs.Calls.{reading, read_by, files_of, AreLinks, StaysAmong, ends, elements_of}
use Rattle.link_walk.proofs.ElementLaws.{element_among, element_stands, elements_few}
use Rattle.link_model.specs.declared.view.View.{View}
use Rattle.link_model.specs.Outside.{library_of}
use Rattle.link_walk.specs.Noted.{LinkTrail}
use Rattle.inheritance.specs.declared.sight.Sight.{Sight}
use Rattle.inheritance.specs.Sights.{IsClear, world_as}
use Rattle.inheritance.specs.GeneralLaws.{target_has, ends_on, generals_closed}

-- where nothing is waited on, what is found is the answer
pub found_has : {A B : Type 0} (g : Trail LinkKey LinkFact A B) (a : Asked LinkKey LinkFact (List B)) → IsAsked g a → g.waits ≡ [] → (y : B)
    → IsMember g.found y → Has a.step y
found_has {A} {B} g a h none y m = by g.waits a.step h.step none
  where
    by : (ws : List LinkKey) (step : Step LinkKey (List B)) → IsStep g.found ws step → ws ≡ [] → Has step y
    by [] (Done ys) s e = s.left y m
    by [] (Waits ks) s e = absurd s
    by (v ∷ vs) step s e = cc

pub has_found : {A B : Type 0} (g : Trail LinkKey LinkFact A B) (a : Asked LinkKey LinkFact (List B)) → IsAsked g a → (y : B) → Has a.step y
    → IsMember g.found y
has_found {A} {B} g a h y m = by g.waits a.step h.step m
  where
    by : (ws : List LinkKey) (step : Step LinkKey (List B)) → IsStep g.found ws step → Has step y → IsMember g.found y
    by [] (Done ys) s m = s.right y m
    by [] (Waits ks) s m = absurd m
    by (v ∷ vs) (Done ys) s m = absurd s
    by (v ∷ vs) (Waits ks) s m = absurd m

-- and the asking is done
pub quiet_done : {A B : Type 0} (g : Trail LinkKey LinkFact A B) (a : Asked LinkKey LinkFact (List B)) → IsAsked g a → g.waits ≡ []
    → (ys : List B) × (a.step ≡ Done ys)
quiet_done {A} {B} g a h none = by g.waits a.step h.step none
  where
    by : (ws : List LinkKey) (step : Step LinkKey (List B)) → IsStep g.found ws step → ws ≡ [] → (ys : List B) × (step ≡ Done ys)
    by [] (Done ys) s e = (ys, refl)
    by [] (Waits ks) s e = absurd s
    by (v ∷ vs) step s e = cc

-- what is waited on was noted
pub waits_noted : {A B : Type 0} (g : Trail LinkKey LinkFact A B) (a : Asked LinkKey LinkFact (List B)) → IsAsked g a → (k : LinkKey)
    → WaitsOn a.step k → IsMember g.waits k
waits_noted {A} {B} g a h k m = by g.waits a.step h.step m
  where
    by : (ws : List LinkKey) (step : Step LinkKey (List B)) → IsStep g.found ws step → WaitsOn step k → IsMember ws k
    by [] (Done ys) s m = absurd m
    by [] (Waits ks) s m = absurd s
    by (v ∷ vs) (Done ys) s m = absurd m
    by (v ∷ vs) (Waits ks) s m = s.right k m

-- A SEARCH WHOSE LINKS FIND WHERE IT GOES ON
module _ {L : Type 0} (links : ElementNo → Lookup (List L)) (c : L → Lookup (List ElementNo)) (w : LinkWorld) where
  -- a way of decided links leads from a to where x is shown
  abbrev pub Way : ElementNo → Part LinkKey LinkFact ElementNo → Type 0
  Way a x = Gathers links (ends c) w same_element [] a x

  led_on : (a : Asked LinkKey LinkFact (List ElementNo)) (step : Step LinkKey (List ElementNo)) (y : ElementNo)
      → LedHas (then_step {B = Led ElementNo ElementNo} a (λ ts. done (record { found = ts; onward = ts }) w) step).step y
      → LedOn (then_step {B = Led ElementNo ElementNo} a (λ ts. done (record { found = ts; onward = ts }) w) step).step y
  led_on a (Done ts) y h = h
  led_on a (Waits ks) y h = h

  pub way_among : (all : List ElementNo) → StaysAmong links (ends c) w all → (a y : ElementNo) → IsMember all a → Way a (Finds y) → IsMember all y
  way_among all stays a y m (Own (inl aside)) = absurd aside
  way_among all stays a y m (Own (inr o)) = stays a y m (o.0, o.1, led_on (c o.0 w) (c o.0 w).step y o.2)
  way_among all stays a y m (Onward {t = b} go off rest) = way_among all stays b y (stays a b m go) rest

  pub shows_way : (a : ElementNo) (x : Part LinkKey LinkFact ElementNo) → Shows (gather same_element links (ends c) most [] a w) x → Way a x
  shows_way a x h = gather_sound links (ends c) w same_element most [] [] a x (λ t o. o) h

  pub way_admits : (all : List ElementNo) → StaysAmong links (ends c) w all → length all < most → (a : ElementNo)
      (x : Part LinkKey LinkFact ElementNo) → IsMember all a → Way a x → Admits (gather same_element links (ends c) most [] a w) x
  way_admits all stays few a x m h =
      let less = off_most same_element [] all in
      gather_complete links (ends c) w same_element element_is_exact all most [] (λ b d in_all go off. stays b d in_all go) a x m refl (omega arith)
      (off_start links (ends c) w same_element element_is_exact [] a x h)

-- REDEFINITIONS
module _ (files : List StoredFile) (entries : List (LinkKey × Outcome)) (links : AreLinks files entries) where
  abbrev w : LinkWorld
  w = reading files entries

  -- a linked target stands
  pub target_there : (r : LinkKey) (t : ElementNo) → Has (target r w).step t → StandsIn files t
  target_there r t h =
      let at = target_has w r t h in
      let fits : Fits files (Linked at.0 t) = links r (Linked at.0 t) at.1 in
      (fits.1.0, fits.1.1, fits.1.2)

  pub redefined_stays : StaysAmong redefinitions (ends target) w (elements_of files)
  redefined_stays a t m go = element_among files t (target_there go.0 t (ends_on w target go.0 t go.2))

  module _ (are : AreFiles files) where
    -- what a feature that stands redefines on the way is shown by a way, and the other way round
    pub redefined_way : (a : ElementNo) (x : Part LinkKey LinkFact ElementNo) → Shows (all_redefined a w) x → Way redefinitions target w a x
    redefined_way a x h = shows_way redefinitions target w a x h

    pub redefined_admits : (a : ElementNo) (x : Part LinkKey LinkFact ElementNo) → StandsIn files a → Way redefinitions target w a x
        → Admits (all_redefined a w) x
    redefined_admits a x stands h =
        way_admits redefinitions target w (elements_of files) redefined_stays (elements_few files are) a x (element_among files a stands) h

    pub redefined_stands : (a y : ElementNo) → StandsIn files a → Has (all_redefined a w).step y → StandsIn files y
    redefined_stands a y stands h =
        element_stands files y (way_among redefinitions target w (elements_of files) redefined_stays a y (element_among files a stands)
        (redefined_way a (Finds y) h))

-- the types that are reached stand
pub reached_stand : (s : Sight) (v : View) → s.view.now ≡ v → s.settled ≡ false → IsClear s → (t : ElementNo) (g : LinkTrail ElementNo)
    → StandsIn (files_of v) t → IsAsked g (reached (library_of (files_of v)) t (read_by v)) → g.waits ≡ [] → (e : ElementNo) → IsMember g.found e
    → StandsIn (files_of v) e
reached_stand s v seen open_seen clear t g stands asked quiet e m =
    let files = files_of v in
    let links = general_links (library_of files) in
    let stays : StaysAmong links (ends general) (read_by v) (elements_of files) =
    subst (λ b. StaysAmong links (ends general) (world_as b (read_by v)) (elements_of files)) open_seen
    (subst (λ z. StaysAmong (general_links (library_of (files_of z))) (ends general) (world_as s.settled (read_by z)) (elements_of (files_of z))) seen
    (generals_closed s clear)) in
    element_stands files e (way_among links general (read_by v) (elements_of files) stays t e (element_among files t stands)
    (shows_way links general (read_by v) t (Finds e) (found_has g (reached (library_of files) t (read_by v)) asked quiet e m)))
