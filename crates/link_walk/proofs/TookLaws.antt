-- Code that does to its trail what `expanded` says expands a node.
use Rattle.std.proofs.Common.{◌≡◌, List, [], ◌∷◌, ◌++◌, refl, sym, ◌∙◌, ap, subst, inl, inr, append_assoc, append-nil}
use Rattle.std.specs.Prelude.{◌⊎◌, map, drop, length, get_or, ◌<◌, ◌≤◌, ◌+◌, ℕ, zero, suc}
use Rattle.std.proofs.Common.{drop-cons, add-one, arith}
use Rattle.linker_base.specs.Members.{IsMember}
use Rattle.linker_base.proofs.MemberLaws.{member_left, member_right, member_cases}
use Rattle.demand_core.specs.Gather.{Led}
use Rattle.demand_core.specs.Rules.{WaitsOn}
use Rattle.demand_core.specs.declared.looks.Fact.{Fact}
use Rattle.demand_core.specs.declared.step.Step.{Step}
use Rattle.demand_core.specs.declared.step.Step.TheVariants.{Done, Waits}
use Rattle.demand_core.specs.Search.{Part, Finds, Awaits, LooksAt, Aside, LedShows, LedOn, IsKnown, IsRoom, Takes, AddsAside, Expands}
use Rattle.demand_core.proofs.SearchLaws.{takes_none, takes_more, takes_over}
use Rattle.element_store.specs.declared.numbers.ElementNo.{ElementNo}
use Rattle.link_model.specs.declared.keys.LinkKey.{LinkKey}
use Rattle.link_model.specs.declared.keys.LinkFact.{LinkFact}
use Rattle.link_model.specs.Keys.{same_element, same_key, element_is_exact, key_is_exact}
use Rattle.link_model.specs.Readers.{Lookup, LinkWorld}
use Rattle.link_walk.specs.Marks.{marked_all, same_fact}
use Rattle.link_walk.specs.Noted.{LinkTrail}
use Rattle.link_walk.specs.Took.{with_waits, with_looks, led, took, took_all, expanded_step, expanded}
use Rattle.link_walk.proofs.MarkLaws.{all_kept, all_now, all_new, all_grown, all_room, fact_is_exact}

abbrev LinkPart : Type 0 → Type 0
LinkPart B = Part LinkKey LinkFact B

abbrev Facts : Type 0
Facts = List (Fact LinkKey LinkFact)

-- what a step finds, what it waits on, and where it goes on
abbrev found_in : {B : Type 0} → Step LinkKey (Led B ElementNo) → List B
found_in (Done r) = r.found
found_in (Waits ks) = []

abbrev waits_in : {B : Type 0} → Step LinkKey (Led B ElementNo) → List LinkKey
waits_in (Done r) = []
waits_in (Waits ks) = ks

abbrev onward_in : {B : Type 0} → Step LinkKey (Led B ElementNo) → List ElementNo
onward_in (Done r) = r.onward
onward_in (Waits ks) = []

abbrev Brings : {B : Type 0} → List B → List LinkKey → Facts → LinkPart B → Type 0
Brings fs ws gs (Finds y) = IsMember fs y
Brings fs ws gs (Awaits k) = IsMember ws k
Brings fs ws gs (LooksAt f) = IsMember gs f

brings_of : {B : Type 0} (step : Step LinkKey (Led B ElementNo)) (looks : Facts) (x : LinkPart B) → LedShows (record { step = step; looks = looks }) x
    → Brings (found_in step) (waits_in step) looks x
brings_of (Done r) looks (Finds y) h = h
brings_of (Done r) looks (Awaits k) h = h
brings_of (Done r) looks (LooksAt f) h = h
brings_of (Waits ks) looks (Finds y) h = h
brings_of (Waits ks) looks (Awaits k) h = h
brings_of (Waits ks) looks (LooksAt f) h = h

of_brings : {B : Type 0} (step : Step LinkKey (Led B ElementNo)) (looks : Facts) (x : LinkPart B) → Brings (found_in step) (waits_in step) looks x
    → LedShows (record { step = step; looks = looks }) x
of_brings (Done r) looks (Finds y) h = h
of_brings (Done r) looks (Awaits k) h = h
of_brings (Done r) looks (LooksAt f) h = h
of_brings (Waits ks) looks (Finds y) h = h
of_brings (Waits ks) looks (Awaits k) h = h
of_brings (Waits ks) looks (LooksAt f) h = h

on_in : {B : Type 0} (step : Step LinkKey (Led B ElementNo)) (t : ElementNo) → LedOn step t → IsMember (onward_in step) t
on_in (Done r) t h = h
on_in (Waits ks) t h = h

in_on : {B : Type 0} (step : Step LinkKey (Led B ElementNo)) (t : ElementNo) → IsMember (onward_in step) t → LedOn step t
in_on (Done r) t h = h
in_on (Waits ks) t h = h

-- the trail with more on it
abbrev longer : {B : Type 0} → LinkTrail B → List ElementNo → List B → List LinkKey → Facts → LinkTrail B
longer t ns fs ws gs = record { nodes = ns; found = t.found ++ fs; waits = marked_all same_key t.waits ws; looks = marked_all same_fact t.looks gs }

module _ {B : Type 0} (t : LinkTrail B) (ns : List ElementNo) (fs : List B) (ws : List LinkKey) (gs : Facts) where
  longer_keeps : (x : LinkPart B) → IsKnown t x → IsKnown (longer t ns fs ws gs) x
  longer_keeps (Finds y) k = member_left t.found fs y k
  longer_keeps (Awaits q) k = all_kept same_key key_is_exact ws t.waits q k
  longer_keeps (LooksAt f) k = all_kept same_fact fact_is_exact gs t.looks f k

  longer_has : (x : LinkPart B) → Brings fs ws gs x → IsKnown (longer t ns fs ws gs) x
  longer_has (Finds y) k = member_right t.found fs y k
  longer_has (Awaits q) k = all_now same_key key_is_exact ws t.waits q k
  longer_has (LooksAt f) k = all_now same_fact fact_is_exact gs t.looks f k

  longer_cases : (x : LinkPart B) → IsKnown (longer t ns fs ws gs) x → IsKnown t x ⊎ Brings fs ws gs x
  longer_cases (Finds y) k = member_cases t.found fs y k
  longer_cases (Awaits q) k = all_new same_key key_is_exact ws t.waits q k
  longer_cases (LooksAt f) k = all_new same_fact fact_is_exact gs t.looks f k

module _ {L B : Type 0} (links : ElementNo → Lookup (List L)) (leads : L → Lookup (Led B ElementNo)) (w : LinkWorld) where
  led_longer : (t : LinkTrail B) (step : Step LinkKey (Led B ElementNo)) (gs : Facts)
      → led (record t { looks = marked_all same_fact t.looks gs }) step ≡ longer t (marked_all same_element t.nodes (onward_in step)) (found_in step)
      (waits_in step) gs
  led_longer t (Done r) gs = refl
  led_longer t (Waits ks) gs = λ i. record {
    nodes = t.nodes;
    found = sym
        (append-nil t.found) i;
    waits = marked_all same_key t.waits ks;
    looks = marked_all same_fact t.looks gs;
  }

  -- a link is taken
  takes_one : (l : L) (t : LinkTrail B) → Takes links leads w same_element [] (l ∷ []) t (took (leads l w) t)
  takes_one l t =
      let a = leads l w in
      let ns = marked_all same_element t.nodes (onward_in a.step) in
      subst (Takes links leads w same_element [] (l ∷ []) t) (sym (led_longer t a.step a.looks)) (record {
        kept = λ u m. all_kept same_element element_is_exact (onward_in a.step) t.nodes u m;
        onward = λ k u. elim [
          | inl is ↦ λ on off. all_now same_element element_is_exact (onward_in a.step) t.nodes u
              (on_in a.step u (subst (λ z. LedOn (leads z w).step u) (sym is) on))
          | inr none ↦ absurd none
        ];
        marked = λ u m. elim (all_new same_element element_is_exact (onward_in a.step) t.nodes u m) [
          | inl old ↦ inl old
          | inr on ↦ inr (refl, (l, inl refl, in_on a.step u on))
        ];
        known = λ x k. longer_keeps t ns (found_in a.step) (waits_in a.step) a.looks x k;
        own = λ k x. elim [
          | inl is ↦ λ o. longer_has t ns (found_in a.step) (waits_in a.step) a.looks x
              (brings_of a.step a.looks x (subst (λ z. LedShows (leads z w) x) (sym is) o))
          | inr none ↦ absurd none
        ];
        only = λ x k. elim (longer_cases t ns (found_in a.step) (waits_in a.step) a.looks x k) [
          | inl old ↦ inl old
          | inr new ↦ inr (l, inl refl, of_brings a.step a.looks x new)
        ];
      })

  takes_all : (ls : List L) (t : LinkTrail B) → Takes links leads w same_element [] ls t (took_all leads w ls t)
  takes_all [] t = takes_none links leads w same_element [] t
  takes_all (l ∷ ls) t =
      takes_more links leads w same_element [] (l ∷ []) ls t (took (leads l w) t) (took_all leads w ls (took (leads l w) t)) (takes_one l t)
      (takes_all ls (took (leads l w) t))

  nodes_after : (t : LinkTrail B) (step : Step LinkKey (Led B ElementNo)) → (led t step).nodes ≡ marked_all same_element t.nodes (onward_in step)
  nodes_after t (Done r) = refl
  nodes_after t (Waits ks) = refl

  took_grown : (ls : List L) (t : LinkTrail B) → (more : List ElementNo) × ((took_all leads w ls t).nodes ≡ t.nodes ++ more)
  took_grown [] t = ([], sym (append-nil t.nodes))
  took_grown (l ∷ ls) t =
      let one = all_grown same_element element_is_exact (onward_in (leads l w).step) t.nodes in
      let rest = took_grown ls (took (leads l w) t) in
      (one.0 ++ rest.0, rest.1 ∙ (ap (λ z. z ++ rest.0) (nodes_after (with_looks t (leads l w)) (leads l w).step ∙ one.1) ∙ append_assoc t.nodes one.0 rest.0))

  took_room : (all : List ElementNo) (ls : List L) (t : LinkTrail B) → ((l : L) (u : ElementNo) → IsMember ls l → LedOn (leads l w).step u → IsMember all u)
      → IsRoom same_element all t.nodes → IsRoom same_element all (took_all leads w ls t).nodes
  took_room all [] t fit r = r
  took_room all (l ∷ ls) t fit r =
      took_room all ls (took (leads l w) t) (λ k u m. fit k u (inr m))
      (subst (IsRoom same_element all) (sym (nodes_after (with_looks t (leads l w)) (leads l w).step))
      (all_room same_element element_is_exact all (onward_in (leads l w).step) t.nodes (λ u m. fit l u (inl refl) (in_on (leads l w).step u m)) r))

  -- what the links look at is noted
  abbrev looked_at : ElementNo → LinkTrail B → LinkTrail B
  looked_at e old = with_looks old (links e w)

  -- the same, written at the end
  abbrev listed_at : ElementNo → LinkTrail B → LinkTrail B
  listed_at e old = record old { looks = old.looks ++ (links e w).looks }

  noted_listed : (e : ElementNo) (old : LinkTrail B) (x : LinkPart B) → IsKnown (looked_at e old) x → IsKnown (listed_at e old) x
  noted_listed e old (Finds y) k = k
  noted_listed e old (Awaits q) k = k
  noted_listed e old (LooksAt f) k = elim (all_new same_fact fact_is_exact (links e w).looks old.looks f k) [
    | inl a ↦ member_left old.looks (links e w).looks f a
    | inr b ↦ member_right old.looks (links e w).looks f b
  ]

  listed_noted : (e : ElementNo) (old : LinkTrail B) (x : LinkPart B) → IsKnown (listed_at e old) x → IsKnown (looked_at e old) x
  listed_noted e old (Finds y) k = k
  listed_noted e old (Awaits q) k = k
  listed_noted e old (LooksAt f) k = elim (member_cases old.looks (links e w).looks f k) [
    | inl a ↦ all_kept same_fact fact_is_exact (links e w).looks old.looks f a
    | inr b ↦ all_now same_fact fact_is_exact (links e w).looks old.looks f b
  ]

  -- a node whose links wait
  adds_aside : (e : ElementNo) (ks : List LinkKey) (old : LinkTrail B) → (links e w).step ≡ Waits ks
      → AddsAside links leads w same_element [] e old (with_waits (looked_at e old) ks)
  adds_aside e ks old read = record { nodes = refl; known = up; aside = aside_in; only = back }
    where
      up : (x : LinkPart B) → IsKnown old x → IsKnown (with_waits (looked_at e old) ks) x
      up (Finds y) k = k
      up (Awaits q) k = all_kept same_key key_is_exact ks old.waits q k
      up (LooksAt f) k = all_kept same_fact fact_is_exact (links e w).looks old.looks f k

      back : (x : LinkPart B) → IsKnown (with_waits (looked_at e old) ks) x → IsKnown old x ⊎ Aside (links e w) x
      back (Finds y) k = inl k
      back (Awaits q) k = elim (all_new same_key key_is_exact ks old.waits q k) [ inl there ↦ inl there | inr m ↦ inr (subst (λ z. WaitsOn z q) (sym read) m) ]
      back (LooksAt f) k = all_new same_fact fact_is_exact (links e w).looks old.looks f k

      aside_in : (x : LinkPart B) → Aside (links e w) x → IsKnown (with_waits (looked_at e old) ks) x
      aside_in (Finds y) k = absurd k
      aside_in (Awaits q) k = all_now same_key key_is_exact ks old.waits q (subst (λ z. WaitsOn z q) read k)
      aside_in (LooksAt f) k = all_now same_fact fact_is_exact (links e w).looks old.looks f k

  expands_step : (e : ElementNo) (old : LinkTrail B) (step : Step LinkKey (List L)) → (links e w).step ≡ step
      → Expands links leads w same_element [] e old (expanded_step leads w (looked_at e old) step)
  expands_step e old (Done ls) is =
      let grown = took_grown ls (looked_at e old) in
      record {
        read = inl (
          ls,
          is,
          takes_over links leads w same_element [] ls ls (listed_at e old) (looked_at e old) (took_all leads w ls (looked_at e old))
              (record { left = λ l m. m; right = λ l m. m }) refl (listed_noted e old) (noted_listed e old) (takes_all ls (looked_at e old)),
        );
        added = grown.0;
        grown = grown.1;
        room = λ all fit r. took_room all ls (looked_at e old) (λ l u m on. fit u (l, (ls, is, m), on)) r;
      }
  expands_step e old (Waits ks) is = record {
    read = inr (ks, is, adds_aside e ks old is);
    added = [];
    grown = sym (append-nil old.nodes);
    room = λ all fit r. r;
  }

  -- THE FORM FOR CODE: a trail that is this function of the old one
  pub expands_by : (e : ElementNo) (old new : LinkTrail B) → new ≡ expanded leads w links e old → Expands links leads w same_element [] e old new
  expands_by e old new is = subst (Expands links leads w same_element [] e old) (sym is) (expands_step e old (links e w).step refl)

-- LOOPS OVER LINKS

-- what is left of a list, and its next item
pub next_is : {A : Type 0} (xs : List A) (i : ℕ) (d : A) → i < length xs → drop i xs ≡ get_or xs i d ∷ drop (i + 1) xs
next_is xs i d lt = drop-cons xs i d lt ∙ ap (λ j. get_or xs i d ∷ drop j xs) (sym (add-one i))

pub none_left : {A : Type 0} (xs : List A) (i : ℕ) → length xs ≤ i → drop i xs ≡ []
none_left [] zero h = refl
none_left [] (suc i) h = refl
none_left (x ∷ xs) zero h = absurd (omega arith)
none_left (x ∷ xs) (suc i) h = none_left xs i (omega arith)

module _ {L B : Type 0} (leads : L → Lookup (Led B ElementNo)) (w : LinkWorld) where
  -- these links, and then those
  pub took_append : (ls ks : List L) (t : LinkTrail B) → took_all leads w (ls ++ ks) t ≡ took_all leads w ks (took_all leads w ls t)
  took_append [] ks t = refl
  took_append (l ∷ ls) ks t = took_append ls ks (took (leads l w) t)

  -- one link more, of those that a list names
  pub took_next : {C : Type 0} (f : C → L) (xs : List C) (i : ℕ) (d : C) (mid new whole : LinkTrail B) → i < length xs
      → new ≡ took (leads (f (get_or xs i d)) w) mid
      → took_all leads w (map f (drop i xs)) mid ≡ whole → took_all leads w (map f (drop (i + 1) xs)) new ≡ whole
  took_next f xs i d mid new whole lt is h =
      ap (took_all leads w (map f (drop (i + 1) xs))) is ∙ (ap (λ ys. took_all leads w (map f ys) mid) (sym (next_is xs i d lt)) ∙ h)

  -- after the last of them
  pub took_end : {C : Type 0} (f : C → L) (xs : List C) (i : ℕ) (mid whole : LinkTrail B) → length xs ≤ i → took_all leads w (map f (drop i xs)) mid ≡ whole
      → mid ≡ whole
  took_end f xs i mid whole done h = ap (λ ys. took_all leads w (map f ys) mid) (sym (none_left xs i done)) ∙ h
