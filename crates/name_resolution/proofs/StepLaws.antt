-- What code gives for an asking is the step of the definitions.
use Rattle.std.proofs.Common.{◌≡◌, ◌∙◌, ℕ, ◌+◌, ◌<◌, Bool, true, false, List, [], ◌∷◌, ◌++◌, map, length, refl, sym, ap, subst, inl, inr, arith}
use Rattle.std.specs.Prelude.{◌⊎◌, zero, suc, nat_lt, slice_get, Option, None, Some}
use Rattle.std.specs.List.{flat_map}
use Rattle.linker_base.specs.Members.{IsMember, SameMembers, Adds}
use Rattle.linker_base.specs.Orders.{AreInOrder}
use Rattle.linker_base.proofs.Cases.{some_same}
use Rattle.linker_base.proofs.MemberLaws.{member_cases, same_through}
use Rattle.linker_base.proofs.OrderLaws.{order_pins}
use Rattle.demand_core.specs.Rules.{WaitsOn}
use Rattle.demand_core.specs.Tables.{Decided, entry_of}
use Rattle.demand_core.specs.Computed.{each_once, ordered_step, world}
use Rattle.demand_core.proofs.ComputedLaws.{each_once_is_order}
use Rattle.demand_core.specs.declared.looks.Fact.{Fact}
use Rattle.demand_core.specs.declared.step.Step.{Step}
use Rattle.demand_core.specs.declared.step.Step.TheVariants.{Done, Waits}
use Rattle.element_store.specs.declared.numbers.FileNo.{FileNo}
use Rattle.element_store.specs.declared.outcome.Outcome.{Outcome}
use Rattle.element_store.specs.declared.outcome.Outcome.TheVariants.{Cyclic}
use Rattle.element_store.specs.declared.models.StoredFile.{StoredFile}
use Rattle.element_store.specs.BaseRules.{model_of}
use Rattle.element_store.specs.Model.{Data}
use Rattle.element_store.specs.Numbers.{places_from}
use Rattle.element_store.specs.Stored.{AreFiles}
use Rattle.link_model.specs.declared.keys.LinkKey.{LinkKey}
use Rattle.link_model.specs.declared.keys.LinkFact.{LinkFact}
use Rattle.link_model.specs.Keys.{same_key, key_is_exact}
use Rattle.link_model.specs.Asking.{ask, find_by}
use Rattle.link_model.specs.Outside.{model_in, seen_in, keys_of, keys_in, library_of, Numbered, numbered_from}
use Rattle.link_model.specs.Readers.{Lookup, LinkWorld}
use Rattle.link_model.specs.Linking.{sorted, sorted_step, found_by, find, link_meaning, ComesBefore}
use Rattle.link_model.proofs.OrderLemmas.{one_way}
use Rattle.link_model.proofs.RuleLaws.{below, file_cases}
use Rattle.link_model.proofs.TameLaws.{Stands, IsTame, ask_tame, find_tame}
use Rattle.link_walk.specs.Calls.{ReferenceStands, reading}
use Rattle.link_walk.specs.Noted.{Noted}
use Rattle.link_tiers.specs.Answered.{IsAnswer, Answered}
use Rattle.link_waits.specs.Waits.{HaveFiles}
use Rattle.name_resolution.specs.Ready.{AreOrdered, Gives, Ends, first_of_keys}
use Rattle.name_resolution.proofs.SortedLaws.{IsUpTo, once_rises, sorted_members, sorted_rises}

within : (files : List StoredFile) (i : ℕ) (s : StoredFile) → slice_get files i ≡ Some s → i < length files
within [] i s e = cc
within (f ∷ files) zero s e = omega arith
within (f ∷ files) (suc i) s e = let lt = within files i s e in omega (arith, lt)

-- KEYS STAND in the models

back : {A B : Type 0} (f : A → List B) (xs : List A) (y : B) → IsMember (flat_map f xs) y → (x : A) × IsMember xs x × IsMember (f x) y
back f [] y m = absurd m
back f (x ∷ xs) y m = elim (member_cases (f x) (flat_map f xs) y m) [
  | inl a ↦ (x, inl refl, a)
  | inr b ↦ let i = back f xs y b in (i.0, inr i.1, i.2)
]

numbered : (files : List StoredFile) (n : ℕ) (s : Numbered) → IsMember (numbered_from n files) s
    → (i : ℕ) × (slice_get files i ≡ Some s.file) × (s.number.0 ≡ n + i)
numbered [] n s m = absurd m
numbered (f ∷ files) n s (inl e) = (0, ap (λ (t : Numbered). Some t.file) e, let is : n ≡ s.number.0 = ap (λ (t : Numbered). t.number.0) e in omega (arith, is))
numbered (f ∷ files) n s (inr m) = let i = numbered files (suc n) s m in let is = i.2 in (suc i.0, i.1, omega (arith, is))

key_back : (f : FileNo) (ks : List ℕ) (q : LinkKey) → IsMember (map (λ k. record { 0 = record { file = f; index = k } }) ks) q
    → (q.0.file ≡ f) × IsMember ks q.0.index
key_back f [] q m = absurd m
key_back f (k ∷ ks) q (inl e) = (ap (λ x. x.0.file) (sym e), inl (ap (λ x. x.0.index) e))
key_back f (k ∷ ks) q (inr m) = let rest = key_back f ks q m in (rest.0, inr rest.1)

place_below : {A : Type 0} (xs : List A) (n k : ℕ) → IsMember (places_from n xs) k → k < n + length xs
place_below [] n k m = absurd m
place_below (x ∷ xs) n k (inl e) = let is : n ≡ k = e in omega (arith, is)
place_below (x ∷ xs) n k (inr m) = let lt = place_below xs (suc n) k m in omega (arith, lt)

-- a key of the rules is a reference that stands
pub key_stands : (files : List StoredFile) (k : LinkKey) → IsMember (keys_of files) k → ReferenceStands files k.0
key_stands files k m =
    let s = back keys_in (numbered_from 0 files) k m in
    let i = numbered files 0 s.0 s.1 in
    let q = key_back s.0.number (places_from 0 (model_in (Some s.0.file)).references) k s.2 in
    let low = place_below (model_in (Some s.0.file)).references 0 k.0.index q.1 in
    let lt : k.0.index < length (model_in (Some s.0.file)).references = omega (arith, low) in
    let is = i.2 in
    let number : k.0.file.0 ≡ i.0 = ap (λ (f : FileNo). f.0) q.0 ∙ omega (arith, is) in
    by s.0.file (ap (slice_get files) number ∙ i.1) s.0.file.model refl lt
  where
    by : (s : StoredFile) → slice_get files k.0.file.0 ≡ Some s → (d : Option Data) → s.model ≡ d
        → k.0.index < length (model_in (Some (record s { model = s.model }))).references → ReferenceStands files k.0
    by s at None e lt =
        let none : k.0.index < length (model_in (Some (record s { model = None }))).references =
        subst (λ m. k.0.index < length (model_in (Some (record s { model = m }))).references) e lt in absurd (omega (arith, none))
    by s at (Some d) e lt =
        let some : k.0.index < length (model_in (Some (record s { model = Some d }))).references =
        subst (λ m. k.0.index < length (model_in (Some (record s { model = m }))).references) e lt in
        (d, (let of : model_of files k.0.file.0 ≡ Some d = rw at e in of), some)

-- the two steps, as functions
abbrev the_done : Outcome → Step LinkKey Outcome
the_done z = Done z

abbrev the_waits : List LinkKey → Step LinkKey Outcome
the_waits z = Waits z

-- a reference that stands is of a file that stands
stands_within : (files : List StoredFile) (table : Decided LinkKey Outcome) (q : LinkKey) → Stands (world (seen_in files) table) q → q.0.file.0 < length files
stands_within files table q h = elim (file_cases files q.0.file.0) [
  | inl none ↦
      let bad : nat_lt q.0.index (length (model_in None).references) ≡ true =
      subst (λ (s : Option StoredFile). nat_lt q.0.index (length (model_in s).references) ≡ true) none h in
      let lt = below q.0.index 0 bad in absurd (omega (arith, lt))
  | inr there ↦ within files q.0.file.0 there.0 there.1
]

module _ (files : List StoredFile) (are : AreFiles files) (table : Decided LinkKey Outcome) where
  abbrev pub here : LinkWorld
  here = world (seen_in files) table

  -- what is waited on is of files that stand
  pub waits_have : (c : Lookup Outcome) → IsTame c → (o : Option Outcome) (new : Noted) → Answered (c here) o (record { waits = []; looks = [] }) new
      → HaveFiles (length files) new.waits
  waits_have c tame o new a = by (c here).step refl a.step
    where
      by : (m : Step LinkKey Outcome) → (c here).step ≡ m → IsAnswer m o [] new.waits → HaveFiles (length files) new.waits
      by (Done y) e told = λ k m. absurd (subst (λ ks. IsMember ks k) told.1 m)
      by (Waits ks) e told = λ k m.
          stands_within files table k (tame.among here k (subst (λ (z : Step LinkKey Outcome). WaitsOn z k) (sym e) (told.1.left k m)))

  stand_all : (c : Lookup Outcome) → IsTame c → (ks : List LinkKey) → (c here).step ≡ Waits ks → (q : LinkKey) → IsMember ks q → Stands here q
  stand_all c tame ks e q m = tame.among here q (subst (λ (z : Step LinkKey Outcome). WaitsOn z q) (sym e) m)

  same_sorted : (waits ks keys : List LinkKey) → SameMembers waits ks → SameMembers keys waits → SameMembers keys (sorted here ks)
  same_sorted waits ks keys s t = same_through (same_through t s) (back_same (sorted_members here ks))
    where
      back_same : {xs ys : List LinkKey} → SameMembers xs ys → SameMembers ys xs
      back_same s = record { left = s.right; right = s.left }

  -- THE STEP of an asking
  pub step_given : (c : Lookup Outcome) → IsTame c → (o : Option Outcome) (new : Noted) (step : Step LinkKey Outcome)
      → Answered (c here) o (record { waits = []; looks = [] }) new → Gives files o new.waits step
      → step ≡ ordered_step (each_once same_key) (sorted_step here (c here).step)
  step_given c tame o new step a g = ap_step (c here).step refl o a.step step g
    where
      given : (ks keys : List LinkKey) → (c here).step ≡ Waits ks → SameMembers new.waits ks → AreOrdered files new.waits keys
          → keys ≡ each_once same_key (sorted here ks)
      given ks keys e s g =
          let once = (each_once_is_order same_key key_is_exact).same (sorted here ks) in
          order_pins (ComesBefore files) (one_way files) keys (each_once same_key (sorted here ks)) g.order
          (once_rises files (sorted here ks) (sorted_rises files are.names table ks (stand_all c tame ks e)))
          (same_through (same_sorted new.waits ks keys s g.same) (record { left = once.right; right = once.left }))

      ap_step : (m : Step LinkKey Outcome) → (c here).step ≡ m → (o : Option Outcome) → IsAnswer m o [] new.waits → (step : Step LinkKey Outcome)
          → Gives files o new.waits step → step ≡ ordered_step (each_once same_key) (sorted_step here m)
      ap_step (Done y) e (Some x) told step g = g ∙ ap (λ (z : Outcome). the_done z) (some_same x y told.0)
      ap_step (Done y) e None told step g = let bad = told.0 in cc
      ap_step (Waits ks) e (Some x) told step g = let bad = told.0 in cc
      ap_step (Waits ks) e None told (Done z) g = absurd g
      ap_step (Waits ks) e None told (Waits keys) g = ap (λ (z : List LinkKey). the_waits z) (given ks keys e told.1 g)

  -- the first of what is waited on
  heads : (keys ks : List LinkKey) → AreInOrder (ComesBefore files) keys → AreInOrder (IsUpTo files) ks → SameMembers keys ks
      → first_of_keys keys ≡ found_by (Waits ks)
  heads [] [] o p s = refl
  heads [] (l ∷ ls) o p s = absurd (s.right l (inl refl))
  heads (k ∷ keys) [] o p s = absurd (s.left k (inl refl))
  heads (k ∷ keys) (l ∷ ls) o p s = ap (λ (z : LinkKey). Cyclic z.0) (elim (s.right l (inl refl)) [
    | inl e ↦ e
    | inr m ↦ elim (s.left k (inl refl)) [
      | inl e ↦ sym e
      | inr n ↦ elim (p.0 k n) [ inl e ↦ sym e | inr before ↦ absurd (one_way files l k before (o.0 l m)) ]
    ]
  ])

  -- THE END of a finding
  pub end_found : (c : Lookup Outcome) → IsTame c → (o : Option Outcome) (new : Noted) (found : Outcome)
      → Answered (c here) o (record { waits = []; looks = [] }) new → Ends files o new.waits found → found ≡ found_by (sorted_step here (c here).step)
  end_found c tame o new found a g = by (c here).step refl o a.step g
    where
      by : (m : Step LinkKey Outcome) → (c here).step ≡ m → (o : Option Outcome) → IsAnswer m o [] new.waits → Ends files o new.waits found
          → found ≡ found_by (sorted_step here m)
      by (Done y) e (Some x) told g = g ∙ some_same x y told.0
      by (Done y) e None told g = let bad = told.0 in cc
      by (Waits ks) e (Some x) told g = let bad = told.0 in cc
      by (Waits ks) e None told (keys, ordered, is) =
          is ∙ heads keys (sorted here ks) ordered.order (sorted_rises files are.names table ks (stand_all c tame ks e))
          (same_sorted new.waits ks keys told.1 ordered.same)

-- ALL OF AN ASKING, in the words of the rules
module _ (files : List StoredFile) (are : AreFiles files) (entries : List (LinkKey × Outcome)) (k : LinkKey) (o : Option Outcome) (new : Noted)
    (a : Answered (ask (library_of files) k.0 (reading files entries)) o (record { waits = []; looks = [] }) new) where
  pub asked_files : HaveFiles (length files) new.waits
  asked_files = waits_have files are (entry_of same_key entries) (ask (library_of files) k.0) (ask_tame (library_of files) k.0) o new a

  pub asked_step : (step : Step LinkKey Outcome) → Gives files o new.waits step → step ≡ (link_meaning files).answer (entry_of same_key entries) k
  asked_step step g = step_given files are (entry_of same_key entries) (ask (library_of files) k.0) (ask_tame (library_of files) k.0) o new step a g

  pub asked_looks : (old all : List (Fact LinkKey LinkFact)) → all ≡ old ++ new.looks → Adds old all ((link_meaning files).looked (entry_of same_key entries) k)
  asked_looks old all is = record { added = new.looks; whole = is; same = a.looks }

-- all of a finding
module _ (files : List StoredFile) (are : AreFiles files) (entries : List (LinkKey × Outcome)) (path : List (List ℕ)) (o : Option Outcome) (new : Noted)
    (a : Answered (find_by (library_of files) path (reading files entries)) o (record { waits = []; looks = [] }) new) where
  pub found_files : HaveFiles (length files) new.waits
  found_files = waits_have files are (entry_of same_key entries) (find_by (library_of files) path) (find_tame (library_of files) path) o new a

  pub found_end : (found : Outcome) → Ends files o new.waits found → found ≡ find files (entry_of same_key entries) path
  found_end found e = end_found files are (entry_of same_key entries) (find_by (library_of files) path) (find_tame (library_of files) path) o new found a e
