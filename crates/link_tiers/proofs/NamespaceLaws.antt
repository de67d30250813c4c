-- The imports of a namespace, and the way outward.
use Rattle.std.proofs.Common.{◌≡◌, ◌∙◌, ℕ, ◌<◌, ◌≤◌, Bool, true, false, cond, List, [], ◌∷◌, ◌++◌, length, get_or, refl, sym, ap, subst, inl, inr, arith, append-nil}
use Rattle.std.specs.Prelude.{zero, suc, Option, None, Some, IfSome, slice_get}
use Rattle.std.specs.List.{flat_map}
use Rattle.std.specs.Option.{option_map_or}
use Rattle.linker_base.specs.Members.{IsMember, SameMembers}
use Rattle.linker_base.proofs.MemberLaws.{same_members}
use Rattle.demand_core.specs.Computation.{done, ◌>>=◌}
use Rattle.demand_core.specs.Search.{IsAsked}
use Rattle.demand_core.specs.declared.looks.Fact.{Fact}
use Rattle.demand_core.specs.declared.looks.Fact.TheVariants.{Outer}
use Rattle.link_model.specs.declared.keys.LinkFact.TheVariants.{File}
use Rattle.demand_core.specs.declared.step.Step.{Step}
use Rattle.element_store.specs.declared.numbers.ElementNo.{ElementNo}
use Rattle.element_store.specs.declared.numbers.FileNo.{FileNo}
use Rattle.element_store.specs.declared.numbers.ImportNo.{ImportNo}
use Rattle.element_store.specs.declared.outcome.Outcome.{Outcome}
use Rattle.element_store.specs.declared.records.Element.{Element}
use Rattle.element_store.specs.declared.records.Import.{Import}
use Rattle.element_store.specs.declared.models.StoredFile.{StoredFile}
use Rattle.element_store.specs.BaseRules.{model_of}
use Rattle.element_store.specs.Condition.{IsModel}
use Rattle.element_store.specs.Model.{Data, root_element}
use Rattle.element_store.proofs.ModelLaws.{owner_before}
use Rattle.link_model.specs.declared.keys.LinkKey.{LinkKey}
use Rattle.link_model.specs.declared.keys.LinkFact.{LinkFact}
use Rattle.link_model.specs.declared.keys.Hit.{Hit}
use Rattle.link_model.specs.Keys.{same_key}
use Rattle.link_model.specs.Imports.{brought, visible, imported}
use Rattle.link_model.specs.Lexical.{way_up, outward, owners, tiers}
use Rattle.link_model.specs.Outside.{Library, model_in}
use Rattle.link_model.specs.Readers.{Lookup, LinkWorld, told}
use Rattle.link_walk.specs.Calls.{reading}
use Rattle.link_walk.specs.Marks.{marked_all, same_fact}
use Rattle.link_walk.specs.Noted.{LinkTrail}
use Rattle.link_tiers.specs.Tiers.{AreFound, AreHits, Joins, Tried, is_taken, import_part, way_from}
use Rattle.link_tiers.proofs.PartLaws.{joins_asked, joins_over, joins_none}
use Rattle.link_tiers.proofs.RootLaws.{waits_before, hits_more}
use Rattle.link_tiers.proofs.TierLaws.{tried_none, tried_on, tried_end}

-- the model that is read is the one that stands there
pub model_is : (files : List StoredFile) (f : FileNo) (d : Data) → model_of files f.0 ≡ Some d → model_in (slice_get files f.0) ≡ d
model_is files f d of = by (slice_get files f.0) of
  where
    by_model : (s : StoredFile) (m : Option Data) → m ≡ Some d → model_in (Some (record s { model = m })) ≡ d
    by_model s None e = cc
    by_model s (Some g) e = (let same : g ≡ d = cc in same)

    model_at : Option StoredFile → Option Data
    model_at None = None
    model_at (Some s) = s.model

    by : (o : Option StoredFile) → model_at o ≡ Some d → model_in o ≡ d
    by None e = cc
    by (Some s) e = by_model s s.model e

twice : {A : Type 0} (x : A) (xs : List A) → IsMember xs x → SameMembers (x ∷ xs) xs
twice x xs here = record { left = λ y. elim [ inl e ↦ subst (IsMember xs) e here | inr m ↦ m ]; right = λ y m. inr m }

-- AN IMPORT that is taken joins
module _ (files : List StoredFile) (entries : List (LinkKey × Outcome)) (lib : Library) (x : List ℕ) (before : Option ℕ) (at : ElementNo) (d : Data) (k : ℕ)
    (i : Import)
    (there : model_of files at.file.0 ≡ Some d) (told_at : slice_get d.imports k ≡ Some i) where
  abbrev w : LinkWorld
  w = reading files entries

  abbrev part : Lookup (List Hit)
  part = brought (visible lib x (at ∷ [])) x at.file i

  part_is : is_taken before i ≡ true → import_part lib x before at d k w ≡ part w
  part_is taken = ap (λ (o : Option Import). told o (λ j. cond (is_taken before j) (brought (visible lib x (at ∷ [])) x at.file j) (done [])) w) told_at
      ∙ ap (λ (b : Bool). cond b part (done []) w) taken

  none_is : is_taken before i ≡ false → import_part lib x before at d k w ≡ done [] w
  none_is passed = ap (λ (o : Option Import). told o (λ j. cond (is_taken before j) (brought (visible lib x (at ∷ [])) x at.file j) (done [])) w) told_at
      ∙ ap (λ (b : Bool). cond b part (done []) w) passed

  inner_is : told (slice_get (model_in (slice_get files at.file.0)).imports k) (brought (visible lib x (at ∷ [])) x at.file) w ≡ part w
  inner_is = ap (λ (e : Data). told (slice_get e.imports k) (brought (visible lib x (at ∷ [])) x at.file) w) (model_is files at.file d there)
      ∙ ap (λ (o : Option Import). told o (brought (visible lib x (at ∷ [])) x at.file) w) told_at

  abbrev whole : Lookup (List Hit)
  whole = imported lib x (at ∷ []) (record { file = at.file; index = k })

  pub joins_import : (g old new : LinkTrail Hit) → is_taken before i ≡ true → IsAsked g (whole w) → new.found ≡ old.found ++ g.found
      → new.waits ≡ marked_all same_key old.waits g.waits → new.looks ≡ marked_all same_fact old.looks g.looks → Joins w
      (import_part lib x before at d k) old new
  joins_import g old new taken h found waits looks =
      joins_over w whole (import_part lib x before at d k) old new
      (ap (λ a. a.step) inner_is ∙ sym (ap (λ a. a.step) (part_is taken)))
      (subst (λ a. SameMembers (whole w).looks a.looks) (sym (part_is taken))
      (subst (λ a. SameMembers (Outer (File at.file) ∷ a.looks) (part w).looks) (sym inner_is) (twice (Outer (File at.file)) (part w).looks (inl refl))))
      (joins_asked w whole g old new h found waits looks)

  pub joins_passed : (t : LinkTrail Hit) → is_taken before i ≡ false → Joins w (import_part lib x before at d k) t t
  joins_passed t passed = joins_over w (done []) (import_part lib x before at d k) t t (sym (ap (λ a. a.step) (none_is passed)))
      (subst (λ a. SameMembers [] a.looks) (sym (none_is passed)) (same_members [])) (joins_none w t)

-- hits that are added stand, where nothing is waited on
pub found_added : (files : List StoredFile) (g old new : LinkTrail Hit) → new.found ≡ old.found ++ g.found → new.waits ≡ marked_all same_key old.waits g.waits
    → AreFound files g → AreFound files old → AreFound files new
found_added files g old new found waits p q none =
    let b = waits_before old.waits g.waits new.waits waits none in
    subst (AreHits files) (sym found) (hits_more files old.found g.found (q b.0) (p b.1))

-- so do those with other notes of the same waits
pub found_same : (files : List StoredFile) (g new : LinkTrail Hit) (more : List LinkKey) → new.found ≡ g.found → new.waits
    ≡ marked_all same_key g.waits more → AreFound files g → AreFound files new
found_same files g new more found waits p none = subst (AreHits files) (sym found) (p (waits_before g.waits more new.waits waits none).0)

missing : (xs : List Element) (k : ℕ) → slice_get xs k ≡ None → get_or xs k root_element ≡ root_element
missing [] k none = refl
missing (y ∷ xs) zero none = cc
missing (y ∷ xs) (suc k) none = missing xs k none

present : (xs : List Element) (k : ℕ) (z : Element) → slice_get xs k ≡ Some z → get_or xs k root_element ≡ z
present [] k z some = cc
present (y ∷ xs) zero z some = (let same : y ≡ z = cc in same)
present (y ∷ xs) (suc k) z some = present xs k z some

-- THE WAY OUTWARD
module _ (d : Data) (is : IsModel d) (f : FileNo) where
  owner_below : (e : ℕ) → IfSome (get_or d.elements e root_element).owner (λ o. o < e)
  owner_below e = told_by (slice_get d.elements e) refl
    where
      told_by : (o : Option Element) → slice_get d.elements e ≡ o → IfSome (get_or d.elements e root_element).owner (λ o. o < e)
      told_by None none = subst (λ (z : Element). IfSome z.owner (λ o. o < e)) (sym (missing d.elements e none)) tt
      told_by (Some z) some = subst (λ (y : Element). IfSome y.owner (λ o. o < e)) (sym (present d.elements e z some))
          (owner_before d.elements e z is.root is.numbering.elements some)

  -- more steps than the number says make no difference
  enough : (n k e : ℕ) → e < n → e < k → way_up d f k e ≡ way_up d f (suc e) e
  enough zero k e lt few = absurd (omega (arith, lt))
  enough (suc n) zero e lt few = absurd (omega (arith, few))
  enough (suc n) (suc k) e lt few = by (get_or d.elements e root_element).owner (owner_below e) (λ p j small near. enough n j p small near)
    where
      by : (o : Option ℕ) → IfSome o (λ p. p < e) → ((p j : ℕ) → p < n → p < j → way_up d f j p ≡ way_up d f (suc p) p)
          → record { file = f; index = e } ∷ option_map_or (way_up d f k) o [] ≡ record { file = f; index = e } ∷ option_map_or (way_up d f e) o []
      by None below more = refl
      by (Some p) below more =
          let small : p < n = omega (arith, below, lt) in
          let near : p < k = omega (arith, below, few) in
          ap (λ z. record { file = f; index = e } ∷ z) (more p k small near ∙ sym (more p e small below))

  -- the way from an element is the element, and the way from its owner
  pub way_on : (e : ℕ) (x : Element) → slice_get d.elements e ≡ Some x → way_from d f (Some e) ≡ record { file = f; index = e } ∷ way_from d f x.owner
  way_on e x at = by (get_or d.elements e root_element).owner (owner_below e) ∙ ap (λ (z : Element). record { file = f; index = e } ∷ way_from d f z.owner)
      (present d.elements e x at)
    where
      by : (o : Option ℕ) → IfSome o (λ p. p < e) → record { file = f; index = e } ∷ option_map_or (way_up d f e) o [] ≡
          record { file = f; index = e } ∷ way_from d f o
      by None below = refl
      by (Some p) below = ap (λ z. record { file = f; index = e } ∷ z) (enough (suc p) e p (omega arith) below)

  -- it is the way of the definition
  pub way_whole : (e : ℕ) → e < length d.elements → outward d (record { file = f; index = e }) ≡ way_from d f (Some e)
  way_whole e lt = enough (suc e) (length d.elements) e (omega arith) lt

-- OF FOUR TIERS one decides, or the last is tried
module _ (w : LinkWorld) (a b c d : Lookup (List Hit)) (old first : LinkTrail Hit) where
  pub four_first : (x : Bool) → Tried w (a ∷ []) x old first → x ≡ true → Tried w (a ∷ b ∷ c ∷ d ∷ []) true old first
  four_first x p e = tried_end w (a ∷ []) (b ∷ c ∷ d ∷ []) old first (subst (λ z. Tried w (a ∷ []) z old first) e p)

  module _ (second : LinkTrail Hit) (x : Bool) (p : Tried w (a ∷ []) x old first) (no : x ≡ false) where
    abbrev passed : Tried w (a ∷ []) false old first
    passed = subst (λ z. Tried w (a ∷ []) z old first) no p

    pub four_second : (y : Bool) → Tried w (b ∷ []) y first second → y ≡ true → Tried w (a ∷ b ∷ c ∷ d ∷ []) true old second
    four_second y q e = tried_on w (a ∷ []) (b ∷ c ∷ d ∷ []) true old first second passed
        (tried_end w (b ∷ []) (c ∷ d ∷ []) first second (subst (λ z. Tried w (b ∷ []) z first second) e q))

    module _ (third : LinkTrail Hit) (y : Bool) (q : Tried w (b ∷ []) y first second) (nor : y ≡ false) where
      abbrev passed_two : Tried w (a ∷ b ∷ []) false old second
      passed_two = tried_on w (a ∷ []) (b ∷ []) false old first second passed (subst (λ z. Tried w (b ∷ []) z first second) nor q)

      pub four_third : (z : Bool) → Tried w (c ∷ []) z second third → z ≡ true → Tried w (a ∷ b ∷ c ∷ d ∷ []) true old third
      four_third z r e = tried_on w (a ∷ b ∷ []) (c ∷ d ∷ []) true old second third passed_two
          (tried_end w (c ∷ []) (d ∷ []) second third (subst (λ v. Tried w (c ∷ []) v second third) e r))

      pub four_last : (last : LinkTrail Hit) (z v : Bool) → Tried w (c ∷ []) z second third → z ≡ false → Tried w (d ∷ []) v third last → Tried w
          (a ∷ b ∷ c ∷ d ∷ []) v old last
      four_last last z v r none s = tried_on w (a ∷ b ∷ []) (c ∷ d ∷ []) v old second last passed_two
          (tried_on w (c ∷ []) (d ∷ []) v second third last (subst (λ u. Tried w (c ∷ []) u second third) none r) s)

-- THE WAY OUTWARD is tried from its end: what is left of the tiers, tried from here, tries all
module _ (w : LinkWorld) (lib : Library) (x : List ℕ) (d : Data) (is : IsModel d) (f : FileNo) where
  abbrev rest_of : Option ℕ → List (Lookup (List Hit))
  rest_of e = flat_map (tiers lib x) (way_from d f e)

  pub record IsOnWay (from : Option ℕ) (start : LinkTrail Hit) (at : Option ℕ) (here : LinkTrail Hit) : Type 0 where
    pub on : (b : Bool) (new : LinkTrail Hit) → Tried w (rest_of at) b here new → Tried w (rest_of from) b start new

  pub way_begins : (from : Option ℕ) (start : LinkTrail Hit) → IsOnWay from start from start
  way_begins from start = record { on = λ b new h. h }

  pub way_next : (from : Option ℕ) (start here mid : LinkTrail Hit) (e : ℕ) (z : Element) → slice_get d.elements e ≡ Some z → IsOnWay from start (Some e) here
      → Tried w (tiers lib x (record { file = f; index = e })) false here mid → IsOnWay from start z.owner mid
  way_next from start here mid e z at h p = record {
    on = λ b new q. h.on b new (subst (λ ns. Tried w (flat_map (tiers lib x) ns) b here new) (sym (way_on d is f e z at))
        (tried_on w (tiers lib x (record { file = f; index = e })) (rest_of z.owner) b here mid new p q));
  }

  pub way_decides : (from : Option ℕ) (start here mid : LinkTrail Hit) (e : ℕ) (z : Element) → slice_get d.elements e ≡ Some z → IsOnWay from start
      (Some e) here
      → Tried w (tiers lib x (record { file = f; index = e })) true here mid → Tried w (rest_of from) true start mid
  way_decides from start here mid e z at h p = h.on true mid (subst (λ ns. Tried w (flat_map (tiers lib x) ns) true here mid) (sym (way_on d is f e z at))
      (tried_end w (tiers lib x (record { file = f; index = e })) (rest_of z.owner) here mid p))

  pub way_ends : (from : Option ℕ) (start here : LinkTrail Hit) → IsOnWay from start None here → Tried w (rest_of from) false start here
  way_ends from start here h = h.on false here (tried_none w here)

-- an owner stands where its element does, and the way is shorter from it
pub owner_within : (o : Option ℕ) (i n : ℕ) → IfSome o (λ p. p < i) → i < n → IfSome o (λ p. p < n)
owner_within None i n lt few = tt
owner_within (Some p) i n lt few = omega (arith, lt, few)

pub owner_nearer : (o at : Option ℕ) (i : ℕ) → at ≡ Some i → IfSome o (λ p. p < i) → option_map_or suc o 0 < option_map_or suc at 0
owner_nearer o at i e lt = subst (λ z. option_map_or suc o 0 < option_map_or suc z 0) (sym e) (by o lt)
  where
    by : (o : Option ℕ) → IfSome o (λ p. p < i) → option_map_or suc o 0 < suc i
    by None lt = omega arith
    by (Some p) lt = omega (arith, lt)
