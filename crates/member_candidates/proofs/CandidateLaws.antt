-- The candidates of a type, by the tables of its model.
use Rattle.std.proofs.Common.{◌≡◌, ℕ, ◌+◌, Bool, true, false, cond, List, [], ◌∷◌, ◌++◌, refl, sym, ◌∙◌, ap, subst, inl, inr, arith, zero-add}
use Rattle.std.proofs.lemmas.Bool.Decides.{nat_tests}
use Rattle.std.specs.Prelude.{◌⊎◌, ◌&&◌, nat_eq, map, slice_get, Option, None, Some}
use Rattle.linker_base.specs.Members.{IsMember, SameMembers}
use Rattle.linker_base.proofs.Cases.{bool_cases, both_true, and_true}
use Rattle.linker_base.proofs.MemberLaws.{member_map}
use Rattle.demand_core.specs.Alike.{Alike}
use Rattle.demand_core.specs.Rules.{WaitsOn}
use Rattle.demand_core.specs.Computation.{Asked, done, then_step, ◌>>=◌, join, joined, IsSound}
use Rattle.demand_core.specs.Search.{Part, Finds, Awaits, LooksAt, Has, MayHave, Shows, Admits, Aside}
use Rattle.demand_core.specs.declared.looks.Fact.{Fact}
use Rattle.demand_core.specs.declared.looks.Fact.TheVariants.{Outer}
use Rattle.demand_core.specs.declared.step.Step.{Step}
use Rattle.demand_core.specs.declared.step.Step.TheVariants.{Done, Waits}
use Rattle.demand_core.proofs.AlikeLaws.{alike_parts}
use Rattle.demand_core.proofs.ComputationLaws.{regular_done, regular_then}
use Rattle.demand_core.proofs.PartLaws.{shows_nothing, shows_join, shows_joined, shows_then, admits_left, admits_right, admits_joined, admits_first, admits_then}
use Rattle.element_store.specs.declared.numbers.FileNo.{FileNo}
use Rattle.element_store.specs.declared.numbers.ElementNo.{ElementNo}
use Rattle.element_store.specs.declared.outcome.Outcome.{Outcome}
use Rattle.element_store.specs.declared.records.Member.{Member}
use Rattle.element_store.specs.declared.models.StoredFile.{StoredFile}
use Rattle.element_store.specs.Condition.{IsModel, members_of}
use Rattle.element_store.specs.Model.{Data, bears, bearers}
use Rattle.element_store.specs.Readings.{is_redefining, redefining_of}
use Rattle.link_model.specs.declared.keys.LinkKey.{LinkKey}
use Rattle.link_model.specs.declared.keys.LinkFact.{LinkFact}
use Rattle.link_model.specs.declared.keys.LinkFact.TheVariants.{File}
use Rattle.link_model.specs.declared.keys.Hit.{Hit}
use Rattle.link_model.specs.Keys.{same_element}
use Rattle.link_model.specs.Outside.{model_in, is_private}
use Rattle.link_model.specs.Readers.{LinkWorld, Lookup, told, model, of_members}
use Rattle.link_model.specs.Names.{hit, declared_hit, effective_hit}
use Rattle.link_model.specs.Inheritance as inheritance
use Rattle.link_model.specs.Inheritance.{candidate}
use Rattle.link_model.proofs.TameLaws.{candidate_stage_tame}
use Rattle.link_walk.specs.Calls.{reading}
use Rattle.owned_names.proofs.SkipLaws.{nothing_part}
use Rattle.feature_facts.specs.Stages.{told_of, as_candidate}
use Rattle.member_candidates.specs.Stages.{candidate_at, open_hit, open_effective, open_members}
use Rattle.feature_facts.specs.declared.heir.Candidate.{Candidate}
use Rattle.feature_facts.proofs.TableLaws.{number_at, number_here}
use Rattle.member_candidates.proofs.OpenLists.{open_members_regular}
use Rattle.feature_facts.proofs.PartNames.{shows_admits, Maps, shows_map, admits_map, cond_true, cond_false, shows_if, shows_unless}

abbrev ready : {A : Type 0} → A → Step LinkKey A
ready x = Done x

-- hits that are pushed as candidates
pub pushed_is : (s : ElementNo) (found : List Candidate) (hits : List Hit) → map as_candidate (found ++ map (candidate_at s) hits)
    ≡ map as_candidate found ++ map (λ h. record { owner = s; hit = h }) hits
pushed_is s [] [] = refl
pushed_is s [] (h ∷ hits) = ap (λ cs. record { owner = s; hit = h } ∷ cs) (pushed_is s [] hits)
pushed_is s (c ∷ found) hits = ap (λ cs. as_candidate c ∷ cs) (pushed_is s found hits)

-- THE CANDIDATES OF A TYPE
module _ (files : List StoredFile) (table : List (LinkKey × Outcome)) (s : ElementNo) (d : Data) (there : model_in (slice_get files s.file.0) ≡ d)
    (whole : IsModel d) (x : List ℕ) where
  abbrev w : LinkWorld
  w = reading files table

  abbrev f : FileNo
  f = s.file

  abbrev HitPart : Type 0
  HitPart = Part LinkKey LinkFact Hit

  abbrev tables : Data → Lookup (List Hit)
  tables m = join (joined (told_of m (open_hit f)) (bearers m.members s.index x)) (joined (told_of m (open_effective x f)) (redefining_of m s.index))

  abbrev both_hits : ℕ → Member → Lookup (List Hit)
  both_hits k m = join (declared_hit x f k m) (effective_hit x f k m)

  abbrev a_candidate : Hit → inheritance.Candidate
  a_candidate h = record { owner = s; hit = h }

  model_done : (model f w).step ≡ Done d
  model_done = ap (λ (m : Data). ready m) there

  in_tables : (z : HitPart) → Admits (tables d w) z → Admits (open_members x s w) z
  in_tables z h = admits_then w (model f) tables d z model_done h

  told_admits : {B : Type 0} (c : ℕ → Member → Lookup (List B)) (k : ℕ) (m : Member) (z : Part LinkKey LinkFact B) → slice_get d.members k ≡ Some m
      → Admits (c k m w) z → Admits (told_of d c k w) z
  told_admits c k m z at h = subst (λ (o : Option Member). Admits (told o (c k) w) z) (sym at) h

  told_shows : {B : Type 0} (c : ℕ → Member → Lookup (List B)) (k : ℕ) (m : Member) (z : Part LinkKey LinkFact B) → slice_get d.members k ≡ Some m
      → Shows (told_of d c k w) z → Shows (c k m w) z
  told_shows c k m z at h = subst (λ (o : Option Member). Shows (told o (c k) w) z) at h

  -- what a member gives under its declared names
  by_name : (k : ℕ) (m : Member) (z : HitPart) → slice_get d.members k ≡ Some m → nat_eq m.owner s.index ≡ true → is_private m.visibility ≡ false
      → Shows (declared_hit x f k m w) z → Admits (open_members x s w) z
  by_name k m z at own open_one h =
      let b = shows_if w (bears x m) (hit f k m) z h in
      in_tables z (admits_left w (joined (told_of d (open_hit f)) (bearers d.members s.index x))
      (joined (told_of d (open_effective x f)) (redefining_of d s.index)) z
      (admits_joined w (told_of d (open_hit f)) (bearers d.members s.index x) k z
      (number_here (λ n. nat_eq n.owner s.index && bears x n) d.members k m at (and_true (nat_eq m.owner s.index) (bears x m) own b.0))
      (told_admits (open_hit f) k m z at (cond_false w (is_private m.visibility) (done []) (hit f k m) z open_one (shows_admits (hit f k m w) z b.1)))))

  -- and by a redefinition; without one it only looks at the file
  by_redefinition : (k : ℕ) (m : Member) (z : HitPart) → slice_get d.members k ≡ Some m → nat_eq m.owner s.index ≡ true → is_private m.visibility ≡ false
      → Shows (effective_hit x f k m w) z → Admits (open_members x s w) z
  by_redefinition k m z at own open_one h = elim (bool_cases (is_redefining d.references m.target)) [
    | inl does ↦ in_tables z (admits_right w (joined (told_of d (open_hit f)) (bearers d.members s.index x))
        (joined (told_of d (open_effective x f)) (redefining_of d s.index)) z
        (admits_joined w (told_of d (open_effective x f)) (redefining_of d s.index) k z
        (number_here (λ n. nat_eq n.owner s.index && is_redefining d.references n.target) d.members k m at
        (and_true (nat_eq m.owner s.index) (is_redefining d.references m.target) own does))
        (told_admits (open_effective x f) k m z at (cond_false w (is_private m.visibility) (done []) (effective_hit x f k m) z open_one
        (shows_admits (effective_hit x f k m w) z h)))))
    | inr doesnt ↦
        let nothing = nothing_part files table f d there whole x k m at doesnt in
        only_look nothing.step nothing.looks z (subst (λ (o : Option Member). Shows (told o (effective_hit x f k) w) z) (sym at) h)
  ]
    where
      only_look : (told (slice_get d.members k) (effective_hit x f k) w).step ≡ Done []
          → ((y : Fact LinkKey LinkFact) → IsMember (told (slice_get d.members k) (effective_hit x f k) w).looks y → Outer (File f) ≡ y)
          → (z : HitPart) → Shows (told (slice_get d.members k) (effective_hit x f k) w) z → Admits (open_members x s w) z
      only_look step looks (Finds y) m = absurd (subst (λ t. Has t y) step m)
      only_look step looks (Awaits q) m = absurd (subst (λ t. WaitsOn t q) step m)
      only_look step looks (LooksAt g) m = admits_first w (model f) tables (LooksAt g) (inl (looks g m))

  -- every candidate comes by the tables
  candidate_in : (y : Part LinkKey LinkFact inheritance.Candidate) → Shows (of_members (candidate x s) s w) y
      → Admits ((open_members x s >>= λ hs. done (map a_candidate hs)) w) y
  candidate_in y h = elim (shows_then w (model f) (λ m. joined (told_of m (candidate x s)) (members_of m s.index)) y h) [
    | inl aside ↦ beside y aside
    | inr e ↦
        let same : e.0 ≡ d = sym (done_is d e.0 (sym model_done ∙ e.1)) in
        let j = shows_joined w (told_of d (candidate x s)) (members_of d s.index) y
        (subst (λ (m : Data). Shows (joined (told_of m (candidate x s)) (members_of m s.index) w) y) same e.2) in
        let p = number_at 0 (λ n. nat_eq n.owner s.index) d.members j.0 j.1 in
        let at : slice_get d.members j.0 ≡ Some p.1 = subst (λ i. slice_get d.members i ≡ Some p.1) (omega (arith, p.2)) p.3 in
        let u = shows_unless w (is_private p.1.visibility) (both_hits j.0 p.1 >>= λ hs. done (map a_candidate hs)) y
        (told_shows (candidate x s) j.0 p.1 y at j.2) in
        let z = shows_map w a_candidate (both_hits j.0 p.1) y u.1 in
        admits_map w a_candidate (open_members x s) z.0 y z.2 (elim (shows_join w (declared_hit x f j.0 p.1) (effective_hit x f j.0 p.1) z.0 z.1) [
          | inl one ↦ by_name j.0 p.1 z.0 at p.4 u.0 one
          | inr two ↦ by_redefinition j.0 p.1 z.0 at p.4 u.0 two
        ])
  ]
    where
      done_is : (m n : Data) → ready m ≡ ready n → m ≡ n
      done_is m n e = cc

      beside : (y : Part LinkKey LinkFact inheritance.Candidate) → Aside (model f w) y
          → Admits ((open_members x s >>= λ hs. done (map a_candidate hs)) w) y
      beside (Finds c) a = absurd a
      beside (Awaits k) a = absurd a
      beside (LooksAt g) a = admits_map w a_candidate (open_members x s) (LooksAt g) (LooksAt g) refl (admits_first w (model f) tables (LooksAt g) a)

  -- what the tables give a member gives
  in_member : (k : ℕ) (m : Member) (z : HitPart) (y : Part LinkKey LinkFact inheritance.Candidate) → Maps a_candidate z y
      → slice_get d.members k ≡ Some m → nat_eq m.owner s.index ≡ true → is_private m.visibility ≡ false
      → Admits (both_hits k m w) z → Admits (of_members (candidate x s) s w) y
  in_member k m z y maps at own open_one h =
      admits_then w (model f) (λ n. joined (told_of n (candidate x s)) (members_of n s.index)) d y model_done
      (admits_joined w (told_of d (candidate x s)) (members_of d s.index) k y (number_here (λ n. nat_eq n.owner s.index) d.members k m at own)
      (told_admits (candidate x s) k m y at (cond_false w (is_private m.visibility) (done []) (both_hits k m >>= λ hs. done (map a_candidate hs)) y open_one
      (admits_map w a_candidate (both_hits k m) z y maps h))))

  from_tables : (z : HitPart) (y : Part LinkKey LinkFact inheritance.Candidate) → Maps a_candidate z y → Shows (tables d w) z
      → Admits (of_members (candidate x s) s w) y
  from_tables z y maps h = elim (shows_join w (joined (told_of d (open_hit f)) (bearers d.members s.index x))
      (joined (told_of d (open_effective x f)) (redefining_of d s.index)) z h) [
        | inl one ↦
            let j = shows_joined w (told_of d (open_hit f)) (bearers d.members s.index x) z one in
            let p = number_at 0 (λ n. nat_eq n.owner s.index && bears x n) d.members j.0 j.1 in
            let at : slice_get d.members j.0 ≡ Some p.1 = subst (λ i. slice_get d.members i ≡ Some p.1) (omega (arith, p.2)) p.3 in
            let two = both_true (nat_eq p.1.owner s.index) (bears x p.1) p.4 in
            let u = shows_unless w (is_private p.1.visibility) (hit f j.0 p.1) z (told_shows (open_hit f) j.0 p.1 z at j.2) in
            in_member j.0 p.1 z y maps at two.0 u.0 (admits_left w (declared_hit x f j.0 p.1) (effective_hit x f j.0 p.1) z
            (cond_true w (bears x p.1) (hit f j.0 p.1) (done []) z two.1 (shows_admits (hit f j.0 p.1 w) z u.1)))
        | inr more ↦
            let j = shows_joined w (told_of d (open_effective x f)) (redefining_of d s.index) z more in
            let p = number_at 0 (λ n. nat_eq n.owner s.index && is_redefining d.references n.target) d.members j.0 j.1 in
            let at : slice_get d.members j.0 ≡ Some p.1 = subst (λ i. slice_get d.members i ≡ Some p.1) (omega (arith, p.2)) p.3 in
            let two = both_true (nat_eq p.1.owner s.index) (is_redefining d.references p.1.target) p.4 in
            let u = shows_unless w (is_private p.1.visibility) (effective_hit x f j.0 p.1) z (told_shows (open_effective x f) j.0 p.1 z at j.2) in
            in_member j.0 p.1 z y maps at two.0 u.0 (admits_right w (declared_hit x f j.0 p.1) (effective_hit x f j.0 p.1) z
            (shows_admits (effective_hit x f j.0 p.1 w) z u.1))
      ]

  candidate_out : (y : Part LinkKey LinkFact inheritance.Candidate) → Shows ((open_members x s >>= λ hs. done (map a_candidate hs)) w) y
      → Admits (of_members (candidate x s) s w) y
  candidate_out y h =
      let z = shows_map w a_candidate (open_members x s) y h in
      elim (shows_then w (model f) tables z.0 z.1) [
        | inl aside ↦ beside z.0 y z.2 aside
        | inr e ↦
            let same : e.0 ≡ d = sym (done_is d e.0 (sym model_done ∙ e.1)) in
            from_tables z.0 y z.2 (subst (λ (m : Data). Shows (tables m w) z.0) same e.2)
      ]
    where
      done_is : (m n : Data) → ready m ≡ ready n → m ≡ n
      done_is m n e = cc

      beside : (z : HitPart) (y : Part LinkKey LinkFact inheritance.Candidate) → Maps a_candidate z y → Aside (model f w) z
          → Admits (of_members (candidate x s) s w) y
      beside (Finds c) y maps a = absurd a
      beside (Awaits k) y maps a = absurd a
      beside (LooksAt g) (Finds c) maps a = absurd maps
      beside (LooksAt g) (Awaits k) maps a = absurd maps
      beside (LooksAt g) (LooksAt l) maps a = admits_first w (model f) (λ m. joined (told_of m (candidate x s)) (members_of m s.index)) (LooksAt l)
          (subst (IsMember (model f w).looks) maps a)

  -- STAGE TWO of one type
  pub candidates_alike : (t : ElementNo) → same_element s t ≡ false
      → Alike ((open_members x s >>= λ hs. done (map a_candidate hs)) w) (of_members (candidate x s) s w)
  candidates_alike t other =
      alike_parts w.table _ (of_members (candidate x s) s w)
      ((regular_then (open_members x s) (λ hs. done (map a_candidate hs)) (open_members_regular x s) (λ hs. regular_done (map a_candidate hs))).sound w)
      (subst (λ b. IsSound w.table (cond b (done []) (of_members (candidate x s) s) w).step (cond b (done []) (of_members (candidate x s) s) w).looks) other
      ((candidate_stage_tame x t s).regular.sound w))
      candidate_out candidate_in
