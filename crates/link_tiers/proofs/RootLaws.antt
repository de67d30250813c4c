-- The members of roots, and where a member leads.
use Rattle.std.proofs.Common.{◌≡◌, ◌∙◌, ℕ, ◌<◌, Bool, List, [], ◌∷◌, ◌++◌, map, length, refl, sym, ap, subst, inl, inr, arith, append-nil, zero-add, nat_eq, not}
use Rattle.std.specs.Prelude.{◌&&◌, Option, None, Some, IfSome, slice_get}
use Rattle.std.specs.List.{flat_map}
use Rattle.linker_base.specs.Members.{IsMember, SameMembers}
use Rattle.linker_base.proofs.MemberLaws.{member_cases, same_members, member_left, member_right}
use Rattle.demand_core.specs.Computation.{done, look, then_step, ◌>>=◌, IsSound, IsRegular}
use Rattle.demand_core.specs.Search.{IsStep, IsAsked}
use Rattle.demand_core.specs.declared.looks.Fact.{Fact}
use Rattle.demand_core.specs.declared.step.Step.{Step}
use Rattle.demand_core.specs.declared.step.Step.TheVariants.{Done, Waits}
use Rattle.demand_core.proofs.ComputationLaws.{regular_done, regular_then, regular_look}
use Rattle.element_store.specs.declared.numbers.ElementNo.{ElementNo}
use Rattle.element_store.specs.declared.numbers.FileNo.{FileNo}
use Rattle.element_store.specs.declared.numbers.MemberNo.{MemberNo}
use Rattle.element_store.specs.declared.records.Member.{Member}
use Rattle.element_store.specs.declared.records.Target.{Target}
use Rattle.element_store.specs.declared.records.Target.TheVariants.{Owned, Alias}
use Rattle.element_store.specs.declared.models.StoredFile.{StoredFile}
use Rattle.element_store.specs.BaseRules.{StandsIn, model_of}
use Rattle.element_store.specs.Model.{Data, bears}
use Rattle.element_store.specs.Numbers.{numbers_from, those_where}
use Rattle.element_store.proofs.NumberLaws.{numbers_below}
use Rattle.link_model.specs.declared.keys.LinkKey.{LinkKey}
use Rattle.link_model.specs.declared.keys.LinkFact.{LinkFact}
use Rattle.link_model.specs.declared.keys.LinkFact.TheVariants.{File}
use Rattle.link_model.specs.declared.keys.Hit.{Hit}
use Rattle.link_model.specs.Keys.{same_key}
use Rattle.link_model.specs.Lexical.{member_hit}
use Rattle.link_model.specs.Linking.{MemberStands}
use Rattle.link_model.specs.Names.{leads_to, hit, member_element}
use Rattle.link_model.specs.Outside.{Numbered, numbered_from, in_rank, root_members, project_roots, library_roots, model_in, is_public}
use Rattle.link_model.specs.Readers.{Lookup, LinkWorld, listed, told, model, key}
use Rattle.link_model.proofs.EditLaws.{among_where, among_rank, among_numbered}
use Rattle.link_model.proofs.TameLaws.{target_tame}
use Rattle.link_walk.specs.Marks.{marked_all, same_fact}
use Rattle.link_walk.specs.Noted.{Noted, Asks, LinkTrail, noted, Tells, TellsStep, waits_of, trail_of}
use Rattle.root_names.proofs.PutLaws.{among_flat}
use Rattle.link_tiers.specs.Tiers.{AreFound, AreHits, Joins}
use Rattle.link_tiers.proofs.AnsweredLaws.{keys_joined, same_equal}
use Rattle.link_tiers.proofs.PartLaws.{joins_asked}

-- MEMBERS OF ROOTS stand
map_back : {A B : Type 0} (f : A → B) (xs : List A) (y : B) → IsMember (map f xs) y → (x : A) × IsMember xs x × (f x ≡ y)
map_back f [] y m = absurd m
map_back f (x ∷ xs) y (inl e) = (x, inl refl, e)
map_back f (x ∷ xs) y (inr m) = let more = map_back f xs y m in (more.0, inr more.1, more.2)

member_in : (files : List StoredFile) (x : List ℕ) (s : Numbered) (m : MemberNo) → slice_get files s.number.0 ≡ Some s.file → IsMember (root_members x s) m
    → MemberStands files m
member_in files x s m at among = by s.file.model refl
  where
    by : (o : Option Data) → s.file.model ≡ o → MemberStands files m
    by None e =
        let none : IsMember (map (λ (k : ℕ). number_of k) []) m = subst (λ (o : Option Data). IsMember (map number_of (numbers_from 0 passes
        (members_in_model o))) m) e among in
        absurd none
      where
        number_of : ℕ → MemberNo
        number_of k = record { file = s.number; index = k }

        passes : Member → Bool
        passes n = nat_eq n.owner 0 && is_public n.visibility && bears x n

        members_in_model : Option Data → List Member
        members_in_model o = (model_in (Some (record s.file { model = o }))).members
    by (Some d) e =
        let b = map_back (λ (k : ℕ). record { file = s.number; index = k }) (numbers_from 0 (λ n. nat_eq n.owner 0 && is_public n.visibility && bears x n)
        (model_in (Some s.file)).members) m among in
        let lt : b.0 < length (model_in (Some s.file)).members = numbers_below (λ n. nat_eq n.owner 0 && is_public n.visibility && bears x n) 0 (length
        (model_in (Some s.file)).members) (model_in (Some s.file)).members b.0
        (zero-add (length (model_in (Some s.file)).members)) b.1 in
        subst (MemberStands files) b.2 (
          d,
          of_model at e,
          subst (λ (o : Option Data). b.0 < length (model_in (Some
              (record s.file { model = o }))).members) e lt,
        )
      where
        of_model : slice_get files s.number.0 ≡ Some s.file → s.file.model ≡ Some d → model_of files s.number.0 ≡ Some d
        of_model at e = rw at e

roots_in_rank : (files : List StoredFile) (x : List ℕ) (test : Numbered → Bool) (m : MemberNo) → IsMember (flat_map (root_members x) (those_where test
    (in_rank (numbered_from 0 files)))) m
    → MemberStands files m
roots_in_rank files x test m among =
    let f = among_flat (root_members x) (those_where test (in_rank (numbered_from 0 files))) m among in
    let n = among_numbered files 0 f.0 (among_rank (numbered_from 0 files) f.0 (among_where test (in_rank (numbered_from 0 files)) f.0 f.1).0) in
    let place : n.0 ≡ f.0.number.0 = (let e = n.1 in omega arith) in
    member_in files x f.0 m (subst (λ k. slice_get files k ≡ Some f.0.file) place n.2) f.2

pub project_stand : (files : List StoredFile) (x : List ℕ) (ms : List MemberNo) → ms ≡ project_roots files x → (m : MemberNo) → IsMember ms m
    → MemberStands files m
project_stand files x ms e m among = roots_in_rank files x (λ s. not s.file.library) m (subst (λ z. IsMember z m) e among)

pub library_stand : (files : List StoredFile) (x : List ℕ) (ms : List MemberNo) → ms ≡ library_roots files x → (m : MemberNo) → IsMember ms m
    → MemberStands files m
library_stand files x ms e m among = roots_in_rank files x (λ s. s.file.library) m (subst (λ z. IsMember z m) e among)

-- WHERE A MEMBER LEADS, and its hit
abbrev hit_at : MemberNo → ElementNo → Hit
hit_at m e = record { member = m; element = e }

abbrev mapped : MemberNo → Step LinkKey (List ElementNo) → Step LinkKey (List Hit)
mapped m (Done es) = Done (map (hit_at m) es)
mapped m (Waits ks) = Waits ks

hit_told : (w : LinkWorld) (m : MemberNo) (o : Option Member) → ((told o (hit m.file m.index) w).step ≡ mapped m (told o
    (λ x. leads_to m.file x.target) w).step)
    × ((told o (hit m.file m.index) w).looks ≡ (told o (λ x. leads_to m.file x.target) w).looks)
hit_told w m None = (refl, refl)
hit_told w m (Some x) = by (leads_to m.file x.target w).step (leads_to m.file x.target w).looks
  where
    by : (step : Step LinkKey (List ElementNo)) (ls : List (Fact LinkKey LinkFact))
        → ((then_step (record { step = step; looks = ls }) (λ es. done (map (hit_at m) es) w) step).step ≡ mapped m step)
        × ((then_step (record { step = step; looks = ls }) (λ es. done (map (hit_at m) es) w) step).looks ≡ ls)
    by (Done es) ls = (refl, append-nil ls)
    by (Waits ks) ls = (refl, refl)

hit_step : (w : LinkWorld) (m : MemberNo) → (member_hit m w).step ≡ mapped m (member_element m w).step
hit_step w m = (hit_told w m (slice_get (model_in (w.outer (File m.file))).members m.index)).0

hit_looks : (w : LinkWorld) (m : MemberNo) → (member_hit m w).looks ≡ (member_element m w).looks
hit_looks w m = ap (λ z. (model m.file w).looks ++ z) (hit_told w m (slice_get (model_in (w.outer (File m.file))).members m.index)).1

leads_regular : (f : FileNo) (t : Target) → IsRegular (leads_to f t)
leads_regular f (Owned e) = regular_done (record { file = f; index = e } ∷ [])
leads_regular f (Alias r) = (target_tame (key f r)).regular

told_regular : (m : MemberNo) (o : Option Member) → IsRegular (told o (λ x. leads_to m.file x.target))
told_regular m None = regular_done []
told_regular m (Some x) = leads_regular m.file x.target

element_regular : (m : MemberNo) → IsRegular (member_element m)
element_regular m = regular_then (model m.file) (λ d. told (slice_get d.members m.index) (λ x. leads_to m.file x.target))
    (regular_then (look (File m.file)) (λ s. done (model_in s)) (regular_look (File m.file)) (λ s. regular_done (model_in s))) (λ d. told_regular m
    (slice_get d.members m.index))

-- the hit of a member is added, where it leads somewhere
pub joins_member : (w : LinkWorld) (m : MemberNo) (o : Option ElementNo) (found : List Hit) (old new : Noted) → Tells (member_element m w) o old new
    → Joins w (member_hit m) (trail_of [] found old) (trail_of [] (found ++ map (hit_at m) (listed o)) new)
joins_member w m o found old new h =
    joins_asked w (member_hit m) (record {
      nodes = [];
      found = map (hit_at m) (listed o);
      waits = waits_of (member_element m w).step;
      looks =
          (member_element m w).looks;
    })
    (trail_of [] found old) (trail_of [] (found ++ map (hit_at m) (listed o)) new) (record {
      step = subst (IsStep (map (hit_at m) (listed o)) (waits_of (member_element m w).step)) (sym (hit_step w m))
          (by (member_element m w).step (member_element m w).looks ((element_regular m).sound w) h.step);
      looks = same_equal (member_element m w).looks (member_hit m w).looks (sym (hit_looks w m));
    }) refl (ap (λ (n : Noted). n.waits) h.noted) (ap (λ (n : Noted). n.looks) h.noted)
  where
    by : (step : Step LinkKey (List ElementNo)) (ls : List (Fact LinkKey LinkFact)) → IsSound w.table step ls → TellsStep step o
        → IsStep (map (hit_at m) (listed o)) (waits_of step) (mapped m step)
    by (Done es) ls sound t = subst (λ z. SameMembers (map (hit_at m) (listed o)) (map (hit_at m) z)) (sym t) (same_members (map (hit_at m) (listed o)))
    by (Waits []) ls sound t = absurd (sound.0 refl)
    by (Waits (k ∷ ks)) ls sound t = same_members (k ∷ ks)

-- what is noted more waits on no less
pub waits_before : (old more all : List LinkKey) → all ≡ marked_all same_key old more → all ≡ [] → (old ≡ []) × (more ≡ [])
waits_before old more all is none = (no_one old (λ k m. member_left old more k m), no_one more (λ k m. member_right old more k m))
  where
    no_one : (ks : List LinkKey) → ((k : LinkKey) → IsMember ks k → IsMember (old ++ more) k) → ks ≡ []
    no_one [] h = refl
    no_one (k ∷ ks) h =
        let there : IsMember (marked_all same_key old more) k = (keys_joined old more).right k (h k (inl refl)) in
        absurd (subst (λ z. IsMember z k) (sym is ∙ none) there)

-- hits that are added stand
pub hits_more : (files : List StoredFile) (xs ys : List Hit) → AreHits files xs → AreHits files ys → AreHits files (xs ++ ys)
hits_more files xs ys p q = λ h m. elim (member_cases xs ys h m) [ inl a ↦ p h a | inr b ↦ q h b ]

pub hit_stands : (files : List StoredFile) (m : MemberNo) (e : ElementNo) → MemberStands files m → StandsIn files e → AreHits files (hit_at m e ∷ [])
hit_stands files m e p q = λ h. elim [ inl is ↦ subst (λ (z : Hit). MemberStands files z.member × StandsIn files z.element) is (p, q) | inr none ↦ absurd none ]

module _ (w : LinkWorld) (m : MemberNo) (o : Option ElementNo) (found : List Hit) (old new : Noted) (start end : LinkTrail Hit)
    (begins : trail_of [] found old ≡ start)
    (ends : end ≡ trail_of [] (found ++ map (hit_at m) (listed o)) new) (told : Tells (member_element m w) o old new) where
  pub joins_led : Joins w (member_hit m) start end
  joins_led = subst (λ z. Joins w (member_hit m) z end) begins (subst (Joins w (member_hit m) (trail_of [] found old)) (sym ends)
      (joins_member w m o found old new told))

  pub found_led : (files : List StoredFile) → MemberStands files m → IfSome o (StandsIn files) → AreFound files start → AreFound files end
  found_led files p q before none =
      let waits : new.waits ≡ [] = sym (ap (λ (t : LinkTrail Hit). t.waits) ends) ∙ none in
      let past = (waits_before old.waits (waits_of (member_element m w).step) new.waits (ap (λ (n : Noted). n.waits) told.noted) waits).0 in
      let first : AreHits files found = subst (AreHits files) (sym (ap (λ (t : LinkTrail Hit). t.found) begins)) (before (sym (ap (λ
      (t : LinkTrail Hit). t.waits) begins) ∙ past)) in
      subst (AreHits files) (sym (ap (λ (t : LinkTrail Hit). t.found) ends)) (hits_more files found (map (hit_at m) (listed o)) first (one o q))
    where
      one : (o : Option ElementNo) → IfSome o (StandsIn files) → AreHits files (map (hit_at m) (listed o))
      one None q = λ h none. absurd none
      one (Some e) q = hit_stands files m e p q
