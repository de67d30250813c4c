-- What the lookups give stands in the models: over a table whose outcomes name what stands, so does each outcome.
use Rattle.std.proofs.Common.{◌≡◌, ℕ, ◌<◌, ◌≤◌, ◌-◌, Bool, true, false, cond, List, [], ◌∷◌, ◌++◌, refl, sym, ap, subst, inl, inr, arith, zero-add}
use Rattle.std.proofs.lemmas.Bool.Decides.{nat_tests}
use Rattle.std.specs.Prelude.{zero, suc, not, ◌||◌, ◌&&◌, nat_eq, nat_lt, map, length, drop, get_or, slice_get, Option, None, Some}
use Rattle.std.specs.List.{flat_map}
use Rattle.std.specs.Cmp.Lexicographic.{pointwise}
use Rattle.linker_base.specs.Members.{IsMember}
use Rattle.linker_base.proofs.MemberLaws.{member_left, member_right, member_cases}
use Rattle.demand_core.specs.Rules.{AllFit}
use Rattle.demand_core.specs.Tables.{Decided}
use Rattle.demand_core.specs.Computation.{done, read, read_step, look, then_step, ◌>>=◌, both, join_step, join, joined}
use Rattle.demand_core.specs.Computed.{world}
use Rattle.demand_core.specs.declared.step.Step.{Step}
use Rattle.demand_core.specs.declared.step.Step.TheVariants.{Done, Waits}
use Rattle.element_store.specs.declared.numbers.FileNo.{FileNo}
use Rattle.element_store.specs.declared.numbers.ElementNo.{ElementNo}
use Rattle.element_store.specs.declared.numbers.MemberNo.{MemberNo}
use Rattle.element_store.specs.declared.numbers.RefNo.{RefNo}
use Rattle.element_store.specs.declared.outcome.Role.{Role}
use Rattle.element_store.specs.declared.outcome.Role.TheVariants as role
use Rattle.element_store.specs.declared.outcome.Outcome.{Outcome}
use Rattle.element_store.specs.declared.outcome.Outcome.TheVariants.{Linked, Absent, Ambiguous, Hidden, Cyclic}
use Rattle.element_store.specs.declared.records.Element.{Element}
use Rattle.element_store.specs.declared.records.Member.{Member}
use Rattle.element_store.specs.declared.records.Import.{Import}
use Rattle.element_store.specs.declared.records.Reference.{Reference}
use Rattle.element_store.specs.declared.records.Target.{Target}
use Rattle.element_store.specs.declared.records.Target.TheVariants.{Owned, Alias}
use Rattle.element_store.specs.declared.models.StoredFile.{StoredFile}
use Rattle.element_store.specs.Kinds.{is_type}
use Rattle.element_store.specs.Numbers.{chosen, numbers_from, those_where}
use Rattle.element_store.specs.Model.{Data, root_element, bears}
use Rattle.element_store.specs.Condition.{IsModel, members_of, imports_of, member_stands, target_stands, Owning, owning, owned_from, IsOwnedOnce}
use Rattle.element_store.specs.Stored.{AreFiles}
use Rattle.element_store.specs.BaseRules.{model_of}
use Rattle.element_store.proofs.ModelLaws.{all_at}
use Rattle.element_store.proofs.NumberLaws.{numbers_below}
use Rattle.link_model.specs.declared.keys.LinkKey.{LinkKey}
use Rattle.link_model.specs.declared.keys.Hit.{Hit}
use Rattle.link_model.specs.declared.keys.LinkFact.TheVariants.{File, RootName}
use Rattle.link_model.specs.Keys.{same_element, is_in}
use Rattle.link_model.specs.Outside.{Library, model_in, is_public, is_private, seen_in}
use Rattle.link_model.specs.Readers.{Lookup, LinkWorld, is_nil, only_if, is_named, told, first_of, model, element, most, of_members, key, led_to, target}
use Rattle.link_model.specs.Names.{declared_names, names, leads_to, hit, declared_hit, hit_named, effective_hit, declared, effective}
use Rattle.link_model.specs.Inheritance.{Candidate, Redefines, Removal, candidate, candidates, redefiners, removals, is_redefined_elsewhere, reached, unblocked, stays, inherited, inherited_tier}
use Rattle.link_model.specs.Imports.{owns, owning_hit, last_written, under_name, narrowed, brought, import_tier, in_owned, inside, own_tiers, visible_from, visible}
use Rattle.link_model.specs.Lexical.{Ranked, ranked_by, is_before, lesser, least_of, ranked_hits, Picked, picked_with, picked_from, pick, outward, member_hit, project_tier, library_tier, imports_of_all, imports_before, tiers, last_tiers, lexical}
use Rattle.link_model.specs.Lexical.Picked.{Nothing, One, Several}
use Rattle.link_model.specs.Asking.{is_library, Course, behind, unseen, hidden_by, linked_with, linked, outcome_of, met, in_model, nothing_visible, later, along, from_owner, from_body, start, first_tiers, course_from, course, ask, find_by}
use Rattle.link_model.specs.Asking.Course.{Reached, Ended}
use Rattle.link_model.specs.Linking.{sorted_step, rule, ElementStands, MemberStands, Fits}

-- each of the list
pub record All {A : Type 0} (P : A → Type 0) (xs : List A) : Type 0 where
  pub each : (x : A) → IsMember xs x → P x

all_none : {A : Type 0} {P : A → Type 0} → All P []
all_none = record { each = λ x m. absurd m }

all_of : {A : Type 0} {P : A → Type 0} (x : A) (xs : List A) → P x → All P xs → All P (x ∷ xs)
all_of {P = P} x xs p ps = record { each = λ y. elim [ inl e ↦ subst P e p | inr m ↦ ps.each y m ] }

all_rest : {A : Type 0} {P : A → Type 0} (x : A) (xs : List A) → All P (x ∷ xs) → All P xs
all_rest x xs p = record { each = λ y m. p.each y (inr m) }

all_both : {A : Type 0} {P : A → Type 0} (xs ys : List A) → All P xs → All P ys → All P (xs ++ ys)
all_both xs ys p q = record { each = λ x m. elim (member_cases xs ys x m) [ inl a ↦ p.each x a | inr b ↦ q.each x b ] }

all_only : {A : Type 0} (P : A → Type 0) (b : Bool) (x : A) → P x → All P (only_if b x)
all_only P true x p = all_of x [] p all_none
all_only P false x p = all_none

all_map : {A B : Type 0} {P : A → Type 0} (Q : B → Type 0) (f : A → B) (xs : List A) → ((x : A) → P x → Q (f x)) → All P xs → All Q (map f xs)
all_map Q f [] h p = all_none
all_map Q f (x ∷ xs) h p = all_of (f x) (map f xs) (h x (p.each x (inl refl))) (all_map Q f xs h (all_rest x xs p))

all_drop : {A : Type 0} {P : A → Type 0} (n : ℕ) (xs : List A) → All P xs → All P (drop n xs)
all_drop zero xs p = p
all_drop (suc n) [] p = p
all_drop (suc n) (x ∷ xs) p = all_drop n xs (all_rest x xs p)

all_chosen : {A : Type 0} {P : A → Type 0} (b : Bool) (x : A) (xs : List A) → P x → All P xs → All P (chosen b x xs)
all_chosen true x xs p ps = all_of x xs p ps
all_chosen false x xs p ps = ps

all_where : {A : Type 0} {P : A → Type 0} (test : A → Bool) (xs : List A) → All P xs → All P (those_where test xs)
all_where test [] p = all_none
all_where test (x ∷ xs) p = all_chosen (test x) x (those_where test xs) (p.each x (inl refl)) (all_where test xs (all_rest x xs p))

-- if it is done, it gives this
pub record Gives {A : Type 0} (w : LinkWorld) (Q : A → Type 0) (c : Lookup A) : Type 0 where
  pub given : (x : A) → (c w).step ≡ Done x → Q x

-- what each may give
abbrev Any : {A : Type 0} → A → Type 0
Any x = Unit {0}

module _ (w : LinkWorld) where
  gives_done : {A : Type 0} (Q : A → Type 0) (x : A) → Q x → Gives w Q (done x)
  gives_done {A} Q x q = record { given = λ y e. let same : x ≡ y = cc in subst Q same q }

  gives_any : {A : Type 0} (c : Lookup A) → Gives w Any c
  gives_any c = record { given = λ x e. tt }

  then_by : {A B : Type 0} {P : A → Type 0} {Q : B → Type 0} (c : Lookup A) (f : A → Lookup B) → Gives w P c → ((x : A) → P x → Gives w Q (f x))
      → (step : Step LinkKey A) → (c w).step ≡ step → (y : B) → (then_step (c w) (λ x. f x w) step).step ≡ Done y → Q y
  then_by c f p q (Done x) here y e = (q x (p.given x here)).given y e
  then_by c f p q (Waits ks) here y e = cc

  gives_then : {A B : Type 0} {P : A → Type 0} {Q : B → Type 0} (c : Lookup A) (f : A → Lookup B) → Gives w P c → ((x : A) → P x → Gives w Q (f x))
      → Gives w Q (c >>= f)
  gives_then c f p q = record { given = λ y e. then_by c f p q (c w).step refl y e }

  join_by : {A : Type 0} {P : A → Type 0} (c d : Lookup (List A)) → Gives w (All P) c → Gives w (All P) d
      → (a b : Step LinkKey (List A)) → (c w).step ≡ a → (d w).step ≡ b → (y : List A) → join_step a b ≡ Done y → All P y
  join_by {P = P} c d p q (Done xs) (Done ys) g h y e = let same : xs ++ ys ≡ y = cc in subst (All P) same (all_both xs ys (p.given xs g) (q.given ys h))
  join_by c d p q (Done xs) (Waits ks) g h y e = cc
  join_by c d p q (Waits ks) (Done ys) g h y e = cc
  join_by c d p q (Waits ks) (Waits ls) g h y e = cc

  gives_join : {A : Type 0} {P : A → Type 0} (c d : Lookup (List A)) → Gives w (All P) c → Gives w (All P) d → Gives w (All P) (join c d)
  gives_join c d p q = record { given = λ y e. join_by c d p q (c w).step (d w).step refl refl y e }

  gives_none : {A : Type 0} (P : A → Type 0) → Gives w (All P) (done [])
  gives_none P = gives_done (All P) [] all_none

  gives_joined : {A B : Type 0} (P : A → Type 0) (f : B → Lookup (List A)) (xs : List B) → ((x : B) → IsMember xs x → Gives w (All P) (f x))
      → Gives w (All P) (joined f xs)
  gives_joined P f [] p = gives_none P
  gives_joined P f (x ∷ xs) p = gives_join (f x) (joined f xs) (p x (inl refl)) (gives_joined P f xs (λ y m. p y (inr m)))

  gives_cond : {A : Type 0} {Q : A → Type 0} (b : Bool) (c d : Lookup A) → Gives w Q c → Gives w Q d → Gives w Q (cond b c d)
  gives_cond true c d p q = p
  gives_cond false c d p q = q

  -- each of a list gives this
  abbrev AllGive : {A : Type 0} → (A → Type 0) → List (Lookup A) → Type 0
  AllGive Q [] = Unit {0}
  AllGive Q (c ∷ cs) = Gives w Q c × AllGive Q cs

  give_both : {A : Type 0} (Q : A → Type 0) (cs ds : List (Lookup A)) → AllGive Q cs → AllGive Q ds → AllGive Q (cs ++ ds)
  give_both Q [] ds p q = q
  give_both Q (c ∷ cs) ds p q = (p.0, give_both Q cs ds p.1 q)

  give_cond : {A : Type 0} (Q : A → Type 0) (b : Bool) (cs ds : List (Lookup A)) → AllGive Q cs → AllGive Q ds → AllGive Q (cond b cs ds)
  give_cond Q true cs ds p q = p
  give_cond Q false cs ds p q = q

  gives_first : {A : Type 0} (P : A → Type 0) (cs : List (Lookup (List A))) → AllGive (All P) cs → Gives w (All P) (first_of cs)
  gives_first P [] p = gives_none P
  gives_first P (c ∷ cs) p =
      gives_then c (λ xs. cond (is_nil xs) (first_of cs) (done xs)) p.0
      (λ xs q. gives_cond (is_nil xs) (first_of cs) (done xs) (gives_first P cs p.1) (gives_done (All P) xs q))

-- owned targets are the elements from 1 on
owned_above : (n : ℕ) (es : List Element) (o : Owning) → IsMember (owned_from n es) o → n ≤ o.element
owned_above n [] o m = absurd m
owned_above n (e ∷ es) o (inl same) = let here : n ≡ o.element = ap (λ x. x.element) same in omega arith
owned_above n (e ∷ es) o (inr m) = let more = owned_above (suc n) es o m in omega arith

owning_told : (ms : List Member) (k e : ℕ) (m : Member) → slice_get ms k ≡ Some m → m.target ≡ Owned e → (o : Owning)
    × IsMember (flat_map (λ x. owning x.target x) ms) o × (o.element ≡ e)
owning_told [] k e m at t = cc
owning_told (x ∷ ms) zero e m at t =
    let same : x ≡ m = cc in
    let o : Owning = record { element = e; owner = Some m.owner; short = m.short; name = m.name } in
    let here : IsMember (owning m.target m) o = subst (λ u. IsMember (owning u m) o) (sym t) (inl refl) in
    (o, member_left (owning x.target x) (flat_map (λ y. owning y.target y) ms) o (subst (λ (y : Member). IsMember (owning y.target y) o) (sym same) here), refl)
owning_told (x ∷ ms) (suc k) e m at t = let r = owning_told ms k e m at t in
    (r.0, member_right (owning x.target x) (flat_map (λ y. owning y.target y) ms) r.0 r.1, r.2)

not_root : (d : Data) → IsOwnedOnce d → (k e : ℕ) (m : Member) → slice_get d.members k ≡ Some m → m.target ≡ Owned e → 0 < e
not_root d once k e m at t =
    let r = owning_told d.members k e m at t in
    let above = owned_above 1 (drop 1 d.elements) r.0 (subst (λ (os : List Owning). IsMember os r.0) once r.1) in
    let same = r.2 in omega arith

and_right : (a b : Bool) → (a && b) ≡ true → b ≡ true
and_right true b h = h
and_right false b h = cc

below : (a b : ℕ) → nat_lt a b ≡ true → a < b
below a b h = grind (arith, nat_tests)

short : {A : Type 0} (xs : List A) (k : ℕ) → slice_get xs k ≡ None → k < length xs → ⊥
short [] k e lt = absurd (omega arith)
short (y ∷ ys) zero e lt = cc
short (y ∷ ys) (suc k) e lt = short ys k e (omega arith)

there : {A : Type 0} (xs : List A) (k : ℕ) (x : A) → slice_get xs k ≡ Some x → k < length xs
there [] k x e = cc
there (y ∷ ys) zero x e = omega arith
there (y ∷ ys) (suc k) x e = let lt = there ys k x e in omega arith

module _ (files : List StoredFile) (are : AreFiles files) (s : Decided LinkKey Outcome) (fit : AllFit {K = LinkKey} (λ k o. Fits files o) s) where
  abbrev pub here : LinkWorld
  here = world (seen_in files) s

  abbrev pub HitStands : Hit → Type 0
  HitStands h = MemberStands files h.member × ElementStands files h.element

  abbrev GivesHits : Lookup (List Hit) → Type 0
  GivesHits c = Gives here (All HitStands) c

  -- what stands at a place of a file's members
  stored : (f : FileNo) (k : ℕ) (m : Member) → slice_get (model_in (slice_get files f.0)).members k ≡ Some m
      → MemberStands files (record { file = f; index = k }) × ((e : ℕ) → m.target ≡ Owned e → ElementStands files (record { file = f; index = e }))
  stored f k m at = by (slice_get files f.0) refl at
    where
      by : (o : Option StoredFile) → slice_get files f.0 ≡ o → slice_get (model_in o).members k ≡ Some m
          → MemberStands files (record { file = f; index = k }) × ((e : ℕ) → m.target ≡ Owned e → ElementStands files (record { file = f; index = e }))
      by None has at = cc
      by (Some x) has at = by_model x.model refl at
        where
          by_model : (d : Option Data) → x.model ≡ d → slice_get (model_in (Some (record x { model = d }))).members k ≡ Some m
              → MemberStands files (record { file = f; index = k }) × ((e : ℕ) → m.target ≡ Owned e → ElementStands files (record { file = f; index = e }))
          by_model None none at = cc
          by_model (Some d) some at =
              let of : model_of files f.0 ≡ Some d = rw has some in
              let is : IsModel d = (are.models f.0 x d has some).1 in
              let stands : member_stands d m ≡ true = all_at (member_stands d) k d.members m is.ranges.members at in (
                (d, of, there d.members k m at),
                λ e t.
                    let target : target_stands d m.target ≡ true = and_right (nat_lt m.owner (length d.elements)) (target_stands d m.target) stands in
                    let lt = below e (length d.elements) (subst (λ u. target_stands d u ≡ true) t target) in
                    (d, of, lt, not_root d is.owned k e m at t),
              )

  gives_told : {A B : Type 0} (P : A → Type 0) (o : Option B) (f : B → Lookup (List A)) → ((x : B) → o ≡ Some x → Gives here (All P) (f x))
      → Gives here (All P) (told o f)
  gives_told P None f h = gives_none here P
  gives_told P (Some x) f h = h x refl

  -- the model that is read is the one that stands there
  gives_model : (f : FileNo) → Gives here (λ d. d ≡ model_in (slice_get files f.0)) (model f)
  gives_model f = record { given = λ d e. let same : model_in (slice_get files f.0) ≡ d = cc in sym same }

  gives_members : {A : Type 0} (P : A → Type 0) (f : ℕ → Member → Lookup (List A)) (n : ElementNo)
      → ((k : ℕ) (m : Member) → slice_get (model_in (slice_get files n.file.0)).members k ≡ Some m → Gives here (All P) (f k m))
      → Gives here (All P) (of_members f n)
  gives_members P f n h = gives_then here (model n.file) (λ d. joined (λ k. told (slice_get d.members k) (f k)) (members_of d n.index)) (gives_model n.file)
      (λ d same.
      gives_joined here P (λ k. told (slice_get d.members k) (f k)) (members_of d n.index)
      (λ k among. gives_told P (slice_get d.members k) (f k) (λ m at. h k m (subst (λ (e : Data). slice_get e.members k ≡ Some m) same at))))

  abbrev Stand : List ElementNo → Type 0
  Stand = All (ElementStands files)

  no_element : Gives here Stand (done [])
  no_element = gives_none here (ElementStands files)

  gives_led : (o : Outcome) → Fits files o → Gives here Stand (led_to o)
  gives_led (Linked steps e) f =
      gives_then here (look (File e.file)) (λ x. done (e ∷ [])) (gives_any here (look (File e.file)))
      (λ x any. gives_done here Stand (e ∷ []) (all_of e [] f.1 all_none))
  gives_led (Absent n) f = no_element
  gives_led (Ambiguous n a b) f = no_element
  gives_led (Hidden n a) f = no_element
  gives_led (Cyclic on) f = no_element

  read_by : (r : LinkKey) (v : Option Outcome) → s r ≡ v → (o : Outcome) → read_step r v ≡ Done o → Fits files o
  read_by r None h o e = cc
  read_by r (Some v) h o e = let same : v ≡ o = cc in subst (Fits files) same (fit r v h)

  gives_read : (r : LinkKey) → Gives here (Fits files) (read r)
  gives_read r = record { given = λ o e. read_by r (s r) refl o e }

  gives_target : (r : LinkKey) → Gives here Stand (target r)
  gives_target r = gives_then here (model r.0.file) (λ d. cond (nat_lt r.0.index (length d.references)) (read r >>= led_to) (done []))
      (gives_any here (model r.0.file)) (λ d any.
      gives_cond here (nat_lt r.0.index (length d.references)) (read r >>= led_to) (done [])
      (gives_then here (read r) led_to (gives_read r) gives_led) no_element)

  -- hits

  abbrev pub Hits : List Hit → Type 0
  Hits = All HitStands

  no_hit : Gives here Hits (done [])
  no_hit = gives_none here HitStands

  gives_leads : (f : FileNo) (k : ℕ) (m : Member) (t : Target) → slice_get (model_in (slice_get files f.0)).members k ≡ Some m → m.target ≡ t
      → Gives here Stand (leads_to f t)
  gives_leads f k m (Owned e) at t =
      gives_done here Stand (record { file = f; index = e } ∷ []) (all_of (record { file = f; index = e }) [] ((stored f k m at).1 e t) all_none)
  gives_leads f k m (Alias r) at t = gives_target (key f r)

  gives_hit : (f : FileNo) (k : ℕ) (m : Member) → slice_get (model_in (slice_get files f.0)).members k ≡ Some m → Gives here Hits (hit f k m)
  gives_hit f k m at = gives_then here (leads_to f m.target) (λ es. done (map (λ e. record { member = record { file = f; index = k }; element = e }) es))
      (gives_leads f k m m.target at refl) (λ es p.
      gives_done here Hits (map (λ e. record { member = record { file = f; index = k }; element = e }) es)
      (all_map HitStands (λ e. record { member = record { file = f; index = k }; element = e }) es (λ e q. ((stored f k m at).0, q)) p))

  gives_declared_hit : (x : List ℕ) (f : FileNo) (k : ℕ) (m : Member) → slice_get (model_in (slice_get files f.0)).members k ≡ Some m
      → Gives here Hits (declared_hit x f k m)
  gives_declared_hit x f k m at = gives_cond here (bears x m) (hit f k m) (done []) (gives_hit f k m at) no_hit

  gives_named : (x : List ℕ) (f : FileNo) (k : ℕ) (m : Member) (t : Target) → slice_get (model_in (slice_get files f.0)).members k ≡ Some m → m.target ≡ t
      → Gives here Hits (hit_named x f k t)
  gives_named x f k m (Owned e) at t =
      gives_then here (names (record { file = f; index = e }))
      (λ ns. done (only_if (is_named x ns) (record { member = record { file = f; index = k }; element = record { file = f; index = e } })))
      (gives_any here (names (record { file = f; index = e })))
      (λ ns any. gives_done here Hits
      (only_if (is_named x ns) (record { member = record { file = f; index = k }; element = record { file = f; index = e } }))
      (all_only HitStands (is_named x ns) (record { member = record { file = f; index = k }; element = record { file = f; index = e } })
      ((stored f k m at).0, (stored f k m at).1 e t)))
  gives_named x f k m (Alias r) at t = no_hit

  gives_effective_hit : (x : List ℕ) (f : FileNo) (k : ℕ) (m : Member) → slice_get (model_in (slice_get files f.0)).members k ≡ Some m
      → Gives here Hits (effective_hit x f k m)
  gives_effective_hit x f k m at =
      gives_cond here (is_nil (declared_names m.short m.name)) (hit_named x f k m.target) (done []) (gives_named x f k m m.target at refl) no_hit

  pub gives_declared : (x : List ℕ) (n : ElementNo) → Gives here Hits (declared x n)
  gives_declared x n = gives_members HitStands (declared_hit x n.file) n (gives_declared_hit x n.file)

  pub gives_effective : (x : List ℕ) (n : ElementNo) → Gives here Hits (effective x n)
  gives_effective x n = gives_members HitStands (effective_hit x n.file) n (gives_effective_hit x n.file)

  -- inherited

  abbrev Candidates : List Candidate → Type 0
  Candidates = All (λ c. HitStands c.hit)

  no_candidate : Gives here Candidates (done [])
  no_candidate = gives_none here (λ c. HitStands c.hit)

  gives_candidate : (x : List ℕ) (t : ElementNo) (k : ℕ) (m : Member) → slice_get (model_in (slice_get files t.file.0)).members k ≡ Some m
      → Gives here Candidates (candidate x t k m)
  gives_candidate x t k m at =
      gives_cond here (is_private m.visibility) (done [])
      (join (declared_hit x t.file k m) (effective_hit x t.file k m) >>= λ hs. done (map (λ h. record { owner = t; hit = h }) hs)) no_candidate
      (gives_then here (join (declared_hit x t.file k m) (effective_hit x t.file k m)) (λ hs. done (map (λ h. record { owner = t; hit = h }) hs))
      (gives_join here (declared_hit x t.file k m) (effective_hit x t.file k m) (gives_declared_hit x t.file k m at) (gives_effective_hit x t.file k m at))
      (λ hs p. gives_done here Candidates (map (λ h. record { owner = t; hit = h }) hs)
      (all_map (λ c. HitStands c.hit) (λ h. record { owner = t; hit = h }) hs (λ h q. q) p)))

  gives_candidates : (x : List ℕ) (t : ElementNo) (us : List ElementNo) → Gives here Candidates (candidates x t us)
  gives_candidates x t us = gives_joined here (λ c. HitStands c.hit) (λ u. cond (same_element u t) (done []) (of_members (candidate x u) u)) us
      (λ u among. gives_cond here (same_element u t) (done []) (of_members (candidate x u) u) no_candidate
      (gives_members (λ c. HitStands c.hit) (candidate x u) u (gives_candidate x u)))

  module _ (lib : Library) where
    gives_stays : (us : List ElementNo) (t : ElementNo) (rs : List Redefines) (ps : List Removal) (c : Candidate) → HitStands c.hit
        → Gives here Hits (stays lib us t rs ps c)
    gives_stays us t rs ps c h =
        gives_cond here (is_redefined_elsewhere us rs c.hit.element) (done [])
        (unblocked lib rs ps c.hit.element t >>= λ vs. done (only_if (is_in c.owner vs) c.hit)) no_hit
        (gives_then here (unblocked lib rs ps c.hit.element t) (λ vs. done (only_if (is_in c.owner vs) c.hit))
        (gives_any here (unblocked lib rs ps c.hit.element t))
        (λ vs any. gives_done here Hits (only_if (is_in c.owner vs) c.hit) (all_only HitStands (is_in c.owner vs) c.hit h)))

    pub gives_inherited : (raw : Bool) (x : List ℕ) (t : ElementNo) → Gives here Hits (inherited lib raw x t)
    gives_inherited raw x t =
        gives_then here (reached lib t) _ (gives_any here (reached lib t)) (λ us any.
        gives_then here (candidates x t us) _ (gives_candidates x t us) (λ cs p.
        gives_cond here (is_nil cs) (done []) _ no_hit
        (gives_then here (both (joined (redefiners raw t) (t ∷ us)) (joined (removals raw t) cs)) _
        (gives_any here (both (joined (redefiners raw t) (t ∷ us)) (joined (removals raw t) cs)))
        (λ q any. gives_joined here HitStands (stays lib us t q.0 q.1) cs (λ c among. gives_stays us t q.0 q.1 c (p.each c among))))))

    pub gives_tier : (x : List ℕ) (n : ElementNo) → Gives here Hits (inherited_tier lib x n)
    gives_tier x n = gives_then here (element n) (λ e. cond (is_type e.kind) (inherited lib false x n) (done [])) (gives_any here (element n)) (λ e any.
        gives_cond here (is_type e.kind) (inherited lib false x n) (done []) (gives_inherited false x n) no_hit)

  -- imported and visible

  gives_narrowed : (all : Bool) (hs : List Hit) → Hits hs → Gives here Hits (narrowed all hs)
  gives_narrowed all hs p =
      gives_joined here HitStands
      (λ h. model h.member.file >>= λ d. told (slice_get d.members h.member.index) (λ m. done (only_if (all || is_public m.visibility) h))) hs (λ h among.
      gives_then here (model h.member.file) (λ d. told (slice_get d.members h.member.index) (λ m. done (only_if (all || is_public m.visibility) h)))
      (gives_any here (model h.member.file)) (λ d any.
      gives_told HitStands (slice_get d.members h.member.index) (λ m. done (only_if (all || is_public m.visibility) h)) (λ m at.
      gives_done here Hits (only_if (all || is_public m.visibility) h) (all_only HitStands (all || is_public m.visibility) h (p.each h among)))))

  number_stands : (f : FileNo) (test : Member → Bool) (k : ℕ) → IsMember (numbers_from 0 test (model_in (slice_get files f.0)).members) k
      → MemberStands files (record { file = f; index = k })
  number_stands f test k m = by (slice_get (model_in (slice_get files f.0)).members k) refl
    where
      lt : k < length (model_in (slice_get files f.0)).members
      lt = numbers_below test 0 (length (model_in (slice_get files f.0)).members) (model_in (slice_get files f.0)).members k
          (zero-add (length (model_in (slice_get files f.0)).members)) m

      by : (o : Option Member) → slice_get (model_in (slice_get files f.0)).members k ≡ o → MemberStands files (record { file = f; index = k })
      by None none = absurd (short (model_in (slice_get files f.0)).members k none lt)
      by (Some x) at = (stored f k x at).0

  gives_owning : (e : ElementNo) → ElementStands files e → Gives here Hits (owning_hit e)
  gives_owning e p = gives_then here (model e.file)
      (λ d. done (map (λ k. record { member = record { file = e.file; index = k }; element = e }) (numbers_from 0 (λ m. owns e.index m.target) d.members)))
      (gives_model e.file) (λ d same.
      gives_done here Hits (map (λ k. record { member = record { file = e.file; index = k }; element = e })
      (numbers_from 0 (λ m. owns e.index m.target) d.members))
      (all_map {P = λ k. MemberStands files (record { file = e.file; index = k })} HitStands
      (λ k. record { member = record { file = e.file; index = k }; element = e }) (numbers_from 0 (λ m. owns e.index m.target) d.members) (λ k q. (q, p))
      (record {
        each = λ k m. number_stands e.file (λ x. owns e.index x.target) k
            (subst (λ (y : Data). IsMember (numbers_from 0 (λ x. owns e.index x.target) y.members) k) same m);
      })))

  gives_under : (x last : List ℕ) (e : ElementNo) → ElementStands files e → Gives here Hits (under_name x last e)
  gives_under x last e p = gives_cond here (pointwise nat_eq x last) (owning_hit e)
      (names e >>= λ ns. cond (is_named x ns && is_named last ns) (owning_hit e) (done [])) (gives_owning e p)
      (gives_then here (names e) (λ ns. cond (is_named x ns && is_named last ns) (owning_hit e) (done [])) (gives_any here (names e)) (λ ns any.
      gives_cond here (is_named x ns && is_named last ns) (owning_hit e) (done []) (gives_owning e p) no_hit))

  module _ (again : Bool → Bool → ElementNo → Lookup (List Hit)) (r : (recursive all : Bool) (e : ElementNo) → Gives here Hits (again recursive all e)) where
    gives_brought : (x : List ℕ) (f : FileNo) (i : Import) → Gives here Hits (brought again x f i)
    gives_brought x f i = gives_then here (model f) _ (gives_any here (model f))
        (λ d any. gives_then here (target (key f i.reference)) _ (gives_target (key f i.reference)) (λ es p.
        gives_joined here HitStands _ es
        (λ e among. gives_cond here i.star (again i.recursive i.all e)
        (join (under_name x (last_written d i) e) (cond i.recursive (again true i.all e) (done []))) (r i.recursive i.all e)
        (gives_join here (under_name x (last_written d i) e) (cond i.recursive (again true i.all e) (done []))
        (gives_under x (last_written d i) e (p.each e among)) (gives_cond here i.recursive (again true i.all e) (done []) (r true i.all e) no_hit)))))

    gives_imports : (taken : Import → Bool) (x : List ℕ) (n : ElementNo) → Gives here Hits (import_tier again taken x n)
    gives_imports taken x n =
        gives_then here (model n.file) _ (gives_any here (model n.file)) (λ d any. gives_joined here HitStands _ (imports_of d n.index) (λ k among.
        gives_told HitStands (slice_get d.imports k) (λ i. cond (taken i) (brought again x n.file i) (done []))
        (λ i at. gives_cond here (taken i) (brought again x n.file i) (done []) (gives_brought x n.file i) no_hit)))

    gives_in_owned : (all : Bool) (f : FileNo) (t : Target) → Gives here Hits (in_owned again all f t)
    gives_in_owned all f (Owned e) = r true all (record { file = f; index = e })
    gives_in_owned all f (Alias l) = no_hit

    gives_inside : (all : Bool) (n : ElementNo) → Gives here Hits (inside again all n)
    gives_inside all n = gives_members HitStands (λ k m. cond (all || is_public m.visibility) (in_owned again all n.file m.target) (done [])) n
        (λ k m at. gives_cond here (all || is_public m.visibility) (in_owned again all n.file m.target) (done []) (gives_in_owned all n.file m.target) no_hit)

  gives_member : (m : MemberNo) → Gives here Hits (member_hit m)
  gives_member m = gives_then here (model m.file) (λ d. told (slice_get d.members m.index) (hit m.file m.index)) (gives_model m.file) (λ d same.
      gives_told HitStands (slice_get d.members m.index) (hit m.file m.index)
      (λ x at. gives_hit m.file m.index x (subst (λ (y : Data). slice_get y.members m.index ≡ Some x) same at)))

  gives_project : (x : List ℕ) → Gives here Hits (project_tier x)
  gives_project x = gives_then here (look (RootName x)) (joined member_hit) (gives_any here (look (RootName x)))
      (λ ms any. gives_joined here HitStands member_hit ms (λ m among. gives_member m))

  -- picked

  abbrev RankedHits : List (Ranked Hit) → Type 0
  RankedHits = All (λ r. HitStands r.item)

  item_same : (o : Option StoredFile) (n : ℕ) (h : Hit) → (ranked_by o n h).item ≡ h
  item_same None n h = refl
  item_same (Some f) n h = refl

  gives_ranked : (hs : List Hit) → Hits hs → Gives here RankedHits (ranked_hits hs)
  gives_ranked hs p = gives_joined here (λ r. HitStands r.item) (λ h. look (File h.member.file) >>= λ f. done (ranked_by f h.member.index h ∷ [])) hs
      (λ h among.
      gives_then here (look (File h.member.file)) (λ f. done (ranked_by f h.member.index h ∷ [])) (gives_any here (look (File h.member.file))) (λ f any.
      gives_done here RankedHits (ranked_by f h.member.index h ∷ [])
      (all_of (ranked_by f h.member.index h) [] (subst HitStands (sym (item_same f h.member.index h)) (p.each h among)) all_none)))

  abbrev IfHit : Option (Ranked Hit) → Type 0
  IfHit None = Unit {0}
  IfHit (Some r) = HitStands r.item

  lesser_by : (b : Bool) (r o : Ranked Hit) → HitStands r.item → HitStands o.item → IfHit (cond b (Some o) (Some r))
  lesser_by true r o p q = q
  lesser_by false r o p q = p

  lesser_stands : (r : Ranked Hit) (o : Option (Ranked Hit)) → HitStands r.item → IfHit o → IfHit (lesser r o)
  lesser_stands r None p q = p
  lesser_stands r (Some o) p q = lesser_by (is_before o r) r o p q

  least_stands : (rs : List (Ranked Hit)) → RankedHits rs → IfHit (least_of rs)
  least_stands [] p = tt
  least_stands (r ∷ rs) p = lesser_stands r (least_of rs) (p.each r (inl refl)) (least_stands rs (all_rest r rs p))

  abbrev PickStands : Picked → Type 0
  PickStands Nothing = Unit {0}
  PickStands (One e) = ElementStands files e
  PickStands (Several first second) = MemberStands files first × MemberStands files second

  with_stands : (h : Hit) (o : Option (Ranked Hit)) → HitStands h → IfHit o → PickStands (picked_with h o)
  with_stands h None p q = p.1
  with_stands h (Some o) p q = (p.0, q.0)

  from_stands : (rs : List (Ranked Hit)) (o : Option (Ranked Hit)) → RankedHits rs → IfHit o → PickStands (picked_from rs o)
  from_stands rs None p q = tt
  from_stands rs (Some r) p q = with_stands r.item (least_of (those_where (λ b. not (same_element b.item.element r.item.element)) rs)) q
      (least_stands (those_where (λ b. not (same_element b.item.element r.item.element)) rs)
      (all_where (λ b. not (same_element b.item.element r.item.element)) rs p))

  gives_pick : (hs : List Hit) → Hits hs → Gives here PickStands (pick hs)
  gives_pick hs p = gives_then here (ranked_hits hs) (λ rs. done (picked_from rs (least_of rs))) (gives_ranked hs p)
      (λ rs q. gives_done here PickStands (picked_from rs (least_of rs)) (from_stands rs (least_of rs) q (least_stands rs q)))

  -- courses

  abbrev CourseStands : Course → Type 0
  CourseStands (Reached es) = Stand es
  CourseStands (Ended o) = Fits files o

  behind_stands : (e : ElementNo) (c : Course) → ElementStands files e → CourseStands c → CourseStands (behind e c)
  behind_stands e (Reached es) p q = all_of e es p q
  behind_stands e (Ended o) p q = q

  linked_stands : (steps : List ElementNo) (e : ElementNo) (es : List ElementNo) → Stand steps → ElementStands files e → Stand es
      → Fits files (linked_with steps e es)
  linked_stands steps e [] p q r = ((λ x m. p.each x m), q)
  linked_stands steps e (f ∷ fs) p q r =
      linked_stands (steps ++ e ∷ []) f fs (all_both steps (e ∷ []) p (all_of e [] q all_none)) (r.each f (inl refl)) (all_rest f fs r)

  all_linked : (es : List ElementNo) → Stand es → Fits files (linked es)
  all_linked [] p = tt
  all_linked (e ∷ es) p = linked_stands [] e es all_none (p.each e (inl refl)) (all_rest e es p)

  outcome_stands : (n : ℕ) (c : Course) → CourseStands c → Fits files (outcome_of n c)
  outcome_stands n (Reached es) p = all_linked (drop (n - 1) es) (all_drop (n - 1) es p)
  outcome_stands n (Ended o) p = p

  hidden_stands : (n : ℕ) (o : Option (Ranked Hit)) → IfHit o → Fits files (hidden_by n o)
  hidden_stands n None p = tt
  hidden_stands n (Some r) p = p.0

  gives_unseen : (hs : List Hit) → Hits hs → Gives here Hits (unseen hs)
  gives_unseen hs p = gives_joined here HitStands
      (λ h. model h.member.file >>= λ d. told (slice_get d.members h.member.index) (λ m. done (only_if (not (is_public m.visibility)) h))) hs (λ h among.
      gives_then here (model h.member.file) (λ d. told (slice_get d.members h.member.index) (λ m. done (only_if (not (is_public m.visibility)) h)))
      (gives_any here (model h.member.file)) (λ d any.
      gives_told HitStands (slice_get d.members h.member.index) (λ m. done (only_if (not (is_public m.visibility)) h)) (λ m at.
      gives_done here Hits (only_if (not (is_public m.visibility)) h) (all_only HitStands (not (is_public m.visibility)) h (p.each h among)))))

  module _ (lib : Library) where
    gives_own : (all : Bool) (x : List ℕ) (n : ElementNo) → AllGive here Hits (own_tiers lib all x n)
    gives_own all x n = (
      gives_then here (declared x n) (narrowed all) (gives_declared x n) (gives_narrowed all),
      (
        gives_then here (effective x n) (narrowed all) (gives_effective x n) (gives_narrowed all),
        (gives_then here (inherited_tier lib x n) (narrowed all) (gives_tier lib x n) (gives_narrowed all), tt),
      ),
    )

    gives_visible_from : (k : ℕ) (x : List ℕ) (excluded : List ElementNo) (recursive all : Bool) (n : ElementNo)
        → Gives here Hits (visible_from lib k x excluded recursive all n)
    unfolding visible_from
    gives_visible_from zero x excluded recursive all n = no_hit
    gives_visible_from (suc k) x excluded recursive all n =
        let r = gives_visible_from k x (n ∷ excluded) in
        let again = visible_from lib k x (n ∷ excluded) in
        gives_cond here (is_in n excluded) (done []) _ no_hit (gives_join here _ _
        (gives_then here (first_of (own_tiers lib all x n)) _ (gives_first here HitStands (own_tiers lib all x n) (gives_own all x n)) (λ hs p.
        gives_cond here (is_nil hs) _ (done hs) (gives_imports again r (λ i. all || is_public i.visibility) x n) (gives_done here Hits hs p)))
        (gives_cond here recursive (inside again all n) (done []) (gives_inside again r all n) no_hit))

    pub gives_visible : (x : List ℕ) (excluded : List ElementNo) (recursive all : Bool) (n : ElementNo)
        → Gives here Hits (visible lib x excluded recursive all n)
    gives_visible x excluded recursive all n = gives_visible_from most x excluded recursive all n

    gives_imports_of_all : (x : List ℕ) (n : ElementNo) → Gives here Hits (imports_of_all lib x n)
    gives_imports_of_all x n = gives_imports (visible lib x (n ∷ [])) (gives_visible x (n ∷ [])) (λ i. true) x n

    gives_imports_before : (r : ℕ) (x : List ℕ) (n : ElementNo) → Gives here Hits (imports_before lib r x n)
    gives_imports_before r x n = gives_imports (visible lib x (n ∷ [])) (gives_visible x (n ∷ [])) (λ i. nat_lt i.reference r) x n

    gives_library : (x : List ℕ) → Gives here Hits (library_tier lib x)
    gives_library x = gives_joined here HitStands member_hit (lib.roots x) (λ m among. gives_member m)

    gives_last : (library : Bool) (x : List ℕ) → AllGive here Hits (last_tiers lib library x)
    gives_last true x = (gives_library x, tt)
    gives_last false x = (gives_project x, (gives_library x, tt))

    gives_all_tiers : (x : List ℕ) (ns : List ElementNo) → AllGive here Hits (flat_map (tiers lib x) ns)
    gives_all_tiers x [] = tt
    gives_all_tiers x (n ∷ ns) =
        give_both here Hits (tiers lib x n) (flat_map (tiers lib x) ns)
        (gives_declared x n, (gives_effective x n, (gives_tier lib x n, (gives_imports_of_all x n, tt)))) (gives_all_tiers x ns)

    gives_lexical : (library : Bool) (x : List ℕ) (ns : List ElementNo) → AllGive here Hits (lexical lib library x ns)
    gives_lexical library x ns = give_both here Hits (flat_map (tiers lib x) ns) (last_tiers lib library x) (gives_all_tiers x ns) (gives_last library x)

    gives_nothing : (n : ℕ) (x : List ℕ) (e : ElementNo) → Gives here CourseStands (nothing_visible lib n x e)
    gives_nothing n x e =
        gives_then here (join (declared x e) (join (effective x e) (inherited_tier lib x e)) >>= unseen >>= ranked_hits)
        (λ rs. done (Ended (hidden_by n (least_of rs))))
        (gives_then here (join (declared x e) (join (effective x e) (inherited_tier lib x e)) >>= unseen) ranked_hits
        (gives_then here (join (declared x e) (join (effective x e) (inherited_tier lib x e))) unseen
        (gives_join here (declared x e) (join (effective x e) (inherited_tier lib x e)) (gives_declared x e)
        (gives_join here (effective x e) (inherited_tier lib x e) (gives_effective x e) (gives_tier lib x e)))
        gives_unseen) gives_ranked)
        (λ rs p. gives_done here CourseStands (Ended (hidden_by n (least_of rs))) (hidden_stands n (least_of rs) (least_stands rs p)))

    gives_met : (again : ElementNo → Lookup Course) (nothing : Lookup Course) → ((e : ElementNo) → Gives here CourseStands (again e))
        → Gives here CourseStands nothing → (n : ℕ) (p : Picked) → PickStands p → Gives here CourseStands (met again nothing n p)
    gives_met again nothing r u n Nothing q = u
    gives_met again nothing r u n (One e) q =
        gives_then here (again e) (λ c. done (behind e c)) (r e) (λ c p. gives_done here CourseStands (behind e c) (behind_stands e c q p))
    gives_met again nothing r u n (Several one other) q = gives_done here CourseStands (Ended (Ambiguous n one other)) q

    gives_later : (n : ℕ) (xs : List (List ℕ)) (e : ElementNo) → Gives here CourseStands (later lib n xs e)
    gives_later n [] e = gives_done here CourseStands (Reached []) all_none
    gives_later n (x ∷ xs) e = gives_then here (visible lib x [] false false e >>= pick) (met (later lib (suc n) xs) (nothing_visible lib n x e) n)
        (gives_then here (visible lib x [] false false e) pick (gives_visible x [] false false e) gives_pick)
        (gives_met (later lib (suc n) xs) (nothing_visible lib n x e) (gives_later (suc n) xs) (gives_nothing n x e) n)

    pub gives_along : (ts : List (Lookup (List Hit))) → AllGive here Hits ts → (more : List (List ℕ)) → Gives here CourseStands (along lib ts more)
    gives_along ts p more = gives_then here (first_of ts >>= pick) (met (later lib 2 more) (done (Ended (Absent 1))) 1)
        (gives_then here (first_of ts) pick (gives_first here HitStands ts p) gives_pick)
        (gives_met (later lib 2 more) (done (Ended (Absent 1))) (gives_later 2 more) (gives_done here CourseStands (Ended (Absent 1)) tt) 1)

    gives_owner : (library : Bool) (x : List ℕ) (d : Data) (os : List ElementNo) → AllGive here Hits (from_owner lib library x d os)
    gives_owner library x d [] = gives_last library x
    gives_owner library x d (o ∷ os) =
        give_both here Hits (cond (is_type (get_or d.elements o.index root_element).kind) (inherited lib true x o ∷ [])
        (declared x o ∷ inherited_tier lib x o ∷ imports_of_all lib x o ∷ [])) (lexical lib library x os)
        (give_cond here Hits (is_type (get_or d.elements o.index root_element).kind) (inherited lib true x o ∷ [])
        (declared x o ∷ inherited_tier lib x o ∷ imports_of_all lib x o ∷ [])
        (gives_inherited lib true x o, tt) (gives_declared x o, (gives_tier lib x o, (gives_imports_of_all x o, tt))))
        (gives_lexical library x os)

    gives_body : (library : Bool) (x : List ℕ) (r : ℕ) (os : List ElementNo) → AllGive here Hits (from_body lib library x r os)
    gives_body library x r [] = gives_last library x
    gives_body library x r (n ∷ os) =
        (gives_declared x n, (gives_effective x n, (gives_tier lib x n, (gives_imports_before r x n, gives_lexical library x os))))

    gives_start : (l : Role) (library : Bool) (x : List ℕ) (d : Data) (r : ℕ) (e : ElementNo) → AllGive here Hits (start lib l library x d r e)
    gives_start role.Subclass library x d r e = gives_lexical library x (drop 1 (outward d e))
    gives_start role.Typing library x d r e = gives_lexical library x (drop 1 (outward d e))
    gives_start role.Subsetting library x d r e = gives_lexical library x (drop 1 (outward d e))
    gives_start role.ReferenceSubsetting library x d r e = gives_lexical library x (drop 1 (outward d e))
    gives_start role.Redefinition library x d r e = gives_owner library x d (drop 1 (outward d e))
    gives_start role.Import library x d r e = gives_body library x r (outward d e)
    gives_start role.Alias library x d r e = gives_lexical library x (outward d e)
    gives_start role.About library x d r e = gives_lexical library x (drop 1 (outward d e))
    gives_start role.Value library x d r e = gives_lexical library x (outward d e)
    gives_start role.Bound library x d r e = gives_lexical library x (outward d e)

    gives_from : (r : RefNo) (library : Bool) (d : Data) (ref : Reference) (path : List (List ℕ))
        → Gives here CourseStands (course_from lib r library d ref path)
    gives_from r library d ref [] = gives_done here CourseStands (Ended (Absent 1)) tt
    gives_from r library d ref (x ∷ xs) = gives_along (first_tiers lib ref library x d r)
        (give_cond here Hits ref.absolute (last_tiers lib library x) (start lib ref.role library x d r.index (record { file = r.file; index = ref.context }))
        (gives_last library x) (gives_start ref.role library x d r.index (record { file = r.file; index = ref.context }))) (xs ++ ref.chain)

    gives_outcome : (r : RefNo) (library : Bool) (d : Data) (ref : Reference)
        → Gives here (Fits files) (course lib r library d ref >>= λ c. done (outcome_of (length ref.path) c))
    gives_outcome r library d ref =
        gives_then here (course lib r library d ref) (λ c. done (outcome_of (length ref.path) c)) (gives_from r library d ref ref.path)
        (λ c p. gives_done here (Fits files) (outcome_of (length ref.path) c) (outcome_stands (length ref.path) c p))

    gives_in : (r : RefNo) (library : Bool) (d : Data) (o : Option Reference)
        → Gives here (Fits files) (in_model (Absent 1) (λ library d ref. course lib r library d ref >>= λ c. done (outcome_of (length ref.path) c)) library d o)
    gives_in r library d None = gives_done here (Fits files) (Absent 1) tt
    gives_in r library d (Some ref) = gives_outcome r library d ref

    pub gives_ask : (r : RefNo) → Gives here (Fits files) (ask lib r)
    gives_ask r = gives_then here (look (File r.file))
        (λ f. in_model (Absent 1) (λ library d ref. course lib r library d ref >>= λ c. done (outcome_of (length ref.path) c)) (is_library f) (model_in f)
        (slice_get (model_in f).references r.index))
        (gives_any here (look (File r.file))) (λ f any. gives_in r (is_library f) (model_in f) (slice_get (model_in f).references r.index))

    sorted_by : (step : Step LinkKey Outcome) (o : Outcome) → sorted_step here step ≡ Done o → step ≡ Done o
    sorted_by (Done x) o d = d
    sorted_by (Waits ks) o d = cc

    pub gives_rule : (k : LinkKey) → Gives here (Fits files) (rule lib k)
    gives_rule k = record { given = λ o e. (gives_ask k.0).given o (sorted_by (ask lib k.0 here).step o e) }

    pub gives_find : (path : List (List ℕ)) → Gives here (Fits files) (find_by lib path)
    gives_find [] = gives_done here (Fits files) (Absent 1) tt
    gives_find (x ∷ xs) = gives_then here (along lib (last_tiers lib false x) xs) (λ c. done (outcome_of (suc (length xs)) c))
        (gives_along (last_tiers lib false x) (gives_last false x) xs)
        (λ c p. gives_done here (Fits files) (outcome_of (suc (length xs)) c) (outcome_stands (suc (length xs)) c p))
