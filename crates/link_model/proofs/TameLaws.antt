-- Every lookup keeps the three laws, and waits on references alone that stand: each by its shape.
use Rattle.std.proofs.Common.{Bool, List, [], ap, cond, false, inl, inr, refl, subst, sym, true, ℕ, ◌++◌, ◌∷◌, ◌≡◌}
use Rattle.linker_base.specs.Members.{IsMember}
use Rattle.demand_core.specs.Rules.{WaitsOn}
use Rattle.std.specs.List.{list_any}
use Rattle.std.specs.Prelude.{zero, suc, not, ◌||◌, ◌&&◌, nat_eq, nat_lt, map, length, drop, get_or, slice_get, Option, None, Some}
use Rattle.std.specs.List.{flat_map}
use Rattle.std.specs.Cmp.Lexicographic.{pointwise}
use Rattle.demand_core.proofs.ComputationLaws.{both_cases, join_cases}
use Rattle.linker_base.proofs.MemberLaws.{member_left, member_right, member_cases}
use Rattle.demand_core.specs.declared.looks.Fact.{Fact}
use Rattle.demand_core.specs.declared.looks.Fact.TheVariants.{Key, Outer}
use Rattle.demand_core.specs.Computation.{Asked, then_step, read_step, both_step, join_step, done, read, look, ◌>>=◌, both, join, joined, IsRegular}
use Rattle.demand_core.specs.Computed.{WaitsAmong}
use Rattle.demand_core.specs.Gather.{Led, gather, along as along_links, beyond, follow}
use Rattle.demand_core.specs.declared.step.Step.{Step}
use Rattle.demand_core.specs.declared.step.Step.TheVariants.{Done, Waits}
use Rattle.demand_core.proofs.ComputationLaws.{regular_done, regular_read, regular_look, regular_then, regular_both, regular_join, regular_joined, regular_cond, regular_follow}
use Rattle.demand_core.proofs.AmongLaws.{among_done, among_read, among_look, among_then, among_both, among_join, among_joined, among_cond, among_gather}
use Rattle.element_store.specs.declared.numbers.FileNo.{FileNo}
use Rattle.element_store.specs.declared.numbers.ElementNo.{ElementNo}
use Rattle.element_store.specs.declared.numbers.MemberNo.{MemberNo}
use Rattle.element_store.specs.declared.numbers.ImportNo.{ImportNo}
use Rattle.element_store.specs.declared.numbers.RefNo.{RefNo}
use Rattle.element_store.specs.declared.outcome.Role.{Role}
use Rattle.element_store.specs.declared.outcome.Role.TheVariants as role
use Rattle.element_store.specs.declared.outcome.Outcome.{Outcome}
use Rattle.element_store.specs.declared.outcome.Outcome.TheVariants.{Linked, Absent, Ambiguous, Hidden, Cyclic}
use Rattle.element_store.specs.declared.records.Member.{Member}
use Rattle.element_store.specs.declared.records.Import.{Import}
use Rattle.element_store.specs.declared.records.Reference.{Reference}
use Rattle.element_store.specs.declared.records.Target.{Target}
use Rattle.element_store.specs.declared.records.Target.TheVariants.{Owned, Alias}
use Rattle.element_store.specs.Kinds.{is_type, is_feature}
use Rattle.element_store.specs.Model.{Data, root_element, bears}
use Rattle.element_store.specs.Condition.{members_of, imports_of}
use Rattle.element_store.specs.Numbers.{numbers_from}
use Rattle.link_model.specs.declared.keys.LinkKey.{LinkKey}
use Rattle.link_model.specs.declared.keys.Hit.{Hit}
use Rattle.link_model.specs.declared.keys.LinkFact.{LinkFact}
use Rattle.link_model.specs.declared.keys.LinkFact.TheVariants.{File, RootName}
use Rattle.link_model.specs.Keys.{same_element, is_in}
use Rattle.link_model.specs.Outside.{Library, model_in, is_public, is_private}
use Rattle.link_model.specs.Readers.{Lookup, LinkWorld, most, is_nil, only_if, is_named, told, from_first, first_of, model, element, of_members, of_imports, key, references_as, led_to, target}
use Rattle.link_model.specs.Names.{is_redefinition, redefinitions, declared_names, names_from, names, leads_to, hit, declared_hit, hit_named, effective_hit, declared, effective}
use Rattle.link_model.specs.Inheritance.{all_redefined, is_specialisation, Link, types_among, general, base_link, Candidate, Redefines, Removal, candidate, candidates, redefines, redefined_of, redefined_by, redefiners, is_owned_by, removals, blocks, is_redefined_elsewhere, base, general_links, generals, reached, unblocked, stays, inherited, inherited_tier}
use Rattle.link_model.specs.Inheritance.Link.{ByReference, ToBase}
use Rattle.link_model.specs.Imports.{owns, owning_hit, last_written, under_name, narrowed, brought, import_tier, in_owned, inside, own_tiers, visible_from, visible, imported}
use Rattle.link_model.specs.Lexical.{ranked_by, ranked_hits, least_of, Picked, picked_from, pick, outward, member_hit, project_tier, library_tier, imports_of_all, imports_before, tiers, last_tiers, lexical}
use Rattle.link_model.specs.Lexical.Picked.{Nothing, One, Several}
use Rattle.link_model.specs.Asking.{is_library, Course, behind, unseen, hidden_by, outcome_of, elements_on, met, in_model, of_reference, nothing_visible, later, along, from_owner, from_body, start, first_tiers, course_from, course, ask, path_elements, find_by}
use Rattle.link_model.specs.Asking.Course.{Reached, Ended}

-- the reference stands in the model of its file
abbrev pub Stands : LinkWorld → LinkKey → Type 0
Stands w q = nat_lt q.0.index (length (model_in (w.outer (File q.0.file))).references) ≡ true

-- what is waited on has been looked at with its file
abbrev pub HasFiles : {A : Type 0} → Asked LinkKey LinkFact A → Type 0
HasFiles a = (q : LinkKey) → WaitsOn a.step q → IsMember a.looks (Outer (File q.0.file))

-- each reference that was looked at stands
abbrev pub LooksStand : LinkWorld → List (Fact LinkKey LinkFact) → Type 0
LooksStand w looks = (q : LinkKey) → IsMember looks (Key q) → Stands w q

pub record IsTame {A : Type 0} (c : Lookup A) : Type 0 where
  pub regular : IsRegular c
  pub among : (w : LinkWorld) → WaitsAmong (Stands w) (c w)
  pub files : (w : LinkWorld) → HasFiles (c w)
  pub standing : (w : LinkWorld) → LooksStand w (c w).looks

-- the files of what is waited on, by shape

then_files : {A B : Type 0} (a : Asked LinkKey LinkFact A) (f : A → Asked LinkKey LinkFact B) (step : Step LinkKey A) → a.step ≡ step → HasFiles a
    → ((x : A) → HasFiles (f x)) → HasFiles (then_step a f step)
then_files a f (Done x) e h g q m = member_right a.looks (f x).looks (Outer (File q.0.file)) (g x q m)
then_files a f (Waits ks) e h g q m = h q (subst (λ s. WaitsOn s q) (sym e) m)

both_files : {A B : Type 0} (a : Asked LinkKey LinkFact A) (b : Asked LinkKey LinkFact B) → HasFiles a → HasFiles b → (q : LinkKey)
    → WaitsOn (both_step a.step b.step) q → IsMember (a.looks ++ b.looks) (Outer (File q.0.file))
both_files a b h g q m = elim (both_cases a.step b.step q m) [
  | inl x ↦ member_left a.looks b.looks (Outer (File q.0.file)) (h q x)
  | inr y ↦
      member_right a.looks b.looks (Outer (File q.0.file)) (g q y)
]

join_files : {A : Type 0} (a b : Asked LinkKey LinkFact (List A)) → HasFiles a → HasFiles b → (q : LinkKey) → WaitsOn (join_step a.step b.step) q
    → IsMember (a.looks ++ b.looks) (Outer (File q.0.file))
join_files a b h g q m = elim (join_cases a.step b.step q m) [
  | inl x ↦ member_left a.looks b.looks (Outer (File q.0.file)) (h q x)
  | inr y ↦
      member_right a.looks b.looks (Outer (File q.0.file)) (g q y)
]

module _ (w : LinkWorld) where
  joined_files : {A B : Type 0} (f : B → Lookup (List A)) → ((x : B) → HasFiles (f x w)) → (xs : List B) → HasFiles (joined f xs w)
  joined_files f h [] = λ q m. absurd m
  joined_files f h (x ∷ xs) = join_files (f x w) (joined f xs w) (h x) (joined_files f h xs)

  cond_files : {A : Type 0} (b : Bool) (c d : Lookup A) → HasFiles (c w) → HasFiles (d w) → HasFiles (cond b c d w)
  cond_files true c d h g = h
  cond_files false c d h g = g

  gather_files : {A L B : Type 0} (same : A → A → Bool) (links : A → Lookup (List L)) (leads : L → Lookup (Led B A)) → ((a : A) → HasFiles (links a w))
      → ((l : L) → HasFiles (leads l w)) → (n : ℕ) (path : List A) (a : A) → HasFiles (gather same links leads n path a w)
  unfolding gather
  gather_files same links leads h g zero path a = λ q m. absurd m
  gather_files same links leads h g (suc n) path a =
      then_files (links a w) (λ ls. joined (along_links same leads (a ∷ path) (gather same links leads n (a ∷ path))) ls w) (links a w).step refl (h a)
      (λ ls. joined_files (along_links same leads (a ∷ path) (gather same links leads n (a ∷ path))) (λ l.
      then_files (leads l w) (λ r. join (done r.found) (joined (beyond same (a ∷ path) (gather same links leads n (a ∷ path))) r.onward) w)
      (leads l w).step refl (g l) (λ r.
      join_files (done r.found w) (joined (beyond same (a ∷ path) (gather same links leads n (a ∷ path))) r.onward w) (λ q m. absurd m)
      (joined_files (beyond same (a ∷ path) (gather same links leads n (a ∷ path)))
      (λ t. cond_files (list_any (same t) (a ∷ path)) (done []) (gather same links leads n (a ∷ path) t) (λ q m. absurd m)
      (gather_files same links leads h g n (a ∷ path) t)) r.onward))) ls)

-- what was looked at stands, by shape
module _ (w : LinkWorld) where
  both_stand : (xs ys : List (Fact LinkKey LinkFact)) → LooksStand w xs → LooksStand w ys → LooksStand w (xs ++ ys)
  both_stand xs ys h g q m = elim (member_cases xs ys (Key q) m) [ inl i ↦ h q i | inr i ↦ g q i ]

  then_stand : {A B : Type 0} (a : Asked LinkKey LinkFact A) (f : A → Asked LinkKey LinkFact B) (step : Step LinkKey A) → LooksStand w a.looks
      → ((x : A) → step ≡ Done x → LooksStand w (f x).looks) → LooksStand w (then_step a f step).looks
  then_stand a f (Done x) h g = both_stand a.looks (f x).looks h (g x refl)
  then_stand a f (Waits ks) h g = h

  joined_stand : {A B : Type 0} (f : B → Lookup (List A)) → ((x : B) → LooksStand w (f x w).looks) → (xs : List B) → LooksStand w (joined f xs w).looks
  joined_stand f h [] = λ q m. absurd m
  joined_stand f h (x ∷ xs) = both_stand (f x w).looks (joined f xs w).looks (h x) (joined_stand f h xs)

  cond_stand : {A : Type 0} (b : Bool) (c d : Lookup A) → LooksStand w (c w).looks → LooksStand w (d w).looks → LooksStand w (cond b c d w).looks
  cond_stand true c d h g = h
  cond_stand false c d h g = g

  gather_stand : {A L B : Type 0} (same : A → A → Bool) (links : A → Lookup (List L)) (leads : L → Lookup (Led B A))
      → ((a : A) → LooksStand w (links a w).looks) → ((l : L) → LooksStand w (leads l w).looks) → (n : ℕ) (path : List A) (a : A)
      → LooksStand w (gather same links leads n path a w).looks
  unfolding gather
  gather_stand same links leads h g zero path a = λ q m. absurd m
  gather_stand same links leads h g (suc n) path a =
      then_stand (links a w) (λ ls. joined (along_links same leads (a ∷ path) (gather same links leads n (a ∷ path))) ls w) (links a w).step (h a)
      (λ ls e. joined_stand (along_links same leads (a ∷ path) (gather same links leads n (a ∷ path))) (λ l.
      then_stand (leads l w) (λ r. join (done r.found) (joined (beyond same (a ∷ path) (gather same links leads n (a ∷ path))) r.onward) w)
      (leads l w).step (g l) (λ r is.
      joined_stand (beyond same (a ∷ path) (gather same links leads n (a ∷ path)))
      (λ t. cond_stand (list_any (same t) (a ∷ path)) (done []) (gather same links leads n (a ∷ path) t) (λ q m. absurd m)
      (gather_stand same links leads h g n (a ∷ path) t)) r.onward)) ls)

-- the parts

ok : {A : Type 0} (x : A) → IsTame (done x)
ok x = record { regular = regular_done x; among = λ w. among_done (Stands w) w x; files = λ w q m. absurd m; standing = λ w q m. absurd m }

no_key : (f : LinkFact) (q : LinkKey) → IsMember {A = Fact LinkKey LinkFact} (Outer f ∷ []) (Key q) → ⊥
no_key f q (inl e) = cc
no_key f q (inr n) = n

looked : (f : LinkFact) → IsTame (look f)
looked f = record {
  regular = regular_look f;
  among = λ w. among_look (Stands w) w f;
  files = λ w q m. absurd m;
  standing = λ w q m. absurd (no_key f q m);
}

then : {A B : Type 0} {c : Lookup A} {f : A → Lookup B} → IsTame c → ((x : A) → IsTame (f x)) → IsTame (c >>= f)
then {c = c} {f = f} r u = record {
  regular = regular_then c f r.regular (λ x. (u x).regular);
  among = λ w. among_then (Stands w) w c f (r.among w) (λ x e. (u x).among w);
  files = λ w. then_files (c w) (λ x. f x w) (c w).step refl (r.files w) (λ x. (u x).files w);
  standing = λ w. then_stand w (c w) (λ x. f x w) (c w).step (r.standing w) (λ x e. (u x).standing w);
}

united : {A B : Type 0} {f : A → Lookup (List B)} → ((x : A) → IsTame (f x)) → (xs : List A) → IsTame (joined f xs)
united {f = f} r xs = record {
  regular = regular_joined f (λ x. (r x).regular) xs;
  among = λ w. among_joined (Stands w) w f (λ x. (r x).among w) xs;
  files = λ w. joined_files w f (λ x. (r x).files w) xs;
  standing = λ w. joined_stand w f (λ x. (r x).standing w) xs;
}

either : {A : Type 0} (b : Bool) {c d : Lookup A} → IsTame c → IsTame d → IsTame (cond b c d)
either b {c = c} {d = d} r u =
    record {
      regular = regular_cond b c d r.regular u.regular;
      among = λ w. among_cond (Stands w) w b c d (r.among w) (u.among w);
      files = λ w. cond_files w b c d (r.files w) (u.files w);
      standing = λ w. cond_stand w b c d (r.standing w) (u.standing w);
    }

beside : {A : Type 0} {c d : Lookup (List A)} → IsTame c → IsTame d → IsTame (join c d)
beside {c = c} {d = d} r u =
    record {
      regular = regular_join c d r.regular u.regular;
      among = λ w. among_join (Stands w) w c d (r.among w) (u.among w);
      files = λ w. join_files (c w) (d w) (r.files w) (u.files w);
      standing = λ w. both_stand w (c w).looks (d w).looks (r.standing w) (u.standing w);
    }

pair : {A B : Type 0} {c : Lookup A} {d : Lookup B} → IsTame c → IsTame d → IsTame (both c d)
pair {c = c} {d = d} r u =
    record {
      regular = regular_both c d r.regular u.regular;
      among = λ w. among_both (Stands w) w c d (r.among w) (u.among w);
      files = λ w. both_files (c w) (d w) (r.files w) (u.files w);
      standing = λ w. both_stand w (c w).looks (d w).looks (r.standing w) (u.standing w);
    }

followed : {A L : Type 0} (same : A → A → Bool) (links : A → Lookup (List L)) (ends : L → Lookup (List A)) → ((a : A) → IsTame (links a))
    → ((l : L) → IsTame (ends l)) → (n : ℕ) (a : A) → IsTame (follow same links ends n a)
followed same links ends r u n a = record {
  regular = regular_follow same links ends (λ b. (r b).regular) (λ l. (u l).regular) n a;
  among = λ w. among_gather (Stands w) w same links (λ l. ends l >>= λ ts. done (record { found = ts; onward = ts })) (λ b. (r b).among w)
      (λ l. among_then (Stands w) w (ends l) (λ ts. done (record { found = ts; onward = ts })) ((u l).among w) (λ ts e q h. absurd h)) n [] a;
  files = λ w. gather_files w same links (λ l. ends l >>= λ ts. done (record { found = ts; onward = ts })) (λ b. (r b).files w)
      (λ l. then_files (ends l w) (λ ts. done (record { found = ts; onward = ts }) w) (ends l w).step refl ((u l).files w) (λ ts q m. absurd m)) n [] a;
  standing = λ w. gather_stand w same links (λ l. ends l >>= λ ts. done (record { found = ts; onward = ts })) (λ b. (r b).standing w)
      (λ l. then_stand w (ends l w) (λ ts. done (record { found = ts; onward = ts }) w) (ends l w).step ((u l).standing w) (λ ts e q m. absurd m)) n [] a;
}

-- readers

tell : {A B : Type 0} (f : A → Lookup (List B)) → ((x : A) → IsTame (f x)) → (o : Option A) → IsTame (told o f)
tell f r None = ok []
tell f r (Some x) = r x

first : {A B : Type 0} (f : A → Lookup (List B)) → ((x : A) → IsTame (f x)) → (xs : List A) → IsTame (from_first f xs)
first f r [] = ok []
first f r (x ∷ xs) = r x

-- each of a list is tame
abbrev pub AreTame : {A : Type 0} → List (Lookup A) → Type 0
AreTame [] = Unit {0}
AreTame (c ∷ cs) = IsTame c × AreTame cs

both_tame : {A : Type 0} (cs ds : List (Lookup A)) → AreTame cs → AreTame ds → AreTame (cs ++ ds)
both_tame [] ds r u = u
both_tame (c ∷ cs) ds r u = (r.0, both_tame cs ds r.1 u)

first_tame : {A : Type 0} (cs : List (Lookup (List A))) → AreTame cs → IsTame (first_of cs)
first_tame [] r = ok []
first_tame (c ∷ cs) r = then r.0 (λ xs. either (is_nil xs) (first_tame cs r.1) (ok xs))

model_tame : (f : FileNo) → IsTame (model f)
model_tame f = then (looked (File f)) (λ s. ok (model_in s))

pub element_tame : (e : ElementNo) → IsTame (element e)
element_tame e = then (model_tame e.file) (λ d. ok (get_or d.elements e.index root_element))

of_members_tame : {A : Type 0} {f : ℕ → Member → Lookup (List A)} → ((k : ℕ) (m : Member) → IsTame (f k m)) → (n : ElementNo) → IsTame (of_members f n)
of_members_tame {f = f} r n = then (model_tame n.file) (λ d. united (λ k. tell (f k) (r k) (slice_get d.members k)) (members_of d n.index))

of_imports_tame : {A : Type 0} {f : Import → Lookup (List A)} → ((i : Import) → IsTame (f i)) → (n : ElementNo) → IsTame (of_imports f n)
of_imports_tame {f = f} r n = then (model_tame n.file) (λ d. united (λ k. tell f r (slice_get d.imports k)) (imports_of d n.index))

references_tame : (fits : Role → Bool) (e : ElementNo) → IsTame (references_as fits e)
references_tame fits e = then (model_tame e.file) (λ d. ok (map (key e.file) (numbers_from 0 (λ r. nat_eq r.context e.index && fits r.role) d.references)))

led_tame : (o : Outcome) → IsTame (led_to o)
led_tame (Linked steps e) = then (looked (File e.file)) (λ s. ok (e ∷ []))
led_tame (Absent segment) = ok []
led_tame (Ambiguous segment one other) = ok []
led_tame (Hidden segment member) = ok []
led_tame (Cyclic on) = ok []

same_inside : (d e : Data) (s : Step LinkKey Data) → s ≡ Done d → s ≡ Done e → d ≡ e
same_inside d e s g h = cc

read_or_not : (w : LinkWorld) (r : LinkKey) (b : Bool) → (b ≡ true → Stands w r) → WaitsAmong (Stands w) (cond b (read r >>= led_to) (done []) w)
read_or_not w r true h = among_then (Stands w) w (read r) led_to (among_read (Stands w) w r (h refl)) (λ o e. (led_tame o).among w)
read_or_not w r false h = λ q none. absurd none

read_files : (w : LinkWorld) (r : LinkKey) (b : Bool) (q : LinkKey) → WaitsOn (cond b (read r >>= led_to) (done []) w).step q → q ≡ r
read_files w r true q m = by (w.table r) m
  where
    by : (o : Option Outcome) → WaitsOn (then_step (record { step = read_step r o; looks = Key r ∷ [] }) (λ x. led_to x w) (read_step r o)).step q → q ≡ r
    by None (inl e) = sym e
    by None (inr n) = absurd n
    by (Some o) n = absurd (led_done o n)
      where
        led_done : (x : Outcome) → WaitsOn (led_to x w).step q → ⊥
        led_done (Linked steps e) n = n
        led_done (Absent k) n = n
        led_done (Ambiguous k a b) n = n
        led_done (Hidden k a) n = n
        led_done (Cyclic on) n = n
read_files w r false q m = absurd m

read_stands : (w : LinkWorld) (r : LinkKey) (b : Bool) → (b ≡ true → Stands w r) → LooksStand w (cond b (read r >>= led_to) (done []) w).looks
read_stands w r true h = then_stand w (read r w) (λ o. led_to o w) (read r w).step own (λ o e. (led_tame o).standing w)
  where
    own : LooksStand w (Key r ∷ [])
    own q (inl e) = let same : r ≡ q = cc in subst (Stands w) same (h refl)
    own q (inr n) = absurd n
read_stands w r false h = λ q none. absurd none

pub target_tame : (r : LinkKey) → IsTame (target r)
target_tame r = record {
  regular = regular_then (model r.0.file) (λ d. cond (nat_lt r.0.index (length d.references)) (read r >>= led_to) (done [])) (model_tame r.0.file).regular
      (λ d. regular_cond (nat_lt r.0.index (length d.references)) (read r >>= led_to) (done [])
      (regular_then (read r) led_to (regular_read r) (λ o. (led_tame o).regular)) (regular_done []));
  among = λ w. among_then (Stands w) w (model r.0.file) (λ d. cond (nat_lt r.0.index (length d.references)) (read r >>= led_to) (done []))
      ((model_tame r.0.file).among w)
      (λ d e. read_or_not w r (nat_lt r.0.index (length d.references)) (λ h.
      subst (λ (x : Data). nat_lt r.0.index (length x.references) ≡ true)
      (sym (same_inside (model_in (w.outer (File r.0.file))) d (model r.0.file w).step refl e)) h));
  files = λ w q m.
      let e : q ≡ r = read_files w r (nat_lt r.0.index (length (model_in (w.outer (File r.0.file))).references)) q m in
      inl (ap (λ k. Outer (File k.0.file)) (sym e));
  standing = λ w. then_stand w (model r.0.file w) (λ d. cond (nat_lt r.0.index (length d.references)) (read r >>= led_to) (done []) w)
      (model r.0.file w).step ((model_tame r.0.file).standing w)
      (λ d e. read_stands w r (nat_lt r.0.index (length d.references)) (λ h.
      subst (λ (x : Data). nat_lt r.0.index (length x.references) ≡ true)
      (sym (same_inside (model_in (w.outer (File r.0.file))) d (model r.0.file w).step refl e)) h));
}

-- names

redefinitions_tame : (f : ElementNo) → IsTame (redefinitions f)
redefinitions_tame f = then (element_tame f) (λ x. either (is_feature x.kind) (references_tame is_redefinition f) (ok []))

names_from_tame : (n : ℕ) (walked : List ElementNo) (e : ElementNo) → IsTame (names_from n walked e)
unfolding names_from
names_from_tame zero walked e = ok []
names_from_tame (suc n) walked e =
    then (element_tame e) (λ x. either (not (is_nil (declared_names x.short x.name))) (ok (declared_names x.short x.name))
    (either (is_in e walked) (ok []) (then (redefinitions_tame e) (first (λ r. target r >>= from_first (names_from n (e ∷ walked)))
    (λ r. then (target_tame r) (first (names_from n (e ∷ walked)) (names_from_tame n (e ∷ walked))))))))

pub names_tame : (e : ElementNo) → IsTame (names e)
names_tame e = names_from_tame most [] e

leads_tame : (f : FileNo) (t : Target) → IsTame (leads_to f t)
leads_tame f (Owned e) = ok (record { file = f; index = e } ∷ [])
leads_tame f (Alias r) = target_tame (key f r)

hit_tame : (f : FileNo) (k : ℕ) (m : Member) → IsTame (hit f k m)
hit_tame f k m = then (leads_tame f m.target) (λ es. ok (map (λ e. record { member = record { file = f; index = k }; element = e }) es))

declared_hit_tame : (x : List ℕ) (f : FileNo) (k : ℕ) (m : Member) → IsTame (declared_hit x f k m)
declared_hit_tame x f k m = either (bears x m) (hit_tame f k m) (ok [])

hit_named_tame : (x : List ℕ) (f : FileNo) (k : ℕ) (t : Target) → IsTame (hit_named x f k t)
hit_named_tame x f k (Owned e) =
    then (names_tame (record { file = f; index = e }))
    (λ ns. ok (only_if (is_named x ns) (record { member = record { file = f; index = k }; element = record { file = f; index = e } })))
hit_named_tame x f k (Alias r) = ok []

effective_hit_tame : (x : List ℕ) (f : FileNo) (k : ℕ) (m : Member) → IsTame (effective_hit x f k m)
effective_hit_tame x f k m = either (is_nil (declared_names m.short m.name)) (hit_named_tame x f k m.target) (ok [])

pub declared_tame : (x : List ℕ) (n : ElementNo) → IsTame (declared x n)
declared_tame x n = of_members_tame (declared_hit_tame x n.file) n

pub effective_tame : (x : List ℕ) (n : ElementNo) → IsTame (effective x n)
effective_tame x n = of_members_tame (effective_hit_tame x n.file) n

-- inheritance

pub all_redefined_tame : (f : ElementNo) → IsTame (all_redefined f)
all_redefined_tame f = followed same_element redefinitions target redefinitions_tame target_tame most f

types_tame : (es : List ElementNo) → IsTame (types_among es)
types_tame = united (λ e. then (element_tame e) (λ x. ok (only_if (is_type x.kind) e)))

general_tame : (l : Link) → IsTame (general l)
general_tame (ByReference r) = then (target_tame r) types_tame
general_tame (ToBase b) = then (element_tame b) (λ x. ok (b ∷ []))

candidate_tame : (x : List ℕ) (s : ElementNo) (k : ℕ) (m : Member) → IsTame (candidate x s k m)
candidate_tame x s k m = either (is_private m.visibility) (ok [])
    (then (beside (declared_hit_tame x s.file k m) (effective_hit_tame x s.file k m)) (λ hs. ok (map (λ h. record { owner = s; hit = h }) hs)))

pub candidate_stage_tame : (x : List ℕ) (t s : ElementNo) → IsTame (cond (same_element s t) (done []) (of_members (candidate x s) s))
candidate_stage_tame x t s = either (same_element s t) (ok []) (of_members_tame (candidate_tame x s) s)

pub candidates_tame : (x : List ℕ) (t : ElementNo) (us : List ElementNo) → IsTame (candidates x t us)
candidates_tame x t = united (candidate_stage_tame x t)

redefined_of_tame : (u : ElementNo) (hidden : Bool) (f : ElementNo) → IsTame (redefined_of u hidden f)
redefined_of_tame u hidden f = then (element_tame f) (λ x. either (is_feature x.kind)
    (beside (then (then (redefinitions_tame f) (united target_tame)) (λ gs. ok (map (redefines u f hidden true) gs)))
    (then (all_redefined_tame f) (λ gs. ok (map (redefines u f hidden false) gs))))
    (ok []))

redefined_by_tame : (u : ElementNo) (hidden : Bool) (t : Target) → IsTame (redefined_by u hidden t)
redefined_by_tame u hidden (Alias r) = ok []
redefined_by_tame u hidden (Owned e) = redefined_of_tame u hidden (record { file = u.file; index = e })

pub redefiners_tame : (raw : Bool) (t u : ElementNo) → IsTame (redefiners raw t u)
redefiners_tame raw t u = either (raw && same_element u t) (ok []) (of_members_tame (λ k m. redefined_by_tame u (is_private m.visibility) m.target) u)

pub removals_tame : (raw : Bool) (t : ElementNo) (c : Candidate) → IsTame (removals raw t c)
removals_tame raw t c =
    then (element_tame c.hit.element) (λ x. either (raw && is_owned_by t c.hit.element x.owner) (ok [])
    (then (all_redefined_tame c.hit.element)
    (united (λ g. then (element_tame g) (λ y. ok (only_if (is_feature y.kind) (record { of = c.hit.element; redefined = g })))))))

narrowed_tame : (all : Bool) (hs : List Hit) → IsTame (narrowed all hs)
narrowed_tame all = united
    (λ h. then (model_tame h.member.file)
    (λ d. tell (λ m. done (only_if (all || is_public m.visibility) h)) (λ m. ok (only_if (all || is_public m.visibility) h))
    (slice_get d.members h.member.index)))

owning_tame : (e : ElementNo) → IsTame (owning_hit e)
owning_tame e = then (model_tame e.file)
    (λ d. ok (map (λ k. record { member = record { file = e.file; index = k }; element = e }) (numbers_from 0 (λ m. owns e.index m.target) d.members)))

under_name_tame : (x last : List ℕ) (e : ElementNo) → IsTame (under_name x last e)
under_name_tame x last e =
    either (pointwise nat_eq x last) (owning_tame e) (then (names_tame e) (λ ns. either (is_named x ns && is_named last ns) (owning_tame e) (ok [])))

module _ (again : Bool → Bool → ElementNo → Lookup (List Hit)) (r : (recursive all : Bool) (e : ElementNo) → IsTame (again recursive all e)) where
  brought_tame : (x : List ℕ) (f : FileNo) (i : Import) → IsTame (brought again x f i)
  brought_tame x f i = then (model_tame f) (λ d. then (target_tame (key f i.reference)) (united (λ e.
      either i.star (r i.recursive i.all e) (beside (under_name_tame x (last_written d i) e) (either i.recursive (r true i.all e) (ok []))))))

  import_tier_tame : (taken : Import → Bool) (x : List ℕ) (n : ElementNo) → IsTame (import_tier again taken x n)
  import_tier_tame taken x n = of_imports_tame (λ i. either (taken i) (brought_tame x n.file i) (ok [])) n

  in_owned_tame : (all : Bool) (f : FileNo) (t : Target) → IsTame (in_owned again all f t)
  in_owned_tame all f (Owned e) = r true all (record { file = f; index = e })
  in_owned_tame all f (Alias l) = ok []

  inside_tame : (all : Bool) (n : ElementNo) → IsTame (inside again all n)
  inside_tame all n = of_members_tame (λ k m. either (all || is_public m.visibility) (in_owned_tame all n.file m.target) (ok [])) n

ranked_tame : (hs : List Hit) → IsTame (ranked_hits hs)
ranked_tame = united (λ h. then (looked (File h.member.file)) (λ s. ok (ranked_by s h.member.index h ∷ [])))

pub pick_tame : (hs : List Hit) → IsTame (pick hs)
pick_tame hs = then (ranked_tame hs) (λ rs. ok (picked_from rs (least_of rs)))

member_hit_tame : (m : MemberNo) → IsTame (member_hit m)
member_hit_tame m = then (model_tame m.file) (λ d. tell (hit m.file m.index) (hit_tame m.file m.index) (slice_get d.members m.index))

project_tame : (x : List ℕ) → IsTame (project_tier x)
project_tame x = then (looked (RootName x)) (united member_hit_tame)

unseen_tame : (hs : List Hit) → IsTame (unseen hs)
unseen_tame = united (λ h.
    then (model_tame h.member.file)
    (λ d. tell (λ m. done (only_if (not (is_public m.visibility)) h)) (λ m. ok (only_if (not (is_public m.visibility)) h))
    (slice_get d.members h.member.index)))

met_tame : (again : ElementNo → Lookup Course) (nothing : Lookup Course) → ((e : ElementNo) → IsTame (again e)) → IsTame nothing → (number : ℕ) (p : Picked)
    → IsTame (met again nothing number p)
met_tame again nothing r u number Nothing = u
met_tame again nothing r u number (One e) = then (r e) (λ c. ok (behind e c))
met_tame again nothing r u number (Several one other) = ok (Ended (Ambiguous number one other))

in_model_tame : {A : Type 0} (x : A) (f : Bool → Data → Reference → Lookup A) → ((library : Bool) (d : Data) (ref : Reference) → IsTame (f library d ref))
    → (library : Bool) (d : Data) (o : Option Reference) → IsTame (in_model x f library d o)
in_model_tame x f r library d None = ok x
in_model_tame x f r library d (Some ref) = r library d ref

of_reference_tame : {A : Type 0} (x : A) (f : Bool → Data → Reference → Lookup A) → ((library : Bool) (d : Data) (ref : Reference) → IsTame (f library d ref))
    → (r : RefNo) → IsTame (of_reference x f r)
of_reference_tame x f u r = then (looked (File r.file)) (λ s. in_model_tame x f u (is_library s) (model_in s) (slice_get (model_in s).references r.index))

module _ (lib : Library) where
  general_links_tame : (t : ElementNo) → IsTame (general_links lib t)
  general_links_tame t = then (references_tame is_specialisation t) (λ rs. then (model_tame t.file) (λ d.
      ok (map ByReference rs ++ base_link t (base lib d t (get_or d.elements t.index root_element)))))

  pub generals_tame : (t : ElementNo) → IsTame (generals lib t)
  generals_tame t = then (general_links_tame t) (united general_tame)

  pub reached_tame : (t : ElementNo) → IsTame (reached lib t)
  reached_tame t = followed same_element (general_links lib) general general_links_tame general_tame most t

  unblocked_tame : (rs : List Redefines) (ps : List Removal) (e t : ElementNo) → IsTame (unblocked lib rs ps e t)
  unblocked_tame rs ps e t =
      followed same_element (λ u. cond (blocks rs ps e u) (done []) (general_links lib u)) general
      (λ u. either (blocks rs ps e u) (ok []) (general_links_tame u)) general_tame most t

  pub stays_tame : (us : List ElementNo) (t : ElementNo) (rs : List Redefines) (ps : List Removal) (c : Candidate) → IsTame (stays lib us t rs ps c)
  stays_tame us t rs ps c =
      either (is_redefined_elsewhere us rs c.hit.element) (ok []) (then (unblocked_tame rs ps c.hit.element t) (λ vs. ok (only_if (is_in c.owner vs) c.hit)))

  pub inherited_tame : (raw : Bool) (x : List ℕ) (t : ElementNo) → IsTame (inherited lib raw x t)
  inherited_tame raw x t =
      then (reached_tame t) (λ us. then (candidates_tame x t us) (λ cs. either (is_nil cs) (ok [])
      (then (pair (united (redefiners_tame raw t) (t ∷ us)) (united (removals_tame raw t) cs)) (λ p. united (stays_tame us t p.0 p.1) cs))))

  pub inherited_tier_tame : (x : List ℕ) (n : ElementNo) → IsTame (inherited_tier lib x n)
  inherited_tier_tame x n = then (element_tame n) (λ e. either (is_type e.kind) (inherited_tame false x n) (ok []))

  own_tiers_tame : (all : Bool) (x : List ℕ) (n : ElementNo) → AreTame (own_tiers lib all x n)
  own_tiers_tame all x n = (
    then (declared_tame x n) (narrowed_tame all),
    (then (effective_tame x n) (narrowed_tame all), (then (inherited_tier_tame x n) (narrowed_tame all), tt)),
  )

  visible_from_tame : (k : ℕ) (x : List ℕ) (excluded : List ElementNo) (recursive all : Bool) (n : ElementNo)
      → IsTame (visible_from lib k x excluded recursive all n)
  unfolding visible_from
  visible_from_tame zero x excluded recursive all n = ok []
  visible_from_tame (suc k) x excluded recursive all n =
      let r = visible_from_tame k x (n ∷ excluded) in
      let again = visible_from lib k x (n ∷ excluded) in
      either (is_in n excluded) (ok []) (beside
      (then (first_tame (own_tiers lib all x n) (own_tiers_tame all x n))
      (λ hs. either (is_nil hs) (import_tier_tame again r (λ i. all || is_public i.visibility) x n) (ok hs)))
      (either recursive (inside_tame again r all n) (ok [])))

  pub visible_tame : (x : List ℕ) (excluded : List ElementNo) (recursive all : Bool) (n : ElementNo) → IsTame (visible lib x excluded recursive all n)
  visible_tame x excluded recursive all n = visible_from_tame most x excluded recursive all n

  pub imported_tame : (x : List ℕ) (excluded : List ElementNo) (i : ImportNo) → IsTame (imported lib x excluded i)
  imported_tame x excluded i =
      then (model_tame i.file) (λ d.
      tell (brought (visible lib x excluded) x i.file) (brought_tame (visible lib x excluded) (visible_tame x excluded) x i.file) (slice_get d.imports i.index))

  library_tier_tame : (x : List ℕ) → IsTame (library_tier lib x)
  library_tier_tame x = united member_hit_tame (lib.roots x)

  imports_of_all_tame : (x : List ℕ) (n : ElementNo) → IsTame (imports_of_all lib x n)
  imports_of_all_tame x n = import_tier_tame (visible lib x (n ∷ [])) (visible_tame x (n ∷ [])) (λ i. true) x n

  imports_before_tame : (r : ℕ) (x : List ℕ) (n : ElementNo) → IsTame (imports_before lib r x n)
  imports_before_tame r x n = import_tier_tame (visible lib x (n ∷ [])) (visible_tame x (n ∷ [])) (λ i. nat_lt i.reference r) x n

  tiers_tame : (x : List ℕ) (n : ElementNo) → AreTame (tiers lib x n)
  tiers_tame x n = (declared_tame x n, (effective_tame x n, (inherited_tier_tame x n, (imports_of_all_tame x n, tt))))

  last_tame : (library : Bool) (x : List ℕ) → AreTame (last_tiers lib library x)
  last_tame true x = (library_tier_tame x, tt)
  last_tame false x = (project_tame x, (library_tier_tame x, tt))

  all_tiers_tame : (x : List ℕ) (ns : List ElementNo) → AreTame (flat_map (tiers lib x) ns)
  all_tiers_tame x [] = tt
  all_tiers_tame x (n ∷ ns) = both_tame (tiers lib x n) (flat_map (tiers lib x) ns) (tiers_tame x n) (all_tiers_tame x ns)

  lexical_tame : (library : Bool) (x : List ℕ) (ns : List ElementNo) → AreTame (lexical lib library x ns)
  lexical_tame library x ns = both_tame (flat_map (tiers lib x) ns) (last_tiers lib library x) (all_tiers_tame x ns) (last_tame library x)

  -- asking

  nothing_tame : (number : ℕ) (x : List ℕ) (e : ElementNo) → IsTame (nothing_visible lib number x e)
  nothing_tame number x e =
      then (then (then (beside (declared_tame x e) (beside (effective_tame x e) (inherited_tier_tame x e))) unseen_tame) ranked_tame)
      (λ rs. ok (Ended (hidden_by number (least_of rs))))

  later_tame : (number : ℕ) (xs : List (List ℕ)) (e : ElementNo) → IsTame (later lib number xs e)
  later_tame number [] e = ok (Reached [])
  later_tame number (x ∷ xs) e =
      then (then (visible_tame x [] false false e) pick_tame)
      (met_tame (later lib (suc number) xs) (nothing_visible lib number x e) (later_tame (suc number) xs) (nothing_tame number x e) number)

  along_tame : (ts : List (Lookup (List Hit))) → AreTame ts → (more : List (List ℕ)) → IsTame (along lib ts more)
  along_tame ts r more = then (then (first_tame ts r) pick_tame)
      (met_tame (later lib 2 more) (done (Ended (Absent 1))) (later_tame 2 more) (ok (Ended (Absent 1))) 1)

  choice_tame : (b : Bool) (cs ds : List (Lookup (List Hit))) → AreTame cs → AreTame ds → AreTame (cond b cs ds)
  choice_tame true cs ds r u = r
  choice_tame false cs ds r u = u

  owner_tame : (library : Bool) (x : List ℕ) (d : Data) (os : List ElementNo) → AreTame (from_owner lib library x d os)
  owner_tame library x d [] = last_tame library x
  owner_tame library x d (o ∷ os) =
      both_tame (cond (is_type (get_or d.elements o.index root_element).kind) (inherited lib true x o ∷ [])
      (declared x o ∷ inherited_tier lib x o ∷ imports_of_all lib x o ∷ [])) (lexical lib library x os)
      (choice_tame (is_type (get_or d.elements o.index root_element).kind) (inherited lib true x o ∷ [])
      (declared x o ∷ inherited_tier lib x o ∷ imports_of_all lib x o ∷ [])
      (inherited_tame true x o, tt) (declared_tame x o, (inherited_tier_tame x o, (imports_of_all_tame x o, tt))))
      (lexical_tame library x os)

  body_tame : (library : Bool) (x : List ℕ) (r : ℕ) (os : List ElementNo) → AreTame (from_body lib library x r os)
  body_tame library x r [] = last_tame library x
  body_tame library x r (n ∷ os) = (declared_tame x n, (effective_tame x n, (inherited_tier_tame x n, (imports_before_tame r x n, lexical_tame library x os))))

  start_tame : (l : Role) (library : Bool) (x : List ℕ) (d : Data) (r : ℕ) (e : ElementNo) → AreTame (start lib l library x d r e)
  start_tame role.Subclass library x d r e = lexical_tame library x (drop 1 (outward d e))
  start_tame role.Typing library x d r e = lexical_tame library x (drop 1 (outward d e))
  start_tame role.Subsetting library x d r e = lexical_tame library x (drop 1 (outward d e))
  start_tame role.ReferenceSubsetting library x d r e = lexical_tame library x (drop 1 (outward d e))
  start_tame role.Redefinition library x d r e = owner_tame library x d (drop 1 (outward d e))
  start_tame role.Import library x d r e = body_tame library x r (outward d e)
  start_tame role.Alias library x d r e = lexical_tame library x (outward d e)
  start_tame role.About library x d r e = lexical_tame library x (drop 1 (outward d e))
  start_tame role.Value library x d r e = lexical_tame library x (outward d e)
  start_tame role.Bound library x d r e = lexical_tame library x (outward d e)

  first_tiers_tame : (ref : Reference) (library : Bool) (x : List ℕ) (d : Data) (r : RefNo) → AreTame (first_tiers lib ref library x d r)
  first_tiers_tame ref library x d r =
      choice_tame ref.absolute (last_tiers lib library x) (start lib ref.role library x d r.index (record { file = r.file; index = ref.context }))
      (last_tame library x) (start_tame ref.role library x d r.index (record { file = r.file; index = ref.context }))

  course_from_tame : (r : RefNo) (library : Bool) (d : Data) (ref : Reference) (path : List (List ℕ)) → IsTame (course_from lib r library d ref path)
  course_from_tame r library d ref [] = ok (Ended (Absent 1))
  course_from_tame r library d ref (x ∷ xs) = along_tame (first_tiers lib ref library x d r) (first_tiers_tame ref library x d r) (xs ++ ref.chain)

  pub course_tame : (r : RefNo) (library : Bool) (d : Data) (ref : Reference) → IsTame (course lib r library d ref)
  course_tame r library d ref = course_from_tame r library d ref ref.path

  pub ask_tame : (r : RefNo) → IsTame (ask lib r)
  ask_tame r = of_reference_tame (Absent 1) (λ library d ref. course lib r library d ref >>= λ c. done (outcome_of (length ref.path) c))
      (λ library d ref. then (course_tame r library d ref) (λ c. ok (outcome_of (length ref.path) c))) r

  pub path_tame : (r : RefNo) → IsTame (path_elements lib r)
  path_tame r = of_reference_tame [] (λ library d ref. course lib r library d ref >>= λ c. done (elements_on c))
      (λ library d ref. then (course_tame r library d ref) (λ c. ok (elements_on c))) r

  pub find_tame : (path : List (List ℕ)) → IsTame (find_by lib path)
  find_tame [] = ok (Absent 1)
  find_tame (x ∷ xs) = then (along_tame (last_tiers lib false x) (last_tame false x) xs) (λ c. ok (outcome_of (suc (length xs)) c))
