-- Marked values: what is marked stays marked, and nothing else is.
use Rattle.std.proofs.Common.{◌≡◌, ℕ, ◌+◌, ◌<◌, length, get_or, drop, drop-cons, add-one, Bool, true, false, cond, List, [], ◌∷◌, ◌++◌, refl, sym, ◌∙◌, ap, subst, inl, inr, append_assoc, append-nil}
use Rattle.std.proofs.Common.{arith}
use Rattle.std.specs.Prelude.{◌⊎◌, nat_eq, zero, suc}
use Rattle.std.specs.List.{list_any}
use Rattle.std.specs.Cmp.Lexicographic.{pointwise}
use Rattle.std.proofs.lemmas.Bool.Decides.{nat_tests}
use Rattle.linker_base.specs.Members.{IsMember, SameMembers, IsEachOnce, IsExact}
use Rattle.linker_base.proofs.MemberLaws.{member_left, member_right, member_cases, member_test, test_member}
use Rattle.demand_core.specs.Search.{IsRoom}
use Rattle.demand_core.specs.declared.looks.Fact.{Fact}
use Rattle.demand_core.specs.declared.looks.Fact.TheVariants.{Key, Outer}
use Rattle.demand_core.proofs.WalkLaws.{room_marked}
use Rattle.link_model.specs.declared.keys.LinkKey.{LinkKey}
use Rattle.link_model.specs.declared.keys.LinkFact.{LinkFact}
use Rattle.link_model.specs.declared.keys.LinkFact.TheVariants.{File, RootName}
use Rattle.link_model.specs.Keys.{key_is_exact, key_exact, name_exact}
use Rattle.link_walk.specs.Marks.{marked, marked_all, same_fact}

module _ {A : Type 0} (same : A → A → Bool) (exact : IsExact same) where
  now_by : (e : A) (nodes : List A) (b : Bool) → list_any (same e) nodes ≡ b → IsMember (cond b nodes (nodes ++ e ∷ [])) e
  now_by e nodes true h = test_member same exact nodes e h
  now_by e nodes false h = member_right nodes (e ∷ []) e (inl refl)

  kept_by : (e : A) (nodes : List A) (b : Bool) (t : A) → IsMember nodes t → IsMember (cond b nodes (nodes ++ e ∷ [])) t
  kept_by e nodes true t m = m
  kept_by e nodes false t m = member_left nodes (e ∷ []) t m

  new_by : (e : A) (nodes : List A) (b : Bool) (t : A) → IsMember (cond b nodes (nodes ++ e ∷ [])) t → IsMember nodes t ⊎ (e ≡ t)
  new_by e nodes true t m = inl m
  new_by e nodes false t m = elim (member_cases nodes (e ∷ []) t m) [ inl a ↦ inl a | inr b ↦ elim b [ inl is ↦ inr is | inr none ↦ absurd none ] ]

  grown_by : (e : A) (nodes : List A) (b : Bool) → (more : List A) × (cond b nodes (nodes ++ e ∷ []) ≡ nodes ++ more)
  grown_by e nodes true = ([], sym (append-nil nodes))
  grown_by e nodes false = (e ∷ [], refl)

  once_last : (e : A) (nodes : List A) → IsEachOnce nodes → (IsMember nodes e → ⊥) → IsEachOnce (nodes ++ e ∷ [])
  once_last e [] h off = ((λ n. n), tt)
  once_last e (n ∷ nodes) h off = (
    (λ m. elim (member_cases nodes (e ∷ []) n m) [ inl a ↦ h.0 a | inr b ↦ elim b [ inl is ↦ off (inl (sym is)) | inr none ↦ none ] ]),
    once_last e nodes h.1 (λ m. off (inr m)),
  )

  once_by : (e : A) (nodes : List A) (b : Bool) → list_any (same e) nodes ≡ b → IsEachOnce nodes → IsEachOnce (cond b nodes (nodes ++ e ∷ []))
  once_by e nodes true there h = h
  once_by e nodes false there h = once_last e nodes h (λ m. let no : true ≡ false = sym (member_test same exact nodes e m)
      ∙ there in (let none : ⊥ = cc in none))

  -- what is marked stays marked
  pub all_kept : (es nodes : List A) (t : A) → IsMember nodes t → IsMember (marked_all same nodes es) t
  all_kept [] nodes t m = m
  all_kept (e ∷ es) nodes t m = all_kept es (marked same nodes e) t (kept_by e nodes (list_any (same e) nodes) t m)

  -- each of these is marked afterwards
  pub all_now : (es nodes : List A) (t : A) → IsMember es t → IsMember (marked_all same nodes es) t
  all_now [] nodes t m = absurd m
  all_now (e ∷ es) nodes t (inl is) = all_kept es (marked same nodes e) t (subst (IsMember (marked same nodes e)) is (now_by e nodes (list_any
      (same e) nodes) refl))
  all_now (e ∷ es) nodes t (inr m) = all_now es (marked same nodes e) t m

  -- and nothing else
  pub all_new : (es nodes : List A) (t : A) → IsMember (marked_all same nodes es) t → IsMember nodes t ⊎ IsMember es t
  all_new [] nodes t m = inl m
  all_new (e ∷ es) nodes t m = elim (all_new es (marked same nodes e) t m) [
    | inl a ↦ elim (new_by e nodes (list_any (same e) nodes) t a) [ inl old ↦ inl old | inr is ↦ inr (inl is) ]
    | inr b ↦ inr (inr b)
  ]

  -- they are marked at the end
  pub all_grown : (es nodes : List A) → (more : List A) × (marked_all same nodes es ≡ nodes ++ more)
  all_grown [] nodes = ([], sym (append-nil nodes))
  all_grown (e ∷ es) nodes =
      let one = grown_by e nodes (list_any (same e) nodes) in
      let rest = all_grown es (marked same nodes e) in
      (one.0 ++ rest.0, rest.1 ∙ (ap (λ z. z ++ rest.0) one.1 ∙ append_assoc nodes one.0 rest.0))

  -- and each once
  pub all_once : (es nodes : List A) → IsEachOnce nodes → IsEachOnce (marked_all same nodes es)
  all_once [] nodes h = h
  all_once (e ∷ es) nodes h = all_once es (marked same nodes e) (once_by e nodes (list_any (same e) nodes) refl h)

  pub all_room : (all es nodes : List A) → ((e : A) → IsMember es e → IsMember all e) → IsRoom same all nodes → IsRoom same all (marked_all same nodes es)
  all_room all [] nodes fit r = r
  all_room all (e ∷ es) nodes fit r = all_room all es (marked same nodes e) (λ t m. fit t (inr m)) (room_marked same exact e all nodes (fit e (inl refl))
      (list_any (same e) nodes) refl r)

  -- marks on nothing have the same members
  pub marks_same : (es : List A) → SameMembers (marked_all same [] es) es
  marks_same es = record { left = λ t m. elim (all_new es [] t m) [ inl none ↦ absurd none | inr b ↦ b ]; right = λ t m. all_now es [] t m }

-- these, and then those
pub marked_append : {A : Type 0} (same : A → A → Bool) (nodes es fs : List A) → marked_all same nodes (es ++ fs) ≡ marked_all same (marked_all same nodes es) fs
marked_append same nodes [] fs = refl
marked_append same nodes (e ∷ es) fs = marked_append same (marked same nodes e) es fs

-- one more is marked, of a list of them
pub marks_next : {A : Type 0} (same : A → A → Bool) (xs : List A) (i : ℕ) (d : A) (mid new whole : List A) → i < length xs
    → new ≡ marked same mid (get_or xs i d)
    → marked_all same mid (drop i xs) ≡ whole → marked_all same new (drop (i + 1) xs) ≡ whole
marks_next same xs i d mid new whole lt is h =
    ap (λ m. marked_all same m (drop (i + 1) xs)) is ∙ (ap (marked_all same mid) (sym (drop-cons xs i d lt
    ∙ ap (λ j. get_or xs i d ∷ drop j xs) (sym (add-one i)))) ∙ h)

-- an item of a list
pub get_among : {A : Type 0} (xs : List A) (i : ℕ) (d : A) → i < length xs → IsMember xs (get_or xs i d)
get_among [] i d lt = absurd (omega arith)
get_among (x ∷ xs) zero d lt = inl refl
get_among (x ∷ xs) (suc i) d lt = inr (get_among xs i d (omega arith))

nat_itself : (a : ℕ) → nat_eq a a ≡ true
nat_itself a = grind (arith, nat_tests)

name_itself : (x : List ℕ) → pointwise nat_eq x x ≡ true
name_itself [] = refl
name_itself (a ∷ x) = rw (nat_itself a, name_itself x) refl

fact_same : (a b : Fact LinkKey LinkFact) → same_fact a b ≡ true → a ≡ b
fact_same (Key a) (Key b) h = ap Key (key_exact a b h)
fact_same (Key a) (Outer (File g)) h = cc
fact_same (Key a) (Outer (RootName y)) h = cc
fact_same (Outer (File f)) (Key b) h = cc
fact_same (Outer (RootName x)) (Key b) h = cc
fact_same (Outer (File f)) (Outer (File g)) h = let e : f.0 ≡ g.0 = (let z : nat_eq f.0 g.0 ≡ true = h in grind (arith, nat_tests)) in
    λ i. Outer (File (record { 0 = e i }))
fact_same (Outer (File f)) (Outer (RootName y)) h = cc
fact_same (Outer (RootName x)) (Outer (File g)) h = cc
fact_same (Outer (RootName x)) (Outer (RootName y)) h = ap (λ z. Outer (RootName z)) (name_exact x y h)

fact_itself : (a : Fact LinkKey LinkFact) → same_fact a a ≡ true
fact_itself (Key a) = key_is_exact.itself a
fact_itself (Outer (File f)) = nat_itself f.0
fact_itself (Outer (RootName x)) = name_itself x

pub fact_is_exact : IsExact same_fact
fact_is_exact = record { exact = fact_same; itself = fact_itself }
