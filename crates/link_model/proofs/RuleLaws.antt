-- The rules of links are lawful: keys each once, waits among the keys and least first, answers that fit.
use Rattle.std.proofs.Common.{◌≡◌, ℕ, ◌<◌, ◌≤◌, ◌+◌, true, List, [], ◌∷◌, ◌++◌, refl, sym, ◌∙◌, ap, subst, inl, inr, arith, ◌⊎◌}
use Rattle.std.proofs.lemmas.Bool.Decides.{nat_tests}
use Rattle.std.specs.Prelude.{zero, suc, nat_lt, map, length, slice_get, Option, None, Some}
use Rattle.std.specs.List.{flat_map}
use Rattle.linker_base.specs.Members.{IsMember, SameMembers, IsEachOnce}
use Rattle.linker_base.proofs.Cases.{bool_cases}
use Rattle.linker_base.proofs.MemberLaws.{member_left, member_right, member_cases, member_map}
use Rattle.demand_core.specs.Rules.{WaitsOn}
use Rattle.demand_core.specs.Tables.{Decided}
use Rattle.demand_core.specs.Computation.{Asked, IsSound}
use Rattle.demand_core.specs.Computed.{world}
use Rattle.demand_core.specs.declared.looks.Fact.{Fact}
use Rattle.demand_core.specs.declared.step.Step.{Step}
use Rattle.demand_core.specs.declared.step.Step.TheVariants.{Done, Waits}
use Rattle.element_store.specs.declared.numbers.FileNo.{FileNo}
use Rattle.element_store.specs.declared.outcome.Outcome.{Outcome}
use Rattle.element_store.specs.declared.models.StoredFile.{StoredFile}
use Rattle.element_store.specs.Numbers.{places_from}
use Rattle.link_model.specs.declared.keys.LinkKey.{LinkKey}
use Rattle.link_model.specs.declared.keys.LinkFact.{LinkFact}
use Rattle.link_model.specs.declared.keys.LinkFact.TheVariants.{File}
use Rattle.link_model.specs.Outside.{Library, model_in, numbered_from, keys_in, keys_of, seen_in}
use Rattle.link_model.specs.Readers.{Lookup, LinkWorld}
use Rattle.link_model.specs.Lexical.{Ranked, ranked_by, is_before}
use Rattle.link_model.specs.Asking.{ask}
use Rattle.link_model.specs.Linking.{ranked_key, put_in, in_least_order, items_of, sorted, sorted_step, least_first, rule}
use Rattle.link_model.proofs.TameLaws.{Stands, IsTame, ask_tame}

-- SORTING keeps the members

put_members : (k : Ranked LinkKey) (ls : List (Ranked LinkKey)) → SameMembers (items_of (put_in k ls)) (k.item ∷ items_of ls)
put_members k [] = record { left = λ x m. m; right = λ x m. m }
put_members k (l ∷ ls) = elim (bool_cases (is_before l k)) [
  | inl a ↦ let rest = put_members k ls in rw a (record {
    left = λ x. elim [ inl e ↦ inr (inl e) | inr m ↦ elim (rest.left x m) [ inl e ↦ inl e | inr n ↦ inr (inr n) ] ];
    right = λ x. elim [ inl e ↦ inr (rest.right x (inl e)) | inr m ↦ elim m [ inl e ↦ inl e | inr n ↦ inr (rest.right x (inr n)) ] ];
  })
  | inr b ↦ rw b (record { left = λ x m. m; right = λ x m. m })
]

order_members : (ks : List (Ranked LinkKey)) → SameMembers (items_of (in_least_order ks)) (items_of ks)
order_members [] = record { left = λ x m. m; right = λ x m. m }
order_members (k ∷ ks) =
    let rest = order_members ks in
    let here = put_members k (in_least_order ks) in
    record {
      left = λ x m. elim (here.left x m) [ inl e ↦ inl e | inr n ↦ inr (rest.left x n) ];
      right = λ x. elim [ inl e ↦ here.right x (inl e) | inr n ↦ here.right x (inr (rest.right x n)) ];
    }

item_ranked : (s : Option StoredFile) (n : ℕ) (k : LinkKey) → (ranked_by s n k).item ≡ k
item_ranked None n k = refl
item_ranked (Some s) n k = refl

items_ranked : (w : LinkWorld) (ks : List LinkKey) → items_of (map (ranked_key w) ks) ≡ ks
items_ranked w [] = refl
items_ranked w (k ∷ ks) = λ i. item_ranked (w.outer (File k.0.file)) k.0.index k i ∷ items_ranked w ks i

sorted_members : (w : LinkWorld) (ks : List LinkKey) → SameMembers (sorted w ks) ks
sorted_members w ks = subst (λ ls. SameMembers (sorted w ks) ls) (items_ranked w ks) (order_members (map (ranked_key w) ks))

-- and hangs on the files of the keys alone
ranked_alike : (s t : LinkWorld) (ks : List LinkKey) → ((q : LinkKey) → IsMember ks q → s.outer (File q.0.file) ≡ t.outer (File q.0.file))
    → map (ranked_key t) ks ≡ map (ranked_key s) ks
ranked_alike s t [] h = refl
ranked_alike s t (k ∷ ks) h = λ i. ranked_by (sym (h k (inl refl)) i) k.0.index k ∷ ranked_alike s t ks (λ q m. h q (inr m)) i

sorted_alike : (s t : LinkWorld) (ks : List LinkKey) → ((q : LinkKey) → IsMember ks q → s.outer (File q.0.file) ≡ t.outer (File q.0.file)) → sorted t ks
    ≡ sorted s ks
sorted_alike s t ks h = ap (λ rs. items_of (in_least_order rs)) (ranked_alike s t ks h)

module _ {A : Type 0} where
  to_waits : (w : LinkWorld) (step : Step LinkKey A) (q : LinkKey) → WaitsOn (sorted_step w step) q → WaitsOn step q
  to_waits w (Done x) q m = m
  to_waits w (Waits ks) q m = (sorted_members w ks).left q m

  from_waits : (w : LinkWorld) (step : Step LinkKey A) (q : LinkKey) → WaitsOn step q → WaitsOn (sorted_step w step) q
  from_waits w (Done x) q m = m
  from_waits w (Waits ks) q m = (sorted_members w ks).right q m

  same_sorted : (s t : LinkWorld) (step : Step LinkKey A) → ((q : LinkKey) → WaitsOn step q → s.outer (File q.0.file) ≡ t.outer (File q.0.file))
      → sorted_step t step ≡ sorted_step s step
  same_sorted s t (Done x) h = refl
  same_sorted s t (Waits ks) h = ap Waits (sorted_alike s t ks h)

  sound_sorted : (w : LinkWorld) (step : Step LinkKey A) (looks : List (Fact LinkKey LinkFact)) → IsSound w.table step looks
      → IsSound w.table (sorted_step w step) looks
  sound_sorted w (Done x) looks h = h
  sound_sorted w (Waits []) looks h = h
  sound_sorted w (Waits (k ∷ ks)) looks h = (
    λ none. subst (λ (l : List LinkKey). IsMember l k) none ((sorted_members w (k ∷ ks)).right k (inl refl)),
    λ q m. h.1 q ((sorted_members w (k ∷ ks)).left q m),
  )

  pub least_first_tame : (c : Lookup A) → IsTame c → IsTame (least_first c)
  least_first_tame c r = record {
    regular = record {
      local = λ s t agree.
          ap (λ (a : Asked LinkKey LinkFact A). record { step = sorted_step t a.step; looks = a.looks }) (r.regular.local s t agree)
          ∙ ap (λ (step : Step LinkKey A). record { step = step; looks = (c s).looks })
          (same_sorted s t (c s).step (λ q m. agree.facts (File q.0.file) (r.files s q m)));
      sound = λ s. sound_sorted s (c s).step (c s).looks (r.regular.sound s);
      persists = λ s t q grows m none. from_waits t (c t).step q (r.regular.persists s t q grows (to_waits s (c s).step q m) none);
    };
    among = λ w q m. r.among w q (to_waits w (c w).step q m);
    files = λ w q m. r.files w q (to_waits w (c w).step q m);
    standing = r.standing;
  }

pub rule_tame : (lib : Library) (k : LinkKey) → IsTame (rule lib k)
rule_tame lib k = least_first_tame (ask lib k.0) (ask_tame lib k.0)

-- KEYS

place_there : {A : Type 0} (xs : List A) (n i : ℕ) → i < length xs → IsMember (places_from n xs) (n + i)
place_there [] n i lt = absurd (omega arith)
place_there (x ∷ xs) n zero lt = inl (omega arith)
place_there (x ∷ xs) n (suc i) lt =
    inr (let e : suc n + i ≡ n + suc i = omega arith in subst (IsMember (places_from (suc n) xs)) e (place_there xs (suc n) i (omega arith)))

number_there : (files : List StoredFile) (n i : ℕ) (s : StoredFile) → slice_get files i ≡ Some s
    → IsMember (numbered_from n files) (record { number = record { 0 = n + i }; file = s })
number_there [] n i s e = cc
number_there (f ∷ files) n zero s e = let same : f ≡ s = cc in let zero_more : n ≡ n + 0 = omega arith in
    inl (λ j. record { number = record { 0 = zero_more j }; file = same j })
number_there (f ∷ files) n (suc i) s e =
    inr (let more : suc n + i ≡ n + suc i = omega arith in
    subst (λ (m : ℕ). IsMember (numbered_from (suc n) files) (record { number = record { 0 = m }; file = s })) more (number_there files (suc n) i s e))

flat_there : {A B : Type 0} (f : A → List B) (xs : List A) (x : A) (y : B) → IsMember xs x → IsMember (f x) y → IsMember (flat_map f xs) y
flat_there f [] x y m n = absurd m
flat_there f (z ∷ xs) x y (inl e) n = member_left (f z) (flat_map f xs) y (subst (λ w. IsMember (f w) y) (sym e) n)
flat_there f (z ∷ xs) x y (inr m) n = member_right (f z) (flat_map f xs) y (flat_there f xs x y m n)

-- a file stands at the number, or none does
pub file_cases : (files : List StoredFile) (i : ℕ) → (slice_get files i ≡ None) ⊎ ((s : StoredFile) × (slice_get files i ≡ Some s))
file_cases files i = by (slice_get files i) refl
  where
    by : (o : Option StoredFile) → slice_get files i ≡ o → (slice_get files i ≡ None) ⊎ ((s : StoredFile) × (slice_get files i ≡ Some s))
    by None e = inl e
    by (Some s) e = inr (s, e)

pub below : (a b : ℕ) → nat_lt a b ≡ true → a < b
below a b h = grind (arith, nat_tests)

pub stands_among : (files : List StoredFile) (table : Decided LinkKey Outcome) (q : LinkKey) → Stands (world (seen_in files) table) q
    → IsMember (keys_of files) q
stands_among files table q h = elim (file_cases files q.0.file.0) [
  | inl none ↦ let bad : nat_lt q.0.index (length (model_in None).references) ≡ true =
      subst (λ (s : Option StoredFile). nat_lt q.0.index (length (model_in s).references) ≡ true) none h in
      let lt = below q.0.index 0 bad in absurd (omega arith)
  | inr there ↦
      let lt = below q.0.index (length (model_in (Some there.0)).references)
      (subst (λ (s : Option StoredFile). nat_lt q.0.index (length (model_in s).references) ≡ true) there.1 h) in
      let e : 0 + q.0.file.0 ≡ q.0.file.0 = omega arith in
      flat_there keys_in (numbered_from 0 files) (record { number = q.0.file; file = there.0 }) q
      (subst (λ (n : ℕ). IsMember (numbered_from 0 files) (record { number = record { 0 = n }; file = there.0 })) e
      (number_there files 0 q.0.file.0 there.0 there.1))
      (member_map (λ k. record { 0 = record { file = q.0.file; index = k } }) (places_from 0 (model_in (Some there.0)).references) q.0.index
      (let i : 0 + q.0.index ≡ q.0.index = omega arith in
      subst (IsMember (places_from 0 (model_in (Some there.0)).references)) i (place_there (model_in (Some there.0)).references 0 q.0.index lt)))
]

place_above : {A : Type 0} (xs : List A) (n k : ℕ) → IsMember (places_from n xs) k → n ≤ k
place_above [] n k m = absurd m
place_above (x ∷ xs) n k (inl e) = let same : n ≡ k = e in omega arith
place_above (x ∷ xs) n k (inr m) = let more = place_above xs (suc n) k m in omega arith

places_once : {A : Type 0} (xs : List A) (n : ℕ) → IsEachOnce (places_from n xs)
places_once [] n = tt
places_once (x ∷ xs) n = ((λ m. let more = place_above xs (suc n) n m in absurd (omega arith)), places_once xs (suc n))

abbrev key_in : FileNo → ℕ → LinkKey
key_in f k = record { 0 = record { file = f; index = k } }

key_from : (f : FileNo) (ks : List ℕ) (q : LinkKey) → IsMember (map (key_in f) ks) q → (q.0.file ≡ f) × IsMember ks q.0.index
key_from f [] q m = absurd m
key_from f (k ∷ ks) q (inl e) = (ap (λ x. x.0.file) (sym e), inl (ap (λ x. x.0.index) e))
key_from f (k ∷ ks) q (inr m) = let rest = key_from f ks q m in (rest.0, inr rest.1)

map_once : (f : FileNo) (ks : List ℕ) → IsEachOnce ks → IsEachOnce (map (key_in f) ks)
map_once f [] h = tt
map_once f (k ∷ ks) h = ((λ m. h.0 (key_from f ks (key_in f k) m).1), map_once f ks h.1)

once_append : {A : Type 0} (xs ys : List A) → IsEachOnce xs → IsEachOnce ys → ((x : A) → IsMember xs x → IsMember ys x → ⊥) → IsEachOnce (xs ++ ys)
once_append [] ys h g apart = g
once_append (x ∷ xs) ys h g apart =
    ((λ m. elim (member_cases xs ys x m) [ inl a ↦ h.0 a | inr b ↦ apart x (inl refl) b ]), once_append xs ys h.1 g (λ y a b. apart y (inr a) b))

later_file : (files : List StoredFile) (n : ℕ) (q : LinkKey) → IsMember (flat_map keys_in (numbered_from n files)) q → n ≤ q.0.file.0
later_file [] n q m = absurd m
later_file (s ∷ files) n q m =
    elim (member_cases (keys_in (record { number = record { 0 = n }; file = s })) (flat_map keys_in (numbered_from (suc n) files)) q m) [
      | inl a ↦ let e : q.0.file.0 ≡ n = ap (λ f. f.0) (key_from (record { 0 = n }) (places_from 0 (model_in (Some s)).references) q a).0 in omega arith
      | inr b ↦ let more = later_file files (suc n) q b in omega arith
    ]

keys_once_from : (files : List StoredFile) (n : ℕ) → IsEachOnce (flat_map keys_in (numbered_from n files))
keys_once_from [] n = tt
keys_once_from (s ∷ files) n = once_append (keys_in (record { number = record { 0 = n }; file = s })) (flat_map keys_in (numbered_from (suc n) files))
    (map_once (record { 0 = n }) (places_from 0 (model_in (Some s)).references) (places_once (model_in (Some s)).references 0)) (keys_once_from files (suc n))
    (λ q a b.
    let e : q.0.file.0 ≡ n = ap (λ f. f.0) (key_from (record { 0 = n }) (places_from 0 (model_in (Some s)).references) q a).0 in
    let more = later_file files (suc n) q b in absurd (omega arith))

pub keys_once : (files : List StoredFile) → IsEachOnce (keys_of files)
keys_once files = keys_once_from files 0
