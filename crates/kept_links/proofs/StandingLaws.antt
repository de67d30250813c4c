-- Which references stand, before and after the text of a file comes or goes.
use Rattle.std.proofs.Common.{◌≡◌, ℕ, ◌+◌, ◌<◌, Bool, true, false, List, [], ◌∷◌, ◌++◌, refl, sym, ◌∙◌, ap, subst, inl, inr, arith}
use Rattle.std.proofs.lemmas.Bool.Decides.{nat_tests}
use Rattle.std.specs.Prelude.{zero, suc, nat_lt, length, map, slice_get, Option, None, Some, ◌⊎◌}
use Rattle.std.specs.List.{flat_map}
use Rattle.linker_base.specs.Members.{IsMember}
use Rattle.linker_base.proofs.MemberLaws.{member_cases}
use Rattle.demand_core.specs.Computed.{world}
use Rattle.demand_core.specs.Tables.{Decided}
use Rattle.element_store.specs.declared.numbers.FileNo.{FileNo}
use Rattle.element_store.specs.declared.outcome.Outcome.{Outcome}
use Rattle.element_store.specs.declared.models.StoredFile.{StoredFile}
use Rattle.element_store.specs.Numbers.{places_from}
use Rattle.link_model.specs.declared.keys.LinkKey.{LinkKey}
use Rattle.link_model.specs.Outside.{numbered_from, keys_in, keys_of, model_in, seen_in}
use Rattle.link_model.specs.Readers.{key}
use Rattle.link_model.proofs.RuleLaws.{stands_among}
use Rattle.link_model.proofs.TameLaws.{Stands}

-- the reference stands in the model of its file
abbrev pub StandsIn : List StoredFile → LinkKey → Type 0
StandsIn files q = nat_lt q.0.index (length (model_in (slice_get files q.0.file.0)).references) ≡ true

place_within : {A : Type 0} (xs : List A) (n k : ℕ) → IsMember (places_from n xs) k → k < n + length xs
place_within [] n k m = absurd m
place_within (x ∷ xs) n k (inl e) = let same : n ≡ k = e in omega arith
place_within (x ∷ xs) n k (inr m) = let rest = place_within xs (suc n) k m in omega arith

key_parts : (f : FileNo) (ks : List ℕ) (q : LinkKey) → IsMember (map (key f) ks) q → (q.0.file ≡ f) × IsMember ks q.0.index
key_parts f [] q m = absurd m
key_parts f (k ∷ ks) q (inl e) = (ap (λ x. x.0.file) (sym e), inl (ap (λ x. x.0.index) e))
key_parts f (k ∷ ks) q (inr m) = let rest = key_parts f ks q m in (rest.0, inr rest.1)

is_below : (a b : ℕ) → a < b → nat_lt a b ≡ true
is_below a b h = grind (arith, nat_tests)

-- a key stands in a file of the list
among_files : (files : List StoredFile) (n : ℕ) (q : LinkKey) → IsMember (flat_map keys_in (numbered_from n files)) q
    → (i : ℕ) × (q.0.file.0 ≡ n + i) × (nat_lt q.0.index (length (model_in (slice_get files i)).references) ≡ true)
among_files [] n q m = absurd m
among_files (s ∷ files) n q m =
    elim (member_cases (keys_in (record { number = record { 0 = n }; file = s })) (flat_map keys_in (numbered_from (suc n) files)) q m) [
      | inl a ↦
          let parts = key_parts (record { 0 = n }) (places_from 0 (model_in (Some s)).references) q a in
          let within = place_within (model_in (Some s)).references 0 q.0.index parts.1 in (
            0,
            (let e : q.0.file.0 ≡ n = ap (λ f. f.0) parts.0 in omega arith),
            is_below q.0.index (length (model_in (Some s)).references) (omega arith),
          )
      | inr b ↦ let rest = among_files files (suc n) q b in (suc rest.0, (let e = rest.1 in omega arith), rest.2)
    ]

-- a reference is a key exactly where it stands
pub key_stands : (files : List StoredFile) (q : LinkKey) → IsMember (keys_of files) q → StandsIn files q
key_stands files q m =
    let r = among_files files 0 q m in
    let same : r.0 ≡ q.0.file.0 = let e = r.1 in omega arith in
    subst (λ i. nat_lt q.0.index (length (model_in (slice_get files i)).references) ≡ true) same r.2

pub stands_key : (files : List StoredFile) (q : LinkKey) → StandsIn files q → IsMember (keys_of files) q
stands_key files q h = stands_among files (λ _. None) q h

-- the keys of one file
place_there : {A : Type 0} (xs : List A) (n i : ℕ) → i < length xs → IsMember (places_from n xs) (n + i)
place_there [] n i lt = absurd (omega arith)
place_there (x ∷ xs) n zero lt = inl (omega arith)
place_there (x ∷ xs) n (suc i) lt =
    inr (let e : suc n + i ≡ n + suc i = omega arith in subst (IsMember (places_from (suc n) xs)) e (place_there xs (suc n) i (omega arith)))

is_less : (a b : ℕ) → nat_lt a b ≡ true → a < b
is_less a b h = grind (arith, nat_tests)

member_keys : (f : FileNo) (ks : List ℕ) (k : ℕ) → IsMember ks k → IsMember (map (key f) ks) (key f k)
member_keys f [] k m = absurd m
member_keys f (j ∷ ks) k (inl e) = inl (ap (key f) e)
member_keys f (j ∷ ks) k (inr m) = inr (member_keys f ks k m)

pub in_file : (files : List StoredFile) (f : FileNo) (s : StoredFile) (q : LinkKey) → slice_get files f.0 ≡ Some s → q.0.file.0 ≡ f.0 → StandsIn files q
    → IsMember (keys_in (record { number = f; file = s })) q
in_file files f s q at same h =
    let own : nat_lt q.0.index (length (model_in (Some s)).references) ≡ true =
    subst (λ (o : Option StoredFile). nat_lt q.0.index (length (model_in o).references) ≡ true) at
    (subst (λ (i : ℕ). nat_lt q.0.index (length (model_in (slice_get files i)).references) ≡ true) same h) in
    let there : IsMember (places_from 0 (model_in (Some s)).references) q.0.index =
    let e : 0 + q.0.index ≡ q.0.index = omega arith in
    subst (IsMember (places_from 0 (model_in (Some s)).references)) e
    (place_there (model_in (Some s)).references 0 q.0.index (is_less q.0.index (length (model_in (Some s)).references) own)) in
    let is : key f q.0.index ≡ q = λ i. record { 0 = record { file = record { 0 = sym same i }; index = q.0.index } } in
    subst (IsMember (keys_in (record { number = f; file = s }))) is
    (member_keys f (places_from 0 (model_in (Some s)).references) q.0.index there)

pub of_file : (f : FileNo) (s : StoredFile) (q : LinkKey) → IsMember (keys_in (record { number = f; file = s })) q → q.0.file ≡ f
of_file f s q m = (key_parts f (places_from 0 (model_in (Some s)).references) q m).0

-- a file without a model has no references
pub none_stand : (files : List StoredFile) (q : LinkKey) → ((s : StoredFile) → slice_get files q.0.file.0 ≡ Some s → s.model ≡ None) → StandsIn files q → ⊥
none_stand files q none h = by (slice_get files q.0.file.0) refl h
  where
    no_less : (a : ℕ) → nat_lt a 0 ≡ true → ⊥
    no_less a e = let lt = is_less a 0 e in absurd (omega arith)

    by : (o : Option StoredFile) → slice_get files q.0.file.0 ≡ o → nat_lt q.0.index (length (model_in o).references) ≡ true → ⊥
    by None at e = no_less q.0.index e
    by (Some s) at e = no_less q.0.index
        (subst (λ m. nat_lt q.0.index (length (model_in (Some (record s { model = m }))).references) ≡ true) (none s at) e)

-- where the file is the same, so are its references
pub same_file : (files others : List StoredFile) (q : LinkKey) → slice_get files q.0.file.0 ≡ slice_get others q.0.file.0 → StandsIn files q → StandsIn others q
same_file files others q same h = subst (λ (o : Option StoredFile). nat_lt q.0.index (length (model_in o).references) ≡ true) same h
