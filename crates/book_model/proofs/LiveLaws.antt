-- What an outcome names stands.
use Rattle.std.proofs.Common.{◌≡◌, ℕ, ◌+◌, ◌<◌, suc, List, [], ◌∷◌, length, refl, sym, ap, subst, arith, inl, inr}
use Rattle.std.specs.Prelude.{Option, Some, None, map, slice_get, option_and_then}
use Rattle.std.specs.List.{flat_map}
use Rattle.linker_base.specs.Members.{IsMember}
use Rattle.linker_base.proofs.MemberLaws.{member_cases}
use Rattle.element_store.specs.declared.numbers.FileNo.{FileNo}
use Rattle.element_store.specs.declared.numbers.RefNo.{RefNo}
use Rattle.element_store.specs.declared.outcome.Outcome.{Outcome}
use Rattle.element_store.specs.declared.outcome.Outcome.TheVariants.{Linked, Absent, Ambiguous, Hidden, Cyclic}
use Rattle.element_store.specs.declared.models.StoredFile.{StoredFile}
use Rattle.element_store.specs.BaseRules.{model_of}
use Rattle.element_store.specs.Model.{Data}
use Rattle.element_store.specs.Numbers.{places_from}
use Rattle.element_store.specs.Stored.{AreFiles}
use Rattle.link_model.specs.declared.keys.LinkKey.{LinkKey}
use Rattle.link_model.specs.Linking.{Fits}
use Rattle.link_model.specs.Outside.{model_in, numbered_from, keys_in, keys_of}
use Rattle.book_model.specs.Files.{ProjectFile, stored}
use Rattle.book_model.specs.Live.{IsLiveReference, NamesLive}
use Rattle.book_model.specs.Outcomes.{outcome_of, IsOutcome}
use Rattle.book_model.proofs.OutcomeLaws.{outcome_is}

-- places are below the length
place_below : {A : Type 0} (xs : List A) (n k : ℕ) → IsMember (places_from n xs) k → k < n + length xs
place_below [] n k m = absurd m
place_below (x ∷ xs) n k (inl e) = omega (arith, e)
place_below (x ∷ xs) n k (inr m) = omega (arith, place_below xs (suc n) k m)

-- a key of a file has its number, and a place among these
key_from : (f : FileNo) (ks : List ℕ) (q : LinkKey) → IsMember (map (λ k. record { 0 = record { file = f; index = k } }) ks) q
    → (q.0.file.0 ≡ f.0) × IsMember ks q.0.index
key_from f [] q m = absurd m
key_from f (k ∷ ks) q (inl e) = (ap (λ (x : LinkKey). x.0.file.0) (sym e), inl (ap (λ (x : LinkKey). x.0.index) e))
key_from f (k ∷ ks) q (inr m) = let rest = key_from f ks q m in (rest.0, inr rest.1)

-- where references stand there is a model
model_there : (s : StoredFile) (m : Option Data) (k : ℕ) → s.model ≡ m → k < length (model_in (Some s)).references
    → (d : Data) × (s.model ≡ Some d) × (k < length d.references)
model_there s None k e lt = absurd (omega (arith, subst (λ (o : Option Data). k < length (model_in (Some (record s { model = o }))).references) e lt))
model_there s (Some d) k e lt = (d, e, subst (λ (o : Option Data). k < length (model_in (Some (record s { model = o }))).references) e lt)

-- a key of files is a reference of the model of one of them
key_there : (files : List StoredFile) (n : ℕ) (q : LinkKey) → IsMember (flat_map keys_in (numbered_from n files)) q
    → (i : ℕ) × (d : Data) × (q.0.file.0 ≡ n + i) × (option_and_then (λ (x : StoredFile). x.model) (slice_get files i) ≡ Some d)
    × (q.0.index < length d.references)
key_there [] n q m = absurd m
key_there (s ∷ files) n q m = elim (member_cases (keys_in (record { number = record { 0 = n }; file = s }))
    (flat_map keys_in (numbered_from (suc n) files)) q m) [
      | inl here ↦
          let from = key_from (record { 0 = n }) (places_from 0 (model_in (Some s)).references) q here in
          let there = model_there s s.model q.0.index refl (omega (arith, place_below (model_in (Some s)).references 0 q.0.index from.1)) in
          (0, there.0, omega (arith, from.0), there.1, there.2)
      | inr later ↦
          let there = key_there files (suc n) q later in
          (suc there.0, there.1, omega (arith, there.2), there.3, there.4)
    ]

-- a key is a live reference
pub key_live : (files : List ProjectFile) (r : RefNo) → IsMember (keys_of (stored files)) (record { 0 = r }) → IsLiveReference files r
key_live files r m =
    let there = key_there (stored files) 0 (record { 0 = r }) m in
    let number : there.0 ≡ r.file.0 = omega (arith, there.2) in
    (there.1, subst (λ k. model_of (stored files) k ≡ Some there.1) number there.3, there.4)

-- what a decided outcome names stands
pub fits_live : (files : List ProjectFile) (o : Outcome) → Fits (stored files) o → NamesLive files o
fits_live files (Linked steps e) (all, (d, has, lt, own)) = (d, has, lt)
fits_live files (Absent segment) h = tt
fits_live files (Ambiguous segment a b) h = h
fits_live files (Hidden segment m) h = h
fits_live files (Cyclic r) h = absurd h

-- decided or cyclic, it names what stands
by_outcome : (files : List ProjectFile) (r : RefNo) → IsOutcome (stored files) r (outcome_of (stored files) r) → NamesLive files (outcome_of (stored files) r)
by_outcome files r (inl h) = fits_live files (outcome_of (stored files) r) h.fits
by_outcome files r (inr h) = subst (NamesLive files) (sym h.kept) (key_live files h.on.0 h.stands)

-- what the outcome of a reference names stands
pub outcome_live : (files : List ProjectFile) (r : RefNo) → AreFiles (stored files) → IsMember (keys_of (stored files)) (record { 0 = r })
    → NamesLive files (outcome_of (stored files) r)
outcome_live files r are m = by_outcome files r (outcome_is (stored files) r are m)
