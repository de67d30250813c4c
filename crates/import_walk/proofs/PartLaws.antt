-- The records of a model that a lookup of visible members reads.
use Rattle.std.proofs.Common.{◌≡◌, ℕ, ◌+◌, ◌-◌, ◌^◌, ◌<◌, ◌≤◌, Bool, true, false, List, [], ◌∷◌, ◌++◌, length, get_or, drop, refl, sym, ◌∙◌, ap, subst, arith, append_assoc, drop-cons, add-one}
use Rattle.std.proofs.lemmas.Bool.Decides.{nat_tests}
use Rattle.std.specs.Prelude.{zero, suc, nat_eq, nat_lt, slice_get, Option, None, Some}
use Rattle.std.specs.List.{flat_map}
use Rattle.element_store.specs.declared.numbers.ElementNo.{ElementNo}
use Rattle.element_store.specs.declared.numbers.FileNo.{FileNo}
use Rattle.element_store.specs.declared.records.Import.{Import}
use Rattle.std.specs.Option.{option_and_then}
use Rattle.element_store.specs.declared.records.Member.{Member}
use Rattle.element_store.specs.declared.records.Reference.{Reference}
use Rattle.element_store.specs.declared.records.Target.{Target}
use Rattle.element_store.specs.declared.records.Target.TheVariants.{Owned, Alias}
use Rattle.element_store.specs.declared.models.StoredFile.{StoredFile}
use Rattle.element_store.specs.Model.{Data}
use Rattle.element_store.specs.Numbers.{chosen, numbers_from}
use Rattle.element_store.specs.Condition.{IsModel, imports_of, members_of}
use Rattle.element_store.specs.Stored.{AreFiles}
use Rattle.element_store.specs.BaseRules.{StandsIn, model_of}
use Rattle.element_store.specs.Readings.{TargetStands}
use Rattle.demand_core.specs.declared.step.Step.{Step}
use Rattle.demand_core.specs.declared.step.Step.TheVariants.{Done}
use Rattle.link_model.specs.declared.keys.LinkKey.{LinkKey}
use Rattle.link_model.specs.Imports.{last_of, last_written}
use Rattle.link_model.specs.Outside.{model_in}
use Rattle.import_walk.specs.Deferred.{TargetStandsIn, imports_at, members_at}

-- the last segment that an import is written with is that of its reference
pub last_there : (d : Data) (i : Import) (r : Reference) (last : List ℕ) → slice_get d.references i.reference ≡ Some r → last ≡ last_of [] r.path
    → last ≡ last_written d i
last_there d i r last at is = is ∙ sym written
  where
    written : last_written d i ≡ last_of [] r.path
    written = rw at refl

last_at : (x d : List ℕ) (ps : List (List ℕ)) (k : ℕ) → k + 1 ≡ length ps → get_or ps k d ≡ last_of x ps
last_at x d [] k is = absurd (omega arith)
last_at x d (y ∷ []) zero is = refl
last_at x d (y ∷ []) (suc k) is = absurd (omega arith)
last_at x d (y ∷ z ∷ zs) zero is = absurd (omega arith)
last_at x d (y ∷ z ∷ zs) (suc k) is = last_at y d (z ∷ zs) k (omega arith)

pub last_is : (ps : List (List ℕ)) (p d : List ℕ) → 0 < length ps → p ≡ get_or ps (length ps - 1) d → p ≡ last_of [] ps
last_is ps p d some is = is ∙ last_at [] d ps (length ps - 1) (omega arith)

-- what a target owns stands where its model does
pub target_in : (files : List StoredFile) (f : FileNo) (d : Data) (t : Target) → model_of files f.0 ≡ Some d → TargetStands d t → TargetStandsIn files f t
target_in files f d (Owned e) there lt = (d, there, lt)
target_in files f d (Alias r) there lt = tt

-- one item more of a list that is gone through
pub rest_next : {A B : Type 0} (g : A → List B) (i : ℕ) (xs : List A) (x e : A) (before now whole : List B) → i < length xs → x ≡ get_or xs i e
    → now ≡ before ++ g x
    → before ++ flat_map g (drop i xs) ≡ whole → now ++ flat_map g (drop (i + 1) xs) ≡ whole
rest_next g i xs x e before now whole lt is more h =
    let next : drop i xs ≡ x ∷ drop (i + 1) xs = drop-cons xs i e lt ∙ (ap (λ j. get_or xs i e ∷ drop j xs) (sym (add-one i)) ∙ ap (λ y. y ∷ drop
    (i + 1) xs) (sym is)) in
    ap (λ s. s ++ flat_map g (drop (i + 1) xs)) more ∙ (append_assoc before (g x) (flat_map g (drop (i + 1) xs)) ∙ (ap (λ ys. before ++ flat_map g ys)
    (sym next) ∙ h))

abbrev pub ready : {A : Type 0} → A → Step LinkKey A
ready x = Done x

pub done_same : {A : Type 0} (x y : A) → ready x ≡ ready y → x ≡ y
done_same x y e = cc

-- ---- no namespace has more imports and members than numbers are there

long_chosen : (b : Bool) (n : ℕ) (ns : List ℕ) → length (chosen b n ns) ≤ suc (length ns)
long_chosen true n ns = omega arith
long_chosen false n ns = omega arith

numbers_long : {A : Type 0} (n : ℕ) (test : A → Bool) (xs : List A) → length (numbers_from n test xs) ≤ length xs
numbers_long n test [] = omega arith
numbers_long n test (x ∷ xs) =
    let more = numbers_long (suc n) test xs in
    let one = long_chosen (test x) n (numbers_from (suc n) test xs) in
    omega arith

below : (a b : ℕ) → nat_lt a b ≡ true → a < b
below a b h = grind (arith, nat_tests)

bound : (d : Data) → IsModel d → (i : ℕ) → length (imports_of d i) + length (members_of d i) < 2 ^ 66
bound d m i =
    let few = below (length d.imports) (2 ^ 32) m.few.imports in
    let fewer = below (length d.members) (2 ^ 32) m.few.members in
    let long = numbers_long 0 (λ (k : Import). nat_eq k.owner i) d.imports in
    let longer = numbers_long 0 (λ (k : Member). nat_eq k.owner i) d.members in
    omega arith

pub narrow : (files : List StoredFile) → AreFiles files → (n : ElementNo) → StandsIn files n → length (imports_at files n) + length
    (members_at files n) < 2 ^ 66
narrow files are n h = by (slice_get files n.file.0) refl h.1
  where
    by : (o : Option StoredFile) → slice_get files n.file.0 ≡ o → option_and_then (λ x. x.model) o ≡ Some h.0
        → length (imports_of (model_in o) n.index) + length (members_of (model_in o) n.index) < 2 ^ 66
    by None at there = cc
    by (Some s) at there =
        let is : s.model ≡ Some h.0 = there in
        let same : model_in (Some s) ≡ h.0 = rw is refl in
        subst (λ (z : Data). length (imports_of z n.index) + length (members_of z n.index) < 2 ^ 66) (sym same) (bound h.0
        (are.models n.file.0 s h.0 at is).1 n.index)
