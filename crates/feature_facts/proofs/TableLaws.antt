-- Lists by the tables of a model: what is told of their members.
use Rattle.std.proofs.Common.{◌≡◌, ℕ, ◌+◌, ◌<◌, ◌≤◌, Bool, true, false, cond, List, [], ◌∷◌, ◌++◌, length, get_or, take, take-suc, add-one, refl, sym, ◌∙◌, ap, subst, inl, inr, arith, append_assoc, append-nil, zero-add}
use Rattle.std.proofs.lemmas.Bool.Decides.{nat_tests}
use Rattle.std.specs.Prelude.{zero, suc, nat_eq, ◌&&◌, slice_get, map, Option, None, Some}
use Rattle.linker_base.specs.Members.{IsMember}
use Rattle.linker_base.proofs.Cases.{bool_cases}
use Rattle.std.proofs.lemmas.List.{take_all}
use Rattle.demand_core.proofs.LoopLaws.{join_assoc}
use Rattle.demand_core.specs.Computation.{done, join_step, join, joined, ◌>>=◌, IsRegular}
use Rattle.demand_core.specs.Search.{Trail}
use Rattle.demand_core.proofs.ComputationLaws.{regular_done, regular_then, regular_look, regular_join, regular_joined, regular_cond}
use Rattle.element_store.specs.declared.numbers.FileNo.{FileNo}
use Rattle.element_store.specs.declared.numbers.ElementNo.{ElementNo}
use Rattle.element_store.specs.declared.records.Member.{Member}
use Rattle.element_store.specs.declared.records.Target.{Target}
use Rattle.element_store.specs.declared.records.Target.TheVariants.{Owned, Alias}
use Rattle.element_store.specs.Numbers.{chosen, numbers_from, those_where, IsLeastAbove}
use Rattle.element_store.specs.Model.{Data, bears, bearers}
use Rattle.element_store.specs.Readings.{redefining_of}
use Rattle.link_model.specs.declared.keys.LinkKey.{LinkKey}
use Rattle.link_model.specs.declared.keys.LinkFact.{LinkFact}
use Rattle.link_model.specs.declared.keys.LinkFact.TheVariants.{File}
use Rattle.link_model.specs.declared.keys.Hit.{Hit}
use Rattle.link_model.specs.Outside.{model_in, is_private}
use Rattle.link_model.specs.Readers.{LinkWorld, Lookup, told, key, model, is_nil, only_if, is_named, target}
use Rattle.link_model.specs.Keys.{same_element}
use Rattle.link_model.specs.Names.{declared_names, names, leads_to, hit, hit_named, effective_hit, redefinitions}
use Rattle.link_model.proofs.TameLaws.{target_tame, names_tame}
use Rattle.link_walk.specs.Gained.{Gained}
use Rattle.link_walk.proofs.GainLaws.{gains_of, gained_if, gained_none, gained_join, gained_true, gained_false}
use Rattle.link_walk.specs.Noted.{LinkTrail, Noted}
use Rattle.inheritance.specs.RedefinedLaws.{redefinitions_regular}
use Rattle.inheritance.specs.Sights.{direct_targets}
use Rattle.owned_names.proofs.BearerLaws.{above, none_left, one_left, numbers_rise, joined_last}
use Rattle.feature_facts.specs.Stages.{told_of, own_redefiner, owned_redefiner, redefiners_of, direct_by, directs_of}
use Rattle.feature_facts.specs.declared.facts.Redefiner.{Redefiner}

-- where a number stands among those of a test
pub number_at : {A : Type 0} (n : ℕ) (test : A → Bool) (xs : List A) (k : ℕ) → IsMember (numbers_from n test xs) k
    → (i : ℕ) × (x : A) × (k ≡ n + i) × (slice_get xs i ≡ Some x) × (test x ≡ true)
number_at n test [] k m = absurd m
number_at n test (x ∷ xs) k m = elim (bool_cases (test x)) [
  | inl a ↦ elim (subst (λ b. IsMember (chosen b n (numbers_from (suc n) test xs)) k) a m) [
    | inl is ↦ (0, x, omega (arith, is), refl, a)
    | inr later ↦ let more = number_at (suc n) test xs k later in (suc more.0, more.1, omega (arith, more.2), more.3, more.4)
  ]
  | inr b ↦
      let more = number_at (suc n) test xs k (subst (λ c. IsMember (chosen c n (numbers_from (suc n) test xs)) k) b m) in
      (suc more.0, more.1, omega (arith, more.2), more.3, more.4)
]

pub number_among : {A : Type 0} (n : ℕ) (test : A → Bool) (xs : List A) (i : ℕ) (x : A) → slice_get xs i ≡ Some x → test x ≡ true
    → IsMember (numbers_from n test xs) (n + i)
number_among n test [] i x at is = cc
number_among n test (y ∷ xs) zero x at is =
    let same : y ≡ x = cc in
    subst (λ b. IsMember (chosen b n (numbers_from (suc n) test xs)) (n + 0)) (sym (ap test same ∙ is)) (inl (omega arith))
number_among n test (y ∷ xs) (suc i) x at is =
    let more = subst (IsMember (numbers_from (suc n) test xs)) (omega arith) (number_among (suc n) test xs i x at is) in
    elim (bool_cases (test y)) [
      | inl a ↦ subst (λ b. IsMember (chosen b n (numbers_from (suc n) test xs)) (n + suc i)) (sym a) (inr more)
      | inr c ↦ subst (λ b. IsMember (chosen b n (numbers_from (suc n) test xs)) (n + suc i)) (sym c) more
    ]

-- the same, numbered from 0
pub number_here : {A : Type 0} (test : A → Bool) (xs : List A) (i : ℕ) (x : A) → slice_get xs i ≡ Some x → test x ≡ true
    → IsMember (numbers_from 0 test xs) i
number_here test xs i x at is = subst (IsMember (numbers_from 0 test xs)) (zero-add i) (number_among 0 test xs i x at is)

pub told_regular : {A B : Type 0} (o : Option B) (f : B → Lookup (List A)) → ((x : B) → IsRegular (f x)) → IsRegular (told o f)
told_regular None f r = regular_done []
told_regular (Some x) f r = r x

pub model_regular : (f : FileNo) → IsRegular (model f)
model_regular f = regular_then _ (λ s. done (model_in s)) (regular_look (File f)) (λ s. regular_done (model_in s))

-- what is told of a member that stands there
pub told_gained : {A B : Type 0} (d : Data) (k : ℕ) (m : Member) (w : LinkWorld) (c : ℕ → Member → Lookup (List B))
    (old new : Trail LinkKey LinkFact A B) → slice_get d.members k ≡ Some m → Gained (c k m w) old new → Gained (told_of d c k w) old new
told_gained d k m w c old new at g = subst (λ (o : Option Member). Gained (told o (c k) w) old new) (sym at) g

-- one thing that is found
pub gained_one : {B : Type 0} (w : LinkWorld) (x : B) (found : List B) (notes : Noted)
    → Gained (done (x ∷ []) w) (gains_of found notes) (gains_of (found ++ x ∷ []) notes)
gained_one w x found notes = gained_if w true x found notes

-- a first part, and then a loop over the others
module _ {A B C : Type 0} (w : LinkWorld) (c : Lookup (List B)) (f : C → Lookup (List B)) (xs : List C) (i : ℕ) where
  pub after_first : (d e : C) (old mid new : Trail LinkKey LinkFact A B) → i < length xs → d ≡ get_or xs i e
      → Gained (join c (joined f (take i xs)) w) old mid → Gained (f d w) mid new → Gained (join c (joined f (take (i + 1) xs)) w) old new
  after_first d e old mid new lt is g h =
      let more : take (i + 1) xs ≡ take i xs ++ d ∷ [] = rw add-one (take-suc xs i e lt) ∙ ap (λ z. take i xs ++ z ∷ []) (sym is) in
      let split : join c (joined f (take i xs ++ d ∷ [])) w ≡ join (join c (joined f (take i xs))) (f d) w =
      ap (λ a. record { step = join_step (c w).step a.step; looks = (c w).looks ++ a.looks }) (joined_last w f (take i xs) d)
      ∙ (λ j. record {
        step = sym (join_assoc (c w).step (joined f (take i xs) w).step (f d w).step) j;
        looks = sym (append_assoc (c w).looks (joined f (take i xs) w).looks (f d w).looks) j;
      }) in
      subst (λ ys. Gained (join c (joined f ys) w) old new) (sym more)
      (subst (λ a. Gained a old new) (sym split) (gained_join w (join c (joined f (take i xs))) (f d) old mid new g h))

  pub after_all : (old new : Trail LinkKey LinkFact A B) → length xs ≤ i → Gained (join c (joined f (take i xs)) w) old new
      → Gained (join c (joined f xs) w) old new
  after_all old new end g = subst (λ ys. Gained (join c (joined f ys) w) old new) (take_all i xs end) g

owned_regular : (u : ElementNo) (hidden : Bool) (t : Target) → IsRegular (owned_redefiner u hidden t)
owned_regular u hidden (Owned e) = regular_done _
owned_regular u hidden (Alias r) = regular_done []

pub redefiners_regular : (raw : Bool) (t u : ElementNo) → IsRegular (redefiners_of raw t u)
redefiners_regular raw t u = regular_cond (raw && same_element u t) (done [])
    (model u.file >>= λ d. joined (told_of d (own_redefiner u)) (redefining_of d u.index))
    (regular_done []) (regular_then (model u.file) (λ d. joined (told_of d (own_redefiner u)) (redefining_of d u.index)) (model_regular u.file)
    (λ d. regular_joined (told_of d (own_redefiner u)) (λ k. told_regular (slice_get d.members k) (own_redefiner u k)
    (λ m. owned_regular u (is_private m.visibility) m.target)) (redefining_of d u.index)))

pub targets_regular : (f : ElementNo) → IsRegular (direct_targets f)
targets_regular f = regular_then (redefinitions f) (joined target) (redefinitions_regular f) (λ rs. regular_joined target (λ r. (target_tame r).regular) rs)

pub directs_regular : (q : Redefiner) → IsRegular (directs_of q)
directs_regular q = regular_then (direct_targets q.feature) (λ gs. done (map (direct_by q) gs)) (targets_regular q.feature)
    (λ gs. regular_done (map (direct_by q) gs))

-- no feature yet
abbrev pub nothing_yet : LinkTrail Redefiner
nothing_yet = record { nodes = []; found = []; waits = []; looks = [] }
