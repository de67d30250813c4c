-- Every reading keeps the laws by its shape: it is regular, waits on one key at the most, and reads no key on which it never waits.
use Rattle.std.proofs.Common.{◌≡◌, ℕ, true, false, cond, List, [], ◌∷◌, ◌++◌, refl, sym, ◌∙◌, ap, subst, inl, inr, ◌⊎◌}
use Rattle.std.specs.Prelude.{Option, None, Some}
use Rattle.std.specs.List.{flat_map}
use Rattle.linker_base.specs.Members.{IsMember}
use Rattle.linker_base.proofs.Cases.{bool_cases}
use Rattle.linker_base.proofs.MemberLaws.{member_left, member_right, member_cases}
use Rattle.element_store.specs.declared.numbers.ElementNo.{ElementNo}
use Rattle.element_store.specs.Expressions.{names_in}
use Rattle.demand_core.specs.Rules.{AllFit, WaitsOn}
use Rattle.demand_core.specs.Computation.{World, Agrees, Asked, done, read_step, read, then_step, ◌>>=◌, IsRegular}
use Rattle.demand_core.specs.Computed.{WaitsAmong}
use Rattle.demand_core.specs.declared.looks.Fact.{Fact}
use Rattle.demand_core.specs.declared.looks.Fact.TheVariants.{Key, Outer}
use Rattle.demand_core.specs.declared.step.Step.{Step}
use Rattle.demand_core.specs.declared.step.Step.TheVariants.{Done, Waits}
use Rattle.demand_core.proofs.ComputationLaws.{regular_done, regular_read, regular_then}
use Rattle.demand_core.proofs.AmongLaws.{among_done, among_read, among_then}
use Rattle.link_model.specs.Outside.{Library}
use Rattle.link_model.specs.Readers.{LinkWorld}
use Rattle.value_model.specs.declared.values.NoFact.{NoFact}
use Rattle.value_model.specs.declared.values.Spot.{Spot}
use Rattle.value_model.specs.declared.values.Value.{Value}
use Rattle.value_model.specs.declared.values.Value.TheVariants.{Integer, Boolean, Text, Null}
use Rattle.value_model.specs.declared.values.ValueAnswer.{ValueAnswer}
use Rattle.value_model.specs.declared.values.ValueAnswer.TheVariants as answer
use Rattle.value_model.specs.declared.values.ValueFault.TheVariants.{Unbound, Several, WrongKind}
use Rattle.value_model.specs.declared.values.ValueKey.{ValueKey}
use Rattle.value_model.specs.Keys.{same_value_key, value_key_is_exact}
use Rattle.value_model.specs.Trees.{Tree, tree, named_in}
use Rattle.value_model.specs.Trees.Tree.{Number, Truth, Words, Nil, Name, One, Two, Choice}
use Rattle.value_model.specs.Operators.{of_one, of_two, of_first}
use Rattle.value_model.specs.Meant.{Decider, feature_at, decider, meant}
use Rattle.value_model.specs.Reading.{Nothing, Reading, of_value, unless, chosen_by, Place, Lead, by_lead, node_spot, lead, worth, decided_by, of_meant, ask}
use Rattle.value_model.specs.Reading.Lead.{Known, Needs}
use Rattle.value_model.specs.Valuing.{MayStand, IsTarget, IsKey, needed, read_by, read_with, may_read}
use Rattle.value_model.proofs.TreeLaws.{tree_names}
use Rattle.value_model.proofs.FinalLaws.{MayBe, LeadStands, one_final, two_final, first_final, lead_stands}
use Rattle.value_model.proofs.MeantLaws.{meant_feature, all_of_flat}

abbrev pub ValueWorld : Type 0
ValueWorld = World ValueKey ValueAnswer NoFact Nothing

abbrev pub ValueAsked : Type 0
ValueAsked = Asked ValueKey NoFact ValueAnswer

-- the same table with the key left out
abbrev pub without : ValueKey → ValueWorld → ValueWorld
without q s = record { table = λ p. cond (same_value_key q p) None (s.table p); outer = s.outer }

-- it is done, or waits on one key
abbrev pub IsOne : Step ValueKey ValueAnswer → Type 0
IsOne (Done x) = Unit {0}
IsOne (Waits []) = ⊥
IsOne (Waits (k ∷ [])) = Unit {0}
IsOne (Waits (k ∷ l ∷ ks)) = ⊥

-- The answers may stand where G holds, which is that the key is one.
module _ (w : LinkWorld) (G : Type 0) where
  pub record IsRule (P : ValueKey → Type 0) (c : Reading ValueAnswer) : Type 0 where
    pub regular : IsRegular c
    -- what it waits on has the property
    pub among : (s : ValueWorld) → WaitsAmong P (c s)
    pub one : (s : ValueWorld) → IsOne (c s).step
    -- it waits on what it looks at, where that is left out
    pub alone : (s : ValueWorld) (q : ValueKey) → IsMember (c s).looks (Key q) → WaitsOn (c (without q s)).step q
    pub final : G → (s : ValueWorld) → AllFit (λ k v. MayStand w v) s.table → (v : ValueAnswer) → (c s).step ≡ Done v → MayStand w v

  abbrev done_as : ValueAnswer → Step ValueKey ValueAnswer
  done_as v = Done v

  abbrev key_as : ValueKey → Fact ValueKey NoFact
  key_as k = Key k

  done_same : (v u : ValueAnswer) → done_as v ≡ done_as u → v ≡ u
  done_same v u e = cc

  -- the parts

  ok : (P : ValueKey → Type 0) (v : ValueAnswer) → (G → MayStand w v) → IsRule P (done v)
  ok P v h = record {
    regular = regular_done v;
    among = λ s. among_done P s v;
    one = λ s. tt;
    alone = λ s q m. absurd m;
    final = λ g s fit u e. subst (MayStand w) (done_same v u e) (h g);
  }

  read_one : (k : ValueKey) (o : Option ValueAnswer) → IsOne (read_step k o)
  read_one k None = tt
  read_one k (Some v) = tt

  key_same : (k q : ValueKey) → key_as k ≡ key_as q → k ≡ q
  key_same k q e = cc

  read_alone : (s : ValueWorld) (k q : ValueKey) → IsMember (key_as k ∷ []) (Key q) → WaitsOn (read {E = Nothing} k (without q s)).step q
  read_alone s k q (inl e) = subst (λ x. WaitsOn (read {E = Nothing} k (without x s)).step x) (key_same k q e) (rw (value_key_is_exact.itself k) (inl refl))
  read_alone s k q (inr m) = absurd m

  read_final : (s : ValueWorld) (k : ValueKey) → AllFit (λ k v. MayStand w v) s.table → (o : Option ValueAnswer) → s.table k ≡ o → (v : ValueAnswer)
      → read_step k o ≡ Done v → MayStand w v
  read_final s k fit None is v e = cc
  read_final s k fit (Some u) is v e = subst (MayStand w) (done_same u v e) (fit k u is)

  reads : (P : ValueKey → Type 0) (k : ValueKey) → P k → IsRule P (read k)
  reads P k p = record {
    regular = regular_read k;
    among = λ s. among_read P s k p;
    one = λ s. read_one k (s.table k);
    alone = λ s q m. read_alone s k q m;
    final = λ g s fit v e. read_final s k fit (s.table k) refl v e;
  }

  -- a key is among the looks, or isn't
  has_key : (q : ValueKey) (looks : List (Fact ValueKey NoFact)) → IsMember looks (Key q) ⊎ (IsMember looks (Key q) → ⊥)
  has_key q [] = inr (λ m. m)
  has_key q (Outer f ∷ looks) = elim (has_key q looks) [ inl m ↦ inl (inr m) | inr n ↦ inr (λ m. elim m [ inl e ↦ outer_key f e | inr l ↦ n l ]) ]
    where
      outer_key : (f : NoFact) → Outer f ≡ Key q → ⊥
      outer_key f e = cc
  has_key q (Key p ∷ looks) = elim (bool_cases (same_value_key p q)) [
    | inl a ↦ inl (inl (ap Key (value_key_is_exact.exact p q a)))
    | inr b ↦ elim (has_key q looks) [
      | inl m ↦ inl (inr m)
      | inr n ↦ inr (λ m. elim m [ inl e ↦ differ (key_same p q e) b | inr l ↦ n l ])
    ]
  ]
    where
      differ : p ≡ q → same_value_key p q ≡ false → ⊥
      differ e b = let h : same_value_key p p ≡ false = subst (λ x. same_value_key p x ≡ false) (sym e) b in
          let t : true ≡ false = sym (value_key_is_exact.itself p) ∙ h in cc

  -- leaving out what isn't looked at changes nothing that is
  agree_without : (s : ValueWorld) (q : ValueKey) (looks : List (Fact ValueKey NoFact)) → (IsMember looks (Key q) → ⊥) → Agrees looks s (without q s)
  agree_without s q looks h = record {
    keys = λ p m. elim (bool_cases (same_value_key q p)) [
      | inl a ↦ absurd (h (subst (λ x. IsMember looks (Key x)) (sym (value_key_is_exact.exact q p a)) m))
      | inr b ↦ rw b refl
    ];
    facts = λ f m. refl;
  }

  first_waits : (a : ValueAsked) (f : ValueAnswer → ValueAsked) (step : Step ValueKey ValueAnswer) (q : ValueKey) → WaitsOn step q
      → WaitsOn (then_step a f step).step q
  first_waits a f (Done x) q h = absurd h
  first_waits a f (Waits ls) q h = h

  then_one : (a : ValueAsked) (f : ValueAnswer → ValueAsked) (step : Step ValueKey ValueAnswer) → a.step ≡ step → IsOne a.step
      → ((x : ValueAnswer) → IsOne (f x).step) → IsOne (then_step a f step).step
  then_one a f (Done x) e h g = g x
  then_one a f (Waits ks) e h g = subst IsOne e h

  module _ (P : ValueKey → Type 0) (c : Reading ValueAnswer) (f : Value → Reading ValueAnswer) (r : IsRule P c) (u : (v : Value) → IsRule P (f v)) where
    regular_of : (x : ValueAnswer) → IsRegular (of_value f x)
    regular_of (answer.Value v) = (u v).regular
    regular_of (answer.Refused y) = regular_done (answer.Refused y)

    among_of : (s : ValueWorld) (x : ValueAnswer) → WaitsAmong P (of_value f x s)
    among_of s (answer.Value v) = (u v).among s
    among_of s (answer.Refused y) = among_done P s (answer.Refused y)

    one_of : (s : ValueWorld) (x : ValueAnswer) → IsOne (of_value f x s).step
    one_of s (answer.Value v) = (u v).one s
    one_of s (answer.Refused y) = tt

    alone_of : (s : ValueWorld) (q : ValueKey) (x : ValueAnswer) → IsMember (of_value f x s).looks (Key q) → WaitsOn (of_value f x (without q s)).step q
    alone_of s q (answer.Value v) m = (u v).alone s q m
    alone_of s q (answer.Refused y) m = absurd m

    final_of : G → (s : ValueWorld) → AllFit (λ k v. MayStand w v) s.table → (x : ValueAnswer) → MayStand w x → (v : ValueAnswer) → (of_value f x s).step
        ≡ Done v → MayStand w v
    final_of g s fit (answer.Value y) h v e = (u y).final g s fit v e
    final_of g s fit (answer.Refused y) h v e = subst (MayStand w) (done_same (answer.Refused y) v e) h

    in_first : (s : ValueWorld) (q : ValueKey) → IsMember (c s).looks (Key q) → WaitsOn ((c >>= of_value f) (without q s)).step q
    in_first s q m = first_waits (c (without q s)) (λ x. of_value f x (without q s)) (c (without q s)).step q (r.alone s q m)

    alone_then : (s : ValueWorld) (q : ValueKey) (step : Step ValueKey ValueAnswer) → (c s).step ≡ step
        → IsMember (then_step (c s) (λ x. of_value f x s) step).looks (Key q) → WaitsOn ((c >>= of_value f) (without q s)).step q
    alone_then s q (Waits ks) e m = in_first s q m
    alone_then s q (Done x) e m = elim (member_cases (c s).looks (of_value f x s).looks (Key q) m) [
      | inl a ↦ in_first s q a
      | inr b ↦ elim (has_key q (c s).looks) [
        | inl a ↦ in_first s q a
        | inr n ↦
            let kept : (c (without q s)).step ≡ Done x = ap (λ a. a.step) (r.regular.local s (without q s) (agree_without s q (c s).looks n)) ∙ e in
            subst (λ a. WaitsOn (then_step (c (without q s)) (λ y. of_value f y (without q s)) a).step q) (sym kept) (alone_of s q x b)
      ]
    ]

    final_then : G → (s : ValueWorld) → AllFit (λ k v. MayStand w v) s.table → (step : Step ValueKey ValueAnswer) → (c s).step ≡ step → (v : ValueAnswer)
        → (then_step (c s) (λ x. of_value f x s) step).step ≡ Done v → MayStand w v
    final_then g s fit (Done x) is v e = final_of g s fit x (r.final g s fit x is) v e
    final_then g s fit (Waits ks) is v e = cc

    then : IsRule P (c >>= of_value f)
    then = record {
      regular = regular_then c (of_value f) r.regular regular_of;
      among = λ s. among_then P s c (of_value f) (r.among s) (λ x e. among_of s x);
      one = λ s. then_one (c s) (λ x. of_value f x s) (c s).step refl (r.one s) (one_of s);
      alone = λ s q m. alone_then s q (c s).step refl m;
      final = λ g s fit v e. final_then g s fit (c s).step refl v e;
    }

  -- the definitions, each by its text

  unless_rule : (P : ValueKey → Type 0) (c : Reading ValueAnswer) (o : Option ValueAnswer) → (G → MayBe w o) → IsRule P c → IsRule P (unless c o)
  unless_rule P c None h r = r
  unless_rule P c (Some x) h r = ok P x h

  chosen_rule : (P : ValueKey → Type 0) (at : Spot) (c d : Reading ValueAnswer) → IsRule P c → IsRule P d → (v : Value) → IsRule P (chosen_by at c d v)
  chosen_rule P at c d r u (Boolean true) = r
  chosen_rule P at c d r u (Boolean false) = u
  chosen_rule P at c d r u other = ok P (answer.Refused (WrongKind at)) (λ g. tt)

  lead_rule : (P : ValueKey → Type 0) (l : Lead) → (G → LeadStands w l) → ((q : ValueKey) → IsMember (needed l) q → P q) → IsRule P (by_lead l)
  lead_rule P (Known x) h g = ok P x h
  lead_rule P (Needs k) h g = reads P k (g k (inl refl))

  flat_member : {A B : Type 0} (f : A → List B) (xs : List A) (x : A) (y : B) → IsMember xs x → IsMember (f x) y → IsMember (flat_map f xs) y
  flat_member f (z ∷ xs) x y (inl e) m = member_left (f z) (flat_map f xs) y (subst (λ a. IsMember (f a) y) (sym e) m)
  flat_member f (z ∷ xs) x y (inr n) m = member_right (f z) (flat_map f xs) y (flat_member f xs x y n m)
  flat_member f [] x y n m = absurd n

  module _ (lib : Library) where
    -- the keys to which these names lead have the property
    LedAmong : (ValueKey → Type 0) → Place → List ℕ → Type 0
    LedAmong P p rs = (r : ℕ) (q : ValueKey) → IsMember rs r → IsMember (needed (lead w lib p.feature.file p.target r)) q → P q

    worth_rule : (P : ValueKey → Type 0) (p : Place) → (G → IsTarget w p.target) → (t : Tree) → LedAmong P p (named_in t) → IsRule P (worth w lib p t)
    unfolding LedAmong
    worth_rule P p is (Number z) h = ok P (answer.Value (Integer z)) (λ g. tt)
    worth_rule P p is (Truth b) h = ok P (answer.Value (Boolean b)) (λ g. tt)
    worth_rule P p is (Words x) h = ok P (answer.Value (Text x)) (λ g. tt)
    worth_rule P p is Nil h = ok P (answer.Value Null) (λ g. tt)
    worth_rule P p is (Name r) h =
        lead_rule P (lead w lib p.feature.file p.target r) (λ g. lead_stands w lib p.feature.file p.target r (is g)) (λ q m. h r q (inl refl) m)
    worth_rule P p is (One n op t) h =
        then P (worth w lib p t) (λ a. done (of_one op (node_spot w p n) a)) (worth_rule P p is t h)
        (λ a. ok P (of_one op (node_spot w p n) a) (λ g. one_final w op (node_spot w p n) a))
    worth_rule P p is (Two n op t u) h =
        then P (worth w lib p t) (λ a. unless (worth w lib p u >>= of_value (λ b. done (of_two op (node_spot w p n) a b))) (of_first op (node_spot w p n) a))
        (worth_rule P p is t (λ r q m. h r q (member_left (named_in t) (named_in u) r m)))
        (λ a. unless_rule P (worth w lib p u >>= of_value (λ b. done (of_two op (node_spot w p n) a b))) (of_first op (node_spot w p n) a)
        (λ g. first_final w op (node_spot w p n) a)
        (then P (worth w lib p u) (λ b. done (of_two op (node_spot w p n) a b))
        (worth_rule P p is u (λ r q m. h r q (member_right (named_in t) (named_in u) r m)))
        (λ b. ok P (of_two op (node_spot w p n) a b) (λ g. two_final w op (node_spot w p n) a b))))
    worth_rule P p is (Choice n t u v) h =
        then P (worth w lib p t) (chosen_by (node_spot w p n) (worth w lib p u) (worth w lib p v))
        (worth_rule P p is t (λ r q m. h r q (member_left (named_in t) (named_in u ++ named_in v) r m)))
        (chosen_rule P (node_spot w p n) (worth w lib p u) (worth w lib p v)
        (worth_rule P p is u (λ r q m. h r q (member_right (named_in t) (named_in u ++ named_in v) r (member_left (named_in u) (named_in v) r m))))
        (worth_rule P p is v (λ r q m. h r q (member_right (named_in t) (named_in u ++ named_in v) r (member_right (named_in u) (named_in v) r m)))))

    decided_rule : (k : ValueKey) → (G → IsTarget w k.target) → (g : ElementNo) → (G → feature_at w g ≡ true) → (d : Option Decider)
        → IsRule (IsMember (read_by w lib k.target d)) (decided_by w lib k g d)
    unfolding LedAmong
    decided_rule k target g is None = ok (IsMember []) (answer.Refused (Unbound g)) is
    decided_rule k target g is (Some d) =
        worth_rule (IsMember (read_by w lib k.target (Some d))) (record { feature = d.feature; of_result = d.own.of_result; target = k.target }) target
        (tree d.own.nodes)
        (λ r q m n. flat_member (λ x. needed (lead w lib d.feature.file k.target x)) (names_in d.own.nodes) r q (tree_names d.own.nodes r m) n)

    meant_rule : (k : ValueKey) → (G → IsKey w k) → (g : Option ElementNo) → (G → (h : ElementNo) → g ≡ Some h → feature_at w h ≡ true)
        → IsRule (IsMember (read_with w lib k.target g)) (of_meant w lib k g)
    meant_rule k is None h = ok (IsMember []) (answer.Refused (Several k.feature)) (λ y. (is y).feature)
    meant_rule k is (Some g) h = decided_rule k (λ y. (is y).target) g (λ y. h y g refl) (decider w g)

    rule_of : (k : ValueKey) → (G → IsKey w k) → IsRule (IsMember (may_read w lib k)) (ask w lib k)
    rule_of k is = meant_rule k is (meant w lib k.feature k.target) (λ y. meant_feature w lib k.feature k.target (is y).feature)

module _ (w : LinkWorld) (lib : Library) where
  -- The rule of a key keeps the laws, and waits on what the key may read.
  pub ask_rule : (k : ValueKey) → IsRule w (IsKey w k) (IsMember (may_read w lib k)) (ask w lib k)
  ask_rule k = rule_of w (IsKey w k) lib k (λ is. is)

  -- what a key may read are keys
  needed_key : (l : Lead) (q : ValueKey) → LeadStands w l → IsMember (needed l) q → IsKey w q
  needed_key (Known x) q h m = absurd m
  needed_key (Needs k) q h (inl e) = subst (IsKey w) e h
  needed_key (Needs k) q h (inr m) = absurd m

  read_by_keys : (t : Option ElementNo) → IsTarget w t → (d : Option Decider) (q : ValueKey) → IsMember (read_by w lib t d) q → IsKey w q
  read_by_keys t h None q m = absurd m
  read_by_keys t h (Some d) q m =
      all_of_flat (IsKey w) (λ r. needed (lead w lib d.feature.file t r))
      (λ r k n. needed_key (lead w lib d.feature.file t r) k (lead_stands w lib d.feature.file t r h) n) (names_in d.own.nodes) q m

  read_with_keys : (t : Option ElementNo) → IsTarget w t → (g : Option ElementNo) (q : ValueKey) → IsMember (read_with w lib t g) q → IsKey w q
  read_with_keys t h None q m = absurd m
  read_with_keys t h (Some g) q m = read_by_keys t h (decider w g) q m

  pub may_read_keys : (k q : ValueKey) → IsKey w k → IsMember (may_read w lib k) q → IsKey w q
  may_read_keys k q is m = read_with_keys k.target is.target (meant w lib k.feature k.target) q m
