-- When keys of values are the same.
use Rattle.std.specs.Prelude.{◌≡◌, Bool, true, false, ◌&&◌, Option, None, Some}
use Rattle.std.proofs.Common.{refl}
use Rattle.linker_base.specs.Members.{IsExact}
use Rattle.element_store.specs.declared.numbers.ElementNo.{ElementNo}
use Rattle.link_model.specs.Keys.{same_element, element_exact, element_is_exact}
use Rattle.value_model.specs.declared.values.ValueKey.{ValueKey}
use Rattle.value_model.specs.declared.values.NoFact.{NoFact}

-- the same target, or none twice
abbrev pub same_target : Option ElementNo → Option ElementNo → Bool
same_target None None = true
same_target (Some a) (Some b) = same_element a b
same_target a b = false

-- the same feature in the same target
abbrev pub same_value_key : ValueKey → ValueKey → Bool
same_value_key x y = same_element x.feature y.feature && same_target x.target y.target

and_left : (a b : Bool) → (a && b) ≡ true → a ≡ true
and_left true b h = refl
and_left false b h = cc

and_right : (a b : Bool) → (a && b) ≡ true → b ≡ true
and_right true b h = h
and_right false b h = cc

target_exact : (a b : Option ElementNo) → same_target a b ≡ true → a ≡ b
target_exact None None h = refl
target_exact (Some a) (Some b) h = λ i. Some (element_exact a b h i)
target_exact None (Some b) h = cc
target_exact (Some a) None h = cc

target_itself : (a : Option ElementNo) → same_target a a ≡ true
target_itself None = refl
target_itself (Some a) = element_is_exact.itself a

pub value_key_exact : (x y : ValueKey) → same_value_key x y ≡ true → x ≡ y
value_key_exact x y h =
    let f = element_exact x.feature y.feature
    (and_left (same_element x.feature y.feature) (same_target x.target y.target) h) in
    let t = target_exact x.target y.target
    (and_right (same_element x.feature y.feature) (same_target x.target y.target) h) in
    λ i. record { feature = f i; target = t i }

pub value_key_is_exact : IsExact same_value_key
value_key_is_exact = record {
  exact = value_key_exact;
  itself = λ x. rw (element_is_exact.itself x.feature, target_itself x.target) refl;
}

pub no_fact_exact : (eq : NoFact → NoFact → Bool) → (x y : NoFact) → eq x y ≡ true → x ≡ y
no_fact_exact eq x y h = refl
