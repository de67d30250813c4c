-- When numbers, keys and facts are the same.
use Rattle.std.specs.Prelude.{◌≡◌, ℕ, Bool, true, false, ◌&&◌, nat_eq, List, [], ◌∷◌}
use Rattle.std.specs.List.{list_any}
use Rattle.std.specs.Cmp.Lexicographic.{pointwise}
use Rattle.std.proofs.Common.{ap, arith, refl}
use Rattle.std.proofs.lemmas.Bool.Decides.{nat_tests}
use Rattle.linker_base.specs.Members.{IsExact}
use Rattle.element_store.specs.declared.numbers.FileNo.{FileNo}
use Rattle.element_store.specs.declared.numbers.ElementNo.{ElementNo}
use Rattle.link_model.specs.declared.keys.LinkKey.{LinkKey}
use Rattle.link_model.specs.declared.keys.LinkFact.{LinkFact}
use Rattle.link_model.specs.declared.keys.LinkFact.TheVariants.{File, RootName}

-- one file
abbrev pub same_file : FileNo → FileNo → Bool
same_file f g = nat_eq f.0 g.0

-- one element of one file
abbrev pub same_element : ElementNo → ElementNo → Bool
same_element a b = same_file a.file b.file && nat_eq a.index b.index

-- one reference of one file
abbrev pub same_key : LinkKey → LinkKey → Bool
same_key a b = same_file a.0.file b.0.file && nat_eq a.0.index b.0.index

-- the element is among these
abbrev pub is_in : ElementNo → List ElementNo → Bool
is_in e es = list_any (same_element e) es

nat_exact : (a b : ℕ) → nat_eq a b ≡ true → a ≡ b
nat_exact a b h = grind (arith, nat_tests)

nat_itself : (a : ℕ) → nat_eq a a ≡ true
nat_itself a = grind (arith, nat_tests)

and_left : (a b : Bool) → (a && b) ≡ true → a ≡ true
and_left true b h = refl
and_left false b h = cc

and_right : (a b : Bool) → (a && b) ≡ true → b ≡ true
and_right true b h = h
and_right false b h = cc

-- keys that `==` ties are one
pub key_exact : (x y : LinkKey) → same_key x y ≡ true → x ≡ y
key_exact x y h =
    let f : x.0.file.0 ≡ y.0.file.0 =
    nat_exact x.0.file.0 y.0.file.0 (and_left (same_file x.0.file y.0.file) (nat_eq x.0.index y.0.index) h) in
    let i : x.0.index ≡ y.0.index =
    nat_exact x.0.index y.0.index (and_right (same_file x.0.file y.0.file) (nat_eq x.0.index y.0.index) h) in
    λ j. record { 0 = record { file = record { 0 = f j }; index = i j } }

pub key_is_exact : IsExact same_key
key_is_exact = record { exact = key_exact; itself = λ x. rw (nat_itself x.0.file.0, nat_itself x.0.index) refl }

pub element_exact : (x y : ElementNo) → same_element x y ≡ true → x ≡ y
element_exact x y h =
    let f : x.file.0 ≡ y.file.0 =
    nat_exact x.file.0 y.file.0 (and_left (same_file x.file y.file) (nat_eq x.index y.index) h) in
    let i : x.index ≡ y.index =
    nat_exact x.index y.index (and_right (same_file x.file y.file) (nat_eq x.index y.index) h) in
    λ j. record { file = record { 0 = f j }; index = i j }

pub element_is_exact : IsExact same_element
element_is_exact = record { exact = element_exact; itself = λ x. rw (nat_itself x.file.0, nat_itself x.index) refl }

-- names that `==` ties are one
pub name_exact : (x y : List ℕ) → pointwise nat_eq x y ≡ true → x ≡ y
name_exact [] [] h = refl
name_exact [] (b ∷ y) h = cc
name_exact (a ∷ x) [] h = cc
name_exact (a ∷ x) (b ∷ y) h =
    let e : a ≡ b = nat_exact a b (and_left (nat_eq a b) (pointwise nat_eq x y) h) in
    let f : x ≡ y = name_exact x y (and_right (nat_eq a b) (pointwise nat_eq x y) h) in
    λ j. e j ∷ f j

-- facts that a test ties are one, if the test is that of files and that of names
pub fact_exact : (eq : LinkFact → LinkFact → Bool) → ((a b : FileNo) → eq (File a) (File b) ≡ same_file a b)
    → ((x y : List ℕ) → eq (RootName x) (RootName y) ≡ pointwise nat_eq x y)
    → ((a : FileNo) (y : List ℕ) → eq (File a) (RootName y) ≡ false)
    → ((x : List ℕ) (b : FileNo) → eq (RootName x) (File b) ≡ false) → (x y : LinkFact) → eq x y ≡ true → x ≡ y
fact_exact eq ff rr fr rf (File a) (File b) h = let e : a.0 ≡ b.0 = nat_exact a.0 b.0 (rw ff at h) in
    λ j. File (record { 0 = e j })
fact_exact eq ff rr fr rf (RootName x) (RootName y) h = let e : x ≡ y = name_exact x y (rw rr at h) in ap RootName e
fact_exact eq ff rr fr rf (File a) (RootName y) h = let z : false ≡ true = rw fr at h in cc
fact_exact eq ff rr fr rf (RootName x) (File b) h = let z : false ≡ true = rw rf at h in cc
