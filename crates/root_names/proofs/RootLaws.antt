-- The public members of a root, item by item and name by name.
use Rattle.std.proofs.Common.{◌≡◌, ◌+◌, ℕ, suc, arith, Bool, true, false, nat_eq, not, ◌&&◌, ◌||◌}
use Rattle.std.proofs.Common.{List, [], ◌∷◌, ◌++◌, map, refl, sym, ◌∙◌, ap, subst, inl, inr}
use Rattle.std.specs.Prelude.{Some, None, Option, slice_get}
use Rattle.std.specs.List.{flat_map}
use Rattle.std.specs.Option.{option_map_or}
use Rattle.std.specs.Cmp.Lexicographic.{pointwise}
use Rattle.std.proofs.lemmas.Bool.Decides.{nat_tests}
use Rattle.linker_base.specs.Members.{IsMember}
use Rattle.element_store.specs.declared.numbers.FileNo.{FileNo}
use Rattle.element_store.specs.declared.numbers.MemberNo.{MemberNo}
use Rattle.element_store.specs.declared.records.Member.{Member}
use Rattle.element_store.specs.declared.lists.Item.{Item}
use Rattle.element_store.specs.declared.lists.Item.TheVariants as item
use Rattle.element_store.specs.Numbers.{numbers_from, chosen}
use Rattle.element_store.specs.Model.{Data, is_name, bears, members_in}
use Rattle.element_store.specs.Condition.{members_of}
use Rattle.element_store.proofs.NameLaws.{exact_names}
use Rattle.link_model.specs.Outside.{is_public}
use Rattle.root_names.specs.Steps.{is_other, numbered, repeats, shows, shown_by, roots_in}

module _ (x : List ℕ) (f : FileNo) where
  -- the member of that number, if it is public and bears x
  abbrev shown_at : List Member → ℕ → List MemberNo
  shown_at members k = option_map_or (λ m. chosen (shows x m) (numbered f k) []) (slice_get members k) []

  by_number : (d : Data) (items : List Item) → flat_map (shown_by x f d) items ≡ flat_map (shown_at d.members) (members_in items)
  by_number d [] = refl
  by_number d (item.Member k ∷ items) = ap (λ ms. shown_at d.members k ++ ms) (by_number d items)
  by_number d (item.Import k ∷ items) = by_number d items

  one_more : (all : List Member) (a p b : Bool) (k : ℕ) (ks ls : List ℕ) → shown_at all k ≡ chosen (p && b) (numbered f k) []
      → flat_map (shown_at all) ks ≡ map (numbered f) ls → flat_map (shown_at all) (chosen a k ks) ≡ map (numbered f) (chosen (a && p && b) k ls)
  one_more all true true true k ks ls e h = λ i. e i ++ h i
  one_more all true true false k ks ls e h = λ i. e i ++ h i
  one_more all true false b k ks ls e h = λ i. e i ++ h i
  one_more all false p b k ks ls e h = h

  roots_from : (all rest : List Member) (n : ℕ) → ((k : ℕ) → slice_get all (n + k) ≡ slice_get rest k)
      → flat_map (shown_at all) (numbers_from n (λ m. nat_eq m.owner 0) rest)
      ≡ map (numbered f) (numbers_from n (λ m. nat_eq m.owner 0 && is_public m.visibility && bears x m) rest)
  roots_from all [] n h = refl
  roots_from all (m ∷ rest) n h =
      let here : slice_get all n ≡ Some m = let e : n + 0 ≡ n = omega arith in subst (λ k. slice_get all k ≡ Some m) e (h 0) in
      one_more all (nat_eq m.owner 0) (is_public m.visibility) (bears x m) n (numbers_from (suc n) (λ m. nat_eq m.owner 0) rest)
      (numbers_from (suc n) (λ m. nat_eq m.owner 0 && is_public m.visibility && bears x m) rest)
      (ap (λ (o : Option Member). option_map_or (λ m. chosen (shows x m) (numbered f n) []) o []) here)
      (roots_from all rest (suc n) (λ k. let e : suc n + k ≡ n + suc k = omega arith in ap (slice_get all) e ∙ h (suc k)))

  -- the items of a root show its public members that bear x
  pub roots_are : (d : Data) (items : List Item) → members_in items ≡ members_of d 0 → flat_map (shown_by x f d) items ≡ roots_in f d x
  roots_are d items own =
      by_number d items ∙ ap (flat_map (shown_at d.members)) own
      ∙ roots_from d.members d.members 0 (λ k. let e : 0 + k ≡ k = omega arith in ap (slice_get d.members) e)

  pub own_number : (k : ℕ) → is_other f (numbered f k) ≡ false
  own_number k = let e : nat_eq f.0 f.0 ≡ true = grind (arith, nat_tests) in ap not e

  own_chosen : (b : Bool) (k : ℕ) (m : MemberNo) → IsMember (chosen b (numbered f k) []) m → is_other f m ≡ false
  own_chosen true k m (inl e) = ap (is_other f) (sym e) ∙ own_number k
  own_chosen true k m (inr h) = absurd h
  own_chosen false k m h = absurd h

  -- they are members of the file
  pub own_shown : (d : Data) (i : Item) (m : MemberNo) → IsMember (shown_by x f d i) m → is_other f m ≡ false
  own_shown d (item.Member k) m h = own_look k m (slice_get d.members k) h
    where
      own_look : (k : ℕ) (m : MemberNo) (o : Option Member) → IsMember (option_map_or (λ y. chosen (shows x y) (numbered f k) []) o []) m → is_other f m ≡ false
      own_look k m None h = absurd h
      own_look k m (Some y) h = own_chosen (shows x y) k m h
  own_shown d (item.Import k) m h = absurd h

-- ---- the two names of a member

names_alike : (short name : Option (List ℕ)) → option_map_or (λ y. is_name y name) short false ≡ true → (x : List ℕ) → is_name x name ≡ is_name x short
names_alike None name h x = cc
names_alike (Some y) None h x = cc
names_alike (Some y) (Some z) h x = ap (pointwise nat_eq x) (sym (exact_names.exact y z h))

names_apart : (short name : Option (List ℕ)) → option_map_or (λ y. is_name y name) short false ≡ false → (x : List ℕ) → is_name x short ≡ true
    → is_name x name ≡ true → ⊥
names_apart None name h x a b = cc
names_apart (Some y) None h x a b = cc
names_apart (Some y) (Some z) h x a b =
    let e : x ≡ y = exact_names.exact x y a in
    let same : pointwise nat_eq y z ≡ true = subst (λ w. pointwise nat_eq w z ≡ true) e b in
    let no : true ≡ false = sym same ∙ h in
    cc

pub repeated : (m : Member) → repeats m ≡ true → (x : List ℕ) → bears x m ≡ is_name x m.short
repeated m h x = ap (λ b. is_name x m.short || b) (names_alike m.short m.name h x) ∙ either (is_name x m.short)
  where
    either : (b : Bool) → (b || b) ≡ b
    either true = refl
    either false = refl

pub apart : (m : Member) → repeats m ≡ false → (x : List ℕ) → is_name x m.short ≡ true → is_name x m.name ≡ true → ⊥
apart m h x a b = names_apart m.short m.name h x a b
