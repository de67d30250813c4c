-- The numbers of the numbering are in range.
use Rattle.std.proofs.Common.{◌≡◌, inl, inr, ℕ, zero, suc, ◌+◌, ◌<◌, ◌≤◌, Bool, true, false, nat_eq, List, [], ◌∷◌, ◌++◌, length, refl, ap, sym, subst, ◌∙◌, arith, length-append}
use Rattle.std.specs.Prelude.{map, slice_get, nat_lt, Option, Some, None}
use Rattle.std.specs.List.{flat_map, list_all}
use Rattle.std.specs.Option.{option_map_or}
use Rattle.std.proofs.lemmas.List.{length-map}
use Rattle.std.proofs.lemmas.List.Folds.{list_all-append}
use Rattle.std.proofs.lemmas.Bool.{eq-eqb}
use Rattle.std.proofs.lemmas.Bool.Decides.{Decides-ltb}
use Rattle.linker_base.specs.Members.{IsMember}
use Rattle.element_store.specs.declared.numbers.FileNo.{FileNo}
use Rattle.element_store.specs.declared.outcome.Language.{Language}
use Rattle.element_store.specs.declared.outcome.Role.{Role}
use Rattle.element_store.specs.declared.outcome.Role.TheVariants as role
use Rattle.element_store.specs.declared.lists.Item.{Item}
use Rattle.element_store.specs.declared.lists.Item.TheVariants as item
use Rattle.element_store.specs.Numbers.{numbers_from, chosen}
use Rattle.element_store.specs.Expressions.{names_of_bounds}
use Rattle.element_store.specs.Model.{Data, members_in, imports_in}
use Rattle.element_store.specs.Condition.{has_element, has_reference, names_of, element_stands, target_stands, member_stands, import_stands, item_stands, IsInRange}
use Rattle.text_model.specs.declared.draft.Path.{Path}
use Rattle.text_model.specs.declared.draft.Mention.{Mention}
use Rattle.text_model.specs.declared.draft.DraftExpr.{DraftExpr}
use Rattle.text_model.specs.declared.draft.Draft.{Draft}
use Rattle.text_model.specs.declared.draft.DraftTarget.{DraftTarget}
use Rattle.text_model.specs.declared.draft.DraftTarget.TheVariants.{Owned, Alias}
use Rattle.text_model.specs.declared.draft.DraftMember.{DraftMember}
use Rattle.text_model.specs.declared.draft.DraftImport.{DraftImport}
use Rattle.text_model.specs.Drafts.{names, mentions}
use Rattle.linker_base.proofs.Cases.{and_true}
use Rattle.text_laws.specs.Fits.{Every}
use Rattle.text_laws.proofs.FittingLaws.{every_append, every_front, every_back}
use Rattle.text_model.specs.Walk.{Walk}
use Rattle.text_laws.specs.Coherent.{Stock, stock, Held, held, held_target, held_member, held_import, held_from, AreWithin, Holds, EachFrom, MembersBelow, ImportsBelow, Owner, owner_by, owners_by, owners_from, AreCoherent, IsCoherent}
use Rattle.text_model.specs.Numbering.{nodes_of, ends, own_mentions, bound_mentions, value_mentions, head, mentions_of, width, reference, references_from, numbered_in, bound_start, value_start, result_start, element, elements_from, base_from, member_of, member, import_of, model_of}
use Rattle.text_laws.proofs.PartLaws.{elements_long, member_owner}
use Rattle.text_laws.proofs.ByElementLaws.{count_from, names_in-numbered, bounds_named}

below_from : (n k : ℕ) → n < k → nat_lt n k ≡ true
below_from n k h = (Decides-ltb n k).1 h

-- Names of expressions.

counted : (n k total : ℕ) → n + k ≤ total → list_all (λ r. nat_lt r total) (count_from n k) ≡ true
unfolding count_from
counted n zero total h = refl
counted n (suc k) total h = and_true (nat_lt n total) (list_all (λ r. nat_lt r total) (count_from (suc n) k)) (below_from n total (omega (arith, h)))
    (counted (suc n) k total (omega (arith, h)))

length-mentions : (r : Role) (ps : List Path) → length (mentions r ps) ≡ length ps
length-mentions r [] = refl
length-mentions r (p ∷ ps) = ap suc (length-mentions r ps)

named_value : (n : ℕ) (v : Option DraftExpr) → names_of (numbered_in n v) ≡ count_from n (length (names (nodes_of v)))
unfolding count_from
named_value n None = refl
named_value n (Some x) = names_in-numbered n x.nodes

-- a number of references, as a test, of an element whose references stand within the total
names_stand : (total n : ℕ) (d : Draft) → n + width d ≤ total
    → list_all (λ r. nat_lt r total) (names_of_bounds (element n d).bounds ++ (names_of (element n d).value ++ names_of (element n d).result)) ≡ true
names_stand total n d fits =
    let test : ℕ → Bool = λ r. nat_lt r total in
    let l1 = length-append (head d) d.inner in
    let l2 = length-append (own_mentions d) (bound_mentions d ++ value_mentions d) in
    let l3 = length-append (bound_mentions d) (value_mentions d) in
    let l4 = length-append (mentions role.Value (names (nodes_of d.value))) (mentions role.Value (names (nodes_of d.result))) in
    let b1 = length-mentions role.Bound (names (ends d.bounds)) in
    let b2 = length-mentions role.Value (names (nodes_of d.value)) in
    let b3 = length-mentions role.Value (names (nodes_of d.result)) in
    list_all-append test (names_of_bounds (element n d).bounds) (names_of (element n d).value ++ names_of (element n d).result)
    ∙ and_true (list_all test (names_of_bounds (element n d).bounds)) (list_all test (names_of (element n d).value ++ names_of (element n d).result))
    (ap (list_all test) (bounds_named (bound_start n d) d.bounds)
    ∙ counted (bound_start n d) (length (names (ends d.bounds))) total (omega (arith, fits, l1, l2, l3, l4, b1, b2, b3)))
    (list_all-append test (names_of (element n d).value) (names_of (element n d).result)
    ∙ and_true (list_all test (names_of (element n d).value)) (list_all test (names_of (element n d).result))
    (ap (list_all test) (named_value (value_start n d) d.value)
    ∙ counted (value_start n d) (length (names (nodes_of d.value))) total (omega (arith, fits, l1, l2, l3, l4, b1, b2, b3)))
    (ap (list_all test) (named_value (result_start n d) d.result)
    ∙ counted (result_start n d) (length (names (nodes_of d.result))) total (omega (arith, fits, l1, l2, l3, l4, b1, b2, b3))))

-- Owners.

abbrev OwnerBelow : ℕ → Owner → Type 0
OwnerBelow n o = option_map_or (λ k. nat_lt k n) o.owner true ≡ true

owned_below : (n : ℕ) (ms : List DraftMember) → MembersBelow n ms → Every (OwnerBelow n) (owners_by ms)
owned_below n [] h = tt
owned_below n (m ∷ ms) h = every_append (OwnerBelow n) (owner_by m.target m.owner) (owners_by ms) (one m.target) (owned_below n ms h.1) where
  one : (t : DraftTarget) → Every (OwnerBelow n) (owner_by t m.owner)
  one (Owned x) = (below_from m.owner n h.0, tt)
  one (Alias k) = tt

numbers_below : (n total : ℕ) (ss : List Stock) → n + length ss ≤ total → Every (λ o. o.element < total) (owners_from n ss)
numbers_below n total [] h = tt
numbers_below n total (s ∷ ss) h = (omega (arith, h), numbers_below (suc n) total ss (omega (arith, h)))

-- elements from the e-th on, whose references begin at n
elements_in : (d : Data) (e n : ℕ) (ds : List Draft) → n + length (references_from e ds) ≤ length d.references
    → Every (OwnerBelow (length d.elements)) (owners_from e (map stock ds))
    → list_all (element_stands d) (elements_from n ds) ≡ true
elements_in d e n [] fits owners = refl
elements_in d e n (x ∷ ds) fits owners =
    let len = length-append (map (reference e) (mentions_of x)) (references_from (suc e) ds) in
    let wide = length-map (mentions_of x) (reference e) in
    and_true (element_stands d (element n x)) (list_all (element_stands d) (elements_from (n + width x) ds))
    (and_true (option_map_or (has_element d) x.owner true) _ owners.0 (names_stand (length d.references) n x (omega (arith, fits, len, wide))))
    (elements_in d (suc e) (n + width x) ds (omega (arith, fits, len, wide)) owners.1)

-- Contexts.

contexts_in : (d : Data) (e : ℕ) (ds : List Draft) → e + length ds ≤ length d.elements → list_all (λ r. has_element d r.context) (references_from e ds) ≡ true
contexts_in d e [] fits = refl
contexts_in d e (x ∷ ds) fits =
    list_all-append (λ r. has_element d r.context) (map (reference e) (mentions_of x)) (references_from (suc e) ds)
    ∙ and_true (list_all (λ r. has_element d r.context) (map (reference e) (mentions_of x)))
    (list_all (λ r. has_element d r.context) (references_from (suc e) ds))
    (each (mentions_of x)) (contexts_in d (suc e) ds (omega (arith, fits))) where
      each : (ms : List Mention) → list_all (λ r. has_element d r.context) (map (reference e) ms) ≡ true
      each [] = refl
      each (m ∷ ms) = and_true (has_element d e) (list_all (λ r. has_element d r.context) (map (reference e) ms))
          (below_from e (length d.elements) (omega (arith, fits))) (each ms)

-- Items.

items_in : (d : Data) (items : List Item) → AreWithin (length d.members) (length d.imports) items → list_all (item_stands d) items ≡ true
items_in d [] h = refl
items_in d (item.Member m ∷ items) h = and_true (nat_lt m (length d.members)) (list_all (item_stands d) items) (below_from m (length d.members) h.0)
    (items_in d items h.1)
items_in d (item.Import i ∷ items) h = and_true (nat_lt i (length d.imports)) (list_all (item_stands d) items) (below_from i (length d.imports) h.0)
    (items_in d items h.1)

all_items_in : (d : Data) (ms : List DraftMember) (is : List DraftImport) (e : ℕ) (ds : List Draft) → length ms ≡ length d.members
    → length is ≡ length d.imports → EachFrom (Holds ms is) e (map stock ds)
    → list_all (list_all (item_stands d)) (map (λ x. x.items) ds) ≡ true
all_items_in d ms is e [] m i h = refl
all_items_in d ms is e (x ∷ ds) m i h = and_true (list_all (item_stands d) x.items) (list_all (list_all (item_stands d)) (map (λ y. y.items) ds))
    (items_in d x.items (subst (λ k. AreWithin k (length d.imports) x.items) m (subst (λ k. AreWithin (length ms) k x.items) i h.0.within)))
    (all_items_in d ms is (suc e) ds m i h.1)

-- What items hold has a place among the element's aliases and imports.

number_held : {A : Type 0} (test : A → Bool) (n j : ℕ) (xs : List A) (x : A) → slice_get xs j ≡ Some x → test x ≡ true
    → IsMember (numbers_from n test xs) (n + j)
number_held test n j [] x at passes = cc
number_held test n zero (y ∷ ys) x at passes =
    let same : y ≡ x = cc in
    let is : test y ≡ true = ap test same ∙ passes in
    rw is (inl (omega arith))
number_held test n (suc j) (y ∷ ys) x at passes = skip (test y)
    (subst (IsMember (numbers_from (suc n) test ys)) (omega arith) (number_held test (suc n) j ys x at passes)) where
      skip : (b : Bool) → IsMember (numbers_from (suc n) test ys) (n + suc j) → IsMember (chosen b n (numbers_from (suc n) test ys)) (n + suc j)
      skip true h = inr h
      skip false h = h

member_back : {A : Type 0} (xs ys : List A) (x : A) → IsMember ys x → IsMember (xs ++ ys) x
member_back [] ys x h = h
member_back (y ∷ xs) ys x h = inr (member_back xs ys x h)

member_front : {A : Type 0} (xs ys : List A) (x : A) → IsMember xs x → IsMember (xs ++ ys) x
member_front [] ys x h = absurd h
member_front (y ∷ xs) ys x (inl e) = inl e
member_front (y ∷ xs) ys x (inr h) = inr (member_front xs ys x h)

held_by_member : (ms : List DraftMember) (is : List DraftImport) (items : List Item) (j : ℕ) (h : Held) → IsMember (members_in items) j
    → IsMember (held ms is (item.Member j)) h → IsMember (flat_map (held ms is) items) h
held_by_member ms is [] j h at one = at
held_by_member ms is (item.Member m ∷ items) j h (inl same) one =
    member_front (held ms is (item.Member m)) (flat_map (held ms is) items) h (subst (λ k. IsMember (held ms is (item.Member k)) h) (sym same) one)
held_by_member ms is (item.Member m ∷ items) j h (inr at) one =
    member_back (held ms is (item.Member m)) (flat_map (held ms is) items) h (held_by_member ms is items j h at one)
held_by_member ms is (item.Import i ∷ items) j h at one =
    member_back (held ms is (item.Import i)) (flat_map (held ms is) items) h (held_by_member ms is items j h at one)

held_by_import : (ms : List DraftMember) (is : List DraftImport) (items : List Item) (j : ℕ) (h : Held) → IsMember (imports_in items) j
    → IsMember (held ms is (item.Import j)) h → IsMember (flat_map (held ms is) items) h
held_by_import ms is [] j h at one = at
held_by_import ms is (item.Import i ∷ items) j h (inl same) one =
    member_front (held ms is (item.Import i)) (flat_map (held ms is) items) h (subst (λ k. IsMember (held ms is (item.Import k)) h) (sym same) one)
held_by_import ms is (item.Import i ∷ items) j h (inr at) one =
    member_back (held ms is (item.Import i)) (flat_map (held ms is) items) h (held_by_import ms is items j h at one)
held_by_import ms is (item.Member m ∷ items) j h at one =
    member_back (held ms is (item.Member m)) (flat_map (held ms is) items) h (held_by_import ms is items j h at one)

place_held : (e n : ℕ) (rs : List Role) (h : Held) → IsMember (held_from e n rs) h → h.place < n + length rs
place_held e n [] h at = absurd at
place_held e n (r ∷ rs) h (inl same) = let p : n ≡ h.place = ap (λ (x : Held). x.place) same in omega (arith, p)
place_held e n (r ∷ rs) h (inr at) = omega (arith, place_held e (suc n) rs h at)

-- where the references of an alias or import of the element e stand
base_within : (n f e k : ℕ) (ds : List Draft) (s : Stock) → slice_get (map stock ds) e ≡ Some s → k < length s.inner
    → base_from n ds e + k < n + length (references_from f ds)
base_within n f e k [] s at below = cc
base_within n f zero k (d ∷ ds) s at below =
    let same : stock d ≡ s = cc in
    let inner : length (map (λ m. m.role) d.inner) ≡ length s.inner = ap (λ (x : Stock). length x.inner) same in
    omega (
      arith,
      below,
      inner,
      length-map d.inner (λ (m : Mention). m.role),
      length-append (head d) d.inner,
      length-map (mentions_of d)
          (reference f),
      length-append (map (reference f) (mentions_of d)) (references_from (suc f) ds),
    )
base_within n f (suc e) k (d ∷ ds) s at below =
    omega (
      arith,
      base_within (n + width d) (suc f) e k ds s at below,
      length-map (mentions_of d) (reference f),
      length-append
          (map (reference f) (mentions_of d)) (references_from (suc f) ds),
    )

each_get : {A : Type 0} (P : ℕ → A → Type 0) (n j : ℕ) (xs : List A) → j < length xs → EachFrom P n xs → (x : A) × (slice_get xs j ≡ Some x) × P (n + j) x
each_get P n j [] below each = absurd (omega (arith, below))
each_get P n zero (x ∷ xs) below each = (x, refl, subst (λ k. P k x) (omega arith) each.0)
each_get P n (suc j) (x ∷ xs) below each =
    let r = each_get P (suc n) j xs (omega (arith, below)) each.1 in
    (r.0, r.1, subst (λ k. P k r.0) (omega arith) r.2)

-- Members and imports.

member_in : (file : FileNo) (language : Language) (w : Walk) (c : ℕ) → AreCoherent (map stock w.elements) w.members w.imports c → (j : ℕ) (m : DraftMember)
    → slice_get w.members j ≡ Some m
    → m.owner < length w.elements → Every (λ o. o.element < length w.elements) (owner_by m.target m.owner)
    → member_stands (model_of file language w) (member w.elements m) ≡ true
member_in file language w c h j m at owner owned =
    let d = model_of file language w in
    let len : length (elements_from 0 w.elements) ≡ length w.elements = elements_long 0 w.elements in
    and_true (has_element d (member w.elements m).owner) (target_stands d (member w.elements m).target)
    (ap (λ o. nat_lt o (length (elements_from 0 w.elements))) (member_owner w.elements m)
    ∙ below_from m.owner (length (elements_from 0 w.elements)) (omega (arith, owner, len)))
    (go m.target refl owned) where
      go : (t : DraftTarget) → m.target ≡ t → Every (λ o. o.element < length w.elements) (owner_by t m.owner)
          → target_stands (model_of file language w) (member_of w.elements t m).target ≡ true
      go (Owned x) is one = below_from x (length (elements_from 0 w.elements)) (omega (arith, one.0, elements_long 0 w.elements))
      go (Alias k) is one =
          let g = each_get (Holds w.members w.imports) 0 m.owner (map stock w.elements) (omega (arith, owner, length-map w.elements stock)) h.each in
          let zero_add : 0 + m.owner ≡ m.owner = omega arith in
          let holds : Holds w.members w.imports m.owner g.0 = subst (λ e. Holds w.members w.imports e g.0) zero_add g.2 in
          let x : Held = record { owner = m.owner; place = k; role = role.Alias } in
          let listed : IsMember (members_in g.0.items) j = subst (λ ns. IsMember ns j) (sym holds.members)
          (subst (IsMember (numbers_from 0 (λ (y : DraftMember). nat_eq y.owner m.owner) w.members)) (omega arith)
          (number_held (λ (y : DraftMember). nat_eq y.owner m.owner) 0 j w.members m at (eq-eqb m.owner m.owner refl))) in
          let mine : IsMember (held w.members w.imports (item.Member j)) x =
          subst (λ o. IsMember (held_member o) x) (sym at) (subst (λ t. IsMember (held_target m.owner t) x) (sym is) (inl refl)) in
          let found : IsMember (held_from m.owner 0 g.0.inner) x =
          subst (λ hs. IsMember hs x) holds.inner (held_by_member w.members w.imports g.0.items j x listed mine) in
          let place : k < 0 + length g.0.inner = place_held m.owner 0 g.0.inner x found in
          below_from (base_from 0 w.elements m.owner + k) (length (references_from 0 w.elements))
          (omega (arith, base_within 0 0 m.owner k w.elements g.0 g.1 (omega (arith, place))))

import_in : (file : FileNo) (language : Language) (w : Walk) (c : ℕ) → AreCoherent (map stock w.elements) w.members w.imports c → (j : ℕ) (i : DraftImport)
    → slice_get w.imports j ≡ Some i
    → i.owner < length w.elements → import_stands (model_of file language w) (import_of w.elements i) ≡ true
import_in file language w c h j i at owner =
    let d = model_of file language w in
    let g = each_get (Holds w.members w.imports) 0 i.owner (map stock w.elements) (omega (arith, owner, length-map w.elements stock)) h.each in
    let zero_add : 0 + i.owner ≡ i.owner = omega arith in
    let holds : Holds w.members w.imports i.owner g.0 = subst (λ e. Holds w.members w.imports e g.0) zero_add g.2 in
    let x : Held = record { owner = i.owner; place = i.at; role = role.Import } in
    let listed : IsMember (imports_in g.0.items) j = subst (λ ns. IsMember ns j) (sym holds.imports)
    (subst (IsMember (numbers_from 0 (λ (y : DraftImport). nat_eq y.owner i.owner) w.imports)) (omega arith)
    (number_held (λ (y : DraftImport). nat_eq y.owner i.owner) 0 j w.imports i at (eq-eqb i.owner i.owner refl))) in
    let mine : IsMember (held w.members w.imports (item.Import j)) x = subst (λ o. IsMember (held_import o) x) (sym at) (inl refl) in
    let found : IsMember (held_from i.owner 0 g.0.inner) x =
    subst (λ hs. IsMember hs x) holds.inner (held_by_import w.members w.imports g.0.items j x listed mine) in
    let place : i.at < 0 + length g.0.inner = place_held i.owner 0 g.0.inner x found in
    and_true (has_element d i.owner) (has_reference d (base_from 0 w.elements i.owner + i.at))
    (below_from i.owner (length (elements_from 0 w.elements)) (omega (arith, owner, elements_long 0 w.elements)))
    (below_from (base_from 0 w.elements i.owner + i.at) (length (references_from 0 w.elements))
    (omega (arith, base_within 0 0 i.owner i.at w.elements g.0 g.1 (omega (arith, place)))))

members_in_range : (file : FileNo) (language : Language) (w : Walk) (c : ℕ) → AreCoherent (map stock w.elements) w.members w.imports c
    → (n : ℕ) (ms : List DraftMember)
    → ((j : ℕ) → slice_get w.members (n + j) ≡ slice_get ms j) → MembersBelow (length w.elements) ms → Every (λ o. o.element < length w.elements) (owners_by ms)
    → list_all (member_stands (model_of file language w)) (map (member w.elements) ms) ≡ true
members_in_range file language w c h n [] at below owned = refl
members_in_range file language w c h n (m ∷ ms) at below owned =
    let P : Owner → Type 0 = λ o. o.element < length w.elements in
    and_true (member_stands (model_of file language w) (member w.elements m))
    (list_all (member_stands (model_of file language w)) (map (member w.elements) ms))
    (member_in file language w c h (n + 0) m (at 0) below.0 (every_front P (owner_by m.target m.owner) (owners_by ms) owned))
    (members_in_range file language w c h (suc n) ms (λ j. ap (slice_get w.members) (omega arith) ∙ at (suc j)) below.1
    (every_back P (owner_by m.target m.owner) (owners_by ms) owned))

imports_in_range : (file : FileNo) (language : Language) (w : Walk) (c : ℕ) → AreCoherent (map stock w.elements) w.members w.imports c
    → (n : ℕ) (is : List DraftImport)
    → ((j : ℕ) → slice_get w.imports (n + j) ≡ slice_get is j) → ImportsBelow (length w.elements) is
    → list_all (import_stands (model_of file language w)) (map (import_of w.elements) is) ≡ true
imports_in_range file language w c h n [] at below = refl
imports_in_range file language w c h n (i ∷ is) at below =
    and_true (import_stands (model_of file language w) (import_of w.elements i))
    (list_all (import_stands (model_of file language w)) (map (import_of w.elements) is))
    (import_in file language w c h (n + 0) i (at 0) below.0)
    (imports_in_range file language w c h (suc n) is (λ j. ap (slice_get w.imports) (omega arith) ∙ at (suc j)) below.1)

-- each number is in range
pub in_range : (file : FileNo) (language : Language) (w : Walk) → IsCoherent w → IsInRange (model_of file language w)
in_range file language w h =
    let len : length (map stock w.elements) ≡ length w.elements = length-map w.elements stock in
    let long : length (elements_from 0 w.elements) ≡ length w.elements = elements_long 0 w.elements in
    let below : MembersBelow (length w.elements) w.members = subst (λ n. MembersBelow n w.members) len h.members in
    let owned : Every (OwnerBelow (length w.elements)) (record { element = 0; owner = None } ∷ owners_by w.members) =
    (refl, owned_below (length w.elements) w.members below) in
    let numbers : Every (λ o. o.element < length w.elements) (record { element = 0; owner = None } ∷ owners_by w.members) =
    subst (Every (λ o. o.element < length w.elements)) (sym h.owners) (numbers_below 0 (length w.elements) (map stock w.elements) (omega (arith, len))) in
    record {
      elements = elements_in (model_of file language w) 0 0 w.elements (omega arith)
          (subst (λ n. Every (OwnerBelow n) (owners_from 0 (map stock w.elements))) (sym long) (subst (Every (OwnerBelow (length w.elements))) h.owners owned));
      items = all_items_in (model_of file language w) w.members w.imports 0 w.elements (sym (length-map w.members (member w.elements)))
          (sym (length-map w.imports (import_of w.elements))) h.each;
      members = members_in_range file language w w.current h 0 w.members (λ j. ap (slice_get w.members) (omega arith)) below numbers.1;
      references = contexts_in (model_of file language w) 0 w.elements (omega (arith, long));
      imports = imports_in_range file language w w.current h 0 w.imports (λ j. ap (slice_get w.imports) (omega arith))
          (subst (λ n. ImportsBelow n w.imports) len h.imports);
    }
