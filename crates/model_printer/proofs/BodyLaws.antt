-- A body nests less deep than there are elements: an element stands behind the one whose body it is in.
use Rattle.std.proofs.Common.{◌≡◌, ◌∙◌, ℕ, zero, suc, ◌+◌, ◌<◌, Bool, true, false, List, [], ◌∷◌, ◌++◌, drop, length, refl, sym, ap, subst, arith, one-add}
use Rattle.std.specs.Prelude.{Some, IfSome, slice_get, nat_eq, cond, slice_index_or}
use Rattle.std.specs.List.{flat_map}
use Rattle.std.proofs.lemmas.Bool.Decides.{nat_tests}
use Rattle.std.proofs.lemmas.Option.{get_or_from_slice_get, slice_get_within}
use Rattle.element_store.specs.declared.records.Element.{Element}
use Rattle.element_store.specs.declared.records.Member.{Member}
use Rattle.element_store.specs.declared.records.Target.{Target}
use Rattle.element_store.specs.declared.records.Target.TheVariants.{Owned, Alias}
use Rattle.element_store.specs.declared.lists.Item.{Item}
use Rattle.element_store.specs.declared.lists.Item.TheVariants as item
use Rattle.element_store.specs.Numbers.{chosen, numbers_from}
use Rattle.element_store.specs.Model.{Data, members_in}
use Rattle.element_store.specs.Condition.{IsModel, Owning, owning, owned_from}
use Rattle.element_store.proofs.ModelLaws.{items_long, items_at as items_told, owner_before}
use Rattle.text_laws.specs.Fits.{Every}
use Rattle.print_model.specs.Layout.{Line}
use Rattle.print_model.specs.Heads.{body_lines, element_at, head, is_end, is_note, item_lines, items_at, line, member_at, no_member, note_tokens, result_lines, target_lines, with_body}
use Rattle.model_printer.specs.Bodies.{lines_at}

-- AN OWNED ELEMENT STANDS BEHIND ITS OWNER

told_place : (ms : List Member) (k c : ℕ) (x : Member) → slice_get ms k ≡ Some x → x.target ≡ Owned c
    → (j : ℕ) × (o : Owning) × (slice_get (flat_map (λ m. owning m.target m) ms) j ≡ Some o) × (o.element ≡ c) × (o.owner ≡ Some x.owner)
told_place [] k c x at is = cc
told_place (y ∷ ys) zero c x at is =
    let same : y ≡ x = cc in (
      0,
      record { element = c; owner = Some x.owner; short = x.short; name = x.name },
      subst (λ z. slice_get (owning z.target z ++ flat_map (λ m. owning m.target m) ys) 0
          ≡ Some (record { element = c; owner = Some x.owner; short = x.short; name = x.name }))
          (sym same)
          (ap (λ t. slice_get (owning t x ++ flat_map (λ m. owning m.target m) ys) 0) is),
      refl,
      refl,
    )
told_place (y ∷ ys) (suc k) c x at is = let rest = told_place ys k c x at is in behind y.target rest.0 rest.1 rest.2 (rest.3, rest.4)
  where
    behind : (t : Target) (j : ℕ) (o : Owning) → slice_get (flat_map (λ m. owning m.target m) ys) j ≡ Some o → (o.element ≡ c) × (o.owner ≡ Some x.owner)
        → (j : ℕ) × (o : Owning) × (slice_get (owning t y ++ flat_map (λ m. owning m.target m) ys) j ≡ Some o) × (o.element ≡ c) × (o.owner ≡ Some x.owner)
    behind (Owned e) j o here is = (suc j, o, here, is.0, is.1)
    behind (Alias r) j o here is = (j, o, here, is.0, is.1)

told_element : (n : ℕ) (es : List Element) (j : ℕ) (o : Owning) → slice_get (owned_from n es) j ≡ Some o
    → (y : Element) × (slice_get es j ≡ Some y) × (o.element ≡ n + j) × (o.owner ≡ y.owner)
told_element n [] j o at = cc
told_element n (e ∷ es) zero o at =
    let first : o.element ≡ n = cc in
    let second : o.owner ≡ e.owner = cc in
    (e, refl, omega (arith, first), second)
told_element n (e ∷ es) (suc j) o at =
    let rest = told_element (suc n) es j o at in (rest.0, rest.1, omega (arith, rest.2), rest.3)

one_later : (es : List Element) (j : ℕ) (y : Element) → slice_get (drop 1 es) j ≡ Some y → slice_get es (suc j) ≡ Some y
one_later [] j y at = cc
one_later (e ∷ es) j y at = at

-- the element that a member owns
owned_behind : (d : Data) → IsModel d → (k c : ℕ) (x : Member) → slice_get d.members k ≡ Some x → x.target ≡ Owned c → (x.owner < c) × (c < length d.elements)
owned_behind d m k c x at is =
    let told = told_place d.members k c x at is in
    let found = told_element 1 (drop 1 d.elements) told.0 told.1 (subst (λ os. slice_get os told.0 ≡ Some told.1) m.owned told.2) in
    let here = one_later d.elements told.0 found.0 found.1 in
    let before = subst (λ o. IfSome o (λ owner. owner < suc told.0)) (sym found.3 ∙ told.4)
    (owner_before d.elements (suc told.0) found.0 m.root m.numbering.elements here) in
    let number : c ≡ suc told.0 = sym told.3 ∙ found.2 ∙ one-add told.0 in
    let within : suc told.0 < length d.elements = slice_get_within d.elements (suc told.0) found.0 here in
    (omega (arith, before, number), omega (arith, within, number))

-- ITEMS

-- a member of the list of all has this owner
abbrev pub IsMemberOf : List Member → ℕ → ℕ → Type 0
IsMemberOf all e n = (x : Member) × (slice_get all n ≡ Some x) × (x.owner ≡ e)

numbers_owned : (all ms : List Member) (n e : ℕ) → ((k : ℕ) (m : Member) → slice_get ms k ≡ Some m → slice_get all (n + k) ≡ Some m)
    → Every (IsMemberOf all e) (numbers_from n (λ m. nat_eq m.owner e) ms)
numbers_owned all [] n e at = tt
numbers_owned all (m ∷ ms) n e at =
    one_more (nat_eq m.owner e) refl (subst (λ k. slice_get all k ≡ Some m) (omega arith) (at 0 m refl))
    (numbers_owned all ms (suc n) e (λ k l is. subst (λ j. slice_get all j ≡ Some l) (omega arith) (at (suc k) l is)))
  where
    one_more : (b : Bool) → nat_eq m.owner e ≡ b → slice_get all n ≡ Some m → Every (IsMemberOf all e) (numbers_from (suc n) (λ m. nat_eq m.owner e) ms)
        → Every (IsMemberOf all e) (chosen b n (numbers_from (suc n) (λ m. nat_eq m.owner e) ms))
    one_more true same here rest = ((m, here, is_same m.owner e same), rest)
      where
        is_same : (a b : ℕ) → nat_eq a b ≡ true → a ≡ b
        is_same a b e = grind (arith, nat_tests)
    one_more false same here rest = rest

-- the element that an item owns stands behind this one
abbrev pub IsBehind : Data → ℕ → Item → Type 0
IsBehind d e (item.Member m) = (c : ℕ) → (member_at d m).target ≡ Owned c → (e < c) × (c < length d.elements)
IsBehind d e (item.Import i) = Unit {0}

items_behind : (d : Data) → IsModel d → (e : ℕ) (is : List Item) → Every (IsMemberOf d.members e) (members_in is) → Every (IsBehind d e) is
items_behind d m e [] h = tt
items_behind d m e (item.Import i ∷ is) h = (tt, items_behind d m e is h)
items_behind d m e (item.Member n ∷ is) h = (here h.0, items_behind d m e is h.1)
  where
    here : IsMemberOf d.members e n → (c : ℕ) → (member_at d n).target ≡ Owned c → (e < c) × (c < length d.elements)
    here found c is =
        let same : member_at d n ≡ found.0 = get_or_from_slice_get d.members n found.0 no_member found.1 in
        let behind = owned_behind d m n c found.0 found.1 (ap (λ (x : Member). x.target) (sym same) ∙ is) in
        let first = behind.0 in
        let owner = found.2 in
        (omega (arith, first, owner), behind.1)

-- what the items of an element own stands behind it
pub all_behind : (d : Data) → IsModel d → (e : ℕ) → e < length d.elements → Every (IsBehind d e) (items_at d e)
all_behind d m e lt =
    let is = items_at d e in
    let told = items_told d m e is lt (get_or_same d.items e (subst (λ n. e < n) (sym (items_long d m)) lt)) in
    items_behind d m e is (subst (Every (IsMemberOf d.members e)) (sym told.members)
    (numbers_owned d.members d.members 0 e (λ k x at. subst (λ j. slice_get d.members j ≡ Some x) (omega arith) at)))
  where
    get_or_same : {A : Type 0} (xs : List (List A)) (n : ℕ) → n < length xs → slice_index_or xs n [] ≡ slice_index_or xs n (slice_index_or xs n [])
    get_or_same [] n lt = absurd (omega arith)
    get_or_same (x ∷ xs) zero lt = refl
    get_or_same (x ∷ xs) (suc n) lt = get_or_same xs n (omega (arith, lt))

-- STEPS ENOUGH

flat_same : (f g : Item → List Line) (is : List Item) → Every (λ i. f i ≡ g i) is → flat_map f is ≡ flat_map g is
flat_same f g [] h = refl
flat_same f g (i ∷ is) h = ap (λ ls. ls ++ flat_map f is) h.0 ∙ ap (λ ls. g i ++ ls) (flat_same f g is h.1)

every_item : (P Q : Item → Type 0) (is : List Item) → ((i : Item) → P i → Q i) → Every P is → Every Q is
every_item P Q [] f h = tt
every_item P Q (i ∷ is) f h = (f i h.0, every_item P Q is f h.1)

-- the same lines of bodies give the same lines of an item
item_same : (f g : ℕ → ℕ → List Line) (d : Data) (level e : ℕ) → ((c : ℕ) → e < c → c < length d.elements → f (suc level) c ≡ g (suc level) c)
    → (i : Item) → IsBehind d e i → item_lines f d level i ≡ item_lines g d level i
item_same f g d level e same (item.Import i) h = refl
item_same f g d level e same (item.Member m) h = by_target (member_at d m).target refl
  where
    by_target : (t : Target) → (member_at d m).target ≡ t → target_lines f d level (member_at d m) t ≡ target_lines g d level (member_at d m) t
    by_target (Alias r) is = refl
    by_target (Owned c) is =
        let stands = h c is in
        ap (λ (ls : List Line). cond (is_end (element_at d c).kind) [] (cond (is_note (element_at d c).kind)
        (line level (note_tokens d (member_at d m).visibility c) ∷ [])
        (with_body level (head d (member_at d m).visibility c) ls))) (same c stands.0 stands.1)

body_same : (d : Data) → IsModel d → (s t level e : ℕ) → length d.elements < s + e → length d.elements < t + e → e < length d.elements
    → body_lines s d level e ≡ body_lines t d level e
body_same d m zero t level e more last lt = absurd (omega arith)
body_same d m (suc s) zero level e more last lt = absurd (omega arith)
body_same d m (suc s) (suc t) level e more last lt =
    ap (λ ls. ls ++ result_lines d level (element_at d e).result)
    (flat_same (item_lines (λ l c. body_lines s d l c) d level) (item_lines (λ l c. body_lines t d l c) d level) (items_at d e)
    (every_item (IsBehind d e) (λ i. item_lines (λ l c. body_lines s d l c) d level i ≡ item_lines (λ l c. body_lines t d l c) d level i) (items_at d e)
    (item_same (λ l c. body_lines s d l c) (λ l c. body_lines t d l c) d level e
    (λ c first within. body_same d m s t (suc level) c (omega (arith, first, more)) (omega (arith, first, last)) within))
    (all_behind d m e lt)))

-- the lines of a body are those of its items and of its result
pub lines_step : (d : Data) → IsModel d → (level e : ℕ) → e < length d.elements
    → lines_at d level e ≡ flat_map (item_lines (lines_at d) d level) (items_at d e) ++ result_lines d level (element_at d e).result
unfolding lines_at
lines_step d m level e lt =
    ap (λ ls. ls ++ result_lines d level (element_at d e).result)
    (flat_same (item_lines (λ l c. body_lines (length d.elements) d l c) d level) (item_lines (lines_at d) d level) (items_at d e)
    (every_item (IsBehind d e) (λ i. item_lines (λ l c. body_lines (length d.elements) d l c) d level i ≡ item_lines (lines_at d) d level i) (items_at d e)
    (item_same (λ l c. body_lines (length d.elements) d l c) (lines_at d) d level e
    (λ c first within. body_same d m (length d.elements) (suc (length d.elements)) (suc level) c (omega (arith, first)) (omega (arith, first)) within))
    (all_behind d m e lt)))
