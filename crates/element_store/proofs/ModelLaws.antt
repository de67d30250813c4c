-- Facts of a model's records that follow from what holds of each model.
use Rattle.std.proofs.Common.{◌≡◌, ◌∙◌, ℕ, zero, suc, ◌+◌, ◌<◌, Bool, true, Option, Some, None, IfSome, List, [], ◌∷◌, ◌++◌, map, length, slice_get, get_or, refl, sym, ap, subst, arith, option_and_then, zero-add, length-append}
use Rattle.std.specs.List.{list_all}
use Rattle.std.proofs.lemmas.Option.{slice_get_read}
use Rattle.linker_base.proofs.Cases.{both_true}
use Rattle.element_store.specs.declared.lists.Item.{Item}
use Rattle.element_store.specs.Model.{Data, members_in, imports_in}
use Rattle.element_store.specs.declared.records.Element.{Element}
use Rattle.element_store.specs.declared.expression.Node.{Node}
use Rattle.element_store.specs.Numbers.{places_from}
use Rattle.element_store.specs.Condition.{nodes_in, Trees, Nothing, Tree, size, owners_in, IsPreorder, HasRoot, members_of, imports_of, item_stands, IsModel}

-- each owner stands before its element, where the first of these has the number n
abbrev pub AreBefore : ℕ → List (Option ℕ) → Type 0
AreBefore n [] = Unit {0}
AreBefore n (o ∷ os) = IfSome o (λ owner. owner < n) × AreBefore (suc n) os

-- as many owners as nodes
pub owners_long : (parent n : ℕ) (t : Trees) → length (owners_in parent n t) ≡ size t
owners_long parent n Nothing = refl
owners_long parent n (Tree below beside) =
    let both = length-append (owners_in n (suc n) below) (owners_in parent (suc n + size below) beside) in
    omega (arith, both, owners_long n (suc n) below, owners_long parent (suc n + size below) beside)

-- the owners of two parts stand before their elements
before_both : (n m : ℕ) (xs ys : List (Option ℕ)) → n + length xs ≡ m → AreBefore n xs → AreBefore m ys → AreBefore n (xs ++ ys)
before_both n m [] ys e b c = subst (λ k. AreBefore k ys) (omega (arith, e)) c
before_both n m (x ∷ xs) ys e b c = (b.0, before_both (suc n) m xs ys (omega (arith, e)) b.1 c)

-- in preorder each owner stands before its element
trees_before : (t : Trees) (parent n : ℕ) → parent < n → AreBefore n (owners_in parent n t)
trees_before Nothing parent n lt = tt
trees_before (Tree below beside) parent n lt = (
  lt,
  before_both (suc n) (suc n + size below) (owners_in n (suc n) below) (owners_in parent (suc n + size below) beside)
      (ap (λ k. suc n + k) (owners_long n (suc n) below)) (trees_before below n (suc n) (omega arith)) (trees_before beside parent (suc n + size below) (omega arith)),
)

-- an owner that stands before its element does so at each place
before_at : (n k : ℕ) (es : List Element) (e : Element) → AreBefore n (map (λ e. e.owner) es) → slice_get es k ≡ Some e → IfSome e.owner (λ owner. owner < n + k)
before_at n k [] e b at = cc
before_at n zero (x ∷ es) e b at = let same : x ≡ e = cc in subst (λ (e : Element). IfSome e.owner (λ owner. owner < n + 0)) same (subst (λ m. IfSome x.owner (λ owner. owner < m)) (omega arith) b.0)
before_at n (suc k) (x ∷ es) e b at = subst (λ m. IfSome e.owner (λ owner. owner < m)) (omega arith) (before_at (suc n) k es e b.1 at)

-- each owner stands before its element
pub owner_before : (es : List Element) (k : ℕ) (e : Element) → HasRoot es → IsPreorder es → slice_get es k ≡ Some e → IfSome e.owner (λ owner. owner < k)
owner_before [] k e root order at = absurd root
owner_before (x ∷ es) zero e root order at = let none : e.owner ≡ None = cc in rw none tt
owner_before (x ∷ es) (suc k) e root order at = subst (λ m. IfSome e.owner (λ owner. owner < m)) (omega arith) (before_at 1 k es e (subst (λ os. AreBefore 1 os) (sym order.1) (trees_before order.0 0 1 (omega arith))) at)

-- lists that are told by each place of another are as long as that
pub told_long : {A B C : Type 0} (f : B → C) (g : ℕ → C) (n : ℕ) (bs : List B) (xs : List A) → map f bs ≡ map g (places_from n xs) → length bs ≡ length xs
told_long f g n [] [] e = refl
told_long f g n [] (a ∷ xs) e = cc
told_long f g n (b ∷ bs) [] e = cc
told_long f g n (b ∷ bs) (a ∷ xs) e = ap suc (told_long f g (suc n) bs xs cc)

-- what they tell of each place
pub told_at : {A B C : Type 0} (f : B → C) (g : ℕ → C) (n k : ℕ) (bs : List B) (xs : List A) (b : B) → map f bs ≡ map g (places_from n xs)
    → slice_get bs k ≡ Some b → f b ≡ g (n + k)
told_at f g n k [] xs b e at = cc
told_at f g n k (x ∷ bs) [] b e at = cc
told_at f g n zero (x ∷ bs) (a ∷ xs) b e at = let same : x ≡ b = cc in let first : f x ≡ g n = cc in ap f (sym same) ∙ (first ∙ ap g (omega arith))
told_at f g n (suc k) (x ∷ bs) (a ∷ xs) b e at = told_at f g (suc n) k bs xs b (cc) at ∙ ap g (omega arith)

-- an item of a list whose items pass the test
pub all_at : {A : Type 0} (test : A → Bool) (k : ℕ) (xs : List A) (x : A) → list_all test xs ≡ true → slice_get xs k ≡ Some x → test x ≡ true
all_at test k [] x e at = cc
all_at test zero (y ∷ ys) x e at = let same : y ≡ x = cc in ap test (sym same) ∙ (both_true (test y) (list_all test ys) e).0
all_at test (suc k) (y ∷ ys) x e at = all_at test k ys x (both_true (test y) (list_all test ys) e).1 at

-- two lists that tell the same place by place: where one has an item, the other has one, of which it tells the same
pub long_at : {A B : Type 0} (f : A → ℕ) (g : B → ℕ) (k : ℕ) (xs : List A) (bs : List B) (b : B) → map f xs ≡ map g bs → slice_get bs k ≡ Some b
    → (a : A) × (slice_get xs k ≡ Some a) × (f a ≡ g b)
long_at f g k xs [] b e at = cc
long_at f g k [] (y ∷ ys) b e at = cc
long_at f g zero (x ∷ xs) (y ∷ ys) b e at = let same : y ≡ b = cc in let first : f x ≡ g y = cc in (x, refl, first ∙ ap g same)
long_at f g (suc k) (x ∷ xs) (y ∷ ys) b e at = long_at f g k xs ys b (cc) at

-- what is known of the items that stand at an element's place
pub record AreItemsOf (d : Data) (e : ℕ) (is : List Item) : Type 0 where
  pub lent : slice_get d.items e ≡ Some is
  pub members : members_in is ≡ members_of d e
  pub imports : imports_in is ≡ imports_of d e
  pub stand : list_all (item_stands d) is ≡ true

-- as many lists of items as elements
pub items_long : (d : Data) → IsModel d → length d.items ≡ length d.elements
items_long d m = told_long members_in (members_of d) 0 d.items d.elements m.items.members

pub items_at : (d : Data) → IsModel d → (e : ℕ) (is : List Item) → e < length d.elements → is ≡ get_or d.items e is → AreItemsOf d e is
items_at d m e is lt read =
    let at = slice_get_read d.items (length d.elements) e is (sym (items_long d m)) lt read in
    record {
      lent = at;
      members = told_at members_in (members_of d) 0 e d.items d.elements is m.items.members at ∙ ap (members_of d) (zero-add e);
      imports = told_at imports_in (imports_of d) 0 e d.items d.elements is m.items.imports at ∙ ap (imports_of d) (zero-add e);
      stand = all_at (list_all (item_stands d)) e d.items is m.ranges.items at;
    }

-- an expression's places are as many as its nodes, and stand at its element
pub node_place : (es : List Element) (places : List (List ℕ)) (pick : Element → Option (List Node)) (e node : ℕ)
    → map length places ≡ map (λ x. nodes_in (pick x)) es → node < nodes_in (option_and_then pick (slice_get es e)) → (ps : List ℕ) × (slice_get places e ≡ Some ps) × (node < length ps)
node_place [] places pick e node same lt = absurd (omega arith)
node_place (x ∷ es) [] pick e node same lt = cc
node_place (x ∷ es) (ps ∷ places) pick zero node same lt = let long : length ps ≡ nodes_in (pick x) = cc in (ps, refl, omega (arith, long, lt))
node_place (x ∷ es) (ps ∷ places) pick (suc e) node same lt = node_place es places pick e node (cc) lt
