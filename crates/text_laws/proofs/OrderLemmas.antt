-- The places of members, of imports and of each element's items rise.
use Rattle.std.proofs.Common.{◌≡◌, ℕ, zero, suc, ◌<◌, ◌≤◌, Bool, true, false, ◌&&◌, List, [], ◌∷◌, ◌++◌, length, refl, ap, sym, subst, ◌∙◌, arith, append-nil}
use Rattle.std.specs.Prelude.{map, slice_get, nat_lt, Option, Some, None}
use Rattle.std.specs.List.{flat_map}
use Rattle.std.proofs.lemmas.Grind.{flat_map-append}
use Rattle.std.proofs.lemmas.List.{map-append}
use Rattle.std.proofs.lemmas.Bool.Decides.{Decides-ltb}
use Rattle.element_store.specs.declared.lists.Item.{Item}
use Rattle.element_store.specs.declared.lists.Item.TheVariants as item
use Rattle.element_store.specs.Numbers.{rises}
use Rattle.text_model.specs.declared.draft.DraftMember.{DraftMember}
use Rattle.text_model.specs.declared.draft.DraftImport.{DraftImport}
use Rattle.text_model.specs.Drafts.{adjusted}
use Rattle.text_laws.specs.Coherent.{Stock, Holds, EachFrom, AreWithin}
use Rattle.text_laws.specs.Fits.{Every}
use Rattle.text_laws.proofs.ListLemmas.{get_front, get_last}
use Rattle.text_laws.proofs.FittingLaws.{every_on, every_append}

-- rising places below a bound
pub record Sorted (k : ℕ) (xs : List ℕ) : Type 0 where
  pub rising : rises xs ≡ true
  pub below : Every (λ x. x < k) xs

lt_from : (n k : ℕ) → n < k → nat_lt n k ≡ true
lt_from n k h = (Decides-ltb n k).1 h

rises_push : (xs : List ℕ) (p : ℕ) → rises xs ≡ true → Every (λ x. x < p) xs → rises (xs ++ p ∷ []) ≡ true
rises_push [] p r b = refl
rises_push (x ∷ []) p r b = rw (lt_from x p b.0)
rises_push (x ∷ y ∷ xs) p r b =
    let s = both (nat_lt x y) (rises (y ∷ xs)) r in
    rw s.0 (rises_push (y ∷ xs) p s.1 b.1) where
      both : (a b : Bool) → (a && b) ≡ true → (a ≡ true) × (b ≡ true)
      both true b e = (refl, e)
      both false b e = cc

pub sorted_more : (k l : ℕ) (xs : List ℕ) → k ≤ l → Sorted k xs → Sorted l xs
sorted_more k l xs le s = record { rising = s.rising; below = every_on (λ x. x < k) (λ x. x < l) xs (λ x b. omega (arith, le, b)) s.below }

pub sorted_push : (k p : ℕ) (xs : List ℕ) → k ≤ p → Sorted k xs → Sorted (suc p) (xs ++ p ∷ [])
sorted_push k p xs le s =
    let b : Every (λ x. x < p) xs = every_on (λ x. x < k) (λ x. x < p) xs (λ x b. omega (arith, le, b)) s.below in
    record {
      rising = rises_push xs p s.rising b;
      below = every_append (λ x. x < suc p) xs (p ∷ []) (every_on (λ x. x < p) (λ x. x < suc p) xs (λ x b. omega (arith, b)) b) (omega arith, tt);
    }

-- where items stand
abbrev pub member_stands : Option DraftMember → List ℕ
member_stands None = []
member_stands (Some m) = m.place ∷ []

-- where an import of a draft stands
abbrev pub import_stands : Option DraftImport → List ℕ
import_stands None = []
import_stands (Some i) = i.place ∷ []

-- where an item stands
abbrev pub stands : List DraftMember → List DraftImport → Item → List ℕ
stands ms is (item.Member m) = member_stands (slice_get ms m)
stands ms is (item.Import i) = import_stands (slice_get is i)

stands_more : (ms ms' : List DraftMember) (is is' : List DraftImport) (items : List Item) → AreWithin (length ms) (length is) items
    → flat_map (stands (ms ++ ms') (is ++ is')) items ≡ flat_map (stands ms is) items
stands_more ms ms' is is' [] within = refl
stands_more ms ms' is is' (item.Member m ∷ items) within =
    ap (λ o. member_stands o ++ flat_map (stands (ms ++ ms') (is ++ is')) items) (get_front ms ms' m within.0)
    ∙ ap (λ hs. member_stands (slice_get ms m) ++ hs) (stands_more ms ms' is is' items within.1)
stands_more ms ms' is is' (item.Import i ∷ items) within =
    ap (λ o. import_stands o ++ flat_map (stands (ms ++ ms') (is ++ is')) items) (get_front is is' i within.0)
    ∙ ap (λ hs. import_stands (slice_get is i) ++ hs) (stands_more ms ms' is is' items within.1)

-- places of members, of imports and of each element's items rise, and stand before k
pub record InOrder (k : ℕ) (ss : List Stock) (ms : List DraftMember) (is : List DraftImport) : Type 0 where
  pub members : Sorted k (map (λ m. m.place) ms)
  pub imports : Sorted k (map (λ i. i.place) is)
  pub items : Every (λ s. Sorted k (flat_map (stands ms is) s.items)) ss

-- and before any later place
pub order_more : (k l : ℕ) (ss : List Stock) (ms : List DraftMember) (is : List DraftImport) → k ≤ l → InOrder k ss ms is → InOrder l ss ms is
order_more k l ss ms is le o = record {
  members = sorted_more k l (map (λ m. m.place) ms) le o.members;
  imports = sorted_more k l (map (λ i. i.place) is) le o.imports;
  items = every_on (λ s. Sorted k (flat_map (stands ms is) s.items)) (λ s. Sorted l (flat_map (stands ms is) s.items)) ss
      (λ s x. sorted_more k l (flat_map (stands ms is) s.items) le x) o.items;
}

-- one item more in one of them
with_more : (n c : ℕ) (f : Stock → Stock) (i : Item) (ss : List Stock) (k p : ℕ) (ms ms' : List DraftMember) (is is' : List DraftImport) → k ≤ p
    → ((s : Stock) → (f s).items ≡ s.items ++ i ∷ [])
    → stands (ms ++ ms') (is ++ is') i ≡ p ∷ [] → EachFrom (Holds ms is) n ss → Every (λ s. Sorted k (flat_map (stands ms is) s.items)) ss
    → Every (λ s. Sorted (suc p) (flat_map (stands (ms ++ ms') (is ++ is')) s.items)) (adjusted c f ss)
with_more n c f i [] k p ms ms' is is' le one at each o = tt
with_more n zero f i (s ∷ ss) k p ms ms' is is' le one at each o =
    let old = stands_more ms ms' is is' s.items each.0.within in
    let new : flat_map (stands (ms ++ ms') (is ++ is')) (f s).items ≡ flat_map (stands ms is) s.items ++ p ∷ [] =
    ap (flat_map (stands (ms ++ ms') (is ++ is'))) (one s) ∙ (flat_map-append (stands (ms ++ ms') (is ++ is')) s.items (i ∷ [])
    ∙ (ap (λ x. x ++ (stands (ms ++ ms') (is ++ is') i ++ [])) old ∙ ap (λ x. flat_map (stands ms is) s.items ++ (x ++ [])) at)) in
    (subst (Sorted (suc p)) (sym new) (sorted_push k p (flat_map (stands ms is) s.items) le o.0), others (suc n) ss each.1 o.1) where
      others : (n : ℕ) (ss : List Stock) → EachFrom (Holds ms is) n ss → Every (λ s. Sorted k (flat_map (stands ms is) s.items)) ss
          → Every (λ s. Sorted (suc p) (flat_map (stands (ms ++ ms') (is ++ is')) s.items)) ss
      others n [] each o = tt
      others n (s ∷ ss) each o = (
        subst (Sorted (suc p)) (sym (stands_more ms ms' is is' s.items each.0.within))
            (sorted_more k (suc p) (flat_map (stands ms is) s.items) (omega (arith, le)) o.0),
        others (suc n) ss each.1 o.1,
      )
with_more n (suc c) f i (s ∷ ss) k p ms ms' is is' le one at each o = (
  subst (Sorted (suc p)) (sym (stands_more ms ms' is is' s.items each.0.within))
      (sorted_more k (suc p) (flat_map (stands ms is) s.items) (omega (arith, le)) o.0),
  with_more (suc n) c f i ss k p ms ms' is is' le one at each.1 o.1,
)

-- one more member, behind all
pub member_order : (c : ℕ) (f : Stock → Stock) (ss : List Stock) (ms : List DraftMember) (is : List DraftImport) (m : DraftMember) (k : ℕ) → k ≤ m.place
    → ((s : Stock) → (f s).items ≡ s.items ++ item.Member (length ms) ∷ []) → EachFrom (Holds ms is) 0 ss → InOrder k ss ms is
    → InOrder (suc m.place) (adjusted c f ss) (ms ++ m ∷ []) is
member_order c f ss ms is m k le one each o =
    let at : stands (ms ++ m ∷ []) (is ++ []) (item.Member (length ms)) ≡ m.place ∷ [] = ap member_stands (get_last ms m) in
    record {
      members = subst (Sorted (suc m.place)) (sym (map-append (λ (x : DraftMember). x.place) ms (m ∷ [])))
          (sorted_push k m.place (map (λ x. x.place) ms) le o.members);
      imports = sorted_more k (suc m.place) (map (λ i. i.place) is) (omega (arith, le)) o.imports;
      items = subst (λ js. Every (λ s. Sorted (suc m.place) (flat_map (stands (ms ++ m ∷ []) js) s.items)) (adjusted c f ss)) (append-nil is)
          (with_more 0 c f (item.Member (length ms)) ss k m.place ms (m ∷ []) is [] le one at each o.items);
    }

-- one more import, behind all
pub import_order : (c : ℕ) (f : Stock → Stock) (ss : List Stock) (ms : List DraftMember) (is : List DraftImport) (i : DraftImport) (k : ℕ) → k ≤ i.place
    → ((s : Stock) → (f s).items ≡ s.items ++ item.Import (length is) ∷ []) → EachFrom (Holds ms is) 0 ss → InOrder k ss ms is
    → InOrder (suc i.place) (adjusted c f ss) ms (is ++ i ∷ [])
import_order c f ss ms is i k le one each o =
    let at : stands (ms ++ []) (is ++ i ∷ []) (item.Import (length is)) ≡ i.place ∷ [] = ap import_stands (get_last is i) in
    record {
      members = sorted_more k (suc i.place) (map (λ m. m.place) ms) (omega (arith, le)) o.members;
      imports = subst (Sorted (suc i.place)) (sym (map-append (λ (x : DraftImport). x.place) is (i ∷ [])))
          (sorted_push k i.place (map (λ x. x.place) is) le o.imports);
      items = subst (λ js. Every (λ s. Sorted (suc i.place) (flat_map (stands js (is ++ i ∷ [])) s.items)) (adjusted c f ss)) (append-nil ms)
          (with_more 0 c f (item.Import (length is)) ss k i.place ms [] is (i ∷ []) le one at each o.items);
    }
