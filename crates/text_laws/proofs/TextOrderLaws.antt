-- The numbering of a walk whose places rise is in text order.
use Rattle.std.proofs.Common.{◌≡◌, ℕ, zero, suc, true, List, [], ◌∷◌, ◌++◌, refl, ap, subst, ◌∙◌}
use Rattle.std.specs.Prelude.{map, slice_get, Option, Some, None}
use Rattle.std.specs.List.{flat_map, list_all}
use Rattle.std.specs.Option.{option_map, option_map_or}
use Rattle.std.proofs.lemmas.Option.{slice_get-map}
use Rattle.element_store.specs.declared.numbers.FileNo.{FileNo}
use Rattle.element_store.specs.declared.outcome.Language.{Language}
use Rattle.element_store.specs.declared.lists.Item.{Item}
use Rattle.element_store.specs.declared.lists.Item.TheVariants as item
use Rattle.element_store.specs.Numbers.{rises}
use Rattle.element_store.specs.Condition.{import_place, item_place}
use Rattle.text_model.specs.declared.draft.Draft.{Draft}
use Rattle.text_model.specs.declared.draft.DraftMember.{DraftMember}
use Rattle.text_model.specs.declared.draft.DraftImport.{DraftImport}
use Rattle.text_model.specs.Walk.{Walk}
use Rattle.text_model.specs.Numbering.{import_of, model_of}
use Rattle.text_laws.specs.Coherent.{stock}
use Rattle.text_laws.specs.Fits.{Every}
use Rattle.text_laws.proofs.OrderLemmas.{Sorted, InOrder, stands, member_stands, import_stands}
use Rattle.text_laws.proofs.ImportLaws.{IsLinked, AreLinked, import_stands_there}

every_at : {A : Type 0} (P : A → Type 0) (xs : List A) (k : ℕ) (x : A) → Every P xs → slice_get xs k ≡ Some x → P x
every_at P [] k x e at = cc
every_at P (y ∷ ys) zero x e at = let same : y ≡ x = cc in subst P same e.0
every_at P (y ∷ ys) (suc k) x e at = every_at P ys k x e.1 at

imports_placed : (file : FileNo) (language : Language) (w : Walk) (is : List DraftImport) → Every (IsLinked w.elements) is
    → flat_map (import_place (model_of file language w)) (map (import_of w.elements) is) ≡ map (λ i. i.place) is
imports_placed file language w [] h = refl
imports_placed file language w (i ∷ is) h =
    ap (λ ps. ps ++ flat_map (import_place (model_of file language w)) (map (import_of w.elements) is)) (import_stands_there file language w i h.0)
    ∙ ap (λ ps. i.place ∷ ps) (imports_placed file language w is h.1)

item_placed : (file : FileNo) (language : Language) (w : Walk) → AreLinked w → (i : Item)
    → item_place (model_of file language w) i ≡ stands w.members w.imports i
item_placed file language w h (item.Member m) =
    ap (λ o. option_map_or (λ place. place ∷ []) o []) (slice_get-map (λ (x : DraftMember). x.place) w.members m) ∙ go (slice_get w.members m) where
      go : (o : Option DraftMember) → option_map_or (λ place. place ∷ []) (option_map (λ (x : DraftMember). x.place) o) [] ≡ member_stands o
      go None = refl
      go (Some x) = refl
item_placed file language w h (item.Import i) =
    ap (λ o. option_map_or (import_place (model_of file language w)) o []) (slice_get-map (import_of w.elements) w.imports i) ∙ go (slice_get w.imports i) refl
  where
    go : (o : Option DraftImport) → slice_get w.imports i ≡ o
        → option_map_or (import_place (model_of file language w)) (option_map (import_of w.elements) o) [] ≡ import_stands o
    go None at = refl
    go (Some x) at = import_stands_there file language w x (every_at (IsLinked w.elements) w.imports i x h at)

items_placed : (file : FileNo) (language : Language) (w : Walk) → AreLinked w → (items : List Item)
    → flat_map (item_place (model_of file language w)) items ≡ flat_map (stands w.members w.imports) items
items_placed file language w h [] = refl
items_placed file language w h (i ∷ items) =
    ap (λ ps. ps ++ flat_map (item_place (model_of file language w)) items) (item_placed file language w h i)
    ∙ ap (λ ps. stands w.members w.imports i ++ ps) (items_placed file language w h items)

all_placed : (file : FileNo) (language : Language) (w : Walk) (k : ℕ) → AreLinked w → (ds : List Draft)
    → Every (λ s. Sorted k (flat_map (stands w.members w.imports) s.items)) (map stock ds)
    → list_all (λ is. rises (flat_map (item_place (model_of file language w)) is)) (map (λ d. d.items) ds) ≡ true
all_placed file language w k h [] e = refl
all_placed file language w k h (d ∷ ds) e =
    let one : rises (flat_map (item_place (model_of file language w)) d.items) ≡ true = ap rises (items_placed file language w h d.items) ∙ e.0.rising in
    rw one (all_placed file language w k h ds e.1)

-- the three equations on places
pub record IsInTextOrder (file : FileNo) (language : Language) (w : Walk) : Type 0 where
  pub members : rises (model_of file language w).member_places ≡ true
  pub imports : rises (flat_map (import_place (model_of file language w)) (model_of file language w).imports) ≡ true
  pub items : list_all (λ is. rises (flat_map (item_place (model_of file language w)) is)) (model_of file language w).items ≡ true

-- the places of the model rise
pub in_text_order : (file : FileNo) (language : Language) (w : Walk) (k : ℕ) → AreLinked w → InOrder k (map stock w.elements) w.members w.imports
    → IsInTextOrder file language w
in_text_order file language w k h o = record {
  members = o.members.rising;
  imports = ap rises (imports_placed file language w w.imports h) ∙ o.imports.rising;
  items = all_placed file language w k h w.elements o.items;
}
