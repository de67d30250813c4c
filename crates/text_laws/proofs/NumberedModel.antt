-- The numbering of sound drafts is the model of a file, and every walk over every forest is shaped.
use Rattle.std.proofs.Common.{◌≡◌, ℕ, suc, ◌+◌, ◌<◌, ◌≤◌, ◌^◌, Bool, true, false, nat_eq, List, [], ◌∷◌, ◌++◌, length, refl, ap, sym, ◌∙◌, arith}
use Rattle.std.specs.Prelude.{map, drop, slice_get, None}
use Rattle.std.proofs.lemmas.List.{length-map}
use Rattle.element_store.specs.declared.numbers.FileNo.{FileNo}
use Rattle.element_store.specs.declared.outcome.Language.{Language}
use Rattle.element_store.specs.declared.lists.Item.{Item}
use Rattle.element_store.specs.declared.lists.Item.TheVariants as item
use Rattle.element_store.specs.Numbers.{numbers_from, chosen}
use Rattle.element_store.specs.Model.{members_in, imports_in}
use Rattle.element_store.specs.Condition.{is_few, all_few, IsModel, IsPreorder, Trees, owners_in}
use Rattle.token_core.specs.declared.token.Token.{Token}
use Rattle.ll_core.specs.Derives.{Forest}
use Rattle.text_model.specs.declared.action.Action.{Action}
use Rattle.text_model.specs.declared.draft.Draft.{Draft}
use Rattle.text_model.specs.declared.draft.DraftTarget.{DraftTarget}
use Rattle.text_model.specs.declared.draft.DraftTarget.TheVariants.{Owned, Alias}
use Rattle.text_model.specs.declared.draft.DraftMember.{DraftMember}
use Rattle.text_model.specs.declared.draft.DraftImport.{DraftImport}
use Rattle.text_model.specs.Tables.{Tables}
use Rattle.text_model.specs.Walk.{Walk, walk}
use Rattle.text_model.specs.Profile.{start}
use Rattle.linker_base.proofs.Cases.{and_true}
use Rattle.text_laws.specs.Coherent.{stock, Stock, Holds, EachFrom, owner_by, owners_by, owners_from, IsCoherent}
use Rattle.text_laws.specs.Fits.{WalkFits}
use Rattle.text_model.specs.Numbering.{width, member, import_of, elements_from, references_from, model_of}
use Rattle.text_laws.specs.Sound.{IsShaped, IsDerived}
use Rattle.text_laws.proofs.CoherenceLaws.{walk_on}
use Rattle.text_laws.proofs.PreorderLaws.{walk_grows}
use Rattle.text_laws.proofs.FittingLaws.{walk_fits}
use Rattle.text_laws.proofs.ByElementLaws.{by_element_is}
use Rattle.text_laws.proofs.PartLaws.{few_from, elements_long, references_placed, values_placed, results_placed, values_few, results_few, owned_once, has_root, items_members, items_imports, all_paths, all_whole, all_contexts, elements_owners}
use Rattle.text_laws.proofs.RangeLaws.{in_range}

numbers_few : {A : Type 0} (test : A → Bool) (n : ℕ) (xs : List A) → length (numbers_from n test xs) ≤ length xs
numbers_few test n [] = omega arith
numbers_few test n (x ∷ xs) = by_test (test x) (numbers_few test (suc n) xs) where
  by_test : (b : Bool) → length (numbers_from (suc n) test xs) ≤ length xs → length (chosen b n (numbers_from (suc n) test xs)) ≤ length (x ∷ xs)
  by_test true h = omega (arith, h)
  by_test false h = omega (arith, h)

items_long : (items : List Item) → length items ≡ length (members_in items) + length (imports_in items)
items_long [] = omega arith
items_long (item.Member m ∷ items) = omega (arith, items_long items)
items_long (item.Import i ∷ items) = omega (arith, items_long items)

items_few : (ms : List DraftMember) (is : List DraftImport) (e : ℕ) (ds : List Draft) → length ms + length is + 1 < 2 ^ 32
    → EachFrom (Holds ms is) e (map stock ds) → all_few (map (λ d. d.items) ds) ≡ true
items_few ms is e [] few h = refl
items_few ms is e (d ∷ ds) few h =
    and_true (is_few (length d.items)) (all_few (map (λ d. d.items) ds))
    (few_from (length d.items) (omega (
      arith,
      few,
      items_long d.items,
      ap length h.0.members,
      ap length h.0.imports,
      numbers_few (λ (m : DraftMember). nat_eq m.owner e) 0 ms,
      numbers_few (λ (i : DraftImport). nat_eq i.owner e) 0 is,
    )))
    (items_few ms is (suc e) ds few h.1)

owners_few : (ms : List DraftMember) → length (owners_by ms) ≤ length ms
owners_few [] = omega arith
owners_few (m ∷ ms) = by_target m.target (owners_few ms) where
  by_target : (t : DraftTarget) → length (owners_by ms) ≤ length ms → length (owner_by t m.owner ++ owners_by ms) ≤ length (m ∷ ms)
  by_target (Owned x) h = omega (arith, h)
  by_target (Alias k) h = omega (arith, h)

owners_long : (n : ℕ) (ss : List Stock) → length (owners_from n ss) ≡ length ss
owners_long n [] = refl
owners_long n (s ∷ ss) = ap suc (owners_long (suc n) ss)

in_preorder : (ds : List Draft) (t : Trees) → map (λ d. d.owner) (drop 1 ds) ≡ owners_in 0 1 t → IsPreorder (elements_from 0 ds)
in_preorder [] t is = (t, is)
in_preorder (d ∷ ds) t is = (t, elements_owners (0 + width d) ds ∙ is)

-- the numbering of sound drafts is a model
pub is_model : (file : FileNo) (language : Language) (w : Walk) (all rest : ℕ) → IsShaped w all rest → IsDerived w all rest (model_of file language w)
    → IsModel (model_of file language w)
is_model file language w all rest s d =
    let h = s.coherent in
    let long = elements_long 0 w.elements in
    let elements : length w.elements ≤ length w.members + 1 =
    omega (arith, ap length h.owners, owners_few w.members, owners_long 0 (map stock w.elements), length-map w.elements stock) in
    record {
      few = record {
        elements = few_from (length (elements_from 0 w.elements)) (omega (arith, long, elements, d.few));
        members = few_from (length (map (member w.elements) w.members)) (omega (arith, length-map w.members (member w.elements), d.few));
        references = few_from (length (references_from 0 w.elements)) d.references;
        imports = few_from (length (map (import_of w.elements) w.imports)) (omega (arith, length-map w.imports (import_of w.elements), d.few));
        items = items_few w.members w.imports 0 w.elements d.few h.each;
        values = values_few all rest w.elements d.short s.drafts;
        results = results_few all rest w.elements d.short s.drafts;
      };
      ranges = in_range file language w h;
      places = record {
        members = length-map w.members (λ (m : DraftMember). m.place) ∙ sym (length-map w.members (member w.elements));
        references = references_placed 0 w.elements;
        values = values_placed 0 w.elements;
        results = results_placed 0 w.elements;
      };
      root = has_root w h.owners d.root;
      owned = owned_once file language w h.owners;
      items = record {
        members = items_members file language w 0 0 w.elements h.each;
        imports = items_imports file language w 0 0 w.elements h.each;
        text_order = d.items;
      };
      paths = all_paths all rest 0 w.elements d.short s.drafts;
      expressions = all_whole 0 w.elements d.whole;
      contexts = all_contexts file language w 0 0 w.elements (λ j. ap (slice_get (elements_from 0 w.elements)) (omega arith)) d.roles;
      numbering = record {
        elements = in_preorder w.elements s.trees s.preorder;
        members = d.members;
        imports = d.imports;
        references = by_element_is file language w all rest h.each s.drafts;
      };
    }

-- the walk over any forest, from a file's beginning, is shaped; the number of its tokens bounds it
pub is_shaped : (t : Tables) (text : List ℕ) (a : Action) (f : Forest) (tokens : List Token) → (rest : ℕ)
    × IsShaped (walk t text a f (start tokens)) (length tokens) rest
is_shaped t text a f tokens =
    let w = start tokens in
    let v = walk t text a f w in
    let c : IsCoherent w = record {
      current = omega arith;
      owners = refl;
      each = (record { members = refl; imports = refl; within = tt; inner = refl }, tt);
      members = tt;
      imports = tt;
    } in
    let fits : WalkFits (length tokens) (length tokens) w = record {
      drafts = (record { own = tt; specs = tt; bounds = tt; value = tt; result = tt; inner = tt; short_value = omega arith; short_result = omega arith }, tt);
      reading = record { nodes = tt; short = omega arith };
      rest = omega arith;
    } in
    let g = walk_grows t text a f w in
    let p = walk_fits (length tokens) (length tokens) t text a f w (omega arith) fits in (
      length v.rest,
      record {
        coherent = (walk_on t text a f w c).coherent;
        trees = g.trees;
        preorder = dropped v.elements g.trees g.added;
        drafts = p.fits.drafts;
      },
    ) where
      dropped : (ds : List Draft) (u : Trees) → map (λ d. d.owner) ds ≡ None ∷ owners_in 0 1 u → map (λ d. d.owner) (drop 1 ds) ≡ owners_in 0 1 u
      dropped [] u is = cc
      dropped (d ∷ ds) u is = cc
