-- The base of an element stands in the models.
use Rattle.std.proofs.Common.{◌≡◌, ℕ, ◌<◌, Bool, true, false, cond, List, [], ◌∷◌, length, get_or, refl, sym, ◌∙◌, ap, subst, arith}
use Rattle.std.specs.Prelude.{zero, suc, Option, None, Some, slice_get, ◌&&◌}
use Rattle.std.specs.Option.{option_map, option_and_then}
use Rattle.linker_base.proofs.Cases.{both_true}
use Rattle.element_store.specs.declared.numbers.ElementNo.{ElementNo}
use Rattle.element_store.specs.declared.kind.Kind.{Kind}
use Rattle.element_store.specs.declared.models.StoredFile.{StoredFile}
use Rattle.element_store.specs.declared.records.Element.{Element}
use Rattle.element_store.specs.Kinds.{BasePath, base_path, is_type, is_feature, is_enumeration}
use Rattle.element_store.specs.Model.{Data, root_element}
use Rattle.element_store.specs.Stored.{AreFiles, stands_before}
use Rattle.element_store.specs.BaseRules.{RootElement, first_of, least_owned, in_library, earlier, least_root, element_in, typed, type_under, led_to, base_of_kind, model_of, StandsIn, enumerated_in, enumeration_of, base_of_element, base_of}
use Rattle.link_model.specs.Inheritance.{enumeration, base}
use Rattle.link_model.specs.Outside.{library_of}

some_same : {V : Type 0} (v w : V) → Some v ≡ Some w → v ≡ w
some_same v w e = cc

in_root : (lib : Bool) (x : List ℕ) (f : StoredFile) (m : Option Data) (r : RootElement)
    → in_library lib x f m ≡ Some r → m ≡ Some r.model
in_root true x f (Some d) r e = by (least_owned d.members 0 x) e
  where
    by : (o : Option ℕ) → option_map (λ k. record { file = f; model = d; element = k }) o ≡ Some r
        → Some d ≡ Some r.model
    by None e = cc
    by (Some k) e = let same : record { file = f; model = d; element = k }
        ≡ r = cc in ap (λ (z : RootElement). Some z.model) same
in_root true x f None r e = cc
in_root false x f m r e = cc

-- a file has the model in which the root element stands
abbrev IsOfFile : List StoredFile → RootElement → Type 0
IsOfFile files r = (i : ℕ) × (s : StoredFile) × (slice_get files i ≡ Some s) × (s.model ≡ Some r.model)

here_at : (f : StoredFile) (fs : List StoredFile) (x : List ℕ) (r a : RootElement)
    → in_library f.library x f f.model ≡ Some a → a ≡ r → IsOfFile (f ∷ fs) r
here_at f fs x r a is same = (0, f, refl, in_root f.library x f f.model r (is ∙ ap Some same))

later_at : (f : StoredFile) (fs : List StoredFile) (x : List ℕ) (r : RootElement)
    → ((b : RootElement) → least_root fs x ≡ Some b → IsOfFile fs b) → (b : RootElement)
    → least_root fs x ≡ Some b → b ≡ r → IsOfFile (f ∷ fs) r
later_at f fs x r again b is same = let at = again r (is ∙ ap Some same) in (suc at.0, at.1, at.2, at.3)

which_at : (f : StoredFile) (fs : List StoredFile) (x : List ℕ) (r : RootElement)
    → ((b : RootElement) → least_root fs x ≡ Some b → IsOfFile fs b) → (which : Bool) (a b : RootElement)
    → in_library f.library x f f.model ≡ Some a → least_root fs x ≡ Some b → cond which (Some b) (Some a) ≡ Some r
    → IsOfFile (f ∷ fs) r
which_at f fs x r again true a b is too e = later_at f fs x r again b too (some_same b r e)
which_at f fs x r again false a b is too e = here_at f fs x r a is (some_same a r e)

-- one file more
root_more : (f : StoredFile) (fs : List StoredFile) (x : List ℕ) (r : RootElement)
    → ((b : RootElement) → least_root fs x ≡ Some b → IsOfFile fs b) → (a b : Option RootElement)
    → in_library f.library x f f.model ≡ a → least_root fs x ≡ b → earlier a b ≡ Some r → IsOfFile (f ∷ fs) r
root_more f fs x r again None None is too e = cc
root_more f fs x r again None (Some b) is too e = later_at f fs x r again b too (some_same b r e)
root_more f fs x r again (Some a) None is too e = here_at f fs x r a is (some_same a r e)
root_more f fs x r again (Some a) (Some b) is too e =
    which_at f fs x r again (stands_before b.file a.file) a b is too e

root_at : (files : List StoredFile) (x : List ℕ) (r : RootElement) → least_root files x ≡ Some r → IsOfFile files r
root_at [] x r e = cc
root_at (f ∷ fs) x r e =
    root_more f fs x r (root_at fs x) (in_library f.library x f f.model) (least_root fs x) refl refl e

short : {A : Type 0} (xs : List A) (k : ℕ) (x : A) → slice_get xs k ≡ Some x → k < length xs
short [] k x e = cc
short (y ∷ ys) zero x e = omega arith
short (y ∷ ys) (suc k) x e = let lt = short ys k x e in omega arith

module _ (files : List StoredFile) (are : AreFiles files) where
  typed_stands : (d : Data) (i : ℕ) (s : StoredFile) → slice_get files i ≡ Some s → s.model ≡ Some d
      → (o : Option ℕ) (b : ElementNo)
      → option_and_then (typed d) o ≡ Some b → StandsIn files b
  typed_stands d i s at is None b e = cc
  typed_stands d i s at is (Some k) b e = by (slice_get d.elements k) refl e
    where
      chosen : (which : Bool) → k < length d.elements → cond which (Some (element_in d k)) None ≡ Some b
          → StandsIn files b
      chosen true lt e =
          let same : element_in d k ≡ b = some_same (element_in d k) b e in
          let number : i ≡ d.file.0 = sym (are.models i s d at is).0 in
          let of : model_of files i ≡ Some d = rw at is in
          subst (StandsIn files) same (d, subst (λ j. model_of files j ≡ Some d) number of, lt)
      chosen false lt e = cc

      by : (x : Option Element) → slice_get d.elements k ≡ x → option_and_then (λ (y : Element). cond (is_type y.kind)
          (Some (element_in d k)) None) x ≡ Some b → StandsIn files b
      by None there e = cc
      by (Some y) there e = chosen (is_type y.kind) (short d.elements k y there) e

  led_stands : (p : BasePath) (o : Option RootElement) (b : ElementNo) → least_root files p.namespace ≡ o
      → option_and_then (type_under p.name) o ≡ Some b → StandsIn files b
  led_stands p None b is e = cc
  led_stands p (Some r) b is e =
      let at = root_at files p.namespace r is in
      typed_stands r.model at.0 at.1 at.2 at.3 (least_owned r.model.members r.element p.name) b e

  path_stands : (o : Option BasePath) (b : ElementNo) → option_and_then (led_to files) o ≡ Some b → StandsIn files b
  path_stands None b e = cc
  path_stands (Some p) b e = led_stands p (least_root files p.namespace) b refl e

  -- the base of a kind
  pub kind_stands : (k : Kind) (b : ElementNo) → base_of_kind files k ≡ Some b → StandsIn files b
  kind_stands k b e = path_stands (base_path k) b e

  enumeration_stands : (d : Data) (a : ElementNo) (x : Element) → model_of files a.file.0 ≡ Some d
      → (o : Option ℕ) (b : ElementNo)
      → option_and_then (λ k. cond (is_feature x.kind && is_enumeration (get_or d.elements k root_element).kind) (Some
      (record { file = a.file; index = k })) None) o ≡ Some b
      → StandsIn files b
  enumeration_stands d a x of None b e = cc
  enumeration_stands d a x of (Some k) b e = by (is_feature x.kind && is_enumeration
      (get_or d.elements k root_element).kind) refl e
    where
      within : (es : List Element) (n : ℕ) → is_enumeration (get_or es n root_element).kind ≡ true → n < length es
      within [] n h = cc
      within (y ∷ es) zero h = omega arith
      within (y ∷ es) (suc n) h = let lt = within es n h in omega arith

      by : (t : Bool) → (is_feature x.kind && is_enumeration (get_or d.elements k root_element).kind) ≡ t
          → cond t (Some (record { file = a.file; index = k })) None ≡ Some b → StandsIn files b
      by true is e =
          let lt = within d.elements k (both_true (is_feature x.kind) (is_enumeration
          (get_or d.elements k root_element).kind) is).1 in
          subst (StandsIn files) (some_same (record { file = a.file; index = k }) b e) (d, of, lt)
      by false is e = cc

  -- the base of an element that stands
  pub base_stands : (d : Data) (a : ElementNo) (x : Element) (b : ElementNo) → model_of files a.file.0 ≡ Some d
      → base (library_of files) d a x ≡ Some b → StandsIn files b
  base_stands d a x b of e = by (enumeration d a x) refl e
    where
      by : (o : Option ElementNo) → enumeration d a x ≡ o → first_of o (base_of_kind files x.kind) ≡ Some b
          → StandsIn files b
      by None is e = kind_stands x.kind b e
      by (Some c) is e = enumeration_stands d a x of x.owner b (is ∙ e)

-- an element of the same file
abbrev beside : ElementNo → ℕ → ElementNo
beside a k = record { file = a.file; index = k }

-- the enumeration that owns an element, where the owner is one of these
owner_in : (d : Data) (a : ElementNo) (x : Element) (k n : ℕ) (es : List Element) → d.file ≡ a.file
    → option_and_then (λ (o : Element). cond (is_feature x.kind && is_enumeration o.kind) (Some (element_in d k)) None)
    (slice_get es n)
    ≡ cond (is_feature x.kind && is_enumeration (get_or es n root_element).kind) (Some (beside a k)) None
owner_in d a x k n [] is = none (is_feature x.kind)
  where
    none : (t : Bool) → None ≡ cond (t && is_enumeration root_element.kind) (Some (beside a k)) None
    none true = refl
    none false = refl
owner_in d a x k zero (y ∷ es) is =
    λ i. cond (is_feature x.kind && is_enumeration y.kind) (Some (beside (record { file = is i; index = k }) k)) None
owner_in d a x k (suc n) (y ∷ es) is = owner_in d a x k n es is

-- the two ways to say what the enumeration of an element is
same_enumeration : (d : Data) (a : ElementNo) (x : Element) → d.file ≡ a.file → enumeration_of d x ≡ enumeration d a x
same_enumeration d a x is = by x.owner
  where
    by : (o : Option ℕ) → option_and_then (enumerated_in d x) o
        ≡ option_and_then (λ k. cond (is_feature x.kind && is_enumeration (get_or d.elements k root_element).kind)
        (Some (beside a k)) None) o
    by None = refl
    by (Some k) = owner_in d a x k k d.elements is

-- and of its base
pub same_base : (files : List StoredFile) (d : Data) (a : ElementNo) (x : Element) → model_of files a.file.0 ≡ Some d
    → d.file ≡ a.file → slice_get d.elements a.index ≡ Some x
    → base_of files a ≡ base (library_of files) d a x
same_base files d a x of is at =
    (λ i. option_and_then (λ (m : Data). option_and_then (base_of_element files m) (slice_get m.elements a.index))
    (of i))
    ∙ ((λ i. option_and_then (base_of_element files d) (at i)) ∙ ap (λ o. first_of o (base_of_kind files x.kind))
    (same_enumeration d a x is))
