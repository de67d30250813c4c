-- What callers need: the names of roots over files whose models change, and over one file more.
use Rattle.std.proofs.Common.{◌≡◌, ℕ, zero, suc, List, [], ◌∷◌, ◌++◌, map, not, false, refl, sym, ◌∙◌, ap, subst}
use Rattle.std.specs.Prelude.{Some, None, Option, slice_get}
use Rattle.linker_base.specs.Members.{IsMember}
use Rattle.element_store.specs.declared.models.StoredFile.{StoredFile}
use Rattle.element_store.specs.Model.{Data}
use Rattle.element_store.specs.Stored.{with_model}
use Rattle.link_model.proofs.ArrivalLaws.{roots_more}
use Rattle.root_names.specs.Roots.{Tables, AreRootsOf}

-- a model that is replaced twice
pub with_model_twice : (files : List StoredFile) (f : ℕ) (m n : Option Data) → with_model (with_model files f m) f n ≡ with_model files f n
with_model_twice [] f m n = refl
with_model_twice (s ∷ files) zero m n = refl
with_model_twice (s ∷ files) (suc f) m n = ap (λ fs. s ∷ fs) (with_model_twice files f m n)

-- after `take_out` and a model that is given: what `put_in` asks for
pub ready : (files : List StoredFile) (f : ℕ) (m : Option Data) (t : Tables) → AreRootsOf (with_model files f None) t
    → AreRootsOf (with_model (with_model files f m) f None) t
ready files f m t roots = subst (λ fs. AreRootsOf fs t) (sym (with_model_twice files f m None)) roots

-- a file that has no model is as one whose model was taken away
pub without_model : (files : List StoredFile) (f : ℕ) (s : StoredFile) → slice_get files f ≡ Some s → s.model ≡ None → with_model files f None ≡ files
without_model [] f s at none = refl
without_model (t ∷ files) zero s at none =
    let same : t ≡ s = cc in
    λ i. record t { model = sym (ap (λ (u : StoredFile). u.model) same ∙ none) i } ∷ files
without_model (t ∷ files) (suc f) s at none = ap (λ fs. t ∷ fs) (without_model files f s at none)

-- a new project file, which has no model yet
pub arrived : (files : List StoredFile) (s : StoredFile) → (IsMember (map (λ y. y.name) files) s.name → ⊥) → s.model ≡ None → s.library ≡ false → (t : Tables)
    → AreRootsOf files t → AreRootsOf (files ++ s ∷ []) t
arrived files s fresh empty own t roots = record {
  project = λ x. roots.project x ∙ sym (roots_more files s fresh empty own x (λ u. not u.file.library));
  library = λ x. roots.library x ∙ sym (roots_more files s fresh empty own x (λ u. u.file.library));
}
