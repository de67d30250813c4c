-- What callers know of kept and settled links, and of the roots over a new file.
use Rattle.std.proofs.Common.{◌≡◌, ℕ, ◌<◌, Bool, true, false, List, [], ◌∷◌, ◌++◌, length, refl, sym, ◌∙◌, ap, subst, inl, inr, arith}
use Rattle.std.specs.Prelude.{slice_get, not, None, Some, ◌⊎◌}
use Rattle.demand_core.specs.Least.{HoldsLeast}
use Rattle.element_store.specs.declared.numbers.FileNo.{FileNo}
use Rattle.element_store.specs.declared.models.StoredFile.{StoredFile}
use Rattle.element_store.specs.Stored.{AreFiles, with_model}
use Rattle.link_model.specs.declared.keys.LinkKey.{LinkKey}
use Rattle.link_model.specs.Edits.{HasCome}
use Rattle.link_model.specs.Keys.{same_key, key_is_exact}
use Rattle.link_model.specs.Linking.{link_meaning}
use Rattle.link_model.specs.Outside.{project_roots, library_roots}
use Rattle.link_model.specs.Readers.{is_nil}
use Rattle.link_model.proofs.ArrivalLaws.{roots_more}
use Rattle.link_model.proofs.LinkLaws.{link_lawful}
use Rattle.kept_links.specs.Kept.{Kept, IsRight, AreKept, AreSettled}
use Rattle.kept_links.proofs.ArrivedLaws.{last_model, named_once}
use Rattle.kept_links.proofs.RightLaws.{right_holds}

pub no_files : AreFiles []
no_files = record { few = omega arith; names = tt; models = λ f x d at has. cc }

pub nil_is : {A : Type 0} (xs : List A) → is_nil xs ≡ true → xs ≡ []
nil_is [] e = refl
nil_is (x ∷ xs) e = cc

-- kept links of which none is pending are settled
pub kept_settled : (files : List StoredFile) (l : Kept) → AreKept files l → is_nil l.pending ≡ true → AreSettled files l
kept_settled files l kept none = record { right = kept.right; none = nil_is l.pending none }

-- settled links are kept, and are the least linking
pub settled_kept : (files : List StoredFile) (l : Kept) → AreFiles files → AreSettled files l → AreKept files l
settled_kept files l are settled = record { are = are; right = settled.right }

pub settled_none : (files : List StoredFile) (l : Kept) → AreSettled files l → is_nil l.pending ≡ true
settled_none files l settled = ap (λ (ks : List LinkKey). is_nil ks) settled.none

pub settled_least : (files : List StoredFile) (l : Kept) → AreFiles files → AreSettled files l → HoldsLeast same_key (link_meaning files) l.engine
settled_least files l are settled = right_holds same_key key_is_exact (link_meaning files) (link_lawful files are) l.engine
    (subst (λ (ks : List LinkKey). IsRight same_key (link_meaning files) ks l.engine) settled.none settled.right)

-- the roots before a text came are those of the files without it
pub roots_before : (before now : List StoredFile) (file : FileNo) → AreFiles now → HasCome before now file
    → ((x : List ℕ) → project_roots (with_model now file.0 None) x ≡ project_roots before x)
    × ((x : List ℕ) → library_roots (with_model now file.0 None) x ≡ library_roots before x)
roots_before before now file are come = by come.0 come.2 come.3
  where
    by : (s : StoredFile) → s.library ≡ false → (before ≡ with_model now file.0 None) ⊎ ((now ≡ before ++ s ∷ []) × (file.0 ≡ length before))
        → ((x : List ℕ) → project_roots (with_model now file.0 None) x ≡ project_roots before x)
        × ((x : List ℕ) → library_roots (with_model now file.0 None) x ≡ library_roots before x)
    by s own (inl e) = ((λ x. ap (λ (fs : List StoredFile). project_roots fs x) (sym e)), (λ x. ap (λ (fs : List StoredFile). library_roots fs x) (sym e)))
    by s own (inr e) =
        let bare : with_model now file.0 None ≡ before ++ record s { model = None } ∷ [] =
        (λ i. with_model (e.0 i) (e.1 i) None) ∙ last_model before s None in
        let fresh = named_once before s (subst AreFiles e.0 are).names in (
          (λ x. ap (λ (fs : List StoredFile). project_roots fs x) bare
              ∙ roots_more before (record s { model = None }) fresh refl own x (λ u. not u.file.library)),
          (λ x. ap (λ (fs : List StoredFile). library_roots fs x) bare
              ∙ roots_more before (record s { model = None }) fresh refl own x (λ u. u.file.library)),
        )
