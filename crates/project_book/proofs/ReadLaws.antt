-- A text that is read may be kept, and is the content of its file.
use Rattle.std.proofs.Common.{◌≡◌, ◌∙◌, ◌↔◌, ℕ, zero, suc, Bool, true, false, cond, List, [], ◌∷◌, refl, sym, ap, subst}
use Rattle.std.specs.Prelude.{◌≢◌, Option, Some, None, IfSome, slice_get}
use Rattle.std.proofs.lemmas.List.Elements.{All-nil}
use Rattle.linker_base.proofs.Cases.{some_same}
use Rattle.element_store.specs.declared.numbers.FileNo.{FileNo}
use Rattle.element_store.specs.declared.outcome.Language.{Language}
use Rattle.element_store.specs.declared.outcome.Language.TheVariants.{Kerml, Sysml}
use Rattle.element_store.specs.declared.records.Element.{Element}
use Rattle.element_store.specs.FileNames.{ends_sysml}
use Rattle.element_store.specs.Model.{Data, root_element, bare_model}
use Rattle.token_core.specs.Reading.{IsSpellable}
use Rattle.text_model.specs.declared.fault.FileFault.{FileFault}
use Rattle.text_model.specs.declared.fault.FileFault.TheVariants as fault
use Rattle.text_model.specs.Profile.{InProfile, IsFaultOf}
use Rattle.book_model.specs.Readings.{language_of}
use Rattle.book_model.specs.Files.{IsContentOf}
use Rattle.written_names.specs.Spellable.{AreNamesSpellable}
use Rattle.project_files.specs.declared.files.Kept.{Kept}
use Rattle.project_files.specs.Kept.{ArePlacesWithin, MayKeep, content_of}
use Rattle.text_names.proofs.NameLaws.{names_spellable}
use Rattle.text_names.proofs.PlaceLaws.{places_within, fault_within}
use Rattle.project_book.specs.Named.{text_in_content, IsReadAs, known}

-- a file with nothing in it has no names
bare_spellable : (file : FileNo) (language : Language) → AreNamesSpellable (bare_model file language)
bare_spellable file language = record { names = names; paths = λ r x at. absurd (cc) } where
  names : (e : ℕ) (x : Element) → slice_get (root_element ∷ []) e ≡ Some x → IfSome x.name IsSpellable × IfSome x.short IsSpellable
  names zero x at = subst (λ (y : Element). IfSome y.name IsSpellable × IfSome y.short IsSpellable) (some_same root_element x at) (tt, tt)
  names (suc e) x at = absurd (cc)

-- and no places
bare_within : (file : FileNo) (language : Language) (text : List ℕ) → ArePlacesWithin text (bare_model file language)
bare_within file language text = record { members = All-nil _; references = All-nil _ }

-- what a text is read as may be kept with it
pub read_kept : (file : FileNo) (name text : List ℕ) (o : Option FileFault) (d : Data) → IsReadAs file (language_of name) text o d
    → MayKeep file name (record { text = text; fault = o }) d
read_kept file name text None d is = record {
  own = ap (λ (m : Data). m.file) is.model;
  fault = tt;
  spellable = names_spellable file (language_of name) text d is;
  places = places_within file (language_of name) text d is;
  within = tt;
}
read_kept file name text (Some o) d (other, is, bare) = record {
  own = ap (λ (m : Data). m.file) bare;
  fault = bare;
  spellable = subst AreNamesSpellable (sym bare) (bare_spellable file (language_of name));
  places = subst (ArePlacesWithin text) (sym bare) (bare_within file (language_of name) text);
  within = fault_within (language_of name) text o is;
}

-- and is the content of its file
pub read_content : (file : FileNo) (language : Language) (text : List ℕ) (o : Option FileFault) (d : Data) → IsReadAs file language text o d
    → IsContentOf file language (text_in_content (content_of (Some d) (Some (record { text = text; fault = o }))))
    (content_of (Some d) (Some (record { text = text; fault = o })))
read_content file language text None d is = (refl, is)
read_content file language text (Some o) d is = (refl, (is.0, is.1))

-- a fault that is known isn't want of memory
pub known_is : (o p : FileFault) → known o ≡ Some p → (p ≡ o) × (p ≢ fault.NoMemory)
known_is fault.NoMemory p is = absurd (cc)
known_is (fault.Encoding place) p is = let same : fault.Encoding place ≡ p = some_same _ p is in (sym same, λ e. cc)
known_is (fault.Token place) p is = let same : fault.Token place ≡ p = some_same _ p is in (sym same, λ e. cc)
known_is (fault.TooDeep place) p is = let same : fault.TooDeep place ≡ p = some_same _ p is in (sym same, λ e. cc)
known_is (fault.Syntax place) p is = let same : fault.Syntax place ≡ p = some_same _ p is in (sym same, λ e. cc)
known_is (fault.Limit place) p is = let same : fault.Limit place ≡ p = some_same _ p is in (sym same, λ e. cc)

-- the language of a name, by the test of its ending
pub language_is : (l : Language) (name : List ℕ) → (l ≡ Sysml) ↔ (ends_sysml name ≡ true) → l ≡ language_of name
language_is l name h = by l (ends_sysml name) h where
  by : (l : Language) (b : Bool) → (l ≡ Sysml) ↔ (b ≡ true) → l ≡ cond b Sysml Kerml
  by Sysml true h = refl
  by Kerml false h = refl
  by Sysml false h = let bad : false ≡ true = h.0 refl in absurd (cc)
  by Kerml true h = let bad : Kerml ≡ Sysml = h.1 refl in absurd (cc)
