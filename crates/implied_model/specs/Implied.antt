-- Implied specialisations of a project (KerML 8.4.2): a type specialises the base of its kind, or an enumerated value
-- the enumeration that owns it, where no chain of its own specialisations leads there.
use Rattle.std.specs.Prelude.{◌≡◌, ℕ, cond, get_or, not, List, [], length, map, slice_get, Some}
use Rattle.std.specs.List.{flat_map}
use Rattle.element_store.specs.declared.numbers.ElementNo.{ElementNo}
use Rattle.element_store.specs.declared.numbers.FileNo.{FileNo}
use Rattle.element_store.specs.declared.numbers.MemberNo.{MemberNo}
use Rattle.element_store.specs.declared.models.StoredFile.{StoredFile}
use Rattle.element_store.specs.Kinds.{is_type}
use Rattle.element_store.specs.Model.{Data, root_element}
use Rattle.element_store.specs.Numbers.{numbers_from, places_from, those_where}
use Rattle.element_store.specs.Stored.{HasRank}
use Rattle.link_model.specs.Imports.{owns}
use Rattle.link_model.specs.Outside.{in_rank, library_of, model_in, numbered_from}
use Rattle.link_model.specs.Readers.{LinkWorld}
use Rattle.link_model.specs.Settled.{implied}

-- a type, the member that owns it, and the base that it specialises by implication
pub record Implication : Type 0 where
  pub of : ElementNo
  pub member : MemberNo
  pub base : ElementNo

-- the number of the member that owns an element
abbrev pub owner_of : Data → ℕ → ℕ
owner_of d e = get_or (numbers_from 0 (λ m. owns e m.target) d.members) 0 0

-- the element with that number specialises this base
abbrev pub implication : FileNo → Data → ℕ → ElementNo → Implication
implication f d i base = record {
  of = record { file = f; index = i };
  member = record { file = f; index = owner_of d i };
  base = base;
}

-- the implication of the element with that number, if it is a type that has one
abbrev pub implied_at : List StoredFile → LinkWorld → FileNo → Data → ℕ → List Implication
implied_at files w f d i = cond (is_type (get_or d.elements i root_element).kind)
    (map (implication f d i) (implied (library_of files) (record { file = f; index = i }) w)) []

-- those of a file, in the order of its elements
abbrev pub implied_in : List StoredFile → LinkWorld → FileNo → List Implication
implied_in files w f =
    let d = model_in (slice_get files f.0) in flat_map (implied_at files w f d) (places_from 0 d.elements)

-- the project files, in byte order of their names
abbrev pub project_order : List StoredFile → List FileNo
project_order files = map (λ s. s.number) (those_where (λ s. not s.file.library) (in_rank (numbered_from 0 files)))

-- THE IMPLIED SPECIALISATIONS of the project files, one file after the other
abbrev pub implications : List StoredFile → LinkWorld → List Implication
implications files w = flat_map (implied_in files w) (project_order files)

-- as many files as the project has, each before which so many others stand as before it in the list
pub record AreInRank (files : List StoredFile) (order : List FileNo) : Type 0 where
  pub all : length order ≡ length (those_where (λ s. not s.library) files)
  pub ranked : (r : ℕ) (f : FileNo) → slice_get order r ≡ Some f → HasRank files r f.0
